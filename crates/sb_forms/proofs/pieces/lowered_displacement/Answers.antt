use Rattle.std.proofs.Common.{sym, ap, ◌∙◌}
use Rattle.std.specs.Int.{w32}
use Rattle.std.proofs.Math.Facts.{to_z-of_z}
use Rattle.sb_insn.specs.Spelling.{number}
use Rattle.sb_forms.specs.Holding.{holds_pattern}
use Rattle.sb_forms.proofs.Lowered.{lowered_value}
use Rattle.sb_forms.proofs.pieces.lowered_displacement.Goals as goal

pub returns-then-number_holds_pattern : goal.returns-then-number_holds_pattern
returns-then-number_holds_pattern c =
    let same = ap (λ z. holds_pattern (number w32 z)) (to_z-of_z {w = w32} {z = c.args.value} c.ranges.value) in
    lowered_value c.args.value c.ranges.value (sym same ∙ sym c.number_holds_pattern.ensures ∙ c.if-number_holds_pattern.true)
