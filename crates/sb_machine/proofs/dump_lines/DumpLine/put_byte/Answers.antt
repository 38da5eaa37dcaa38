use Rattle.std.proofs.Common.{◌≡◌, ◌∷◌, [], ◌/◌, ◌%◌, false, arith, append_assoc, rules}
use Rattle.std.specs.Fmt.{digit_glyph}
use Rattle.std.proofs.lemmas.Fmt.{hex_one_digit}
use Rattle.sb_trace.specs.EndText.{hex}
use Rattle.sb_machine.proofs.dump_lines.DumpLine.put_byte.Goals as goal

pub returns-clause-text : goal.returns-clause-text
returns-clause-text c =
    let high : hex (c.args.byte / 16) ≡ digit_glyph false (c.args.byte / 16) ∷ [] =
    hex_one_digit false (c.args.byte / 16) (omega arith) in
    let low : hex (c.args.byte % 16) ≡ digit_glyph false (c.args.byte % 16) ∷ [] =
    hex_one_digit false (c.args.byte % 16) (omega arith) in
    rw (high, low) (search (rules, append_assoc))
