use Rattle.std.proofs.Common.{◌≡◌, drop}
use Rattle.sb_forms.specs.Registers.{first_free}
use Rattle.sb_forms.proofs.helper.first_free.Given as goal

-- what is left of the helpers has the same first free one
abbrev pub invariant-loop-helper : goal.invariant-loop-helper
invariant-loop-helper l =
    first_free l.form l.insn l.taken (drop l.helper-index l.helpers) ≡ first_free l.form l.insn l.taken l.helpers
