use Rattle.std.proofs.Common.{◌≡◌, drop}
use Rattle.sb_machine.specs.Applied.{with_seens}
use Rattle.sb_machine.proofs.apply.put_seens.Given as goal

-- what is left to put, put into what memory is now, gives what it is to be
abbrev pub invariant-loop-seen : goal.invariant-loop-seen
invariant-loop-seen l = with_seens l.memory (drop l.seen-index l.seens) ≡ with_seens l.fn.memory l.seens
