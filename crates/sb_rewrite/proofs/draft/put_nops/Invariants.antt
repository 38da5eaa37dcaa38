use Rattle.std.proofs.Common.{◌≡◌, ◌++◌, replicate}
use Rattle.sb_rewrite.proofs.draft.put_nops.Given as goal

abbrev pub invariant-loop : goal.invariant-loop
invariant-loop l = l.text.items ≡ l.initial.text.items ++ replicate l.counter 0x90
