use Rattle.std.proofs.Common.{◌≡◌, ◌++◌, ◌-◌, length, replicate}
use Rattle.sb_state.proofs.start_bytes.page_padded.Given as goal

abbrev pub invariant-loop : goal.invariant-loop
invariant-loop l = l.bytes.items ≡ l.fn.chunk ++ replicate (l.counter - length l.fn.chunk) l.filler
