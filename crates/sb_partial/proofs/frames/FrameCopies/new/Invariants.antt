use Rattle.std.proofs.Common.{◌≡◌, ◌≤◌, None, replicate, vec_len, vec_capacity}
use Rattle.sb_partial.proofs.frames.FrameCopies.new.Given as goal

abbrev pub invariant-loop : goal.invariant-loop
invariant-loop l = record {
  items : l.all.items ≡ replicate l.counter None;
  count : vec_len l.all ≡ l.counter;
  room : l.frames ≤ vec_capacity l.all;
}
