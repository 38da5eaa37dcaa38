use Rattle.std.specs.Prelude.{◌≡◌, ◌+◌, ◌≤◌, ◌++◌, replicate, vec_len, vec_capacity}
use Rattle.sb_book.proofs.history.put_entries.Given as goal

abbrev pub invariant-loop : goal.invariant-loop
invariant-loop l = record {
  items : l.journal.items ≡ l.initial.journal.items ++ replicate l.counter l.core;
  len : vec_len l.journal ≡ vec_len l.initial.journal + l.counter;
  capacity : vec_capacity l.initial.journal ≤ vec_capacity l.journal;
}
