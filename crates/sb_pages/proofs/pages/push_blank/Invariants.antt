use Rattle.std.proofs.Common.{◌≡◌, ◌+◌, length}
use Rattle.sb_pages.specs.Places.{AreBlank}
use Rattle.sb_pages.proofs.pages.push_blank.Given as goal

abbrev pub invariant-loop : goal.invariant-loop
invariant-loop l = record {
  blank : AreBlank l.blank.items;
  count : length l.blank.items ≡ length l.initial.blank.items + l.counter;
}
