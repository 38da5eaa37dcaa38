use Rattle.std.proofs.Common.{◌≡◌, take}
use Rattle.sb_book.proofs.same.are_same_numbers.Given as goal

abbrev pub invariant-loop-index : goal.invariant-loop-index
invariant-loop-index l = take l.index l.one ≡ take l.index l.other
