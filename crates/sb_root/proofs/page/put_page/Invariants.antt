use Rattle.std.proofs.Common.{[], ◌∷◌}
use Rattle.sb_memory.specs.Physical.{HasSize, HoldsBytes}
use Rattle.sb_memory.specs.Changes.{SameOutside}
use Rattle.sb_root.specs.Tables.{IsPage}
use Rattle.sb_root.proofs.Filling.{first_words, first_bytes}
use Rattle.sb_root.proofs.page.put_page.Given as goal

abbrev pub invariant-loop-index : goal.invariant-loop-index
invariant-loop-index l =
    IsPage l.memory l.frame.0 (first_words l.index l.words) × HasSize l.memory × SameOutside (l.frame.0 ∷ []) l.fn.memory l.memory
    × HoldsBytes l.memory l.frame.0 (first_bytes l.index l.words)
