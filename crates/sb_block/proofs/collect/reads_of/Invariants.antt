use Rattle.std.proofs.Common.{◌≡◌, ◌∷◌, take}
use Rattle.sb_machine.specs.Seens.{seen_words}
use Rattle.sb_block.proofs.collect.reads_of.Given as goal

abbrev pub invariant-loop-word : goal.invariant-loop-word
invariant-loop-word l = l.reads.items ≡ l.fn.first ∷ seen_words l.part.given (take l.word-index l.words)
