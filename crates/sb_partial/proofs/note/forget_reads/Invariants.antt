use Rattle.std.proofs.Common.{◌≡◌, ℕ, false, drop, get_or}
use Rattle.sb_agree.specs.Noted.{has_word}
use Rattle.sb_partial.specs.CopiedFrames.{IsSound}
use Rattle.sb_partial.proofs.note.forget_reads.Given as goal

abbrev pub invariant-loop-word : goal.invariant-loop-word
invariant-loop-word l = record {
  same : l.copies ≡ record l.fn.copies { read = l.copies.read };
  sound : IsSound l.copies;
  flags : (word : ℕ) → has_word word (drop l.word-index l.words) ≡ false → get_or l.copies.read word false ≡ false;
}
