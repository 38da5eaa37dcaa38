use Rattle.std.proofs.Common.{◌≡◌, ℕ, false, drop, get_or}
use Rattle.sb_agree.specs.Noted.{has_word}
use Rattle.sb_partial.specs.CopiedFrames.{IsSound}
use Rattle.sb_partial.specs.Noting.{AreGivenBeside}
use Rattle.sb_partial.proofs.note.take_back.Given as goal

abbrev pub invariant-loop-word : goal.invariant-loop-word
invariant-loop-word l = record {
  same : l.copies ≡ record l.fn.copies { bytes = l.copies.bytes; written = l.copies.written };
  sound : IsSound l.copies;
  beside : AreGivenBeside (drop l.word-index l.words) l.copies.given l.copies.bytes;
  flags : (word : ℕ) → has_word word (drop l.word-index l.words) ≡ false → get_or l.copies.written word false ≡ false;
}
