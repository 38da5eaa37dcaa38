-- The words that are left, put one after another, make up the whole.
use Rattle.std.proofs.Common.{◌≡◌, ◌+◌, ◌*◌, length, drop}
use Rattle.sb_pages.specs.PageWords.{put_words}
use Rattle.sb_pages.proofs.page_words.put_words.Given as goal

abbrev pub invariant-loop-index : goal.invariant-loop-index
invariant-loop-index l = record {
  rest : put_words l.bytes (l.place + 8 * l.index) (drop l.index l.words) ≡ put_words l.initial.bytes l.place l.words;
  size : length l.bytes ≡ 4096;
}
