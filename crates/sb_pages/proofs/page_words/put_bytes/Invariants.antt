-- The bytes that are left, put one after another, make up the whole.
use Rattle.std.proofs.Common.{◌≡◌, ◌+◌, length, drop}
use Rattle.std.proofs.lemmas.List.Edits.{sets}
use Rattle.sb_pages.proofs.page_words.put_bytes.Given as goal

abbrev pub invariant-loop-index : goal.invariant-loop-index
invariant-loop-index l = record {
  rest : sets l.bytes (l.place + l.index) (drop l.index l.others) ≡ sets l.initial.bytes l.place l.others;
  size : length l.bytes ≡ 4096;
}
