-- Bytes of a word, and words, that are put one after another.
use Rattle.std.proofs.Common.{◌≡◌, ℕ, suc, ◌+◌, ◌*◌, ◌<◌, List, length, drop, get_or, set, refl, arith}
use Rattle.std.proofs.lemmas.List.{drop_more}
use Rattle.std.proofs.lemmas.List.Edits.{sets}
use Rattle.sb_memory.specs.Words.{put_word}
use Rattle.sb_pages.specs.PageWords.{put_words}

-- one more byte
pub sets_more : (bytes word : List ℕ) (place index : ℕ) → index < length word
    → sets (set bytes (place + index) (get_or word index 0)) (place + (index + 1)) (drop (index + 1) word)
    ≡ sets bytes (place + index) (drop index word)
sets_more bytes word place index within =
    let next : place + (index + 1) ≡ suc (place + index) = omega arith in
    rw (next, drop_more word index 0 within) refl

-- one more word
pub words_more : (bytes words : List ℕ) (place index : ℕ) → index < length words
    → put_words (put_word bytes (place + 8 * index) (get_or words index 0)) (place + 8 * (index + 1)) (drop (index + 1) words)
    ≡ put_words bytes (place + 8 * index) (drop index words)
words_more bytes words place index within =
    let next : place + 8 * (index + 1) ≡ place + 8 * index + 8 = omega arith in
    rw (next, drop_more words index 0 within) refl
