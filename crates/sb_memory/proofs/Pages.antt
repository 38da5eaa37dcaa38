-- Pages that frames hold, and words that are put into them one after another.
use Rattle.std.proofs.Common.{◌≡◌, ◌≢◌, ℕ, zero, suc, ◌+◌, ◌*◌, ◌%◌, ◌<◌, ◌≤◌, List, [], ◌∷◌, length, take, get_or, sym, ap, ◌∙◌, subst, refl, arith}
use Rattle.std.specs.List.{Contains}
use Rattle.sb_memory.specs.Physical.{Physical, HasSize, HoldsBytes, frame_of, frame_count}
use Rattle.sb_memory.specs.Reading.{with_bytes}
use Rattle.sb_memory.specs.Words.{put_word, put_words, clear_frame, zeros}
use Rattle.sb_memory.specs.Changes.{SameOutside}
use Rattle.sb_memory.proofs.Changes.{beside_word}
use Rattle.sb_memory.proofs.Words.{length_put_word, byte_beside_word, byte_of_cleared, word_held, zero_in_zeros}

-- ---- words one after another

pub length_put_words : (words bytes : List ℕ) (place : ℕ) → length (put_words bytes place words) ≡ length bytes
length_put_words [] bytes place = refl
length_put_words (word ∷ words) bytes place =
    length_put_words words (put_word bytes place word) (place + 8) ∙ length_put_word bytes place word

-- the words before an index, and then the one there
pub put_words_next : (words bytes : List ℕ) (place index : ℕ) → index < length words
    → put_words bytes place (take (suc index) words)
    ≡ put_word (put_words bytes place (take index words)) (place + 8 * index) (get_or words index 0)
put_words_next [] bytes place index within = absurd (omega arith)
put_words_next (word ∷ words) bytes place zero within =
    let here : place ≡ place + 8 * 0 = omega arith in
    ap (λ (at : ℕ). put_word bytes at word) here
put_words_next (word ∷ words) bytes place (suc index) within =
    let there : place + 8 + 8 * index ≡ place + 8 * suc index = omega arith in
    put_words_next words (put_word bytes place word) (place + 8) index (omega arith)
    ∙ ap (λ (at : ℕ). put_word (put_words (put_word bytes place word) (place + 8) (take index words)) at (get_or words index 0))
    there

-- ---- pages in frames

-- a frame that was cleared
pub cleared_holds : (memory : Physical) (frame : ℕ) → HasSize memory → frame < frame_count memory
    → HoldsBytes (with_bytes memory (clear_frame memory.bytes frame)) frame (zeros 4096)
cleared_holds memory frame size inside offset within =
    let whole = size.bytes in
    byte_of_cleared memory.bytes frame (4096 * frame + offset) (omega arith) (omega arith) ∙ sym (zero_in_zeros 4096 offset)

-- a word that is put into the frame and into the page
pub word_holds : (memory : Physical) (page : List ℕ) (frame at word : ℕ) → HasSize memory → frame < frame_count memory
    → at + 8 ≤ 4096 → length page ≡ 4096 → HoldsBytes memory frame page
    → HoldsBytes (with_bytes memory (put_word memory.bytes (4096 * frame + at) word)) frame (put_word page at word)
word_holds memory page frame at word size inside fits length_page holds offset within =
    let whole = size.bytes in
    word_held memory.bytes page (4096 * frame) at word offset fits (omega arith) length_page (holds offset within)

-- changes in other frames
pub holds_outside : (frames : List ℕ) (old new : Physical) (frame : ℕ) (page : List ℕ) → SameOutside frames old new
    → ¬ Contains frames frame → HoldsBytes old frame page → HoldsBytes new frame page
holds_outside frames old new frame page same apart holds offset within =
    let here : frame_of (4096 * frame + offset) ≡ frame = omega arith in
    same.bytes (4096 * frame + offset) (λ among. apart (subst (Contains frames) here among)) ∙ holds offset within

-- a word in another frame
pub holds_beside_word : (memory : Physical) (page : List ℕ) (frame at word : ℕ) → at % 8 ≡ 0 → frame ≢ frame_of at
    → HoldsBytes memory frame page → HoldsBytes (with_bytes memory (put_word memory.bytes at word)) frame page
holds_beside_word memory page frame at word aligned differ holds offset within =
    let here : frame_of (4096 * frame + offset) ≡ frame = omega arith in
    byte_beside_word memory.bytes at word (4096 * frame + offset)
    (beside_word at (4096 * frame + offset) aligned (λ same. differ (sym here ∙ same))) ∙ holds offset within
