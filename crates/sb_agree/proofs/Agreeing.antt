-- Two memories that agree at all words which are known: writes keep this.
use Rattle.std.proofs.Common.{◌≡◌, ◌≢◌, ap, sym, subst, ◌∙◌, ℕ, ◌+◌, ◌*◌, ◌%◌, ◌<◌, ◌≤◌, ◌⊎◌, inl, inr, Bool, true, false, ◌||◌, List, length, get_or, set, length-set, get_or-set_other, get_or-set_same, refl, arith}
use Rattle.std.specs.Prelude.{if◌then◌else◌, slice_set, ◌-◌}
use Rattle.std.proofs.lemmas.Bool.{cases_lt, cases_eq}
use Rattle.std.proofs.lemmas.List.{get_or_past}
use Rattle.sb_memory.specs.Physical.{Physical, frame_count, has_frame, frame_of}
use Rattle.sb_memory.specs.Words.{put_word, word_at}
use Rattle.sb_memory.specs.Reading.{byte_written, word_written, with_bytes, word_read, byte_read, missing}
use Rattle.sb_memory.proofs.Words.{byte_beside_word, byte_in_word-same, length_put_word, word_of_same_bytes}
use Rattle.std.specs.Prelude.{Ok, Err}
use Rattle.sb_agree.specs.Noted.{Noted, has_word, word_of, write_noted}
use Rattle.sb_agree.specs.Held.{Agrees, is_known}
use Rattle.sb_agree.proofs.Noting.{write_has, write_other}

-- ---- places

-- a frame that is there is a frame of the memory
pub there_inside : (memory : Physical) (frame : ℕ) → has_frame memory frame ≡ true → frame < frame_count memory
there_inside memory frame e = elim (cases_lt frame (frame_count memory)) [
  | inl below ↦ below
  | inr above ↦ let past : has_frame memory frame ≡ false = get_or_past memory.present frame false above in cc
]

-- a place in a frame that is there lies in the memory
pub place_inside : (memory : Physical) (place : ℕ) → has_frame memory (frame_of place) ≡ true → place < 4096 * frame_count memory
place_inside memory place e = let inside = there_inside memory (frame_of place) e in omega arith

-- ---- a byte is written

-- a change that is made
written_where : (memory : Physical) (bytes : List ℕ) (test : Bool) → test ≡ true
    → (if test then with_bytes memory bytes else memory) ≡ with_bytes memory bytes
written_where memory bytes true e = refl
written_where memory bytes false e = cc

-- a byte in a frame that is there is written
pub byte_put : (memory : Physical) (place byte : ℕ) → has_frame memory (frame_of place) ≡ true
    → byte_written memory place byte ≡ with_bytes memory (slice_set memory.bytes place byte)
byte_put memory place byte e = written_where memory (slice_set memory.bytes place byte) (has_frame memory (frame_of place)) e

-- a word in a frame that is there is written
pub word_put : (memory : Physical) (place word : ℕ) → has_frame memory (frame_of place) ≡ true
    → word_written memory place word ≡ with_bytes memory (put_word memory.bytes place word)
word_put memory place word e = written_where memory (put_word memory.bytes place word) (has_frame memory (frame_of place)) e

-- a word of which a byte or all was written
or_same : (x y z : Bool) → z ≡ y → (x || z) ≡ true → (x || y) ≡ true
or_same x y z e f = rw (sym e) f

-- another word that is known was known before
known_before : (all : List ℕ) (account : Noted) (word other : ℕ) → other ≢ word
    → is_known all (write_noted word account).writes other ≡ true → is_known all account.writes other ≡ true
known_before all account word other apart e = or_same (has_word other all) _ _ (write_other other word account apart) e

-- a word that was not written is another
unwritten_apart : (account : Noted) (word other : ℕ) → has_word other (write_noted word account).writes ≡ false → other ≢ word
unwritten_apart account word other e same =
    let here : has_word other (write_noted word account).writes ≡ true =
    subst (λ (w : ℕ). has_word w (write_noted word account).writes ≡ true) (sym same) (write_has word account) in
    cc

-- and was not written before
unwritten_before : (account : Noted) (word other : ℕ) → has_word other (write_noted word account).writes ≡ false
    → has_word other account.writes ≡ false
unwritten_before account word other e = sym (write_other other word account (unwritten_apart account word other e)) ∙ e

module _ (all : List ℕ) (start : Physical) (account : Noted) (memory changed : Physical)
    (agree : Agrees all start account.writes memory changed) (place : ℕ) (held : has_frame memory (frame_of place) ≡ true) where
  -- after a byte is written into both, the bytes of known words are the same
  byte_at : (byte other : ℕ) → is_known all account.writes (word_of place) ≡ true
      → is_known all (write_noted (word_of place) account).writes (word_of other) ≡ true
      → get_or (set changed.bytes place byte) other 0 ≡ get_or (set memory.bytes place byte) other 0
  byte_at byte other is e = elim (cases_eq other place) [
    | inl here ↦
        let inside = place_inside memory place held in
        let size = agree.size in
        let other_size = agree.other_size in
        let frames = agree.frames in
        let low : place < length memory.bytes = omega arith in
        let high : place < length changed.bytes = omega arith in
        rw here (get_or-set_same changed.bytes place byte 0 high ∙ sym (get_or-set_same memory.bytes place byte 0 low))
    | inr apart ↦
        get_or-set_other changed.bytes place other byte 0 apart
        ∙ agree.same other (elim (cases_eq (word_of other) (word_of place)) [
          | inl one ↦ subst (λ (w : ℕ). is_known all account.writes w ≡ true) (sym one) is
          | inr two ↦ known_before all account (word_of place) (word_of other) two e
        ])
        ∙ sym (get_or-set_other memory.bytes place other byte 0 apart)
  ]

  -- the bytes of words that were not written stay
  byte_stays : (byte other : ℕ) → has_word (word_of other) (write_noted (word_of place) account).writes ≡ false
      → get_or (set changed.bytes place byte) other 0 ≡ get_or start.bytes other 0
  byte_stays byte other e =
      let apart = unwritten_apart account (word_of place) (word_of other) e in
      let not_here : other ≢ place = λ same. apart (ap word_of same) in
      get_or-set_other changed.bytes place other byte 0 not_here
      ∙ agree.stays other (unwritten_before account (word_of place) (word_of other) e)

  -- memories into which a byte of a known word is written agree
  pub byte_kept : (byte : ℕ) → is_known all account.writes (word_of place) ≡ true
      → Agrees all start (write_noted (word_of place) account).writes (byte_written memory place byte)
      (byte_written changed place byte)
  byte_kept byte is =
      rw (byte_put memory place byte held, byte_put changed place byte (agree.there (frame_of place) held)) (record {
        frames = agree.frames;
        size = length-set memory.bytes place byte ∙ agree.size;
        other_size = length-set changed.bytes place byte ∙ agree.other_size;
        there = agree.there;
        same = λ other e. byte_at byte other is e;
        stays = λ other e. byte_stays byte other e;
        present = agree.present;
      })

  -- ---- a word is written

  -- after a word is written into both, the bytes of known words are the same
  word_at_place : place % 8 ≡ 0 → (word other : ℕ)
      → is_known all (write_noted (word_of place) account).writes (word_of other) ≡ true
      → get_or (put_word changed.bytes place word) other 0 ≡ get_or (put_word memory.bytes place word) other 0
  word_at_place even word other e = elim (cases_eq (word_of other) (word_of place)) [
    | inl one ↦
        let inside = place_inside memory place held in
        let size = agree.size in
        let other_size = agree.other_size in
        let frames = agree.frames in
        let low : place ≤ other = omega arith in
        let high : other < place + 8 = omega arith in
        let from : place + (other - place) ≡ other = omega arith in
        let byte = byte_in_word-same changed.bytes memory.bytes place place word (other - place) (omega arith) (omega arith)
        (omega arith) in
        ap (λ p. get_or (put_word changed.bytes place word) p 0) (sym from) ∙ byte
        ∙ ap (λ p. get_or (put_word memory.bytes place word) p 0) from
    | inr two ↦
        let apart : (other < place) ⊎ (place + 8 ≤ other) = elim (cases_lt other place) [
          | inl below ↦ inl below
          | inr above ↦ inr (omega arith)
        ] in
        byte_beside_word changed.bytes place word other apart
        ∙ agree.same other (known_before all account (word_of place) (word_of other) two e)
        ∙ sym (byte_beside_word memory.bytes place word other apart)
  ]

  -- the bytes of words that were not written stay
  word_stays : place % 8 ≡ 0 → (word other : ℕ) → has_word (word_of other) (write_noted (word_of place) account).writes ≡ false
      → get_or (put_word changed.bytes place word) other 0 ≡ get_or start.bytes other 0
  word_stays even word other e =
      let two = unwritten_apart account (word_of place) (word_of other) e in
      let apart : (other < place) ⊎ (place + 8 ≤ other) = elim (cases_lt other place) [
        | inl below ↦ inl below
        | inr above ↦ inr (omega arith)
      ] in
      byte_beside_word changed.bytes place word other apart
      ∙ agree.stays other (unwritten_before account (word_of place) (word_of other) e)

  -- memories into which a word is written agree
  pub word_kept : place % 8 ≡ 0 → (word : ℕ)
      → Agrees all start (write_noted (word_of place) account).writes (word_written memory place word)
      (word_written changed place word)
  word_kept even word =
      rw (word_put memory place word held, word_put changed place word (agree.there (frame_of place) held)) (record {
        frames = agree.frames;
        size = length_put_word memory.bytes place word ∙ agree.size;
        other_size = length_put_word changed.bytes place word ∙ agree.other_size;
        there = agree.there;
        same = λ other e. word_at_place even word other e;
        stays = λ other e. word_stays even word other e;
        present = agree.present;
      })

-- ---- what is known is read alike

module _ (all : List ℕ) (start : Physical) (writes : List ℕ) (memory changed : Physical)
    (agree : Agrees all start writes memory changed) where
  -- an answer that is there, by whether the frame is there
  word_by : (test other : Bool) (one two frame value : ℕ) → (test ≡ true → other ≡ true) → (test ≡ true → two ≡ one)
      → (if test then Ok one else Err (missing frame)) ≡ Ok value → (if other then Ok two else Err (missing frame)) ≡ Ok value
  word_by true true one two frame value there same e = rw (same refl) e
  word_by true false one two frame value there same e = let no_frame : false ≡ true = there refl in cc
  word_by false other one two frame value there same e = cc

  -- a known word that is read is the same in both
  pub word_held : (place : ℕ) → (has_frame memory (frame_of place) ≡ true → is_known all writes (word_of place) ≡ true)
      → place % 8 ≡ 0
      → (word : ℕ) → word_read memory place ≡ Ok word → word_read changed place ≡ Ok word
  word_held place is even word e =
      word_by (has_frame memory (frame_of place)) (has_frame changed (frame_of place)) (word_at memory.bytes place)
      (word_at changed.bytes place) (frame_of place) word
      (agree.there (frame_of place))
      (λ there. word_of_same_bytes changed.bytes memory.bytes place
      (λ k below. agree.same (place + k)
      (let one : word_of (place + k) ≡ word_of place = omega arith in
      subst (λ (w : ℕ). is_known all writes w ≡ true) (sym one) (is there))))
      e

  -- a byte of a known word that is read is the same in both
  pub byte_held : (place : ℕ) → (has_frame memory (frame_of place) ≡ true → is_known all writes (word_of place) ≡ true)
      → (byte : ℕ) → byte_read memory place ≡ Ok byte → byte_read changed place ≡ Ok byte
  byte_held place is byte e =
      word_by (has_frame memory (frame_of place)) (has_frame changed (frame_of place)) (get_or memory.bytes place 0)
      (get_or changed.bytes place 0) (frame_of place) byte
      (agree.there (frame_of place)) (λ there. agree.same place (is there)) e
