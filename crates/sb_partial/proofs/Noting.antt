-- Words that are noted, one by one, and all that were noted taken back.
use Rattle.std.proofs.Common.{◌≡◌, ◌≢◌, ◌∙◌, ap, sym, inl, inr, ℕ, ◌+◌, ◌-◌, ◌*◌, ◌/◌, ◌%◌, ◌<◌, ◌≤◌, ◌⊎◌, ◌==◌, ◌||◌, Bool, true, false, cond, List, [], ◌∷◌, ◌++◌, length, drop, get_or, set, refl, arith}
use Rattle.std.specs.Prelude.{if◌then◌else◌, slice_range}
use Rattle.std.proofs.lemmas.Bool.{cases_eq, cases_lt, or_right}
use Rattle.std.proofs.lemmas.Bool.Decides.{nat_tests}
use Rattle.std.proofs.lemmas.List.{drop_all, drop_more, ext_get_or, get_or-set_other, get_or-set_same, length_push}
use Rattle.std.proofs.lemmas.List.Edits.{get_or-between, length-between}
use Rattle.std.proofs.lemmas.List.Elements.{All-nil, All-push}
use Rattle.std.proofs.lemmas.List.Folds.{list_any-append}
use Rattle.std.proofs.lemmas.List.Sums.{sum_by-set}
use Rattle.sb_agree.specs.Noted.{has_word, with_word, word_of}
use Rattle.sb_memory.specs.Words.{put_bytes, put_word}
use Rattle.sb_memory.proofs.Words.{byte_beside_word, get_or-sets_other, get_or-sets_same}
use Rattle.sb_partial.specs.CopiedFrame.{bytes_restored, no_flags}
use Rattle.sb_partial.specs.CopiedFrames.{CopiedFrames, IsSound, true_count, with_frame}
use Rattle.sb_partial.specs.Noting.{AllThere, AreNoted, AreFlags, AreGivenBeside, IsNoting}
use Rattle.sb_partial.proofs.OneFrame.{count_no_flags, flag_in_no_flags, length_no_flags, within_true}

-- ---- words in lists

same_number : (word : ℕ) → (word == word) ≡ true
same_number word = grind (arith, nat_tests)

other_number : (word other : ℕ) → word ≢ other → (other == word) ≡ false
other_number word other apart = grind (arith, nat_tests)

or_left : (x y : Bool) → x ≡ true → (x || y) ≡ true
or_left true y is = refl
or_left false y is = cc

or_nothing : (x y : Bool) → y ≡ false → (x || (y || false)) ≡ x
or_nothing true y is = refl
or_nothing false true is = cc
or_nothing false false is = refl

-- a word at the end of a list
pub word_pushed : (word : ℕ) (words : List ℕ) → has_word word (words ++ word ∷ []) ≡ true
word_pushed word words =
    list_any-append (λ other. other == word) words (word ∷ [])
    ∙ or_right (has_word word words) ((word == word) || false) (or_left (word == word) false (same_number word))

pub other_pushed : (word other : ℕ) (words : List ℕ) → word ≢ other → has_word word (words ++ other ∷ []) ≡ has_word word words
other_pushed word other words apart =
    list_any-append (λ one. one == word) words (other ∷ [])
    ∙ or_nothing (has_word word words) (other == word) (other_number word other apart)

-- a word that is not among the later ones is the first or not among all
word_beside : (word other : ℕ) (words : List ℕ) → word ≢ other → has_word word words ≡ false
    → has_word word (other ∷ words) ≡ false
word_beside word other words apart none = let not_first = other_number word other apart in rw (not_first, none) refl

-- ---- one more word

flag_set : (flags : List Bool) (words : List ℕ) (word other : ℕ) → AreFlags flags words → word < length flags
    → get_or (set flags word true) other false ≡ has_word other (words ++ word ∷ [])
flag_set flags words word other tied within = elim (cases_eq other word) [
  | inl same ↦ rw same (get_or-set_same flags word true false within ∙ sym (word_pushed word words))
  | inr apart ↦
      get_or-set_other flags word other true false apart ∙ tied other ∙ sym (other_pushed other word words apart)
]

-- a word of a frame that is there has a flag
pub has_flag : (present flags : List Bool) (word : ℕ) → length flags ≡ 512 * length present
    → get_or present (word / 512) false ≡ true → word < length flags
has_flag present flags word size there = let inside = within_true present (word / 512) there in omega arith

pub noting_more : {present flags : List Bool} {words : List ℕ} {capacity : ℕ} (word : ℕ) → IsNoting present flags words capacity
    → get_or present (word / 512) false ≡ true → word < length flags → get_or flags word false ≡ false
    → IsNoting present (set flags word true) (words ++ word ∷ []) capacity
noting_more {present} {flags} {words} {capacity} word noting there within unset =
    let more = sum_by-set (λ flag. cond flag 1 0) flags word true false within in
    let had = noting.counted in
    let longer = length_push words word in
    record {
      there = All-push (λ one. get_or present (one / 512) false ≡ true) words word noting.there there;
      tied = λ other. flag_set flags words word other noting.tied within;
      counted = let now = rw unset at more in omega arith;
      room = noting.room;
    }

-- ---- words taken back

-- flags none of which is set
pub flags_cleared : (flags : List Bool) → ((word : ℕ) → get_or flags word false ≡ false) → flags ≡ no_flags (length flags)
flags_cleared flags clear =
    ext_get_or false flags (no_flags (length flags)) (sym (length_no_flags (length flags)))
    (λ word within. clear word ∙ sym (flag_in_no_flags (length flags) word))

-- the flag of one word is cleared
pub flag_cleared : (flags : List Bool) (words : List ℕ) (index : ℕ)
    → ((word : ℕ) → has_word word (drop index words) ≡ false → get_or flags word false ≡ false) → index < length words
    → get_or words index 0 < length flags → (word : ℕ) → has_word word (drop (index + 1) words) ≡ false
    → get_or (set flags (get_or words index 0) false) word false ≡ false
flag_cleared flags words index before within inside word none = elim (cases_eq word (get_or words index 0)) [
  | inl same ↦ rw same (get_or-set_same flags (get_or words index 0) false false inside)
  | inr apart ↦
      let rest = drop_more words index 0 within in
      get_or-set_other flags (get_or words index 0) word false false apart
      ∙ before word (rw rest (word_beside word (get_or words index 0) (drop (index + 1) words) apart none))
]

-- a place of another word
pub place_beside : (place word : ℕ) → word_of place ≢ word → (place < 8 * word) ⊎ (8 * word + 8 ≤ place)
place_beside place word apart = elim (cases_lt place (8 * word)) [
  | inl below ↦ inl below
  | inr above ↦ inr (omega arith)
]

-- a byte of the word whose bytes are put back
restored_within : (given bytes : List ℕ) (word place : ℕ) → length bytes ≡ length given → 8 * word + 8 ≤ length given
    → word_of place ≡ word → get_or (bytes_restored given bytes (8 * word)) place 0 ≡ get_or given place 0
unfolding put_bytes
restored_within given bytes word place sizes inside same =
    let size = length-between given (8 * word) (8 * word + 8) inside in
    let there : place ≡ 8 * word + place % 8 = omega arith in
    rw there (get_or-sets_same (slice_range given (8 * word) (8 * word + 8)) bytes (8 * word) (place % 8) (omega arith)
    (omega arith) ∙ get_or-between given (8 * word) (8 * word + 8) (place % 8) 0 (omega arith))

-- a byte of another word
restored_beside : (given bytes : List ℕ) (word place : ℕ) → 8 * word + 8 ≤ length given → word_of place ≢ word
    → get_or (bytes_restored given bytes (8 * word)) place 0 ≡ get_or bytes place 0
unfolding put_bytes
restored_beside given bytes word place inside apart =
    let size = length-between given (8 * word) (8 * word + 8) inside in
    let eight : 8 * word + 8 - 8 * word ≡ 8 = omega arith in
    get_or-sets_other (slice_range given (8 * word) (8 * word + 8)) bytes (8 * word) place
    (rw (size, eight) (place_beside place word apart))

-- the bytes of one word are put back
pub given_beside_rest : (given bytes words : List ℕ) (index : ℕ) → AreGivenBeside (drop index words) given bytes
    → index < length words → length bytes ≡ length given → 8 * get_or words index 0 + 8 ≤ length given
    → AreGivenBeside (drop (index + 1) words) given (bytes_restored given bytes (8 * get_or words index 0))
given_beside_rest given bytes words index before within sizes inside place none =
    elim (cases_eq (word_of place) (get_or words index 0)) [
      | inl same ↦ restored_within given bytes (get_or words index 0) place sizes inside same
      | inr apart ↦
          let rest = drop_more words index 0 within in
          restored_beside given bytes (get_or words index 0) place inside apart
          ∙ before place (rw rest (word_beside (word_of place) (get_or words index 0) (drop (index + 1) words) apart none))
    ]

-- no word is left
pub none_left : (words : List ℕ) (index word : ℕ) → length words ≤ index → has_word word (drop index words) ≡ false
none_left words index word all = let none = drop_all index words all in rw none refl

-- no word is noted as read any more
pub reads_forgotten : (old now : CopiedFrames) → now ≡ record old { read = now.read } → IsSound old → IsSound now
    → ((word : ℕ) → get_or now.read word false ≡ false) → now ≡ record old { read = no_flags (length old.read) }
reads_forgotten old now same before sound clear =
    let present = ap (λ (all : CopiedFrames). length all.present) same in
    let had = before.read_size in
    let has = sound.read_size in
    let size : length now.read ≡ length old.read = omega arith in
    same ∙ ap (λ flags. record old { read = flags }) (flags_cleared now.read clear ∙ ap no_flags size)

-- the bytes are as they were given, and no word is noted as written any more
pub writes_taken_back : (old now : CopiedFrames) → now ≡ record old { bytes = now.bytes; written = now.written } → IsSound old
    → IsSound now → ((word : ℕ) → get_or now.written word false ≡ false)
    → ((place : ℕ) → get_or now.bytes place 0 ≡ get_or now.given place 0)
    → now ≡ record old { bytes = old.given; written = no_flags (length old.written) }
writes_taken_back old now same before sound clear restored =
    let present = ap (λ (all : CopiedFrames). length all.present) same in
    let had = before.written_size in
    let has = sound.written_size in
    let given_size = sound.given_size in
    let bytes_size = sound.bytes_size in
    let size : length now.written ≡ length old.written = omega arith in
    let bytes = ext_get_or 0 now.bytes now.given (omega arith) (λ place within. restored place)
    ∙ ap (λ (all : CopiedFrames). all.given) same in
    let flags = flags_cleared now.written clear ∙ ap no_flags size in
    same ∙ ap (λ list. record old { bytes = list; written = now.written }) bytes
    ∙ ap (λ list. record old { bytes = old.given; written = list }) flags

-- what stays while a word is taken back
pub stays_beside : (old copies restored now : CopiedFrames) (bytes : List ℕ) (flags : List Bool)
    → copies ≡ record old { bytes = copies.bytes; written = copies.written } → restored ≡ record copies { bytes = bytes }
    → now ≡ record restored { written = flags } → now ≡ record old { bytes = now.bytes; written = now.written }
stays_beside old copies restored now bytes flags same first second =
    let whole : now ≡ record old { bytes = bytes; written = flags } =
    second ∙ ap (λ (all : CopiedFrames). record all { written = flags }) first
    ∙ ap (λ (all : CopiedFrames). record all { bytes = bytes; written = flags }) same in
    whole ∙ ap (λ list. record old { bytes = list; written = flags }) (sym (ap (λ (all : CopiedFrames). all.bytes) whole))
    ∙ ap (λ list. record old { bytes = now.bytes; written = list }) (sym (ap (λ (all : CopiedFrames). all.written) whole))

-- a word of these has its place
pub word_inside : (copies : CopiedFrames) (words : List ℕ) (index : ℕ) → IsSound copies → AllThere copies.present words
    → index < length words → (8 * get_or words index 0 + 8 ≤ length copies.given) × (get_or words index 0 < length copies.written)
word_inside copies words index sound there within =
    let inside = within_true copies.present (get_or words index 0 / 512) (there index 0 within) in
    let bytes = sound.given_size in
    let flags = sound.written_size in
    (omega arith, omega arith)

-- ---- copies that are noted

has_by : (test : Bool) (word : ℕ) (words : List ℕ) → has_word word words ≡ test
    → has_word word (if test then words else words ++ word ∷ []) ≡ true
has_by true word words is = is
has_by false word words is = word_pushed word words

other_by : (test : Bool) (word other : ℕ) (words : List ℕ) → word ≢ other
    → has_word word (if test then words else words ++ other ∷ []) ≡ has_word word words
other_by true word other words apart = refl
other_by false word other words apart = other_pushed word other words apart

-- words with one more
pub with_has : (word : ℕ) (words : List ℕ) → has_word word (with_word word words) ≡ true
with_has word words = has_by (has_word word words) word words refl

pub with_other : (word other : ℕ) (words : List ℕ) → word ≢ other → has_word word (with_word other words) ≡ has_word word words
with_other word other words apart = other_by (has_word other words) word other words apart

-- a word that is not among them is another one
not_this : (word other : ℕ) (words : List ℕ) → has_word word (with_word other words) ≡ false → word ≢ other
not_this word other words none same =
    let has : has_word word (with_word other words) ≡ true = rw same (with_has other words) in
    cc

-- a byte is written in a word that is noted as written
pub byte_beside : (writes given bytes : List ℕ) (place byte : ℕ) → AreGivenBeside writes given bytes
    → AreGivenBeside (with_word (word_of place) writes) given (set bytes place byte)
byte_beside writes given bytes place byte beside other none =
    let apart = not_this (word_of other) (word_of place) writes none in
    get_or-set_other bytes place other byte 0 (λ same. apart (ap word_of same))
    ∙ beside other (sym (with_other (word_of other) (word_of place) writes apart) ∙ none)

-- a word is written that is noted as written
pub word_put_beside : (writes given bytes : List ℕ) (word value : ℕ) → AreGivenBeside writes given bytes
    → AreGivenBeside (with_word word writes) given (put_word bytes (8 * word) value)
word_put_beside writes given bytes word value beside other none =
    let apart = not_this (word_of other) word writes none in
    byte_beside_word bytes (8 * word) value other (place_beside other word apart)
    ∙ beside other (sym (with_other (word_of other) word writes apart) ∙ none)

-- bytes are put into copies that are noted
pub noted_put : (noted after : CopiedFrames) (reads writes bytes : List ℕ) {read_mark write_mark read_room write_room : ℕ}
    → IsNoting noted.present noted.read reads read_room → IsNoting noted.present noted.written writes write_room
    → read_mark ≤ length reads → write_mark ≤ length writes → AreGivenBeside writes noted.given bytes
    → after ≡ record noted { bytes = bytes } → IsSound after
    → AreNoted after reads writes read_mark write_mark read_room write_room
noted_put noted after reads writes bytes read written read_before written_before beside is sound = record {
  sound = sound;
  read = rw is read;
  written = rw is written;
  read_before = read_before;
  written_before = written_before;
  beside = rw is beside;
}

-- no word is noted
pub noting_none : {present flags : List Bool} {words : List ℕ} {capacity : ℕ} (count : ℕ) → IsNoting present flags words capacity
    → IsNoting present (no_flags count) [] capacity
noting_none {present} count noting = record {
  there = All-nil (λ word. get_or present (word / 512) false ≡ true);
  tied = λ word. flag_in_no_flags count word;
  counted = count_no_flags count;
  room = noting.room;
}

-- no word is noted, and one more frame is there
pub noting_given : {present flags : List Bool} {capacity : ℕ} (frame room : ℕ) → IsNoting present flags [] capacity
    → frame < length present → 512 * (true_count present + 1) ≤ room → IsNoting (set present frame true) flags [] room
noting_given {present} {flags} frame room noting within fits =
    let more = sum_by-set (λ flag. cond flag 1 0) present frame true false within in
    record {
      there = All-nil (λ word. get_or (set present frame true) (word / 512) false ≡ true);
      tied = noting.tied;
      counted = noting.counted;
      room = omega (arith, more);
    }

-- a copy is given where no word is noted
pub noted_given : (copies given : CopiedFrames) (reads writes page : List ℕ)
    {read_mark write_mark read_capacity write_capacity read_room write_room : ℕ} (frame : ℕ)
    → AreNoted copies reads writes read_mark write_mark read_capacity write_capacity → reads ≡ [] → writes ≡ []
    → copies.bytes ≡ copies.given → frame < length copies.present → 512 * (true_count copies.present + 1) ≤ read_room
    → 512 * (true_count copies.present + 1) ≤ write_room → given ≡ with_frame copies frame page
    → IsSound given → AreNoted given reads writes read_mark write_mark read_room write_room
noted_given copies given reads writes page {read_room = read_room} {write_room = write_room} frame noted none_read
    none_written same within read_fits write_fits is sound =
    let read = noted.read in
    let written = noted.written in
    record {
      sound = sound;
      read = rw (is, none_read) (noting_given frame read_room (rw none_read at read) within read_fits);
      written = rw (is, none_written) (noting_given frame write_room (rw none_written at written) within write_fits);
      read_before = noted.read_before;
      written_before = noted.written_before;
      beside = rw is (λ other none. ap (λ list. get_or (put_bytes list (4096 * frame) page) other 0) same);
    }
