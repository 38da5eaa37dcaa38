-- What is read of one frame of many.
use Rattle.std.proofs.Common.{◌≡◌, ◌∙◌, ap, sym, subst, inl, inr, ℕ, zero, suc, ◌+◌, ◌*◌, ◌/◌, ◌%◌, ◌<◌, ◌≤◌, Bool, true, false, cond, List, [], ◌∷◌, length, map, get_or, refl, arith}
use Rattle.std.specs.Prelude.{All, Option, Some, None, is_some, flat_map, replicate, slice_range}
use Rattle.std.proofs.lemmas.Bool.{cases_lt}
use Rattle.std.proofs.lemmas.List.{ext_get_or, get_or-map, get_or_past, get_or_read, length-map, length-replicate}
use Rattle.std.proofs.lemmas.List.Edits.{get_or-between, length-between}
use Rattle.std.proofs.lemmas.List.Elements.{All-weaker}
use Rattle.std.proofs.lemmas.List.Sums.{count_by-le-length}
use Rattle.byteorder.specs.Endian.{little_from}
use Rattle.sb_memory.specs.Words.{word_at, zeros}
use Rattle.sb_memory.proofs.Words.{length_zeros, zero_in_zeros}
use Rattle.sb_partial.specs.CopiedFrame.{CopiedFrame, no_flags}
use Rattle.sb_partial.specs.CopiedFrames.{AreFrames, CopiedFrames, IsSound, IsWholeWhereThere, bytes_of, frames_in, given_of, read_of, true_count, written_of}
use Rattle.sb_partial.proofs.Blocks.{HaveSize, get_or_block, length_blocks, true_in_blocks}

-- ---- flags of which none is set

pub length_no_flags : (words : ℕ) → length (no_flags words) ≡ words
unfolding no_flags
length_no_flags words = length-replicate words false

pub flag_in_no_flags : (words word : ℕ) → get_or (no_flags words) word false ≡ false
unfolding no_flags
flag_in_no_flags zero word = refl
flag_in_no_flags (suc words) zero = refl
flag_in_no_flags (suc words) (suc word) = flag_in_no_flags words word

pub count_no_flags : (words : ℕ) → true_count (no_flags words) ≡ 0
unfolding no_flags
count_no_flags zero = refl
count_no_flags (suc words) = count_no_flags words

-- ---- a frame among all

-- these are the copies of frames, and this is the copy of one of them, or none
pub record IsAt (frames : List (Option CopiedFrame)) (copies : CopiedFrames) (index : ℕ) (slot : Option CopiedFrame)
    : Type 0 where
  pub view : frames_in frames ≡ copies
  pub whole : All IsWholeWhereThere frames
  pub within : index < length frames
  pub here : get_or frames index None ≡ slot

-- there are as many frames as copies
pub length_present : (frames : List (Option CopiedFrame)) (copies : CopiedFrames) → frames_in frames ≡ copies
    → length copies.present ≡ length frames
unfolding frames_in
length_present frames copies view = ap (λ (all : CopiedFrames). length all.present) (sym view) ∙ length-map frames is_some

-- what is true at an index has one
pub within_true : (flags : List Bool) (index : ℕ) → get_or flags index false ≡ true → index < length flags
within_true [] index is = cc
within_true (flag ∷ flags) zero is = omega arith
within_true (flag ∷ flags) (suc index) is = let rest = within_true flags index is in omega arith

-- an index of a frame
pub within_present : (frames : List (Option CopiedFrame)) (copies : CopiedFrames) (index : ℕ) → frames_in frames ≡ copies
    → index < length copies.present → index < length frames
within_present frames copies index view inside = let size = length_present frames copies view in omega arith

-- an index of a frame that is there
pub within_there : (frames : List (Option CopiedFrame)) (copies : CopiedFrames) (index : ℕ) → frames_in frames ≡ copies
    → get_or copies.present index false ≡ true → index < length frames
within_there frames copies index view there =
    within_present frames copies index view (within_true copies.present index there)

-- the frame of a word
pub within_word : (frames : List (Option CopiedFrame)) (copies : CopiedFrames) (word : ℕ) → frames_in frames ≡ copies
    → word < 512 * length copies.present → word / 512 < length frames
within_word frames copies word view inside = within_present frames copies (word / 512) view (omega arith)

-- whether a frame is there
pub is_there_at : {frames : List (Option CopiedFrame)} {copies : CopiedFrames} {index : ℕ} {slot : Option CopiedFrame}
    → IsAt frames copies index slot → get_or copies.present index false ≡ is_some slot
unfolding frames_in
is_there_at {frames} {copies} {index} {slot} at =
    ap (λ (all : CopiedFrames). get_or all.present index false) (sym at.view)
    ∙ get_or-map is_some frames index None false at.within ∙ ap is_some at.here

-- the copy that a read of the list gave
pub at_copy : {frames : List (Option CopiedFrame)} {copies : CopiedFrames} {count : ℕ} (index : ℕ)
    {slot got : Option CopiedFrame} → AreFrames frames count → frames_in frames ≡ copies → index < length frames
    → got ≡ get_or frames index got → got ≡ slot → IsAt frames copies index slot
at_copy {frames} {copies} index {slot} {got} are view within read is = record {
  view = view;
  whole = are.whole;
  within = within;
  here = sym (get_or_read frames index got within read None) ∙ is;
}

-- the same for a frame that is there
pub at_there : {frames : List (Option CopiedFrame)} {copies : CopiedFrames} {count : ℕ} (index : ℕ)
    {slot got : Option CopiedFrame} → AreFrames frames count → frames_in frames ≡ copies
    → get_or copies.present index false ≡ true → got ≡ get_or frames index got → got ≡ slot → IsAt frames copies index slot
at_there {frames} {copies} index are view present read is =
    at_copy index are view (within_there frames copies index view present) read is

-- a frame that is there is not missing
pub not_missing : {frames : List (Option CopiedFrame)} {copies : CopiedFrames} {index : ℕ} → IsAt frames copies index None
    → get_or copies.present index false ≡ true → ⊥
not_missing at there = let missing = is_there_at at in cc

none_by : (slot : Option CopiedFrame) → is_some slot ≡ false → slot ≡ None
none_by None missing = refl
none_by (Some copy) missing = cc

-- there is no copy of a frame that is not there
pub at_missing : {frames : List (Option CopiedFrame)} {copies : CopiedFrames} {count : ℕ} (index : ℕ) → AreFrames frames count
    → frames_in frames ≡ copies → index < length frames → get_or copies.present index false ≡ false
    → IsAt frames copies index None
at_missing {frames} {copies} index are view within missing =
    let at : IsAt frames copies index (get_or frames index None) =
    record { view = view; whole = are.whole; within = within; here = refl } in
    record {
      view = view;
      whole = are.whole;
      within = within;
      here = none_by (get_or frames index None) (sym (is_there_at at) ∙ missing);
    }

-- ---- the lists of all frames

-- a list of all frames has the lists of each, one behind another, and these have so many elements
pub record IsPart {A : Type 0} (block : Option CopiedFrame → List A) (part : CopiedFrames → List A) (size : ℕ) : Type 0 where
  pub joined : (frames : List (Option CopiedFrame)) → flat_map block frames ≡ part (frames_in frames)
  pub sized : (slot : Option CopiedFrame) → IsWholeWhereThere slot → length (block slot) ≡ size

given_size : (slot : Option CopiedFrame) → IsWholeWhereThere slot → length (given_of slot) ≡ 4096
given_size None whole = length_zeros 4096
given_size (Some copy) whole = whole.given_size

bytes_size : (slot : Option CopiedFrame) → IsWholeWhereThere slot → length (bytes_of slot) ≡ 4096
bytes_size None whole = length_zeros 4096
bytes_size (Some copy) whole = whole.bytes_size

read_size : (slot : Option CopiedFrame) → IsWholeWhereThere slot → length (read_of slot) ≡ 512
read_size None whole = length_no_flags 512
read_size (Some copy) whole = whole.read_size

written_size : (slot : Option CopiedFrame) → IsWholeWhereThere slot → length (written_of slot) ≡ 512
written_size None whole = length_no_flags 512
written_size (Some copy) whole = whole.written_size

pub is_given : IsPart given_of (λ copies. copies.given) 4096
unfolding frames_in
is_given = record { joined = λ frames. refl; sized = given_size }

pub is_bytes : IsPart bytes_of (λ copies. copies.bytes) 4096
unfolding frames_in
is_bytes = record { joined = λ frames. refl; sized = bytes_size }

pub is_read : IsPart read_of (λ copies. copies.read) 512
unfolding frames_in
is_read = record { joined = λ frames. refl; sized = read_size }

pub is_written : IsPart written_of (λ copies. copies.written) 512
unfolding frames_in
is_written = record { joined = λ frames. refl; sized = written_size }

-- the list of each frame has its size
pub part_sizes : {A : Type 0} {block : Option CopiedFrame → List A} {part : CopiedFrames → List A} {size : ℕ}
    (frames : List (Option CopiedFrame)) → IsPart block part size → All IsWholeWhereThere frames → HaveSize block size frames
part_sizes {block = block} {size = size} frames is whole =
    All-weaker IsWholeWhereThere (λ slot. length (block slot) ≡ size) is.sized frames whole

-- so has the list of all
pub length_part : {A : Type 0} {block : Option CopiedFrame → List A} {part : CopiedFrames → List A} {size : ℕ}
    (frames : List (Option CopiedFrame)) → IsPart block part size → All IsWholeWhereThere frames
    → length (part (frames_in frames)) ≡ size * length frames
length_part {block = block} {size = size} frames is whole =
    ap length (sym (is.joined frames)) ∙ length_blocks block size frames (part_sizes frames is whole)

-- an element of a frame
part_at : {A : Type 0} {block : Option CopiedFrame → List A} {part : CopiedFrames → List A} {size index : ℕ}
    {frames : List (Option CopiedFrame)} {copies : CopiedFrames} {slot : Option CopiedFrame} (place : ℕ) (default : A)
    → IsPart block part size → IsAt frames copies index slot → place < size
    → get_or (part copies) (size * index + place) default ≡ get_or (block slot) place default
part_at {block = block} {part = part} {size = size} {index = index} {frames = frames} place default is at within =
    ap (λ (all : CopiedFrames). get_or (part all) (size * index + place) default) (sym at.view)
    ∙ ap (λ all. get_or all (size * index + place) default) (sym (is.joined frames))
    ∙ get_or_block block size frames index place None default (part_sizes frames is at.whole) at.within within
    ∙ ap (λ one. get_or (block one) place default) at.here

-- ---- bytes, words and flags

-- a place from the start of its frame
pub place_split : (place : ℕ) → place ≡ 4096 * (place / 4096) + place % 4096
place_split place = omega arith

-- a word from the first of its frame
pub word_split : (word : ℕ) → word ≡ 512 * (word / 512) + word % 512
word_split word = omega arith

-- a byte
pub byte_at : {block : Option CopiedFrame → List ℕ} {part : CopiedFrames → List ℕ} {frames : List (Option CopiedFrame)}
    {copies : CopiedFrames} {slot : Option CopiedFrame} (place : ℕ) → IsPart block part 4096
    → IsAt frames copies (place / 4096) slot → get_or (part copies) place 0 ≡ get_or (block slot) (place % 4096) 0
byte_at {part = part} {copies = copies} place is at =
    ap (λ (n : ℕ). get_or (part copies) n 0) (place_split place) ∙ part_at (place % 4096) 0 is at (omega arith)

-- the flag of a word
pub flag_at : {block : Option CopiedFrame → List Bool} {part : CopiedFrames → List Bool} {frames : List (Option CopiedFrame)}
    {copies : CopiedFrames} {slot : Option CopiedFrame} (word : ℕ) → IsPart block part 512
    → IsAt frames copies (word / 512) slot → get_or (part copies) word false ≡ get_or (block slot) (word % 512) false
flag_at {part = part} {copies = copies} word is at =
    ap (λ (n : ℕ). get_or (part copies) n false) (word_split word) ∙ part_at (word % 512) false is at (omega arith)

-- numbers of the same bytes
number_of_same_bytes : (left right : List ℕ) (i j count : ℕ)
    → ((k : ℕ) → k < count → get_or left (i + k) 0 ≡ get_or right (j + k) 0)
    → little_from i count left ≡ little_from j count right
number_of_same_bytes left right i j zero same = refl
number_of_same_bytes left right i j (suc count) same =
    let first : i + 0 ≡ i = omega arith in
    let second : j + 0 ≡ j = omega arith in
    let byte : get_or left i 0 ≡ get_or right j 0 = ap (λ (n : ℕ). get_or left n 0) (sym first) ∙ same 0 (omega arith)
    ∙ ap (λ (n : ℕ). get_or right n 0) second in
    let rest = number_of_same_bytes left right (suc i) (suc j) count (λ k below.
    let left_next : suc i + k ≡ i + suc k = omega arith in
    let right_next : suc j + k ≡ j + suc k = omega arith in
    rw (left_next, right_next) (same (suc k) (omega arith))) in
    rw (byte, rest) refl

-- a place in a word from the start of its frame
byte_of_word : (word k : ℕ) → 8 * word + k ≡ 4096 * (word / 512) + (8 * (word % 512) + k)
byte_of_word word k = omega arith

-- a word
pub word_of : {block : Option CopiedFrame → List ℕ} {part : CopiedFrames → List ℕ} {frames : List (Option CopiedFrame)}
    {copies : CopiedFrames} {slot : Option CopiedFrame} (word : ℕ) → IsPart block part 4096
    → IsAt frames copies (word / 512) slot → word_at (part copies) (8 * word) ≡ word_at (block slot) (8 * (word % 512))
unfolding word_at
word_of {block = block} {part = part} {copies = copies} {slot = slot} word is at =
    number_of_same_bytes (part copies) (block slot) (8 * word) (8 * (word % 512)) 8 (λ k below.
    ap (λ (n : ℕ). get_or (part copies) n 0) (byte_of_word word k) ∙ part_at (8 * (word % 512) + k) 0 is at (omega arith))

-- a word of zeros
pub word_in_zeros : (count place : ℕ) → word_at (zeros count) place ≡ 0
unfolding word_at
word_in_zeros count place = number_of_same_bytes (zeros count) [] place place 8 (λ k below. zero_in_zeros count (place + k))

pub word_of_none : (count place : ℕ) → word_at (replicate count 0) place ≡ 0
unfolding zeros
word_of_none count place = word_in_zeros count place

-- the bytes that were given for a word
pub given_range_at : {frames : List (Option CopiedFrame)} {copies : CopiedFrames} {copy : CopiedFrame} (word : ℕ)
    → IsAt frames copies (word / 512) (Some copy)
    → slice_range copies.given (8 * word) (8 * word + 8) ≡ slice_range copy.given (8 * (word % 512)) (8 * (word % 512) + 8)
given_range_at {frames} {copies} {copy} word at =
    let size = length_part frames is_given at.whole in
    let all : length copies.given ≡ 4096 * length frames = ap (λ (all : CopiedFrames). length all.given) (sym at.view) ∙ size in
    let whole = subst IsWholeWhereThere at.here (at.whole (word / 512) None at.within) in
    let one = whole.given_size in
    let inside = at.within in
    let left = length-between copies.given (8 * word) (8 * word + 8) (omega arith) in
    let right = length-between copy.given (8 * (word % 512)) (8 * (word % 512) + 8) (omega arith) in
    ext_get_or 0 (slice_range copies.given (8 * word) (8 * word + 8))
    (slice_range copy.given (8 * (word % 512)) (8 * (word % 512) + 8)) (omega arith) (λ k within.
    get_or-between copies.given (8 * word) (8 * word + 8) k 0 (omega arith)
    ∙ ap (λ (n : ℕ). get_or copies.given n 0) (byte_of_word word k)
    ∙ part_at (8 * (word % 512) + k) 0 is_given at (omega arith)
    ∙ sym (get_or-between copy.given (8 * (word % 512)) (8 * (word % 512) + 8) k 0 (omega arith)))

-- ---- what holds of all frames

-- bytes below 256
small_part : {block : Option CopiedFrame → List ℕ} {part : CopiedFrames → List ℕ} (frames : List (Option CopiedFrame))
    → IsPart block part 4096 → ((slot : Option CopiedFrame) → IsWholeWhereThere slot → (k : ℕ) → get_or (block slot) k 0 < 256)
    → All IsWholeWhereThere frames → (place : ℕ) → get_or (part (frames_in frames)) place 0 < 256
small_part {part = part} frames is small whole place = elim (cases_lt (place / 4096) (length frames)) [
  | inl within ↦
      let at : IsAt frames (frames_in frames) (place / 4096) (get_or frames (place / 4096) None) =
      record { view = refl; whole = whole; within = within; here = refl } in
      let byte = byte_at place is at in
      rw byte (small (get_or frames (place / 4096) None) (whole (place / 4096) None within) (place % 4096))
  | inr beyond ↦
      let all = length_part frames is whole in
      let none = get_or_past (part (frames_in frames)) place 0 (omega arith) in
      rw none (omega arith)
]

given_small : (slot : Option CopiedFrame) → IsWholeWhereThere slot → (k : ℕ) → get_or (given_of slot) k 0 < 256
given_small None whole k = rw (zero_in_zeros 4096 k) (omega arith)
given_small (Some copy) whole k = whole.given_small k

bytes_small : (slot : Option CopiedFrame) → IsWholeWhereThere slot → (k : ℕ) → get_or (bytes_of slot) k 0 < 256
bytes_small None whole k = rw (zero_in_zeros 4096 k) (omega arith)
bytes_small (Some copy) whole k = whole.bytes_small k

few_by : {block : Option CopiedFrame → List Bool} {part : CopiedFrames → List Bool} → IsPart block part 512
    → block None ≡ no_flags 512 → (slot : Option CopiedFrame) → IsWholeWhereThere slot
    → true_count (block slot) ≤ 512 * cond (is_some slot) 1 0
few_by is none None whole = let count = count_no_flags 512 in rw none (omega (arith, count))
few_by {block} is none (Some copy) whole =
    let some = count_by-le-length (λ flag. flag) (block (Some copy)) in
    let size = is.sized (Some copy) whole in
    omega (arith, some, size)

-- words are noted in frames that are there alone
few_flags : {block : Option CopiedFrame → List Bool} {part : CopiedFrames → List Bool} (frames : List (Option CopiedFrame))
    → IsPart block part 512 → block None ≡ no_flags 512 → All IsWholeWhereThere frames
    → true_count (part (frames_in frames)) ≤ 512 * true_count (map is_some frames)
few_flags {block} {part} frames is none whole =
    let few = All-weaker IsWholeWhereThere (λ slot. true_count (block slot) ≤ 512 * cond (is_some slot) 1 0) (few_by is none)
    frames whole in
    rw (← is.joined frames) (true_in_blocks block 512 is_some frames few)

-- what holds of the copies of frames
pub sound_frames : {frames : List (Option CopiedFrame)} {count : ℕ} → AreFrames frames count → IsSound (frames_in frames)
unfolding frames_in
sound_frames {frames} are =
    let count = length-map frames is_some in
    let whole = are.whole in
    record {
      few = rw count are.few;
      given_size = rw count (length_part frames is_given whole);
      bytes_size = rw count (length_part frames is_bytes whole);
      read_size = rw count (length_part frames is_read whole);
      written_size = rw count (length_part frames is_written whole);
      given_small = small_part frames is_given given_small whole;
      bytes_small = small_part frames is_bytes bytes_small whole;
      read_few = few_flags frames is_read refl whole;
      written_few = few_flags frames is_written refl whole;
    }

pub sound_view : {frames : List (Option CopiedFrame)} {copies : CopiedFrames} {count : ℕ} → AreFrames frames count
    → frames_in frames ≡ copies → IsSound copies
sound_view are view = subst IsSound view (sound_frames are)

-- how many frames are there
pub counted_frames : {frames : List (Option CopiedFrame)} {copies : CopiedFrames} {count : ℕ} → AreFrames frames count
    → frames_in frames ≡ copies → count ≡ true_count copies.present
unfolding frames_in
counted_frames are view = are.counted ∙ ap (λ (all : CopiedFrames). true_count all.present) view
