-- What a change of one copy makes of all.
use Rattle.std.proofs.Common.{◌≡◌, ◌∙◌, ap, sym, ℕ, zero, suc, ◌+◌, ◌-◌, ◌*◌, ◌/◌, ◌%◌, ◌<◌, ◌≤◌, Bool, true, false, cond, List, [], ◌∷◌, length, length-set, map, get_or, set, drop, take, refl, arith}
use Rattle.std.specs.Prelude.{Option, Some, None, is_some, flat_map, replicate, slice_range}
use Rattle.std.proofs.lemmas.List.{append-nil, drop_all, get_or-map, get_or-set_same, length-map, length-replicate, length-take, map-set, set-get_or, take_all}
use Rattle.std.proofs.lemmas.List.Edits.{sets, sets-eq}
use Rattle.std.proofs.lemmas.List.Elements.{All-replicate, All-set}
use Rattle.std.proofs.lemmas.List.Sums.{sum_by-set}
use Rattle.byteorder.specs.Endian.{little_bytes}
use Rattle.byteorder.specs.Numbers.{length-bytes_low_first}
use Rattle.sb_memory.specs.Words.{put_bytes, put_word, zeros}
use Rattle.sb_partial.specs.CopiedFrame.{CopiedFrame, IsWhole, bytes_restored, no_flags}
use Rattle.sb_partial.specs.CopiedFrames.{AreFrames, CopiedFrames, IsWholeWhereThere, bytes_of, frames_in, given_of, no_frames, read_of, true_count, with_frame, written_of}
use Rattle.sb_partial.proofs.Blocks.{blocks_of_one, same_blocks, sets_block}
use Rattle.sb_partial.proofs.OneFrame.{IsAt, IsPart, count_no_flags, given_range_at, is_bytes, is_given, is_read, is_there_at, is_written, part_sizes, place_split, word_split}

-- ---- the lists of all frames

-- frames with these lists
frames_by : (frames : List (Option CopiedFrame)) (copies : CopiedFrames) → flat_map given_of frames ≡ copies.given
    → flat_map bytes_of frames ≡ copies.bytes → map is_some frames ≡ copies.present → flat_map read_of frames ≡ copies.read
    → flat_map written_of frames ≡ copies.written → frames_in frames ≡ copies
unfolding frames_in
frames_by frames copies given bytes present read written = rw (given, bytes, present, read, written) refl

-- a list of which the changed frame has what it had
part_stays : {A : Type 0} {block : Option CopiedFrame → List A} {part : CopiedFrames → List A} {size index : ℕ}
    {frames : List (Option CopiedFrame)} {copies : CopiedFrames} {slot : Option CopiedFrame} (changed : CopiedFrame)
    → IsPart block part size → IsAt frames copies index slot → block (Some changed) ≡ block slot
    → flat_map block (set frames index (Some changed)) ≡ part copies
part_stays {block = block} {part = part} {index = index} {frames = frames} changed is at same =
    same_blocks block frames index None (Some changed) (same ∙ sym (ap block at.here))
    ∙ is.joined frames ∙ ap part at.view

-- a list of which the changed frame has other elements from a place on
part_changes : {A : Type 0} {block : Option CopiedFrame → List A} {part : CopiedFrames → List A} {size index : ℕ}
    {frames : List (Option CopiedFrame)} {copies : CopiedFrames} {slot : Option CopiedFrame} (changed : CopiedFrame) (place : ℕ)
    (new : List A) → IsPart block part size → IsAt frames copies index slot → place + length new ≤ size
    → block (Some changed) ≡ sets (block slot) place new
    → flat_map block (set frames index (Some changed)) ≡ sets (part copies) (size * index + place) new
part_changes {block = block} {part = part} {size = size} {index = index} {frames = frames} changed place new is at fits same =
    sym (sets_block block size frames index place new None (Some changed) (part_sizes frames is at.whole) at.within fits
    (same ∙ ap (λ one. sets (block one) place new) (sym at.here)))
    ∙ ap (λ list. sets list (size * index + place) new) (is.joined frames ∙ ap part at.view)

-- the frames that are there, with this one
present_with : {frames : List (Option CopiedFrame)} {copies : CopiedFrames} {index : ℕ} {slot : Option CopiedFrame}
    (changed : CopiedFrame) → IsAt frames copies index slot
    → map is_some (set frames index (Some changed)) ≡ set copies.present index true
unfolding frames_in
present_with {frames} {index = index} changed at =
    map-set is_some frames index (Some changed) ∙ ap (λ (all : CopiedFrames). set all.present index true) at.view

-- they stay where this one was there
present_stays : {frames : List (Option CopiedFrame)} {copies : CopiedFrames} {index : ℕ} {copy : CopiedFrame}
    (changed : CopiedFrame) → IsAt frames copies index (Some copy)
    → map is_some (set frames index (Some changed)) ≡ copies.present
present_stays {copies = copies} {index = index} changed at =
    present_with changed at ∙ ap (set copies.present index) (sym (is_there_at at)) ∙ set-get_or copies.present index false

-- ---- one copy for another

-- frames stay frames
pub frames_changed : {frames : List (Option CopiedFrame)} {copies : CopiedFrames} {index count : ℕ} {copy changed : CopiedFrame}
    → AreFrames frames count → IsAt frames copies index (Some copy) → IsWhole changed
    → AreFrames (set frames index (Some changed)) count
unfolding frames_in
frames_changed {frames} {index = index} {changed = changed} are at whole =
    let size = length-set frames index (Some changed) in
    let few = are.few in
    record {
      few = rw size few;
      whole = All-set IsWholeWhereThere frames index (Some changed) whole are.whole;
      counted = are.counted ∙ ap true_count (ap (λ (all : CopiedFrames). all.present) at.view ∙ sym (present_stays changed at));
    }

-- bytes are put into one copy
bytes_put : {frames : List (Option CopiedFrame)} {copies : CopiedFrames} {index : ℕ} {copy : CopiedFrame} (changed : CopiedFrame)
    (place : ℕ) (new : List ℕ) → IsAt frames copies index (Some copy) → place + length new ≤ 4096
    → changed ≡ record copy { bytes = sets copy.bytes place new }
    → frames_in (set frames index (Some changed)) ≡ record copies { bytes = sets copies.bytes (4096 * index + place) new }
bytes_put {frames} {copies} {index} changed place new at fits is =
    frames_by (set frames index (Some changed)) (record copies { bytes = sets copies.bytes (4096 * index + place) new })
    (part_stays changed is_given at (ap (λ (one : CopiedFrame). one.given) is))
    (part_changes changed place new is_bytes at fits (ap (λ (one : CopiedFrame). one.bytes) is))
    (present_stays changed at)
    (part_stays changed is_read at (ap (λ (one : CopiedFrame). one.read) is))
    (part_stays changed is_written at (ap (λ (one : CopiedFrame). one.written) is))

-- a byte
pub byte_put : {frames : List (Option CopiedFrame)} {copies : CopiedFrames} {copy : CopiedFrame} (changed : CopiedFrame)
    (place byte : ℕ) → IsAt frames copies (place / 4096) (Some copy)
    → changed ≡ record copy { bytes = set copy.bytes (place % 4096) byte }
    → frames_in (set frames (place / 4096) (Some changed)) ≡ record copies { bytes = set copies.bytes place byte }
byte_put {copies = copies} changed place byte at is =
    bytes_put changed (place % 4096) (byte ∷ []) at (omega arith) is
    ∙ ap (λ (n : ℕ). record copies { bytes = set copies.bytes n byte }) (sym (place_split place))

-- where a word begins
word_start : (word : ℕ) → 4096 * (word / 512) + 8 * (word % 512) ≡ 8 * word
word_start word = omega arith

-- bytes at a word
bytes_at_word : {frames : List (Option CopiedFrame)} {copies : CopiedFrames} {copy : CopiedFrame} (changed : CopiedFrame)
    (word : ℕ) (new : List ℕ) → IsAt frames copies (word / 512) (Some copy) → length new ≤ 8
    → changed ≡ record copy { bytes = sets copy.bytes (8 * (word % 512)) new }
    → frames_in (set frames (word / 512) (Some changed)) ≡ record copies { bytes = sets copies.bytes (8 * word) new }
bytes_at_word {copies = copies} changed word new at fits is =
    bytes_put changed (8 * (word % 512)) new at (omega arith) is
    ∙ ap (λ (n : ℕ). record copies { bytes = sets copies.bytes n new }) (word_start word)

-- a word
pub word_put : {frames : List (Option CopiedFrame)} {copies : CopiedFrames} {copy : CopiedFrame} (changed : CopiedFrame)
    (word value : ℕ) → IsAt frames copies (word / 512) (Some copy)
    → changed ≡ record copy { bytes = put_word copy.bytes (8 * (word % 512)) value }
    → frames_in (set frames (word / 512) (Some changed)) ≡ record copies { bytes = put_word copies.bytes (8 * word) value }
unfolding put_word
word_put changed word value at is =
    let size = length-bytes_low_first 0 8 value in
    bytes_at_word changed word (little_bytes 8 value) at (omega (arith, size)) is

-- a word with the bytes that were given
pub word_restored : {frames : List (Option CopiedFrame)} {copies : CopiedFrames} {copy : CopiedFrame} (changed : CopiedFrame)
    (word : ℕ) → IsAt frames copies (word / 512) (Some copy)
    → changed ≡ record copy { bytes = bytes_restored copy.given copy.bytes (8 * (word % 512)) }
    → frames_in (set frames (word / 512) (Some changed))
    ≡ record copies { bytes = bytes_restored copies.given copies.bytes (8 * word) }
unfolding put_bytes
word_restored {copies = copies} {copy = copy} changed word at is =
    let range = given_range_at word at in
    let few : length (slice_range copy.given (8 * (word % 512)) (8 * (word % 512) + 8)) ≤ 8 =
    let size = length-take (8 * (word % 512) + 8 - 8 * (word % 512)) (drop (8 * (word % 512)) copy.given) in omega arith in
    rw range (bytes_at_word changed word (slice_range copy.given (8 * (word % 512)) (8 * (word % 512) + 8)) at few is)

-- a word that is noted as read or not
pub read_put : {frames : List (Option CopiedFrame)} {copies : CopiedFrames} {copy : CopiedFrame} (changed : CopiedFrame)
    (word : ℕ) (flag : Bool) → IsAt frames copies (word / 512) (Some copy)
    → changed ≡ record copy { read = set copy.read (word % 512) flag }
    → frames_in (set frames (word / 512) (Some changed)) ≡ record copies { read = set copies.read word flag }
read_put {frames} {copies} changed word flag at is =
    let changes = part_changes changed (word % 512) (flag ∷ []) is_read at (omega arith)
    (ap (λ (one : CopiedFrame). one.read) is) in
    frames_by (set frames (word / 512) (Some changed)) (record copies { read = set copies.read word flag })
    (part_stays changed is_given at (ap (λ (one : CopiedFrame). one.given) is))
    (part_stays changed is_bytes at (ap (λ (one : CopiedFrame). one.bytes) is))
    (present_stays changed at)
    (changes ∙ ap (λ (n : ℕ). set copies.read n flag) (sym (word_split word)))
    (part_stays changed is_written at (ap (λ (one : CopiedFrame). one.written) is))

-- a word that is noted as written or not
pub written_put : {frames : List (Option CopiedFrame)} {copies : CopiedFrames} {copy : CopiedFrame} (changed : CopiedFrame)
    (word : ℕ) (flag : Bool) → IsAt frames copies (word / 512) (Some copy)
    → changed ≡ record copy { written = set copy.written (word % 512) flag }
    → frames_in (set frames (word / 512) (Some changed)) ≡ record copies { written = set copies.written word flag }
written_put {frames} {copies} changed word flag at is =
    let changes = part_changes changed (word % 512) (flag ∷ []) is_written at (omega arith)
    (ap (λ (one : CopiedFrame). one.written) is) in
    frames_by (set frames (word / 512) (Some changed)) (record copies { written = set copies.written word flag })
    (part_stays changed is_given at (ap (λ (one : CopiedFrame). one.given) is))
    (part_stays changed is_bytes at (ap (λ (one : CopiedFrame). one.bytes) is))
    (present_stays changed at)
    (part_stays changed is_read at (ap (λ (one : CopiedFrame). one.read) is))
    (changes ∙ ap (λ (n : ℕ). set copies.written n flag) (sym (word_split word)))

-- ---- copies that are given

-- elements in the place of all
sets_whole : (old new : List ℕ) → length old ≡ length new → sets old 0 new ≡ new
sets_whole old new same =
    let none = drop_all (0 + length new) old (omega arith) in
    sets-eq new old 0 (omega arith) ∙ rw none (append-nil new)

-- a list of which the changed frame has these bytes
page_changes : {block : Option CopiedFrame → List ℕ} {part : CopiedFrames → List ℕ} {index : ℕ}
    {frames : List (Option CopiedFrame)} {copies : CopiedFrames} {slot : Option CopiedFrame} (changed : CopiedFrame)
    (page : List ℕ) → IsPart block part 4096 → IsAt frames copies index slot → length page ≡ 4096 → block (Some changed) ≡ page
    → flat_map block (set frames index (Some changed)) ≡ put_bytes (part copies) (4096 * index) page
unfolding put_bytes
page_changes {block} {part} {index} {frames} {copies} {slot} changed page is at size same =
    let start : 4096 * index + 0 ≡ 4096 * index = omega arith in
    let had : length (block slot) ≡ 4096 = ap (λ one. length (block one)) (sym at.here)
    ∙ is.sized (get_or frames index None) (at.whole index None at.within) in
    part_changes changed 0 page is at (omega arith) (same ∙ sym (sets_whole (block slot) page (omega arith)))
    ∙ ap (λ (n : ℕ). sets (part copies) n page) start

-- a frame with the bytes of a page
pub page_put : {frames : List (Option CopiedFrame)} {copies : CopiedFrames} {index : ℕ} {slot : Option CopiedFrame}
    (changed : CopiedFrame) (page : List ℕ) → IsAt frames copies index slot → length page ≡ 4096
    → changed ≡ record { given = page; bytes = page; read = read_of slot; written = written_of slot }
    → frames_in (set frames index (Some changed)) ≡ with_frame copies index page
page_put {frames} {copies} {index} changed page at size is =
    frames_by (set frames index (Some changed)) (with_frame copies index page)
    (page_changes changed page is_given at size (ap (λ (one : CopiedFrame). one.given) is))
    (page_changes changed page is_bytes at size (ap (λ (one : CopiedFrame). one.bytes) is))
    (present_with changed at)
    (part_stays changed is_read at (ap (λ (one : CopiedFrame). one.read) is))
    (part_stays changed is_written at (ap (λ (one : CopiedFrame). one.written) is))

-- with the first copy of a frame there is one more
pub frames_added : {frames : List (Option CopiedFrame)} {copies : CopiedFrames} {index count : ℕ} {changed : CopiedFrame}
    → AreFrames frames count → IsAt frames copies index None → IsWhole changed
    → AreFrames (set frames index (Some changed)) (count + 1)
frames_added {frames} {index = index} {changed = changed} are at whole =
    let size = length-set frames index (Some changed) in
    let few = are.few in
    let present = map-set is_some frames index (Some changed) in
    let missing = get_or-map is_some frames index None false at.within ∙ ap is_some at.here in
    let size_all = length-map frames is_some in
    let inside = at.within in
    let more = sum_by-set (λ flag. cond flag 1 0) (map is_some frames) index true false (omega arith) in
    let counted = are.counted in
    record {
      few = rw size few;
      whole = All-set IsWholeWhereThere frames index (Some changed) whole are.whole;
      counted = rw present (let now = rw missing at more in omega arith);
    }

-- what a read of the list gave is put back into it
pub frames_back : {frames : List (Option CopiedFrame)} {count : ℕ} (index : ℕ) {got : Option CopiedFrame} → AreFrames frames count
    → got ≡ get_or frames index got → AreFrames (set frames index got) count
frames_back {frames} index {got} are read =
    let same : set frames index got ≡ frames = ap (set frames index) read ∙ set-get_or frames index got in
    rw same are

-- and a frame that was missing is so still
pub missing_in : (frames : List (Option CopiedFrame)) (index : ℕ) (got : Option CopiedFrame) → index < length frames → got ≡ None
    → get_or (frames_in (set frames index got)).present index false ≡ false
unfolding frames_in
missing_in frames index got within is =
    let size = length-map frames is_some in
    ap (λ flags. get_or flags index false) (map-set is_some frames index got)
    ∙ get_or-set_same (map is_some frames) index (is_some got) false (omega arith) ∙ ap is_some is

-- ---- no copies

map_none : (count : ℕ) → map (is_some {T = CopiedFrame}) (replicate count None) ≡ replicate count false
map_none zero = refl
map_none (suc count) = ap (λ rest. false ∷ rest) (map_none count)

none_true : (count : ℕ) → true_count (replicate count false) ≡ 0
unfolding no_flags
none_true count = count_no_flags count

no_frames_by : (count : ℕ) → frames_in (replicate count None) ≡ no_frames count
unfolding frames_in zeros no_flags
no_frames_by count =
    frames_by (replicate count None) (no_frames count)
    (blocks_of_one given_of 4096 count None 0 refl)
    (blocks_of_one bytes_of 4096 count None 0 refl)
    (map_none count)
    (blocks_of_one read_of 512 count None false refl)
    (blocks_of_one written_of 512 count None false refl)

-- frames of which none is there
pub none_there : {frames : List (Option CopiedFrame)} (count : ℕ) → frames ≡ replicate count None
    → frames_in frames ≡ no_frames count
none_there count is = ap frames_in is ∙ no_frames_by count

-- they are frames
pub frames_none : {frames : List (Option CopiedFrame)} (count : ℕ) → frames ≡ replicate count None → count ≤ 8192
    → AreFrames frames 0
frames_none count is few =
    let none : Option CopiedFrame = None in
    let size = length-replicate count none in
    rw is (record {
      few = rw size few;
      whole = All-replicate IsWholeWhereThere count None tt;
      counted = sym (ap true_count (map_none count) ∙ none_true count);
    })

-- all that the list has are none
pub all_none : (frames : List (Option CopiedFrame)) (index count : ℕ) → take index frames ≡ replicate index None → index ≡ count
    → length frames ≡ count → frames ≡ replicate count None
all_none frames index count is same size =
    sym (take_all index frames (omega arith)) ∙ is ∙ ap (λ (n : ℕ). replicate n None) same
