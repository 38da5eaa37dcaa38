-- The tables of a set are cleared, one after another.
use Rattle.std.proofs.Common.{◌≡◌, ◌≢◌, ℕ, ◌+◌, ◌/◌, ◌<◌, length, ap, sym, ◌∙◌, subst, inl, inr, arith}
use Rattle.std.proofs.lemmas.Bool.{cases_lt}
use Rattle.std.specs.List.{Contains}
use Rattle.std.proofs.lemmas.List.{length-map}
use Rattle.std.proofs.lemmas.List.Elements.{Contains-get_or}
use Rattle.sb_memory.specs.declared.address.Frame.{Frame}
use Rattle.sb_memory.specs.Physical.{Physical, HasSize}
use Rattle.sb_memory.specs.Reading.{with_bytes}
use Rattle.sb_memory.specs.Words.{word_at, clear_frame}
use Rattle.sb_memory.specs.Changes.{SameOutside}
use Rattle.sb_memory.proofs.Words.{word_beside_frame, word_of_cleared}
use Rattle.sb_memory.proofs.Changes.{same_outside_then, same_outside_cleared, size_before_clear}
use Rattle.sb_pagewalk.specs.declared.table_set.TableSet.{TableSet}
use Rattle.sb_pagewalk.specs.TableSet.{set_frames, table_frame, place_in}
use Rattle.sb_pagewalk.specs.Standing.{AreFrames}
use Rattle.sb_pagewalk.specs.Building.{IsCleared}

-- the frames of a set stay in a memory of which only bytes change
pub frames_stay : (set : TableSet) (old new : Physical) → SameOutside (set_frames set) old new → AreFrames set old
    → AreFrames set new
frames_stay set old new same frames =
    let present = same.present in
    record { inside = λ table number. rw present (frames.inside table number); different = frames.different }

module _ (set : TableSet) (memory : Physical) (count : ℕ) (frames : AreFrames set memory) (size : HasSize memory)
    (number : count < 12) where
  abbrev cleared : Physical
  cleared = with_bytes memory (clear_frame memory.bytes (table_frame set count))

  zero_after : IsCleared set memory count → (table index : ℕ) → table < count + 1 → index < 512
      → word_at cleared.bytes (place_in set table index) ≡ 0
  zero_after before table index first within = elim (cases_lt table count) [
    | inl lower ↦
        let differ : table_frame set table ≢ table_frame set count =
        frames.different table count (omega arith) number (omega arith) in
        let frame : place_in set table index / 4096 ≡ table_frame set table = omega arith in
        word_beside_frame memory.bytes (table_frame set count) (place_in set table index) (omega arith) (rw frame differ)
        ∙ before.zero table index lower within
    | inr last ↦
        let same : table ≡ count = omega arith in
        let inside = frames.inside count number in
        let whole = size.bytes in
        let frame : place_in set count index / 4096 ≡ table_frame set count = omega arith in
        rw same (word_of_cleared memory.bytes (table_frame set count) (place_in set count index) (omega arith) (omega arith)
        frame)
  ]

-- the frame of a table is among those of the set
pub table_among : (set : TableSet) (table : ℕ) → length set.tables ≡ 11 → table < 12
    → Contains (set_frames set) (table_frame set table)
table_among set table tables within =
    let mapped = length-map set.tables (λ (frame : Frame). frame.0) in
    Contains-get_or (set_frames set) table 0 (omega arith)

-- one more table is cleared
pub cleared_more : (set : TableSet) (old memory new : Physical) (count frame : ℕ) → length set.tables ≡ 11
    → frame ≡ table_frame set count
    → new ≡ with_bytes memory (clear_frame memory.bytes frame) → HasSize new → AreFrames set old
    → SameOutside (set_frames set) old memory → count < 12
    → IsCleared set memory count → IsCleared set new (count + 1) × SameOutside (set_frames set) old new
cleared_more set old memory new count frame tables here is size frames same number before =
    let size_now = size_before_clear memory new frame is size in
    let standing = frames_stay set old memory same frames in
    let written : new ≡ with_bytes memory (clear_frame memory.bytes (table_frame set count)) =
    is ∙ ap (λ (there : ℕ). with_bytes memory (clear_frame memory.bytes there)) here in
    let zero : IsCleared set (with_bytes memory (clear_frame memory.bytes (table_frame set count))) (count + 1) =
    record { zero = zero_after set memory count standing size_now number before } in
    let beside = same_outside_then (set_frames set) old memory _ same
    (same_outside_cleared (set_frames set) memory (table_frame set count) (table_among set count tables number)) in (
      subst (λ (m : Physical). IsCleared set m (count + 1)) (sym written) zero,
      subst (SameOutside (set_frames set) old)
          (sym written) beside,
    )

-- no table is cleared
pub cleared_none : (set : TableSet) (memory : Physical) → IsCleared set memory 0
cleared_none set memory = record { zero = λ table index first within. absurd (omega arith) }
