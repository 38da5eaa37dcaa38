-- The tables of a set are entered in those above them, one after another.
use Rattle.std.proofs.Common.{◌≡◌, ◌≢◌, ℕ, ◌+◌, ◌*◌, ◌^◌, ◌<◌, ◌≤◌, ◌==◌, Bool, true, false, length, refl, ap, sym, ◌∙◌, subst, arith}
use Rattle.std.specs.Prelude.{if◌then◌else◌}
use Rattle.std.proofs.lemmas.Bool.{eqb-true, eqb-false}
use Rattle.std.proofs.lemmas.Grind.{common_steps}
use Rattle.std.specs.List.{Contains}
use Rattle.sb_memory.specs.Physical.{Physical, HasSize, frame_of}
use Rattle.sb_memory.specs.Reading.{with_bytes}
use Rattle.sb_memory.specs.Words.{word_at, put_word}
use Rattle.sb_memory.specs.Changes.{SameOutside}
use Rattle.sb_memory.proofs.Words.{word_read_back, word_elsewhere}
use Rattle.sb_memory.proofs.Changes.{same_outside_then, same_outside_word, size_kept}
use Rattle.sb_pagewalk.specs.declared.table_set.TableSet.{TableSet}
use Rattle.sb_pagewalk.specs.Windows.{next_table}
use Rattle.sb_pagewalk.specs.TableSet.{set_frames, table_frame, place_in, entry_to}
use Rattle.sb_pagewalk.specs.Standing.{AreFrames, HasTables}
use Rattle.sb_pagewalk.specs.Building.{parent_of, slot_of, among_first, IsCleared, IsLinked}
use Rattle.sb_pagewalk.proofs.Regions.{next_table_small}
use Rattle.sb_pagewalk.proofs.Standing.{place_inside, places_apart}
use Rattle.sb_pagewalk.proofs.Building.{entered, entered_once}
use Rattle.sb_pagewalk.proofs.Clearing.{frames_stay, table_among}

pub parent_upper : (table : ℕ) → parent_of table < 4
unfolding parent_of
parent_upper table = grind (arith, common_steps)

pub slot_within : (table : ℕ) → slot_of table < 512
unfolding slot_of
slot_within table = grind (arith, common_steps)

none_first : (table : ℕ) → among_first 1 table ≡ 0
none_first table = grind (arith, common_steps)

all_first : (table : ℕ) → table < 12 → among_first 12 table ≡ table
all_first table small = grind (arith, common_steps)

last_first : (count : ℕ) → among_first (count + 1) count ≡ count
last_first count = grind (arith, common_steps)

others_first : (count table : ℕ) → table ≢ count → among_first (count + 1) table ≡ among_first count table
others_first count table differ = grind (arith, common_steps)

-- cleared tables, of which none is entered
pub linked_none : (set : TableSet) (memory : Physical) → IsCleared set memory 12 → IsLinked set memory 1
linked_none set memory cleared = record {
  upper = λ table index upper within. let none =
      none_first (next_table table index) in rw none (cleared.zero table index (omega arith) within);
  lowest = λ table index lowest number within. cleared.zero table index number within;
}

-- all tables are entered
pub linked_all : (set : TableSet) (memory : Physical) → AreFrames set memory → IsLinked set memory 12 → HasTables set memory
linked_all set memory frames linked = record {
  frames = frames;
  upper = λ table index upper within.
      linked.upper table index upper within
      ∙ ap (entry_to set) (all_first (next_table table index) (next_table_small table index));
}

module _ (set : TableSet) (memory : Physical) (count : ℕ) (frames : AreFrames set memory) (size : HasSize memory)
    (first : 0 < count) (number : count < 12) where
  abbrev at : ℕ
  at = place_in set (parent_of count) (slot_of count)

  abbrev linked : Physical
  linked = with_bytes memory (put_word memory.bytes at (entry_to set count))

  entry_fits : (none : Bool) → (count == 0) ≡ none → (if none then 0 else 4096 * table_frame set count + 7) < 2 ^ 64
  entry_fits true e = omega arith
  entry_fits false e = let inside = frames.inside count number in let few = size.count in omega arith

  -- the entry is read back
  here : word_at linked.bytes at ≡ entry_to set count
  here =
      let inside = place_inside set memory (parent_of count) (slot_of count) frames
      (let h = parent_upper count in omega arith) (slot_within count) in
      let whole = size.bytes in
      word_read_back memory.bytes at (entry_to set count) (omega arith) (entry_fits (count == 0) refl)

  -- the places of two entries of the upper tables
  elsewhere : (table index : ℕ) → table < 12 → index < 512 → place_in set table index ≢ at
      → word_at linked.bytes (place_in set table index) ≡ word_at memory.bytes (place_in set table index)
  elsewhere table index within small differ =
      word_elsewhere memory.bytes at (entry_to set count) (place_in set table index) (omega arith) (omega arith) differ

  other_place_by : (table index : ℕ) → table < 4 → index < 512 → next_table table index ≢ count → (one : Bool)
      → (table == parent_of count) ≡ one → place_in set table index ≢ at
  other_place_by table index upper within other false e =
      places_apart set memory table (parent_of count) index (slot_of count) frames (omega arith)
      (let h = parent_upper count in omega arith) within (slot_within count) (eqb-false table (parent_of count) e)
  other_place_by table index upper within other true e = λ same.
      let one = eqb-true table (parent_of count) e in
      let frame = ap (table_frame set) one in
      let slot : index ≡ slot_of count = omega arith in
      other (ap (λ (above : ℕ). next_table above index) one ∙ ap (next_table (parent_of count)) slot
      ∙ entered count (omega arith) number)

  -- an entry that leads to another table stands elsewhere
  other_place : (table index : ℕ) → table < 4 → index < 512 → next_table table index ≢ count → place_in set table index ≢ at
  other_place table index upper within other = other_place_by table index upper within other (table == parent_of count) refl

  upper_after : IsLinked set memory count → (table index : ℕ) → table < 4 → index < 512 → (this : Bool)
      → (next_table table index == count) ≡ this
      → word_at linked.bytes (place_in set table index) ≡ entry_to set (among_first (count + 1) (next_table table index))
  upper_after before table index upper within true e =
      let leads = eqb-true (next_table table index) count e in
      let there = entered_once table index upper within (λ none. omega arith) in
      let above : table ≡ parent_of count = sym there.0 ∙ ap parent_of leads in
      let slot : index ≡ slot_of count = sym there.1 ∙ ap slot_of leads in
      let place : place_in set table index ≡ at = ap (λ (k : ℕ). place_in set k index) above
      ∙ ap (place_in set (parent_of count)) slot in
      ap (word_at linked.bytes) place ∙ here ∙ ap (entry_to set) (sym (ap (among_first (count + 1)) leads ∙ last_first count))
  upper_after before table index upper within false e =
      let other = eqb-false (next_table table index) count e in
      let more = others_first count (next_table table index) other in
      rw more (elsewhere table index (omega arith) within (other_place table index upper within other)
      ∙ before.upper table index upper within)

  lowest_after : IsLinked set memory count → (table index : ℕ) → 4 ≤ table → table < 12 → index < 512
      → word_at linked.bytes (place_in set table index) ≡ 0
  lowest_after before table index lowest small within =
      let upper = parent_upper count in
      elsewhere table index small within
      (places_apart set memory table (parent_of count) index (slot_of count) frames small (omega arith)
      within (slot_within count) (omega arith))
      ∙ before.lowest table index lowest small within

-- one more table is entered
pub linked_more : (set : TableSet) (old memory new : Physical) (count place : ℕ) → length set.tables ≡ 11
    → place ≡ place_in set (parent_of count) (slot_of count)
    → new ≡ with_bytes memory (put_word memory.bytes place (entry_to set count)) → HasSize old → AreFrames set old
    → SameOutside (set_frames set) old memory → 0 < count → count < 12
    → IsLinked set memory count → IsLinked set new (count + 1) × SameOutside (set_frames set) old new
linked_more set old memory new count place tables here is size frames same first number before =
    let size_now = size_kept (set_frames set) old memory same size in
    let standing = frames_stay set old memory same frames in
    let written : new ≡ with_bytes memory
    (put_word memory.bytes (place_in set (parent_of count) (slot_of count)) (entry_to set count)) =
    is ∙ ap (λ (at : ℕ). with_bytes memory (put_word memory.bytes at (entry_to set count))) here in
    let linked : IsLinked set (with_bytes memory
    (put_word memory.bytes (place_in set (parent_of count) (slot_of count)) (entry_to set count))) (count + 1) =
    record {
      upper = λ table index upper within.
          upper_after set memory count standing size_now first number before table index upper
          within (next_table table index == count) refl;
      lowest = lowest_after set memory count standing size_now first number before;
    } in
    let within = slot_within count in
    let frame : frame_of (place_in set (parent_of count) (slot_of count)) ≡ table_frame set (parent_of count) = omega arith in
    let beside = same_outside_then (set_frames set) old memory _ same
    (same_outside_word (set_frames set) memory (place_in set (parent_of count) (slot_of count)) (entry_to set count)
    (omega arith) (subst (Contains (set_frames set)) (sym frame)
    (table_among set (parent_of count) tables (let upper = parent_upper count in omega arith)))) in (
      subst (λ (m : Physical). IsLinked set m (count + 1)) (sym written) linked,
      subst (SameOutside (set_frames set) old)
          (sym written) beside,
    )
