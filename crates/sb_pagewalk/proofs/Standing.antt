-- Sets of tables that stand in a memory: their entries lie apart, and a walk goes through them.
use Rattle.std.proofs.Common.{◌≡◌, ◌≢◌, ℕ, ◌*◌, ◌/◌, ◌%◌, ◌<◌, Ok, refl, ap, ◌∙◌, arith}
use Rattle.std.proofs.lemmas.Bool.{lt-ltb}
use Rattle.sb_memory.specs.Physical.{Physical, HasSize, IsWordPlace, frame_count}
use Rattle.sb_memory.specs.Words.{word_at}
use Rattle.sb_pagewalk.specs.declared.table_set.TableSet.{TableSet}
use Rattle.sb_pagewalk.specs.Direct.{direct_entry}
use Rattle.sb_pagewalk.specs.Windows.{region_of, page_table_of}
use Rattle.sb_pagewalk.specs.TableSet.{place_in, page_place, page_entry, Maps}
use Rattle.sb_pagewalk.specs.Standing.{AreFrames, HasTables}
use Rattle.sb_pagewalk.proofs.Regions.{page_table_small}
use Rattle.sb_pagewalk.proofs.Leads.{Leads, leads_walk}

-- an entry of a set lies in the memory
pub place_inside : (set : TableSet) (memory : Physical) (table index : ℕ) → AreFrames set memory → table < 12 → index < 512
    → place_in set table index < 4096 * frame_count memory
place_inside set memory table index frames number within = let inside = frames.inside table number in omega arith

-- a word may stand at an entry of a set
pub word_place : (set : TableSet) (memory : Physical) (table index place : ℕ) → place ≡ place_in set table index
    → AreFrames set memory → table < 12 → index < 512
    → IsWordPlace memory place
word_place set memory table index place here frames number within =
    let inside = place_inside set memory table index frames number within in
    record { inside = omega arith; aligned = omega arith }

-- entries of two tables of a set do not meet
pub places_apart : (set : TableSet) (memory : Physical) (table other index second : ℕ) → AreFrames set memory → table < 12
    → other < 12 → index < 512 → second < 512 → table ≢ other
    → place_in set table index ≢ place_in set other second
places_apart set memory table other index second frames first_number second_number within second_within differ same =
    frames.different table other first_number second_number differ (omega arith)

-- the entry at a place of the memory is the word that stands there
entry_inside : (memory : Physical) (place : ℕ) → place < 4096 * frame_count memory
    → direct_entry memory place ≡ Ok (word_at memory.bytes place)
unfolding direct_entry
entry_inside memory place inside = let test = lt-ltb place (4096 * frame_count memory) inside in rw test refl

-- an address and the first one of its page have one lowest entry
pub same_page : (set : TableSet) (linear other : ℕ) → linear / 4096 ≡ other / 4096 → page_place set linear ≡ page_place set other
same_page set linear other same =
    let region : region_of linear ≡ region_of other = omega arith in
    rw (region, same) refl

-- what a set that stands in a memory leads to
has_leads : (set : TableSet) (memory : Physical) → HasTables set memory → HasSize memory
    → Leads (direct_entry memory) set (page_entry memory set)
has_leads set memory tables size = record {
  small = λ table number. let inside = tables.frames.inside table number in let few = size.count in omega arith;
  upper = λ table index upper within.
      entry_inside memory (place_in set table index) (place_inside set memory table index tables.frames (omega arith) within)
      ∙ ap Ok (tables.upper table index upper within);
  pages = λ linear window.
      let page : linear / 4096 ≡ 4096 * (linear / 4096) / 4096 = omega arith in
      entry_inside memory (page_place set linear)
      (place_inside set memory (page_table_of (region_of linear)) (linear / 4096 % 512) tables.frames
      (page_table_small (region_of linear)) (omega arith))
      ∙ ap (λ (place : ℕ). Ok (word_at memory.bytes place)) (same_page set linear (4096 * (linear / 4096)) page);
}

-- a set that stands in a memory translates each page by its lowest entry
pub stands_maps : (set : TableSet) (memory : Physical) → HasTables set memory → HasSize memory
    → Maps memory set (page_entry memory set)
stands_maps set memory tables size linear access =
    leads_walk (direct_entry memory) set (page_entry memory set) (has_leads set memory tables size) linear access
