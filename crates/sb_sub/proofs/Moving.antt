-- What a change of a heap page's mode leaves as it was.
use Rattle.std.proofs.Common.{◌≡◌, ◌∙◌, sym, ap, subst, ℕ, zero, ◌<◌, ◌≤◌, [], ◌∷◌, refl, lit<, arith}
use Rattle.sb_memory.specs.Physical.{Physical, frame_of}
use Rattle.sb_memory.specs.Reading.{with_bytes}
use Rattle.sb_memory.specs.Words.{put_word}
use Rattle.sb_memory.specs.Changes.{SameOutside}
use Rattle.sb_memory.proofs.Changes.{same_outside_word}
use Rattle.sb_pagewalk.specs.declared.table_set.TableSet.{TableSet}
use Rattle.sb_pagewalk.specs.Windows.{IsInWindow, region_of, page_table_of}
use Rattle.sb_pagewalk.specs.TableSet.{table_frame, page_place}
use Rattle.sb_shows.proofs.Protecting.{heap_window}
use Rattle.sb_mapping.specs.StartPages.{heap_at}

pub window_at : (page count : ℕ) → page < count → count ≤ 512 → IsInWindow (heap_at page)
window_at page count below few = heap_window page (omega arith)

heap_table : (page : ℕ) → page < 512 → page_table_of (region_of (heap_at page)) ≡ 7
unfolding page_table_of
heap_table page few = let region : region_of (heap_at page) ≡ 6 = omega arith in rw region refl

-- a word is put into the table of the heap's window
pub table_word : (set : TableSet) (memory new : Physical) (page count entry : ℕ) → page < count → count ≤ 512
    → new ≡ with_bytes memory (put_word memory.bytes (page_place set (heap_at page)) entry)
    → SameOutside (table_frame set 7 ∷ []) memory new
table_word set memory new page count entry below few written =
    let table = heap_table page (omega arith) in
    let place : frame_of (page_place set (heap_at page)) ≡ table_frame set (page_table_of (region_of (heap_at page))) =
    omega arith in
    let here : frame_of (page_place set (heap_at page)) ≡ table_frame set 7 = place ∙ ap (table_frame set) table in
    subst (SameOutside (table_frame set 7 ∷ []) memory) (sym written)
    (same_outside_word _ memory (page_place set (heap_at page)) entry (omega arith) (zero, lit< tt, sym here))
