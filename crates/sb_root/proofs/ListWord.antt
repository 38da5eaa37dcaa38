-- An entry of a list is set: a root kernel stands in the memory after it, and every walk answers as before.
use Rattle.std.proofs.Common.{◌≡◌, ◌≢◌, ℕ, ◌+◌, ◌/◌, ◌%◌, ◌^◌, ◌<◌, ◌≤◌, ◌==◌, Bool, true, false, refl, sym, ◌∙◌, subst, arith}
use Rattle.std.specs.Prelude.{None, Some}
use Rattle.std.proofs.lemmas.Bool.{eqb-true, eqb-false}
use Rattle.sb_memory.specs.Physical.{Physical, frame_count}
use Rattle.sb_memory.specs.Reading.{with_bytes}
use Rattle.sb_memory.specs.Words.{word_at, put_word}
use Rattle.sb_memory.proofs.Words.{length_put_word, word_read_back, word_elsewhere}
use Rattle.sb_memory.specs.declared.address.Frame.{Frame}
use Rattle.sb_walks.specs.Entry.{entry_in}
use Rattle.sb_root.specs.declared.root_kernel.RootKernel.{RootKernel}
use Rattle.sb_root.specs.declared.view.View.{View}
use Rattle.sb_root.specs.Tables.{IsPage, IsRootMemory, HasBase, base_tables, base_entries, base_eptp, view_entries}
use Rattle.sb_root.specs.Root.{IsShaped, Use, ListOf, PartOf, eptp_list_frame, view_of, list_entry, eptp_of_view, used_frame}
use Rattle.sb_root.specs.Standing.{HasView, Stands}
use Rattle.sb_root.specs.Answers.{SameAnswers}
use Rattle.sb_root.proofs.Stays.{FrameStays, TablesStay, page_stays, stays_beside, whole_stays, walks_stay}
use Rattle.sb_root.proofs.Kept.{BaseStays, base_stays, view_stays}
use Rattle.sb_root.proofs.Uses.{used_list, used_part, some_frame}

-- all of a root kernel stands but for one entry of a list
pub record StandsBut (root : RootKernel) (memory : Physical) (thread index : ℕ) (list : Frame) : Type 0 where
  pub shape : IsShaped root
  pub whole : IsRootMemory memory
  pub base : HasBase memory
  pub list_is : eptp_list_frame root thread ≡ Some list
  pub lists : (other : ℕ) (frame : Frame) → other ≢ thread → eptp_list_frame root other ≡ Some frame
      → IsPage memory frame.0 (list_entry root other)
  pub entries : (other : ℕ) → other < 512 → other ≢ index
      → word_at memory.bytes (entry_in list.0 other) ≡ list_entry root thread other
  pub views : (other second : ℕ) (view : View) → view_of root other second ≡ Some view → HasView memory view
  pub listed : (other second : ℕ) (view : View) → view_of root other second ≡ Some view → eptp_list_frame root other ≢ None
  pub inside : (purpose : Use) (frame : ℕ) → used_frame root purpose ≡ Some frame → (512 ≤ frame) × (frame < frame_count memory)
  pub apart : (first second : Use) (frame : ℕ) → used_frame root first ≡ Some frame → used_frame root second ≡ Some frame
      → first ≡ second

no_list : (thread other second part : ℕ) → PartOf other second part ≡ ListOf thread → ⊥
no_list thread other second part same = cc

one_list : (thread other : ℕ) → ListOf other ≡ ListOf thread → other ≡ thread
one_list thread other same = cc

module _ (root : RootKernel) (memory : Physical) (thread index : ℕ) (list : Frame) (word : ℕ)
    (but : StandsBut root memory thread index list) (few : index < 512) (fits : word < 2 ^ 64)
    (is : word ≡ list_entry root thread index) where
  abbrev changed : Physical
  changed = with_bytes memory (put_word memory.bytes (entry_in list.0 index) word)

  whole_after : IsRootMemory changed
  whole_after = whole_stays memory changed refl (length_put_word memory.bytes (entry_in list.0 index) word) but.whole

  list_used : used_frame root (ListOf thread) ≡ Some list.0
  list_used = used_list root thread list but.list_is

  frame_stays : (frame : ℕ) → frame ≢ list.0 → FrameStays memory changed frame
  frame_stays frame other = stays_beside memory list.0 index word frame few other

  low_stays : (frame : ℕ) → frame < 512 → FrameStays memory changed frame
  low_stays frame low = let above = (but.inside (ListOf thread) list.0 list_used).0 in frame_stays frame (omega arith)

  base_after : BaseStays memory changed
  base_after = record {
    tables = record {
      root = low_stays 5 (omega arith);
      pointers = low_stays 6 (omega arith);
      directory = low_stays 7 (omega arith);
      first = low_stays 32 (omega arith);
    };
    shared = λ page from below. (low_stays (32 + page / 512) (omega arith)).entry (page % 512) (omega arith);
  }

  -- a frame of a view's part is no list
  pub part_differs : (other second part : ℕ) (frame : ℕ) → used_frame root (PartOf other second part) ≡ Some frame
      → frame ≢ list.0
  part_differs other second part frame used same =
      no_list thread other second part (but.apart (PartOf other second part) (ListOf thread) frame used (rw same list_used))

  view_after : (other second : ℕ) (view : View) → view_of root other second ≡ Some view → TablesStay memory changed view.tables
  view_after other second view kept = record {
    root = frame_stays view.tables.root.0 (part_differs other second 0 _ (used_part root other second 0 view kept (omega arith)));
    pointers =
        frame_stays view.tables.pointers.0
        (part_differs other second 1 _ (used_part root other second 1 view kept (omega arith)));
    directory =
        frame_stays view.tables.directory.0
        (part_differs other second 2 _ (used_part root other second 2 view kept (omega arith)));
    first = frame_stays view.tables.first.0
        (part_differs other second 3 _ (used_part root other second 3 view kept (omega arith)));
  }

  entry_by : (other : ℕ) → other < 512 → (one : Bool) → (other == index) ≡ one
      → word_at changed.bytes (entry_in list.0 other) ≡ list_entry root thread other
  entry_by other small true e =
      let same = eqb-true other index e in
      let inside = (but.inside (ListOf thread) list.0 list_used).1 in
      let size = but.whole.size.bytes in
      rw same (word_read_back memory.bytes (entry_in list.0 index) word (omega arith) fits ∙ is)
  entry_by other small false e =
      let differ = eqb-false other index e in
      word_elsewhere memory.bytes (entry_in list.0 index) word (entry_in list.0 other) (omega arith) (omega arith)
      (λ same. differ (omega arith)) ∙ but.entries other small differ

  list_by : (other : ℕ) (frame : Frame) → eptp_list_frame root other ≡ Some frame → (one : Bool) → (other == thread) ≡ one
      → IsPage changed frame.0 (list_entry root other)
  list_by other frame kept true e =
      let same = eqb-true other thread e in
      let there : eptp_list_frame root thread ≡ Some frame = subst (λ (t : ℕ). eptp_list_frame root t ≡ Some frame) same kept in
      let one = some_frame list frame (sym but.list_is ∙ there) in
      rw (same, ← one) (record { entry = λ second small. entry_by second small (second == index) refl })
  list_by other frame kept false e =
      let differ = eqb-false other thread e in
      page_stays memory changed frame.0 (list_entry root other)
      (frame_stays frame.0
      (λ same. differ
      (one_list thread other
      (but.apart (ListOf other) (ListOf thread) frame.0 (used_list root other frame kept) (rw same list_used)))))
      (but.lists other frame differ kept)

  pub stands_after : Stands root changed
  stands_after = record {
    shape = but.shape;
    whole = whole_after;
    base = base_stays memory changed refl base_after but.base;
    lists = λ other frame kept. list_by other frame kept (other == thread) refl;
    views = λ other second view kept. view_stays memory changed view refl (view_after other second view kept)
        (but.views other second view kept);
    listed = but.listed;
    inside = but.inside;
    apart = but.apart;
  }

  pub base_same : SameAnswers memory changed base_eptp
  base_same =
      walks_stay memory changed base_tables base_entries but.whole whole_after refl but.base.tables stands_after.base.tables
      base_after.shared

  pub view_same : (other second : ℕ) (view : View) → view_of root other second ≡ Some view
      → SameAnswers memory changed (eptp_of_view view)
  view_same other second view kept =
      walks_stay memory changed view.tables (view_entries view) but.whole whole_after refl
      (but.views other second view kept).tables (stands_after.views other second view kept).tables base_after.shared

  -- the other pages of views
  pub part_stays : (other second part : ℕ) (frame : ℕ) → used_frame root (PartOf other second part) ≡ Some frame
      → FrameStays memory changed frame
  part_stays other second part frame used = frame_stays frame (part_differs other second part frame used)
