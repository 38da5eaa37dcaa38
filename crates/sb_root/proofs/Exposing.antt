-- The entry of a page in a shared table is set: the page leads to its frame, in the base and in every view alike.
use Rattle.std.proofs.Common.{◌≡◌, ◌≢◌, ℕ, ◌+◌, ◌/◌, ◌%◌, ◌^◌, ◌<◌, ◌≤◌, ◌==◌, ◌⊎◌, inl, inr, Bool, true, false, nat_lt, refl, sym, ap, ◌∙◌, subst, arith}
use Rattle.std.specs.Prelude.{if◌then◌else◌, IsTrue, Some}
use Rattle.std.proofs.lemmas.Bool.{eqb-true, eqb-false, le-ltb}
use Rattle.sb_memory.specs.Physical.{Physical, frame_count}
use Rattle.sb_memory.specs.Reading.{with_bytes}
use Rattle.sb_memory.specs.Words.{word_at, put_word}
use Rattle.sb_memory.proofs.Words.{length_put_word, word_read_back, word_elsewhere}
use Rattle.sb_root.specs.declared.root_kernel.RootKernel.{RootKernel}
use Rattle.sb_root.specs.declared.tables.ViewTables.{ViewTables}
use Rattle.sb_root.specs.declared.view.View.{View}
use Rattle.sb_root.specs.Entry.{eptp_to, is_rights, leaf_to}
use Rattle.sb_root.specs.Tables.{IsExposed, IsRootMemory, HasTables, base_tables, base_entries, rights_in, view_entries, shared_place}
use Rattle.sb_root.specs.Root.{Use, ListOf, PartOf, view_of, list_entry, used_frame}
use Rattle.sb_root.specs.Standing.{HasView, Stands}
use Rattle.sb_root.specs.Answers.{Exposes, ExposesIn}
use Rattle.sb_root.proofs.Walk.{page_entry, tables_walk, walked_by_same}
use Rattle.sb_root.proofs.Leaves.{each_rights, exposed_by, exposed_stays, leaf_rights}
use Rattle.sb_root.proofs.Stays.{FrameStays, page_stays, stays_beside, tables_stay, whole_stays}
use Rattle.sb_root.proofs.Kept.{view_stays}
use Rattle.sb_root.proofs.Reaches.{reaches}
use Rattle.sb_root.proofs.Uses.{used_list, used_part, set_view}

leaf_fits : (frame rights : ℕ) → frame < 8192 → IsTrue (is_rights rights) → leaf_to frame rights < 2 ^ 64
leaf_fits frame rights few possible = elim (each_rights rights possible) [
  | inl none ↦ rw none (omega arith)
  | inr (inl one) ↦ rw one (omega arith)
  | inr (inr (inl three)) ↦ rw three (omega arith)
  | inr (inr (inr four)) ↦ rw four (omega arith)
]

module _ (root : RootKernel) (memory : Physical) (frame rights : ℕ) (stands : Stands root memory) (from : 512 ≤ frame)
    (inside : frame < frame_count memory) (possible : IsTrue (is_rights rights)) where
  abbrev pub exposed : Physical
  exposed = with_bytes memory (put_word memory.bytes (shared_place frame) (leaf_to frame rights))

  few : frame < 8192
  few = let most = stands.whole.most in omega arith

  -- a frame that is none of the shared tables
  frame_stays : (other : ℕ) → (other < 33) ⊎ (512 ≤ other) → FrameStays memory exposed other
  frame_stays other (inl low) = let small = few in
      stays_beside memory (32 + frame / 512) (frame % 512) (leaf_to frame rights) other (omega arith) (omega arith)
  frame_stays other (inr high) = let small = few in
      stays_beside memory (32 + frame / 512) (frame % 512) (leaf_to frame rights) other (omega arith) (omega arith)

  used_stays : (purpose : Use) (used : ℕ) → used_frame root purpose ≡ Some used → FrameStays memory exposed used
  used_stays purpose used is = frame_stays used (inr (stands.inside purpose used is).0)

  word_here : word_at exposed.bytes (shared_place frame) ≡ leaf_to frame rights
  word_here =
      let size = stands.whole.size.bytes in
      let least = stands.whole.least in
      let small = few in
      word_read_back memory.bytes (shared_place frame) (leaf_to frame rights) (omega arith)
      (leaf_fits frame rights small possible)

  word_other : (page : ℕ) → page ≢ frame → word_at exposed.bytes (shared_place page) ≡ word_at memory.bytes (shared_place page)
  word_other page differ =
      word_elsewhere memory.bytes (shared_place frame) (leaf_to frame rights) (shared_place page) (omega arith) (omega arith)
      (λ same. differ (omega arith))

  whole_after : IsRootMemory exposed
  whole_after =
      whole_stays memory exposed refl (length_put_word memory.bytes (shared_place frame) (leaf_to frame rights)) stands.whole

  base_after : HasTables exposed base_tables base_entries
  base_after = tables_stay memory exposed base_tables base_entries refl (record {
    root = frame_stays 5 (inl (omega arith));
    pointers = frame_stays 6 (inl (omega arith));
    directory = frame_stays 7 (inl (omega arith));
    first = frame_stays 32 (inl (omega arith));
  }) stands.base.tables

  shared_by : (page : ℕ) → 512 ≤ page → page < 8192 → (one : Bool) → (page == frame) ≡ one → IsExposed exposed page
  shared_by page above below true e =
      let same = eqb-true page frame e in
      rw same (exposed_by exposed frame rights word_here possible (λ some. inside))
  shared_by page above below false e =
      exposed_stays memory exposed page refl (word_other page (eqb-false page frame e)) (stands.base.shared page above below)

  view_after : (thread index : ℕ) (view : View) → view_of root thread index ≡ Some view → HasView exposed view
  view_after thread index view is = view_stays memory exposed view refl (record {
    root = used_stays (PartOf thread index 0) _ (used_part root thread index 0 view is (omega arith));
    pointers = used_stays (PartOf thread index 1) _ (used_part root thread index 1 view is (omega arith));
    directory = used_stays (PartOf thread index 2) _ (used_part root thread index 2 view is (omega arith));
    first = used_stays (PartOf thread index 3) _ (used_part root thread index 3 view is (omega arith));
  }) (stands.views thread index view is)

  pub stands_exposed : Stands root exposed
  stands_exposed = record {
    shape = stands.shape;
    whole = whole_after;
    base = record { tables = base_after; shared = λ page above below. shared_by page above below (page == frame) refl };
    lists = λ thread list is. page_stays memory exposed list.0 (list_entry root thread)
        (used_stays (ListOf thread) list.0 (used_list root thread list is)) (stands.lists thread list is);
    views = view_after;
    listed = stands.listed;
    inside = stands.inside;
    apart = stands.apart;
  }

  entry_here : (entries : ℕ → ℕ) (page : ℕ) → page ≡ frame → page_entry exposed entries page ≡ leaf_to frame rights
  entry_here entries page is =
      let test : nat_lt frame 512 ≡ false = le-ltb frame 512 from in
      rw (is, test) word_here

  entry_other : (entries : ℕ → ℕ) (page : ℕ) → page ≢ frame → page_entry exposed entries page ≡ page_entry memory entries page
  entry_other entries page differ = ap (λ (word : ℕ). if nat_lt page 512 then entries page else word) (word_other page differ)

  exposes_by : (tables : ViewTables) (entries : ℕ → ℕ) → HasTables memory tables entries → HasTables exposed tables entries
      → ExposesIn memory exposed frame rights (eptp_to tables.root.0)
  exposes_by tables entries before after = record {
    page = λ at access here. let small = few in
        reaches exposed tables entries at access frame rights whole_after after (omega arith) inside possible
        (entry_here entries (at / 4096) here);
    others = λ at access differ.
        tables_walk exposed whole_after at access tables entries after
        ∙ walked_by_same (frame_count exposed) (page_entry exposed entries) (page_entry memory entries) at access
        (λ low. entry_other entries (at / 4096) differ)
        ∙ sym (tables_walk memory stands.whole at access tables entries before);
  }

  pub exposes : Exposes root memory exposed frame rights
  exposes = record {
    base = exposes_by base_tables base_entries stands.base.tables base_after;
    views = λ thread index set.
        let view = set_view root thread index set in
        subst (ExposesIn memory exposed frame rights) (sym view.2)
        (exposes_by view.0.tables (view_entries view.0) (stands.views thread index view.0 view.1).tables
        (view_after thread index view.0 view.1).tables);
  }

  -- the rights are read back, and those of other pages stay
  pub rights_here : rights_in exposed frame ≡ rights
  rights_here = ap (λ (entry : ℕ). entry % 8) word_here ∙ leaf_rights frame rights possible

  pub rights_other : (page : ℕ) → page ≢ frame → rights_in exposed page ≡ rights_in memory page
  rights_other page differ = ap (λ (entry : ℕ). entry % 8) (word_other page differ)
