-- A root kernel stands through every change that leaves its tables and lists alone.
use Rattle.std.proofs.Common.{◌≡◌, ℕ, ◌+◌, ◌/◌, ◌%◌, List, ◌∷◌, sym, subst, arith}
use Rattle.std.specs.Prelude.{Some}
use Rattle.std.specs.List.{Contains}
use Rattle.std.proofs.lemmas.List.Elements.{Contains-get_or}
use Rattle.sb_memory.specs.Physical.{Physical}
use Rattle.sb_memory.specs.Changes.{SameOutside}
use Rattle.sb_root.specs.declared.root_kernel.RootKernel.{RootKernel}
use Rattle.sb_root.specs.declared.view.View.{View}
use Rattle.sb_root.specs.Tables.{HasBase, base_tables, base_entries, base_frames, view_entries, shared_frames}
use Rattle.sb_root.specs.Root.{Use, ListOf, PartOf, IsSet, view_of, list_entry, eptp_of_view, used_frame}
use Rattle.sb_root.specs.Standing.{HasView, Stands, IsTable, IsApart}
use Rattle.sb_root.specs.Answers.{SameAnswers, SameViews}
use Rattle.sb_root.proofs.Frames.{shared_in_base}
use Rattle.sb_root.proofs.Leaves.{exposed_stays}
use Rattle.sb_root.proofs.Stays.{FrameStays, TablesStay, SharedStays, page_stays, stays_outside, tables_stay, whole_stays, walks_stay}
use Rattle.sb_root.proofs.Uses.{used_list, used_part, set_view}

-- the frames of the base
pub record BaseStays (old new : Physical) : Type 0 where
  pub tables : TablesStay old new base_tables
  pub shared : SharedStays old new

pub base_stays : (old new : Physical) → new.present ≡ old.present → BaseStays old new → HasBase old → HasBase new
base_stays old new present stays base = record {
  tables = tables_stay old new base_tables base_entries present stays.tables base.tables;
  shared = λ page from few. exposed_stays old new page present (stays.shared page from few) (base.shared page from few);
}

pub view_stays : (old new : Physical) (view : View) → new.present ≡ old.present → TablesStay old new view.tables
    → HasView old view → HasView new view
view_stays old new view present stay standing = record {
  tables = tables_stay old new view.tables (view_entries view) present stay standing.tables;
  home = standing.home;
  target = standing.target;
}

-- each view that is set is one that is kept
pub set_views : (root : RootKernel) (old new : Physical)
    → ((thread index : ℕ) (view : View) → view_of root thread index ≡ Some view → SameAnswers old new (eptp_of_view view))
    → (thread index : ℕ) → IsSet root thread index → SameAnswers old new (list_entry root thread index)
set_views root old new same thread index set =
    let view = set_view root thread index set in
    subst (SameAnswers old new) (sym view.2) (same thread index view.0 view.1)

module _ (root : RootKernel) (frames : List ℕ) (old new : Physical) (stands : Stands root old) (same : SameOutside frames old new)
    (apart : IsApart root frames) where
  base_frame : (frame : ℕ) → Contains base_frames frame → FrameStays old new frame
  base_frame frame among = stays_outside frames old new frame same (apart.base frame among)

  pub shared_stays : SharedStays old new
  shared_stays page from few =
      let among = shared_in_base (page / 512) (omega arith) (omega arith) in
      (base_frame (32 + page / 512) among).entry (page % 512) (omega arith)

  base_all : BaseStays old new
  base_all = record {
    tables = record {
      root = base_frame 5 (Contains-get_or (5 ∷ 6 ∷ 7 ∷ 32 ∷ shared_frames) 0 0 (omega arith));
      pointers = base_frame 6 (Contains-get_or (5 ∷ 6 ∷ 7 ∷ 32 ∷ shared_frames) 1 0 (omega arith));
      directory = base_frame 7 (Contains-get_or (5 ∷ 6 ∷ 7 ∷ 32 ∷ shared_frames) 2 0 (omega arith));
      first = base_frame 32 (Contains-get_or (5 ∷ 6 ∷ 7 ∷ 32 ∷ shared_frames) 3 0 (omega arith));
    };
    shared = shared_stays;
  }

  table_frame : (purpose : Use) (frame : ℕ) → IsTable purpose → used_frame root purpose ≡ Some frame → FrameStays old new frame
  table_frame purpose frame table used = stays_outside frames old new frame same (apart.tables purpose frame table used)

  view_tables : (thread index : ℕ) (view : View) → view_of root thread index ≡ Some view → TablesStay old new view.tables
  view_tables thread index view is = record {
    root = table_frame (PartOf thread index 0) view.tables.root.0 (omega arith)
        (used_part root thread index 0 view is (omega arith));
    pointers =
        table_frame (PartOf thread index 1) view.tables.pointers.0 (omega arith)
        (used_part root thread index 1 view is (omega arith));
    directory =
        table_frame (PartOf thread index 2) view.tables.directory.0 (omega arith)
        (used_part root thread index 2 view is (omega arith));
    first = table_frame (PartOf thread index 3) view.tables.first.0 (omega arith)
        (used_part root thread index 3 view is (omega arith));
  }

  pub stands_kept : Stands root new
  stands_kept =
      let present = same.present in
      record {
        shape = stands.shape;
        whole = whole_stays old new present same.size stands.whole;
        base = base_stays old new present base_all stands.base;
        lists = λ thread frame is. page_stays old new frame.0 (list_entry root thread)
            (table_frame (ListOf thread) frame.0 tt (used_list root thread frame is)) (stands.lists thread frame is);
        views = λ thread index view is. view_stays old new view present (view_tables thread index view is)
            (stands.views thread index view is);
        listed = stands.listed;
        inside = λ purpose frame used. rw present (stands.inside purpose frame used);
        apart = stands.apart;
      }

  pub views_kept : SameViews root old new
  views_kept = record {
    base = walks_stay old new base_tables base_entries stands.whole stands_kept.whole same.present stands.base.tables
        stands_kept.base.tables shared_stays;
    views = set_views root old new (λ thread index view is.
        walks_stay old new view.tables (view_entries view) stands.whole stands_kept.whole same.present
        (stands.views thread index view is).tables (stands_kept.views thread index view is).tables shared_stays);
  }
