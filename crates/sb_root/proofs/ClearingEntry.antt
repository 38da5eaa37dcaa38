-- The entry of a view is set to 0.
use Rattle.std.proofs.Common.{◌≡◌, ℕ, ◌<◌, true, [], ◌∷◌, get_or, refl, sym, ap, ◌∙◌, subst, inl, inr, arith}
use Rattle.std.specs.Prelude.{Option, None, Some}
use Rattle.std.proofs.lemmas.Bool.{cases_lt}
use Rattle.std.proofs.Math.ListN.{get_or-eq_default}
use Rattle.std.specs.List.{Contains}
use Rattle.sb_memory.specs.Physical.{Physical, frame_of}
use Rattle.sb_memory.proofs.Changes.{same_outside_word}
use Rattle.sb_memory.specs.Reading.{with_bytes}
use Rattle.sb_memory.specs.Words.{put_word}
use Rattle.sb_memory.specs.declared.address.Frame.{Frame}
use Rattle.sb_walks.specs.Entry.{entry_in}
use Rattle.sb_frames.specs.Book.{Book}
use Rattle.sb_root.specs.declared.root_kernel.RootKernel.{RootKernel}
use Rattle.sb_root.specs.declared.view.View.{View}
use Rattle.sb_root.specs.Tables.{base_frames, view_entries}
use Rattle.sb_root.specs.Root.{IsShaped, Use, ListOf, IsSet, is_listed, eptp_list_frame, view_of, list_entry, entry_of_index, eptp_of_view, with_view, without_listing, used_frame}
use Rattle.sb_root.specs.Standing.{HasView, Stands, IsBooked}
use Rattle.sb_root.specs.Answers.{SameAnswers, SameRights, SameViews}
use Rattle.sb_root.proofs.BaseAnswers.{rights_stay}
use Rattle.sb_root.proofs.Frames.{base_small, only_one}
use Rattle.sb_root.proofs.Kept.{set_views}
use Rattle.sb_root.proofs.ListWord.{StandsBut, stands_after, base_same, view_same as same_view}
use Rattle.sb_root.proofs.LowPages.{alike_page}
use Rattle.sb_root.proofs.Uses.{Place, here, elsewhere, place_of_index, view_same, view_other, shape_with_view, unlisted_uses, used_list, some_view}

none_set : (kept : Option View) → kept ≡ None → is_listed kept ≡ true → ⊥
none_set None is set = cc
none_set (Some view) is set = cc

same_entries : (view : View) (page : ℕ) → view_entries view page ≡ view_entries (without_listing view) page
unfolding view_entries
same_entries view page = refl

-- the tables of a view are those of the view whose entry was cleared
unlisted_stands : (memory : Physical) (view : View) → HasView memory view → HasView memory (without_listing view)
unlisted_stands memory view standing =
    let tables = standing.tables in
    record {
      tables = record {
        root = tables.root;
        pointers = tables.pointers;
        directory = tables.directory;
        first = alike_page memory view.tables.first.0 (view_entries view) (view_entries (without_listing view))
            (same_entries view) tables.first;
        inside = tables.inside;
      };
      home = standing.home;
      target = standing.target;
    }

-- a thread has 16 indices
pub set_few : (root : RootKernel) (thread index : ℕ) → IsShaped root → thread < 32 → IsSet root thread index → index < 16
set_few root thread index shape small set = elim (cases_lt index 16) [
  | inl few ↦ few
  | inr many ↦
      let size = shape.views thread small in
      let none : view_of root thread index ≡ None =
      get_or-eq_default (get_or root.views thread []) None {n = index} (omega arith) in
      absurd (none_set (view_of root thread index) none set)
]

module _ (root : RootKernel) (memory : Physical) (thread index : ℕ) (list : Frame) (view : View)
    (stands : Stands root memory) (small : thread < 32) (few : index < 16) (list_is : eptp_list_frame root thread ≡ Some list)
    (is : view_of root thread index ≡ Some view) where
  abbrev less : RootKernel
  less = with_view root thread index (without_listing view)

  abbrev new : Physical
  new = with_bytes memory (put_word memory.bytes (entry_in list.0 index) 0)

  kept_here : view_of less thread index ≡ Some (without_listing view)
  kept_here = view_same root thread index (without_listing view) stands.shape small few

  elsewhere_same : (other second : ℕ) → (other ≡ thread → second ≡ index → ⊥)
      → view_of less other second ≡ view_of root other second
  elsewhere_same other second differ = view_other root thread index other second (without_listing view) stands.shape small differ

  entry_elsewhere : (other second : ℕ) → (other ≡ thread → second ≡ index → ⊥)
      → list_entry less other second ≡ list_entry root other second
  entry_elsewhere other second differ = ap entry_of_index (elsewhere_same other second differ)

  -- a view that is kept now was kept before, with the same tables
  view_before_by : (other second : ℕ) (kept : View) → view_of less other second ≡ Some kept → Place thread index other second
      → (earlier : View) × (view_of root other second ≡ Some earlier) × (HasView memory earlier → HasView memory kept)
  view_before_by other second kept now (here same again) =
      let one =
      some_view (without_listing view) kept (sym kept_here
      ∙ subst (λ (t : ℕ). view_of less t index ≡ Some kept) same
      (subst (λ (k : ℕ). view_of less other k ≡ Some kept) again now)) in
      (view, rw (same, again) is, λ standing. rw (← one) (unlisted_stands memory view standing))
  view_before_by other second kept now (elsewhere differ) =
      (kept, sym (elsewhere_same other second differ) ∙ now, λ standing. standing)

  view_before : (other second : ℕ) (kept : View) → view_of less other second ≡ Some kept
      → (earlier : View) × (view_of root other second ≡ Some earlier) × (HasView memory earlier → HasView memory kept)
  view_before other second kept now = view_before_by other second kept now (place_of_index thread index other second)

  uses : (purpose : Use) → used_frame less purpose ≡ used_frame root purpose
  uses = unlisted_uses root thread index view stands.shape small few is

  but : StandsBut less memory thread index list
  but = record {
    shape = shape_with_view root thread index (without_listing view) stands.shape small;
    whole = stands.whole;
    base = stands.base;
    list_is = list_is;
    lists = λ other frame differ found. alike_page memory frame.0 (list_entry root other) (list_entry less other)
        (λ second. sym (entry_elsewhere other second (λ same again. differ same))) (stands.lists other frame found);
    entries =
        λ second within differ. (stands.lists thread list list_is).entry second within
        ∙ sym (entry_elsewhere thread second (λ same again. differ again));
    views = λ other second kept now. let earlier = view_before other second kept now in
        earlier.2 (stands.views other second earlier.0 earlier.1);
    listed = λ other second kept now. let earlier = view_before other second kept now in
        stands.listed other second earlier.0 earlier.1;
    inside = λ purpose frame used. stands.inside purpose frame (sym (uses purpose) ∙ used);
    apart = λ first second frame one two. stands.apart first second frame (sym (uses first) ∙ one) (sym (uses second) ∙ two);
  }

  word_is : 0 ≡ list_entry less thread index
  word_is = sym (ap entry_of_index kept_here)

  pub stands_without : Stands less new
  stands_without = stands_after less memory thread index list 0 but (omega arith) (omega arith) word_is

  pub booked_without : (book : Book) → IsBooked root book memory → IsBooked less book new
  booked_without book booked =
      record { size = booked.size; held = λ purpose frame used. booked.held purpose frame (sym (uses purpose) ∙ used) }

  view_after_by : (other second : ℕ) (kept : View) → view_of root other second ≡ Some kept → Place thread index other second
      → SameAnswers memory new (eptp_of_view kept)
  view_after_by other second kept found (here same again) =
      let one =
      some_view view kept (sym is
      ∙ subst (λ (t : ℕ). view_of root t index ≡ Some kept) same
      (subst (λ (k : ℕ). view_of root other k ≡ Some kept) again found)) in
      rw (← one)
      (same_view less memory thread index list 0 but (omega arith) (omega arith) word_is thread index
      (without_listing view) kept_here)
  view_after_by other second kept found (elsewhere differ) =
      same_view less memory thread index list 0 but (omega arith) (omega arith) word_is other second kept
      (elsewhere_same other second differ ∙ found)

  pub views_without : SameViews root memory new
  views_without = record {
    base = base_same less memory thread index list 0 but (omega arith) (omega arith) word_is;
    views = set_views root memory new
        (λ other second kept found. view_after_by other second kept found (place_of_index thread index other second));
  }

  base_apart : (frame : ℕ) → Contains base_frames frame → ¬ Contains (list.0 ∷ []) frame
  base_apart frame base among =
      let low = base_small frame base in
      let here = only_one list.0 frame among in
      let above = (stands.inside (ListOf thread) list.0 (used_list root thread list list_is)).0 in
      omega arith

  pub rights_without : SameRights memory new
  rights_without =
      let there : frame_of (entry_in list.0 index) ≡ list.0 = omega arith in
      rights_stay (list.0 ∷ []) memory new
      (same_outside_word (list.0 ∷ []) memory (entry_in list.0 index) 0 (omega arith) (0, omega arith, sym there)) base_apart
