-- A thread gets a list in a frame that was free.
use Rattle.std.proofs.Common.{◌≡◌, ◌≢◌, ℕ, ◌+◌, ◌<◌, ◌≤◌, ◌==◌, inl, inr, Bool, true, false, [], ◌∷◌, refl, sym, ap, ◌∙◌, subst, arith}
use Rattle.std.specs.Prelude.{Option, None, Some}
use Rattle.std.proofs.lemmas.Bool.{eqb-true, eqb-false}
use Rattle.std.proofs.lemmas.Grind.{common_steps}
use Rattle.sb_memory.specs.Physical.{Physical, frame_count}
use Rattle.sb_memory.specs.Reading.{with_bytes}
use Rattle.sb_memory.specs.Words.{clear_frame}
use Rattle.sb_memory.specs.Changes.{SameOutside}
use Rattle.sb_memory.proofs.Changes.{same_outside_cleared}
use Rattle.sb_memory.proofs.Words.{byte_of_cleared}
use Rattle.sb_memory.specs.declared.address.Frame.{Frame}
use Rattle.std.proofs.lemmas.List.Elements.{Contains-get_or}
use Rattle.sb_frames.specs.Book.{Book, IsLowestFree, holder, with_holder, free_count}
use Rattle.sb_frames.specs.declared.kind.Kind.TheVariants.{EptpList}
use Rattle.sb_root.specs.declared.root_kernel.RootKernel.{RootKernel}
use Rattle.sb_root.specs.declared.view.View.{View}
use Rattle.sb_root.specs.Tables.{IsPage}
use Rattle.sb_root.specs.Root.{Use, eptp_list_frame, view_of, list_entry, entry_of_index, with_list, used_frame, kind_for, owner_for}
use Rattle.sb_root.specs.Standing.{Stands, IsBooked, IsApart}
use Rattle.sb_root.specs.Answers.{SameViews}
use Rattle.sb_root.specs.Calls.{IsFree, IsAddedList, IsZeroed}
use Rattle.sb_root.proofs.Frames.{base_small, not_one, only_one}
use Rattle.sb_root.proofs.BaseAnswers.{rights_stay}
use Rattle.sb_root.proofs.Filling.{cleared_page, first_words}
use Rattle.sb_frames.proofs.Taking.{holder_same, holder_other, length_with_holder}
use Rattle.sb_root.proofs.Kept.{stands_kept, views_kept}
use Rattle.sb_root.proofs.LowPages.{alike_page}
use Rattle.sb_root.proofs.Uses.{IsNewList, list_same, list_other, list_uses, shape_with_list, uses_apart, some_frame}

-- a frame of the root kernel is not free
pub used_not_free : (root : RootKernel) (book : Book) (memory : Physical) (purpose : Use) (frame : ℕ)
    → IsBooked root book memory → used_frame root purpose ≡ Some frame → IsFree book frame → ⊥
used_not_free root book memory purpose frame booked used free =
    let held = booked.held purpose frame used in
    let none = free.1 in
    cc

-- a thread without a list has no entries
no_entries_by : (root : RootKernel) (memory : Physical) (thread index : ℕ) → Stands root memory
    → eptp_list_frame root thread ≡ None → (kept : Option View) → view_of root thread index ≡ kept → entry_of_index kept ≡ 0
no_entries_by root memory thread index stands none None is = refl
no_entries_by root memory thread index stands none (Some view) is = absurd (stands.listed thread index view is none)

zero_word : (index : ℕ) → first_words 0 [] index ≡ 0
zero_word index = grind (arith, common_steps)

not_none : (kept : Option Frame) (frame : Frame) → kept ≡ Some frame → kept ≢ None
not_none kept frame is none = cc

module _ (root : RootKernel) (book : Book) (memory : Physical) (thread : ℕ) (frame : Frame)
    (stands : Stands root memory) (booked : IsBooked root book memory) (small : thread < 32)
    (none : eptp_list_frame root thread ≡ None) (free : IsFree book frame.0) where
  abbrev cleared : Physical
  cleared = with_bytes memory (clear_frame memory.bytes frame.0)

  abbrev more : RootKernel
  more = with_list root thread frame

  inside : frame.0 < frame_count memory
  inside = let size = booked.size in let within = free.0 in omega arith

  pub same : SameOutside (frame.0 ∷ []) memory cleared
  same = same_outside_cleared (frame.0 ∷ []) memory frame.0 (Contains-get_or (frame.0 ∷ []) 0 0 (omega arith))

  apart : IsApart root (frame.0 ∷ [])
  apart = record {
    base = λ other among. let low = base_small other among in let within = free.0 in not_one frame.0 other (omega arith);
    tables = λ purpose other table used among.
        used_not_free root book memory purpose other booked used (subst (IsFree book) (sym (only_one frame.0 other among)) free);
  }

  before : Stands root cleared
  before = stands_kept root (frame.0 ∷ []) memory cleared stands same apart

  page : IsPage cleared frame.0 (list_entry more thread)
  page = alike_page cleared frame.0 (first_words 0 []) (list_entry more thread)
      (λ index. zero_word index ∙ sym (no_entries_by root memory thread index stands none (view_of root thread index) refl))
      (cleared_page memory frame.0 [] stands.whole.size inside)

  list_by : (other : ℕ) (list : Frame) → eptp_list_frame more other ≡ Some list → (one : Bool) → (other == thread) ≡ one
      → IsPage cleared list.0 (list_entry more other)
  list_by other list is true e =
      let same = eqb-true other thread e in
      let here =
      some_frame frame list (sym (list_same root thread frame stands.shape small)
      ∙ subst (λ (t : ℕ). eptp_list_frame more t ≡ Some list) same is) in
      rw (same, ← here) page
  list_by other list is false e =
      before.lists other list (sym (list_other root thread other frame (eqb-false other thread e)) ∙ is)

  listed_by : (other : ℕ) → eptp_list_frame root other ≢ None → (one : Bool) → (other == thread) ≡ one
      → eptp_list_frame more other ≢ None
  listed_by other some true e =
      let same = eqb-true other thread e in
      not_none (eptp_list_frame more other) frame (ap (eptp_list_frame more) same
      ∙ list_same root thread frame stands.shape small)
  listed_by other some false e =
      subst (λ (kept : Option Frame). kept ≢ None) (sym (list_other root thread other frame (eqb-false other thread e))) some

  new_inside : (purpose : Use) (used : ℕ) → IsNewList thread frame purpose used → (512 ≤ used) × (used < frame_count memory)
  new_inside purpose used new =
      let size = booked.size in
      let within = free.0 in
      let is = new.frame_is in
      (omega arith, omega arith)

  inside_after : (purpose : Use) (used : ℕ) → used_frame more purpose ≡ Some used → (512 ≤ used) × (used < frame_count memory)
  inside_after purpose used is = elim (list_uses root thread frame stands.shape small purpose used is) [
    | inl new ↦ new_inside purpose used new
    | inr old ↦ stands.inside purpose used old
  ]

  pub stands_with_list : Stands more cleared
  stands_with_list = record {
    shape = shape_with_list root thread frame stands.shape;
    whole = before.whole;
    base = before.base;
    lists = λ other list is. list_by other list is (other == thread) refl;
    views = before.views;
    listed = λ other index view is. listed_by other (stands.listed other index view is) (other == thread) refl;
    inside = inside_after;
    apart = uses_apart root more (IsNewList thread frame) (list_uses root thread frame stands.shape small)
        (λ first second used one two. one.purpose_is ∙ sym two.purpose_is)
        (λ first second used new old. used_not_free root book memory second used booked old
        (subst (IsFree book) (sym new.frame_is) free))
        stands.apart;
  }

  abbrev taken : Book
  taken = with_holder book frame.0 (Some (EptpList, thread))

  new_held : (purpose : Use) (used : ℕ) → IsNewList thread frame purpose used
      → holder taken used ≡ Some (kind_for purpose, owner_for purpose)
  new_held purpose used new =
      let purpose_is = new.purpose_is in
      let frame_is = new.frame_is in
      rw (purpose_is, frame_is) (holder_same book frame.0 (Some (EptpList, thread)) free.0)

  old_held : (purpose : Use) (used : ℕ) → used_frame root purpose ≡ Some used
      → holder taken used ≡ Some (kind_for purpose, owner_for purpose)
  old_held purpose used old =
      holder_other book frame.0 used (Some (EptpList, thread)) free.0.0 (stands.inside purpose used old).0
      (λ same. used_not_free root book memory purpose used booked old (subst (IsFree book) (sym same) free))
      ∙ booked.held purpose used old

  pub booked_with_list : IsBooked more taken cleared
  booked_with_list = record {
    size = ap (λ (count : ℕ). count + 512) (length_with_holder book frame.0 (Some (EptpList, thread))) ∙ booked.size;
    held = λ purpose used is. elim (list_uses root thread frame stands.shape small purpose used is) [
      | inl new ↦ new_held purpose used new
      | inr old ↦ old_held purpose used old
    ];
  }

  pub views_with_list : SameViews root memory cleared
  views_with_list = views_kept root (frame.0 ∷ []) memory cleared stands same apart

  pub zeros : IsZeroed cleared frame.0
  zeros place here =
      let size = stands.whole.size.bytes in
      let within = inside in
      byte_of_cleared memory.bytes frame.0 place (omega arith) here

-- ---- all that the call answers

pub record ListAdded (root root' : RootKernel) (book book' : Book) (old new : Physical) (thread : ℕ)
    (frame : Frame) : Type 0 where
  pub added : IsAddedList root root' book book' old new thread frame
  pub stands : Stands root' new
  pub booked : IsBooked root' book' new
  pub others : SameViews root old new

pub list_added : (root root' : RootKernel) (book book' : Book) (old new : Physical) (thread : ℕ) (frame : Frame)
    → Stands root old → IsBooked root book old → thread < 32 → eptp_list_frame root thread ≡ None → IsLowestFree book frame.0
    → book' ≡ with_holder book frame.0 (Some (EptpList, thread)) → free_count book' + 1 ≡ free_count book
    → new ≡ with_bytes old (clear_frame old.bytes frame.0)
    → root' ≡ with_list root thread frame
    → ListAdded root root' book book' old new thread frame
list_added root root' book book' old new thread frame stands booked small none lowest taken count written kept =
    let free : IsFree book frame.0 = (lowest.inside, lowest.free) in
    rw (taken, written, kept) (record {
      added = record {
        free = free;
        taken = refl;
        count = subst (λ (after : Book). free_count after + 1 ≡ free_count book) taken count;
        kept = refl;
        zeros = zeros root book old thread frame stands booked small none free;
        same = same root book old thread frame stands booked small none free;
        rights = rights_stay (frame.0 ∷ []) old _ (same root book old thread frame stands booked small none free)
            (apart root book old thread frame stands booked small none free).base;
      };
      stands = stands_with_list root book old thread frame stands booked small none free;
      booked = booked_with_list root book old thread frame stands booked small none free;
      others = views_with_list root book old thread frame stands booked small none free;
    })
