-- Which frames a root kernel uses after a list or a view was added.
use Rattle.std.proofs.Common.{◌≡◌, ◌≢◌, ℕ, zero, suc, ◌<◌, ◌⊎◌, inl, inr, ◌==◌, Bool, true, false, List, [], length, length-set, get_or, get_or-set_other, get_or-set_same, refl, sym, ap, ◌∙◌, arith}
use Rattle.std.specs.Prelude.{Option, None, Some, slice_set}
use Rattle.std.proofs.lemmas.Bool.{eqb-true, eqb-false}
use Rattle.sb_memory.specs.declared.address.Frame.{Frame}
use Rattle.sb_root.specs.declared.root_kernel.RootKernel.{RootKernel}
use Rattle.sb_root.specs.declared.view.View.{View}
use Rattle.sb_root.specs.Root.{IsShaped, Use, ListOf, PartOf, AreDifferent, IsSet, is_listed, eptp_list_frame, view_of, list_entry, eptp_of_view, with_list, with_view, without_listing, view_frames, list_frame_in, part_in, used_frame}

pub some_frame : (first second : Frame) → Some first ≡ Some second → first ≡ second
some_frame first second same = cc

pub some_view : (first second : View) → Some first ≡ Some second → first ≡ second
some_view first second same = cc

-- ---- lists and views that were put

pub list_same : (root : RootKernel) (thread : ℕ) (frame : Frame) → IsShaped root → thread < 32
    → eptp_list_frame (with_list root thread frame) thread ≡ Some frame
list_same root thread frame shape small =
    let size = shape.lists in
    let within : thread < length root.lists = omega arith in
    rw get_or-set_same refl

pub list_other : (root : RootKernel) (thread other : ℕ) (frame : Frame) → other ≢ thread
    → eptp_list_frame (with_list root thread frame) other ≡ eptp_list_frame root other
list_other root thread other frame differ = rw get_or-set_other refl

pub view_same : (root : RootKernel) (thread index : ℕ) (view : View) → IsShaped root → thread < 32 → index < 16
    → view_of (with_view root thread index view) thread index ≡ Some view
view_same root thread index view shape small few =
    let threads = shape.threads in
    let row = shape.views thread small in
    let within : thread < length root.views = omega arith in
    let inside : index < length (get_or root.views thread []) = omega arith in
    ap (λ (views : List (Option View)). get_or views index None)
    (get_or-set_same root.views thread (slice_set (get_or root.views thread []) index (Some view)) [] within)
    ∙ get_or-set_same (get_or root.views thread []) index (Some view) None inside

other_thread : (root : RootKernel) (thread index other second : ℕ) (view : View) → other ≢ thread
    → view_of (with_view root thread index view) other second ≡ view_of root other second
other_thread root thread index other second view differ =
    ap (λ (views : List (Option View)). get_or views second None)
    (get_or-set_other root.views thread other (slice_set (get_or root.views thread []) index (Some view)) [] differ)

other_index : (root : RootKernel) (thread index second : ℕ) (view : View) → IsShaped root → thread < 32 → second ≢ index
    → view_of (with_view root thread index view) thread second ≡ view_of root thread second
other_index root thread index second view shape small differ =
    let threads = shape.threads in
    let within : thread < length root.views = omega arith in
    ap (λ (views : List (Option View)). get_or views second None)
    (get_or-set_same root.views thread (slice_set (get_or root.views thread []) index (Some view)) [] within)
    ∙ get_or-set_other (get_or root.views thread []) index second (Some view) None differ

-- the index of a thread, or another one
pub data Place (thread index other second : ℕ) : Type 0 where
  here : other ≡ thread → second ≡ index → Place thread index other second
  elsewhere : (other ≡ thread → second ≡ index → ⊥) → Place thread index other second

place_by : (thread index other second : ℕ) (one two : Bool) → (other == thread) ≡ one → (second == index) ≡ two
    → Place thread index other second
place_by thread index other second true true e f = here (eqb-true _ _ e) (eqb-true _ _ f)
place_by thread index other second false two e f = elsewhere (λ same again. eqb-false _ _ e same)
place_by thread index other second true false e f = elsewhere (λ same again. eqb-false _ _ f again)

pub place_of_index : (thread index other second : ℕ) → Place thread index other second
place_of_index thread index other second = place_by thread index other second (other == thread) (second == index) refl refl

view_other_by : (root : RootKernel) (thread index other second : ℕ) (view : View) → IsShaped root → thread < 32
    → (other ≡ thread → second ≡ index → ⊥) → (one : Bool) → (other == thread) ≡ one
    → view_of (with_view root thread index view) other second ≡ view_of root other second
view_other_by root thread index other second view shape small differ false e =
    other_thread root thread index other second view (eqb-false _ _ e)
view_other_by root thread index other second view shape small differ true e =
    let same = eqb-true _ _ e in
    rw same (other_index root thread index second view shape small (λ again. differ same again))

pub view_other : (root : RootKernel) (thread index other second : ℕ) (view : View) → IsShaped root → thread < 32
    → (other ≡ thread → second ≡ index → ⊥)
    → view_of (with_view root thread index view) other second ≡ view_of root other second
view_other root thread index other second view shape small differ =
    view_other_by root thread index other second view shape small differ (other == thread) refl

pub shape_with_list : (root : RootKernel) (thread : ℕ) (frame : Frame) → IsShaped root → IsShaped (with_list root thread frame)
shape_with_list root thread frame shape =
    record { lists = length-set root.lists thread (Some frame) ∙ shape.lists; threads = shape.threads; views = shape.views }

row_by : (root : RootKernel) (thread index other : ℕ) (view : View) → IsShaped root → thread < 32 → other < 32 → (one : Bool)
    → (other == thread) ≡ one
    → length (get_or (with_view root thread index view).views other []) ≡ 16
row_by root thread index other view shape small few true e =
    let same = eqb-true _ _ e in
    let threads = shape.threads in
    let within : thread < length root.views = omega arith in
    rw same (ap length (get_or-set_same root.views thread (slice_set (get_or root.views thread []) index (Some view)) [] within)
    ∙ length-set (get_or root.views thread []) index (Some view) ∙ shape.views thread small)
row_by root thread index other view shape small few false e =
    ap length
    (get_or-set_other root.views thread other (slice_set (get_or root.views thread []) index (Some view)) []
    (eqb-false _ _ e)) ∙ shape.views other few

pub shape_with_view : (root : RootKernel) (thread index : ℕ) (view : View) → IsShaped root → thread < 32
    → IsShaped (with_view root thread index view)
shape_with_view root thread index view shape small = record {
  lists = shape.lists;
  threads = length-set root.views thread (slice_set (get_or root.views thread []) index (Some view)) ∙ shape.threads;
  views = λ other few. row_by root thread index other view shape small few (other == thread) refl;
}

-- ---- the frame of a use

pub used_list : (root : RootKernel) (thread : ℕ) (frame : Frame) → eptp_list_frame root thread ≡ Some frame
    → used_frame root (ListOf thread) ≡ Some frame.0
used_list root thread frame is = ap list_frame_in is

-- the frame of a part of a view
pub part_frame : (view : View) (part : ℕ) → part < 6 → part_in (Some view) part ≡ Some (get_or (view_frames view) part 0)
part_frame view zero few = refl
part_frame view (suc zero) few = refl
part_frame view (suc (suc zero)) few = refl
part_frame view (suc (suc (suc zero))) few = refl
part_frame view (suc (suc (suc (suc zero)))) few = refl
part_frame view (suc (suc (suc (suc (suc zero))))) few = refl
part_frame view (suc (suc (suc (suc (suc (suc part)))))) few = absurd (omega arith)

pub used_part : (root : RootKernel) (thread index part : ℕ) (view : View) → view_of root thread index ≡ Some view → part < 6
    → used_frame root (PartOf thread index part) ≡ Some (get_or (view_frames view) part 0)
used_part root thread index part view is few = ap (λ (kept : Option View). part_in kept part) is ∙ part_frame view part few

-- a view has six parts
pub part_few : (view : View) (part frame : ℕ) → part_in (Some view) part ≡ Some frame → part < 6
part_few view zero frame is = omega arith
part_few view (suc zero) frame is = omega arith
part_few view (suc (suc zero)) frame is = omega arith
part_few view (suc (suc (suc zero))) frame is = omega arith
part_few view (suc (suc (suc (suc zero)))) frame is = omega arith
part_few view (suc (suc (suc (suc (suc zero))))) frame is = omega arith
part_few view (suc (suc (suc (suc (suc (suc part)))))) frame is = cc

some_same : (first second : ℕ) → Path (Option ℕ) (Some first) (Some second) → first ≡ second
some_same first second is = cc

pub part_is : (view : View) (part frame : ℕ) → part_in (Some view) part ≡ Some frame → get_or (view_frames view) part 0 ≡ frame
part_is view part frame is = some_same _ _ (sym (part_frame view part (part_few view part frame is)) ∙ is)

-- ---- the uses after a call

-- a use of the list that was added
pub record IsNewList (thread : ℕ) (frame : Frame) (purpose : Use) (used : ℕ) : Type 0 where
  pub purpose_is : purpose ≡ ListOf thread
  pub frame_is : used ≡ frame.0

list_use_by : (root : RootKernel) (thread other : ℕ) (frame : Frame) (used : ℕ) → IsShaped root → thread < 32 → (one : Bool)
    → (other == thread) ≡ one
    → used_frame (with_list root thread frame) (ListOf other) ≡ Some used
    → IsNewList thread frame (ListOf other) used ⊎ (used_frame root (ListOf other) ≡ Some used)
list_use_by root thread other frame used shape small true e is =
    let same = eqb-true _ _ e in
    let here =
    ap list_frame_in (ap (eptp_list_frame (with_list root thread frame)) same ∙ list_same root thread frame shape small) in
    inl (record { purpose_is = ap ListOf same; frame_is = some_same _ _ (sym is ∙ here) })
list_use_by root thread other frame used shape small false e is =
    inr (sym (ap list_frame_in (list_other root thread other frame (eqb-false _ _ e))) ∙ is)

pub list_uses : (root : RootKernel) (thread : ℕ) (frame : Frame) → IsShaped root → thread < 32 → (purpose : Use) (used : ℕ)
    → used_frame (with_list root thread frame) purpose ≡ Some used
    → IsNewList thread frame purpose used ⊎ (used_frame root purpose ≡ Some used)
list_uses root thread frame shape small (ListOf other) used is =
    list_use_by root thread other frame used shape small (other == thread) refl is
list_uses root thread frame shape small (PartOf other second part) used is = inr is

-- a use of the view that was added
pub record IsNewPart (thread index : ℕ) (view : View) (purpose : Use) (used : ℕ) : Type 0 where
  pub part : ℕ
  pub few : part < 6
  pub purpose_is : purpose ≡ PartOf thread index part
  pub frame_is : used ≡ get_or (view_frames view) part 0

part_use_by : (root : RootKernel) (thread index other second part : ℕ) (view : View) (used : ℕ) → IsShaped root → thread < 32
    → index < 16 → Place thread index other second
    → used_frame (with_view root thread index view) (PartOf other second part) ≡ Some used
    → IsNewPart thread index view (PartOf other second part) used ⊎ (used_frame root (PartOf other second part) ≡ Some used)
part_use_by root thread index other second part view used shape small few (here same again) is =
    let kept : view_of (with_view root thread index view) other second ≡ Some view =
    rw (same, again) (view_same root thread index view shape small few) in
    let now : part_in (Some view) part ≡ Some used = sym (ap (λ (v : Option View). part_in v part) kept) ∙ is in
    inl (record {
      part = part;
      few = part_few view part used now;
      purpose_is = rw (same, again) refl;
      frame_is = sym (part_is view part used now);
    })
part_use_by root thread index other second part view used shape small few (elsewhere differ) is =
    inr (sym (ap (λ (v : Option View). part_in v part) (view_other root thread index other second view shape small differ)) ∙ is)

pub view_uses : (root : RootKernel) (thread index : ℕ) (view : View) → IsShaped root → thread < 32 → index < 16
    → (purpose : Use) (used : ℕ)
    → used_frame (with_view root thread index view) purpose ≡ Some used
    → IsNewPart thread index view purpose used ⊎ (used_frame root purpose ≡ Some used)
view_uses root thread index view shape small few (ListOf other) used is = inr is
view_uses root thread index view shape small few (PartOf other second part) used is =
    part_use_by root thread index other second part view used shape small few (place_of_index thread index other second) is

-- two uses of new parts in one frame are one
same_part_by : (frames : List ℕ) (first second : ℕ) → AreDifferent frames → first < length frames → second < length frames
    → get_or frames first 0 ≡ get_or frames second 0 → (one : Bool) → (first == second) ≡ one → first ≡ second
same_part_by frames first second different within within' same true e = eqb-true _ _ e
same_part_by frames first second different within within' same false e =
    absurd (different first second within within' (eqb-false _ _ e) same)

pub new_parts_apart : (thread index : ℕ) (view : View) (first second : Use) (used : ℕ) → AreDifferent (view_frames view)
    → IsNewPart thread index view first used → IsNewPart thread index view second used → first ≡ second
new_parts_apart thread index view first second used different one two =
    let few = one.few in
    let few' = two.few in
    let same =
    same_part_by (view_frames view) one.part two.part different (omega arith) (omega arith) (sym one.frame_is
    ∙ two.frame_is) (one.part == two.part) refl in
    one.purpose_is ∙ ap (PartOf thread index) same ∙ sym two.purpose_is

-- where each use is new or an old one, uses in one frame are one
module _ (root root' : RootKernel) (New : Use → ℕ → Type 0)
    (split : (purpose : Use) (used : ℕ) → used_frame root' purpose ≡ Some used
    → New purpose used ⊎ (used_frame root purpose ≡ Some used))
    (new_apart : (first second : Use) (used : ℕ) → New first used → New second used → first ≡ second)
    (fresh : (first second : Use) (used : ℕ) → New first used → used_frame root second ≡ Some used → ⊥)
    (apart : (first second : Use) (used : ℕ) → used_frame root first ≡ Some used → used_frame root second ≡ Some used
    → first ≡ second) where
  pub uses_apart : (first second : Use) (used : ℕ) → used_frame root' first ≡ Some used → used_frame root' second ≡ Some used
      → first ≡ second
  uses_apart first second used one two = elim (split first used one) [
    | inl new ↦ elim (split second used two) [
      | inl new' ↦ new_apart first second used new new'
      | inr old ↦ absurd (fresh first second used new old)
    ]
    | inr old ↦ elim (split second used two) [
      | inl new ↦ absurd (fresh second first used new old)
      | inr old' ↦ apart first second used old old'
    ]
  ]

-- ---- views that are set

set_by : (root : RootKernel) (thread index : ℕ) (kept : Option View) → view_of root thread index ≡ kept → is_listed kept ≡ true
    → (view : View) × (view_of root thread index ≡ Some view) × (list_entry root thread index ≡ eptp_of_view view)
set_by root thread index None is listed = cc
set_by root thread index (Some view) is listed = (view, is, rw (is, listed) refl)

-- the view of an index that is set
pub set_view : (root : RootKernel) (thread index : ℕ) → IsSet root thread index
    → (view : View) × (view_of root thread index ≡ Some view) × (list_entry root thread index ≡ eptp_of_view view)
set_view root thread index set = set_by root thread index (view_of root thread index) refl set

-- ---- a view whose entry was cleared uses the same frames

unlisted_part : (view : View) (part : ℕ) → part_in (Some (without_listing view)) part ≡ part_in (Some view) part
unlisted_part view part = refl

unlisted_by : (root : RootKernel) (thread index other second part : ℕ) (view : View) → IsShaped root → thread < 32
    → index < 16 → view_of root thread index ≡ Some view → Place thread index other second
    → used_frame (with_view root thread index (without_listing view)) (PartOf other second part)
    ≡ used_frame root (PartOf other second part)
unlisted_by root thread index other second part view shape small few is (here same again) =
    rw (
      same,
      again,
    ) (ap (λ (v : Option View). part_in v part) (view_same root thread index (without_listing view) shape small few)
    ∙ unlisted_part view part ∙ sym (ap (λ (v : Option View). part_in v part) is))
unlisted_by root thread index other second part view shape small few is (elsewhere differ) =
    ap (λ (v : Option View). part_in v part) (view_other root thread index other second (without_listing view) shape small differ)

pub unlisted_uses : (root : RootKernel) (thread index : ℕ) (view : View) → IsShaped root → thread < 32 → index < 16
    → view_of root thread index ≡ Some view → (purpose : Use)
    → used_frame (with_view root thread index (without_listing view)) purpose ≡ used_frame root purpose
unlisted_uses root thread index view shape small few is (ListOf other) = refl
unlisted_uses root thread index view shape small few is (PartOf other second part) =
    unlisted_by root thread index other second part view shape small few is (place_of_index thread index other second)
