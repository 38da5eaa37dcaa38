-- What holds of a root kernel between calls.
use Rattle.std.proofs.Common.{◌≡◌, ◌≢◌, ℕ, ◌+◌, ◌<◌, ◌≤◌, true, false, nat_lt, List, length, Ok, refl, sym, ap, ◌∙◌, inl, inr, arith}
use Rattle.std.specs.Prelude.{Option, None, Some, if◌then◌else◌}
use Rattle.std.proofs.lemmas.Bool.{cases_lt, lt-ltb, le-ltb}
use Rattle.std.proofs.lemmas.Grind.{common_steps}
use Rattle.sb_memory.specs.Physical.{Physical, frame_count}
use Rattle.sb_memory.specs.Changes.{SameOutside}
use Rattle.sb_memory.specs.declared.address.Frame.{Frame}
use Rattle.sb_walks.specs.Entry.{frame_in}
use Rattle.sb_walks.specs.Ept.{is_eptp}
use Rattle.sb_frames.specs.declared.kind.Kind.{Kind}
use Rattle.sb_frames.specs.Book.{Book, with_holder}
use Rattle.sb_root.specs.declared.switch_answer.Switch.TheVariants.{To, Unbound}
use Rattle.sb_root.specs.declared.root_kernel.RootKernel.{RootKernel}
use Rattle.sb_root.specs.declared.view.View.{View}
use Rattle.sb_root.specs.Entry.{eptp_to}
use Rattle.sb_root.specs.Root.{Use, ListOf, PartOf, IsSet, is_listed, eptp_list_frame, view_of, list_entry, entry_of_index, eptp_of_view, used_frame}
use Rattle.sb_root.specs.Standing.{Stands, IsBooked}
use Rattle.sb_root.specs.Answers.{IsViewOf}
use Rattle.sb_root.specs.Switch.{switch_result}
use Rattle.sb_frames.proofs.Taking.{holder_other, length_with_holder}
use Rattle.sb_root.proofs.Reaches.{view_answers}
use Rattle.sb_root.proofs.Uses.{used_list, used_part, set_view}
use Rattle.sb_root.proofs.Walk.{read_entry}

pub booked_kept : (root : RootKernel) (frames : List ℕ) (old new : Physical) (book : Book) → SameOutside frames old new
    → IsBooked root book old → IsBooked root book new
booked_kept root frames old new book same booked =
    record { size = booked.size ∙ ap length (sym same.present); held = booked.held }

pub booked_beside : (root : RootKernel) (memory : Physical) (book : Book) (frame : ℕ) (held : Option (Kind × ℕ))
    → Stands root memory → IsBooked root book memory → 512 ≤ frame
    → ((purpose : Use) → used_frame root purpose ≢ Some frame) → IsBooked root (with_holder book frame held) memory
booked_beside root memory book frame held stands booked from apart = record {
  size = ap (λ (count : ℕ). count + 512) (length_with_holder book frame held) ∙ booked.size;
  held = λ purpose used is.
      holder_other book frame used held from (stands.inside purpose used is).0 (λ same. apart purpose (is ∙ ap Some same))
      ∙ booked.held purpose used is;
}

pub view_between : (root : RootKernel) (memory : Physical) (thread index : ℕ) (view : View) → Stands root memory
    → view_of root thread index ≡ Some view → IsViewOf memory view (eptp_of_view view)
view_between root memory thread index view stands is =
    view_answers memory view stands.whole stands.base (stands.views thread index view is)
    (stands.inside (PartOf thread index 4) view.record_page.0 (used_part root thread index 4 view is (omega arith))).1
    (stands.inside (PartOf thread index 5) view.scratch_page.0 (used_part root thread index 5 view is (omega arith))).1

-- ---- pointers

pointer_is : (frame : ℕ) → frame < 8192 → is_eptp (eptp_to frame) ≡ true
pointer_is frame small = grind (arith, common_steps)

root_inside : (root : RootKernel) (memory : Physical) (thread index : ℕ) (view : View) → Stands root memory
    → view_of root thread index ≡ Some view → view.tables.root.0 < frame_count memory
root_inside root memory thread index view stands is =
    (stands.inside (PartOf thread index 0) view.tables.root.0 (used_part root thread index 0 view is (omega arith))).1

pub set_pointer : (root : RootKernel) (memory : Physical) (thread index : ℕ) → Stands root memory → IsSet root thread index
    → is_eptp (list_entry root thread index) ≡ true
set_pointer root memory thread index stands set =
    let view = set_view root thread index set in
    let inside = root_inside root memory thread index view.0 stands view.1 in
    let most = stands.whole.most in
    ap is_eptp view.2 ∙ pointer_is view.0.tables.root.0 (omega arith)

pub set_inside : (root : RootKernel) (memory : Physical) (thread index : ℕ) → Stands root memory → IsSet root thread index
    → frame_in (list_entry root thread index) < frame_count memory
set_inside root memory thread index stands set =
    let view = set_view root thread index set in
    let inside = root_inside root memory thread index view.0 stands view.1 in
    let most = stands.whole.most in
    let same : frame_in (list_entry root thread index) ≡ view.0.tables.root.0 = ap frame_in view.2 ∙ omega arith in
    rw same inside

-- ---- switches

-- what a switch by an index below 512 reads is the entry
list_switched : (root : RootKernel) (memory : Physical) (thread index : ℕ) (list : Frame) → Stands root memory
    → eptp_list_frame root thread ≡ Some list → index < 512
    → switch_result memory list.0 0 index
    ≡ Ok (if is_eptp (list_entry root thread index) then To (list_entry root thread index) else Unbound)
unfolding switch_result
list_switched root memory thread index list stands is small =
    let test : nat_lt index 512 ≡ true = lt-ltb index 512 small in
    let inside = (stands.inside (ListOf thread) list.0 (used_list root thread list is)).1 in
    rw (test, read_entry memory stands.whole list.0 index inside small, (stands.lists thread list is).entry index small) refl

pub set_switched : (root : RootKernel) (memory : Physical) (thread index : ℕ) (list : Frame) → Stands root memory
    → eptp_list_frame root thread ≡ Some list → IsSet root thread index → index < 512
    → switch_result memory list.0 0 index ≡ Ok (To (list_entry root thread index))
set_switched root memory thread index list stands is set small =
    list_switched root memory thread index list stands is small ∙ rw (set_pointer root memory thread index stands set) refl

pub free_entry : (kept : Option View) → is_listed kept ≡ false → entry_of_index kept ≡ 0
free_entry None free = refl
free_entry (Some view) free = rw free refl

far_switched : (memory : Physical) (list index : ℕ) → 512 ≤ index → switch_result memory list 0 index ≡ Ok Unbound
unfolding switch_result
far_switched memory list index far = let test : nat_lt index 512 ≡ false = le-ltb index 512 far in rw test refl

pub free_switched : (root : RootKernel) (memory : Physical) (thread index : ℕ) (list : Frame) → Stands root memory
    → eptp_list_frame root thread ≡ Some list → is_listed (view_of root thread index) ≡ false
    → switch_result memory list.0 0 index ≡ Ok Unbound
free_switched root memory thread index list stands is free = elim (cases_lt index 512) [
  | inl small ↦
      let none : list_entry root thread index ≡ 0 = free_entry (view_of root thread index) free in
      list_switched root memory thread index list stands is small ∙ rw none refl
  | inr far ↦ far_switched memory list.0 index far
]
