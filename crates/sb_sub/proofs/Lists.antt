-- The lists of a root kernel, and the views that are set, stay where a view is added.
use Rattle.std.proofs.Common.{◌≡◌, ◌∙◌, sym, ap, subst, ℕ, ◌<◌, false}
use Rattle.sb_root.specs.declared.root_kernel.RootKernel.{RootKernel}
use Rattle.sb_root.specs.declared.view.View.{View}
use Rattle.sb_root.specs.Root.{IsSet, IsShaped, eptp_list_frame, is_listed, view_of, with_view}
use Rattle.sb_root.proofs.Uses.{Place, here, elsewhere, place_of_index, view_other}
use Rattle.sb_sub.specs.Serving.{KeepsLists}

-- a view that is set is not the one which is added
view_stays : (root : RootKernel) (thread index other second : ℕ) (view : View) → IsShaped root → thread < 32
    → is_listed (view_of root thread index) ≡ false → IsSet root other second → Place thread index other second
    → view_of (with_view root thread index view) other second ≡ view_of root other second
view_stays root thread index other second view shape small free set (here same again) =
    absurd (let clash : IsSet root thread index =
    subst (λ (n : ℕ). IsSet root n index) same (subst (λ (n : ℕ). IsSet root other n) again set) in
    let e = sym free ∙ clash in cc)
view_stays root thread index other second view shape small free set (elsewhere differ) =
    view_other root thread index other second view shape small differ

-- where a view is added, lists and views that are set stay
pub lists_kept : (root root' : RootKernel) (thread index : ℕ) (view : View) → IsShaped root → thread < 32
    → is_listed (view_of root thread index) ≡ false → root' ≡ with_view root thread index view → KeepsLists root root'
lists_kept root root' thread index view shape small free kept = record {
  lists = λ other. ap (λ (one : RootKernel). eptp_list_frame one other) kept;
  views = λ other second set.
      ap (λ (one : RootKernel). view_of one other second) kept
      ∙ view_stays root thread index other second view shape small free set (place_of_index thread index other second);
}
