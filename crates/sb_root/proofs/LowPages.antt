-- The entries of tables behind those that lead anywhere, and of the base and views page by page.
use Rattle.std.proofs.Common.{◌≡◌, ◌≢◌, ℕ, zero, suc, ◌+◌, ◌<◌, ◌≤◌, ◌==◌, true, false, [], ◌∷◌, refl, ◌∙◌, arith}
use Rattle.std.proofs.lemmas.Bool.{ne_eqb}
use Rattle.std.proofs.lemmas.Grind.{common_steps}
use Rattle.sb_memory.specs.Physical.{Physical}
use Rattle.sb_root.specs.declared.view.View.{View}
use Rattle.sb_root.specs.Entry.{link_to, leaf_to}
use Rattle.sb_root.specs.Tables.{IsPage, from_start, upper_entries, directory_entries, base_entries, view_entries, trampoline_frame}

pub base_beyond : (page : ℕ) → 32 ≤ page → base_entries page ≡ 0
unfolding base_entries
base_beyond page beyond = grind (arith, common_steps)

pub base_trampoline : (page : ℕ) → page ≡ 1 → base_entries page ≡ leaf_to 1 4
unfolding base_entries
base_trampoline page is = grind (arith, common_steps)

pub base_root : (page : ℕ) → 16 ≤ page → page < 32 → base_entries page ≡ leaf_to page 1
unfolding base_entries
base_root page from below = grind (arith, common_steps)

pub base_other : (page : ℕ) → page ≢ 1 → (16 ≤ page → page < 32 → ⊥) → base_entries page ≡ 0
unfolding base_entries
base_other page differ none = grind (arith, common_steps)

module _ (view : View) (page : ℕ) where
  pub view_home : page ≡ view.home_root.0 → view_entries view page ≡ leaf_to view.target_root.0 1
  unfolding view_entries
  view_home is = grind (arith, common_steps)

  pub view_trampoline : 16 ≤ view.home_root.0 → page ≡ 1 → view_entries view page ≡ leaf_to (trampoline_frame view.server) 4
  unfolding view_entries
  view_trampoline above is =
      let first : (page == view.home_root.0) ≡ false = ne_eqb _ _ (omega arith) in
      let second : (page == 1) ≡ true = grind (arith, common_steps) in
      rw (first, second) refl

  pub view_record : 16 ≤ view.home_root.0 → page ≡ 2 → view_entries view page ≡ leaf_to view.record_page.0 1
  unfolding view_entries
  view_record above is =
      let first : (page == view.home_root.0) ≡ false = ne_eqb _ _ (omega arith) in
      let second : (page == 1) ≡ false = ne_eqb _ _ (omega arith) in
      let third : (page == 2) ≡ true = grind (arith, common_steps) in
      rw (first, second, third) refl

  pub view_scratch : 16 ≤ view.home_root.0 → page ≡ 3 → view_entries view page ≡ leaf_to view.scratch_page.0 3
  unfolding view_entries
  view_scratch above is =
      let first : (page == view.home_root.0) ≡ false = ne_eqb _ _ (omega arith) in
      let second : (page == 1) ≡ false = ne_eqb _ _ (omega arith) in
      let third : (page == 2) ≡ false = ne_eqb _ _ (omega arith) in
      let fourth : (page == 3) ≡ true = grind (arith, common_steps) in
      rw (first, second, third, fourth) refl

  pub view_other : page ≢ view.home_root.0 → page ≢ 1 → page ≢ 2 → page ≢ 3 → view_entries view page ≡ base_entries page
  unfolding view_entries
  view_other home trampoline words scratch =
      let first : (page == view.home_root.0) ≡ false = ne_eqb _ _ home in
      let second : (page == 1) ≡ false = ne_eqb _ _ trampoline in
      let third : (page == 2) ≡ false = ne_eqb _ _ words in
      let fourth : (page == 3) ≡ false = ne_eqb _ _ scratch in
      rw (first, second, third, fourth) refl

  pub view_beyond : view.home_root.0 < 32 → 32 ≤ page → view_entries view page ≡ 0
  view_beyond below beyond = view_other (omega arith) (omega arith) (omega arith) (omega arith) ∙ base_beyond page beyond

-- ---- tables above the lowest level

pub directory_within : (first region table entry : ℕ) → table ≡ 32 + region → entry ≡ link_to table → 1 ≤ region → region < 16
    → entry ≡ directory_entries first region
directory_within first region table entry here is from within = grind (arith, common_steps)

pub directory_beyond : (first index : ℕ) → 16 ≤ index → directory_entries first index ≡ 0
directory_beyond first index beyond = grind (arith, common_steps)

pub alike_page : (memory : Physical) (frame : ℕ) (entries others : ℕ → ℕ) → ((index : ℕ) → entries index ≡ others index)
    → IsPage memory frame entries → IsPage memory frame others
alike_page memory frame entries others same page = record { entry = λ index within. page.entry index within ∙ same index }

one_entry : (entry next : ℕ) → entry ≡ link_to next → (index : ℕ) → from_start (entry ∷ []) index ≡ upper_entries next index
one_entry entry next is zero = is
one_entry entry next is (suc index) = let other : (suc index == 0) ≡ false = ne_eqb _ _ (omega arith) in rw other refl

-- a table with one entry
pub upper_page : (memory : Physical) (frame entry next : ℕ) → entry ≡ link_to next
    → IsPage memory frame (from_start (entry ∷ [])) → IsPage memory frame (upper_entries next)
upper_page memory frame entry next is page =
    alike_page memory frame (from_start (entry ∷ [])) (upper_entries next) (one_entry entry next is) page
