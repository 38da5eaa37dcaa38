-- The index that the root kernel gives a view is the plain thread's free index.
use Rattle.std.proofs.Common.{◌≡◌, ◌∙◌, sym, ap, ℕ, zero, suc, ◌+◌, ◌<◌, ◌≤◌, ◌==◌, inl, inr, Bool, true, false, List, refl, arith}
use Rattle.std.specs.Prelude.{Option, Some, None, is_some, slice_get, if◌then◌else◌}
use Rattle.std.specs.Option.{option_map, option_and_then}
use Rattle.std.proofs.lemmas.Bool.{cases_lt, ne_eqb}
use Rattle.sb_state.specs.declared.state.Binding.{Binding}
use Rattle.sb_state.specs.declared.state.Thread.{Thread}
use Rattle.sb_state.specs.Bindings.{binding_with, has_index, free_index_from, free_index}
use Rattle.sb_trace.specs.State.{State}
use Rattle.sb_trace.specs.Windows.{process_shown, process_of_view, server_of}
use Rattle.sb_shows.specs.CallLaws.{FreeIndicesAgree}
use Rattle.sb_shows.proofs.Binding.{free_away, free_fresh}

-- ---- a search ends at the first index that no binding has

found_by : (test : Bool) (bindings : List Binding) (first count index : ℕ) → has_index bindings first ≡ test
    → first ≤ index → index ≤ first + suc count
    → ((other : ℕ) → first ≤ other → other < index → has_index bindings other ≡ true) → has_index bindings index ≡ false
    → (first + 1 ≤ index → free_index_from bindings (first + 1) count ≡ index)
    → (if test then free_index_from bindings (first + 1) count else first) ≡ index
found_by true bindings first count index is low high taken free rest =
    rest (elim (cases_lt first index) [
      | inl below ↦ omega arith
      | inr beyond ↦ absurd (let same : first ≡ index = omega arith in
          let e = sym is ∙ (ap (has_index bindings) same ∙ free) in cc)
    ])
found_by false bindings first count index is low high taken free rest = elim (cases_lt first index) [
  | inl below ↦ absurd (let e = sym is ∙ taken first (omega arith) below in cc)
  | inr beyond ↦ omega arith
]

found_first : (count : ℕ) (bindings : List Binding) (first index : ℕ) → first ≤ index → index ≤ first + count
    → ((other : ℕ) → first ≤ other → other < index → has_index bindings other ≡ true) → has_index bindings index ≡ false
    → free_index_from bindings first count ≡ index
found_first zero bindings first index low high taken free = let same : first ≡ index = omega arith in same
found_first (suc count) bindings first index low high taken free =
    found_by (has_index bindings first) bindings first count index refl low high taken free
    (λ more. found_first count bindings (first + 1) index more (omega arith)
    (λ other above below. taken other (omega arith) below)
    free)

-- ---- what a thread's views say of its bindings

has_by : (found : Option Binding) (server : ℕ) → option_map (λ (binding : Binding). binding.server) found ≡ Some server
    → is_some found ≡ true
has_by None server is = cc
has_by (Some binding) server is = refl

lacks_by : (found : Option Binding) → option_map (λ (binding : Binding). binding.server) found ≡ None → is_some found ≡ false
lacks_by None is = refl
lacks_by (Some binding) is = cc

server_has : (bindings : List Binding) (index server : ℕ) → server_of bindings index ≡ Some server
    → has_index bindings index ≡ true
server_has bindings index server is = has_by (binding_with bindings index) server is

server_lacks : (bindings : List Binding) (index : ℕ) → server_of bindings index ≡ None → has_index bindings index ≡ false
server_lacks bindings index is = lacks_by (binding_with bindings index) is

bound_shown : (state : State) (number index process : ℕ) (thread : Thread) → slice_get state.threads number ≡ Some thread
    → (index == 0) ≡ false → process_shown state.threads number index ≡ Some process
    → server_of thread.bindings index ≡ Some process
unfolding process_shown
bound_shown state number index process thread there away shows =
    sym (ap (option_and_then (process_of_view index)) there
    ∙ ap (λ (test : Bool). if test then Some thread.home else server_of thread.bindings index) away) ∙ shows

positive : (index : ℕ) → (index ≡ 0 → ⊥) → 1 ≤ index
positive zero away = absurd (away refl)
positive (suc index) away = omega arith

pub free_indices_agree : FreeIndicesAgree
unfolding free_index
free_indices_agree placement state memory number index thread keeps there lowest =
    let few : index < 16 = lowest.inside in
    let away = free_away placement state memory keeps number index thread there lowest.free in
    found_first 14 thread.bindings 1 index (positive index away) (omega arith)
    (λ other above below.
    let shows = keeps.leads.only number other (lowest.lowest other below) in
    server_has thread.bindings other shows.0
    (bound_shown state number other shows.0 thread there (ne_eqb other 0 (omega arith)) shows.1))
    (server_lacks thread.bindings index (free_fresh placement state memory keeps number index thread there lowest.free))
