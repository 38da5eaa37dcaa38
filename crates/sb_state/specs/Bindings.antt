-- The binding of a thread that has an index, and the index of the next binding.
use Rattle.std.specs.Prelude.{◌≡◌, ◌<◌, ◌≤◌, ℕ, zero, suc, ◌+◌, ◌-◌, ◌==◌, Bool, true, List, [], ◌∷◌, Option, Some, None, is_some, if◌then◌else◌}
use Rattle.sb_abi.specs.declared.space.TheConstants.{MAX_BINDINGS}
use Rattle.sb_state.specs.declared.state.Binding.{Binding}

-- the first binding with this index
abbrev pub binding_with : List Binding → ℕ → Option Binding
binding_with [] index = None
binding_with (binding ∷ bindings) index = if binding.index == index then Some binding else binding_with bindings index

-- ---- the index of the next binding

-- whether a binding has this index
abbrev pub has_index : List Binding → ℕ → Bool
has_index bindings index = is_some (binding_with bindings index)

-- the lowest of so many indices, from a first one on, that no binding has
abbrev pub free_index_from : List Binding → ℕ → ℕ → ℕ
free_index_from bindings index zero = index
free_index_from bindings index (suc count) =
    if has_index bindings index then free_index_from bindings (index + 1) count else index

-- the lowest index from 1 to the last that no binding has
unfoldable pub free_index : List Binding → ℕ
free_index bindings = free_index_from bindings 1 (MAX_BINDINGS - 1)

-- an index from 1 to the last that no binding has, while each lower one is a binding's
pub record IsFreeIndex (bindings : List Binding) (index : ℕ) : Type 0 where
  pub least : 1 ≤ index
  pub most : index ≤ MAX_BINDINGS
  pub free : binding_with bindings index ≡ None
  pub lowest : (other : ℕ) → 1 ≤ other → other < index → has_index bindings other ≡ true
