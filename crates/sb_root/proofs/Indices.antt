-- Indices of a thread that are set or free.
use Rattle.std.proofs.Common.{◌≡◌, ℕ, ◌<◌, false, inl, inr, arith}
use Rattle.std.proofs.lemmas.Bool.{cases_lt}
use Rattle.sb_root.specs.declared.root_kernel.RootKernel.{RootKernel}
use Rattle.sb_root.specs.Root.{IsSet, HasFreeIndex, is_listed, view_of}

-- no index is both free and set
pub not_both : (root : RootKernel) (thread index : ℕ) → is_listed (view_of root thread index) ≡ false
    → IsSet root thread index → ⊥
not_both root thread index free set = cc

-- where all lower indices are set and one is free, there is room
pub free_within : (root : RootKernel) (thread index : ℕ) → HasFreeIndex root thread
    → ((lower : ℕ) → lower < index → IsSet root thread lower) → index < 16
free_within root thread index room set = elim (cases_lt room.0 index) [
  | inl lower ↦ absurd (not_both root thread room.0 room.2 (set room.0 lower))
  | inr higher ↦ let small = room.1 in omega arith
]
