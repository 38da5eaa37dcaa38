-- How many lines the cores of a machine have made.
use Rattle.std.specs.Prelude.{ℕ, ◌≡◌, ◌≢◌, ◌+◌, ◌%◌, ◌^◌, ◌==◌, List, filter, length}
use Rattle.sb_machine.specs.Machine.{Machine, state_at}

-- how many lines a core has made, modulo 2^64
abbrev pub made_by : Machine → ℕ → ℕ
made_by machine core = (state_at machine core).made

-- a core has made one line more, and no other has
pub record CountsLine (old : Machine) (core : ℕ) (new : Machine) : Type 0 where
  pub own : made_by new core ≡ (made_by old core + 1) % 2 ^ 64
  pub others : (other : ℕ) → other ≢ core → made_by new other ≡ made_by old other

-- how many entries a list of cores has of one
abbrev pub entries_of : ℕ → List ℕ → ℕ
entries_of core cores = length (filter (λ entry. entry == core) cores)
