-- The cores of a machine by number, where one is put.
use Rattle.std.proofs.Common.{◌≡◌, ◌≢◌, ◌∙◌, ap, ℕ, ◌<◌, length, slice_set}
use Rattle.std.specs.Prelude.{slice_get, unwrap_or}
use Rattle.sb_state.proofs.Threads.{set_other, set_within}
use Rattle.sb_machine.specs.declared.processor.Core.{Core}
use Rattle.sb_machine.specs.Machine.{Machine, no_core, core_at}

-- the core that is put stands at its number
pub own_core : (old new : Machine) (number : ℕ) (core : Core) → number < length old.cores
    → new.cores ≡ slice_set old.cores number core → core_at new number ≡ core
unfolding core_at
own_core old new number core there is =
    ap (λ cores. unwrap_or (slice_get cores number) no_core) is ∙ set_within old.cores number core no_core there

-- each other core stays
pub other_core : (old new : Machine) (number : ℕ) (core : Core) (other : ℕ) → other ≢ number
    → new.cores ≡ slice_set old.cores number core → core_at new other ≡ core_at old other
unfolding core_at
other_core old new number core other apart is =
    ap (λ cores. unwrap_or (slice_get cores other) no_core) is
    ∙ ap (λ found. unwrap_or found no_core) (set_other old.cores number other core apart)
