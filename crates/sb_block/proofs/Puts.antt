-- A core and a memory that are put in a machine.
use Rattle.std.proofs.Common.{◌≡◌, ap, ◌∙◌, ℕ, zero, suc, ◌<◌, List, [], ◌∷◌, length, refl, arith, slice_set}
use Rattle.std.specs.Prelude.{Option, slice_get, unwrap_or}
use Rattle.std.proofs.lemmas.List.{set-set}
use Rattle.sb_memory.specs.Physical.{Physical}
use Rattle.sb_machine.specs.declared.processor.Core.{Core}
use Rattle.sb_machine.specs.declared.processor.CoreState.{CoreState}
use Rattle.sb_machine.specs.declared.processor.Origin.{Origin}
use Rattle.sb_machine.specs.Machine.{Machine, no_core, core_at, with_core}
use Rattle.sb_machine.specs.Outcomes.{count_made, with_line}
use Rattle.sb_machine.proofs.Cores.{own_core}

-- a machine with this core and this memory
abbrev pub machine_with : Machine → ℕ → Core → Physical → Machine
machine_with machine number core memory = record (with_core machine number core) { memory = memory }

-- a core with this state, and this place at the VMFUNC of its call
abbrev pub core_with : Core → CoreState → Option Origin → Core
core_with core state origin = record core { state = state; origin = origin }

-- an element that is put where it stands changes nothing
set_back : {A : Type 0} (list : List A) (index : ℕ) (default : A) → index < length list
    → slice_set list index (unwrap_or (slice_get list index) default) ≡ list
set_back [] index default within = absurd (omega (arith, within))
set_back (first ∷ list) zero default within = refl
set_back {A} (first ∷ list) (suc index) default within =
    ap (λ (others : List A). first ∷ others) (set_back list index default (omega arith))

module _ (machine : Machine) (number : ℕ) (there : number < length machine.cores) where
  -- the core and the memory of the machine itself
  pub put_back : machine_with machine number (core_at machine number) machine.memory ≡ machine
  unfolding core_at
  put_back =
      ap (λ (cores : List Core). record machine { cores = cores }) (set_back machine.cores number no_core there)

  -- the core that was put
  pub core_put : (core : Core) (memory : Physical) → core_at (machine_with machine number core memory) number ≡ core
  core_put core memory = own_core machine (machine_with machine number core memory) number core there refl

  -- a core and a memory that are put over others
  pub put_over : (core other : Core) (memory later : Physical)
      → machine_with (machine_with machine number core memory) number other later ≡ machine_with machine number other later
  put_over core other memory later =
      ap (λ (cores : List Core). record machine { cores = cores; memory = later }) (set-set machine.cores number core other)

  -- the core that was put has made one line more
  pub line_counted : (core : Core) (memory : Physical)
      → with_line (machine_with machine number core memory) number ≡ machine_with machine number (count_made core) memory
  line_counted core memory =
      ap (λ (one : Core). with_core (machine_with machine number core memory) number (count_made one)) (core_put core memory)
      ∙ put_over core (count_made core) memory memory
