-- Steps of a core that it makes by itself, and the machine's own steps of that core: they are the same.
use Rattle.std.proofs.Common.{◌≡◌, sym, subst, ℕ, suc, ◌+◌, ◌<◌, ◌≤◌, List, ◌∷◌, length, get_or, drop, add-one, drop-cons}
use Rattle.std.proofs.lemmas.List.{drop_all}
use Rattle.sb_block.specs.Block.{OneOwnStep}
use Rattle.sb_trace.specs.declared.event.Event.{Event}
use Rattle.sb_trace.specs.declared.event.Event.TheVariants.{Idle}
use Rattle.sb_machine.specs.Machine.{Machine}
use Rattle.sb_machine.specs.OwnSteps.{OwnSteps}
use Rattle.sb_machine.specs.Written.{Steps}

-- the machine's step is the first of them
step_less : OneOwnStep → (machine next : Machine) (core : ℕ) (line first : Event) (events : List Event) (new : Machine)
    → Steps machine core line next → OwnSteps machine core (first ∷ events) new → OwnSteps next core events new
unfolding OwnSteps
step_less law machine next core line first events new made (mid, own, step, rest) =
    subst (λ (machine : Machine). OwnSteps machine core events new) (law machine core first line mid next own step made).1 rest

-- the steps that are left, less the first
pub steps_less : OneOwnStep → (machine next : Machine) (core : ℕ) (line : Event) (events : List Event) (index : ℕ) (new : Machine)
    → index < length events → Steps machine core line next → OwnSteps machine core (drop index events) new
    → OwnSteps next core (drop (index + 1) events) new
steps_less law machine next core line events index new inside made left =
    rw (add-one index) (step_less law machine next core line (get_or events index Idle) (drop (suc index) events) new made
    (subst (λ (list : List Event). OwnSteps machine core list new) (drop-cons events index Idle inside) left))

-- where none is left
pub steps_none : (machine : Machine) (core : ℕ) (events : List Event) (index : ℕ) (new : Machine) → length events ≤ index
    → OwnSteps machine core (drop index events) new → machine ≡ new
unfolding OwnSteps
steps_none machine core events index new past left =
    let none = subst (λ (list : List Event). OwnSteps machine core list new) (drop_all index events past) left in sym none
