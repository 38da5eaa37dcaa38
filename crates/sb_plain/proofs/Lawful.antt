-- The laws, of one step.
use Rattle.std.proofs.Common.{◌≡◌, ℕ, subst}
use Rattle.sb_trace.specs.declared.event.Event.{Event}
use Rattle.sb_state.specs.State.{State}
use Rattle.sb_trace.specs.Step.{Steps}
use Rattle.sb_trace.specs.Laws.{HasOneSwitch}
use Rattle.sb_trace.specs.Sound.{IsSound}
use Rattle.sb_trace.proofs.SoundRuns.{steps_keep_sound}
use Rattle.sb_trace.proofs.Fetchable.{one_pattern}

-- a step of a state is one of each state that equals it
pub steps_from : (old same : State) (core : ℕ) (event : Event) (new : State) → old ≡ same → Steps old core event new
    → Steps same core event new
steps_from old same core event new is steps = subst (λ (state : State). Steps state core event new) is steps

-- behind a step VMFUNC's bytes may be fetched at one address alone
pub one_switch : (old : State) (core : ℕ) (event : Event) (new : State) → IsSound old → Steps old core event new
    → HasOneSwitch new
one_switch old core event new sound steps thread view address stands =
    one_pattern new thread view address (steps_keep_sound old core event new sound steps).pages stands
