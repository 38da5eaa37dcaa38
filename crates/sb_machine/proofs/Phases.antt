-- The phase at which a core stands is read off RIP, and what becomes of a flight at its phase.
use Rattle.std.proofs.Common.{◌≡◌, ◌≢◌, subst, ℕ, ◌==◌, Bool, true, false, refl, arith}
use Rattle.std.specs.Prelude.{Option, Some, None}
use Rattle.std.specs.List.{AllByRecursion, Contains}
use Rattle.sb_abi.specs.declared.trampoline.TheConstants.{COMPARE_KEY, LOAD_POOL, EXCHANGE_POOL, ENTER, GO_HOME}
use Rattle.sb_state.specs.declared.state.Decision.{Decision}
use Rattle.sb_state.specs.declared.state.Decision.TheVariants as decision
use Rattle.sb_state.specs.declared.state.Flight.{Flight}
use Rattle.sb_trace.specs.Flight.{decision_at_phase, phase_after}
use Rattle.sb_trace.specs.Sound.{phases_of, IsInFlight}
use Rattle.sb_state.specs.declared.state.Thread.{Thread}
use Rattle.sb_trace.proofs.InFlight.{at_phase_of}
use Rattle.sb_landing.specs.Rows.{address_of}
use Rattle.sb_machine.specs.Phase.{phase_at}

-- ---- the phase at an address

abbrev IsRead : ℕ → Type 0
IsRead phase = phase_at (address_of phase) ≡ Some phase

reads : (decided : Option Decision) → AllByRecursion IsRead (phases_of decided)
unfolding phase_at
reads None = (refl, (refl, (refl, (refl, (refl, (refl, (refl, (refl, (refl, (refl, tt))))))))))
reads (Some decision.WrongKey) = (refl, (refl, (refl, (refl, (refl, (refl, (refl, (refl, tt))))))))
reads (Some decision.PoolEmpty) = (refl, (refl, (refl, (refl, (refl, (refl, (refl, (refl, tt))))))))
reads (Some decision.Entered) = (refl, (refl, (refl, (refl, (refl, (refl, (refl, (refl, tt))))))))

-- the phase of a sound flight is read off the address of its row
pub phase_read : (thread : Thread) (flight : Flight) → IsInFlight thread flight
    → phase_at (address_of flight.phase) ≡ Some flight.phase
phase_read thread flight flies = at_phase_of IsRead flight.decided flight.phase (reads flight.decided) flies.phase

-- ---- the end of a flight

-- before the decision no phase ends the flight
goes_on : (mask : ℕ) → AllByRecursion (λ phase. phase_after phase None mask ≢ None) (phases_of None)
unfolding phase_after
goes_on mask =
    (λ is. cc, (λ is. cc, (λ is. cc, (λ is. cc, (λ is. cc, (λ is. cc, (λ is. cc, (λ is. cc, (λ is. cc, (λ is. cc, tt))))))))))

pub undecided_goes_on : (thread : Thread) (flight : Flight) (mask : ℕ) → IsInFlight thread flight → flight.decided ≡ None
    → phase_after flight.phase None mask ≢ None
undecided_goes_on thread flight mask flies none =
    at_phase_of (λ phase. phase_after phase None mask ≢ None) None flight.phase (goes_on mask)
    (subst (λ decided. Contains (phases_of decided) flight.phase) none flies.phase)

-- a refused call ends its flight on its way home
abbrev EndsAtHome : Decision → ℕ → ℕ → Type 0
EndsAtHome decided mask phase = phase_after phase (Some decided) mask ≡ None → phase ≡ GO_HOME

ends_wrong_key : (mask : ℕ) → AllByRecursion (EndsAtHome decision.WrongKey mask) (phases_of (Some decision.WrongKey))
unfolding phase_after
ends_wrong_key mask =
    (λ is. cc, (λ is. cc, (λ is. cc, (λ is. cc, (λ is. cc, (λ is. cc, (λ is. cc, (λ is. refl, tt))))))))

ends_pool_empty : (mask : ℕ) → AllByRecursion (EndsAtHome decision.PoolEmpty mask) (phases_of (Some decision.PoolEmpty))
unfolding phase_after
ends_pool_empty mask =
    (λ is. cc, (λ is. cc, (λ is. cc, (λ is. cc, (λ is. cc, (λ is. cc, (λ is. cc, (λ is. refl, tt))))))))

pub wrong_key_ends : (mask phase : ℕ) → Contains (phases_of (Some decision.WrongKey)) phase
    → EndsAtHome decision.WrongKey mask phase
wrong_key_ends mask phase among =
    at_phase_of (EndsAtHome decision.WrongKey mask) (Some decision.WrongKey) phase (ends_wrong_key mask) among

pub pool_empty_ends : (mask phase : ℕ) → Contains (phases_of (Some decision.PoolEmpty)) phase
    → EndsAtHome decision.PoolEmpty mask phase
pool_empty_ends mask phase among =
    at_phase_of (EndsAtHome decision.PoolEmpty mask) (Some decision.PoolEmpty) phase (ends_pool_empty mask) among

-- an entered call does not go home
abbrev IsAway : ℕ → Type 0
IsAway phase = phase ≢ GO_HOME

away_entered : AllByRecursion IsAway (phases_of (Some decision.Entered))
away_entered = (λ is. cc, (λ is. cc, (λ is. cc, (λ is. cc, (λ is. cc, (λ is. cc, (λ is. cc, (λ is. cc, tt))))))))

pub entered_away : (phase : ℕ) → Contains (phases_of (Some decision.Entered)) phase → phase ≢ GO_HOME
entered_away phase among = at_phase_of IsAway (Some decision.Entered) phase away_entered among

away_undecided : AllByRecursion IsAway (phases_of None)
away_undecided =
    (λ is. cc, (λ is. cc, (λ is. cc, (λ is. cc, (λ is. cc, (λ is. cc, (λ is. cc, (λ is. cc, (λ is. cc, (λ is. cc, tt))))))))))

pub undecided_away : (phase : ℕ) → Contains (phases_of None) phase → phase ≢ GO_HOME
undecided_away phase among = at_phase_of IsAway None phase away_undecided among

-- the jump to the handler ends the flight
pub enter_ends : (decided : Option Decision) (mask : ℕ) → phase_after ENTER decided mask ≡ None
unfolding phase_after
enter_ends decided mask = refl

-- so does the way home
pub home_ends : (decided : Option Decision) (mask : ℕ) → phase_after GO_HOME decided mask ≡ None
unfolding phase_after
home_ends decided mask = refl

-- an entered call ends its flight by that jump alone
abbrev EndsByEntering : ℕ → ℕ → Type 0
EndsByEntering mask phase = phase_after phase (Some decision.Entered) mask ≡ None → phase ≡ ENTER

ends_entered : (mask : ℕ) → AllByRecursion (EndsByEntering mask) (phases_of (Some decision.Entered))
unfolding phase_after
ends_entered mask =
    (λ is. cc, (λ is. cc, (λ is. cc, (λ is. cc, (λ is. cc, (λ is. cc, (λ is. cc, (λ is. refl, tt))))))))

pub entered_ends : (mask phase : ℕ) → Contains (phases_of (Some decision.Entered)) phase → EndsByEntering mask phase
entered_ends mask phase among = at_phase_of (EndsByEntering mask) (Some decision.Entered) phase (ends_entered mask) among

-- ---- a phase that decides

-- the way home decides nothing
pub home_lands : (pool mask : ℕ) (fits : Bool) → decision_at_phase GO_HOME fits pool mask ≡ None
unfolding decision_at_phase
home_lands pool mask fits = refl

-- the jump to the handler decides nothing
pub enter_lands : (pool mask : ℕ) (fits : Bool) → decision_at_phase ENTER fits pool mask ≡ None
unfolding decision_at_phase
enter_lands pool mask fits = refl

deciding_by : (phase pool mask m : ℕ) (fits : Bool) (d e : Decision) (first second third : Bool) → (phase == COMPARE_KEY) ≡ first
    → (phase == LOAD_POOL) ≡ second → (phase == EXCHANGE_POOL) ≡ third
    → decision_at_phase phase fits pool mask ≡ Some d → phase_after phase (Some e) m ≢ None
unfolding decision_at_phase phase_after
deciding_by phase pool mask m fits d e true second third one two three is =
    let same : phase ≡ 0 = grind (arith) in λ none. cc
deciding_by phase pool mask m fits d e false true third one two three is =
    let same : phase ≡ 2 = grind (arith) in λ none. cc
deciding_by phase pool mask m fits d e false false true one two three is =
    let same : phase ≡ 8 = grind (arith) in λ none. cc
deciding_by phase pool mask m fits d e false false false one two three is = absurd cc

-- behind a phase that decides the flight goes on
pub deciding_goes_on : (phase pool mask m : ℕ) (fits : Bool) (d e : Decision) → decision_at_phase phase fits pool mask ≡ Some d
    → phase_after phase (Some e) m ≢ None
deciding_goes_on phase pool mask m fits d e is =
    deciding_by phase pool mask m fits d e (phase == COMPARE_KEY) (phase == LOAD_POOL) (phase == EXCHANGE_POOL) refl refl refl is
