-- The landing of a call, phase by phase (docs/FORMATS.md, "The landing"). At one phase the call is decided: then the
-- kernel's call is done, in one step. Before, the thread stays as it was at the VMFUNC.
use Rattle.std.specs.Prelude.{ℕ, ◌+◌, ◌==◌, ◌&&◌, ◌||◌, not, nat_le, Bool, true, false, Option, Some, None, if◌then◌else◌}
use Rattle.std.specs.Option.{option_map}
use Rattle.sb_abi.specs.declared.trampoline.TheConstants.{COMPARE_KEY, BRANCH_ON_KEY, LOAD_POOL, BRANCH_ON_POOL, LESS_ONE, EXCHANGE_POOL, BRANCH_ON_EXCHANGE, STACK_OFFSET, ENTER, STATUS_WRONG_KEY, SKIP, STATUS_POOL_EMPTY, LEAVE, GO_HOME, VMFUNC_PHASE}
use Rattle.sb_trace.specs.declared.event.Event.TheVariants.{Landing}
use Rattle.sb_state.specs.declared.state.Binding.{Binding}
use Rattle.sb_state.specs.declared.state.Decision.{Decision}
use Rattle.sb_state.specs.declared.state.Decision.TheVariants as decision
use Rattle.sb_state.specs.declared.state.Flight.{Flight}
use Rattle.sb_state.specs.declared.state.Thread.{Thread}
use Rattle.sb_state.specs.State.{State, thread_at, with_flight}
use Rattle.sb_state.specs.Registers.{eax, ecx, rsi}
use Rattle.sb_trace.specs.Home.{Outcome}
use Rattle.sb_trace.specs.KernelCall.{binding_with, pool_word, kernel_call}

-- ---- what a phase looks at

-- the binding of the flight
abbrev pub flight_binding : Thread → Flight → Option Binding
flight_binding thread flight = binding_with thread.bindings flight.index

abbrev pub is_key : Option Binding → ℕ → Bool
is_key None word = false
is_key (Some binding) word = word == binding.key

-- the pool word of the binding's server
abbrev pub bound_pool : State → Option Binding → ℕ
bound_pool state None = 0
bound_pool state (Some binding) = pool_word state binding.server

-- ---- a phase

-- the phase that loads the pool word makes it the mask
abbrev pub with_mask : ℕ → Flight → Flight
with_mask pool flight = record flight { mask = if flight.phase == LOAD_POOL then pool else flight.mask }

-- whether this phase decides the call, and how: the comparison where the key is wrong, the load of the pool word where no stack
-- is free, and the exchange where the pool word is still the mask, so that it succeeds
unfoldable pub decision_at_phase : ℕ → Bool → ℕ → ℕ → Option Decision
decision_at_phase phase key_fits pool mask =
    if phase == COMPARE_KEY then if key_fits then None else Some decision.WrongKey
    else if phase == LOAD_POOL then if pool == 0 then Some decision.PoolEmpty else None
    else if phase == EXCHANGE_POOL then if pool == mask then Some decision.Entered else None
    else None

abbrev pub is_wrong_key : Option Decision → Bool
is_wrong_key (Some decision.WrongKey) = true
is_wrong_key (Some decision.PoolEmpty) = false
is_wrong_key (Some decision.Entered) = false
is_wrong_key None = false

abbrev pub is_entered : Option Decision → Bool
is_entered (Some decision.Entered) = true
is_entered (Some decision.WrongKey) = false
is_entered (Some decision.PoolEmpty) = false
is_entered None = false

-- the phase behind this one; None where the landing ends
unfoldable pub phase_after : ℕ → Option Decision → ℕ → Option ℕ
phase_after phase decided mask =
    if phase == BRANCH_ON_KEY then Some (if is_wrong_key decided then STATUS_WRONG_KEY else LOAD_POOL)
    else if phase == BRANCH_ON_POOL then Some (if mask == 0 then STATUS_POOL_EMPTY else LESS_ONE)
    else if phase == BRANCH_ON_EXCHANGE then Some (if is_entered decided then STACK_OFFSET else LOAD_POOL)
    else if (phase == ENTER) || nat_le GO_HOME phase then None
    else if phase == SKIP then Some LEAVE
    else Some (phase + 1)

abbrev pub at_phase : Flight → ℕ → Flight
at_phase flight phase = record flight { phase = phase }

-- the flight behind its phase
abbrev pub next_flight : Flight → Option Flight
next_flight flight = option_map (at_phase flight) (phase_after flight.phase flight.decided flight.mask)

-- a phase that decides the call does the kernel's call; each other one lands
abbrev pub phase_outcome : State → ℕ → Flight → Option Decision → Outcome
phase_outcome state core flight None = (Landing flight.phase, with_flight state core (next_flight flight))
phase_outcome state core flight (Some decided) = (
  (kernel_call state core).0,
  with_flight (kernel_call state core).1 core (next_flight (record flight { decided = Some decided })),
)

-- with the binding of the flight
abbrev pub landing_step_by : State → ℕ → Thread → Flight → Option Binding → Outcome
landing_step_by state core thread flight binding =
    phase_outcome state core (with_mask (bound_pool state binding) flight)
    (decision_at_phase flight.phase (is_key binding (rsi thread.regs)) (bound_pool state binding) flight.mask)

-- a step of a thread in flight
unfoldable pub landing_step : State → ℕ → Flight → Outcome
landing_step state core flight =
    landing_step_by state core (thread_at state core) flight (flight_binding (thread_at state core) flight)

-- ---- the VMFUNC

abbrev pub first_flight : ℕ → Flight
first_flight index = record { index = index; phase = COMPARE_KEY; mask = 0; decided = None }

-- the binding into which VMFUNC leads: leaf 0, and its index
abbrev pub called_binding : Thread → Option Binding
called_binding thread =
    if (eax thread.regs == 0) && not (ecx thread.regs == 0) then binding_with thread.bindings (ecx thread.regs) else None

abbrev pub vmfunc_outcome_by : State → ℕ → Option Binding → Outcome
vmfunc_outcome_by state core None = kernel_call state core
vmfunc_outcome_by state core (Some binding) =
    (Landing VMFUNC_PHASE, with_flight state core (Some (first_flight binding.index)))

-- VMFUNC with a landing: a flight begins where it leads into a server; else the kernel's call is done at once
unfoldable pub vmfunc_outcome : State → ℕ → Outcome
vmfunc_outcome state core = vmfunc_outcome_by state core (called_binding (thread_at state core))
