-- A step has one outcome, with landings and without.
use Rattle.std.proofs.Common.{◌≡◌, ◌∙◌, sym, ap, subst, ℕ, Result, Ok, Err}
use Rattle.std.specs.Prelude.{Option, Some, None}
use Rattle.sb_insn.specs.declared.insn.Insn.{Insn}
use Rattle.sb_insn.specs.declared.registers.Regs.{Regs}
use Rattle.sb_bus.specs.declared.stop.BusStop.{BusStop}
use Rattle.sb_bus.specs.declared.stop.BusStop.TheVariants.{Fault as FaultStop, Missing}
use Rattle.sb_exec.specs.declared.action.Effect.{Effect}
use Rattle.sb_exec.proofs.OneFetch.{one_fetch_on}
use Rattle.sb_state.specs.declared.end_kind.EndKind.{EndKind}
use Rattle.sb_state.specs.declared.end_kind.EndKind.TheVariants.{Running, Ended, Faulted}
use Rattle.sb_state.specs.declared.state.Flight.{Flight}
use Rattle.sb_state.specs.declared.state.Thread.{Thread}
use Rattle.sb_state.specs.State.{State, thread_at, flight_at}
use Rattle.sb_state.specs.PlainMemory.{plain}
use Rattle.sb_trace.specs.Home.{Outcome}
use Rattle.sb_trace.specs.KernelCall.{kernel_call}
use Rattle.sb_trace.specs.Flight.{vmfunc_outcome}
use Rattle.sb_trace.specs.Step.{StopsWith, PerformsBy, FollowsFetch, RunsOn, execution_in_view, GoesOn, StepsBy, Steps}
use Rattle.sb_trace.specs.OneStep.{StepsOnceBy, StepsOnce}
use Rattle.sb_trace.specs.declared.event.Event.{Event}

stops_once : (state : State) (core : ℕ) (stop : BusStop) (one other : Outcome) → StopsWith state core stop one
    → StopsWith state core stop other → one ≡ other
stops_once state core (FaultStop kind address) one other first second = first ∙ sym second
stops_once state core (Missing frame) one other first second = absurd first

performs_once : (switch : State → ℕ
    → Outcome) (state : State) (core : ℕ) (insn : Insn) (regs : Regs) (answer : Result Effect BusStop) (regs' : Regs)
    (state' : State)
    (one other : Outcome) → PerformsBy switch state core insn regs answer regs' state' one
    → PerformsBy switch state core insn regs answer regs' state' other → one ≡ other
performs_once switch state core insn regs (Ok effect) regs' state' one other first second = first ∙ sym second
performs_once switch state core insn regs (Err stop) regs' state' one other first second =
    stops_once state core stop one other first second

follows_once : (switch : State → ℕ
    → Outcome) (state : State) (core view : ℕ) (regs : Regs) (fetched : Result Insn BusStop) (one other : Outcome)
    → FollowsFetch switch state core view regs fetched one → FollowsFetch switch state core view regs fetched other → one ≡ other
follows_once switch state core view regs (Ok insn) one other first second =
    performs_once switch state core insn regs (execution_in_view state core view insn regs).answer _ _ one other first second
follows_once switch state core view regs (Err stop) one other first second = stops_once state core stop one other first second

runs_once : (switch : State → ℕ → Outcome) (state : State) (core view : ℕ) (regs : Regs) (one other : Outcome)
    → RunsOn switch state core view regs one
    → RunsOn switch state core view regs other → one ≡ other
runs_once switch state core view regs one other (fetched, fetches, follows) (fetched', fetches', follows') =
    let same = (one_fetch_on (plain core view) state regs.rip tt tt tt fetched fetched' fetches fetches').0 in
    follows_once switch state core view regs fetched' one other
    (subst (λ result. FollowsFetch switch state core view regs result one) same follows) follows'

goes_once : (state : State) (core : ℕ) (thread : Thread) (flight : Option Flight) (one other : Outcome)
    → GoesOn state core thread flight one
    → GoesOn state core thread flight other → one ≡ other
goes_once state core thread None one other first second =
    runs_once vmfunc_outcome state core thread.view thread.regs one other first second
goes_once state core thread (Some flight) one other first second = first ∙ sym second

steps_by_once : (state : State) (core : ℕ) (thread : Thread) (end : EndKind) (one other : Outcome)
    → StepsBy state core thread end one → StepsBy state core thread end other
    → one ≡ other
steps_by_once state core thread Running one other first second =
    goes_once state core thread (flight_at state core) one other first second
steps_by_once state core thread (Ended status) one other first second = first ∙ sym second
steps_by_once state core thread (Faulted kind address) one other first second = first ∙ sym second

one_steps_by_once : (state : State) (core : ℕ) (thread : Thread) (end : EndKind) (one other : Outcome)
    → StepsOnceBy state core thread end one
    → StepsOnceBy state core thread end other → one ≡ other
one_steps_by_once state core thread Running one other first second =
    runs_once kernel_call state core thread.view thread.regs one other first second
one_steps_by_once state core thread (Ended status) one other first second = first ∙ sym second
one_steps_by_once state core thread (Faulted kind address) one other first second = first ∙ sym second

both_parts : (one other : Outcome) → one ≡ other → (one.0 ≡ other.0) × (one.1 ≡ other.1)
both_parts one other same = (ap (λ (outcome : Outcome). outcome.0) same, ap (λ (outcome : Outcome). outcome.1) same)

-- a step has one line and leads to one state
pub steps_once : (old : State) (core : ℕ) (event other : Event) (new another : State) → Steps old core event new
    → Steps old core other another → (event ≡ other) × (new ≡ another)
steps_once old core event other new another first second =
    both_parts (event, new) (other, another)
    (steps_by_once old core (thread_at old core) (thread_at old core).state (event, new) (other, another) first second)

-- and so has one of the machine that calls in one step
pub one_steps_once : (old : State) (core : ℕ) (event other : Event) (new another : State) → StepsOnce old core event new
    → StepsOnce old core other another → (event ≡ other) × (new ≡ another)
one_steps_once old core event other new another first second =
    both_parts (event, new) (other, another)
    (one_steps_by_once old core (thread_at old core) (thread_at old core).state (event, new) (other, another) first second)
