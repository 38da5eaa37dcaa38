-- The machine that calls in one step: the plain machine without landings. VMFUNC does the kernel's call at once.
use Rattle.std.specs.Prelude.{◌≡◌, ℕ, List, [], ◌∷◌}
use Rattle.sb_state.specs.declared.end_kind.EndKind.{EndKind}
use Rattle.sb_state.specs.declared.end_kind.EndKind.TheVariants.{Running, Ended, Faulted}
use Rattle.sb_trace.specs.declared.event.Event.{Event}
use Rattle.sb_trace.specs.declared.event.Event.TheVariants.{Idle, Landing}
use Rattle.sb_trace.specs.declared.event.Line.{Line}
use Rattle.sb_state.specs.declared.state.Thread.{Thread}
use Rattle.sb_state.specs.State.{State, thread_at}
use Rattle.sb_trace.specs.Home.{Outcome}
use Rattle.sb_trace.specs.KernelCall.{kernel_call}
use Rattle.sb_trace.specs.Step.{RunsOn}

-- ---- the step

-- a running thread executes an instruction, one that has ended is idle
abbrev pub StepsOnceBy : State → ℕ → Thread → EndKind → Outcome → Type 0
StepsOnceBy state core thread Running outcome = RunsOn kernel_call state core thread.view thread.regs outcome
StepsOnceBy state core thread (Ended status) outcome = outcome ≡ (Idle, state)
StepsOnceBy state core thread (Faulted kind address) outcome = outcome ≡ (Idle, state)

-- a step of a core, which runs the thread of its number
abbrev pub StepsOnce : State → ℕ → Event → State → Type 0
StepsOnce state core event state' = StepsOnceBy state core (thread_at state core) (thread_at state core).state (event, state')

-- ---- beside the machine with landings

-- this machine has no flights
abbrev pub without_flights : State → State
without_flights state = record state { flights = [] }

-- a landing step changes only flights; each other step is a step of this machine, with the same line
abbrev pub StepsAlike : State → ℕ → Event → State → Type 0
StepsAlike old core (Landing phase) new = without_flights new ≡ without_flights old
StepsAlike old core event new = StepsOnce (without_flights old) core event (without_flights new)

-- the line before the others, if it is none of a landing
abbrev pub with_line : Line → Event → List Line → List Line
with_line line (Landing phase) lines = lines
with_line line _ lines = line ∷ lines

-- the lines that belong to no landing
abbrev pub without_landings : List Line → List Line
without_landings [] = []
without_landings (line ∷ lines) = with_line line line.event (without_landings lines)

abbrev pub core_of : Line → ℕ
core_of line = line.core
