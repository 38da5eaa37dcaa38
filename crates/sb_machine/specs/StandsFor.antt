-- When a machine stands for a state of the plain machine.
use Rattle.std.specs.Prelude.{◌≡◌, ℕ, length, Option, Some, None}
use Rattle.std.specs.Option.{option_map}
use Rattle.sb_state.specs.declared.state.Flight.{Flight}
use Rattle.sb_state.specs.declared.state.Decision.{Decision}
use Rattle.sb_state.specs.declared.state.Thread.{Thread}
use Rattle.sb_trace.specs.State.{State, thread_at, flight_at}
use Rattle.sb_trace.specs.End.{phase_of}
use Rattle.sb_trace.specs.Sound.{IsSound}
use Rattle.sb_shows.specs.Related.{HasCores}
use Rattle.sb_shows.specs.Shows.{index_of}
use Rattle.sb_landing.specs.Related.{Begun, AreBeside}
use Rattle.sb_sub.specs.StandsFor.{StandsFor}
use Rattle.sb_machine.specs.declared.processor.Core.{Core}
use Rattle.sb_machine.specs.declared.processor.Origin.{Origin}
use Rattle.sb_machine.specs.Machine.{Machine, core_at, regs_of, words_of}

-- the place of a thread in flight before the decision: where it stood at the VMFUNC
abbrev pub origin_by : Thread → Option Decision → Option Origin
origin_by thread None = Some (record { regs = thread.regs; view = thread.view })
origin_by thread (Some decided) = None

abbrev pub origin_of : Thread → Option Flight → Option Origin
origin_of thread None = None
origin_of thread (Some flight) = origin_by thread flight.decided

-- A core has the view of its thread, the phase of its flight, and the place that is kept of it; and it has ended as its thread
-- has.
pub record IsCoreOf (thread : Thread) (flight : Option Flight) (core : Core) : Type 0 where
  pub view : core.state.view ≡ index_of flight thread.view
  pub phase : core.state.phase ≡ option_map phase_of flight
  pub end : core.end ≡ thread.state
  pub origin : core.origin ≡ origin_of thread flight

-- The kernels and memory stand for the state, the words of the cores are those of their threads, and so are their registers: in
-- flight those of the phase. The state is sound.
pub record IsMachineOf (machine : Machine) (state : State) : Type 0 where
  pub stands : StandsFor machine.kernel machine.root machine.book machine.memory state
  pub sound : IsSound state
  pub count : length machine.cores ≡ length state.threads
  pub words : HasCores stands.placement state (words_of machine)
  pub begun : ℕ → Begun
  pub beside : AreBeside state begun (regs_of machine)
  pub cores : (number : ℕ) → IsCoreOf (thread_at state number) (flight_at state number) (core_at machine number)
