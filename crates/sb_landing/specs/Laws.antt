-- The laws of landings that are executed instruction by instruction.
use Rattle.std.specs.Prelude.{◌≡◌, ◌≢◌, ℕ, ◌==◌, ◌<◌, length, Bool, false, Option, Some, None, Ok, if◌then◌else◌}
use Rattle.sb_insn.specs.declared.registers.Regs.{Regs}
use Rattle.sb_exec.specs.Fetching.{FetchesOn}
use Rattle.sb_trace.specs.declared.event.Event.{Event}
use Rattle.sb_state.specs.declared.state.Flight.{Flight}
use Rattle.sb_trace.specs.State.{State, thread_at, flight_at, with_flight}
use Rattle.sb_trace.specs.PlainMemory.{plain}
use Rattle.sb_trace.specs.Flight.{first_flight}
use Rattle.sb_trace.specs.Step.{Steps}
use Rattle.sb_trace.specs.Sound.{IsSound}
use Rattle.sb_landing.specs.Rows.{row_at, address_of}
use Rattle.sb_exec.specs.Words.{AreWords}
use Rattle.sb_landing.specs.AtPhase.{AtPhase, failed_at}
use Rattle.sb_landing.specs.Lands.{phase_execution, effect_at, behind, line_of, Lands}
use Rattle.sb_landing.specs.Related.{Begun, IsBeside, AreBeside}

-- a step in flight, at whatever phase
abbrev pub PhasesLand : Type 0
PhasesLand =
    (state : State) (number : ℕ) (flight : Flight) (start : Regs) (failed : Bool) (real : Regs) → IsSound state
    → flight_at state number ≡ Some flight → AtPhase state number flight start failed real
    → Lands state number flight start failed real

-- RIP is at the row of the phase
abbrev pub PhasesStand : Type 0
PhasesStand =
    (state : State) (number : ℕ) (flight : Flight) (start : Regs) (failed : Bool) (real : Regs)
    → AtPhase state number flight start failed real
    → real.rip ≡ address_of flight.phase

-- The VMFUNC that begins a flight leaves the registers but for RIP, and the thread is in that flight.
pub record FlightBegins (state : State) (number index : ℕ) : Type 0 where
  pub phase : AtPhase (with_flight state number (Some (first_flight index))) number (first_flight index) (thread_at state
      number).regs false
      (record ((thread_at state number).regs) { rip = address_of 0 })
  pub flight : number < length state.flights
      → flight_at (with_flight state number (Some (first_flight index))) number ≡ Some (first_flight index)

abbrev pub FlightsBegin : Type 0
FlightsBegin = (state : State) (number index : ℕ) → AreWords (thread_at state number).regs → FlightBegins state number index

-- a step of another core leaves what is said of a thread, in flight or not
abbrev pub OthersStay : Type 0
OthersStay =
    (old : State) (core : ℕ) (event : Event) (new : State) (number : ℕ) (begun : Begun) (real : Regs) → IsSound old
    → Steps old core event new → number ≢ core
    → IsBeside old number (flight_at old number) begun real → IsBeside new number (flight_at new number) begun real

-- ---- a step of a thread in flight, beside all threads

-- with another value at a number
abbrev pub set_at : {A : Type 0} → ℕ → A → (ℕ → A) → ℕ → A
set_at core value values number = if number == core then value else values number

-- whether an exchange has failed, by the flight behind the step
abbrev pub failed_behind : Option Flight → Bool → Bool
failed_behind None failed = failed
failed_behind (Some flight) failed = failed_at failed flight

abbrev pub begun_behind : Option Flight → Begun → Begun
begun_behind next begun = record { start = begun.start; failed = failed_behind next begun.failed }

-- The core's thread executes the instruction of its phase: what is fetched, its effect, its pages and its line, and each thread
-- beside the plain machine's next state.
pub record StepsBeside (old : State) (core : ℕ) (event : Event) (new : State) (flight : Flight) (begun : ℕ → Begun)
    (real : ℕ → Regs) : Type 0 where
  pub fetched : FetchesOn (plain core flight.index) old (real core).rip tt tt (Ok (row_at flight.phase).insn)
  pub answer : (phase_execution old core flight (real core)).answer ≡ Ok (effect_at flight.phase)
  pub memory : (phase_execution old core flight (real core)).meaning.pages ≡ new.pages
  pub line : event ≡ line_of flight.phase flight.index (phase_execution old core flight (real core)).registers
  pub beside : AreBeside new (set_at core (begun_behind (flight_at new core) (begun core)) begun)
      (set_at core (behind flight.phase (phase_execution old core flight (real core)).registers) real)

abbrev pub StepsStayBeside : Type 0
StepsStayBeside =
    (old : State) (core : ℕ) (event : Event) (new : State) (flight : Flight) (begun : ℕ → Begun) (real : ℕ → Regs)
    → IsSound old → AreBeside old begun real → flight_at old core ≡ Some flight → Steps old core event new
    → StepsBeside old core event new flight begun real
