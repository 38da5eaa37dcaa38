-- The laws of runs of the plain machine (docs/LAWS.md).
use Rattle.std.specs.Prelude.{◌≡◌, ℕ, ◌*◌, ◌%◌, ◌^◌, ◌<◌, ◌≤◌, List, length, take, drop, Option, Some, None}
use Rattle.std.specs.List.{AllByRecursion}
use Rattle.sb_abi.specs.declared.space.TheConstants.{WINDOW_BYTES, WINDOW_PAGES, WINDOW_THREADS, AREA_PAGES, MAX_PROCESSES}
use Rattle.sb_abi.specs.declared.trampoline.TheConstants.{VMFUNC_ADDRESS}
use Rattle.sb_memory.specs.declared.page.TheConstants.{PAGE_SIZE}
use Rattle.sb_scan.specs.Pattern.{pattern, HasNoPattern}
use Rattle.sb_exec.specs.Fetching.{Stands, fetch_of}
use Rattle.sb_trace.specs.declared.event.Event.{Event}
use Rattle.sb_trace.specs.declared.event.Event.TheVariants.{Landing, WrongKey, PoolEmpty, Entered}
use Rattle.sb_trace.specs.declared.end.EndState.{EndState}
use Rattle.sb_trace.specs.declared.event.Line.{Line}
use Rattle.sb_state.specs.declared.state.Decision.{Decision}
use Rattle.sb_state.specs.declared.state.Decision.TheVariants as decision
use Rattle.sb_state.specs.declared.state.Flight.{Flight}
use Rattle.sb_state.specs.declared.page.Page.{Page}
use Rattle.sb_state.specs.State.{State, find_page, thread_at, flight_at}
use Rattle.sb_state.specs.Registers.{rsi}
use Rattle.sb_trace.specs.Flight.{flight_binding, is_key, bound_pool, decision_at_phase}
use Rattle.sb_state.specs.Windows.{process_shown}
use Rattle.sb_state.specs.PlainMemory.{plain}
use Rattle.sb_trace.specs.Start.{ProcessImage, ThreadEntry, start_state}
use Rattle.sb_trace.specs.Run.{RunBy}
use Rattle.sb_trace.specs.Step.{Steps}
use Rattle.sb_trace.specs.End.{end_of}
use Rattle.sb_trace.specs.OneStep.{StepsAlike, without_flights, without_landings}
use Rattle.sb_trace.specs.Marks.{StepsWithMark, StepsAlikeWithMark}
use Rattle.sb_trace.specs.Runs.{Runs, RunsAtOnce, IsTextOfRun}
use Rattle.sb_trace.specs.Report.{report_text}
use Rattle.sb_trace.specs.LandingText.{without_landing_lines}
use Rattle.sb_trace.specs.Sound.{IsSound}
use Rattle.sb_trace.specs.Changes.{StepChanges}

-- ---- sound states

-- VMFUNC's bytes stand nowhere in text and rewrite area, starts are words, initial data are bytes, and each is within its window
pub record IsImageSound (image : ProcessImage) : Type 0 where
  pub text : HasNoPattern image.text
  pub area : HasNoPattern image.area
  pub starts : AllByRecursion (λ start. start < 2 ^ 64) image.map.starts
  pub initial : AllByRecursion (λ byte. byte < 256) image.initial
  pub text_length : length image.text ≤ WINDOW_BYTES
  pub area_length : length image.area ≤ AREA_PAGES * PAGE_SIZE
  pub initial_length : length image.initial ≤ WINDOW_BYTES
  pub heap : image.heap_pages ≤ WINDOW_PAGES

-- the thread's home is one of so many processes, and it starts at an address
abbrev pub IsEntrySound : ℕ → ThreadEntry → Type 0
IsEntrySound processes entry = (entry.home < processes) × (entry.address < 2 ^ 64)

-- at most sixteen sound images, at most 32 entries in them, and key words start a sound state
abbrev pub StartIsSound : Type 0
StartIsSound =
    (images : List ProcessImage) (entries : List ThreadEntry) (free : ℕ) (keys : List ℕ) → AllByRecursion IsImageSound images
    → length images ≤ MAX_PROCESSES
    → AllByRecursion (IsEntrySound (length images)) entries
    → length entries ≤ WINDOW_THREADS
    → AllByRecursion (λ key. key < 2 ^ 64) keys → IsSound (start_state images entries free keys)

abbrev pub StepsKeepSound : Type 0
StepsKeepSound = (old : State) (core : ℕ) (event : Event) (new : State) → IsSound old → Steps old core event new → IsSound new

abbrev pub RunsKeepSound : Type 0
RunsKeepSound = (old : State) (cores : List ℕ) (lines : List Line) (new : State) → IsSound old → Runs old cores lines new
    → IsSound new

-- each page that a step adds has a name that no page had
abbrev pub AddedPagesAreNew : Type 0
AddedPagesAreNew =
    (old : State) (core : ℕ) (event : Event) (new : State) → IsSound old → Steps old core event new
    → AllByRecursion (λ (page : Page). find_page old.pages page.name ≡ None) (drop (length old.pages) new.pages)

-- ---- the laws

-- from each state and list of cores there is one run of a machine
abbrev pub HasOneRun : (State → ℕ → Event → State → Type 0) → Type 0
HasOneRun step =
    (old new another : State) (cores : List ℕ) (lines others : List Line) → RunBy step old cores lines new
    → RunBy step old cores others another
    → (lines ≡ others) × (new ≡ another)

-- a step of a landing leaves the machine that calls in one step where it is, and each other step is one of its steps
abbrev pub StepsDrop : Type 0
StepsDrop = (old : State) (core : ℕ) (event : Event) (new : State) → IsSound old → Steps old core event new
    → StepsAlike old core event new

-- and so it is with marks
abbrev pub StepsWithMarkDrop : Type 0
StepsWithMarkDrop = (old : State) (core : ℕ) (event : Event) (new : State) → IsSound old → StepsWithMark old core event new
    → StepsAlikeWithMark old core event new

-- Without the landing lines and their entries of the schedule, a run is one of the machine that calls in one step.
abbrev pub LandingsDrop : Type 0
LandingsDrop =
    (old : State) (cores : List ℕ) (lines : List Line) (new : State) → IsSound old → Runs old cores lines new
    → RunsAtOnce old lines new

-- the decision of a flight's phase, if it decides
abbrev pub decision_at : State → ℕ → Flight → Option Decision
decision_at state core flight =
    decision_at_phase flight.phase (is_key (flight_binding (thread_at state core) flight) (rsi (thread_at state core).regs))
    (bound_pool state (flight_binding (thread_at state core) flight)) flight.mask

-- the line of a decision
abbrev pub IsLineOf : Decision → ℕ → Event → Type 0
IsLineOf decision.WrongKey index event = event ≡ WrongKey index
IsLineOf decision.PoolEmpty index event = event ≡ PoolEmpty index
IsLineOf decision.Entered index event = (slot : ℕ) × (event ≡ Entered index slot)

abbrev pub IsFlightLine : ℕ → Option Decision → ℕ → Event → Type 0
IsFlightLine phase None index event = event ≡ Landing phase
IsFlightLine phase (Some decided) index event = IsLineOf decided index event

-- A step in flight has the landing line of its phase, or that of the decision.
abbrev pub FlightLines : Type 0
FlightLines =
    (old : State) (core : ℕ) (event : Event) (new : State) (flight : Flight) → IsSound old → Steps old core event new
    → flight_at old core ≡ Some flight
    → IsFlightLine flight.phase (decision_at old core flight) flight.index event

-- what a step may change
abbrev pub StepsChange : Type 0
StepsChange = (old : State) (core : ℕ) (event : Event) (new : State) → Steps old core event new → StepChanges old core event new

-- with its mark a line permits what it permits without
abbrev pub StepsWithMarkChange : Type 0
StepsWithMarkChange = (old : State) (core : ℕ) (event : Event) (new : State) → StepsWithMark old core event new
    → StepChanges old core event new

-- VMFUNC's bytes stand at three consecutive addresses, each of which may be fetched, at one address only, in every view of
-- every thread
abbrev pub HasOneSwitch : State → Type 0
HasOneSwitch state =
    (thread view address : ℕ) → Stands (fetch_of (plain thread view) state) address pattern → address % 2 ^ 64 ≡ VMFUNC_ADDRESS

abbrev pub OnePattern : Type 0
OnePattern = (state : State) → IsSound state → HasOneSwitch state

-- the same of each state of a run: each prefix of it ends in one
abbrev pub KeepsOneSwitch : State → List ℕ → List Line → Type 0
KeepsOneSwitch first schedule lines =
    (count : ℕ) (state : State) → Runs first (take count schedule) (take count lines) state → HasOneSwitch state

abbrev pub RunsKeepOneSwitch : Type 0
RunsKeepOneSwitch = (first : State) (schedule : List ℕ) (lines : List Line) → IsSound first → KeepsOneSwitch first schedule lines

-- and there they do stand, in each view that shows a process
abbrev pub SwitchStands : Type 0
SwitchStands =
    (state : State) (thread view process address : ℕ) → IsSound state → process_shown state.threads thread view ≡ Some process
    → address % 2 ^ 64 ≡ VMFUNC_ADDRESS → Stands (fetch_of (plain thread view) state) address pattern

-- ---- the text of a run

-- of a run from one state by one schedule there is one text
abbrev pub HasOneText : Type 0
HasOneText =
    (text_of : List Line → EndState → List ℕ) (first : State) (schedule text other : List ℕ)
    → IsTextOfRun text_of first schedule text → IsTextOfRun text_of first schedule other → text ≡ other

-- this text is written of the run, and the laws hold of it
abbrev pub IsTextOfLawfulRun : (List Line → EndState → List ℕ) → State → List ℕ → List ℕ → Type 0
IsTextOfLawfulRun text_of first schedule text =
    (lines : List Line) × (end : State) × Runs first schedule lines end × (text ≡ text_of lines (end_of end))
    × RunsAtOnce first lines end × KeepsOneSwitch first schedule lines

abbrev pub TextsAreOfLawfulRuns : Type 0
TextsAreOfLawfulRuns =
    (text_of : List Line → EndState → List ℕ) (first : State) (schedule text : List ℕ) → IsSound first
    → IsTextOfRun text_of first schedule text → IsTextOfLawfulRun text_of first schedule text

-- ---- the report

-- this text, without its lines of landings, is the report of these lines and this state without flights
abbrev pub ReportsAtOnce : List ℕ → List Line → State → Type 0
ReportsAtOnce text lines end = without_landing_lines text ≡ report_text (without_landings lines) (end_of (without_flights end))

abbrev pub ReportsDrop : Type 0
ReportsDrop = (lines : List Line) (end : State) → ReportsAtOnce (report_text lines (end_of end)) lines end

-- The text is the report of a run of which the laws hold. Without its lines of landings it is the report of the run of the
-- machine that calls in one step.
abbrev pub IsReportOfLawfulRun : State → List ℕ → List ℕ → Type 0
IsReportOfLawfulRun first schedule text =
    (lines : List Line) × (end : State) × Runs first schedule lines end × (text ≡ report_text lines (end_of end))
    × RunsAtOnce first lines end × ReportsAtOnce text lines end × KeepsOneSwitch first schedule lines

abbrev pub ReportsAreOfLawfulRuns : Type 0
ReportsAreOfLawfulRuns =
    (first : State) (schedule text : List ℕ) → IsSound first → IsTextOfRun report_text first schedule text
    → IsReportOfLawfulRun first schedule text
