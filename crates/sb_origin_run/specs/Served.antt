-- Several threads with a kernel: what an instruction does not do, any function does. What each thread sees and has as its
-- code goes by a mode, which only the kernel changes.
use Rattle.std.specs.Prelude.{◌≡◌, ℕ, false, if◌then◌else◌, List, [], ◌∷◌, map}
use Rattle.sb_bus.specs.declared.stop.BusStop.{BusStop}
use Rattle.sb_exec.specs.declared.action.Effect.TheVariants.{Next}
use Rattle.sb_exec.specs.Interface.{Interface}
use Rattle.sb_original.specs.Words.{Words}
use Rattle.sb_origin_run.specs.Machine.{Code, Event, Ran, Made, Line}
use Rattle.sb_origin_run.specs.Position.{Position, is_extra, original_rip, told_event}
use Rattle.sb_origin_run.specs.Related.{IsStraight}
use Rattle.sb_origin_run.specs.Many.{Threads, thread_of, with_thread, threads_step, HoldsOf, ThreadsRelated}

pub record State (Mode Meaning Account : Type 0) : Type 0 where
  pub mode : Mode
  pub threads : Threads Meaning Account

-- a machine, whose kernel serves an event of a thread
pub record System (Mode Meaning Account : Type 0) : Type 0 where
  pub buses : Mode → ℕ → Interface Meaning Account
  pub codes : Mode → ℕ → Code
  pub serve : ℕ → Event → State Mode Meaning Account → State Mode Meaning Account

-- ---- a run

abbrev pub made_of : {V M A : Type 0} → System V M A → ℕ → State V M A → Made M A
made_of system number state = threads_step (system.buses state.mode) (system.codes state.mode) number state.threads

abbrev pub after_event : {V M A : Type 0} → System V M A → ℕ → Event → State V M A → Made M A → State V M A
after_event system number (Ran Next) state made =
    record { mode = state.mode; threads = with_thread number made.thread state.threads }
after_event system number event state made = system.serve number event state

abbrev pub next_state : {V M A : Type 0} → System V M A → ℕ → State V M A → State V M A
next_state system number state = after_event system number (made_of system number state).event state (made_of system number state)

-- a line, with the mode of its step
pub record ServedLine (Mode : Type 0) : Type 0 where
  pub mode : Mode
  pub thread : ℕ
  pub line : Line

abbrev pub line_of : {V M A : Type 0} → System V M A → ℕ → State V M A → ServedLine V
line_of system number state = record {
  mode = state.mode;
  thread = number;
  line = record { rip = (state.threads.regs number).rip; event = (made_of system number state).event };
}

abbrev pub served_lines : {V M A : Type 0} → System V M A → List ℕ → State V M A → List (ServedLine V)
served_lines system [] state = []
served_lines system (number ∷ schedule) state =
    line_of system number state ∷ served_lines system schedule (next_state system number state)

abbrev pub served_end : {V M A : Type 0} → System V M A → List ℕ → State V M A → State V M A
served_end system [] state = state
served_end system (number ∷ schedule) state = served_end system schedule (next_state system number state)

-- ---- its original lines

abbrev pub original_served : {V : Type 0} → (V → ℕ → ℕ → Position) → (BusStop → BusStop) → List (ServedLine V)
    → List (ServedLine V)
original_served places naming [] = []
original_served places naming (one ∷ lines) =
    if is_extra (places one.mode one.thread one.line.rip) then original_served places naming lines
    else record {
      mode = one.mode;
      thread = one.thread;
      line = record {
        rip = original_rip (places one.mode one.thread one.line.rip) one.line.rip;
        event = told_event naming one.line.event;
      };
    } ∷ original_served places naming lines

abbrev pub served_entries : {V : Type 0} → List (ServedLine V) → List ℕ
served_entries lines = map (λ one. one.thread) lines

-- ---- related states

-- In each mode the memory holds the words of the scratch pages that the threads then see.
pub record StatesRelated {V M A N B : Type 0} (IsThread : ℕ → Type 0) (buses : V → ℕ → Interface M A)
    (HoldsAll : V → (ℕ → Words) → M → N → Type 0) (places : V → ℕ → ℕ → Position) (left : State V M A) (right : State V N B)
    : Type 0 where
  pub mode : right.mode ≡ left.mode
  pub threads : ThreadsRelated IsThread (buses left.mode) (HoldsAll left.mode) (places left.mode) left.threads right.threads

-- both kernels serve an event of a thread alike
abbrev pub ServesAlike : {V M A N B : Type 0} → (ℕ → Type 0) → System V M A → System V N B
    → (V → (ℕ → Words) → M → N → Type 0) → (BusStop → BusStop) → (V → ℕ → ℕ → Position) → Type 0
ServesAlike {V} {M} {A} {N} {B} IsThread system original HoldsAll naming places =
    (number : ℕ) (event : Event) (left : State V M A) (right : State V N B) → IsThread number
    → StatesRelated IsThread system.buses HoldsAll places left right → (event ≡ Ran Next → ⊥)
    → (made_of system number left).event ≡ event
    → is_extra (places left.mode number (left.threads.regs number).rip) ≡ false
    → StatesRelated IsThread system.buses HoldsAll places (system.serve number event left)
    (original.serve number (told_event naming event) right)

abbrev pub ServedStraight : {V M A N B : Type 0} → System V M A → System V N B → (V → (ℕ → Words) → M → N → Type 0)
    → (ℕ → ℕ → ℕ → Type 0) → (V → ℕ → ℕ → Position) → List ℕ → State V M A → Type 0
ServedStraight system original HoldsAll IsOutside places [] state = Unit {0}
ServedStraight system original HoldsAll IsOutside places (number ∷ schedule) state =
    IsStraight (system.buses state.mode number) (HoldsOf (HoldsAll state.mode) number) (IsOutside number)
    (system.codes state.mode number) (original.codes state.mode number) (places state.mode number)
    (thread_of number state.threads)
    × ServedStraight system original HoldsAll IsOutside places schedule (next_state system number state)

pub record ServedAlike {V M A N B : Type 0} (IsThread : ℕ → Type 0) (system : System V M A) (original : System V N B)
    (HoldsAll : V → (ℕ → Words) → M → N → Type 0) (naming : BusStop → BusStop) (places : V → ℕ → ℕ → Position)
    (schedule : List ℕ) (left : State V M A) (entries : List ℕ) (right : State V N B) : Type 0 where
  pub lines : served_lines original entries right ≡ original_served places naming (served_lines system schedule left)
  pub end : StatesRelated IsThread system.buses HoldsAll places (served_end system schedule left)
      (served_end original entries right)
