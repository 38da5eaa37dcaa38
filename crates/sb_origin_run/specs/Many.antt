-- Several threads over one memory, each with its own scratch page.
use Rattle.std.specs.Prelude.{◌≡◌, ℕ, ◌==◌, if◌then◌else◌, List, [], ◌∷◌, map}
use Rattle.sb_insn.specs.declared.registers.Regs.{Regs}
use Rattle.sb_bus.specs.declared.stop.BusStop.{BusStop}
use Rattle.sb_exec.specs.declared.action.Effect.TheVariants.{Next}
use Rattle.sb_exec.specs.Interface.{Interface}
use Rattle.sb_exec.specs.Words.{AreWords}
use Rattle.sb_original.specs.Words.{Words}
use Rattle.sb_origin_run.specs.Machine.{Code, Thread, Event, Ran, Made, step, Line}
use Rattle.sb_origin_run.specs.Position.{Position, is_extra, original_rip, told_event}
use Rattle.sb_origin_run.specs.Related.{IsAt, WhereNext, IsNotStray, IsStraight}

-- ---- the threads

abbrev pub with_at : {Value : Type 0} → ℕ → Value → (ℕ → Value) → ℕ → Value
with_at number value all other = if other == number then value else all other

pub record Threads (Meaning Account : Type 0) : Type 0 where
  pub regs : ℕ → Regs
  pub meaning : Meaning
  pub account : Account

abbrev pub thread_of : {M A : Type 0} → ℕ → Threads M A → Thread M A
thread_of number all = record { regs = all.regs number; meaning = all.meaning; account = all.account }

abbrev pub with_thread : {M A : Type 0} → ℕ → Thread M A → Threads M A → Threads M A
with_thread number one all = record { regs = with_at number one.regs all.regs; meaning = one.meaning; account = one.account }

-- the registers of each are words, and the memory gives bytes
pub record AreOfWords {M A : Type 0} (IsThread : ℕ → Type 0) (HasBytes : M → Type 0) (all : Threads M A) : Type 0 where
  pub regs : (number : ℕ) → IsThread number → AreWords (all.regs number)
  pub bytes : HasBytes all.meaning

-- ---- a run: each thread sees the memory by its own interface, and has its own code

pub record ThreadLine : Type 0 where
  pub thread : ℕ
  pub line : Line

pub record ThreadsRun (Meaning Account : Type 0) : Type 0 where
  pub lines : List ThreadLine
  pub end : Threads Meaning Account

abbrev pub threads_on : {M A : Type 0} → (Threads M A → ThreadsRun M A) → ℕ → Threads M A → Event → Threads M A → ThreadsRun M A
threads_on rest number before (Ran Next) after = record {
  lines = record { thread = number; line = record { rip = (before.regs number).rip; event = Ran Next } } ∷ (rest after).lines;
  end = (rest after).end;
}
threads_on rest number before event after =
    record {
      lines = record { thread = number; line = record { rip = (before.regs number).rip; event = event } } ∷ [];
      end = before;
    }

abbrev pub threads_step : {M A : Type 0} → (ℕ → Interface M A) → (ℕ → Code) → ℕ → Threads M A → Made M A
threads_step buses codes number all = step (buses number) (codes number) (thread_of number all)

-- the entries of a schedule, until a step is not one that goes on
abbrev pub threads_run : {M A : Type 0} → (ℕ → Interface M A) → (ℕ → Code) → List ℕ → Threads M A → ThreadsRun M A
threads_run buses codes [] all = record { lines = []; end = all }
threads_run buses codes (number ∷ schedule) all =
    threads_on (threads_run buses codes schedule) number all (threads_step buses codes number all).event
    (with_thread number (threads_step buses codes number all).thread all)

-- the lines without the extra ones, and the entries that are left
abbrev pub threads_lines : (ℕ → ℕ → Position) → (BusStop → BusStop) → List ThreadLine → List ThreadLine
threads_lines places naming [] = []
threads_lines places naming (one ∷ lines) =
    if is_extra (places one.thread one.line.rip) then threads_lines places naming lines
    else record {
      thread = one.thread;
      line = record {
        rip = original_rip (places one.thread one.line.rip) one.line.rip;
        event = told_event naming one.line.event;
      };
    } ∷ threads_lines places naming lines

abbrev pub entries : List ThreadLine → List ℕ
entries lines = map (λ one. one.thread) lines

-- ---- the words of all threads

-- the original memory, with the words of all threads beside it
abbrev pub WithWords : Type 0 → Type 0
WithWords Other = Other × (ℕ → Words)

-- the memory holds these words of a thread, and those of the others
abbrev pub HoldsOf : {M N : Type 0} → ((ℕ → Words) → M → N → Type 0) → ℕ → Words → M → WithWords N → Type 0
HoldsOf HoldsAll number words meaning other = HoldsAll (with_at number words other.1) meaning other.0

-- no access changes them
abbrev pub beside_words : {N B : Type 0} → Interface N B → Interface (WithWords N) B
beside_words bus = record {
  byte = λ other address how. bus.byte other.0 address how;
  stored = λ other address size value. (bus.stored other.0 address size value, other.1);
  rule = λ call other account. bus.rule call other.0 account;
}

-- ---- related threads: of these numbers, since each has a scratch page

pub record ThreadsRelated {M A N B : Type 0} (IsThread : ℕ → Type 0) (buses : ℕ → Interface M A)
    (HoldsAll : (ℕ → Words) → M → N → Type 0) (places : ℕ → ℕ → Position) (left : Threads M A) (right : Threads N B)
    : Type 0 where
  pub words : ℕ → Words
  pub holds : HoldsAll words left.meaning right.meaning
  pub at : (number : ℕ) → IsThread number
      → IsAt (buses number) (HoldsOf HoldsAll number) (places number (left.regs number).rip)
      (record { regs = left.regs number; words = words number }) (right.regs number)

-- each step of a run is straight
abbrev pub ThreadsStraight : {M A N : Type 0} → (ℕ → Interface M A) → ((ℕ → Words) → M → N → Type 0) → (ℕ → ℕ → ℕ → Type 0)
    → (ℕ → Code) → (ℕ → Code) → (ℕ → ℕ → Position) → List ℕ → Threads M A → Type 0
ThreadsStraight buses HoldsAll IsOutside targets sources places [] left = Unit {0}
ThreadsStraight buses HoldsAll IsOutside targets sources places (number ∷ schedule) left =
    IsStraight (buses number) (HoldsOf HoldsAll number) (IsOutside number) (targets number) (sources number) (places number)
    (thread_of number left)
    × WhereNext (threads_step buses targets number left).event
    (ThreadsStraight buses HoldsAll IsOutside targets sources places schedule
    (with_thread number (threads_step buses targets number left).thread left))

-- no step of a run is stray
abbrev pub ThreadsNotStray : {M A N : Type 0} → (ℕ → Interface M A) → ((ℕ → Words) → M → N → Type 0) → (ℕ → ℕ → ℕ → Type 0)
    → (ℕ → Code) → (ℕ → Code) → (ℕ → ℕ → Position) → List ℕ → Threads M A → Type 0
ThreadsNotStray buses HoldsAll IsOutside targets sources places [] left = Unit {0}
ThreadsNotStray buses HoldsAll IsOutside targets sources places (number ∷ schedule) left =
    IsNotStray (buses number) (HoldsOf HoldsAll number) (IsOutside number) (targets number) (sources number) (places number)
    (thread_of number left)
    × WhereNext (threads_step buses targets number left).event
    (ThreadsNotStray buses HoldsAll IsOutside targets sources places schedule
    (with_thread number (threads_step buses targets number left).thread left))

pub record ThreadsAlike {M A N B : Type 0} (IsThread : ℕ → Type 0) (buses : ℕ → Interface M A)
    (HoldsAll : (ℕ → Words) → M → N → Type 0) (naming : BusStop → BusStop) (places : ℕ → ℕ → Position)
    (rewritten : ThreadsRun M A) (original : ThreadsRun N B) : Type 0 where
  pub lines : original.lines ≡ threads_lines places naming rewritten.lines
  pub end : ThreadsRelated IsThread buses HoldsAll places rewritten.end original.end
