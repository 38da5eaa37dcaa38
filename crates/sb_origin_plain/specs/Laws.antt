-- The laws, as statements.
use Rattle.std.specs.Prelude.{◌≡◌, ◌≢◌, ℕ, ◌<◌, List, length, true, Some}
use Rattle.std.specs.List.{AllByRecursion}
use Rattle.sb_pages.specs.declared.page.PageName.{PageName}
use Rattle.sb_pages.specs.declared.page.PageName.TheVariants.{Scratch}
use Rattle.sb_state.specs.State.{State, find_page, with_contents, thread_at}
use Rattle.sb_state.specs.Windows.{process_shown}
use Rattle.sb_state.specs.PlainMemory.{plain}
use Rattle.sb_trace.specs.Table.{is_there}
use Rattle.sb_trace.specs.Sound.{IsSound}
use Rattle.sb_original.specs.Words.{Words, HasWords}
use Rattle.sb_original.specs.Beside.{AreBeside}
use Rattle.sb_insn.specs.declared.registers.Regs.{Regs}
use Rattle.sb_origin_run.specs.Machine.{Code, Thread, run}
use Rattle.sb_origin_run.specs.Position.{Position, is_open, original_lines}
use Rattle.sb_origin_run.specs.Many.{Threads, threads_run, threads_lines, entries, HoldsOf, beside_words, AreOfWords, ThreadsRelated, ThreadsNotStray, ThreadsAlike}
use Rattle.sb_origin_run.specs.Text.{IsMadeOf}
use Rattle.sb_origin_run.specs.Related.{Related, AreNotStray, RunAlike}
use Rattle.sb_origin_run.specs.Registers.{AreInstructions, KeepsBytes, IsOfWords}
use Rattle.sb_origin_plain.specs.Memory.{scratch_words, AreBesideScratch, HoldsBeside, HoldAllBeside, HaveBytes, IsOutside, same_stop}

-- the memory of a thread in a view keeps words in the scratch page
abbrev pub PlainHasWords : Type 0
PlainHasWords = (thread view : ℕ) → HasWords (plain thread view) (HoldsBeside thread view)

-- and is beside that of the other machine
abbrev pub PlainAreBeside : Type 0
PlainAreBeside =
    (thread view : ℕ) → AreBeside (plain thread view) (plain thread view) (HoldsBeside thread view) IsOutside same_stop

-- A sound state in which the view of the thread shows a process holds the words of its scratch page, beside each such state.
abbrev pub SoundHolds : Type 0
SoundHolds =
    (thread view process : ℕ) (state other : State) → IsSound state → process_shown state.threads thread view ≡ Some process
    → AreBesideScratch state other → HoldsBeside thread view (scratch_words state thread view) state other

-- what it loads is a byte, and each store keeps it so
abbrev pub PlainKeepsBytes : Type 0
PlainKeepsBytes = (thread view : ℕ) → KeepsBytes (plain thread view) HaveBytes

-- as in each sound state
abbrev pub SoundHaveBytes : Type 0
SoundHaveBytes = (state : State) → IsSound state → HaveBytes state

-- the same pages, but for what stands in one scratch page
pub record SameButScratch (thread view : ℕ) (state other : State) : Type 0 where
  pub shown : (number index : ℕ) → process_shown other.threads number index ≡ process_shown state.threads number index
  pub pages : (name : PageName) → name ≢ Scratch thread view → find_page other.pages name ≡ find_page state.pages name
  pub there : is_there other.pages (Scratch thread view) ≡ is_there state.pages (Scratch thread view)

-- A state is beside each that has the same pages but for what stands in the scratch page of one view, as with other bytes in
-- it.
abbrev pub ScratchMayDiffer : Type 0
ScratchMayDiffer = (thread view : ℕ) (state other : State) → SameButScratch thread view state other → AreBesideScratch state other

abbrev pub OtherScratchBytes : Type 0
OtherScratchBytes =
    (thread view : ℕ) (state : State) (bytes : List ℕ)
    → SameButScratch thread view state (with_contents state (Scratch thread view) bytes)

-- ---- several threads

-- the numbers below a count
abbrev pub IsBelow : ℕ → ℕ → Type 0
IsBelow count number = number < count

-- the memory of each of so many threads, in its view, keeps words in its scratch page, and leaves those of the others
abbrev pub PlainHaveWords : Type 0
PlainHaveWords =
    (count : ℕ) (views : ℕ → ℕ) (number : ℕ) → IsBelow count number
    → HasWords (plain number (views number)) (HoldsOf (HoldAllBeside count views) number)

abbrev pub PlainAllBeside : Type 0
PlainAllBeside =
    (count : ℕ) (views : ℕ → ℕ) (number : ℕ) → IsBelow count number
    → AreBeside (plain number (views number)) (beside_words (plain number (views number)))
    (HoldsOf (HoldAllBeside count views) number) IsOutside same_stop

-- the threads of a sound state, each in its present view
abbrev pub views_of : State → ℕ → ℕ
views_of state number = (thread_at state number).view

abbrev pub words_of : State → ℕ → Words
words_of state number = scratch_words state number (views_of state number)

-- A sound state holds the words of the scratch pages of all its threads.
abbrev pub SoundHoldsAll : Type 0
SoundHoldsAll =
    (state other : State) → IsSound state → AreBesideScratch state other
    → HoldAllBeside (length state.threads) (views_of state) (words_of state) state other

-- ---- runs

-- a thread with these registers on a memory, which keeps no account
abbrev pub on_memory : Regs → State → Thread State (Unit {0})
on_memory regs state = record { regs = regs; meaning = state; account = tt }

-- From a sound state a thread at an open position begins related, with the same registers on each state beside it.
abbrev pub SoundRelated : Type 0
SoundRelated =
    (thread view process : ℕ) (state other : State) (regs : Regs) (place : ℕ → Position) → IsSound state
    → process_shown state.threads thread view ≡ Some process → AreBesideScratch state other → is_open (place regs.rip) ≡ true
    → Related (plain thread view) (HoldsBeside thread view) place (on_memory regs state) (on_memory regs other)

-- On plain memory code that the table of forms has made runs as the code of which it was made, where no step is stray.
abbrev pub PlainRuns : Type 0
PlainRuns =
    (thread view : ℕ) (target source : Code) (place : ℕ → Position) → IsMadeOf target source place → AreInstructions target
    → (count : ℕ) (left right : Thread State (Unit {0}))
    → Related (plain thread view) (HoldsBeside thread view) place left right → IsOfWords HaveBytes left
    → AreNotStray (plain thread view) (HoldsBeside thread view) IsOutside target source place count left
    → RunAlike (plain thread view) (HoldsBeside thread view) same_stop place (run (plain thread view) target count left)
    (run (plain thread view) source
    (length (original_lines place same_stop (run (plain thread view) target count left).lines)) right)

-- the threads of a state on its memory
abbrev pub threads_of : State → State → Threads State (Unit {0})
threads_of state memory = record { regs = λ number. (thread_at state number).regs; meaning = memory; account = tt }

-- From a sound state threads at open positions begin related, with the same registers on each state beside it.
abbrev pub SoundThreadsRelated : Type 0
SoundThreadsRelated =
    (state other : State) (places : ℕ → ℕ → Position) → IsSound state → AreBesideScratch state other
    → ((number : ℕ) → IsBelow (length state.threads) number → is_open (places number (thread_at state number).regs.rip) ≡ true)
    → ThreadsRelated (IsBelow (length state.threads)) (λ number. plain number (views_of state number))
    (HoldAllBeside (length state.threads) (views_of state)) places (threads_of state state) (threads_of state other)

-- Several threads, each in its view, run rewritten code as the original code, where no step is stray.
abbrev pub PlainThreadsRun : Type 0
PlainThreadsRun =
    (count : ℕ) (views : ℕ → ℕ) (targets sources : ℕ → Code) (places : ℕ → ℕ → Position)
    → ((number : ℕ) → IsBelow count number → IsMadeOf (targets number) (sources number) (places number))
    → ((number : ℕ) → IsBelow count number → AreInstructions (targets number))
    → (schedule : List ℕ) (left right : Threads State (Unit {0})) → AllByRecursion (IsBelow count) schedule
    → ThreadsRelated (IsBelow count) (λ number. plain number (views number)) (HoldAllBeside count views) places left right
    → AreOfWords (IsBelow count) HaveBytes left
    → ThreadsNotStray (λ number. plain number (views number)) (HoldAllBeside count views) (λ number. IsOutside) targets sources
    places schedule left
    → ThreadsAlike (IsBelow count) (λ number. plain number (views number)) (HoldAllBeside count views) same_stop places
    (threads_run (λ number. plain number (views number)) targets schedule left)
    (threads_run (λ number. plain number (views number)) sources
    (entries
    (threads_lines places same_stop (threads_run (λ number. plain number (views number)) targets schedule left).lines))
    right)
