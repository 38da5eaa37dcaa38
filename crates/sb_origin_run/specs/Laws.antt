-- The laws, as statements.
use Rattle.std.specs.Prelude.{◌≡◌, ℕ, List, length}
use Rattle.std.specs.List.{AllByRecursion}
use Rattle.sb_insn.specs.declared.registers.Regs.{Regs}
use Rattle.sb_bus.specs.declared.stop.BusStop.{BusStop}
use Rattle.sb_exec.specs.Interface.{Interface}
use Rattle.sb_original.specs.Words.{Words, HasWords}
use Rattle.sb_original.specs.Slot.{Slotted}
use Rattle.sb_original.specs.Beside.{AreBeside}
use Rattle.sb_exec.specs.Words.{AreWords}
use Rattle.sb_original.specs.Original.{IsRegs}
use Rattle.sb_origin_run.specs.Machine.{Code, Thread, step, run}
use Rattle.sb_origin_run.specs.Position.{Position, is_extra, original_at, original_lines, Stands}
use Rattle.sb_origin_run.specs.Text.{IsMadeOf}
use Rattle.sb_origin_run.specs.Served.{State, System, served_lines, original_served, served_entries, StatesRelated, ServesAlike, ServedStraight, ServedAlike}
use Rattle.sb_origin_run.specs.Many.{Threads, threads_run, threads_lines, entries, HoldsOf, beside_words, AreOfWords, ThreadsRelated, ThreadsStraight, ThreadsNotStray, ThreadsAlike}
use Rattle.sb_origin_run.specs.Related.{IsAt, AccessesAt, Related, IsStraight, AreStraight, AreNotStray, StepAlike, RunAlike}
use Rattle.sb_origin_run.specs.Registers.{AreInstructions, KeepsBytes, IsOfWords}

-- the original registers of a thread are a function of its registers and its words
abbrev pub OriginalState : {M A N : Type 0} → Interface M A → (Words → M → N → Type 0) → Type 0
OriginalState bus Holds = (at : Position) (state : Slotted) (regs : Regs) → IsAt bus Holds at state regs
    → original_at at state ≡ regs

-- what the instructions of a slot access
abbrev pub SlotAccesses : {M A N : Type 0} → Interface M A → (Words → M → N → Type 0) → Type 0
SlotAccesses bus Holds = (at : Position) (state : Slotted) (regs : Regs) → IsAt bus Holds at state regs → AccessesAt at state regs

-- one step
abbrev pub StepsAlike : {M A N B : Type 0} → Interface M A → Interface N B → (Words → M → N → Type 0) → (ℕ → ℕ → Type 0)
    → (BusStop → BusStop) → Code → Code → (ℕ → Position) → Type 0
StepsAlike {M} {A} {N} {B} bus original Holds IsOutside naming target source place =
    AreBeside bus original Holds IsOutside naming → ((address : ℕ) → Stands bus Holds target source place address (place address))
    → (left : Thread M A) (right : Thread N B) → Related bus Holds place left right
    → IsStraight bus Holds IsOutside target source place left
    → StepAlike bus Holds naming place (place left.regs.rip) left right (step bus target left) (step original source right)
    (is_extra (place left.regs.rip))

-- a run of so many entries, none of them stray
abbrev pub RunsAlike : {M A N B : Type 0} → Interface M A → Interface N B → (Words → M → N → Type 0) → (ℕ → ℕ → Type 0)
    → (BusStop → BusStop) → Code → Code → (ℕ → Position) → Type 0
RunsAlike {M} {A} {N} {B} bus original Holds IsOutside naming target source place =
    AreBeside bus original Holds IsOutside naming → ((address : ℕ) → Stands bus Holds target source place address (place address))
    → (count : ℕ) (left : Thread M A) (right : Thread N B) → Related bus Holds place left right
    → AreStraight bus Holds IsOutside target source place count left
    → RunAlike bus Holds naming place (run bus target count left)
    (run original source (length (original_lines place naming (run bus target count left).lines)) right)

-- ---- registers

-- words are registers of a machine
abbrev pub WordsAreRegs : Type 0
WordsAreRegs = (regs : Regs) → AreWords regs → IsRegs regs

-- a step leaves words
abbrev pub StepsKeepWords : {M A : Type 0} → Interface M A → (M → Type 0) → Code → Type 0
StepsKeepWords {M} {A} bus HasBytes target =
    KeepsBytes bus HasBytes → AreInstructions target → (left : Thread M A) → IsOfWords HasBytes left
    → IsOfWords HasBytes (step bus target left).thread

-- so a run that begins with words needs no more than that no step is stray
abbrev pub WordsRunStraight : {M A N : Type 0} → Interface M A → (Words → M → N → Type 0) → (ℕ → ℕ → Type 0) → (M → Type 0)
    → Code → Code → (ℕ → Position) → Type 0
WordsRunStraight {M} {A} bus Holds IsOutside HasBytes target source place =
    KeepsBytes bus HasBytes → AreInstructions target → (count : ℕ) (left : Thread M A) → IsOfWords HasBytes left
    → AreNotStray bus Holds IsOutside target source place count left
    → AreStraight bus Holds IsOutside target source place count left

-- ---- several threads

-- a run of several threads of these numbers, each with its own words
abbrev pub ThreadsRunAlike : {M A N B : Type 0} → (ℕ → Type 0) → (ℕ → Interface M A) → (ℕ → Interface N B) →
    ((ℕ → Words) → M → N → Type 0)
    → (ℕ → ℕ → ℕ → Type 0) → (BusStop → BusStop) → (ℕ → Code) → (ℕ → Code) → (ℕ → ℕ → Position) → Type 0
ThreadsRunAlike {M} {A} {N} {B} IsThread buses originals HoldsAll IsOutside naming targets sources places =
    ((number : ℕ) → IsThread number
    → AreBeside (buses number) (beside_words (originals number)) (HoldsOf HoldsAll number) (IsOutside number) naming)
    → ((number : ℕ) → IsThread number → (address : ℕ)
    → Stands (buses number) (HoldsOf HoldsAll number) (targets number) (sources number) (places number) address
    (places number address))
    → (schedule : List ℕ) (left : Threads M A) (right : Threads N B) → AllByRecursion IsThread schedule
    → ThreadsRelated IsThread buses HoldsAll places left right
    → ThreadsStraight buses HoldsAll IsOutside targets sources places schedule left
    → ThreadsAlike IsThread buses HoldsAll naming places (threads_run buses targets schedule left)
    (threads_run originals sources (entries (threads_lines places naming (threads_run buses targets schedule left).lines))
    right)

-- where they begin with words, no more is needed than that no step is stray
abbrev pub WordsThreadsStraight : {M A N : Type 0} → (ℕ → Type 0) → (ℕ → Interface M A) → ((ℕ → Words) → M → N → Type 0)
    → (ℕ → ℕ → ℕ → Type 0) → (M → Type 0) → (ℕ → Code) → (ℕ → Code) → (ℕ → ℕ → Position) → Type 0
WordsThreadsStraight {M} {A} IsThread buses HoldsAll IsOutside HasBytes targets sources places =
    ((number : ℕ) → IsThread number → KeepsBytes (buses number) HasBytes)
    → ((number : ℕ) → IsThread number → AreInstructions (targets number))
    → (schedule : List ℕ) (left : Threads M A) → AllByRecursion IsThread schedule → AreOfWords IsThread HasBytes left
    → ThreadsNotStray buses HoldsAll IsOutside targets sources places schedule left
    → ThreadsStraight buses HoldsAll IsOutside targets sources places schedule left

-- ---- what the table of forms has made

-- what the table made of a code stands for it
abbrev pub TextStands : {M A N : Type 0} → Interface M A → (Words → M → N → Type 0) → Code → Code → (ℕ → Position) → Type 0
TextStands bus Holds target source place = HasWords bus Holds → IsMadeOf target source place → (address : ℕ)
    → Stands bus Holds target source place address (place address)

-- a run of such a code is, without the extra lines, one of the original code, and ends in its state
abbrev pub RewrittenRuns : {M A N B : Type 0} → Interface M A → Interface N B → (Words → M → N → Type 0) → (ℕ → ℕ → Type 0)
    → (BusStop → BusStop) → Code → Code → (ℕ → Position) → Type 0
RewrittenRuns {M} {A} {N} {B} bus original Holds IsOutside naming target source place =
    HasWords bus Holds → AreBeside bus original Holds IsOutside naming → IsMadeOf target source place
    → (count : ℕ) (left : Thread M A) (right : Thread N B) → Related bus Holds place left right
    → AreStraight bus Holds IsOutside target source place count left
    → RunAlike bus Holds naming place (run bus target count left)
    (run original source (length (original_lines place naming (run bus target count left).lines)) right)

-- the same of several threads
abbrev pub RewrittenThreadsRun : {M A N B : Type 0} → (ℕ → Type 0) → (ℕ → Interface M A) → (ℕ → Interface N B)
    → ((ℕ → Words) → M → N → Type 0) → (ℕ → ℕ → ℕ → Type 0) → (BusStop → BusStop) → (ℕ → Code) → (ℕ → Code)
    → (ℕ → ℕ → Position) → Type 0
RewrittenThreadsRun {M} {A} {N} {B} IsThread buses originals HoldsAll IsOutside naming targets sources places =
    ((number : ℕ) → IsThread number → HasWords (buses number) (HoldsOf HoldsAll number))
    → ((number : ℕ) → IsThread number
    → AreBeside (buses number) (beside_words (originals number)) (HoldsOf HoldsAll number) (IsOutside number) naming)
    → ((number : ℕ) → IsThread number → IsMadeOf (targets number) (sources number) (places number))
    → (schedule : List ℕ) (left : Threads M A) (right : Threads N B) → AllByRecursion IsThread schedule
    → ThreadsRelated IsThread buses HoldsAll places left right
    → ThreadsStraight buses HoldsAll IsOutside targets sources places schedule left
    → ThreadsAlike IsThread buses HoldsAll naming places (threads_run buses targets schedule left)
    (threads_run originals sources (entries (threads_lines places naming (threads_run buses targets schedule left).lines))
    right)

-- the same with a kernel that serves alike, in each mode of which the table has made the code
abbrev pub RewrittenSystemRuns : {V M A N B : Type 0} → (ℕ → Type 0) → System V M A → System V N B
    → (V → (ℕ → Words) → M → N → Type 0) → (ℕ → ℕ → ℕ → Type 0) → (BusStop → BusStop) → (V → ℕ → ℕ → Position) → Type 0
RewrittenSystemRuns {V} {M} {A} {N} {B} IsThread system original HoldsAll IsOutside naming places =
    ((mode : V) (number : ℕ) → IsThread number → HasWords (system.buses mode number) (HoldsOf (HoldsAll mode) number))
    → ((mode : V) (number : ℕ) → IsThread number
    → AreBeside (system.buses mode number) (beside_words (original.buses mode number)) (HoldsOf (HoldsAll mode) number)
    (IsOutside number) naming)
    → ((mode : V) (number : ℕ) → IsThread number
    → IsMadeOf (system.codes mode number) (original.codes mode number) (places mode number))
    → ServesAlike IsThread system original HoldsAll naming places
    → (schedule : List ℕ) (left : State V M A) (right : State V N B) → AllByRecursion IsThread schedule
    → StatesRelated IsThread system.buses HoldsAll places left right
    → ServedStraight system original HoldsAll IsOutside places schedule left
    → ServedAlike IsThread system original HoldsAll naming places schedule left
    (served_entries (original_served places naming (served_lines system schedule left))) right
