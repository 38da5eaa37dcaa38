-- A process whose text was rewritten, beside the same process with its own text.
use Rattle.std.specs.Prelude.{◌≡◌, ℕ, ◌+◌, ◌<◌, ◌≤◌, true, List, length, Some, Ok, slice_index}
use Rattle.sb_insn.specs.declared.insn.Insn.{Insn}
use Rattle.sb_insn.specs.declared.registers.Regs.{Regs}
use Rattle.sb_abi.specs.declared.space.TheConstants.{WINDOW_BYTES}
use Rattle.sb_pages.specs.declared.page.PageName.{PageName}
use Rattle.sb_pages.specs.declared.page.PageName.TheVariants.{Text, Area, HomeTrampoline, ServerTrampoline}
use Rattle.sb_pages.specs.declared.page.Page.{Page}
use Rattle.sb_exec.specs.Fetching.{fetch_of}
use Rattle.sb_exec.specs.Row.{Row}
use Rattle.sb_exec.specs.Execution.{execution_of}
use Rattle.sb_exec.specs.Words.{AreWords}
use Rattle.sb_forms.specs.Answers.{area_end}
use Rattle.sb_rewrite.specs.Placing.{area_address, places}
use Rattle.sb_rewrite.specs.RewrittenText.{RewrittenText, rewritten_text}
use Rattle.sb_state.specs.State.{State, find_page}
use Rattle.sb_state.specs.Windows.{process_shown}
use Rattle.sb_state.specs.PlainMemory.{plain}
use Rattle.sb_trace.specs.Code.{code_byte}
use Rattle.sb_trace.specs.Sound.{IsSound}
use Rattle.sb_origin_run.specs.Machine.{Code, run}
use Rattle.sb_origin_run.specs.Position.{is_open, original_lines}
use Rattle.sb_origin_run.specs.Related.{AreNotStray, RunAlike}
use Rattle.sb_origin_plain.specs.Memory.{AreBesideScratch, HoldsBeside, IsOutside, same_stop}
use Rattle.sb_origin_plain.specs.Laws.{on_memory}
use Rattle.sb_origin_text.specs.Codes.{IsListed}
use Rattle.sb_origin_text.specs.Positions.{position}
use Rattle.sb_origin_text.specs.Fetched.{HaveTexts, target_row, source_row, code_in}

-- ---- texts in pages

-- the pages with these names, one behind another, begin with these bytes
abbrev pub BeginsPages : List Page → (ℕ → PageName) → List ℕ → Type 0
BeginsPages pages name bytes =
    (offset : ℕ) → offset < length bytes → code_byte pages name offset ≡ Some (slice_index bytes offset)

-- The text of a process and its rewrite area stand in one machine, and the original text in the other. Behind the text its
-- pages are filled up alike, and the trampoline is the same.
pub record IsRewritten (process : ℕ) (text : List ℕ) (made : RewrittenText) (state other : State) : Type 0 where
  pub size : length text ≤ WINDOW_BYTES
  pub same_size : length made.text ≡ length text
  pub area_size : area_address + length made.area ≤ area_end
  pub in_text : BeginsPages state.pages (Text process) made.text
  pub in_area : BeginsPages state.pages (Area process) made.area
  pub original : BeginsPages other.pages (Text process) text
  pub behind : (offset : ℕ) → length text ≤ offset
      → code_byte other.pages (Text process) offset ≡ code_byte state.pages (Text process) offset
  pub home : find_page other.pages HomeTrampoline ≡ find_page state.pages HomeTrampoline
  pub server : find_page other.pages ServerTrampoline ≡ find_page state.pages ServerTrampoline

-- what may be fetched is a byte
abbrev pub HaveCodeBytes : State → Type 0
HaveCodeBytes state =
    (thread view address byte : ℕ) → fetch_of (plain thread view) state address ≡ Ok byte → byte < 256

-- A view that shows the process fetches the rewritten text from the one, and the original text from the other.
abbrev pub ProcessHaveTexts : Type 0
ProcessHaveTexts =
    (thread view process : ℕ) (text : List ℕ) (made : RewrittenText) (state other : State)
    → process_shown state.threads thread view ≡ Some process → AreBesideScratch state other
    → IsRewritten process text made state other → HaveCodeBytes state → HaveCodeBytes other
    → HaveTexts text made (fetch_of (plain thread view) state) (fetch_of (plain thread view) other)

-- ---- the codes of a thread in a view

-- of the machine with the rewritten text
abbrev pub target_of : ℕ → ℕ → State → Code
target_of thread view state = code_in (fetch_of (plain thread view) state) target_row

-- of the machine with the original text
abbrev pub source_of : List ℕ → ℕ → ℕ → State → Code
source_of text thread view state = code_in (fetch_of (plain thread view) state) (source_row text)

-- An instruction of any thread changes nothing that is fetched, so the codes stay as it goes on.
abbrev pub FetchesStay : Type 0
FetchesStay =
    (thread view number index : ℕ) (row : Row) (regs : Regs) (state : State)
    → fetch_of (plain number index) (execution_of (plain thread view) row regs state tt).meaning
    ≡ fetch_of (plain number index) state

-- ---- a run

-- From a sound state a thread at an open position runs the rewritten text as the same thread of the other machine runs the
-- original text, where no step is stray.
abbrev pub ProcessRuns : Type 0
ProcessRuns =
    (thread view process : ℕ) (text : List ℕ) (insns : List Insn) (state other : State) (regs : Regs) (count : ℕ)
    → IsSound state → process_shown state.threads thread view ≡ Some process → AreBesideScratch state other
    → IsListed text insns → IsRewritten process text (rewritten_text (places text insns)) state other
    → HaveCodeBytes state → HaveCodeBytes other → AreWords regs → is_open (position text insns regs.rip) ≡ true
    → AreNotStray (plain thread view) (HoldsBeside thread view) IsOutside (target_of thread view state)
    (source_of text thread view other) (position text insns) count (on_memory regs state)
    → RunAlike (plain thread view) (HoldsBeside thread view) same_stop (position text insns)
    (run (plain thread view) (target_of thread view state) count (on_memory regs state))
    (run (plain thread view) (source_of text thread view other)
    (length
    (original_lines (position text insns) same_stop
    (run (plain thread view) (target_of thread view state) count (on_memory regs state)).lines))
    (on_memory regs other))
