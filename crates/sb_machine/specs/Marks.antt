-- Steps of the machine with marks: the line of an instruction says what its step is to the text from which the process was
-- rewritten (docs/MARKS.md).
use Rattle.std.specs.Prelude.{◌≡◌, ℕ, Bool, IsTrue, List, [], ◌∷◌, Ok}
use Rattle.sb_insn.specs.declared.insn.Insn.{Insn}
use Rattle.sb_slots.specs.TextMap.{TextMap}
use Rattle.sb_sub.specs.Kernel.{shown_in}
use Rattle.sb_sub.specs.Refusals.{process_in}
use Rattle.sb_trace.specs.declared.event.Event.{Event}
use Rattle.sb_trace.specs.declared.event.Event.TheVariants as event
use Rattle.sb_trace.specs.Marks.{line_with_mark, map_in, touches_scratch}
use Rattle.sb_machine.specs.Machine.{Machine, state_at}
use Rattle.sb_machine.specs.OwnSteps.{is_own}
use Rattle.sb_machine.specs.Written.{FetchesNext, Steps}

-- the record of the text of the process that a view of a core's thread shows
abbrev pub map_shown : Machine → ℕ → ℕ → TextMap
map_shown machine number view = map_in (process_in machine.kernel (shown_in machine.kernel number view))

-- The line of a step with its mark, by the line without it. The instruction that the core fetched is marked where it went on; each
-- other line stays.
abbrev pub HasMark : Machine → ℕ → Event → Event → Machine → Type 0
HasMark old number (event.Step rip) marked new =
    (insn : Insn) × FetchesNext old number (Ok insn)
    × (marked
    ≡ line_with_mark (map_shown old number (state_at old number).view) insn (state_at old number).regs
    (state_at new number).regs.rip)
HasMark old number unmarked marked new = marked ≡ unmarked

-- whether the instruction at RIP of a core, if one can be fetched there, accesses the scratch page
abbrev pub TellsScratch : Machine → ℕ → Bool → Type 0
TellsScratch machine number scratch =
    (insn : Insn) → FetchesNext machine number (Ok insn) → scratch ≡ touches_scratch insn (state_at machine number).regs

-- a step of a core, with its mark
abbrev pub StepsWithMark : Machine → ℕ → Event → Machine → Type 0
StepsWithMark old number event new = (unmarked : Event) × Steps old number unmarked new × HasMark old number unmarked event new

-- so many steps of one core in which the kernels have no part, with these lines and their marks
unfoldable pub OwnStepsWithMarks : Machine → ℕ → List Event → Machine → Type 0
OwnStepsWithMarks old number [] new = new ≡ old
OwnStepsWithMarks old number (event ∷ events) new =
    (next : Machine) × IsTrue (is_own event) × StepsWithMark old number event next × OwnStepsWithMarks next number events new
