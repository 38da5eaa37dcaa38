-- Steps with marks: the line of an instruction says what its step is to the text from which the process was rewritten
-- (docs/MARKS.md).
use Rattle.std.specs.Prelude.{◌≡◌, ℕ, Bool, Option, Some, None, Result, Ok}
use Rattle.sb_abi.specs.declared.trampoline.TheConstants.{SCRATCH_ADDRESS}
use Rattle.sb_insn.specs.declared.insn.Insn.{Insn}
use Rattle.sb_insn.specs.declared.registers.Regs.{Regs}
use Rattle.sb_exec.specs.Fetching.{FetchesOn}
use Rattle.sb_exec.specs.Rows.{row_of}
use Rattle.sb_exec.specs.Touching.{touches}
use Rattle.sb_slots.specs.declared.mark.Mark.{Mark}
use Rattle.sb_slots.specs.declared.mark.Mark.TheVariants as mark_of
use Rattle.sb_slots.specs.Marks.{mark}
use Rattle.sb_slots.specs.TextMap.{TextMap, no_map}
use Rattle.sb_state.specs.State.{State, Process, thread_at, process_at}
use Rattle.sb_state.specs.PlainMemory.{plain}
use Rattle.sb_state.specs.Windows.{process_now}
use Rattle.sb_trace.specs.declared.event.Event.{Event}
use Rattle.sb_trace.specs.declared.event.Event.TheVariants.{Step as StepLine, Extra, Stray, Landing}
use Rattle.sb_trace.specs.OneStep.{StepsOnce, without_flights}
use Rattle.sb_trace.specs.Step.{Steps}

-- ---- an instruction

-- the line of an instruction that stood at an address, by its mark
abbrev pub line_of_mark : Mark → ℕ → Event
line_of_mark mark_of.Step rip = StepLine rip
line_of_mark mark_of.Extra rip = Extra rip
line_of_mark mark_of.Stray rip = Stray rip

-- whether an instruction, with these registers, accesses the scratch page
abbrev pub touches_scratch : Insn → Regs → Bool
touches_scratch insn regs = touches SCRATCH_ADDRESS (row_of insn regs)

-- the line of an instruction, with these registers, of a process with this record of its text, where RIP is `next` behind it
abbrev pub line_with_mark : TextMap → Insn → Regs → ℕ → Event
line_with_mark map insn regs next = line_of_mark (mark map regs.rip next (touches_scratch insn regs)) regs.rip

-- a line with its mark, where RIP is `next` behind the step, and this says whether its instruction accessed the scratch page: that
-- of an instruction that went on is marked, and each other stays
abbrev pub event_with_mark : TextMap → ℕ → Bool → Event → Event
event_with_mark map next scratch (StepLine rip) = line_of_mark (mark map rip next scratch) rip
event_with_mark map next scratch event = event

-- ---- a step

-- the record of the text of a process that is there
abbrev pub map_in : Option Process → TextMap
map_in None = no_map
map_in (Some process) = process.map

-- the record of the process that a thread's view shows
abbrev pub map_now : State → ℕ → TextMap
map_now state core = map_in (process_at state (process_now (thread_at state core)))

-- The line of a step with its mark, by the line without it. The instruction that the thread fetched is marked where it went on;
-- each other line stays.
abbrev pub HasMark : State → ℕ → Event → Event → State → Type 0
HasMark old core (StepLine rip) event new =
    (insn : Insn)
    × FetchesOn (plain core (thread_at old core).view) old (thread_at old core).regs.rip tt tt (Ok insn)
    × (event ≡ line_with_mark (map_now old core) insn (thread_at old core).regs (thread_at new core).regs.rip)
HasMark old core unmarked event new = event ≡ unmarked

-- a step of a core, with its mark
abbrev pub StepsWithMark : State → ℕ → Event → State → Type 0
StepsWithMark old core event new = (unmarked : Event) × Steps old core unmarked new × HasMark old core unmarked event new

-- ---- the machine that calls in one step

-- a step of it, with its mark
abbrev pub StepsOnceWithMark : State → ℕ → Event → State → Type 0
StepsOnceWithMark old core event new = (unmarked : Event) × StepsOnce old core unmarked new × HasMark old core unmarked event new

-- a landing step changes only flights; each other step is a step of this machine, with the same line
abbrev pub StepsAlikeWithMark : State → ℕ → Event → State → Type 0
StepsAlikeWithMark old core (Landing phase) new = without_flights new ≡ without_flights old
StepsAlikeWithMark old core event new = StepsOnceWithMark (without_flights old) core event (without_flights new)
