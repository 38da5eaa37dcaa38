-- The machine behind steps that a core has made elsewhere: the core has the state behind them, and memory has the words that they
-- wrote.
use Rattle.std.specs.Prelude.{ℕ, ◌*◌, ◌%◌, ◌==◌, ◌&&◌, ◌||◌, not, nat_le, nat_lt, Bool, true, List, [], ◌∷◌, Option, Some, None, slice_index, if◌then◌else◌}
use Rattle.sb_abi.specs.declared.trampoline.TheConstants.{BRANCH_ON_KEY, TEST_MASK, BRANCH_ON_POOL, BRANCH_ON_EXCHANGE, STACK_OFFSET}
use Rattle.sb_memory.specs.Physical.{Physical, frame_count}
use Rattle.sb_memory.specs.Reading.{with_bytes}
use Rattle.sb_memory.specs.Words.{put_word}
use Rattle.sb_memory.specs.declared.page.TheConstants.{PAGE_SIZE}
use Rattle.sb_insn.specs.declared.registers.Regs.{Regs}
use Rattle.sb_machine.specs.declared.processor.Core.{Core}
use Rattle.sb_machine.specs.declared.processor.CoreState.{CoreState}
use Rattle.sb_machine.specs.declared.processor.Origin.{Origin}
use Rattle.sb_machine.specs.declared.place.Place.{Place}
use Rattle.sb_machine.specs.declared.place.Place.TheVariants.{Word, Core as CoreOf}
use Rattle.sb_machine.specs.declared.place.Seen.{Seen}
use Rattle.sb_machine.specs.Machine.{Machine, core_at, with_core}

-- ---- the core

-- Whether a core that is to do this phase with these registers has no call before its decision. At the branches behind the
-- comparison and the exchange ZF tells it, and at the two phases behind the load of the pool word RAX, which is the mask. Each
-- other phase is only come to before the decision, or only after it.
abbrev pub is_decided : Option ℕ → Regs → Bool
is_decided None regs = true
is_decided (Some phase) regs =
    if phase == BRANCH_ON_KEY then not regs.flags.zf
    else if (phase == TEST_MASK) || (phase == BRANCH_ON_POOL) then slice_index regs.general 0 == 0
    else if phase == BRANCH_ON_EXCHANGE then regs.flags.zf
    else nat_le STACK_OFFSET phase

-- where the thread stood at the VMFUNC is kept where the call is not decided
abbrev pub origin_kept : CoreState → Option Origin → Option Origin
origin_kept after origin = if is_decided after.phase after.regs then None else origin

-- a core with this state
abbrev pub core_with : Core → CoreState → Core
core_with core after = record core { state = after; origin = origin_kept after core.origin }

-- ---- memory

-- whether a word may stand at a place
abbrev pub is_word_place : Physical → ℕ → Bool
is_word_place memory place = (place % 8 == 0) && nat_lt place (PAGE_SIZE * frame_count memory)

-- memory with a word, where one may stand
abbrev pub with_word : Physical → ℕ → ℕ → Physical
with_word memory place word =
    if is_word_place memory place then with_bytes memory (put_word memory.bytes place word) else memory

-- memory with a value at a place
abbrev pub with_value : Physical → Place → ℕ → Physical
with_value memory (Word place) value = with_word memory place value
with_value memory (CoreOf number) value = memory

-- memory with a word that was seen
abbrev pub with_seen : Physical → Seen → Physical
with_seen memory seen = with_value memory seen.place seen.value

-- memory with words, put one after another
unfoldable pub with_seens : Physical → List Seen → Physical
with_seens memory [] = memory
with_seens memory (seen ∷ others) = with_seens (with_seen memory seen) others

-- ---- the machine

-- the machine where a core has this state and has written these words
abbrev pub machine_behind : Machine → ℕ → CoreState → List Seen → Machine
machine_behind machine number after writes =
    record (with_core machine number (core_with (core_at machine number) after)) { memory = with_seens machine.memory writes }
