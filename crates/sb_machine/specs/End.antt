-- The end of a run, as the report shows it: a thread in flight as the plain machine has it, which calls in one step.
use Rattle.std.specs.Prelude.{ℕ, ◌+◌, ◌-◌, ◌/◌, ◌%◌, ◌==◌, ◌&&◌, ◌||◌, Bool, nat_le, List, [], ◌∷◌, length, Option, Some, None, slice_index, if◌then◌else◌}
use Rattle.sb_abi.specs.Numbers.{status_number}
use Rattle.sb_abi.specs.declared.call.CallStatus.{CallStatus}
use Rattle.sb_abi.specs.declared.call.CallStatus.TheVariants.{WrongKey, PoolEmpty}
use Rattle.sb_abi.specs.declared.space.TheConstants.{FIRST_STACK_TOP, STACK_DISTANCE}
use Rattle.sb_abi.specs.declared.trampoline.TheConstants.{BRANCH_ON_KEY, TEST_MASK, BRANCH_ON_POOL, BRANCH_ON_EXCHANGE, STACK_OFFSET, ADD_OFFSET, ENTER, STATUS_WRONG_KEY, STATUS_POOL_EMPTY}
use Rattle.sb_insn.specs.declared.registers.Regs.{Regs}
use Rattle.sb_frames.specs.Book.{free_count}
use Rattle.sb_trace.specs.State.{registration_of}
use Rattle.sb_trace.specs.KernelCall.{entry_regs, handler_in, refusal_regs}
use Rattle.sb_trace.specs.declared.end.EndState.{EndState}
use Rattle.sb_trace.specs.declared.end.ThreadEnd.{ThreadEnd}
use Rattle.sb_sub.specs.Kernel.{shown_in}
use Rattle.sb_sub.specs.Refusals.{process_in}
use Rattle.sb_machine.specs.declared.processor.Core.{Core}
use Rattle.sb_machine.specs.declared.processor.Origin.{Origin}
use Rattle.sb_machine.specs.Machine.{Machine}

-- ---- a call in flight that is decided, by its phase and the registers there

-- from the branch behind the exchange that took a stack to the jump to the handler; at each other phase the call is refused
abbrev pub is_entering : ℕ → Bool
is_entering phase = nat_le BRANCH_ON_EXCHANGE phase && nat_le phase ENTER

-- The number of the stack that was taken is in R10. Behind STACK_OFFSET R10 is how far this stack lies above the first, and
-- behind ADD_OFFSET RSP is its top.
abbrev pub stack_number : ℕ → Regs → ℕ
stack_number phase regs =
    (if nat_le phase STACK_OFFSET then slice_index regs.general 10
    else if nat_le phase ADD_OFFSET then slice_index regs.general 10 / STACK_DISTANCE
    else (slice_index regs.general 4 - FIRST_STACK_TOP) / STACK_DISTANCE) % 256

-- the status of a refusal: until R9 has it the phase tells it
abbrev pub refusal_status : ℕ → Regs → CallStatus
refusal_status phase regs =
    if (phase == BRANCH_ON_KEY) || (phase == STATUS_WRONG_KEY) then WrongKey
    else if (phase == TEST_MASK) || ((phase == BRANCH_ON_POOL) || (phase == STATUS_POOL_EMPTY)) then PoolEmpty
    else if slice_index regs.general 9 == status_number WrongKey then WrongKey else PoolEmpty

-- the registers of the call in one step: at the handler, or at home with a status
abbrev pub decided_regs : ℕ → Regs → ℕ → Regs
decided_regs phase regs handler =
    if is_entering phase then entry_regs regs (stack_number phase regs) handler
    else refusal_regs regs (status_number (refusal_status phase regs))

-- a refused call is at home
abbrev pub decided_view : ℕ → ℕ → ℕ
decided_view phase view = if is_entering phase then view else 0

-- ---- a core, as the plain machine has its thread

-- Until a call is decided the thread stands at the VMFUNC. Out of flight it is where its core is.
abbrev pub plain_regs_by : Option Origin → Option ℕ → Regs → ℕ → Regs
plain_regs_by (Some origin) phase regs handler = origin.regs
plain_regs_by None (Some phase) regs handler = decided_regs phase regs handler
plain_regs_by None None regs handler = regs

abbrev pub plain_view_by : Option Origin → Option ℕ → ℕ → ℕ
plain_view_by (Some origin) phase view = origin.view
plain_view_by None (Some phase) view = decided_view phase view
plain_view_by None None view = view

-- the registers, where this is the handler of the server that the core's view shows
abbrev pub plain_regs : Core → ℕ → Regs
plain_regs core handler = plain_regs_by core.origin core.state.phase core.state.regs handler

abbrev pub plain_view : Core → ℕ
plain_view core = plain_view_by core.origin core.state.phase core.state.view

-- ---- the machine

-- the handler of the process that a view of a thread shows; 0 where it is no server
abbrev pub handler_shown : Machine → ℕ → ℕ → ℕ
handler_shown machine number view =
    handler_in (registration_of (process_in machine.kernel (shown_in machine.kernel number view)))

abbrev pub core_end : Machine → ℕ → Core → ThreadEnd
core_end machine number core = record {
  home = shown_in machine.kernel number 0;
  view = plain_view core;
  present = shown_in machine.kernel number (plain_view core);
  state = core.end;
  regs = plain_regs core (handler_shown machine number core.state.view);
  flight = core.state.phase;
}

-- cores in order, of which the first has this number
abbrev pub core_ends : Machine → ℕ → List Core → List ThreadEnd
core_ends machine number [] = []
core_ends machine number (core ∷ cores) = core_end machine number core ∷ core_ends machine (number + 1) cores

abbrev pub machine_end : Machine → EndState
machine_end machine =
    record { threads = core_ends machine 0 machine.cores; free = free_count machine.book; keys = length machine.kernel.keys }
