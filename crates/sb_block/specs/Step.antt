-- One step of a core over physical memory of which frames may be missing: what the machine's step is where the kernels have no
-- part in it.
use Rattle.std.specs.Prelude.{ℕ, ◌+◌, ◌%◌, ◌^◌, ◌==◌, ◌≡◌, Some, Result, Ok, Err, nat_lt, if◌then◌else◌}
use Rattle.sb_abi.specs.declared.trampoline.TheConstants.{COMPARE_KEY, VMFUNC_PHASE}
use Rattle.sb_memory.specs.Physical.{Physical, frame_count}
use Rattle.sb_memory.specs.Accounts.{PhysCall, account_after_words}
use Rattle.sb_memory.specs.declared.address.Missing.{Missing}
use Rattle.sb_insn.specs.declared.insn.Insn.{Insn}
use Rattle.sb_insn.specs.declared.registers.Regs.{Regs}
use Rattle.sb_bus.specs.declared.stop.BusStop.{BusStop}
use Rattle.sb_bus.specs.declared.stop.BusStop.TheVariants as stop
use Rattle.sb_exec.specs.declared.action.Effect.{Effect}
use Rattle.sb_exec.specs.declared.action.Effect.TheVariants.{Next, Syscall, Switch, Undefined}
use Rattle.sb_exec.specs.Execution.{Execution, execution_of}
use Rattle.sb_exec.specs.Fetching.{FetchesOn}
use Rattle.sb_exec.specs.Rows.{row_of}
use Rattle.sb_walks.specs.Entry.{frame_in}
use Rattle.sb_nested.specs.View.{View}
use Rattle.sb_nested.specs.Store.{view_interface}
use Rattle.sb_root.specs.declared.switch_answer.Switch.{Switch as ListAnswer}
use Rattle.sb_root.specs.declared.switch_answer.Switch.TheVariants.{To, Unbound, BadLeaf}
use Rattle.sb_root.specs.Switch.{switch_result, switch_reads}
use Rattle.sb_state.specs.Registers.{eax, ecx}
use Rattle.sb_trace.specs.declared.event.Event.{Event}
use Rattle.sb_trace.specs.declared.event.Event.TheVariants.{Landing}
use Rattle.sb_machine.specs.declared.processor.CoreState.{CoreState}
use Rattle.sb_machine.specs.Machine.{seen_by}
use Rattle.sb_machine.specs.Outcomes.{line_by, home_state, regs_behind, home_line}
use Rattle.sb_machine.specs.Phase.{phase_behind}

-- a rule by which a memory accounts for its calls
abbrev pub Rule : Type 0 → Type 0
Rule Account = PhysCall → Physical → Account → Account

-- a core over physical memory, with the memory's account
pub record At (Account : Type 0) : Type 0 where
  pub core : CoreState
  pub memory : Physical
  pub account : Account

-- what a step comes to: the core goes on, with this line; it meets a frame that is not there; or it is the kernels' to do
pub data CoreOutcome (Account : Type 0) : Type 0 where
  Made : (event : Event) (after : At Account) → CoreOutcome Account
  Needs : (frame : ℕ) → CoreOutcome Account
  Kernel : CoreOutcome Account

-- a refused access: a missing frame, or a fault, which is the kernels'
abbrev pub stop_outcome : {Account : Type 0} → BusStop → CoreOutcome Account
stop_outcome (stop.Missing frame) = Needs frame.0
stop_outcome (stop.Fault kind address) = Kernel

-- the core has made one line more, modulo 2^64
abbrev pub with_made : CoreState → CoreState
with_made core = record core { made = (core.made + 1) % 2 ^ 64 }

-- ---- an instruction that goes on

-- the core behind it, with these registers
abbrev pub state_behind : CoreState → Regs → CoreState
state_behind core regs = with_made (record core { regs = regs; phase = phase_behind core.phase regs.rip })

abbrev pub next_outcome : {Account : Type 0} → CoreState → Regs → Physical → Account → CoreOutcome Account
next_outcome core regs memory account =
    Made (line_by core.phase core.view core.regs.rip regs)
    (record { core = state_behind core regs; memory = memory; account = account })

-- ---- VMFUNC

-- the core in a server's view, where a flight begins
abbrev pub state_in_flight : CoreState → Insn → ℕ → ℕ → CoreState
state_in_flight core insn index eptp =
    record core { regs = regs_behind insn core.regs; eptp = eptp; view = index; phase = Some COMPARE_KEY }

-- into the view of this index, through this pointer: home, or into a server
abbrev pub view_outcome : {Account : Type 0} → CoreState → Insn → ℕ → ℕ → Physical → Account → CoreOutcome Account
view_outcome core insn index eptp memory account =
    if index == 0
    then Made (home_line core.phase core.view)
    (record { core = with_made (home_state eptp core (regs_behind insn core.regs)); memory = memory; account = account })
    else Made (Landing VMFUNC_PHASE)
    (record { core = with_made (state_in_flight core insn index eptp); memory = memory; account = account })

-- By the answer of the list. A switch that it refuses is the kernels', and so is one to a pointer that leads to no frame: no
-- list of a machine that stands for a state has such a one, copies of its frames may.
abbrev pub switch_outcome_by
    : {Account : Type 0} → CoreState → Insn → ℕ → Physical → Account → Result ListAnswer Missing → CoreOutcome Account
switch_outcome_by core insn index memory account (Ok (To eptp)) =
    if nat_lt (frame_in eptp) (frame_count memory) then view_outcome core insn index eptp memory account else Kernel
switch_outcome_by core insn index memory account (Ok Unbound) = Kernel
switch_outcome_by core insn index memory account (Ok BadLeaf) = Kernel
switch_outcome_by core insn index memory account (Err gap) = Needs gap.frame.0

abbrev pub switch_outcome : {Account : Type 0} → Rule Account → CoreState → Insn → Physical → Account → CoreOutcome Account
switch_outcome rule core insn memory account =
    switch_outcome_by core insn (ecx core.regs) memory
    (account_after_words rule memory (switch_reads core.list.0 (eax core.regs) (ecx core.regs)) account)
    (switch_result memory core.list.0 (eax core.regs) (ecx core.regs))

-- ---- the step

-- by what the instruction answers, over the memory before it
abbrev pub answer_outcome : {Account : Type 0} → Rule Account → CoreState → Insn → Physical → Execution View Account
    → Result Effect BusStop → CoreOutcome Account
answer_outcome rule core insn memory execution (Ok Next) =
    next_outcome core execution.registers execution.meaning.physical execution.account
answer_outcome rule core insn memory execution (Ok Switch) = switch_outcome rule core insn memory execution.account
answer_outcome rule core insn memory execution (Ok Syscall) = Kernel
answer_outcome rule core insn memory execution (Ok Undefined) = Kernel
answer_outcome rule core insn memory execution (Err stop) = stop_outcome stop

-- what an instruction leaves of what the core sees
abbrev pub core_execution : {Account : Type 0} → Rule Account → CoreState → Insn → Physical → Account → Execution View Account
core_execution rule core insn memory account =
    execution_of (view_interface rule) (row_of insn core.regs) core.regs (seen_by memory core) account

-- by what was fetched, with the account after the fetch
abbrev pub fetch_outcome
    : {Account : Type 0} → Rule Account → CoreState → Physical → Account → Result Insn BusStop → CoreOutcome Account
fetch_outcome rule core memory account (Ok insn) =
    answer_outcome rule core insn memory (core_execution rule core insn memory account)
    (core_execution rule core insn memory account).answer
fetch_outcome rule core memory account (Err stop) = stop_outcome stop

-- a step by a memory's rule: the instruction at RIP is fetched through the nested walk and executed
pub record CoreSteps {Account : Type 0} (rule : Rule Account) (before : At Account) (outcome : CoreOutcome Account) : Type 0
  where
    pub fetched : Result Insn BusStop
    pub account : Account
    pub fetches : FetchesOn (view_interface rule) (seen_by before.memory before.core) before.core.regs.rip before.account account
        fetched
    pub comes : outcome ≡ fetch_outcome rule before.core before.memory account fetched
