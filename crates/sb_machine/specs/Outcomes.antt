-- What instructions and kernels do to a machine.
use Rattle.std.specs.Prelude.{ℕ, ◌+◌, ◌%◌, ◌^◌, ◌==◌, Option, Some, None, Result, Ok, Err, if◌then◌else◌}
use Rattle.sb_abi.specs.Numbers.{status_number}
use Rattle.sb_abi.specs.declared.call.CallStatus.TheVariants as status
use Rattle.sb_abi.specs.declared.trampoline.TheConstants.{COMPARE_KEY, VMFUNC_PHASE}
use Rattle.sb_memory.specs.Physical.{Physical}
use Rattle.sb_memory.specs.Words.{word_at}
use Rattle.sb_memory.specs.declared.address.Missing.{Missing}
use Rattle.sb_insn.specs.declared.insn.Insn.{Insn}
use Rattle.sb_insn.specs.declared.registers.Regs.{Regs}
use Rattle.sb_bus.specs.declared.stop.FaultKind.{FaultKind}
use Rattle.sb_bus.specs.declared.stop.FaultKind.TheVariants as kind
use Rattle.sb_exec.specs.Operand.{next_rip}
use Rattle.sb_walks.specs.Entry.{entry_in}
use Rattle.sb_root.specs.declared.switch_answer.Switch.{Switch}
use Rattle.sb_root.specs.declared.switch_answer.Switch.TheVariants.{To, Unbound as UnboundList, BadLeaf as OtherLeaf}
use Rattle.sb_root.specs.Switch.{switch_result}
use Rattle.sb_calls.specs.SyscallRegisters.{server_fault_regs}
use Rattle.sb_state.specs.Registers.{eax, ecx}
use Rattle.sb_state.specs.declared.end_kind.EndKind.{EndKind}
use Rattle.sb_state.specs.declared.end_kind.EndKind.TheVariants.{Ended, Faulted}
use Rattle.sb_trace.specs.declared.event.Event.{Event}
use Rattle.sb_trace.specs.declared.event.Event.TheVariants as event
use Rattle.sb_trace.specs.KernelCall.{refusal_regs}
use Rattle.sb_landing.specs.Lands.{line_of}
use Rattle.sb_sub.specs.declared.answer.Answer.{Answer}
use Rattle.sb_sub.specs.declared.answer.Answer.TheVariants as answer
use Rattle.sb_machine.specs.declared.processor.CoreState.{CoreState}
use Rattle.sb_machine.specs.declared.processor.Core.{Core}
use Rattle.sb_machine.specs.declared.processor.Origin.{Origin}
use Rattle.sb_machine.specs.Machine.{Machine, core_at, state_at, with_core, with_state}
use Rattle.sb_machine.specs.Phase.{phase_behind}

-- a line, and the machine after it
abbrev pub Outcome : Type 0
Outcome = Event × Machine

-- ---- an instruction that goes on

-- the line of an instruction: in flight by the phase and the registers behind it
abbrev pub line_by : Option ℕ → ℕ → ℕ → Regs → Event
line_by None view rip regs = event.Step rip
line_by (Some phase) view rip regs = line_of phase view regs

-- the thread's place at the VMFUNC is kept until the call is decided
abbrev pub origin_behind : Event → Option Origin → Option Origin
origin_behind (event.Landing phase) origin = origin
origin_behind _ origin = None

-- the core behind it, with these registers
abbrev pub core_behind : Core → Regs → Core
core_behind core regs = record core {
  state = record core.state { regs = regs; phase = phase_behind core.state.phase regs.rip };
  origin = origin_behind (line_by core.state.phase core.state.view core.state.regs.rip regs) core.origin;
}

abbrev pub next_outcome : Machine → ℕ → Regs → Physical → Outcome
next_outcome machine number regs memory = (
  line_by (state_at machine number).phase (state_at machine number).view (state_at machine number).regs.rip regs,
  record (with_core machine number (core_behind (core_at machine number) regs)) { memory = memory },
)

-- ---- the way home, and faults

-- the EPT pointer of a core's home view
abbrev pub home_eptp : Physical → CoreState → ℕ
home_eptp memory state = word_at memory.bytes (entry_in state.list.0 0)

-- a core in its home view, through this pointer, with these registers
abbrev pub home_state : ℕ → CoreState → Regs → CoreState
home_state eptp state regs = record state { regs = regs; eptp = eptp; view = 0; phase = None }

-- a thread that is sent home
abbrev pub machine_at_home : Machine → ℕ → Machine
machine_at_home machine number =
    with_state machine number
    (home_state (home_eptp machine.memory (state_at machine number)) (state_at machine number) server_fault_regs)

-- the thread has ended so
abbrev pub with_end : Machine → ℕ → EndKind → Machine
with_end machine number end = with_core machine number (record (core_at machine number) { end = end })

-- a fault at home ends the thread with its registers as before; in a server's view it sends the thread home
abbrev pub fault_outcome : Machine → ℕ → FaultKind → ℕ → Outcome
fault_outcome machine number kind address =
    if (state_at machine number).view == 0 then (event.Fault kind address, with_end machine number (Faulted kind address))
    else (event.ServerFault kind address, machine_at_home machine number)

-- ---- VMFUNC

-- a switch that the kernel refuses: at home with a status, in a server's view as a fault at the VMFUNC
abbrev pub refusal_outcome : Machine → ℕ → Event → ℕ → Outcome
refusal_outcome machine number line status =
    if (state_at machine number).view == 0
    then (
      line,
      with_state machine number (record (state_at machine number) {
        regs = refusal_regs (state_at machine number).regs
            status;
      }),
    )
    else fault_outcome machine number kind.Switch (state_at machine number).regs.rip

-- the registers behind VMFUNC
abbrev pub regs_behind : Insn → Regs → Regs
regs_behind insn regs = record regs { rip = next_rip insn regs }

-- into the home view: the end of a refused call in flight, a return, or a turn
abbrev pub home_line : Option ℕ → ℕ → Event
home_line None view = if view == 0 then event.Turn else event.Return
home_line (Some phase) view = event.Landing phase

abbrev pub homecoming : Machine → ℕ → Insn → ℕ → Outcome
homecoming machine number insn eptp = (
  home_line (state_at machine number).phase (state_at machine number).view,
  with_state machine number
      (home_state eptp (state_at machine number) (regs_behind insn (state_at machine number).regs)),
)

-- into a server's view: a flight begins, and where the thread stood is kept
abbrev pub core_in_flight : Core → Insn → ℕ → ℕ → Core
core_in_flight core insn index eptp = record core {
  state = record core.state { regs = regs_behind insn core.state.regs; eptp = eptp; view = index; phase = Some COMPARE_KEY };
  origin = Some (record { regs = core.state.regs; view = core.state.view });
}

abbrev pub departure : Machine → ℕ → Insn → ℕ → ℕ → Outcome
departure machine number insn index eptp =
    (event.Landing VMFUNC_PHASE, with_core machine number (core_in_flight (core_at machine number) insn index eptp))

-- by the answer of the list
abbrev pub switch_outcome_by : Machine → ℕ → Insn → ℕ → Result Switch Missing → Outcome
switch_outcome_by machine number insn index (Ok (To eptp)) =
    if index == 0 then homecoming machine number insn eptp else departure machine number insn index eptp
switch_outcome_by machine number insn index (Ok UnboundList) =
    refusal_outcome machine number (event.Unbound index) (status_number status.Unbound)
switch_outcome_by machine number insn index (Ok OtherLeaf) =
    refusal_outcome machine number (event.BadLeaf index) (status_number status.BadLeaf)
switch_outcome_by machine number insn index (Err gap) =
    refusal_outcome machine number (event.Unbound index) (status_number status.Unbound)

abbrev pub switch_outcome : Machine → ℕ → Insn → Outcome
switch_outcome machine number insn =
    switch_outcome_by machine number insn (ecx (state_at machine number).regs)
    (switch_result machine.memory (state_at machine number).list.0 (eax (state_at machine number).regs)
    (ecx (state_at machine number).regs))

-- ---- a system call

-- the core after a call with this answer, which left these registers; `home` is the pointer of its home view
abbrev pub core_after_call : Answer → ℕ → Core → Regs → Core
core_after_call (answer.Back number value) home core regs = record core { state = record core.state { regs = regs } }
core_after_call (answer.Printed value) home core regs = record core { state = record core.state { regs = regs } }
core_after_call (answer.Ended status) home core regs =
    record core { state = record core.state { regs = regs }; end = Ended status }
core_after_call (answer.GoHome status) home core regs = record core { state = home_state home core.state regs }

-- ---- every step

-- the core has made one line more, modulo 2^64
abbrev pub count_made : Core → Core
count_made core = record core { state = record core.state { made = (core.state.made + 1) % 2 ^ 64 } }

abbrev pub with_line : Machine → ℕ → Machine
with_line machine number = with_core machine number (count_made (core_at machine number))
