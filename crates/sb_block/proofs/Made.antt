-- How a step is made: an instruction goes on, or a VMFUNC that the list grants leads into a view.
use Rattle.std.proofs.Common.{◌≡◌, ◌∙◌, sym, ◌⊎◌, inl, inr, ℕ, Bool, true, false, refl}
use Rattle.std.specs.Prelude.{Result, Ok, Err, ◌==◌, nat_lt, if◌then◌else◌}
use Rattle.sb_abi.specs.declared.trampoline.TheConstants.{VMFUNC_PHASE}
use Rattle.sb_memory.specs.Physical.{Physical, frame_count}
use Rattle.sb_memory.specs.Accounts.{account_after_words}
use Rattle.sb_memory.specs.declared.address.Missing.{Missing}
use Rattle.sb_insn.specs.declared.insn.Insn.{Insn}
use Rattle.sb_bus.specs.declared.stop.BusStop.{BusStop}
use Rattle.sb_bus.specs.declared.stop.BusStop.TheVariants as stop
use Rattle.sb_exec.specs.declared.action.Effect.{Effect}
use Rattle.sb_exec.specs.declared.action.Effect.TheVariants as effect
use Rattle.sb_exec.specs.Execution.{Execution}
use Rattle.sb_exec.specs.Fetching.{FetchesOn}
use Rattle.sb_walks.specs.Entry.{frame_in}
use Rattle.sb_nested.specs.Store.{view_interface}
use Rattle.sb_nested.specs.View.{View}
use Rattle.sb_root.specs.declared.switch_answer.Switch.{Switch}
use Rattle.sb_root.specs.declared.switch_answer.Switch.TheVariants as switch
use Rattle.sb_root.specs.Switch.{switch_result, switch_reads}
use Rattle.sb_state.specs.Registers.{eax, ecx}
use Rattle.sb_trace.specs.declared.event.Event.{Event}
use Rattle.sb_trace.specs.declared.event.Event.TheVariants.{Landing}
use Rattle.sb_machine.specs.declared.processor.CoreState.{CoreState}
use Rattle.sb_machine.specs.Machine.{seen_by}
use Rattle.sb_machine.specs.Outcomes.{line_by, home_state, regs_behind, home_line}
use Rattle.sb_block.specs.Run.{at}
use Rattle.sb_block.specs.Step.{At, Rule, CoreOutcome, Made, Needs, Kernel, stop_outcome, with_made, state_behind, state_in_flight, view_outcome, switch_outcome_by, answer_outcome}

-- ---- what a core reads for a step

-- the instruction at RIP of a core, with the account after it was fetched
abbrev pub FetchesAt : {Account : Type 0} → Rule Account → At Account → Account → Result Insn BusStop → Type 0
FetchesAt rule before account fetched =
    FetchesOn (view_interface rule) (seen_by before.memory before.core) before.core.regs.rip before.account account fetched

-- what the list of a core says to its VMFUNC
abbrev pub list_answer : CoreState → Physical → Result Switch Missing
list_answer core memory = switch_result memory core.list.0 (eax core.regs) (ecx core.regs)

-- the account after the list was read for it
abbrev pub list_account : {Account : Type 0} → Rule Account → CoreState → Physical → Account → Account
list_account rule core memory account =
    account_after_words rule memory (switch_reads core.list.0 (eax core.regs) (ecx core.regs)) account

-- ---- into a view

-- the line of a VMFUNC into the view of this index
abbrev pub view_line : CoreState → ℕ → Event
view_line core index = if index == 0 then home_line core.phase core.view else Landing VMFUNC_PHASE

-- the core behind it, through this pointer
abbrev pub view_core : CoreState → Insn → ℕ → ℕ → CoreState
view_core core insn index eptp =
    if index == 0 then with_made (home_state eptp core (regs_behind insn core.regs))
    else with_made (state_in_flight core insn index eptp)

-- a line and a core by a test are made where each is made by it
made_if : {Account : Type 0} (test : Bool) (line other : Event) (core last : CoreState) (memory : Physical) (account : Account)
    → Path (CoreOutcome Account) (Made (if test then line else other) (at (if test then core else last) memory account))
    (if test then Made line (at core memory account) else Made other (at last memory account))
made_if true line other core last memory account = refl
made_if false line other core last memory account = refl

-- a VMFUNC into a view makes this line and leaves this core
pub view_made : {Account : Type 0} (core : CoreState) (insn : Insn) (index eptp : ℕ) (memory : Physical) (account : Account)
    → Path (CoreOutcome Account) (Made (view_line core index) (at (view_core core insn index eptp) memory account))
    (view_outcome core insn index eptp memory account)
view_made core insn index eptp memory account = made_if (index == 0) _ _ _ _ memory account

-- ---- a step that is made

-- an instruction goes on
pub record GoesOn {Account : Type 0} (core : CoreState) (execution : Execution View Account) (event : Event) (next : At Account)
    : Type 0 where
  pub answer : execution.answer ≡ Ok effect.Next
  pub line : event ≡ line_by core.phase core.view core.regs.rip execution.registers
  pub next_is : next ≡ at (state_behind core execution.registers) execution.meaning.physical execution.account

-- a VMFUNC leads into a view, through a pointer of the list
pub record Switches {Account : Type 0} (rule : Rule Account) (core : CoreState) (insn : Insn) (memory : Physical)
    (execution : Execution View Account) (event : Event) (next : At Account)
    : Type 0 where
  pub eptp : ℕ
  pub answer : execution.answer ≡ Ok effect.Switch
  pub list : list_answer core memory ≡ Ok (switch.To eptp)
  pub root : nat_lt (frame_in eptp) (frame_count memory) ≡ true
  pub line : event ≡ view_line core (ecx core.regs)
  pub next_is : next ≡ at (view_core core insn (ecx core.regs) eptp) memory (list_account rule core memory execution.account)

-- an instruction makes a step in one of these ways
abbrev pub IsMade : {Account : Type 0} → Rule Account → CoreState → Insn → Physical → Execution View Account → Event → At Account
    → Type 0
IsMade rule core insn memory execution event next =
    GoesOn core execution event next ⊎ Switches rule core insn memory execution event next

module _ {Account : Type 0} (event : Event) (next : At Account) where
  -- a step that is made has one line and one end
  pub made_same : (line : Event) (other : At Account) → Path (CoreOutcome Account) (Made event next) (Made line other)
      → (event ≡ line) × (next ≡ other)
  made_same line other same = (cc, cc)

  -- it does not meet a frame that is missing
  not_needed : (frame : ℕ) → Path (CoreOutcome Account) (Made event next) (Needs frame) → ⊥
  not_needed frame same = cc

  -- it is not the kernels'
  not_the_kernels : Path (CoreOutcome Account) (Made event next) Kernel → ⊥
  not_the_kernels same = cc

  -- no access of it is refused
  pub not_stopped : (why : BusStop) → Path (CoreOutcome Account) (Made event next) (stop_outcome why) → ⊥
  not_stopped (stop.Missing frame) same = not_needed frame.0 same
  not_stopped (stop.Fault kind address) same = not_the_kernels same

  module _ (rule : Rule Account) (core : CoreState) (insn : Insn) (memory : Physical) (execution : Execution View Account) where
    abbrev behind : Account
    behind = list_account rule core memory execution.account

    -- into a view, by whether the pointer leads to a frame
    rooted_by : (eptp : ℕ) (test : Bool) → execution.answer ≡ Ok effect.Switch → list_answer core memory ≡ Ok (switch.To eptp)
        → nat_lt (frame_in eptp) (frame_count memory) ≡ test
        → Path (CoreOutcome Account) (Made event next)
        (if test then view_outcome core insn (ecx core.regs) eptp memory behind else Kernel)
        → Switches rule core insn memory execution event next
    rooted_by eptp true is list root made =
        let same =
        made_same (view_line core (ecx core.regs)) (at (view_core core insn (ecx core.regs) eptp) memory behind)
        (made ∙ sym (view_made core insn (ecx core.regs) eptp memory behind)) in
        record { eptp = eptp; answer = is; list = list; root = root; line = same.0; next_is = same.1 }
    rooted_by eptp false is list root made = absurd (not_the_kernels made)

    -- a VMFUNC, by what the list says
    switches_by : (answer : Result Switch Missing) → execution.answer ≡ Ok effect.Switch → list_answer core memory ≡ answer
        → Path (CoreOutcome Account) (Made event next) (switch_outcome_by core insn (ecx core.regs) memory behind answer)
        → Switches rule core insn memory execution event next
    switches_by (Ok (switch.To eptp)) is list made =
        rooted_by eptp (nat_lt (frame_in eptp) (frame_count memory)) is list refl made
    switches_by (Ok switch.Unbound) is list made = absurd (not_the_kernels made)
    switches_by (Ok switch.BadLeaf) is list made = absurd (not_the_kernels made)
    switches_by (Err gap) is list made = absurd (not_needed gap.frame.0 made)

    -- by what the instruction answers
    pub made_by : (answer : Result Effect BusStop) → execution.answer ≡ answer
        → Path (CoreOutcome Account) (Made event next) (answer_outcome rule core insn memory execution answer)
        → IsMade rule core insn memory execution event next
    made_by (Ok effect.Next) is made =
        let same =
        made_same (line_by core.phase core.view core.regs.rip execution.registers)
        (at (state_behind core execution.registers) execution.meaning.physical execution.account) made in
        inl (record { answer = is; line = same.0; next_is = same.1 })
    made_by (Ok effect.Switch) is made = inr (switches_by (list_answer core memory) is refl made)
    made_by (Ok effect.Syscall) is made = absurd (not_the_kernels made)
    made_by (Ok effect.Undefined) is made = absurd (not_the_kernels made)
    made_by (Err why) is made = absurd (not_stopped why made)

-- ---- the same step over another memory, by another rule

module _ {Account Other : Type 0} (core : CoreState) (insn : Insn) (event : Event) (next : At Account)
    (execution : Execution View Account) (rule : Rule Other) (changed : Physical) (other : Execution View Other) where
  -- an instruction that goes on
  pub goes_on_comes : GoesOn core execution event next → other.answer ≡ execution.answer
      → other.registers ≡ execution.registers
      → Path (CoreOutcome Other) (Made event (at next.core other.meaning.physical other.account))
      (answer_outcome rule core insn changed other other.answer)
  goes_on_comes goes answer registers = rw (answer, goes.answer, registers, goes.line, goes.next_is) refl

  -- a VMFUNC to which the list says the same
  pub switch_comes : (own : Rule Account) (memory : Physical) → Switches own core insn memory execution event next
      → other.answer ≡ execution.answer → list_answer core changed ≡ list_answer core memory
      → frame_count changed ≡ frame_count memory
      → Path (CoreOutcome Other) (Made event (at next.core changed (list_account rule core changed other.account)))
      (answer_outcome rule core insn changed other other.answer)
  switch_comes own memory switches answer list frames =
      rw (answer, switches.answer, list, switches.list, frames, switches.root, switches.line, switches.next_is)
      (view_made core insn (ecx core.regs) switches.eptp changed (list_account rule core changed other.account))
