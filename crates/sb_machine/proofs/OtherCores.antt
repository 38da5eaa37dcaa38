-- A step leaves each other core, and the lists and views of the root kernel.
use Rattle.std.proofs.Common.{◌≡◌, ◌≢◌, ◌∙◌, sym, ap, subst, ℕ, ◌==◌, refl, slice_set, Result, Ok, Err}
use Rattle.sb_memory.specs.Physical.{Physical}
use Rattle.sb_memory.specs.declared.address.Missing.{Missing}
use Rattle.sb_insn.specs.declared.insn.Insn.{Insn}
use Rattle.sb_insn.specs.declared.registers.Regs.{Regs}
use Rattle.sb_bus.specs.declared.stop.BusStop.{BusStop}
use Rattle.sb_bus.specs.declared.stop.BusStop.TheVariants as stop
use Rattle.sb_bus.specs.declared.stop.FaultKind.{FaultKind}
use Rattle.sb_bus.specs.declared.stop.FaultKind.TheVariants as kind
use Rattle.sb_exec.specs.declared.action.Effect.{Effect}
use Rattle.sb_exec.specs.declared.action.Effect.TheVariants as effect
use Rattle.sb_root.specs.declared.root_kernel.RootKernel.{RootKernel}
use Rattle.sb_root.specs.declared.switch_answer.Switch.{Switch}
use Rattle.sb_root.specs.declared.switch_answer.Switch.TheVariants as switch
use Rattle.sb_root.specs.Switch.{switch_result}
use Rattle.sb_state.specs.Registers.{eax, ecx}
use Rattle.sb_state.specs.declared.end_kind.EndKind.{EndKind}
use Rattle.sb_state.specs.declared.end_kind.EndKind.TheVariants.{Running, Ended, Faulted}
use Rattle.sb_state.proofs.Cases.{claim_if}
use Rattle.sb_trace.specs.declared.event.Event.{Event}
use Rattle.sb_sub.specs.Serving.{KeepsLists}
use Rattle.sb_machine.specs.declared.processor.Core.{Core}
use Rattle.sb_machine.specs.Machine.{Machine, core_at, state_at, with_core}
use Rattle.sb_machine.specs.Outcomes.{Outcome, core_after_call, count_made, fault_outcome, home_eptp, refusal_outcome, switch_outcome_by}
use Rattle.sb_machine.specs.Written.{FollowsFetch, PerformsBy, Steps, StepsBy, StopsWith, execution_on}
use Rattle.sb_machine.proofs.Cores.{other_core}

-- each other core stays, and so do the lists and the views that are set
pub record KeepsOthers (old new : Machine) (number : ℕ) : Type 0 where
  pub cores : (other : ℕ) → other ≢ number → core_at new other ≡ core_at old other
  pub lists : KeepsLists old.root new.root

lists_same : (root : RootKernel) → KeepsLists root root
lists_same root = record { lists = λ thread. refl; views = λ thread index set. refl }

none_changed : (machine : Machine) (number : ℕ) → KeepsOthers machine machine number
none_changed machine number = record { cores = λ other apart. refl; lists = lists_same machine.root }

abbrev KeepsBy : Machine → ℕ → Outcome → Type 0
KeepsBy machine number outcome = KeepsOthers machine outcome.1 number

module _ (machine : Machine) (number : ℕ) where
  -- a core is put
  puts_keep : (new : Machine) (core : Core) → new.cores ≡ slice_set machine.cores number core → KeepsLists machine.root new.root
      → KeepsOthers machine new number
  puts_keep new core is lists =
      record { cores = λ other apart. other_core machine new number core other apart is; lists = lists }

  core_keeps : (core : Core) → KeepsOthers machine (with_core machine number core) number
  core_keeps core = puts_keep (with_core machine number core) core refl (lists_same machine.root)

  fault_keeps : (kind : FaultKind) (address : ℕ) → KeepsBy machine number (fault_outcome machine number kind address)
  fault_keeps kind address =
      claim_if (KeepsBy machine number) ((state_at machine number).view == 0) _ _ (λ home. core_keeps _) (λ away. core_keeps _)

  refusal_keeps : (line : Event) (told : ℕ) → KeepsBy machine number (refusal_outcome machine number line told)
  refusal_keeps line told =
      claim_if (KeepsBy machine number) ((state_at machine number).view == 0) _ _ (λ home. core_keeps _)
      (λ away. fault_keeps kind.Switch (state_at machine number).regs.rip)

  switch_keeps : (insn : Insn) (index : ℕ) (answer : Result Switch Missing)
      → KeepsBy machine number (switch_outcome_by machine number insn index answer)
  switch_keeps insn index (Ok (switch.To eptp)) =
      claim_if (KeepsBy machine number) (index == 0) _ _ (λ home. core_keeps _) (λ away. core_keeps _)
  switch_keeps insn index (Ok switch.Unbound) = refusal_keeps _ _
  switch_keeps insn index (Ok switch.BadLeaf) = refusal_keeps _ _
  switch_keeps insn index (Err gap) = refusal_keeps _ _

  stop_keeps : (one : BusStop) (outcome : Outcome) → StopsWith machine number one outcome → KeepsBy machine number outcome
  stop_keeps (stop.Fault kind address) outcome is = subst (KeepsBy machine number) (sym is) (fault_keeps kind address.0)
  stop_keeps (stop.Missing frame) outcome is = absurd is

  performs_keep : (insn : Insn) (answer : Result Effect BusStop) (regs : Regs) (memory : Physical) (outcome : Outcome)
      → PerformsBy machine number insn answer regs memory outcome → KeepsBy machine number outcome
  performs_keep insn (Ok effect.Next) regs memory outcome is =
      subst (KeepsBy machine number) (sym is) (puts_keep _ _ refl (lists_same machine.root))
  performs_keep insn (Ok effect.Syscall) regs memory outcome calls =
      puts_keep outcome.1
      (core_after_call calls.answer (home_eptp machine.memory (state_at machine number)) (core_at machine number) calls.regs)
      calls.cores calls.lists
  performs_keep insn (Ok effect.Switch) regs memory outcome is =
      subst (KeepsBy machine number) (sym is) (switch_keeps insn (ecx (state_at machine number).regs)
      (switch_result machine.memory (state_at machine number).list.0 (eax (state_at machine number).regs)
      (ecx (state_at machine number).regs)))
  performs_keep insn (Ok effect.Undefined) regs memory outcome is =
      subst (KeepsBy machine number) (sym is) (fault_keeps kind.Undefined (state_at machine number).regs.rip)
  performs_keep insn (Err one) regs memory outcome is = stop_keeps one outcome is

  fetch_keeps : (fetched : Result Insn BusStop) (outcome : Outcome) → FollowsFetch machine number fetched outcome
      → KeepsBy machine number outcome
  fetch_keeps (Ok insn) outcome performs =
      performs_keep insn (execution_on machine number insn).answer _ _ outcome performs
  fetch_keeps (Err one) outcome is = stop_keeps one outcome is

  ends_keep : (end : EndKind) (outcome : Outcome) → StepsBy machine number end outcome → KeepsBy machine number outcome
  ends_keep Running outcome runs = fetch_keeps runs.0 outcome runs.2
  ends_keep (Ended status) outcome is = subst (KeepsBy machine number) (sym is) (none_changed machine number)
  ends_keep (Faulted kind address) outcome is = subst (KeepsBy machine number) (sym is) (none_changed machine number)

-- a step, with its line counted
pub others_kept : (old : Machine) (number : ℕ) (event : Event) (new : Machine) → Steps old number event new
    → KeepsOthers old new number
others_kept old number event new steps =
    let worked : Machine = steps.0 in
    let kept : KeepsOthers old worked number = ends_keep old number (core_at old number).end (event, worked) steps.1 in
    record {
      cores = λ other apart.
          other_core worked new number (count_made (core_at worked number)) other apart
          (ap (λ (machine : Machine). machine.cores) steps.2)
          ∙ kept.cores other apart;
      lists = subst (λ (machine : Machine). KeepsLists old.root machine.root) (sym steps.2) kept.lists;
    }
