-- A step that a core makes by itself leaves the tables of the kernels, and with them each list and each translation; and it
-- leaves bytes in memory.
use Rattle.std.proofs.Common.{◌≡◌, ◌≢◌, ◌∙◌, sym, ap, subst, ℕ, ◌<◌, ◌==◌, length, refl, Result, Ok, Err}
use Rattle.std.specs.Prelude.{IsTrue}
use Rattle.sb_memory.specs.Physical.{Physical}
use Rattle.sb_memory.specs.declared.address.Missing.{Missing}
use Rattle.sb_insn.specs.declared.insn.Insn.{Insn}
use Rattle.sb_insn.specs.declared.registers.Regs.{Regs}
use Rattle.sb_bus.specs.declared.stop.BusStop.{BusStop}
use Rattle.sb_bus.specs.declared.stop.BusStop.TheVariants as stop
use Rattle.sb_bus.specs.declared.stop.FaultKind.{FaultKind}
use Rattle.sb_bus.specs.declared.stop.FaultKind.TheVariants as kind
use Rattle.sb_exec.specs.declared.action.Effect.{Effect}
use Rattle.sb_exec.specs.declared.action.Effect.TheVariants as effect
use Rattle.sb_walks.specs.Ept.{is_eptp}
use Rattle.sb_root.specs.declared.root_kernel.RootKernel.{RootKernel}
use Rattle.sb_root.specs.declared.switch_answer.Switch.{Switch}
use Rattle.sb_root.specs.declared.switch_answer.Switch.TheVariants as switch
use Rattle.sb_root.specs.Root.{list_entry}
use Rattle.sb_root.specs.Switch.{switch_result}
use Rattle.sb_state.specs.Registers.{eax, ecx}
use Rattle.sb_state.specs.declared.end_kind.EndKind.{EndKind}
use Rattle.sb_state.specs.declared.end_kind.EndKind.TheVariants.{Running, Ended, Faulted}
use Rattle.sb_state.proofs.Cases.{claim_if}
use Rattle.sb_trace.specs.Changes.{AreBytes}
use Rattle.sb_trace.specs.State.{State}
use Rattle.sb_trace.specs.declared.event.Event.{Event}
use Rattle.sb_trace.specs.declared.event.Event.TheVariants as event
use Rattle.sb_sub.specs.Serving.{line_of}
use Rattle.sb_sub.specs.declared.answer.Answer.{Answer}
use Rattle.sb_sub.specs.declared.answer.Answer.TheVariants as answer
use Rattle.sb_machine.specs.Machine.{Machine, core_at, state_at}
use Rattle.sb_machine.specs.Outcomes.{Outcome, fault_outcome, refusal_outcome, switch_outcome_by}
use Rattle.sb_machine.specs.OwnSteps.{is_own}
use Rattle.sb_machine.specs.StandsFor.{IsMachineOf}
use Rattle.sb_machine.specs.Translations.{IsPointer, list_word, SameTranslations, KeepsTranslations}
use Rattle.sb_machine.specs.Written.{PerformsBy, FollowsFetch, StopsWith, StepsBy, Steps, execution_on}
use Rattle.sb_machine.proofs.BytesKept.{bytes_kept}
use Rattle.sb_machine.proofs.Counting.{step_cores}
use Rattle.sb_machine.proofs.Seeing.{entry_is}

-- the tables of both kernels stay, and memory of bytes has bytes
pub record KeepsTables (old new : Machine) : Type 0 where
  pub root : new.root ≡ old.root
  pub kernel : new.kernel ≡ old.kernel
  pub bytes : AreBytes old.memory.bytes → AreBytes new.memory.bytes

abbrev KeepsBy : Machine → Outcome → Type 0
KeepsBy machine outcome = IsTrue (is_own outcome.0) → KeepsTables machine outcome.1

-- no system call is a step that a core makes by itself
call_apart : (told : Answer) → IsTrue (is_own (line_of told)) → ⊥
call_apart (answer.Back number value) own = cc
call_apart (answer.Printed value) own = cc
call_apart (answer.Ended status) own = cc
call_apart (answer.GoHome status) own = cc

-- none of them is idle
pub not_idle : (line : Event) → IsTrue (is_own line) → line ≢ event.Idle
not_idle line own idle = let none : IsTrue (is_own event.Idle) = subst (λ (one : Event). IsTrue (is_own one)) idle own in cc

module _ (machine : Machine) (number : ℕ) where
  fault_keeps : (kind : FaultKind) (address : ℕ) → KeepsBy machine (fault_outcome machine number kind address)
  fault_keeps kind address =
      claim_if (KeepsBy machine) ((state_at machine number).view == 0) _ _
      (λ home own. record { root = refl; kernel = refl; bytes = λ are. are }) (λ away own. record { root = refl; kernel = refl; bytes = λ are. are })

  refusal_keeps : (line : Event) (told : ℕ) → KeepsBy machine (refusal_outcome machine number line told)
  refusal_keeps line told =
      claim_if (KeepsBy machine) ((state_at machine number).view == 0) _ _
      (λ home own. record { root = refl; kernel = refl; bytes = λ are. are })
      (λ away. fault_keeps kind.Switch (state_at machine number).regs.rip)

  switch_keeps : (insn : Insn) (index : ℕ) (answer : Result Switch Missing)
      → KeepsBy machine (switch_outcome_by machine number insn index answer)
  switch_keeps insn index (Ok (switch.To eptp)) =
      claim_if (KeepsBy machine) (index == 0) _ _
      (λ home own. record { root = refl; kernel = refl; bytes = λ are. are }) (λ away own. record { root = refl; kernel = refl; bytes = λ are. are })
  switch_keeps insn index (Ok switch.Unbound) = refusal_keeps _ _
  switch_keeps insn index (Ok switch.BadLeaf) = refusal_keeps _ _
  switch_keeps insn index (Err gap) = refusal_keeps _ _

  stop_keeps : (one : BusStop) (outcome : Outcome) → StopsWith machine number one outcome → KeepsBy machine outcome
  stop_keeps (stop.Fault kind address) outcome is = subst (KeepsBy machine) (sym is) (fault_keeps kind address.0)
  stop_keeps (stop.Missing frame) outcome is = absurd is

  performs_keep : (insn : Insn) (answer : Result Effect BusStop) (regs : Regs) (memory : Physical) (outcome : Outcome)
      → (AreBytes machine.memory.bytes → AreBytes memory.bytes) → PerformsBy machine number insn answer regs memory outcome
      → KeepsBy machine outcome
  performs_keep insn (Ok effect.Next) regs memory outcome bytes is =
      subst (KeepsBy machine) (sym is) (λ own. record { root = refl; kernel = refl; bytes = bytes })
  performs_keep insn (Ok effect.Syscall) regs memory outcome bytes calls =
      λ own. absurd (call_apart calls.answer (subst (λ (line : Event). IsTrue (is_own line)) calls.line own))
  performs_keep insn (Ok effect.Switch) regs memory outcome bytes is =
      subst (KeepsBy machine) (sym is) (switch_keeps insn (ecx (state_at machine number).regs)
      (switch_result machine.memory (state_at machine number).list.0 (eax (state_at machine number).regs) (ecx (state_at machine
      number).regs)))
  performs_keep insn (Ok effect.Undefined) regs memory outcome bytes is =
      subst (KeepsBy machine) (sym is) (fault_keeps kind.Undefined (state_at machine number).regs.rip)
  performs_keep insn (Err one) regs memory outcome bytes is = stop_keeps one outcome is

  fetch_keeps : (fetched : Result Insn BusStop) (outcome : Outcome) → FollowsFetch machine number fetched outcome
      → KeepsBy machine outcome
  fetch_keeps (Ok insn) outcome performs =
      performs_keep insn (execution_on machine number insn).answer _ _ outcome (bytes_kept machine number insn) performs
  fetch_keeps (Err one) outcome is = stop_keeps one outcome is

  ends_keep : (end : EndKind) (outcome : Outcome) → StepsBy machine number end outcome → KeepsBy machine outcome
  ends_keep Running outcome runs = fetch_keeps runs.0 outcome runs.2
  ends_keep (Ended status) outcome is =
      subst (KeepsBy machine) (sym is) (λ own. record { root = refl; kernel = refl; bytes = λ are. are })
  ends_keep (Faulted kind address) outcome is =
      subst (KeepsBy machine) (sym is) (λ own. record { root = refl; kernel = refl; bytes = λ are. are })

module _ (old : Machine) (number : ℕ) (line : Event) (new : Machine) (own : IsTrue (is_own line))
    (steps : Steps old number line new) where
  -- a step that a core makes by itself keeps them
  pub own_keeps : KeepsTables old new
  own_keeps =
      let kept = ends_keep old number (core_at old number).end (line, steps.0) steps.1 own in
      subst (KeepsTables old) (sym steps.2) (record { root = kept.root; kernel = kept.kernel; bytes = kept.bytes })

  -- so an entry that was a pointer is one
  pub pointer_stays : (state next : State) → IsMachineOf old state → IsMachineOf new next → (core index : ℕ)
      → IsPointer old core index → IsPointer new core index
  pointer_stays state next is is' core index pointer =
      let there : core < length new.cores =
      subst (λ (count : ℕ). core < count) (sym (step_cores old number line new steps)) pointer.core_is in
      let same : list_word old core index ≡ list_word new core index =
      entry_is old state is core pointer.core_is index pointer.index_is
      ∙ (ap (λ (root : RootKernel). list_entry root core index) (sym own_keeps.root)
      ∙ sym (entry_is new next is' core there index pointer.index_is)) in
      record {
        core_is = there;
        index_is = pointer.index_is;
        pointer = subst (λ (word : ℕ). IsTrue (is_eptp word)) same pointer.pointer;
      }

-- it keeps all translations
pub own_translations : (line : Event) (old new : Machine) → IsTrue (is_own line) → KeepsTranslations line old new
    → SameTranslations old new
own_translations (event.Sys number value) old new own keeps = absurd (cc)
own_translations _ old new own keeps = keeps
