-- A step leaves the list and the CR3 of each core, and all but an instruction and a call leave memory.
use Rattle.std.proofs.Common.{◌≡◌, ◌∙◌, sym, ap, subst, ℕ, ◌<◌, ◌==◌, length, refl, inl, inr, slice_set, Result, Ok, Err}
use Rattle.std.proofs.lemmas.Bool.{cases_eq}
use Rattle.sb_memory.specs.declared.address.Frame.{Frame}
use Rattle.sb_memory.specs.declared.address.Missing.{Missing}
use Rattle.sb_insn.specs.declared.insn.Insn.{Insn}
use Rattle.sb_insn.specs.declared.registers.Regs.{Regs}
use Rattle.sb_bus.specs.declared.stop.BusStop.{BusStop}
use Rattle.sb_bus.specs.declared.stop.BusStop.TheVariants as stop
use Rattle.sb_bus.specs.declared.stop.FaultKind.{FaultKind}
use Rattle.sb_bus.specs.declared.stop.FaultKind.TheVariants as kind
use Rattle.sb_root.specs.declared.switch_answer.Switch.{Switch}
use Rattle.sb_root.specs.declared.switch_answer.Switch.TheVariants as switch
use Rattle.sb_root.specs.Switch.{switch_result}
use Rattle.sb_state.specs.Registers.{eax, ecx}
use Rattle.sb_state.proofs.Cases.{claim_if}
use Rattle.sb_trace.specs.declared.event.Event.{Event}
use Rattle.sb_sub.specs.declared.answer.Answer.{Answer}
use Rattle.sb_sub.specs.declared.answer.Answer.TheVariants as answer
use Rattle.sb_machine.specs.declared.processor.Core.{Core}
use Rattle.sb_machine.specs.Machine.{Machine, core_at, state_at, with_core, words_of}
use Rattle.sb_machine.specs.Outcomes.{Outcome, core_after_call, fault_outcome, refusal_outcome, switch_outcome, switch_outcome_by, with_line}
use Rattle.sb_machine.specs.Written.{StopsWith}
use Rattle.sb_machine.proofs.Cores.{own_core, other_core}

-- each core has the list and the CR3 that it had
pub record SameWords (old new : Machine) : Type 0 where
  pub list : (core : ℕ) → (words_of new core).list ≡ (words_of old core).list
  pub cr3 : (core : ℕ) → (words_of new core).cr3 ≡ (words_of old core).cr3

-- a core with the list and the CR3 of another
pub record IsCoreAs (old new : Core) : Type 0 where
  pub list : new.state.list ≡ old.state.list
  pub cr3 : new.state.cr3 ≡ old.state.cr3

pub same_core : (core : Core) → IsCoreAs core core
same_core core = record { list = refl; cr3 = refl }

-- the words stay, and memory too
pub record Leaves (old new : Machine) : Type 0 where
  pub words : SameWords old new
  pub memory : new.memory ≡ old.memory

pub leaves_all : (machine : Machine) → Leaves machine machine
leaves_all machine = record { words = record { list = λ core. refl; cr3 = λ core. refl }; memory = refl }

module _ (machine : Machine) (number : ℕ) (there : number < length machine.cores) where
  -- ---- a core is put

  module _ (new : Machine) (core : Core) (kept : IsCoreAs (core_at machine number) core)
      (is : new.cores ≡ slice_set machine.cores number core) where
    own : core_at new number ≡ core
    own = own_core machine new number core there is

    list_stays : (n : ℕ) → (words_of new n).list ≡ (words_of machine n).list
    list_stays n = elim (cases_eq n number) [
      | inl same ↦ subst (λ (n : ℕ). (words_of new n).list ≡ (words_of machine n).list) (sym same)
          (ap (λ (one : Core). one.state.list.0) own ∙ ap (λ (frame : Frame). frame.0) kept.list)
      | inr apart ↦ ap (λ (one : Core). one.state.list.0) (other_core machine new number core n apart is)
    ]

    cr3_stays : (n : ℕ) → (words_of new n).cr3 ≡ (words_of machine n).cr3
    cr3_stays n = elim (cases_eq n number) [
      | inl same ↦ subst (λ (n : ℕ). (words_of new n).cr3 ≡ (words_of machine n).cr3) (sym same)
          (ap (λ (one : Core). one.state.cr3) own ∙ kept.cr3)
      | inr apart ↦ ap (λ (one : Core). one.state.cr3) (other_core machine new number core n apart is)
    ]

    pub words_put : SameWords machine new
    words_put = record { list = list_stays; cr3 = cr3_stays }

  put : (core : Core) → IsCoreAs (core_at machine number) core → Leaves machine (with_core machine number core)
  put core kept = record { words = words_put (with_core machine number core) core kept refl; memory = refl }

  -- the line that is counted
  pub line_leaves : Leaves machine (with_line machine number)
  line_leaves = put _ (record { list = refl; cr3 = refl })

  -- ---- faults and VMFUNC

  abbrev LeavesBy : Outcome → Type 0
  LeavesBy outcome = Leaves machine outcome.1

  pub fault_leaves : (kind : FaultKind) (address : ℕ) → LeavesBy (fault_outcome machine number kind address)
  fault_leaves kind address =
      claim_if LeavesBy ((state_at machine number).view == 0) _ _ (λ home. put _ (record { list = refl; cr3 = refl }))
      (λ away. put _ (record { list = refl; cr3 = refl }))

  refusal_leaves : (line : Event) (told : ℕ) → LeavesBy (refusal_outcome machine number line told)
  refusal_leaves line told =
      claim_if LeavesBy ((state_at machine number).view == 0) _ _ (λ home. put _ (record { list = refl; cr3 = refl }))
      (λ away. fault_leaves kind.Switch (state_at machine number).regs.rip)

  switched_leaves : (insn : Insn) (index : ℕ) (answer : Result Switch Missing)
      → LeavesBy (switch_outcome_by machine number insn index answer)
  switched_leaves insn index (Ok (switch.To eptp)) =
      claim_if LeavesBy (index == 0) _ _ (λ home. put _ (record { list = refl; cr3 = refl }))
      (λ away. put _ (record { list = refl; cr3 = refl }))
  switched_leaves insn index (Ok switch.Unbound) = refusal_leaves _ _
  switched_leaves insn index (Ok switch.BadLeaf) = refusal_leaves _ _
  switched_leaves insn index (Err gap) = refusal_leaves _ _

  pub switch_leaves : (insn : Insn) → LeavesBy (switch_outcome machine number insn)
  switch_leaves insn =
      switched_leaves insn (ecx (state_at machine number).regs)
      (switch_result machine.memory (state_at machine number).list.0 (eax (state_at machine number).regs) (ecx (state_at machine
      number).regs))

  pub stop_leaves : (one : BusStop) (outcome : Outcome) → StopsWith machine number one outcome → LeavesBy outcome
  stop_leaves (stop.Fault kind address) outcome is = subst LeavesBy (sym is) (fault_leaves kind address.0)
  stop_leaves (stop.Missing frame) outcome is = absurd is

  -- ---- a call

  pub answered : (told : Answer) (home : ℕ) (regs : Regs)
      → IsCoreAs (core_at machine number) (core_after_call told home (core_at machine number) regs)
  answered (answer.Back call value) home regs = record { list = refl; cr3 = refl }
  answered (answer.Printed value) home regs = record { list = refl; cr3 = refl }
  answered (answer.Ended status) home regs = record { list = refl; cr3 = refl }
  answered (answer.GoHome status) home regs = record { list = refl; cr3 = refl }
