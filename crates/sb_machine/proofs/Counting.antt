-- What a step counts and keeps: it makes one line, of its core, and no core and no frame come or go.
use Rattle.std.proofs.Common.{◌≡◌, ◌∙◌, sym, ap, subst, ℕ, ◌+◌, ◌<◌, ◌%◌, ◌^◌, ◌==◌, length, refl, inl, inr, Result, Ok, Err}
use Rattle.std.specs.Prelude.{slice_get, slice_set, unwrap_or}
use Rattle.std.proofs.lemmas.Bool.{cases_eq}
use Rattle.std.proofs.lemmas.List.{length-set}
use Rattle.sb_memory.specs.Physical.{Physical, frame_count}
use Rattle.sb_memory.specs.declared.address.Missing.{Missing}
use Rattle.sb_insn.specs.declared.insn.Insn.{Insn}
use Rattle.sb_insn.specs.declared.registers.Regs.{Regs}
use Rattle.sb_bus.specs.declared.stop.BusStop.{BusStop}
use Rattle.sb_bus.specs.declared.stop.BusStop.TheVariants as stop
use Rattle.sb_bus.specs.declared.stop.FaultKind.{FaultKind}
use Rattle.sb_bus.specs.declared.stop.FaultKind.TheVariants as kind
use Rattle.sb_exec.specs.declared.action.Effect.{Effect}
use Rattle.sb_exec.specs.declared.action.Effect.TheVariants as effect
use Rattle.sb_root.specs.declared.switch_answer.Switch.{Switch}
use Rattle.sb_root.specs.declared.switch_answer.Switch.TheVariants as switch
use Rattle.sb_root.specs.Switch.{switch_result}
use Rattle.sb_state.specs.Registers.{eax, ecx}
use Rattle.sb_state.specs.declared.end_kind.EndKind.{EndKind}
use Rattle.sb_state.specs.declared.end_kind.EndKind.TheVariants.{Running, Ended, Faulted}
use Rattle.sb_state.proofs.Cases.{claim_if}
use Rattle.sb_state.proofs.Threads.{set_same}
use Rattle.sb_trace.specs.declared.event.Event.{Event}
use Rattle.sb_sub.specs.declared.answer.Answer.{Answer}
use Rattle.sb_sub.specs.declared.answer.Answer.TheVariants as answer
use Rattle.sb_machine.specs.declared.processor.Core.{Core}
use Rattle.sb_machine.specs.Counts.{CountsLine, made_by}
use Rattle.sb_machine.specs.Machine.{Machine, no_core, core_at, state_at, with_core}
use Rattle.sb_machine.specs.Outcomes.{Outcome, fault_outcome, refusal_outcome, switch_outcome_by, home_eptp, core_after_call, count_made}
use Rattle.sb_machine.specs.Written.{PerformsBy, FollowsFetch, StopsWith, StepsBy, Works, Steps, execution_on}
use Rattle.sb_machine.proofs.Cores.{own_core, other_core}
use Rattle.sb_machine.proofs.Frames.{frames_kept}

-- there are as many cores, each has made as many lines, and there are as many frames
pub record KeepsCounts (old new : Machine) : Type 0 where
  pub cores : length new.cores ≡ length old.cores
  pub made : (core : ℕ) → made_by new core ≡ made_by old core
  pub frames : frame_count new.memory ≡ frame_count old.memory

abbrev KeepsBy : Machine → Outcome → Type 0
KeepsBy machine outcome = KeepsCounts machine outcome.1

call_made : (told : Answer) (home : ℕ) (core : Core) (regs : Regs)
    → (core_after_call told home core regs).state.made ≡ core.state.made
call_made (answer.Back number value) home core regs = refl
call_made (answer.Printed value) home core regs = refl
call_made (answer.Ended status) home core regs = refl
call_made (answer.GoHome status) home core regs = refl

module _ (machine : Machine) (number : ℕ) where
  own_made : (new : Machine) (core : Core) → new.cores ≡ slice_set machine.cores number core
      → core.state.made ≡ made_by machine number → made_by new number ≡ made_by machine number
  unfolding core_at
  own_made new core is made =
      ap (λ cores. (unwrap_or (slice_get cores number) no_core).state.made) is
      ∙ set_same (λ (one : Core). one.state.made ≡ made_by machine number) machine.cores number core no_core made refl

  -- a core is put that has made as many lines
  puts_keep : (new : Machine) (core : Core) → new.cores ≡ slice_set machine.cores number core
      → core.state.made ≡ made_by machine number → frame_count new.memory ≡ frame_count machine.memory → KeepsCounts machine new
  puts_keep new core is made frames = record {
    cores = ap length is ∙ length-set machine.cores number core;
    made = λ one. elim (cases_eq one number) [
      | inl same ↦ subst (λ (one : ℕ). made_by new one ≡ made_by machine one) (sym same) (own_made new core is made)
      | inr apart ↦ ap (λ (core : Core). core.state.made) (other_core machine new number core one apart is)
    ];
    frames = frames;
  }

  core_keeps : (core : Core) → core.state.made ≡ made_by machine number → KeepsCounts machine (with_core machine number core)
  core_keeps core made = puts_keep (with_core machine number core) core refl made refl

  fault_keeps : (kind : FaultKind) (address : ℕ) → KeepsBy machine (fault_outcome machine number kind address)
  fault_keeps kind address =
      claim_if (KeepsBy machine) ((state_at machine number).view == 0) _ _ (λ home. core_keeps _ refl) (λ away. core_keeps _ refl)

  refusal_keeps : (line : Event) (told : ℕ) → KeepsBy machine (refusal_outcome machine number line told)
  refusal_keeps line told =
      claim_if (KeepsBy machine) ((state_at machine number).view == 0) _ _ (λ home. core_keeps _ refl)
      (λ away. fault_keeps kind.Switch (state_at machine number).regs.rip)

  switch_keeps : (insn : Insn) (index : ℕ) (answer : Result Switch Missing)
      → KeepsBy machine (switch_outcome_by machine number insn index answer)
  switch_keeps insn index (Ok (switch.To eptp)) =
      claim_if (KeepsBy machine) (index == 0) _ _ (λ home. core_keeps _ refl) (λ away. core_keeps _ refl)
  switch_keeps insn index (Ok switch.Unbound) = refusal_keeps _ _
  switch_keeps insn index (Ok switch.BadLeaf) = refusal_keeps _ _
  switch_keeps insn index (Err gap) = refusal_keeps _ _

  stop_keeps : (one : BusStop) (outcome : Outcome) → StopsWith machine number one outcome → KeepsBy machine outcome
  stop_keeps (stop.Fault kind address) outcome is = subst (KeepsBy machine) (sym is) (fault_keeps kind address.0)
  stop_keeps (stop.Missing frame) outcome is = absurd is

  performs_keep : (insn : Insn) (answer : Result Effect BusStop) (regs : Regs) (memory : Physical) (outcome : Outcome)
      → frame_count memory ≡ frame_count machine.memory → PerformsBy machine number insn answer regs memory outcome
      → KeepsBy machine outcome
  performs_keep insn (Ok effect.Next) regs memory outcome frames is =
      subst (KeepsBy machine) (sym is) (puts_keep _ _ refl refl frames)
  performs_keep insn (Ok effect.Syscall) regs memory outcome frames calls =
      puts_keep outcome.1
      (core_after_call calls.answer (home_eptp machine.memory (state_at machine number)) (core_at machine number) calls.regs)
      calls.cores
      (call_made calls.answer (home_eptp machine.memory (state_at machine number)) (core_at machine number) calls.regs)
      calls.frames
  performs_keep insn (Ok effect.Switch) regs memory outcome frames is =
      subst (KeepsBy machine) (sym is) (switch_keeps insn (ecx (state_at machine number).regs)
      (switch_result machine.memory (state_at machine number).list.0 (eax (state_at machine number).regs) (ecx (state_at machine
      number).regs)))
  performs_keep insn (Ok effect.Undefined) regs memory outcome frames is =
      subst (KeepsBy machine) (sym is) (fault_keeps kind.Undefined (state_at machine number).regs.rip)
  performs_keep insn (Err one) regs memory outcome frames is = stop_keeps one outcome is

  fetch_keeps : (fetched : Result Insn BusStop) (outcome : Outcome) → FollowsFetch machine number fetched outcome
      → KeepsBy machine outcome
  fetch_keeps (Ok insn) outcome performs =
      performs_keep insn (execution_on machine number insn).answer _ _ outcome (frames_kept machine number insn) performs
  fetch_keeps (Err one) outcome is = stop_keeps one outcome is

  none_changed : KeepsCounts machine machine
  none_changed = record { cores = refl; made = λ core. refl; frames = refl }

  ends_keep : (end : EndKind) (outcome : Outcome) → StepsBy machine number end outcome → KeepsBy machine outcome
  ends_keep Running outcome runs = fetch_keeps runs.0 outcome runs.2
  ends_keep (Ended status) outcome is = subst (KeepsBy machine) (sym is) none_changed
  ends_keep (Faulted kind address) outcome is = subst (KeepsBy machine) (sym is) none_changed

-- before its line is counted, a step keeps them all
pub works_keep : (old : Machine) (number : ℕ) (event : Event) (new : Machine) → Works old number event new → KeepsCounts old new
works_keep old number event new works = ends_keep old number (core_at old number).end (event, new) works

module _ (old : Machine) (number : ℕ) (event : Event) (new : Machine) (steps : Steps old number event new) where
  abbrev worked : Machine
  worked = steps.0

  abbrev core : Core
  core = count_made (core_at worked number)

  kept : KeepsCounts old worked
  kept = works_keep old number event worked steps.1

  cores_are : new.cores ≡ slice_set worked.cores number core
  cores_are = ap (λ (machine : Machine). machine.cores) steps.2

  -- a step counts one line of its core
  pub step_counts : number < length old.cores → CountsLine old number new
  step_counts there =
      let inside = subst (λ (count : ℕ). number < count) (sym kept.cores) there in
      record {
        own = ap (λ (core : Core). core.state.made) (own_core worked new number core inside cores_are)
            ∙ ap (λ (made : ℕ). (made + 1) % 2 ^ 64) (kept.made number);
        others = λ other apart.
            ap (λ (core : Core). core.state.made) (other_core worked new number core other apart cores_are) ∙ kept.made other;
      }

  -- it leaves as many cores
  pub step_cores : length new.cores ≡ length old.cores
  step_cores = ap length cores_are ∙ (length-set worked.cores number core ∙ kept.cores)

  -- and as many frames
  pub step_frames : frame_count new.memory ≡ frame_count old.memory
  step_frames = ap (λ (machine : Machine). frame_count machine.memory) steps.2 ∙ kept.frames
