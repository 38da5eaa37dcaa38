-- What a core keeps of where its thread stood at the VMFUNC, behind steps that it makes by itself: where no flight begins in them
-- that is not decided behind them, nothing, or what it kept before.
use Rattle.std.proofs.Common.{◌≡◌, ◌∙◌, sym, ap, subst, ℕ, ◌<◌, ◌==◌, ◌&&◌, ◌||◌, ◌⊎◌, inl, inr, Bool, true, false, not, List, [], ◌∷◌, length, refl, slice_set}
use Rattle.std.specs.Prelude.{IsTrue, Option, Some, None, Result, Ok, Err}
use Rattle.sb_memory.specs.Physical.{Physical}
use Rattle.sb_memory.specs.declared.address.Missing.{Missing}
use Rattle.sb_insn.specs.declared.insn.Insn.{Insn}
use Rattle.sb_insn.specs.declared.registers.Regs.{Regs}
use Rattle.sb_bus.specs.declared.stop.BusStop.{BusStop}
use Rattle.sb_bus.specs.declared.stop.BusStop.TheVariants as stop
use Rattle.sb_bus.specs.declared.stop.FaultKind.{FaultKind}
use Rattle.sb_bus.specs.declared.stop.FaultKind.TheVariants as kind
use Rattle.sb_exec.specs.declared.action.Effect.{Effect}
use Rattle.sb_exec.specs.declared.action.Effect.TheVariants as effect
use Rattle.sb_root.specs.declared.switch_answer.Switch.{Switch}
use Rattle.sb_root.specs.declared.switch_answer.Switch.TheVariants as switch
use Rattle.sb_root.specs.Switch.{switch_result}
use Rattle.sb_state.specs.Registers.{eax, ecx}
use Rattle.sb_state.specs.declared.end_kind.EndKind.{EndKind}
use Rattle.sb_state.specs.declared.end_kind.EndKind.TheVariants.{Running, Ended, Faulted}
use Rattle.sb_state.proofs.Cases.{claim_if}
use Rattle.sb_trace.specs.declared.event.Event.{Event}
use Rattle.sb_trace.specs.declared.event.Event.TheVariants as event
use Rattle.sb_sub.specs.Serving.{line_of}
use Rattle.sb_sub.specs.declared.answer.Answer.{Answer}
use Rattle.sb_sub.specs.declared.answer.Answer.TheVariants as answer
use Rattle.sb_machine.specs.declared.place.Seen.{Seen}
use Rattle.sb_machine.specs.declared.processor.Core.{Core}
use Rattle.sb_machine.specs.declared.processor.CoreState.{CoreState}
use Rattle.sb_machine.specs.declared.processor.Origin.{Origin}
use Rattle.sb_machine.specs.Machine.{Machine, core_at, state_at}
use Rattle.sb_machine.specs.Outcomes.{Outcome, core_behind, count_made, fault_outcome, home_line, line_by, origin_behind, refusal_outcome, switch_outcome_by}
use Rattle.sb_machine.specs.OwnSteps.{AreSteps, KeepsOrigin, OwnSteps, is_own}
use Rattle.sb_machine.specs.Written.{PerformsBy, FollowsFetch, StopsWith, StepsBy, Steps, execution_on}
use Rattle.sb_machine.proofs.Cores.{own_core}
use Rattle.sb_machine.proofs.Counting.{step_cores, works_keep}
use Rattle.sb_block.specs.declared.fact.MadeStep.{MadeStep}
use Rattle.sb_block.specs.Run.{events_of}
use Rattle.sb_book.specs.Commit.{LeadsBehind}
use Rattle.sb_book.specs.Undecided.{begins_flight, decides_call, undecided_after, undecided_behind}

-- nothing is kept, or this
abbrev IsGoneOr : Option Origin → Option Origin → Type 0
IsGoneOr before origin = (origin ≡ None) ⊎ (origin ≡ before)

-- ---- one step

-- what is kept of that place is as before, or gone, where no flight begins; and it is gone where the call is decided
record LeavesOrigin (old : Machine) (number : ℕ) (line : Event) (new : Machine) : Type 0 where
  pub kept : begins_flight line ≡ false → KeepsOrigin old number new
  pub gone : decides_call line ≡ true → (core_at new number).origin ≡ None

abbrev LeavesBy : Machine → ℕ → Outcome → Type 0
LeavesBy machine number outcome = IsTrue (is_own outcome.0) → LeavesOrigin machine number outcome.0 outcome.1

behind_is : (line : Event) (origin : Option Origin) → IsGoneOr origin (origin_behind line origin)
behind_is (event.Landing phase) origin = inr refl
behind_is _ origin = inl refl

behind_decided : (line : Event) (origin : Option Origin) → decides_call line ≡ true → origin_behind line origin ≡ None
behind_decided (event.Landing phase) origin decided = absurd cc
behind_decided _ origin decided = refl

-- no call is decided where a core comes home
home_decides : (phase : Option ℕ) (view : ℕ) → decides_call (home_line phase view) ≡ false
home_decides None view =
    claim_if (λ (line : Event). decides_call line ≡ false) (view == 0) event.Turn event.Return (λ home. refl) (λ away. refl)
home_decides (Some phase) view = refl

-- no system call is a step that a core makes by itself
call_apart : (told : Answer) → IsTrue (is_own (line_of told)) → ⊥
call_apart (answer.Back number value) own = cc
call_apart (answer.Printed value) own = cc
call_apart (answer.Ended status) own = cc
call_apart (answer.GoHome status) own = cc

module _ (machine : Machine) (number : ℕ) (there : number < length machine.cores) where
  -- a core is put
  put_leaves : (line : Event) (new : Machine) (core : Core) → new.cores ≡ slice_set machine.cores number core
      → (begins_flight line ≡ false → IsGoneOr (core_at machine number).origin core.origin)
      → (decides_call line ≡ true → core.origin ≡ None) → LeavesOrigin machine number line new
  put_leaves line new core is kept gone =
      let same : (core_at new number).origin ≡ core.origin =
      ap (λ (one : Core). one.origin) (own_core machine new number core there is) in
      record {
        kept = λ none.
            subst (IsGoneOr (core_at machine number).origin) (sym same) (kept none);
        gone = λ decided. same ∙ gone decided;
      }

  next_leaves : (regs : Regs) (memory : Physical) (new : Machine)
      → new.cores ≡ slice_set machine.cores number (core_behind (core_at machine number) regs)
      → LeavesOrigin machine number
      (line_by (state_at machine number).phase (state_at machine number).view (state_at machine number).regs.rip regs) new
  next_leaves regs memory new is =
      let line = line_by (state_at machine number).phase (state_at machine number).view (state_at machine number).regs.rip regs in
      put_leaves line new (core_behind (core_at machine number) regs) is (λ none. behind_is line (core_at machine number).origin)
      (behind_decided line (core_at machine number).origin)

  fault_leaves : (kind : FaultKind) (address : ℕ) → LeavesBy machine number (fault_outcome machine number kind address)
  fault_leaves kind address =
      claim_if (LeavesBy machine number) ((state_at machine number).view == 0) _ _ (λ home own. absurd cc) (λ away own. absurd cc)

  refusal_leaves : (line : Event) (told : ℕ) → (IsTrue (is_own line) → ⊥)
      → LeavesBy machine number (refusal_outcome machine number line told)
  refusal_leaves line told apart =
      claim_if (LeavesBy machine number) ((state_at machine number).view == 0) _ _ (λ home own. absurd (apart own))
      (λ away. fault_leaves kind.Switch (state_at machine number).regs.rip)

  switch_leaves : (insn : Insn) (index : ℕ) (found : Result Switch Missing)
      → LeavesBy machine number (switch_outcome_by machine number insn index found)
  switch_leaves insn index (Ok (switch.To eptp)) =
      claim_if (LeavesBy machine number) (index == 0) _ _
      (λ home own.
      put_leaves _ _ _ refl (λ none. inr refl)
      (λ decided. absurd (let none = home_decides (state_at machine number).phase (state_at machine number).view in cc)))
      (λ away own. put_leaves _ _ _ refl (λ none. absurd cc) (λ decided. absurd cc))
  switch_leaves insn index (Ok switch.Unbound) = refusal_leaves _ _ (λ own. cc)
  switch_leaves insn index (Ok switch.BadLeaf) = refusal_leaves _ _ (λ own. cc)
  switch_leaves insn index (Err gap) = refusal_leaves _ _ (λ own. cc)

  stop_leaves : (one : BusStop) (outcome : Outcome) → StopsWith machine number one outcome → LeavesBy machine number outcome
  stop_leaves (stop.Fault kind address) outcome is =
      subst (LeavesBy machine number) (sym is) (fault_leaves kind address.0)
  stop_leaves (stop.Missing frame) outcome is = absurd is

  performs_leave : (insn : Insn) (found : Result Effect BusStop) (regs : Regs) (memory : Physical) (outcome : Outcome)
      → PerformsBy machine number insn found regs memory outcome → LeavesBy machine number outcome
  performs_leave insn (Ok effect.Next) regs memory outcome is =
      subst (LeavesBy machine number) (sym is) (λ own. next_leaves regs memory _ refl)
  performs_leave insn (Ok effect.Syscall) regs memory outcome calls =
      λ own. absurd (call_apart calls.answer (subst (λ (line : Event). IsTrue (is_own line)) calls.line own))
  performs_leave insn (Ok effect.Switch) regs memory outcome is =
      subst (LeavesBy machine number) (sym is) (switch_leaves insn (ecx (state_at machine number).regs)
      (switch_result machine.memory (state_at machine number).list.0 (eax (state_at machine number).regs) (ecx (state_at machine
      number).regs)))
  performs_leave insn (Ok effect.Undefined) regs memory outcome is =
      subst (LeavesBy machine number) (sym is) (fault_leaves kind.Undefined (state_at machine number).regs.rip)
  performs_leave insn (Err one) regs memory outcome is = stop_leaves one outcome is

  fetch_leaves : (fetched : Result Insn BusStop) (outcome : Outcome) → FollowsFetch machine number fetched outcome
      → LeavesBy machine number outcome
  fetch_leaves (Ok insn) outcome performs =
      performs_leave insn (execution_on machine number insn).answer _ _ outcome performs
  fetch_leaves (Err one) outcome is = stop_leaves one outcome is

  ends_leave : (end : EndKind) (outcome : Outcome) → StepsBy machine number end outcome → LeavesBy machine number outcome
  ends_leave Running outcome runs = fetch_leaves runs.0 outcome runs.2
  ends_leave (Ended status) outcome is = subst (LeavesBy machine number) (sym is) (λ own. absurd cc)
  ends_leave (Faulted kind address) outcome is = subst (LeavesBy machine number) (sym is) (λ own. absurd cc)

-- a step that a core makes by itself
step_leaves : (old : Machine) (number : ℕ) (line : Event) (new : Machine) → number < length old.cores → IsTrue (is_own line)
    → Steps old number line new → LeavesOrigin old number line new
step_leaves old number line new there own steps =
    let worked : Machine = steps.0 in
    let left = ends_leave old number there (core_at old number).end (line, worked) steps.1 own in
    let inside : number < length worked.cores =
    subst (λ (count : ℕ). number < count) (sym (works_keep old number line worked steps.1).cores) there in
    let counted : Core = count_made (core_at worked number) in
    let same : (core_at new number).origin ≡ (core_at worked number).origin =
    ap (λ (core : Core). core.origin)
    (own_core worked new number counted inside (ap (λ (machine : Machine). machine.cores) steps.2)) in
    record {
      kept = λ none.
          subst (IsGoneOr (core_at old number).origin) (sym same) (left.kept none);
      gone = λ decided. same ∙ left.gone decided;
    }

-- ---- steps one after another

-- where no call is undecided behind a line, none begins with it, and it decides one or none was undecided before it
none_undecided : (begins undecided decides : Bool) → (begins || (undecided && not decides)) ≡ false
    → (begins ≡ false) × ((decides ≡ true) ⊎ (undecided ≡ false))
none_undecided true undecided decides none = absurd cc
none_undecided false true true none = (refl, inl refl)
none_undecided false true false none = absurd cc
none_undecided false false decides none = (refl, inr refl)

-- a place that was gone or kept, and is gone or kept again
kept_again : (first before after : Option Origin) → IsGoneOr first before → IsGoneOr before after → IsGoneOr first after
kept_again first before after was (inl gone) = inl gone
kept_again first before after (inl none) (inr same) = inl (same ∙ none)
kept_again first before after (inr kept) (inr same) = inr (same ∙ kept)

-- behind steps one after another, where no call is undecided, that place is gone, or as at first if it was so before them
origin_after : (undecided : Bool) (first : Option Origin) (old : Machine) (number : ℕ) (events : List Event) (new : Machine)
    → number < length old.cores → OwnSteps old number events new
    → (undecided ≡ false → IsGoneOr first (core_at old number).origin)
    → undecided_after undecided events ≡ false → IsGoneOr first (core_at new number).origin
unfolding OwnSteps
origin_after undecided first old number [] new there same before none =
    subst (λ (machine : Machine). IsGoneOr first (core_at machine number).origin) (sym same) (before none)
origin_after undecided first old number (line ∷ lines) new there (next, own, steps, rest) before none =
    let left = step_leaves old number line next there own steps in
    let there' : number < length next.cores =
    subst (λ (count : ℕ). number < count) (sym (step_cores old number line next steps)) there in
    origin_after (undecided_behind undecided line) first next number lines new there' rest
    (λ closed. let told = none_undecided (begins_flight line) undecided (decides_call line) closed in elim told.1 [
      | inl decided ↦ inl (left.gone decided)
      | inr clear ↦ kept_again first (core_at old number).origin (core_at next number).origin (before clear) (left.kept told.0)
    ])
    none

-- where no call of which the flight began in the lines is undecided behind them
pub keeps_origin : (old : Machine) (number : ℕ) (events : List Event) (new : Machine) → number < length old.cores
    → OwnSteps old number events new → undecided_after false events ≡ false → KeepsOrigin old number new
keeps_origin old number events new there steps none =
    origin_after false (core_at old number).origin old number events new there steps (λ clear. inr refl) none

-- so the steps of a block are such as can be applied
pub are_steps : (old : Machine) (number : ℕ) (steps shown : List MadeStep) (after : CoreState) (writes : List Seen)
    → (leads : LeadsBehind old number steps after writes) → number < length old.cores → shown ≡ steps
    → undecided_after false (events_of shown) ≡ false → AreSteps old number (events_of steps) after writes leads.new
are_steps old number steps shown after writes leads there same none = record {
  steps = leads.own;
  leaves = leads.leaves;
  origin = keeps_origin old number (events_of steps) leads.new there leads.own
      (subst (λ (list : List MadeStep). undecided_after false (events_of list) ≡ false) same none);
}
