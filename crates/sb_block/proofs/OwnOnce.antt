-- A step that a core makes by itself is one.
use Rattle.std.proofs.Common.{◌≡◌, ap, sym, subst, ◌∙◌, ℕ, [], ◌∷◌, refl, arith}
use Rattle.std.specs.Prelude.{IsTrue, Result, Ok, Err}
use Rattle.sb_memory.specs.Physical.{Physical}
use Rattle.sb_insn.specs.declared.insn.Insn.{Insn}
use Rattle.sb_insn.specs.declared.registers.Regs.{Regs}
use Rattle.sb_bus.specs.declared.stop.BusStop.{BusStop}
use Rattle.sb_bus.specs.declared.stop.BusStop.TheVariants as stop
use Rattle.sb_exec.specs.declared.action.Effect.{Effect}
use Rattle.sb_exec.specs.declared.action.Effect.TheVariants as effect
use Rattle.sb_exec.proofs.OneFetch.{one_fetch_on}
use Rattle.sb_nested.specs.Store.{view_interface}
use Rattle.sb_state.specs.declared.end_kind.EndKind.{EndKind}
use Rattle.sb_state.specs.declared.end_kind.EndKind.TheVariants.{Running, Ended, Faulted}
use Rattle.sb_trace.specs.declared.event.Event.{Event}
use Rattle.sb_sub.specs.Serving.{line_of}
use Rattle.sb_sub.specs.declared.answer.Answer.{Answer}
use Rattle.sb_sub.specs.declared.answer.Answer.TheVariants as answer
use Rattle.sb_machine.specs.Machine.{Machine, core_at, state_at, view_at, no_account}
use Rattle.sb_machine.specs.Outcomes.{Outcome, with_line}
use Rattle.sb_machine.specs.OwnSteps.{is_own, OwnSteps}
use Rattle.sb_machine.specs.Written.{FollowsFetch, PerformsBy, StepsBy, StopsWith, execution_on}
use Rattle.sb_block.specs.Block.{OneOwnStep, OwnStepsAreOne}

-- no system call is a step that a core makes by itself
call_apart : (told : Answer) → IsTrue (is_own (line_of told)) → ⊥
call_apart (answer.Back number value) own = cc
call_apart (answer.Printed value) own = cc
call_apart (answer.Ended status) own = cc
call_apart (answer.GoHome status) own = cc

module _ (machine : Machine) (number : ℕ) (one two : Outcome) (own : IsTrue (is_own one.0)) where
  stops_same : (why : BusStop) → StopsWith machine number why one → StopsWith machine number why two → one ≡ two
  stops_same (stop.Fault kind address) first second = first ∙ sym second
  stops_same (stop.Missing frame) first second = absurd first

  performs_same : (insn : Insn) (answer : Result Effect BusStop) (regs : Regs) (memory : Physical)
      → PerformsBy machine number insn answer regs memory one → PerformsBy machine number insn answer regs memory two → one ≡ two
  performs_same insn (Ok effect.Next) regs memory first second = first ∙ sym second
  performs_same insn (Ok effect.Syscall) regs memory first second =
      absurd (call_apart first.answer (subst (λ (line : Event). IsTrue (is_own line)) first.line own))
  performs_same insn (Ok effect.Switch) regs memory first second = first ∙ sym second
  performs_same insn (Ok effect.Undefined) regs memory first second = first ∙ sym second
  performs_same insn (Err why) regs memory first second = stops_same why first second

  fetched_same : (got : Result Insn BusStop) → FollowsFetch machine number got one → FollowsFetch machine number got two
      → one ≡ two
  fetched_same (Ok insn) first second =
      performs_same insn (execution_on machine number insn).answer (execution_on machine number insn).registers
      (execution_on machine number insn).meaning.physical first second
  fetched_same (Err why) first second = stops_same why first second

  -- by how the thread stands
  works_same : (end : EndKind) → StepsBy machine number end one → StepsBy machine number end two → one ≡ two
  works_same Running first second =
      let same =
      one_fetch_on (view_interface no_account) (view_at machine number) (state_at machine number).regs.rip tt tt tt first.0
      second.0 first.1 second.1 in
      fetched_same second.0 (subst (λ (got : Result Insn BusStop). FollowsFetch machine number got one) same.0 first.2) second.2
  works_same (Ended status) first second = first ∙ sym second
  works_same (Faulted kind address) first second = first ∙ sym second

-- such a step is one
pub one_own_step : OneOwnStep
one_own_step old number event other new last own first second =
    let same =
    works_same old number (event, first.0) (other, second.0) own (core_at old number).end first.1 second.1 in (
      ap (λ (outcome : Outcome). outcome.0) same,
      first.2 ∙ (ap (λ (outcome : Outcome). with_line outcome.1 number) same ∙ sym second.2),
    )

-- so are equally many, one after another
pub one_own_run : OwnStepsAreOne
unfolding OwnSteps
one_own_run old number [] [] new last first second count = (refl, first ∙ sym second)
one_own_run old number [] (other ∷ others) new last first second count = absurd (omega arith)
one_own_run old number (event ∷ events) [] new last first second count = absurd (omega arith)
one_own_run old number (event ∷ events) (other ∷ others) new last first second count =
    let same = one_own_step old number event other first.0 second.0 first.1 first.2 second.2 in
    let rest =
    one_own_run second.0 number events others new last
    (subst (λ (next : Machine). OwnSteps next number events new) same.1 first.3) second.3 (omega arith) in
    (rw (same.0, rest.0) refl, rest.1)
