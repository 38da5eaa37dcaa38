-- Steps that a core makes by itself, over memories that agree.
use Rattle.std.proofs.Common.{◌≡◌, ap, sym, subst, ◌∙◌, ℕ, List, [], ◌∷◌, inl, inr, refl}
use Rattle.std.specs.Prelude.{Result, Ok, Err}
use Rattle.sb_memory.specs.Physical.{Physical}
use Rattle.sb_insn.specs.declared.insn.Insn.{Insn}
use Rattle.sb_bus.specs.declared.stop.BusStop.{BusStop}
use Rattle.sb_exec.specs.declared.action.Effect.{Effect}
use Rattle.sb_exec.specs.declared.action.Effect.TheVariants as effect
use Rattle.sb_exec.specs.Execution.{Execution}
use Rattle.sb_exec.specs.Rows.{row_of}
use Rattle.sb_exec.proofs.Left.{rows_left}
use Rattle.sb_exec.proofs.OneFetch.{one_fetch_on}
use Rattle.sb_nested.specs.View.{View}
use Rattle.sb_nested.specs.Store.{view_interface}
use Rattle.sb_root.specs.declared.switch_answer.Switch.TheVariants as switch
use Rattle.sb_trace.specs.declared.event.Event.{Event}
use Rattle.sb_machine.specs.declared.processor.CoreState.{CoreState}
use Rattle.sb_machine.specs.Machine.{seen_by}
use Rattle.sb_agree.specs.Noted.{Noted, noted_rule}
use Rattle.sb_agree.specs.Held.{Agrees, Covers}
use Rattle.sb_agree.specs.Laws.{EndAlike}
use Rattle.sb_agree.proofs.Alike.{fetch_alike_on, execution_alike, fetch_more}
use Rattle.sb_agree.proofs.Rows.{row_more}
use Rattle.sb_block.specs.declared.fact.Fact.{Fact}
use Rattle.sb_block.specs.declared.fact.MadeStep.{MadeStep}
use Rattle.sb_block.specs.Facts.{IsFact}
use Rattle.sb_block.specs.Run.{at, CoreRuns, MakesStep}
use Rattle.sb_block.specs.Step.{At, CoreOutcome, Made, CoreSteps, core_execution, answer_outcome, fetch_outcome}
use Rattle.sb_block.proofs.Made.{FetchesAt, list_account, GoesOn, Switches, IsMade, made_by, not_stopped, goes_on_comes, switch_comes}
use Rattle.sb_block.proofs.Lists.{list_more, list_alike}

-- ---- what is noted stays noted

abbrev CoversReads : List ℕ → At Noted → Type 0
CoversReads all one = Covers all one.account.reads

-- what an instruction has noted is noted behind the step that it makes
made_more : (all : List ℕ) (core : CoreState) (insn : Insn) (memory : Physical) (execution : Execution View Noted)
    (event : Event) (next : At Noted) → IsMade noted_rule core insn memory execution event next → CoversReads all next
    → Covers all execution.account.reads
made_more all core insn memory execution event next (inl goes) covers = subst (CoversReads all) goes.next_is covers
made_more all core insn memory execution event next (inr switches) covers =
    list_more all core memory execution.account (subst (CoversReads all) switches.next_is covers)

module _ (all : List ℕ) (before : At Noted) (event : Event) (next : At Noted) where
  -- by what was fetched
  more_by : (fetched : Result Insn BusStop) (account : Noted) → FetchesAt noted_rule before account fetched
      → Path (CoreOutcome Noted) (Made event next) (fetch_outcome noted_rule before.core before.memory account fetched)
      → CoversReads all next → CoversReads all before
  more_by (Ok insn) account fetches made covers =
      let core = before.core in
      let execution = core_execution noted_rule core insn before.memory account in
      let is = made_by event next noted_rule core insn before.memory execution execution.answer refl made in
      fetch_more all (seen_by before.memory core) core.regs.rip before.account account (Ok insn) fetches
      (row_more all (seen_by before.memory core) account (row_of insn core.regs) core.regs
      (made_more all core insn before.memory execution event next is covers))
  more_by (Err why) account fetches made covers = absurd (not_stopped event next why made)

  -- what was noted before a step is noted behind it
  pub step_more : CoreSteps noted_rule before (Made event next) → CoversReads all next → CoversReads all before
  step_more step covers = more_by step.fetched step.account step.fetches step.comes covers

-- what was noted before steps is noted behind them
pub runs_more : (all : List ℕ) (steps : List MadeStep) (before after : At Noted) → CoreRuns noted_rule before steps after
    → CoversReads all after → CoversReads all before
unfolding CoreRuns
runs_more all [] before after runs covers = subst (CoversReads all) runs covers
runs_more all (step ∷ steps) before after runs covers =
    step_more all before step.event runs.0 runs.1.0 (runs_more all steps runs.0 after runs.2 covers)

-- ---- one step

-- a step with the same instruction, line, core and account over another memory, and the memories agree again
pub record StepAlike (all : List ℕ) (start : Physical) (before : At Noted) (fetched : Result Insn BusStop) (event : Event)
    (next : At Noted) (changed : Physical)
    : Type 0 where
  pub ended : Physical
  pub step : CoreSteps noted_rule (at before.core changed before.account) (Made event (at next.core ended next.account))
  pub fetch : step.fetched ≡ fetched
  pub agrees : Agrees all start next.account.writes next.memory ended

-- VMFUNC leaves the memory as it is
switch_leaves : (core : CoreState) (insn : Insn) (memory : Physical) (account : Noted)
    → (core_execution noted_rule core insn memory account).answer ≡ Ok effect.Switch
    → (core_execution noted_rule core insn memory account).meaning.physical ≡ memory
switch_leaves core insn memory account is =
    ap (λ (sees : View). sees.physical)
    (rows_left (view_interface noted_rule) insn core.regs (seen_by memory core) account (λ next. cc)).1

module _ (all : List ℕ) (start : Physical) (before : At Noted) (event : Event) (next : At Noted) (changed : Physical)
    (agree : Agrees all start before.account.writes before.memory changed) (covers : CoversReads all next) where
  abbrev other : At Noted
  other = at before.core changed before.account

  abbrev AgreeAt : Physical → At Noted → Type 0
  AgreeAt ended one = Agrees all start one.account.writes one.memory ended

  module _ (insn : Insn) (account : Noted) (fetches : FetchesAt noted_rule before account (Ok insn)) where
    abbrev here : Execution View Noted
    here = core_execution noted_rule before.core insn before.memory account

    abbrev there : Execution View Noted
    there = core_execution noted_rule before.core insn changed account

    -- what the instruction answers over the other memory
    abbrev ComesThere : Physical → Noted → Type 0
    ComesThere ended noted =
        Path (CoreOutcome Noted) (Made event (at next.core ended noted))
        (answer_outcome noted_rule before.core insn changed there there.answer)

    -- it is fetched over the other memory too, and ends alike
    record IsAlike (one : Effect) : Type 0 where
      fetch : FetchesAt noted_rule other account (Ok insn)
      end : EndAlike all start one here there

    is_alike : (one : Effect) → here.answer ≡ Ok one → Covers all here.account.reads → IsAlike one
    is_alike one is noted =
        let core = before.core in
        let row = row_of insn core.regs in
        let got =
        fetch_alike_on all start before.memory changed core.eptp core.cr3 core.regs.rip before.account account insn agree fetches
        (row_more all (seen_by before.memory core) account row core.regs noted) in
        record {
          fetch = got.0;
          end = execution_alike all start before.memory changed core.eptp core.cr3 account row core.regs one got.1 is noted;
        }

    -- an instruction that goes on
    goes_alike : GoesOn before.core here event next → StepAlike all start before (Ok insn) event next changed
    goes_alike goes =
        let both = is_alike effect.Next goes.answer (subst (CoversReads all) goes.next_is covers) in
        let answer : there.answer ≡ here.answer = both.end.answer ∙ sym goes.answer in
        let noted : there.account ≡ next.account =
        both.end.account ∙ sym (ap (λ (one : At Noted). one.account) goes.next_is) in
        record {
          ended = there.meaning.physical;
          step = record {
            fetched = Ok insn;
            account = account;
            fetches = both.fetch;
            comes = subst (ComesThere there.meaning.physical) noted
                (goes_on_comes before.core insn event next here noted_rule changed there goes answer both.end.registers);
          };
          fetch = refl;
          agrees = subst (AgreeAt there.meaning.physical) (sym goes.next_is) both.end.agrees;
        }

    -- behind a VMFUNC the memories agree as they were
    switch_agrees : here.answer ≡ Ok effect.Switch → EndAlike all start effect.Switch here there
        → Agrees all start here.account.writes before.memory changed
    switch_agrees is end =
        subst (λ (memory : Physical). Agrees all start here.account.writes before.memory memory)
        (switch_leaves before.core insn changed account end.answer)
        (subst (λ (memory : Physical). Agrees all start here.account.writes memory there.meaning.physical)
        (switch_leaves before.core insn before.memory account is) end.agrees)

    -- a VMFUNC into a view
    switches_alike : Switches noted_rule before.core insn before.memory here event next
        → StepAlike all start before (Ok insn) event next changed
    switches_alike switches =
        let core = before.core in
        let covered = subst (CoversReads all) switches.next_is covers in
        let both = is_alike effect.Switch switches.answer (list_more all core before.memory here.account covered) in
        let answer : there.answer ≡ here.answer = both.end.answer ∙ sym switches.answer in
        let list =
        list_alike all start before.memory changed here.account (switch_agrees switches.answer both.end) core
        (switch.To switches.eptp) switches.list covered in
        let noted : list_account noted_rule core changed there.account ≡ next.account =
        ap (list_account noted_rule core changed) both.end.account
        ∙ (list.account_is ∙ sym (ap (λ (one : At Noted). one.account) switches.next_is)) in
        record {
          ended = changed;
          step = record {
            fetched = Ok insn;
            account = account;
            fetches = both.fetch;
            comes = subst (ComesThere changed) noted
                (switch_comes core insn event next here noted_rule changed there noted_rule before.memory switches answer
                list.answer agree.frames);
          };
          fetch = refl;
          agrees = subst (AgreeAt changed) (sym switches.next_is) list.agrees;
        }

    made_alike : IsMade noted_rule before.core insn before.memory here event next
        → StepAlike all start before (Ok insn) event next changed
    made_alike (inl goes) = goes_alike goes
    made_alike (inr switches) = switches_alike switches

  -- by what was fetched
  alike_by : (fetched : Result Insn BusStop) (account : Noted) → FetchesAt noted_rule before account fetched
      → Path (CoreOutcome Noted) (Made event next) (fetch_outcome noted_rule before.core before.memory account fetched)
      → StepAlike all start before fetched event next changed
  alike_by (Ok insn) account fetches made =
      let execution = here insn account fetches in
      made_alike insn account fetches
      (made_by event next noted_rule before.core insn before.memory execution execution.answer refl made)
  alike_by (Err why) account fetches made = absurd (not_stopped event next why made)

  -- a step that is made over one memory is made over one that agrees
  pub step_alike : (step : CoreSteps noted_rule before (Made event next))
      → StepAlike all start before step.fetched event next changed
  step_alike step = alike_by step.fetched step.account step.fetches step.comes

  -- and has the same fact
  pub fact_alike : (step : CoreSteps noted_rule before (Made event next)) (fact : Fact) → IsFact noted_rule before next fact
      → (alike : StepAlike all start before step.fetched event next changed)
      → IsFact noted_rule other (at next.core alike.ended next.account) fact
  fact_alike step fact is alike =
      let same =
      one_fetch_on (view_interface noted_rule) (seen_by before.memory before.core) before.core.regs.rip before.account
      step.account is.account step.fetched (Ok is.insn) step.fetches is.fetches in
      record {
        view = is.view;
        behind = is.behind;
        insn = is.insn;
        account = alike.step.account;
        fetches = subst (λ (got : Result Insn BusStop). FetchesAt noted_rule other alike.step.account got) (alike.fetch ∙ same.0)
            alike.step.fetches;
        scratch = is.scratch;
      }

-- ---- steps one after another

-- the same steps, with the same core and account over another memory, and the memories agree again
pub record RunAlike (all : List ℕ) (start : Physical) (before : At Noted) (steps : List MadeStep) (after : At Noted)
    (changed : Physical)
    : Type 0 where
  pub ended : Physical
  pub runs : CoreRuns noted_rule (at before.core changed before.account) steps (at after.core ended after.account)
  pub agrees : Agrees all start after.account.writes after.memory ended

-- steps that are made over one memory are made over one that agrees
pub runs_alike : (all : List ℕ) (start : Physical) (steps : List MadeStep) (before after : At Noted) (changed : Physical)
    → Agrees all start before.account.writes before.memory changed → CoreRuns noted_rule before steps after
    → CoversReads all after → RunAlike all start before steps after changed
unfolding CoreRuns
runs_alike all start [] before after changed agree runs covers = record {
  ended = changed;
  runs = ap (λ (one : At Noted). at one.core changed one.account) runs;
  agrees = subst (λ (one : At Noted). Agrees all start one.account.writes one.memory changed) (sym runs) agree;
}
runs_alike all start (step ∷ steps) before after changed agree runs covers =
    let next = runs.0 in
    let covered = runs_more all steps next after runs.2 covers in
    let alike = step_alike all start before step.event next changed agree covered runs.1.0 in
    let fact = fact_alike all start before step.event next changed agree covered runs.1.0 step.fact runs.1.1 alike in
    let rest = runs_alike all start steps next after alike.ended alike.agrees runs.2 covers in
    record {
      ended = rest.ended;
      runs = (at next.core alike.ended next.account, (alike.step, fact), rest.runs);
      agrees = rest.agrees;
    }
