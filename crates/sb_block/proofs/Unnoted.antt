-- Steps that a core makes by itself, over a memory that keeps no account.
use Rattle.std.proofs.Common.{◌≡◌, ap, sym, subst, ◌∙◌, List, [], ◌∷◌, inl, inr, refl}
use Rattle.std.specs.Prelude.{Result, Ok, Err}
use Rattle.sb_memory.specs.Physical.{Physical}
use Rattle.sb_insn.specs.declared.insn.Insn.{Insn}
use Rattle.sb_bus.specs.declared.stop.BusStop.{BusStop}
use Rattle.sb_exec.specs.Execution.{Execution}
use Rattle.sb_exec.specs.Rows.{row_of}
use Rattle.sb_nested.specs.View.{View}
use Rattle.sb_trace.specs.declared.event.Event.{Event}
use Rattle.sb_machine.specs.declared.processor.CoreState.{CoreState}
use Rattle.sb_machine.specs.Machine.{seen_by, no_account}
use Rattle.sb_agree.specs.Noted.{Noted, noted_rule}
use Rattle.sb_agree.specs.Laws.{SameButAccount}
use Rattle.sb_agree.proofs.Alike.{fetch_unnoted, execution_unnoted}
use Rattle.sb_block.specs.declared.fact.Fact.{Fact}
use Rattle.sb_block.specs.declared.fact.MadeStep.{MadeStep}
use Rattle.sb_block.specs.Facts.{IsFact}
use Rattle.sb_block.specs.Run.{at, CoreRuns}
use Rattle.sb_block.specs.Step.{At, CoreOutcome, Made, CoreSteps, core_execution, answer_outcome, fetch_outcome}
use Rattle.sb_block.proofs.Made.{FetchesAt, IsMade, made_by, not_stopped, goes_on_comes, switch_comes}

-- a core over a memory that keeps no account
abbrev pub alone : CoreState → Physical → At (Unit {0})
alone core memory = at core memory tt

module _ (before : At Noted) (event : Event) (next : At Noted) where
  module _ (insn : Insn) (account : Noted) where
    abbrev noted : Execution View Noted
    noted = core_execution noted_rule before.core insn before.memory account

    abbrev plain : Execution View (Unit {0})
    plain = core_execution no_account before.core insn before.memory tt

    -- what the instruction answers where no account is kept
    abbrev ComesPlain : Physical → Type 0
    ComesPlain memory =
        Path (CoreOutcome (Unit {0})) (Made event (alone next.core memory))
        (answer_outcome no_account before.core insn before.memory plain plain.answer)

    -- it ends the same
    same : SameButAccount noted plain
    same =
        execution_unnoted no_account (seen_by before.memory before.core) account (row_of insn before.core.regs) before.core.regs

    made_unnoted : IsMade noted_rule before.core insn before.memory noted event next → ComesPlain next.memory
    made_unnoted (inl goes) =
        let memory : plain.meaning.physical ≡ next.memory =
        ap (λ (sees : View). sees.physical) same.meaning ∙ sym (ap (λ (one : At Noted). one.memory) goes.next_is) in
        subst ComesPlain memory
        (goes_on_comes before.core insn event next noted no_account before.memory plain goes same.answer same.registers)
    made_unnoted (inr switches) =
        subst ComesPlain (sym (ap (λ (one : At Noted). one.memory) switches.next_is))
        (switch_comes before.core insn event next noted no_account before.memory plain noted_rule before.memory switches
        same.answer refl refl)

  -- by what was fetched
  unnoted_by : (fetched : Result Insn BusStop) (account : Noted) → FetchesAt noted_rule before account fetched
      → Path (CoreOutcome Noted) (Made event next) (fetch_outcome noted_rule before.core before.memory account fetched)
      → CoreSteps no_account (alone before.core before.memory) (Made event (alone next.core next.memory))
  unnoted_by (Ok insn) account fetches made =
      let execution = noted insn account in
      record {
        fetched = Ok insn;
        account = tt;
        fetches = fetch_unnoted no_account (seen_by before.memory before.core) before.core.regs.rip before.account account
            (Ok insn) fetches;
        comes = made_unnoted insn account
            (made_by event next noted_rule before.core insn before.memory execution execution.answer refl made);
      }
  unnoted_by (Err why) account fetches made = absurd (not_stopped event next why made)

  -- a step is made where no account is kept
  pub step_unnoted : CoreSteps noted_rule before (Made event next)
      → CoreSteps no_account (alone before.core before.memory) (Made event (alone next.core next.memory))
  step_unnoted step = unnoted_by step.fetched step.account step.fetches step.comes

-- it has the same fact
fact_unnoted : (before next : At Noted) (fact : Fact) → IsFact noted_rule before next fact
    → IsFact no_account (alone before.core before.memory) (alone next.core next.memory) fact
fact_unnoted before next fact is = record {
  view = is.view;
  behind = is.behind;
  insn = is.insn;
  account = tt;
  fetches = fetch_unnoted no_account (seen_by before.memory before.core) before.core.regs.rip before.account is.account
      (Ok is.insn) is.fetches;
  scratch = is.scratch;
}

-- so are steps one after another
pub runs_unnoted : (steps : List MadeStep) (before after : At Noted) → CoreRuns noted_rule before steps after
    → CoreRuns no_account (alone before.core before.memory) steps (alone after.core after.memory)
unfolding CoreRuns
runs_unnoted [] before after runs = ap (λ (one : At Noted). alone one.core one.memory) runs
runs_unnoted (step ∷ steps) before after runs = (
  alone runs.0.core runs.0.memory,
  (step_unnoted before step.event runs.0 runs.1.0, fact_unnoted before runs.0 step.fact runs.1.1),
  runs_unnoted steps runs.0 after runs.2,
)
