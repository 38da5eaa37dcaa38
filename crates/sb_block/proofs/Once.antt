-- A step comes to one thing, and so many steps over the same words are one block.
use Rattle.std.proofs.Common.{◌≡◌, ap, sym, subst, ◌∙◌, ℕ, Bool, List, [], ◌∷◌, length, refl, arith}
use Rattle.std.specs.Prelude.{Result, Ok}
use Rattle.sb_insn.specs.declared.insn.Insn.{Insn}
use Rattle.sb_bus.specs.declared.stop.BusStop.{BusStop}
use Rattle.sb_exec.proofs.OneFetch.{one_fetch_on}
use Rattle.sb_nested.specs.Store.{view_interface}
use Rattle.sb_trace.specs.declared.event.Event.{Event}
use Rattle.sb_trace.specs.Marks.{touches_scratch}
use Rattle.sb_machine.specs.declared.place.Seen.{Seen}
use Rattle.sb_machine.specs.Machine.{seen_by}
use Rattle.sb_machine.specs.Seens.{Holds, seen_words}
use Rattle.sb_agree.specs.Noted.{Noted, nothing, noted_rule}
use Rattle.sb_agree.proofs.Held.{writes_held}
use Rattle.sb_block.specs.Step.{At, Rule, CoreOutcome, Made, CoreSteps, fetch_outcome}
use Rattle.sb_block.specs.declared.fact.Fact.{Fact}
use Rattle.sb_block.specs.declared.fact.MadeStep.{MadeStep}
use Rattle.sb_block.specs.Facts.{IsFact}
use Rattle.sb_block.specs.Run.{at, CoreRuns}
use Rattle.sb_block.specs.Block.{OneBlock}
use Rattle.sb_block.proofs.Made.{made_same}
use Rattle.sb_block.proofs.Blocks.{holds_own, runs_over, seens_same}

-- a step comes to one thing
pub one_step : {Account : Type 0} (rule : Rule Account) (before : At Account) (one two : CoreOutcome Account)
    → CoreSteps rule before one → CoreSteps rule before two → one ≡ two
one_step {Account} rule before one two first second =
    let same =
    one_fetch_on (view_interface rule) (seen_by before.memory before.core) before.core.regs.rip before.account first.account
    second.account first.fetched second.fetched first.fetches second.fetches in
    first.comes
    ∙ (ap (λ (account : Account). fetch_outcome rule before.core before.memory account first.fetched) same.1
    ∙ (ap (λ (got : Result Insn BusStop). fetch_outcome rule before.core before.memory second.account got) same.0
    ∙ sym second.comes))

-- a fact by its parts, and a step
abbrev fact_with : ℕ → ℕ → Bool → Fact
fact_with view next scratch = record { view = view; next = next; scratch = scratch }

abbrev step_with : Event → Fact → MadeStep
step_with event fact = record { event = event; fact = fact }

-- an instruction that is fetched is one
insn_same : (one two : Insn) → Path (Result Insn BusStop) (Ok one) (Ok two) → one ≡ two
insn_same one two same = cc

-- a step has one fact
one_fact : {Account : Type 0} (rule : Rule Account) (before one two : At Account) (fact other : Fact) → one ≡ two
    → IsFact rule before one fact → IsFact rule before two other → fact ≡ other
one_fact {Account} rule before one two fact other end first second =
    let got =
    one_fetch_on (view_interface rule) (seen_by before.memory before.core) before.core.regs.rip before.account first.account
    second.account (Ok first.insn) (Ok second.insn) first.fetches second.fetches in
    let view : fact.view ≡ other.view = first.view ∙ sym second.view in
    let next : fact.next ≡ other.next =
    first.behind ∙ (ap (λ (one : At Account). one.core.regs.rip) end ∙ sym second.behind) in
    let scratch : fact.scratch ≡ other.scratch =
    first.scratch
    ∙ (ap (λ (insn : Insn). touches_scratch insn before.core.regs) (insn_same first.insn second.insn got.0)
    ∙ sym second.scratch) in
    ap (λ (view : ℕ). fact_with view fact.next fact.scratch) view
    ∙ (ap (λ (next : ℕ). fact_with other.view next fact.scratch) next
    ∙ ap (λ (scratch : Bool). fact_with other.view other.next scratch) scratch)

-- two runs of one length from one start have the same steps and one end
pub record SameRuns {Account : Type 0} (steps others : List MadeStep) (one two : At Account) : Type 0 where
  pub same : steps ≡ others
  pub end : one ≡ two

pub one_run : {Account : Type 0} (rule : Rule Account) (steps others : List MadeStep) (before one two : At Account)
    → length steps ≡ length others → CoreRuns rule before steps one → CoreRuns rule before others two
    → SameRuns steps others one two
unfolding CoreRuns
one_run rule [] [] before one two count first second = record { same = refl; end = first ∙ sym second }
one_run rule [] (other ∷ others) before one two count first second = absurd (omega arith)
one_run rule (step ∷ steps) [] before one two count first second = absurd (omega arith)
one_run {Account} rule (step ∷ steps) (other ∷ others) before one two count first second =
    let same = made_same step.event first.0 other.event second.0
    (one_step rule before (Made step.event first.0) (Made other.event second.0) first.1.0 second.1.0) in
    let fact = one_fact rule before first.0 second.0 step.fact other.fact same.1 first.1.1 second.1.1 in
    let head : step ≡ other =
    ap (λ (event : Event). step_with event step.fact) same.0 ∙ ap (λ (kept : Fact). step_with other.event kept) fact in
    let rest = one_run rule steps others second.0 one two (omega arith)
    (subst (λ (next : At Account). CoreRuns rule next steps one) same.1 first.2) second.2 in
    record { same = rw (head, rest.same) refl; end = rest.end }

-- a core, a number of steps and the words that they read decide the block
pub one_block : OneBlock
one_block frames number before steps others after last reads writes written one two count =
    let held : Holds number before two.memory reads =
    subst (λ (seens : List Seen). Holds number before two.memory seens) (sym two.saw)
    ((refl, refl), holds_own number before two.memory two.noted.reads) in
    let standing = (subst (λ (seens : List Seen). Holds number before two.memory seens) one.saw held).1 in
    let run =
    runs_over number before steps after one.memory one.ended one.noted two.memory (two.whole.count ∙ sym one.whole.count)
    one.whole.sound two.whole.sound two.whole.all standing one.runs in
    let same =
    one_run noted_rule steps others (at before two.memory nothing) (at after run.ended one.noted)
    (at last two.ended two.noted) count run.runs two.runs in
    let ends =
    seens_same one.ended run.ended one.noted.writes
    (writes_held one.noted.reads two.memory one.noted.writes one.ended run.ended run.agrees) in (
      same.same,
      ap (λ (one : At Noted). one.core) same.end,
      one.wrote ∙ (ends ∙ (ap (λ (one : At Noted). seen_words one.memory one.account.writes) same.end ∙ sym two.wrote)),
    )
