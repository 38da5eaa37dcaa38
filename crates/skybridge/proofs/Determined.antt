-- The definitions give one text of a command and a bundle: loading and a run have one outcome each.
use Rattle.std.proofs.Common.{◌≡◌, ◌≢◌, ℕ, List, refl, ap, sym, ◌∙◌, subst}
use Rattle.sb_bundle.specs.declared.bundle.Bundle.{Bundle}
use Rattle.sb_load.specs.Loading.{Load}
use Rattle.sb_load.specs.FirstState.{first_state}
use Rattle.sb_load.proofs.OneAnswer.{same_load}
use Rattle.sb_trace.specs.declared.end.EndState.{EndState}
use Rattle.sb_trace.specs.declared.event.Line.{Line}
use Rattle.sb_trace.specs.Report.{report_text}
use Rattle.sb_trace.specs.Runs.{Runs, IsTextOfRun}
use Rattle.sb_trace.proofs.RunsWithMarks.{steps_run_once}
use Rattle.sb_trace.proofs.Texts.{one_text}
use Rattle.skybridge.specs.declared.words.BundleCommand.{BundleCommand}
use Rattle.skybridge.specs.declared.words.BundleCommand.TheVariants.{Replay, ReplayDump, Plain, Check, Rewrite}
use Rattle.skybridge.specs.CommandText.{check_text, rewrite_text, IsCommandText}
use Rattle.skybridge.specs.Runs.{IsTextOfBundleRun}
use Rattle.sb_generator.specs.Generator.{generated}
use Rattle.sb_generator.specs.Summary.{summary_text}
use Rattle.skybridge.specs.Output.{IsReportWithDump, HaveSameRun, IsSummary, IsOutput}

one_run_text : (text_of : List Line → EndState → List ℕ) (bundle : Bundle) (text other : List ℕ)
    → IsTextOfBundleRun text_of bundle text → IsTextOfBundleRun text_of bundle other → text ≡ other
one_run_text text_of bundle text other (load, loads, is) (load', loads', is') =
    one_text text_of (first_state load') load'.bundle.schedule text other
    (subst (λ (one : Load). IsTextOfRun text_of (first_state one) one.bundle.schedule text)
    (same_load bundle load load' loads loads') is) is'

one_listing : (list : Load → List ℕ) (bundle : Bundle) (text other : List ℕ) → IsCommandText list bundle text
    → IsCommandText list bundle other → text ≡ other
one_listing list bundle text other (load, loads, is) (load', loads', is') =
    is ∙ ap list (same_load bundle load load' loads loads') ∙ sym is'

pub one_output : (command : BundleCommand) (bundle : Bundle) (text other : List ℕ) → command ≢ ReplayDump
    → IsOutput command bundle text → IsOutput command bundle other → text ≡ other
one_output Replay bundle text other apart first second = one_run_text report_text bundle text other first second
one_output ReplayDump bundle text other apart first second = absurd (apart refl)
one_output Plain bundle text other apart first second = one_run_text report_text bundle text other first second
one_output Check bundle text other apart first second = one_listing check_text bundle text other first second
one_output Rewrite bundle text other apart first second = one_listing rewrite_text bundle text other first second

-- a report before a dump is that of the one run
pub one_dumped_run : (bundle : Bundle) (text other : List ℕ) (one : IsReportWithDump bundle text)
    (two : IsReportWithDump bundle other) → HaveSameRun bundle text other one two
one_dumped_run bundle text other one two =
    let runs : Runs (first_state two.load) two.load.bundle.schedule one.lines one.end =
    subst (λ (load : Load). Runs (first_state load) load.bundle.schedule one.lines one.end)
    (same_load bundle one.load two.load one.loads two.loads) one.runs in
    let same = steps_run_once (first_state two.load) one.end two.end two.load.bundle.schedule one.lines two.lines runs two.runs in
    record { lines = same.0; end = same.1 }

pub one_summary : (number : ℕ) (text other : List ℕ) → IsSummary number text → IsSummary number other → text ≡ other
one_summary number text other first second = one_run_text (summary_text number) (generated number) text other first second
