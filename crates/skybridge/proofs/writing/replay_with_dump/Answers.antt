use Rattle.std.proofs.Common.{◌≡◌, List, ℕ, ◌++◌, subst, sym}
use Rattle.sb_machine.specs.Dump.{machine_dump}
use Rattle.sb_trace.specs.Report.{report_text}
use Rattle.skybridge.specs.Output.{IsReportWithDump}
use Rattle.skybridge.specs.Runs.{IsTextOfMachineRun}
use Rattle.skybridge.proofs.Keeping.{report_with_dump}
use Rattle.skybridge.proofs.Parts.{writes_as}
use Rattle.skybridge.proofs.writing.replay_with_dump.Goals as goal

pub returns-clause-written : goal.returns-clause-written
returns-clause-written g c =
    let machine = c.in-Ok.run'.1 in
    let report = c.as_str.result.now in
    let ran = subst (λ (text : List ℕ). IsTextOfMachineRun report_text machine c.args.loaded.now text) (sym c.as_str.ensures.value)
    c.in-Ok.ensures in
    let both : IsReportWithDump c.args.loaded.now.bundle (report ++ machine_dump machine) =
    report_with_dump machine c.args.loaded.now report c.requires.loadable c.write_with_dump-status.ensures.shows ran in
    writes_as (λ text. text ≡ report ++ machine_dump machine) (IsReportWithDump c.args.loaded.now.bundle)
    c.write_with_dump-status.result _ _ _ _
    (λ text same. subst (λ (one : List ℕ). IsReportWithDump c.args.loaded.now.bundle one) (sym same) both)
    c.write_with_dump-status.ensures.written
