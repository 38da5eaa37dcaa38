use Rattle.std.proofs.Common.{rules}
use Rattle.skybridge.proofs.machine_run.machine_report.Goals as goal

pub returns : goal.returns
returns c =
    let (lines, end, ran, text) = c.in_ok-push_run.ensures in
    let shown = c.in_ok-end.ensures end ran.stands in
    (lines, end, ran, search (rules, text, shown))
