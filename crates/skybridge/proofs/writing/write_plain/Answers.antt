use Rattle.skybridge.specs.Output.{IsReport}
use Rattle.skybridge.proofs.Parts.{text_written}
use Rattle.skybridge.proofs.writing.write_plain.Goals as goal

pub returns : goal.returns
returns g c =
    text_written (IsReport c.args.loaded.now.bundle) c.write_text.result _ _ _ _ c.plain_report.result c.plain_report.ensures
    c.write_text.ensures
