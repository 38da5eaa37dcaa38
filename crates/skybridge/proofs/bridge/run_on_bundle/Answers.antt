use Rattle.skybridge.proofs.Keeping.{left_of_input, dumped}
use Rattle.skybridge.proofs.Lawful.{reported_lawfully}
use Rattle.skybridge.proofs.bridge.run_on_bundle.Goals as goal

pub returns-clause-lawful : goal.returns-clause-lawful
returns-clause-lawful g c done =
    reported_lawfully c.args.command c.in-Ok.loaded.bundle c.write_output.result _ _ _ _ _ _ c.in-Ok.ensures.accepted
    c.write_output.ensures.written done

pub returns-clause-left : goal.returns-clause-left
returns-clause-left g c =
    left_of_input c.args.command c.in-Ok.loaded.bundle c.write_output.result c.write_output.new.kept _ _ c.in-Ok.ensures.accepted
    c.write_output.ensures.left

pub returns-clause-dumped : goal.returns-clause-dumped
returns-clause-dumped g c done same =
    dumped c.in-Ok.loaded.bundle c.write_output.new.kept _ _ _ _ c.in-Ok.ensures.accepted (c.write_output.ensures.dumped done same)
