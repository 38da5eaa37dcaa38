use Rattle.std.proofs.Common.{rules}
use Rattle.sb_port.specs.Port.{HasMore}
use Rattle.sb_input.specs.Input.{input_limit}
use Rattle.sb_input.proofs.Limit.{accepted_whole}
use Rattle.sb_input.proofs.Leads.{is_no_bundle, is_not_loadable, is_accepted}
use Rattle.sb_input.proofs.input.read_loaded.Goals as goal

pub returns-in-Err-TooLong-clause-is_accepted : goal.returns-in-Err-TooLong-clause-is_accepted
returns-in-Err-TooLong-clause-is_accepted g c told quiet =
    let more : HasMore (g.S.Source.left c.args.source.now) input_limit = search rules in
    accepted_whole _ more told

pub returns-clause-is_no_bundle : goal.returns-clause-is_no_bundle
returns-clause-is_no_bundle g c told quiet =
    is_no_bundle _ _ _ _ _ c.in-Ok.ensures.read c.deref.ensures.value c.loaded_of.ensures told

pub returns-clause-is_not_loadable : goal.returns-clause-is_not_loadable
returns-clause-is_not_loadable g c told quiet =
    is_not_loadable _ _ _ _ _ c.in-Ok.ensures.read c.deref.ensures.value c.loaded_of.ensures told

pub returns-clause-is_accepted : goal.returns-clause-is_accepted
returns-clause-is_accepted g c told quiet =
    is_accepted _ _ _ _ _ c.in-Ok.ensures.read c.deref.ensures.value c.loaded_of.ensures told
