use Rattle.sb_trace.proofs.AddedPages.{added_pages_are_new}
use Rattle.sb_trace.proofs.laws.added_pages_are_new.Goals as goal

pub returns : goal.returns
returns c = added_pages_are_new
