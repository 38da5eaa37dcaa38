use Rattle.sb_sub.proofs.Shown.{stands_shows}
use Rattle.sb_sub.proofs.laws.what_is_stood_for_is_shown.Goals as goal

pub returns : goal.returns
returns c = stands_shows
