use Rattle.sb_shows.proofs.FreeIndices.{free_indices_agree}
use Rattle.sb_shows.proofs.call_laws.free_indices_agree.Goals as goal

pub returns : goal.returns
returns c = free_indices_agree
