use Rattle.sb_origin_run.specs.Many.{HoldsOf}
use Rattle.sb_origin_run.proofs.Text.{made_stands}
use Rattle.sb_origin_run.proofs.Many.{threads_alike}
use Rattle.sb_origin_run.proofs.laws.rewritten_threads_run.Goals as goal

pub returns : goal.returns
returns g c has beside made =
    threads_alike g.R.ThreadCodes.is_thread g.R.ThreadCodes.buses g.R.ThreadCodes.originals g.R.ThreadCodes.holds
    g.R.ThreadCodes.outside g.R.ThreadCodes.naming g.R.ThreadCodes.targets g.R.ThreadCodes.sources g.R.ThreadCodes.places beside
    (λ number is_thread. made_stands (g.R.ThreadCodes.buses number) (HoldsOf g.R.ThreadCodes.holds number)
    (g.R.ThreadCodes.targets number) (g.R.ThreadCodes.sources number) (g.R.ThreadCodes.places number) (has number is_thread)
    (made number is_thread))
