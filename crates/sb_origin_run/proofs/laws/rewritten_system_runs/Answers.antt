use Rattle.sb_origin_run.specs.Many.{HoldsOf}
use Rattle.sb_origin_run.proofs.Text.{made_stands}
use Rattle.sb_origin_run.proofs.Served.{served_alike}
use Rattle.sb_origin_run.proofs.laws.rewritten_system_runs.Goals as goal

pub returns : goal.returns
returns g c has beside made =
    let system = g.R.Systems.system in
    let original = g.R.Systems.original in
    let holds = g.R.Systems.holds in
    let places = g.R.Systems.places in
    served_alike g.R.Systems.is_thread system original holds g.R.Systems.outside g.R.Systems.naming places (
      beside,
      λ mode number is_thread. made_stands (system.buses mode number) (HoldsOf (holds mode) number) (system.codes mode number)
          (original.codes mode number) (places mode number) (has mode number is_thread) (made mode number is_thread),
    )
