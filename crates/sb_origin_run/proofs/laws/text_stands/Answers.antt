use Rattle.sb_origin_run.proofs.Text.{made_stands}
use Rattle.sb_origin_run.proofs.laws.text_stands.Goals as goal

pub returns : goal.returns
returns g c = made_stands g.R.Codes.bus g.R.Codes.holds g.R.Codes.target g.R.Codes.source g.R.Codes.place
