use Rattle.std.proofs.Common.{◌≡◌, ◌-◌, ◌++◌, length, ◌∙◌}
use Rattle.sb_tramp.specs.Page.{filler}
use Rattle.sb_tramp.specs.Home.{home_rows}
use Rattle.sb_tramp.proofs.Order.{code_from}
use Rattle.sb_tramp.proofs.Bytes.{home_laid}
use Rattle.sb_tramp.proofs.pages.put_home.Goals as goal

pub returns : goal.returns
unfolding filler
returns c =
    let written : c.put.new.into ≡ code_from 0 home_rows ++ filler (length c.args.into.now - 0x6A) = c.put.ensures in
    written ∙ home_laid (length c.args.into.now) c.requires
