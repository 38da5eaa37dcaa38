use Rattle.std.proofs.Common.{◌≡◌, ◌-◌, ◌++◌, length, ◌∙◌}
use Rattle.sb_tramp.specs.Page.{filler}
use Rattle.sb_tramp.specs.Server.{server_rows}
use Rattle.sb_tramp.proofs.Order.{code_from}
use Rattle.sb_tramp.proofs.Bytes.{server_laid}
use Rattle.sb_tramp.proofs.pages.put_server.Goals as goal

pub returns : goal.returns
unfolding filler
returns c =
    let written : c.put.new.into ≡ code_from 0 server_rows ++ filler (length c.args.into.now - 0xA5) = c.put.ensures in
    written ∙ server_laid (length c.args.into.now) c.requires
