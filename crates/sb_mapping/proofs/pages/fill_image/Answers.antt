use Rattle.sb_mapping.proofs.StartPages.{image_filled}
use Rattle.sb_mapping.proofs.pages.fill_image.Goals as goal

pub returns : goal.returns
returns c =
    image_filled c.args.memory.now c.set_bytes.new.self c.set_bytes-2.new.self c.args.frame.0 c.args.filler c.base.result.0
    c.base-2.result.0 c.args.bytes.now c.requires.size c.requires.inside c.requires.few c.base.ensures c.base-2.ensures
    c.set_bytes.ensures.written c.set_bytes.ensures.size c.set_bytes-2.ensures.written
