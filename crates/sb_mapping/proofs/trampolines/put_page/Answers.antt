use Rattle.sb_mapping.proofs.StartPages.{page_put}
use Rattle.sb_mapping.proofs.trampolines.put_page.Goals as goal

pub returns : goal.returns
returns c =
    page_put c.args.memory.now c.set_bytes.new.self c.args.frame.0 c.base.result.0 c.args.page.now c.requires.size
    c.requires.inside c.requires.whole c.base.ensures c.set_bytes.ensures.written
