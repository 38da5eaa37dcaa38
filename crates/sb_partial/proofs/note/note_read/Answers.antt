use Rattle.std.proofs.Common.{◌∙◌, sym}
use Rattle.sb_partial.proofs.Noting.{has_flag, noting_more}
use Rattle.sb_partial.proofs.note.note_read.Goals as goal

pub returns-clause-noting : goal.returns-clause-noting
returns-clause-noting c =
    let size = c.requires.sound.read_size in
    let within = has_flag c.args.copies.now.present c.args.copies.now.read c.args.word size c.requires.there in
    rw (c.set_read.ensures.copies, c.push_reserved.ensures.items, c.push_reserved.ensures.capacity)
    (noting_more c.args.word c.requires.noting c.requires.there within (sym c.is_read.ensures ∙ c.if-is_read.false))
