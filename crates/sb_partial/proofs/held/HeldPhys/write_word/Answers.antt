use Rattle.std.proofs.Common.{◌/◌, arith}
use Rattle.sb_partial.proofs.Noting.{noted_put, word_put_beside}
use Rattle.sb_partial.proofs.held.HeldPhys.write_word.Goals as goal

pub invariant_of-self : goal.invariant_of-self
invariant_of-self c =
    let now = c.self.invariant in
    let copies = c.note_written.ensures.copies in
    let marks = now.written_before in
    let grown = c.note_written.ensures.grown in
    let beside = word_put_beside c.self.inside.writes.items c.self.inside.copies.given c.self.inside.copies.bytes
    (c.args.at.0 / 8) c.args.value now.beside in
    noted_put c.note_written.new.copies c.set_word.new.self c.self.inside.reads.items c.note_written.new.writes.items _
    (rw copies now.read) c.note_written.ensures.noting now.read_before (omega arith)
    (rw (c.note_written.ensures.words, copies) beside) c.set_word.ensures.copies c.set_word.ensures.sound
