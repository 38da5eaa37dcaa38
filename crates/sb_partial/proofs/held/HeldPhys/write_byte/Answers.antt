use Rattle.std.proofs.Common.{rules, arith}
use Rattle.sb_agree.specs.Noted.{noted_rule, read_noted, write_noted}
use Rattle.sb_partial.proofs.Noting.{byte_beside, noted_put}
use Rattle.sb_partial.proofs.held.HeldPhys.write_byte.Goals as goal

pub invariant_of-self : goal.invariant_of-self
invariant_of-self c =
    let now = c.self.invariant in
    let read = c.note_read.ensures.copies in
    let written = c.note_written.ensures.copies in
    let read_before = now.read_before in
    let reads_grown = c.note_read.ensures.grown in
    let written_before = now.written_before in
    let writes_grown = c.note_written.ensures.grown in
    let beside = byte_beside c.self.inside.writes.items c.self.inside.copies.given c.self.inside.copies.bytes c.args.at.0
    c.args.value now.beside in
    noted_put c.note_written.new.copies c.set_byte.new.self c.note_read.new.reads.items c.note_written.new.writes.items _
    (rw written c.note_read.ensures.noting) c.note_written.ensures.noting (omega arith) (omega arith)
    (rw (c.note_written.ensures.words, written, read) beside) c.set_byte.ensures.copies c.set_byte.ensures.sound

pub returns-clause-account : goal.returns-clause-account
unfolding noted_rule read_noted write_noted
returns-clause-account c = search rules
