use Rattle.sb_partial.proofs.Noting.{none_left, reads_forgotten}
use Rattle.sb_partial.proofs.note.forget_reads.Goals as goal

pub returns-clause-copies : goal.returns-clause-copies
returns-clause-copies c =
    let now = c.loop-word.invariant in
    reads_forgotten c.args.copies.now c.loop-word.copies now.same c.requires.sound now.sound
    (λ word. now.flags word (none_left c.args.words.now c.loop-word.word-index word c.loop-word-test.false))
