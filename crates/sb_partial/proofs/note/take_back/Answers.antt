use Rattle.std.proofs.Common.{◌*◌, ap, get_or, false, set, arith}
use Rattle.sb_agree.specs.Noted.{word_of}
use Rattle.sb_partial.specs.CopiedFrame.{bytes_restored}
use Rattle.sb_partial.specs.CopiedFrames.{CopiedFrames}
use Rattle.sb_partial.specs.Noting.{AllThere}
use Rattle.sb_partial.proofs.Noting.{flag_cleared, given_beside_rest, none_left, stays_beside, word_inside, writes_taken_back}
use Rattle.sb_partial.proofs.note.take_back.Goals as goal

pub loop-word-preserved : goal.loop-word-preserved
loop-word-preserved c =
    let before = c.loop-word.invariant in
    let old = c.loop-word.copies in
    let words = c.args.words.now in
    let index = c.loop-word.word-index in
    let present = ap (λ (all : CopiedFrames). all.present) before.same in
    let there : AllThere old.present words = rw present c.requires.there in
    let inside = word_inside old words index before.sound there c.loop-word-test.true in
    let given_size = before.sound.given_size in
    let bytes_size = before.sound.bytes_size in
    record {
      same = stays_beside c.args.copies.now old c.restore_word.new.self c.set_written.new.self
          (bytes_restored old.given old.bytes (8 * get_or words index 0))
          (set c.restore_word.new.self.written (get_or words index 0) false)
          before.same c.restore_word.ensures.copies c.set_written.ensures.copies;
      sound = c.set_written.ensures.sound;
      beside = rw (c.set_written.ensures.copies, c.restore_word.ensures.copies)
          (given_beside_rest old.given old.bytes words index before.beside c.loop-word-test.true (omega arith) inside.0);
      flags = rw (c.set_written.ensures.copies, c.restore_word.ensures.copies)
          (flag_cleared old.written words index before.flags c.loop-word-test.true inside.1);
    }

pub returns-clause-copies : goal.returns-clause-copies
returns-clause-copies c =
    let now = c.loop-word.invariant in
    writes_taken_back c.args.copies.now c.loop-word.copies now.same c.requires.sound now.sound
    (λ word. now.flags word (none_left c.args.words.now c.loop-word.word-index word c.loop-word-test.false))
    (λ place. now.beside place (none_left c.args.words.now c.loop-word.word-index (word_of place) c.loop-word-test.false))
