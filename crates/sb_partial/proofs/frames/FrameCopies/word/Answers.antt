use Rattle.std.proofs.Common.{◌/◌, ◌*◌, ◌%◌, ◌∙◌, sym, arith}
use Rattle.sb_partial.proofs.OneFrame.{at_copy, is_bytes, word_of, within_word, word_in_zeros}
use Rattle.sb_partial.proofs.frames.FrameCopies.word.Goals as goal

pub index-requires : goal.index-requires
index-requires c =
    let inside = within_word c.self.inside.frames.items c.args.self.now c.args.word c.self.view_is c.requires in
    omega arith

pub returns-in-Some : goal.returns-in-Some
returns-in-Some c =
    let inside = within_word c.self.inside.frames.items c.args.self.now c.args.word c.self.view_is c.requires in
    let at = at_copy (c.args.word / 512) c.self.invariant c.self.view_is inside c.index.ensures c.in-Some.is in
    c.word.ensures ∙ sym (word_of c.args.word is_bytes at)

pub returns-in-None : goal.returns-in-None
returns-in-None c =
    let inside = within_word c.self.inside.frames.items c.args.self.now c.args.word c.self.view_is c.requires in
    let at = at_copy (c.args.word / 512) c.self.invariant c.self.view_is inside c.index.ensures c.in-None.is in
    sym (word_of c.args.word is_bytes at ∙ word_in_zeros 4096 (8 * (c.args.word % 512)))
