use Rattle.std.proofs.Common.{◌∙◌, ap, length}
use Rattle.sb_pages.proofs.Places.{blank_taken, zeros_size, sound_added}
use Rattle.sb_pages.proofs.pages.Pages.add.Goals as goal

pub put_words-requires-clause-size : goal.put_words-requires-clause-size
put_words-requires-clause-size c =
    ap length (blank_taken _ _ c.take_last-bytes.result c.self.invariant.blank c.take_last-bytes.ensures.items) ∙ zeros_size

pub invariant_of-self : goal.invariant_of-self
invariant_of-self c =
    rw c.attach.ensures.room
    (sound_added _ _ _ _ _ _ _ _ _ _ _ _ _ c.self.invariant c.take_last-bytes.ensures.items c.attach.ensures.pages
    c.put_words.ensures.size c.attach.ensures.index c.attach.ensures.known c.attach.ensures.spare)
