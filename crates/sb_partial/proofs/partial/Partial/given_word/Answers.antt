use Rattle.std.proofs.Common.{◌∙◌, ◌*◌, ap, sym}
use Rattle.sb_memory.specs.Words.{word_at}
use Rattle.sb_partial.specs.Copies.{Copied, copied_in}
use Rattle.sb_partial.proofs.OneFrame.{word_of_none}
use Rattle.sb_partial.proofs.partial.Partial.given_word.Goals as goal

pub returns-in-None : goal.returns-in-None
returns-in-None c =
    let none = ap (copied_in c.self.inside.frames) (sym c.in-None.is) ∙ c.self.view_is in
    sym (word_of_none (4096 * c.self.inside.frames) (8 * c.args.word))
    ∙ ap (λ (copied : Copied). word_at copied.given.bytes (8 * c.args.word)) none
