use Rattle.std.proofs.Common.{◌∙◌, sym}
use Rattle.std.proofs.lemmas.Bool.{false≢true}
use Rattle.sb_rewrite.proofs.Originals.{moved_original}
use Rattle.sb_rewrite.proofs.rewritten.Rewritten.original_of.Goals as goal

pub returns-else-is_in_place : goal.returns-else-is_in_place
returns-else-is_in_place c =
    moved_original c.args.self.now c.args.at c.moved_to.result
    (λ here. false≢true (sym c.if-is_in_place.false ∙ c.is_in_place.ensures.1 here)) c.moved_to.ensures
