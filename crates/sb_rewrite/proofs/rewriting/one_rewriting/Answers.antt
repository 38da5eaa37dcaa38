use Rattle.sb_rewrite.proofs.OneRewriting.{one_rewritten}
use Rattle.sb_rewrite.proofs.OneOriginal.{one_original}
use Rattle.sb_rewrite.proofs.rewriting.one_rewriting.Goals as goal

pub returns-clause-answer : goal.returns-clause-answer
returns-clause-answer c = one_rewritten

pub returns-clause-original : goal.returns-clause-original
returns-clause-original c = one_original
