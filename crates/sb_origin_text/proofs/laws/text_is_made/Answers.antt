use Rattle.sb_origin_text.proofs.Made.{text_is_made, rewriting_listed}
use Rattle.sb_origin_text.proofs.laws.text_is_made.Goals as goal

pub returns-clause-made : goal.returns-clause-made
returns-clause-made c = text_is_made

pub returns-clause-listed : goal.returns-clause-listed
returns-clause-listed c = rewriting_listed
