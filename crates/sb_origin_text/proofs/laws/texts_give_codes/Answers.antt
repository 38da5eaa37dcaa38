use Rattle.sb_origin_text.proofs.Codes.{texts_give_codes}
use Rattle.sb_origin_text.proofs.laws.texts_give_codes.Goals as goal

pub returns : goal.returns
returns c = texts_give_codes
