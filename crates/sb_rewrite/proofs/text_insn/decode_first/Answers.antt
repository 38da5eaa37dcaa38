use Rattle.std.proofs.Common.{refl}
use Rattle.sb_rewrite.proofs.Listed.{none_begins}
use Rattle.sb_rewrite.proofs.text_insn.decode_first.Goals as goal

pub returns-in-Err : goal.returns-in-Err
returns-in-Err c = (refl, none_begins _ _ c.in-Err.ensures.answer)
