-- The texts so far can be rewritten, and the next one can be or not.
use Rattle.sb_load.proofs.Parts.{one_more_text, refused_text}
use Rattle.sb_load.proofs.loading.rewrite_texts.Goals as goal

pub loop-process-preserved : goal.loop-process-preserved
loop-process-preserved c =
    one_more_text _ _ _ _ _ _ _ c.loop-process-test.true c.index-images-process.is c.items.ensures c.loop-process.invariant
    c.in-Ok.ensures.answer c.in_ok-push-in-Ok.ensures.items

pub returns-in-Err : goal.returns-in-Err
returns-in-Err c =
    rw c.refusal_of.ensures
    (refused_text _ _ _ _ _ _ c.loop-process-test.true c.index-images-process.is c.items.ensures c.loop-process.invariant
    c.in-Err.ensures.answer)
