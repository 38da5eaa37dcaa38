use Rattle.std.proofs.Common.{ℕ, ◌+◌, length, ap, ◌∙◌}
use Rattle.sb_frames.proofs.Lengths.{length_after_take}
use Rattle.sb_walk_tests.proofs.root.some_book.Goals as goal

pub loop-preserved : goal.loop-preserved
loop-preserved c =
    ap (λ (count : ℕ). count + 512) (ap length c.take.ensures.taken ∙ length_after_take c.loop.book c.take.result _ _)
    ∙ c.loop.invariant
