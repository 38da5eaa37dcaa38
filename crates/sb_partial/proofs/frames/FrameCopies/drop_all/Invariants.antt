use Rattle.std.proofs.Common.{◌≡◌, None, replicate, take}
use Rattle.sb_partial.proofs.frames.FrameCopies.drop_all.Given as goal

abbrev pub invariant-loop-frame : goal.invariant-loop-frame
invariant-loop-frame l = take l.frame-index l.frame-items ≡ replicate l.frame-index None
