use Rattle.std.proofs.Common.{take}
use Rattle.std.specs.List.{All, Contains}
use Rattle.sb_rewrite.proofs.target.check_jumps.Given as goal

abbrev pub invariant-loop-jump : goal.invariant-loop-jump
invariant-loop-jump l = All (λ jump. Contains l.starts jump.target) (take l.jump-index l.jumps)
