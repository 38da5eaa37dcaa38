use Rattle.std.proofs.Common.{take}
use Rattle.sb_load.specs.Loading.{AreRewritten}
use Rattle.sb_load.proofs.loading.rewrite_texts.Given as goal

abbrev pub invariant-loop-process : goal.invariant-loop-process
invariant-loop-process l = AreRewritten (take l.process l.images) l.rewritten.items
