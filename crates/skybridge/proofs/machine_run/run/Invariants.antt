use Rattle.std.proofs.Common.{take}
use Rattle.skybridge.specs.Runs.{HasRunWithLines}
use Rattle.skybridge.proofs.machine_run.run.Given as goal

abbrev pub invariant-loop-core : goal.invariant-loop-core
invariant-loop-core l = HasRunWithLines l.machine l.fn.loaded (take l.core-index l.schedule) l.lines.items
