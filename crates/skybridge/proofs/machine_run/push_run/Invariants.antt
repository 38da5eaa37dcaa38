use Rattle.std.proofs.Common.{string_bytes, take}
use Rattle.skybridge.specs.Runs.{HasRunWithText}
use Rattle.skybridge.proofs.machine_run.push_run.Given as goal

abbrev pub invariant-loop-core : goal.invariant-loop-core
invariant-loop-core l =
    HasRunWithText l.machine l.fn.loaded (take l.core-index l.schedule) (string_bytes l.initial.out) (string_bytes l.out)
