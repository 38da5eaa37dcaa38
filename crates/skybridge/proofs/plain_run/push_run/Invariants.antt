use Rattle.std.proofs.Common.{string_bytes, take}
use Rattle.skybridge.specs.Runs.{RunsWithText}
use Rattle.skybridge.proofs.plain_run.push_run.Given as goal

abbrev pub invariant-loop-core : goal.invariant-loop-core
invariant-loop-core l =
    RunsWithText l.fn.plain (take l.core-index l.schedule) l.plain (string_bytes l.initial.out) (string_bytes l.out)
