use Rattle.std.proofs.Common.{◌≡◌, ◌++◌, string_bytes, take}
use Rattle.sb_trace.specs.Report.{registers_text}
use Rattle.sb_trace.proofs.report.push_registers.Given as goal

abbrev pub invariant-loop-value : goal.invariant-loop-value
invariant-loop-value l = string_bytes l.out ≡ string_bytes l.initial.out ++ registers_text (take l.value-index l.general)
