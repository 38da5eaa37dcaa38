-- The text so far and that of the threads that are left make up the whole.
use Rattle.std.proofs.Common.{◌≡◌, ◌++◌, string_bytes, drop}
use Rattle.sb_trace.specs.Report.{threads_text}
use Rattle.sb_trace.proofs.report.push_threads.Given as goal

abbrev pub invariant-loop-number : goal.invariant-loop-number
invariant-loop-number l =
    string_bytes l.out ++ threads_text l.number (drop l.number l.threads) ≡ string_bytes l.initial.out ++ threads_text 0 l.threads
