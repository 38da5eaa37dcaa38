-- The text so far and that of the processes that are left make up the whole.
use Rattle.std.proofs.Common.{◌≡◌, ◌++◌, string_bytes, drop}
use Rattle.skybridge.specs.CommandText.{processes_text}
use Rattle.skybridge.proofs.command_text.push_processes.Given as goal

abbrev pub invariant-loop-number : goal.invariant-loop-number
invariant-loop-number l =
    string_bytes l.out ++ processes_text l.loaded.rewritten l.number (drop l.number l.loaded.bundle.images)
    ≡ string_bytes l.initial.out ++ processes_text l.loaded.rewritten 0 l.loaded.bundle.images
