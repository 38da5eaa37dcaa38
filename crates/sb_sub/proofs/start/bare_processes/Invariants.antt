-- The processes so far and those that are left make up the whole.
use Rattle.std.proofs.Common.{◌≡◌, ◌++◌, drop, map, length}
use Rattle.sb_state.specs.Start.{start_process}
use Rattle.sb_load.specs.FirstState.{images_of, images_loaded}
use Rattle.sb_sub.specs.Kernel.{process_of}
use Rattle.sb_sub.proofs.start.bare_processes.Given as goal

abbrev pub invariant-loop-number : goal.invariant-loop-number
invariant-loop-number l = record {
  whole : map process_of l.processes.items ++ map start_process
      (images_of (drop l.number l.loaded.bundle.images) (drop l.number l.loaded.rewritten))
      ≡ map start_process (images_loaded l.loaded);
  count : length l.processes.items ≡ l.number;
}
