-- What is built, and what is left.
use Rattle.std.proofs.Common.{◌≡◌, ◌+◌, map, length}
use Rattle.std.specs.List.{AllByRecursion}
use Rattle.sb_memory.specs.Physical.{frame_count}
use Rattle.sb_frames.specs.Book.{free_count}
use Rattle.sb_load.specs.FirstState.{images_loaded}
use Rattle.sb_plain.proofs.Starting.{images_from}
use Rattle.sb_shows.specs.StartLaws.{ImageFitsWindows}
use Rattle.sb_sub.specs.Kernel.{process_of}
use Rattle.sb_sub.specs.Start.{images_need}
use Rattle.sb_sub.proofs.StartImages.{ImagesLeft}
use Rattle.sb_sub.proofs.start.build_processes.Given as goal

abbrev pub invariant-loop-number : goal.invariant-loop-number
invariant-loop-number l = record {
  root : l.root ≡ l.fn.root;
  size : length l.processes ≡ length l.loaded.bundle.images;
  same : map process_of l.processes ≡ map process_of l.fn.processes;
  left : ImagesLeft l.loaded l.number l.root l.book l.memory l.processes;
  fits : AllByRecursion ImageFitsWindows (images_from l.loaded l.number);
  frames : frame_count l.memory ≡ frame_count l.fn.memory;
  some : free_count l.book + images_need (images_loaded l.loaded)
      ≡ free_count l.fn.book + images_need (images_from l.loaded l.number);
}
