use Rattle.std.proofs.Common.{◌≡◌, ◌*◌, ◌≤◌, take}
use Rattle.std.specs.List.{sum_by}
use Rattle.sb_load.specs.Need.{process_need}
use Rattle.sb_load.proofs.need.processes_need.Given as goal

abbrev pub invariant-loop-image : goal.invariant-loop-image
invariant-loop-image l = record {
  value : l.need ≡ sum_by process_need (take l.image-index l.images);
  bound : l.need ≤ 1548 * l.image-index;
}
