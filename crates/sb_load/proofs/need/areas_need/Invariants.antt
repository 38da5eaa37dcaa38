use Rattle.std.proofs.Common.{◌≡◌, ◌*◌, ◌≤◌, take}
use Rattle.std.specs.List.{sum_by}
use Rattle.sb_load.specs.Need.{area_need}
use Rattle.sb_load.proofs.need.areas_need.Given as goal

abbrev pub invariant-loop-made : goal.invariant-loop-made
invariant-loop-made l = record {
  value : l.need ≡ sum_by area_need (take l.made-index l.rewritten);
  bound : l.need ≤ 512 * l.made-index;
}
