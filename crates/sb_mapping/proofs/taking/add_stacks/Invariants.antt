use Rattle.std.proofs.Common.{◌≡◌, ◌+◌}
use Rattle.sb_frames.specs.Book.{free_count}
use Rattle.sb_mapping.specs.Taking.{CanTake}
use Rattle.sb_mapping.specs.Carries.{TakesStacks}
use Rattle.sb_mapping.proofs.taking.add_stacks.Given as goal

abbrev pub invariant-loop-page : goal.invariant-loop-page
invariant-loop-page l = record {
  root : l.root ≡ l.fn.root;
  added : TakesStacks l.set l.fn.root l.fn.book l.book l.fn.memory l.memory l.owner l.page;
  fewer : free_count l.book + l.page ≡ free_count l.fn.book;
  can : CanTake l.set l.root l.book l.memory;
}
