use Rattle.std.proofs.Common.{◌≡◌, ◌+◌}
use Rattle.sb_frames.specs.Book.{free_count}
use Rattle.sb_state.specs.Start.{padded_page, pages_from}
use Rattle.sb_mapping.specs.Taking.{CanTake}
use Rattle.sb_mapping.specs.StartPages.{AddsAll, part_name, part_filler}
use Rattle.sb_mapping.proofs.pages.add_part.Given as goal

abbrev pub invariant-loop-page : goal.invariant-loop-page
invariant-loop-page l = record {
  root : l.root ≡ l.fn.root;
  added : AddsAll l.set l.fn.root l.process
      (pages_from (padded_page (part_name l.part l.process) (part_filler l.part) l.bytes) 0 l.page) l.fn.book l.book l.fn.memory
      l.memory;
  fewer : free_count l.book + l.page ≡ free_count l.fn.book;
  can : CanTake l.set l.root l.book l.memory;
}
