use Rattle.std.proofs.Common.{◌≡◌, ◌+◌}
use Rattle.sb_frames.specs.Book.{free_count}
use Rattle.sb_state.specs.Start.{heap_page, pages_from}
use Rattle.sb_mapping.specs.Taking.{CanTake}
use Rattle.sb_mapping.specs.StartPages.{AddsAll}
use Rattle.sb_mapping.proofs.pages.add_heap.Given as goal

abbrev pub invariant-loop-page : goal.invariant-loop-page
invariant-loop-page l = record {
  root : l.root ≡ l.fn.root;
  added : AddsAll l.set l.fn.root l.process (pages_from (heap_page l.process) 0 l.page) l.fn.book l.book l.fn.memory l.memory;
  fewer : free_count l.book + l.page ≡ free_count l.fn.book;
  can : CanTake l.set l.root l.book l.memory;
}
