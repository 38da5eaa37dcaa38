-- The pages so far and those that are left make up the whole.
use Rattle.std.proofs.Common.{◌≡◌, ◌++◌, ◌-◌}
use Rattle.sb_state.specs.Start.{heap_page, heap_pages, pages_from}
use Rattle.sb_plain.proofs.start.pages.push_heap.Given as goal

abbrev pub invariant-loop-page : goal.invariant-loop-page
invariant-loop-page l =
    l.pages.pages ++ pages_from (heap_page l.process) l.page (l.count - l.page)
    ≡ l.initial.pages.pages ++ heap_pages l.process l.count
