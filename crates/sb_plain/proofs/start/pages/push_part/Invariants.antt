-- The pages so far and those that are left make up the whole.
use Rattle.std.proofs.Common.{◌≡◌, ◌++◌, ◌-◌, length}
use Rattle.sb_state.specs.Start.{padded_page, padded_pages, page_count, pages_from}
use Rattle.sb_plain.specs.Start.{part_name, part_filler}
use Rattle.sb_plain.proofs.start.pages.push_part.Given as goal

abbrev pub invariant-loop-page : goal.invariant-loop-page
invariant-loop-page l =
    l.pages.pages ++ pages_from (padded_page (part_name l.part l.process) (part_filler l.part) l.contents) l.page
    (page_count (length l.contents) - l.page)
    ≡ l.initial.pages.pages ++ padded_pages (part_name l.part l.process) (part_filler l.part) l.contents
