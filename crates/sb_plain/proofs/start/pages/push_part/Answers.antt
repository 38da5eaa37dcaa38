use Rattle.std.proofs.Common.{◌<◌, ◌++◌, ◌∷◌, [], ℕ, length, ap, ◌∙◌, rules}
use Rattle.sb_state.specs.State.{page_with}
use Rattle.sb_state.specs.Start.{padded_page, page_of, page_count}
use Rattle.sb_plain.specs.Start.{part_name, part_filler}
use Rattle.sb_plain.proofs.Starting.{pages_more}
use Rattle.sb_plain.proofs.start.pages.push_part.Goals as goal

pub loop-page-preserved : goal.loop-page-preserved
loop-page-preserved c =
    let contents = c.args.contents.now in
    let below : c.loop-page.page < page_count (length contents) = search rules in
    let bytes = c.in_ok-bytes.ensures.bytes ∙ ap (λ (filler : ℕ). page_of filler contents c.loop-page.page) c.filler.ensures in
    pages_more (padded_page (part_name c.args.part c.args.process) (part_filler c.args.part) contents) c.loop-page.page
    (page_count (length contents)) c.loop-page.pages.pages _ _ below
    (c.in_ok-push_named.ensures ∙ (λ i. c.loop-page.pages.pages ++ page_with (c.page.ensures i) (bytes i) ∷ []))
    c.loop-page.invariant
