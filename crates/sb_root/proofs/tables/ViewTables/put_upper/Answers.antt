use Rattle.std.proofs.Common.{◌∷◌, [], arith}
use Rattle.std.proofs.lemmas.List.Elements.{Contains-get_or}
use Rattle.sb_memory.proofs.Changes.{same_outside_then}
use Rattle.sb_root.proofs.Frames.{not_one, same_within_one}
use Rattle.sb_root.proofs.LowPages.{upper_page}
use Rattle.sb_root.proofs.Stays.{page_stays, stays_outside}
use Rattle.sb_root.proofs.tables.ViewTables.put_upper.Goals as goal

pub returns-clause-root : goal.returns-clause-root
returns-clause-root c =
    let frame = c.args.self.now.root.0 in
    page_stays _ _ frame _ (stays_outside _ _ _ frame c.put_page-3.ensures.same (not_one _ frame c.requires.different.1))
    (page_stays _ _ frame _ (stays_outside _ _ _ frame c.put_page-2.ensures.same (not_one _ frame c.requires.different.0))
    (upper_page _ frame _ _ c.link.ensures c.put_page.ensures.page))

pub returns-clause-pointers : goal.returns-clause-pointers
returns-clause-pointers c =
    let frame = c.args.self.now.pointers.0 in
    page_stays _ _ frame _ (stays_outside _ _ _ frame c.put_page-3.ensures.same (not_one _ frame c.requires.different.2))
    (upper_page _ frame _ _ c.link-2.ensures c.put_page-2.ensures.page)

pub returns-clause-same : goal.returns-clause-same
returns-clause-same c =
    let frames = c.args.self.now.root.0 ∷ c.args.self.now.pointers.0 ∷ c.args.self.now.directory.0 ∷ [] in
    same_outside_then frames _ _ _
    (same_within_one _ frames _ _ (Contains-get_or frames 0 0 (omega arith)) c.put_page.ensures.same)
    (same_outside_then frames _ _ _
    (same_within_one _ frames _ _ (Contains-get_or frames 1 0 (omega arith)) c.put_page-2.ensures.same)
    (same_within_one _ frames _ _ (Contains-get_or frames 2 0 (omega arith)) c.put_page-3.ensures.same))
