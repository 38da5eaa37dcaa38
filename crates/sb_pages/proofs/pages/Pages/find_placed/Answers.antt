use Rattle.std.proofs.Common.{◌≡◌, ◌∙◌, sym, ap, List, Some, ◌<◌, length, subst}
use Rattle.sb_pages.specs.declared.page.Page.{Page}
use Rattle.sb_pages.specs.Places.{place_of}
use Rattle.sb_pages.specs.Store.{Store}
use Rattle.sb_pages.proofs.Places.{found_at, whole_at}
use Rattle.sb_pages.proofs.pages.Pages.find_placed.Goals as goal

pub returns-in-Some-clause-page : goal.returns-in-Some-clause-page
returns-in-Some-clause-page c =
    let items : List Page = c.self.inside.pages.items in
    let same : items ≡ c.args.self.now.pages = ap (λ (store : Store). store.pages) c.self.view_is in
    let is : place_of items c.args.name ≡ Some c.in-Some.place =
    ap (λ (pages : List Page). place_of pages c.args.name) same ∙ sym c.in-Some.ensures.place in
    rw (← same) (ap (λ (page : Page). Some page) c.index.ensures
    ∙ sym (found_at items c.args.name c.in-Some.place c.index.result.now is))

pub returns-in-Some-clause-size : goal.returns-in-Some-clause-size
returns-in-Some-clause-size c =
    let items : List Page = c.self.inside.pages.items in
    let same : items ≡ c.args.self.now.pages = ap (λ (store : Store). store.pages) c.self.view_is in
    let within : c.in-Some.place < length items =
    subst (λ (pages : List Page). c.in-Some.place < length pages) (sym same) c.in-Some.ensures.within in
    whole_at items c.in-Some.place c.index.result.now c.self.invariant.whole within c.index.ensures
