use Rattle.std.proofs.Common.{◌≡◌, rules, Some, ap, List}
use Rattle.std.specs.List.{Contains}
use Rattle.sb_pages.specs.declared.page.Page.{Page}
use Rattle.sb_pages.specs.Places.{place_of, known_at}
use Rattle.sb_pages.specs.Store.{Store}
use Rattle.sb_pages.proofs.Places.{place_below, place_within}
use Rattle.sb_pages.proofs.KnownPlaces.{known_place}
use Rattle.sb_pages.proofs.pages.Pages.place.Goals as goal

pub returns-in-Some-clause-within : goal.returns-in-Some-clause-within
returns-in-Some-clause-within c =
    let items : List Page = c.self.inside.pages.items in
    let same : items ≡ c.args.self.now.pages = ap (λ (store : Store). store.pages) c.self.view_is in
    let there : Contains c.self.inside.known.items (Some (known_at c.args.name c.in-Some.place)) = search rules in
    let is : place_of items c.args.name ≡ Some c.in-Some.place =
    known_place items c.self.inside.known.items c.args.name c.in-Some.place c.self.invariant.known there in
    rw (← same) (place_below items c.args.name c.in-Some.place is)

pub returns-in-None-clause-within : goal.returns-in-None-clause-within
returns-in-None-clause-within c =
    let place : c.copied.result ≡ place_of c.args.self.now.pages c.args.name = search rules in
    rw place (place_within c.args.self.now.pages c.args.name)
