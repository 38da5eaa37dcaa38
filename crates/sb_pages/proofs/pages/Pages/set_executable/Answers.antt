use Rattle.std.proofs.Common.{◌≡◌, ◌∙◌, sym, ap, List, Some, ◌<◌, length, refl, subst}
use Rattle.sb_pages.specs.declared.page.Page.{Page}
use Rattle.sb_pages.specs.Places.{place_of}
use Rattle.sb_pages.specs.Store.{Store, with_pages}
use Rattle.sb_pages.proofs.Places.{found_none, with_mode_none, mode_changed, sound_set}
use Rattle.sb_pages.proofs.pages.Pages.set_executable.Goals as goal

pub returns-in_default : goal.returns-in_default
returns-in_default c =
    ap (with_pages c.args.self.now)
    (sym (with_mode_none c.args.self.now.pages c.args.name _
    (found_none c.args.self.now.pages c.args.name (sym c.in_default.ensures.place))))

pub returns-in-Some : goal.returns-in-Some
returns-in-Some c =
    let items : List Page = c.self.inside.pages.items in
    let inside : Store = record { pages = items; room = length c.self.inside.blank.items } in
    let same : items ≡ c.args.self.now.pages = ap (λ (store : Store). store.pages) c.self.view_is in
    let is : place_of items c.args.name ≡ Some c.in-Some.place =
    ap (λ (pages : List Page). place_of pages c.args.name) same ∙ sym c.in-Some.ensures.place in
    rw (← c.self.view_is) (ap (with_pages inside)
    (mode_changed items c.args.name c.in-Some.place c.args.executable c.index_mut.result.now is c.index_mut.ensures.value))

pub invariant_of-self : goal.invariant_of-self
invariant_of-self c =
    let items : List Page = c.self.inside.pages.items in
    let same : items ≡ c.args.self.now.pages = ap (λ (store : Store). store.pages) c.self.view_is in
    let within : c.in-Some.place < length items =
    subst (λ (pages : List Page). c.in-Some.place < length pages) (sym same) c.in-Some.ensures.within in
    sound_set _ items _ _ _ c.in-Some.place _ c.index_mut.result.now _ c.self.invariant within c.index_mut.ensures.value refl refl
