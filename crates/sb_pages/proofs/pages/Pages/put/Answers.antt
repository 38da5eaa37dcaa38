use Rattle.std.proofs.Common.{◌≡◌, ◌∙◌, sym, ap, List, Some, ◌<◌, length, length-set, refl, subst}
use Rattle.std.specs.Prelude.{slice_set}
use Rattle.sb_pages.specs.declared.page.Page.{Page}
use Rattle.sb_pages.specs.Places.{place_of}
use Rattle.sb_pages.specs.Store.{Store, with_pages}
use Rattle.sb_pages.proofs.Places.{found_none, replaced_none, bytes_changed, put_past, sound_set}
use Rattle.sb_pages.proofs.pages.Pages.put.Goals as goal

pub returns-in_default : goal.returns-in_default
returns-in_default c =
    ap (with_pages c.args.self.now)
    (sym (replaced_none c.args.self.now.pages c.args.name _
    (found_none c.args.self.now.pages c.args.name (sym c.in_default.ensures.place))))

pub returns-then-offset-items : goal.returns-then-offset-items
returns-then-offset-items c =
    let items : List Page = c.self.inside.pages.items in
    let inside : Store = record { pages = items; room = length c.self.inside.blank.items } in
    let same : items ≡ c.args.self.now.pages = ap (λ (store : Store). store.pages) c.self.view_is in
    let is : place_of items c.args.name ≡ Some c.in-Some.place =
    ap (λ (pages : List Page). place_of pages c.args.name) same ∙ sym c.in-Some.ensures.place in
    rw (c.set.ensures, ← c.self.view_is) (ap (with_pages inside)
    (bytes_changed (λ bytes. slice_set bytes c.args.offset c.args.value) items c.args.name c.in-Some.place c.index_mut.result.now
    is c.index_mut.ensures.value))

pub returns-else-offset-items : goal.returns-else-offset-items
returns-else-offset-items c =
    let items : List Page = c.self.inside.pages.items in
    let inside : Store = record { pages = items; room = length c.self.inside.blank.items } in
    let same : items ≡ c.args.self.now.pages = ap (λ (store : Store). store.pages) c.self.view_is in
    let is : place_of items c.args.name ≡ Some c.in-Some.place =
    ap (λ (pages : List Page). place_of pages c.args.name) same ∙ sym c.in-Some.ensures.place in
    rw (← c.self.view_is) (ap (with_pages inside)
    (put_past items c.args.name c.in-Some.place c.args.offset c.args.value c.index_mut.result.now is c.index_mut.ensures.value
    (rw c.items.ensures at c.if-offset-items.false)))

pub invariant_of-self : goal.invariant_of-self
invariant_of-self c =
    let items : List Page = c.self.inside.pages.items in
    let same : items ≡ c.args.self.now.pages = ap (λ (store : Store). store.pages) c.self.view_is in
    let within : c.in-Some.place < length items =
    subst (λ (pages : List Page). c.in-Some.place < length pages) (sym same) c.in-Some.ensures.within in
    sound_set _ items _ _ _ c.in-Some.place _ c.index_mut.result.now _ c.self.invariant within c.index_mut.ensures.value refl
    (ap length c.set.ensures ∙ length-set c.index_mut.result.now.bytes c.args.offset c.args.value)
