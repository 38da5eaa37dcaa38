use Rattle.std.proofs.Common.{◌≡◌, ◌∙◌, sym, ap, List, Some, ◌<◌, length, refl, subst}
use Rattle.sb_memory.specs.Words.{put_word}
use Rattle.sb_pages.specs.declared.page.Page.{Page}
use Rattle.sb_pages.specs.Places.{place_of}
use Rattle.sb_pages.specs.Store.{Store, with_pages}
use Rattle.sb_pages.proofs.Places.{found_none, replaced_none, bytes_changed, whole_at, sound_set}
use Rattle.sb_pages.proofs.pages.Pages.put_word.Goals as goal

pub returns-in_default : goal.returns-in_default
returns-in_default c =
    ap (with_pages c.args.self.now)
    (sym (replaced_none c.args.self.now.pages c.args.name _
    (found_none c.args.self.now.pages c.args.name (sym c.in_default.ensures.place))))

pub returns-in-Some : goal.returns-in-Some
returns-in-Some c =
    let items : List Page = c.self.inside.pages.items in
    let inside : Store = record { pages = items; room = length c.self.inside.blank.items } in
    let same : items ≡ c.args.self.now.pages = ap (λ (store : Store). store.pages) c.self.view_is in
    let is : place_of items c.args.name ≡ Some c.in-Some.index =
    ap (λ (pages : List Page). place_of pages c.args.name) same ∙ sym c.in-Some.ensures.place in
    rw (c.put_word.ensures.put, ← c.self.view_is) (ap (with_pages inside)
    (bytes_changed (λ bytes. put_word bytes c.args.place c.args.word) items c.args.name c.in-Some.index c.index_mut.result.now is
    c.index_mut.ensures.value))

pub invariant_of-self : goal.invariant_of-self
invariant_of-self c =
    let items : List Page = c.self.inside.pages.items in
    let same : items ≡ c.args.self.now.pages = ap (λ (store : Store). store.pages) c.self.view_is in
    let within : c.in-Some.index < length items =
    subst (λ (pages : List Page). c.in-Some.index < length pages) (sym same) c.in-Some.ensures.within in
    let whole = whole_at items c.in-Some.index c.index_mut.result.now c.self.invariant.whole within c.index_mut.ensures.value in
    sound_set _ items _ _ _ c.in-Some.index _ c.index_mut.result.now _ c.self.invariant within c.index_mut.ensures.value refl
    (c.put_word.ensures.size ∙ sym whole)
