use Rattle.std.proofs.Common.{◌≡◌, ◌∙◌, sym, ap, List, Some, ◌<◌, length, refl}
use Rattle.sb_pages.specs.declared.page.Page.{Page}
use Rattle.sb_pages.specs.Places.{place_of}
use Rattle.sb_pages.specs.PageWords.{put_number}
use Rattle.sb_pages.specs.Store.{Store, with_pages}
use Rattle.sb_pages.proofs.Places.{place_below, bytes_changed, whole_at, sound_set}
use Rattle.sb_pages.proofs.pages.Pages.put_number.Goals as goal

pub returns : goal.returns
returns c =
    let items : List Page = c.self.inside.pages.items in
    let inside : Store = record { pages = items; room = length c.self.inside.blank.items } in
    let same : items ≡ c.args.self.now.pages = ap (λ (store : Store). store.pages) c.self.view_is in
    let is : place_of items c.args.known.name ≡ Some c.args.known.place =
    ap (λ (pages : List Page). place_of pages c.args.known.name) same ∙ c.requires.known in
    rw (c.put_number.ensures.put, ← c.self.view_is) (ap (with_pages inside)
    (bytes_changed (λ bytes. put_number bytes c.args.offset c.args.size c.args.number) items c.args.known.name c.args.known.place
    c.index_mut.result.now is c.index_mut.ensures.value))

pub invariant_of-self : goal.invariant_of-self
invariant_of-self c =
    let items : List Page = c.self.inside.pages.items in
    let same : items ≡ c.args.self.now.pages = ap (λ (store : Store). store.pages) c.self.view_is in
    let is : place_of items c.args.known.name ≡ Some c.args.known.place =
    ap (λ (pages : List Page). place_of pages c.args.known.name) same ∙ c.requires.known in
    let within : c.args.known.place < length items = place_below items c.args.known.name c.args.known.place is in
    let whole =
    whole_at items c.args.known.place c.index_mut.result.now c.self.invariant.whole within c.index_mut.ensures.value in
    sound_set _ items _ _ _ c.args.known.place _ c.index_mut.result.now _ c.self.invariant within c.index_mut.ensures.value refl
    (c.put_number.ensures.size ∙ sym whole)
