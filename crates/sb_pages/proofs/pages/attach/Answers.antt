use Rattle.std.proofs.Common.{rules, ◌≡◌, ◌∙◌, ◌++◌, ◌∷◌, []}
use Rattle.sb_pages.specs.Places.{IsIndex}
use Rattle.sb_pages.proofs.KnownPlaces.{known_pushed}
use Rattle.std.specs.HashMap.{get}
use Rattle.sb_pages.specs.Places.{equal_names}
use Rattle.sb_pages.proofs.Places.{index_pushed}
use Rattle.sb_pages.proofs.pages.attach.Goals as goal

pub returns-clause-index : goal.returns-clause-index
returns-clause-index c =
    rw c.push_reserved.ensures.items (index_pushed (get equal_names c.args.places.now) (get equal_names c.note.new.places)
    c.args.pages.now.items c.args.page c.len.result c.requires.index (search rules) c.note.ensures.noted)

pub returns-clause-known : goal.returns-clause-known
returns-clause-known c =
    let index : IsIndex (get equal_names c.note.new.places) (c.args.pages.now.items ++ c.args.page ∷ []) =
    index_pushed (get equal_names c.args.places.now) (get equal_names c.note.new.places)
    c.args.pages.now.items c.args.page c.len.result c.requires.index (search rules) c.note.ensures.noted in
    let is : c.copied.result ≡ get equal_names c.note.new.places c.args.page.name = search rules in
    rw c.push_reserved.ensures.items
    (c.remember.ensures (c.args.pages.now.items ++ c.args.page ∷ []) (is ∙ index c.args.page.name)
    (known_pushed c.args.pages.now.items c.args.page c.args.known.now.items c.requires.known))
