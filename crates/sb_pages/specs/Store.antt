-- Pages, and room for more of them.
use Rattle.std.specs.Prelude.{ℕ, ◌-◌, List, [], ◌∷◌, ◌++◌}
use Rattle.sb_pages.specs.declared.page.Page.{Page}

-- the pages, and how many can be added without memory being taken
pub record Store : Type 0 where
  pub pages : List Page
  pub room : ℕ

-- with other pages, and the same room
abbrev pub with_pages : Store → List Page → Store
with_pages store pages = record store { pages = pages }

-- with the same pages, and other room
abbrev pub with_room : Store → ℕ → Store
with_room store room = record store { room = room }

-- with a page more, for which room was kept
abbrev pub with_added_page : Store → Page → Store
with_added_page store page = record { pages = store.pages ++ page ∷ []; room = store.room - 1 }
