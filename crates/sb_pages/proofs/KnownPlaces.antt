-- Names whose places are known.
use Rattle.std.proofs.Common.{◌≡◌, ◌∙◌, sym, subst, ℕ, List, [], ◌∷◌, ◌++◌, replicate, set}
use Rattle.std.specs.List.{Contains}
use Rattle.std.specs.Prelude.{Option, Some, None, slice_index_or}
use Rattle.std.proofs.lemmas.List.Elements.{All-contains, All-replicate, All-set}
use Rattle.sb_pages.specs.declared.page.PageName.{PageName}
use Rattle.sb_pages.specs.declared.page.Page.{Page}
use Rattle.sb_pages.specs.declared.pages.Known.{Known}
use Rattle.sb_pages.specs.Places.{place_of, either, known_at, IsKnown, AreKnown, KeepsKnown, Remembers}
use Rattle.sb_pages.proofs.Places.{place_pushed}

-- the same pages
pub known_as : (pages now : List Page) (names : List (Option Known)) → now ≡ pages → AreKnown pages names → AreKnown now names
known_as pages now names same known = subst (λ (list : List Page). AreKnown list names) (sym same) known

-- a name that is found among those that are known
pub known_place : (pages : List Page) (names : List (Option Known)) (name : PageName) (place : ℕ) → AreKnown pages names
    → Contains names (Some (known_at name place)) → place_of pages name ≡ Some place
known_place pages names name place known there = All-contains (IsKnown pages) names (Some (known_at name place)) known there

-- a name kept in place of another
pub remembered : (names : List (Option Known)) (at place : ℕ) (name : PageName)
    → Remembers names (set names at (Some (known_at name place))) name (Some place)
remembered names at place name = λ pages is known. All-set (IsKnown pages) names at (Some (known_at name place)) (sym is) known

pub not_remembered : (names : List (Option Known)) (name : PageName) (place : Option ℕ) → Remembers names names name place
not_remembered names name place = λ pages is known. known

-- an empty list that grows
pub grown : (old new : List (Option Known)) (count : ℕ) → new ≡ replicate count None → KeepsKnown old new
grown old new count is = λ pages known.
    subst (λ (list : List (Option Known)). AreKnown pages list) (sym is) (All-replicate (IsKnown pages) count None tt)

kept_by : (found new : Option ℕ) (place : ℕ) → found ≡ Some place → either found new ≡ Some place
kept_by None new place is = cc
kept_by (Some other) new place is = is

one_pushed : (pages : List Page) (page : Page) (one : Option Known) → IsKnown pages one → IsKnown (pages ++ page ∷ []) one
one_pushed pages page None known = tt
one_pushed pages page (Some one) known = place_pushed pages page one.name ∙ kept_by (place_of pages one.name) _ one.place known

-- a page more
pub known_pushed : (pages : List Page) (page : Page) (names : List (Option Known)) → AreKnown pages names
    → AreKnown (pages ++ page ∷ []) names
known_pushed pages page names known = λ k d below. one_pushed pages page (slice_index_or names k d) (known k d below)
