-- Where pages stand in a list, by name.
use Rattle.std.specs.Prelude.{◌≡◌, ℕ, suc, ◌+◌, ◌≤◌, Bool, List, [], ◌∷◌, length, Option, Some, None, if◌then◌else◌}
use Rattle.std.specs.Borrow.{Bor}
use Rattle.std.specs.List.{All}
use Rattle.std.specs.Option.{option_map}
use Rattle.sb_memory.specs.declared.page.TheConstants.{PAGE_SIZE}
use Rattle.sb_pages.specs.declared.page.PageName.{PageName}
use Rattle.sb_pages.specs.declared.page.Page.{Page}
use Rattle.sb_pages.specs.contracts.page.PageNamePartialEq.TheImpl.{eq-value}
use Rattle.sb_pages.specs.PageName.{same_name}
use Rattle.sb_pages.specs.PageWords.{zeros}
use Rattle.sb_pages.specs.declared.pages.Known.{Known}

-- what `==` answers of two names
abbrev pub equal_names : PageName → PageName → Bool
equal_names first second = eq-value.it first second

-- the place of the first page of this name
abbrev pub place_of : List Page → PageName → Option ℕ
place_of [] name = None
place_of (page ∷ pages) name = if same_name page.name name then Some 0 else option_map suc (place_of pages name)

-- a page that is found, without its place
abbrev pub page_only : Option (ℕ × Bor Page) → Option Page
page_only None = None
page_only (Some found) = Some found.1.now

-- the index gives the place of each name
abbrev pub IsIndex : (PageName → Option ℕ) → List Page → Type 0
IsIndex index pages = (name : PageName) → index name ≡ place_of pages name

-- the first of two places that is there
abbrev pub either : Option ℕ → Option ℕ → Option ℕ
either None second = second
either (Some place) second = Some place

-- the index has this place for this name too, if it had none
abbrev pub IsNoted : (PageName → Option ℕ) → (PageName → Option ℕ) → PageName → ℕ → Type 0
IsNoted old new name place =
    (other : PageName) → new other ≡ either (old other) (if same_name name other then Some place else None)

-- ---- bytes

-- the page has as many bytes as a page has
abbrev pub IsWhole : Page → Type 0
IsWhole page = length page.bytes ≡ PAGE_SIZE

abbrev pub AreWhole : List Page → Type 0
AreWhole pages = All IsWhole pages

-- the bytes of a page of zeros
abbrev pub IsBlank : List ℕ → Type 0
IsBlank bytes = bytes ≡ zeros

abbrev pub AreBlank : List (List ℕ) → Type 0
AreBlank pages = All IsBlank pages

-- ---- names whose places are known without the index

abbrev pub known_at : PageName → ℕ → Known
known_at name place = record { name = name; place = place }

-- this is the place of the name, if one is kept
abbrev pub IsKnown : List Page → Option Known → Type 0
IsKnown pages None = Unit {0}
IsKnown pages (Some known) = place_of pages known.name ≡ Some known.place

abbrev pub AreKnown : List Page → List (Option Known) → Type 0
AreKnown pages names = All (IsKnown pages) names

abbrev pub KeepsKnown : List (Option Known) → List (Option Known) → Type 0
KeepsKnown old new = (pages : List Page) → AreKnown pages old → AreKnown pages new

-- one more name may be known
abbrev pub Remembers : List (Option Known) → List (Option Known) → PageName → Option ℕ → Type 0
Remembers old new name place = (pages : List Page) → place ≡ place_of pages name → AreKnown pages old → AreKnown pages new

-- What pages keep beside their list: the place of each name, and room for a page for each blank one, in the list and in the
-- index.
pub record IsSound (index : PageName
    → Option ℕ) (pages : List Page) (blanks : List (List ℕ)) (capacity spare : ℕ) (names : List (Option Known))
    : Type 0 where
  pub places : IsIndex index pages
  pub whole : AreWhole pages
  pub blank : AreBlank blanks
  pub room : length pages + length blanks ≤ capacity
  pub room_in_index : length blanks ≤ spare
  pub known : AreKnown pages names
