-- The bytes of a page of a state after they are put.
use Rattle.std.proofs.Common.{◌≡◌, ◌∙◌, ap, ℕ, List}
use Rattle.std.specs.Prelude.{Some}
use Rattle.std.specs.Option.{option_map}
use Rattle.sb_pages.specs.declared.page.PageName.{PageName}
use Rattle.sb_pages.specs.declared.page.Page.{Page}
use Rattle.sb_pages.specs.PageLists.{find_page, bytes_of}
use Rattle.sb_state.specs.State.{State, contents, with_contents}
use Rattle.sb_pages.proofs.PageLists.{with_bytes, found_same, replaced_own, replaced_twice}

-- the state with other pages
abbrev with_pages : State → List Page → State
with_pages state pages = record state { pages = pages }

-- a state in which a page is given its own bytes is as before
pub contents_own : (state : State) (name : PageName) → with_contents state name (contents state name) ≡ state
unfolding with_contents contents
contents_own state name = ap (with_pages state) (replaced_own state.pages name)

-- of bytes that a page is given one after another, the last stay
pub contents_twice : (state : State) (name : PageName) (first second : List ℕ)
    → with_contents (with_contents state name first) name second ≡ with_contents state name second
unfolding with_contents
contents_twice state name first second = ap (with_pages state) (replaced_twice state.pages name first second)

-- a page that is there has the bytes that it is given
pub contents_there : (state : State) (name : PageName) (page : Page) (bytes : List ℕ) → find_page state.pages name ≡ Some page
    → contents (with_contents state name bytes) name ≡ bytes
unfolding with_contents contents
contents_there state name page bytes there =
    ap bytes_of (found_same state.pages name bytes) ∙ ap (λ found. bytes_of (option_map (with_bytes bytes) found)) there
