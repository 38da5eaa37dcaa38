-- Lists of pages of which one becomes executable, or not.
use Rattle.std.proofs.Common.{◌≡◌, Bool, false, List, [], ◌∷◌, refl}
use Rattle.std.specs.Option.{option_map}
use Rattle.sb_pages.specs.declared.page.PageName.{PageName}
use Rattle.sb_pages.specs.declared.page.Page.{Page}
use Rattle.sb_pages.specs.PageName.{same_name}
use Rattle.sb_pages.specs.PageLists.{find_page, with_mode}
use Rattle.sb_pages.proofs.PageLists.{changed, changed_other, changed_same, with_executable}

-- a change of the mode is one change of the page of that name
pub mode_changes : (pages : List Page) (name : PageName) (executable : Bool)
    → with_mode pages name executable ≡ changed (with_executable executable) pages name
mode_changes [] name executable = refl
mode_changes (page ∷ pages) name executable = rw (mode_changes pages name executable) refl

-- a change of the mode leaves pages of other names
pub mode_other : (pages : List Page) (name other : PageName) (executable : Bool) → same_name name other ≡ false
    → find_page (with_mode pages name executable) other ≡ find_page pages other
mode_other pages name other executable apart =
    rw (mode_changes pages name executable) (changed_other (with_executable executable) (λ page. refl) pages name other apart)

-- the page of that name has the new mode
pub mode_same : (pages : List Page) (name : PageName) (executable : Bool)
    → find_page (with_mode pages name executable) name ≡ option_map (with_executable executable) (find_page pages name)
mode_same pages name executable =
    rw (mode_changes pages name executable) (changed_same (with_executable executable) (λ page. refl) pages name)
