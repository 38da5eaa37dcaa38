-- Lists of pages, and the first of a name in them.
use Rattle.std.specs.Prelude.{ℕ, Bool, false, List, [], ◌∷◌, Option, Some, None, if◌then◌else◌}
use Rattle.sb_pages.specs.declared.page.PageName.{PageName}
use Rattle.sb_pages.specs.declared.page.Page.{Page}
use Rattle.sb_pages.specs.PageName.{same_name}

-- a page of this name with these bytes; if it is one of the heap, in write mode
abbrev pub page_with : PageName → List ℕ → Page
page_with name bytes = record { name = name; executable = false; bytes = bytes }

-- the first page of this name
abbrev pub find_page : List Page → PageName → Option Page
find_page [] name = None
find_page (page ∷ pages) name = if same_name page.name name then Some page else find_page pages name

-- the pages with the first of this name given these bytes
abbrev pub with_page_bytes : List Page → PageName → List ℕ → List Page
with_page_bytes [] name bytes = []
with_page_bytes (page ∷ pages) name bytes =
    if same_name page.name name then (record page { bytes = bytes }) ∷ pages else page ∷ with_page_bytes pages name bytes

-- the pages with the first of this name executable, or not
abbrev pub with_mode : List Page → PageName → Bool → List Page
with_mode [] name executable = []
with_mode (page ∷ pages) name executable =
    if same_name page.name name then record page { executable = executable } ∷ pages else page ∷ with_mode pages name executable

-- the bytes of a page; none where there is no page
abbrev pub bytes_of : Option Page → List ℕ
bytes_of None = []
bytes_of (Some page) = page.bytes
