-- Lists of pages whose bytes, or whose mode, are changed, and to which pages are added.
use Rattle.std.proofs.Common.{◌≡◌, ap, sym, subst, ℕ, Bool, true, false, List, [], ◌∷◌, ◌++◌, refl}
use Rattle.std.specs.Prelude.{Option, Some, None, if◌then◌else◌}
use Rattle.std.specs.Option.{option_map}
use Rattle.sb_pages.specs.declared.page.PageName.{PageName}
use Rattle.sb_pages.specs.declared.page.Page.{Page}
use Rattle.sb_pages.specs.PageName.{same_name}
use Rattle.sb_pages.specs.PageLists.{find_page, with_page_bytes, bytes_of}
use Rattle.sb_pages.proofs.Names.{name_same}

-- ---- one page is changed, by name

abbrev pub with_bytes : List ℕ → Page → Page
with_bytes bytes page = record page { bytes = bytes }

abbrev pub with_executable : Bool → Page → Page
with_executable executable page = record page { executable = executable }

-- the pages with the first of this name changed
abbrev pub changed : (Page → Page) → List Page → PageName → List Page
changed change [] name = []
changed change (page ∷ pages) name = if same_name page.name name then change page ∷ pages else page ∷ changed change pages name

pub replaced_changes : (pages : List Page) (name : PageName) (bytes : List ℕ)
    → with_page_bytes pages name bytes ≡ changed (with_bytes bytes) pages name
replaced_changes [] name bytes = refl
replaced_changes (page ∷ pages) name bytes = rw (replaced_changes pages name bytes) refl

-- a change that leaves names
abbrev pub KeepsNames : (Page → Page) → Type 0
KeepsNames change = (page : Page) → (change page).name ≡ page.name

other_by : (test : Bool) (change : Page → Page) → KeepsNames change
    → (page : Page) (pages pages' : List Page) (name other : PageName)
    → same_name page.name name ≡ test → same_name name other ≡ false → find_page pages' other ≡ find_page pages other
    → find_page (if test then change page ∷ pages else page ∷ pages') other ≡ find_page (page ∷ pages) other
other_by true change keeps page pages pages' name other is apart more =
    let old : same_name page.name other ≡ false =
    subst (λ n. same_name n other ≡ false) (sym (name_same page.name name is)) apart in
    let new : same_name (change page).name other ≡ false = subst (λ n. same_name n other ≡ false) (sym (keeps page)) old in
    rw (old, new) refl
other_by false change keeps page pages pages' name other is apart more = rw more refl

-- pages of other names are found as before
pub changed_other : (change : Page → Page) → KeepsNames change → (pages : List Page) (name other : PageName)
    → same_name name other ≡ false
    → find_page (changed change pages name) other ≡ find_page pages other
changed_other change keeps [] name other apart = refl
changed_other change keeps (page ∷ pages) name other apart =
    other_by (same_name page.name name) change keeps page pages (changed change pages name) name other refl apart
    (changed_other change keeps pages name other apart)

same_by : (test : Bool) (change : Page → Page) → KeepsNames change → (page : Page) (pages pages' : List Page) (name : PageName)
    → same_name page.name name ≡ test → find_page pages' name ≡ option_map change (find_page pages name)
    → find_page (if test then change page ∷ pages else page ∷ pages') name ≡ option_map change (find_page (page ∷ pages) name)
same_by true change keeps page pages pages' name is more =
    let new : same_name (change page).name name ≡ true = subst (λ n. same_name n name ≡ true) (sym (keeps page)) is in
    rw (is, new) refl
same_by false change keeps page pages pages' name is more = rw (is, more) refl

-- the page of this name is found changed
pub changed_same : (change : Page → Page) → KeepsNames change → (pages : List Page) (name : PageName)
    → find_page (changed change pages name) name ≡ option_map change (find_page pages name)
changed_same change keeps [] name = refl
changed_same change keeps (page ∷ pages) name =
    same_by (same_name page.name name) change keeps page pages (changed change pages name) name refl
    (changed_same change keeps pages name)

-- ---- bytes

pub found_other : (pages : List Page) (name other : PageName) (bytes : List ℕ) → same_name name other ≡ false
    → find_page (with_page_bytes pages name bytes) other ≡ find_page pages other
found_other pages name other bytes apart =
    rw (replaced_changes pages name bytes) (changed_other (with_bytes bytes) (λ page. refl) pages name other apart)

pub found_same : (pages : List Page) (name : PageName) (bytes : List ℕ)
    → find_page (with_page_bytes pages name bytes) name ≡ option_map (with_bytes bytes) (find_page pages name)
found_same pages name bytes = rw (replaced_changes pages name bytes) (changed_same (with_bytes bytes) (λ page. refl) pages name)

-- ---- pages behind others

abbrev pub either : Option Page → Option Page → Option Page
either None second = second
either (Some page) second = Some page

added_by : (test : Bool) (page : Page) (found found' new : Option Page) → found' ≡ either found new
    → (if test then Some page else found') ≡ either (if test then Some page else found) new
added_by true page found found' new more = refl
added_by false page found found' new more = more

pub found_added : (pages new : List Page) (name : PageName)
    → find_page (pages ++ new) name ≡ either (find_page pages name) (find_page new name)
found_added [] new name = refl
found_added (page ∷ pages) new name =
    added_by (same_name page.name name) page (find_page pages name) (find_page (pages ++ new) name) (find_page new name)
    (found_added pages new name)

-- ---- bytes that are put back, and bytes that are put twice

own_by : (test : Bool) (page : Page) (pages : List Page) (name : PageName) → same_name page.name name ≡ test
    → with_page_bytes pages name (bytes_of (find_page pages name)) ≡ pages
    → with_page_bytes (page ∷ pages) name (bytes_of (find_page (page ∷ pages) name)) ≡ page ∷ pages
own_by true page pages name is more = rw is refl
own_by false page pages name is more = rw is (ap (λ (rest : List Page). page ∷ rest) more)

-- a page that is given its own bytes is as before
pub replaced_own : (pages : List Page) (name : PageName) → with_page_bytes pages name (bytes_of (find_page pages name)) ≡ pages
replaced_own [] name = refl
replaced_own (page ∷ pages) name = own_by (same_name page.name name) page pages name refl (replaced_own pages name)

twice_by : (test : Bool) (page : Page) (pages : List Page) (name : PageName) (first second : List ℕ)
    → same_name page.name name ≡ test
    → with_page_bytes (with_page_bytes pages name first) name second ≡ with_page_bytes pages name second
    → with_page_bytes (with_page_bytes (page ∷ pages) name first) name second ≡ with_page_bytes (page ∷ pages) name second
twice_by true page pages name first second is more = rw (is, is) refl
twice_by false page pages name first second is more = rw (is, is) (ap (λ (rest : List Page). page ∷ rest) more)

-- a page that is given bytes twice has the second
pub replaced_twice : (pages : List Page) (name : PageName) (first second : List ℕ)
    → with_page_bytes (with_page_bytes pages name first) name second ≡ with_page_bytes pages name second
replaced_twice [] name first second = refl
replaced_twice (page ∷ pages) name first second =
    twice_by (same_name page.name name) page pages name first second refl (replaced_twice pages name first second)
