-- Pages of the start: their sizes, and what is said of each page of a list; and how many threads there are.
use Rattle.std.proofs.Common.{◌≡◌, ◌∙◌, ap, subst, ℕ, zero, suc, ◌+◌, Bool, true, false, List, [], ◌∷◌, ◌++◌, length, refl}
use Rattle.std.specs.Prelude.{Option, Some, if◌then◌else◌}
use Rattle.sb_memory.specs.Words.{put_words, zeros as so_many_zeros}
use Rattle.sb_memory.proofs.Pages.{length_put_words}
use Rattle.sb_tramp.specs.declared.record_words.RecordWords.{RecordWords}
use Rattle.sb_tramp.specs.Record.{words_of}
use Rattle.sb_pages.specs.declared.page.PageName.{PageName}
use Rattle.sb_pages.specs.declared.page.Page.{Page}
use Rattle.sb_pages.specs.PageName.{same_name}
use Rattle.sb_pages.specs.PageLists.{find_page}
use Rattle.sb_pages.specs.PageWords.{zeros}
pub use Rattle.sb_pages.proofs.Places.{zeros_size}
use Rattle.sb_state.specs.Start.{ThreadEntry, record_bytes, pages_from, start_threads}

-- ---- sizes

-- a record page is a page of zeros in which words were put
pub record_page : (words : RecordWords) → record_bytes words ≡ put_words zeros 0 (words_of words)
unfolding record_bytes zeros so_many_zeros
record_page words = refl

-- and has the size of a page
pub record_size : (words : RecordWords) → length (record_bytes words) ≡ 4096
record_size words = ap length (record_page words) ∙ (length_put_words (words_of words) zeros 0 ∙ zeros_size)

-- ---- each page of a list

abbrev pub EachPage : (Page → Type 0) → List Page → Type 0
EachPage Claim [] = Unit {0}
EachPage Claim (page ∷ pages) = Claim page × EachPage Claim pages

found_by : (Claim : Page → Type 0) (test : Bool) (first page : Page) (found : Option Page) → Claim first
    → (found ≡ Some page → Claim page)
    → (if test then Some first else found) ≡ Some page → Claim page
found_by Claim true first page found one more is = let same : first ≡ page = cc in subst Claim same one
found_by Claim false first page found one more is = more is

-- what is said of each page is said of the one that is found
pub found_each : (Claim : Page → Type 0) (pages : List Page) (name : PageName) (page : Page) → EachPage Claim pages
    → find_page pages name ≡ Some page → Claim page
found_each Claim [] name page each is = absurd cc
found_each Claim (first ∷ pages) name page each is =
    found_by Claim (same_name first.name name) first page (find_page pages name) each.0
    (found_each Claim pages name page each.1) is

-- of two lists, one behind the other
pub each_both : (Claim : Page → Type 0) (first second : List Page) → EachPage Claim first → EachPage Claim second
    → EachPage Claim (first ++ second)
each_both Claim [] second one other = other
each_both Claim (page ∷ first) second one other = (one.0, each_both Claim first second one.1 other)

-- of numbered pages
pub each_from : (Claim : Page → Type 0) (page : ℕ → Page) (first count : ℕ) → ((number : ℕ) → Claim (page number))
    → EachPage Claim (pages_from page first count)
each_from Claim page first zero all = tt
each_from Claim page first (suc count) all = (all first, each_from Claim page (first + 1) count all)

-- ---- threads

-- there is one for each entry
pub count_threads : (thread : ℕ) (entries : List ThreadEntry) → length (start_threads thread entries) ≡ length entries
count_threads thread [] = refl
count_threads thread (entry ∷ entries) = ap suc (count_threads (thread + 1) entries)
