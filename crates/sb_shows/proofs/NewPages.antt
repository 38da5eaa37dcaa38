-- Pages that are added by numbers are new, where none of their names is there yet.
use Rattle.std.proofs.Common.{◌≡◌, ◌≢◌, ◌∙◌, sym, ap, subst, ℕ, zero, suc, ◌+◌, ◌<◌, ◌≤◌, Bool, false, List, [], ◌∷◌, ◌++◌, length, refl, append_assoc, arith}
use Rattle.std.specs.Prelude.{Option, Some, None, if◌then◌else◌}
use Rattle.std.proofs.lemmas.List.{append-nil}
use Rattle.sb_state.specs.declared.page.PageName.{PageName}
use Rattle.sb_state.specs.declared.page.Page.{Page}
use Rattle.sb_state.specs.declared.state.Thread.{Thread}
use Rattle.sb_trace.specs.State.{find_page}
use Rattle.sb_trace.specs.Start.{pages_from}
use Rattle.sb_state.proofs.Names.{name_other}
use Rattle.sb_state.proofs.PageLists.{either, found_added}
use Rattle.sb_shows.specs.Placement.{is_own}
use Rattle.sb_shows.specs.Calls.{IsSeenIn, AreNewPages}
use Rattle.sb_shows.proofs.Adding.{added_other}

-- ---- names that are not there yet

none_from : (page : ℕ → Page) (count first : ℕ) (name : PageName) → ((number : ℕ) → (page number).name ≢ name)
    → find_page (pages_from page first count) name ≡ None
none_from page zero first name differ = refl
none_from page (suc count) first name differ =
    ap (λ (test : Bool). if test then Some (page first) else find_page (pages_from page (first + 1) count) name)
    (name_other (page first).name name (differ first)) ∙ none_from page count (first + 1) name differ

-- a name that is not there is not there after pages of other names
pub absent_after : (pages : List Page) (page : ℕ → Page) (first count : ℕ) (name : PageName)
    → ((number : ℕ) → (page number).name ≢ name) → find_page pages name ≡ None
    → find_page (pages ++ pages_from page first count) name ≡ None
absent_after pages page first count name differ none =
    found_added pages (pages_from page first count) name
    ∙ (ap (λ (found : Option Page). either found (find_page (pages_from page first count) name)) none
    ∙ none_from page count first name differ)

-- ---- new pages

-- a page that may be added, once its name is not there
pub record CanJoin (threads : List Thread) (count : ℕ) (processes : List ℕ) (page : Page) : Type 0 where
  pub shared_page : is_own page.name ≡ false
  pub size : length page.bytes ≡ 4096
  pub seen : IsSeenIn threads count page.name processes

-- pages by their numbers, each with a name of its own
pub new_from : (count first : ℕ) (page : ℕ → Page) (threads : List Thread) (processes : ℕ) (pages : List Page)
    (places : List ℕ)
    → ((one other : ℕ) → one ≢ other → (page one).name ≢ (page other).name)
    → ((number : ℕ) → first ≤ number → number < first + count → CanJoin threads processes places (page number))
    → ((number : ℕ) → first ≤ number → find_page pages (page number).name ≡ None)
    → AreNewPages threads processes pages places (pages_from page first count)
new_from zero first page threads processes pages places differ join none = tt
new_from (suc count) first page threads processes pages places differ join none =
    let here = join first (omega arith) (omega arith) in (
      record { absent = none first (omega arith); shared_page = here.shared_page; size = here.size; seen = here.seen },
      new_from count (first + 1) page threads processes (pages ++ page first ∷ []) places differ
          (λ number above below. join number (omega arith) (omega arith))
          (λ number above. added_other pages (page first) (page number).name
          (name_other (page first).name (page number).name (differ first number (omega arith))) ∙ none number (omega arith)),
    )

-- pages of one list, and then those of another
pub new_both : (first second pages : List Page) (threads : List Thread) (processes : ℕ) (places : List ℕ)
    → AreNewPages threads processes pages places first → AreNewPages threads processes (pages ++ first) places second
    → AreNewPages threads processes pages places (first ++ second)
new_both [] second pages threads processes places one other =
    subst (λ list. AreNewPages threads processes list places second) (append-nil pages) other
new_both (page ∷ first) second pages threads processes places one other = (
  one.0,
  new_both first second (pages ++ page ∷ []) threads processes places one.1
      (subst (λ list. AreNewPages threads processes list places second) (sym (append_assoc pages (page ∷ []) first)) other),
)
