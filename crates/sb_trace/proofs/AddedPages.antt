-- Pages that a step adds have names that no page had.
use Rattle.std.proofs.Common.{◌≡◌, ◌∙◌, sym, ap, subst, ℕ, suc, ◌-◌, ◌^◌, List, [], ◌∷◌, ◌++◌, drop, length, refl, inl, inr}
use Rattle.std.specs.Prelude.{None, is_some, map}
use Rattle.std.specs.List.{AllByRecursion}
use Rattle.sb_trace.specs.declared.event.Event.{Event}
use Rattle.sb_trace.specs.declared.event.Event.TheVariants.{Step as StepLine, Extra, Stray, Sys, Entered, Landing, Idle}
use Rattle.sb_state.specs.declared.page.Page.{Page}
use Rattle.sb_state.specs.declared.page.PageName.TheVariants.{Heap, Pool}
use Rattle.sb_state.specs.State.{State, find_page, thread_at}
use Rattle.sb_state.specs.Windows.{process_now}
use Rattle.sb_trace.specs.KernelCall.{pool_word}
use Rattle.sb_trace.specs.Table.{ArePagesOfTable}
use Rattle.sb_trace.specs.Laws.{AddedPagesAreNew}
use Rattle.sb_trace.specs.Changes.{OnlyThread, OnlyPages, CallChanges, LineChanges, StepChanges, page_name}
use Rattle.sb_trace.proofs.NamedPages.{none_there, same_there, own_behind}
use Rattle.sb_trace.proofs.TableKept.{Grown, grown_held, stacks_grown, view_grown, word_names, mode_names}
use Rattle.sb_trace.proofs.Steps.{steps_change}

-- the names of these pages are of no page of the state
abbrev AreNew : State → List Page → Type 0
AreNew old pages = AllByRecursion (λ (page : Page). find_page old.pages page.name ≡ None) pages

-- the pages that stand behind as many as the state's
abbrev added : State → State → List Page
added old new = drop (length old.pages) new.pages

count_names : (pages : List Page) → length (map page_name pages) ≡ length pages
count_names [] = refl
count_names (page ∷ pages) = ap suc (count_names pages)

same_count : (new old : List Page) → map page_name new ≡ map page_name old → length new ≡ length old
same_count new old same = sym (count_names new) ∙ (ap length same ∙ count_names old)

none_left : (pages : List Page) → drop (length pages) pages ≡ []
none_left [] = refl
none_left (page ∷ pages) = none_left pages

behind : (first second : List Page) → drop (length first) (first ++ second) ≡ second
behind [] second = refl
behind (page ∷ first) second = behind first second

-- where pages have the names that they had, none is added
same_new : (old new : State) → map page_name new.pages ≡ map page_name old.pages → AreNew old (added old new)
same_new old new same =
    subst (AreNew old)
    (sym (ap (λ count. drop count new.pages) (sym (same_count new.pages old.pages same)) ∙ none_left new.pages)) tt

only_new : (old : State) (pages : List Page) (new : State) → OnlyPages old pages new
    → map page_name pages ≡ map page_name old.pages → AreNew old (added old new)
only_new old pages new only same = same_new old new (ap (map page_name) only.become ∙ same)

-- names that no page has of a list with the names of the state's pages
as_old : (old first : List Page) (pages : List Page) → map page_name first ≡ map page_name old
    → AllByRecursion (λ (page : Page). find_page first page.name ≡ None) pages
    → AllByRecursion (λ (page : Page). find_page old page.name ≡ None) pages
as_old old first [] same new = tt
as_old old first (page ∷ pages) same new = (
  none_there (find_page old page.name) (sym (same_there first old page.name same) ∙ ap is_some new.0),
  as_old old first pages same new.1,
)

grown_new : (old new : State) (first second : List Page) → ArePagesOfTable old → Grown old new first second
    → AreNew old (added old new)
grown_new old new first second table grown =
    let held = grown_held old new first second table grown in
    let left : drop (length old.pages) new.pages ≡ second =
    ap (λ count. drop count new.pages) (sym (same_count first old.pages grown.names))
    ∙ (ap (drop (length first)) grown.pages ∙ behind first second) in
    subst (AreNew old) (sym left) (as_old old.pages first second grown.names (own_behind first second held.once))

-- ---- by line

call_new : (old : State) (core number answer : ℕ) (new : State) → ArePagesOfTable old → OnlyThread old core new
    → CallChanges old core number answer new → AreNew old (added old new)
call_new old core number answer new table thread (inl (refused, only)) = only_new old old.pages new only refl
call_new old core number answer new table thread (inr (inl (done, call, home, adds))) =
    grown_new old new _ _ table (stacks_grown old core (thread_at old core).home new thread adds)
call_new old core number answer new table thread (inr (inr (inl (done, call, home, adds)))) =
    grown_new old new _ _ table (view_grown old core new thread adds)
call_new old core number answer new table thread (inr (inr (inr (done, call, changes)))) =
    only_new old _ new changes.only
    (mode_names old.pages (Heap (process_now (thread_at old core)) changes.page) changes.executable)

line_new : (old : State) (core : ℕ) (event : Event) (new : State) → ArePagesOfTable old → OnlyThread old core new
    → LineChanges old core event new → AreNew old (added old new)
line_new old core (StepLine rip) new table thread writes = same_new old new writes.names
line_new old core (Extra rip) new table thread writes = same_new old new writes.names
line_new old core (Stray rip) new table thread writes = same_new old new writes.names
line_new old core (Entered index slot) new table thread enters =
    only_new old _ new enters.only (word_names old (Pool enters.server) (pool_word old enters.server - 2 ^ slot))
line_new old core (Sys number answer) new table thread changes = call_new old core number answer new table thread changes
line_new old core (Landing phase) new table thread only = only_new old old.pages new only.0 refl
line_new old core Idle new table thread same =
    same_new old new (ap (λ (state : State). map page_name state.pages) same)
line_new old core _ new table thread only = only_new old old.pages new only refl

-- of a step that changes a state as its line says
pub added_new : (old : State) (core : ℕ) (event : Event) (new : State) → ArePagesOfTable old → StepChanges old core event new
    → AllByRecursion (λ (page : Page). find_page old.pages page.name ≡ None) (drop (length old.pages) new.pages)
added_new old core event new table changes = line_new old core event new table changes.thread changes.rest

pub added_pages_are_new : AddedPagesAreNew
added_pages_are_new old core event new sound steps =
    added_new old core event new sound.table (steps_change old core event new steps)
