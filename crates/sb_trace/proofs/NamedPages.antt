-- Lists of pages by the names that stand in them.
use Rattle.std.proofs.Common.{◌≡◌, ◌∙◌, sym, ap, subst, ℕ, zero, suc, ◌+◌, ◌<◌, Bool, true, false, List, [], ◌∷◌, ◌++◌, ◌==◌, ◌||◌, refl, arith}
use Rattle.std.specs.Prelude.{Option, Some, None, is_some, map, nat_lt, if◌then◌else◌}
use Rattle.std.specs.List.{AllByRecursion}
use Rattle.std.proofs.lemmas.Bool.{ne_eqb}
use Rattle.std.proofs.lemmas.Bool.Decides.{Decides-eqb, Decides-ltb}
use Rattle.sb_state.specs.declared.page.PageName.{PageName}
use Rattle.sb_state.specs.declared.page.Page.{Page}
use Rattle.sb_state.specs.PageName.{same_name}
use Rattle.sb_state.specs.State.{find_page}
use Rattle.sb_state.specs.Start.{pages_from}
use Rattle.sb_trace.specs.Table.{is_there, HaveOwnNames}
use Rattle.sb_trace.specs.Changes.{page_name}
use Rattle.sb_state.proofs.Names.{name_same}
use Rattle.sb_state.proofs.PageLists.{changed, KeepsNames, either, found_added}
use Rattle.sb_state.proofs.Start.{EachPage}
use Rattle.sb_state.proofs.Cases.{same_tests}

-- ---- names

-- whether a name stands among names
abbrev pub has_name : List PageName → PageName → Bool
has_name [] name = false
has_name (one ∷ names) name = if same_name one name then true else has_name names name

there_by : (test : Bool) (page : Page) (found : Option Page) (more : Bool) → is_some found ≡ more
    → is_some (if test then Some page else found) ≡ (if test then true else more)
there_by true page found more same = refl
there_by false page found more same = same

-- a page is there where its name stands among the names of the pages
there_named : (pages : List Page) (name : PageName) → is_there pages name ≡ has_name (map page_name pages) name
there_named [] name = refl
there_named (page ∷ pages) name =
    there_by (same_name page.name name) page (find_page pages name) (has_name (map page_name pages) name)
    (there_named pages name)

pub none_there : (found : Option Page) → is_some found ≡ false → found ≡ None
none_there None none = refl
none_there (Some page) none = absurd cc

-- names, each once
abbrev AreOwn : List PageName → Type 0
AreOwn [] = Unit {0}
AreOwn (name ∷ names) = (has_name names name ≡ false) × AreOwn names

own_named : (pages : List Page) → HaveOwnNames pages → AreOwn (map page_name pages)
own_named [] own = tt
own_named (page ∷ pages) own = (sym (there_named pages page.name) ∙ ap is_some own.0, own_named pages own.1)

own_pages : (pages : List Page) → AreOwn (map page_name pages) → HaveOwnNames pages
own_pages [] own = tt
own_pages (page ∷ pages) own =
    (none_there (find_page pages page.name) (there_named pages page.name ∙ own.0), own_pages pages own.1)

-- pages of the same names are there alike
pub same_there : (new old : List Page) (name : PageName) → map page_name new ≡ map page_name old
    → is_there new name ≡ is_there old name
same_there new old name same = there_named new name ∙ (ap (λ names. has_name names name) same ∙ sym (there_named old name))

-- and each once alike
pub same_own : (new old : List Page) → map page_name new ≡ map page_name old → HaveOwnNames old → HaveOwnNames new
same_own new old same own = own_pages new (subst AreOwn (sym same) (own_named old own))

names_by : (test : Bool) (change : Page → Page) → KeepsNames change → (page : Page) (pages pages' : List Page)
    → map page_name pages' ≡ map page_name pages
    → map page_name (if test then change page ∷ pages else page ∷ pages') ≡ page.name ∷ map page_name pages
names_by true change keeps page pages pages' more = ap (λ (name : PageName). name ∷ map page_name pages) (keeps page)
names_by false change keeps page pages pages' more = ap (λ (names : List PageName). page.name ∷ names) more

-- a change of a page that leaves names leaves the list of names
pub changed_names : (change : Page → Page) → KeepsNames change → (pages : List Page) (name : PageName)
    → map page_name (changed change pages name) ≡ map page_name pages
changed_names change keeps [] name = refl
changed_names change keeps (page ∷ pages) name =
    names_by (same_name page.name name) change keeps page pages (changed change pages name)
    (changed_names change keeps pages name)

-- ---- pages behind others

some_either : (first second : Option Page) → is_some (either first second) ≡ (is_some first || is_some second)
some_either None second = refl
some_either (Some page) second = refl

there_added : (first second : List Page) (name : PageName)
    → is_there (first ++ second) name ≡ (is_there first name || is_there second name)
there_added first second name =
    ap is_some (found_added first second name) ∙ some_either (find_page first name) (find_page second name)

none_either : (first second : Option Page) → first ≡ None → second ≡ None → either first second ≡ None
none_either None second one other = other
none_either (Some page) second one other = absurd cc

own_added : (first second : List Page) → HaveOwnNames first → HaveOwnNames second
    → EachPage (λ page. find_page second page.name ≡ None) first
    → HaveOwnNames (first ++ second)
own_added [] second one other apart = other
own_added (page ∷ first) second one other apart = (
  found_added first second page.name ∙ none_either (find_page first page.name) (find_page second page.name) one.0 apart.0,
  own_added first second one.1 other apart.1,
)

-- ---- names of pages that are added are new

both_none : (first second : Option Page) → either first second ≡ None → (first ≡ None) × (second ≡ None)
both_none None second none = (refl, none)
both_none (Some page) second none = absurd cc

apart_by : (test : Bool) (page : Page) (found : Option Page) → (if test then Some page else found) ≡ None
    → (test ≡ false) × (found ≡ None)
apart_by true page found none = absurd cc
apart_by false page found none = (refl, none)

turned_by : (test : Bool) (first second : PageName) → same_name first second ≡ test → same_name second first ≡ false
    → same_name first second ≡ false
turned_by true first second is apart =
    let same : first ≡ second = name_same first second is in
    let own : same_name second second ≡ true = subst (λ name. same_name name second ≡ true) same is in
    let turned : same_name second first ≡ true = subst (λ name. same_name second name ≡ true) (sym same) own in
    absurd (let clash : true ≡ false = sym turned ∙ apart in cc)
turned_by false first second is apart = is

behind_by : (test : Bool) (page : Page) (found : Option Page) → test ≡ false → found ≡ None
    → (if test then Some page else found) ≡ None
behind_by true page found apart none = absurd cc
behind_by false page found apart none = none

new_behind : (page : Page) (first second : List Page) → find_page second page.name ≡ None
    → AllByRecursion (λ (one : Page). find_page first one.name ≡ None) second
    → AllByRecursion (λ (one : Page). find_page (page ∷ first) one.name ≡ None) second
new_behind page first [] none new = tt
new_behind page first (one ∷ second) none new =
    let parts = apart_by (same_name one.name page.name) one (find_page second page.name) none in
    let apart : same_name page.name one.name ≡ false =
    turned_by (same_name page.name one.name) page.name one.name refl parts.0 in (
      behind_by (same_name page.name one.name) page (find_page first one.name) apart new.0,
      new_behind page first second parts.1 new.1,
    )

each_new : (second : List Page) → AllByRecursion (λ (one : Page). find_page [] one.name ≡ None) second
each_new [] = tt
each_new (one ∷ second) = (refl, each_new second)

-- where each page of two lists has a name of its own, no page of the second has the name of one of the first
pub own_behind : (first second : List Page) → HaveOwnNames (first ++ second)
    → AllByRecursion (λ (one : Page). find_page first one.name ≡ None) second
own_behind [] second own = each_new second
own_behind (page ∷ first) second own =
    let none : either (find_page first page.name) (find_page second page.name) ≡ None =
    sym (found_added first second page.name) ∙ own.0 in
    new_behind page first second (both_none (find_page first page.name) (find_page second page.name) none).1
    (own_behind first second own.1)

-- a page whose name no page behind it has, where none behind has the name of one of these
none_behind : (page : Page) (first second : List Page) → EachPage (λ one. find_page (page ∷ first) one.name ≡ None) second
    → (find_page second page.name ≡ None) × EachPage (λ one. find_page first one.name ≡ None) second
none_behind page first [] new = (refl, tt)
none_behind page first (one ∷ second) new =
    let parts = apart_by (same_name page.name one.name) page (find_page first one.name) new.0 in
    let apart : same_name one.name page.name ≡ false =
    turned_by (same_name one.name page.name) one.name page.name refl parts.0 in
    let more = none_behind page first second new.1 in
    (behind_by (same_name one.name page.name) one (find_page second page.name) apart more.0, (parts.1, more.1))

own_new : (first second : List Page) → HaveOwnNames first → HaveOwnNames second
    → EachPage (λ one. find_page first one.name ≡ None) second
    → HaveOwnNames (first ++ second)
own_new [] second one other new = other
own_new (page ∷ first) second one other new =
    let parts = none_behind page first second new in (
      found_added first second page.name ∙ none_either (find_page first page.name) (find_page second page.name) one.0 parts.0,
      own_new first second one.1 other parts.1,
    )

-- ---- lists of pages by a test of names

-- the pages are those of the names of a test, each once
pub record Hold (pages : List Page) (test : PageName → Bool) : Type 0 where
  pub once : HaveOwnNames pages
  pub exactly : (name : PageName) → is_there pages name ≡ test name

pub hold_as : (pages : List Page) (test other : PageName → Bool) → Hold pages test → ((name : PageName) → test name ≡ other name)
    → Hold pages other
hold_as pages test other hold same = record { once = hold.once; exactly = λ name. hold.exactly name ∙ same name }

no_test : (test : PageName → Bool) (second first : List Page) → Hold second test
    → EachPage (λ page. test page.name ≡ false) first
    → EachPage (λ page. find_page second page.name ≡ None) first
no_test test second [] hold apart = tt
no_test test second (page ∷ first) hold apart = (
  none_there (find_page second page.name) (hold.exactly page.name ∙ apart.0),
  no_test test second first hold apart.1,
)

or_same : (first first' second second' : Bool) → first ≡ first' → second ≡ second' → (first || second) ≡ (first' || second')
or_same first first' second second' one other = rw (one, other) refl

-- of two lists, of which the first has no name of the second
pub hold_both : (first second : List Page) (test other : PageName → Bool) → Hold first test → Hold second other
    → EachPage (λ page. other page.name ≡ false) first
    → Hold (first ++ second) (λ name. test name || other name)
hold_both first second test other one two apart = record {
  once = own_added first second one.once two.once (no_test other second first two apart);
  exactly = λ name. there_added first second name
      ∙ or_same (is_there first name) (test name) (is_there second name) (other name) (one.exactly name) (two.exactly name);
}

-- of two lists, of which the second has no name of the first
pub hold_new : (first second : List Page) (test other : PageName → Bool) → Hold first test → Hold second other
    → EachPage (λ page. test page.name ≡ false) second
    → Hold (first ++ second) (λ name. test name || other name)
hold_new first second test other one two new = record {
  once = own_new first second one.once two.once (no_test test first second one new);
  exactly = λ name. there_added first second name
      ∙ or_same (is_there first name) (test name) (is_there second name) (other name) (one.exactly name) (two.exactly name);
}

one_by : (test : Bool) (page : Page) → is_some (if test then Some page else None) ≡ test
one_by true page = refl
one_by false page = refl

-- of one page
pub hold_one : (page : Page) → Hold (page ∷ []) (λ name. same_name page.name name)
hold_one page = record { once = (refl, tt); exactly = λ name. one_by (same_name page.name name) page }

-- ---- numbered pages

-- whether the number of a name, if it has one, is this
abbrev pub is_at : ℕ → Option ℕ → Bool
is_at number None = false
is_at number (Some place) = number == place

-- whether it is one of so many from a first one on
abbrev pub is_from : ℕ → ℕ → Option ℕ → Bool
is_from first zero place = false
is_from first (suc count) place = if is_at first place then true else is_from (first + 1) count place

-- whether it is below a number
abbrev pub is_below : ℕ → Option ℕ → Bool
is_below count None = false
is_below count (Some place) = nat_lt place count

none_from : (first count : ℕ) → is_from first count None ≡ false
none_from first zero = refl
none_from first (suc count) = none_from (first + 1) count

before_from : (first count place : ℕ) → place < first → is_from first count (Some place) ≡ false
before_from first zero place below = refl
before_from first (suc count) place below =
    let apart : (first == place) ≡ false = ne_eqb first place (λ same. omega (arith, same, below)) in
    rw apart (before_from (first + 1) count place (omega (arith, below)))

pub less_same : (first second third fourth : ℕ) → (first < second → third < fourth) → (third < fourth → first < second)
    → nat_lt first second ≡ nat_lt third fourth
less_same first second third fourth there back =
    same_tests (nat_lt first second) (nat_lt third fourth)
    (λ is. (Decides-ltb third fourth).1 (there ((Decides-ltb first second).0 is)))
    (λ is. (Decides-ltb first second).1 (back ((Decides-ltb third fourth).0 is)))

pub below_none : (place : ℕ) → nat_lt place 0 ≡ false
below_none place = less_same place 0 1 0 (λ less. absurd (omega (arith, less))) (λ less. absurd (omega (arith, less)))

from_below : (count first place : ℕ) → is_from first count (Some (first + place)) ≡ nat_lt place count
from_below zero first place = sym (below_none place)
from_below (suc count) first zero =
    let same : (first == first + 0) ≡ true = (Decides-eqb first (first + 0)).1 (omega arith) in
    let less : nat_lt 0 (suc count) ≡ true = (Decides-ltb 0 (suc count)).1 (omega arith) in
    rw (same, less) refl
from_below (suc count) first (suc place) =
    let apart : (first == first + suc place) ≡ false = ne_eqb first (first + suc place) (λ same. omega (arith, same)) in
    let next : first + 1 + place ≡ first + suc place = omega arith in
    let less : nat_lt place count ≡ nat_lt (suc place) (suc count) =
    less_same place count (suc place) (suc count) (λ less. omega (arith, less)) (λ less. omega (arith, less)) in
    rw apart (subst (λ number. is_from (first + 1) count (Some number) ≡ nat_lt place count) next
    (from_below count (first + 1) place) ∙ less)

from_first : (count : ℕ) (place : Option ℕ) → is_from 0 count place ≡ is_below count place
from_first count None = none_from 0 count
from_first count (Some place) =
    let same : 0 + place ≡ place = omega arith in
    subst (λ number. is_from 0 count (Some number) ≡ nat_lt place count) same (from_below count 0 place)

-- names that are numbered: a page's name has the number of the page, and no other name has
pub record AreNumbered (page : ℕ → Page) (place : PageName → Option ℕ) : Type 0 where
  pub at : (number : ℕ) (name : PageName) → same_name (page number).name name ≡ is_at number (place name)
  pub own : (number : ℕ) → place (page number).name ≡ Some number

from_by : (test test' : Bool) (page : Page) (found : Option Page) (more : Bool) → test ≡ test' → is_some found ≡ more
    → is_some (if test then Some page else found) ≡ (if test' then true else more)
from_by true true page found more same is = refl
from_by true false page found more same is = absurd cc
from_by false true page found more same is = absurd cc
from_by false false page found more same is = is

hold_numbers : (page : ℕ → Page) (place : PageName → Option ℕ) (first count : ℕ) → AreNumbered page place
    → Hold (pages_from page first count) (λ name. is_from first count (place name))
hold_numbers page place first zero numbered = record { once = tt; exactly = λ name. refl }
hold_numbers page place first (suc count) numbered =
    let more = hold_numbers page place (first + 1) count numbered in
    let none : is_from (first + 1) count (place (page first).name) ≡ false =
    ap (is_from (first + 1) count) (numbered.own first) ∙ before_from (first + 1) count first (omega arith) in
    record {
      once = (
        none_there (find_page (pages_from page (first + 1) count) (page first).name) (more.exactly (page first).name ∙ none),
        more.once,
      );
      exactly = λ name.
          from_by (same_name (page first).name name) (is_at first (place name)) (page first)
          (find_page (pages_from page (first + 1) count) name) (is_from (first + 1) count (place name)) (numbered.at first name)
          (more.exactly name);
    }

-- so many pages that are numbered from 0 on
pub hold_from : (page : ℕ → Page) (place : PageName → Option ℕ) (count : ℕ) → AreNumbered page place
    → Hold (pages_from page 0 count) (λ name. is_below count (place name))
hold_from page place count numbered =
    hold_as (pages_from page 0 count) (λ name. is_from 0 count (place name)) (λ name. is_below count (place name))
    (hold_numbers page place 0 count numbered) (λ name. from_first count (place name))
