-- Where pages stand after others are added, and after their bytes are replaced.
use Rattle.std.proofs.Common.{◌≡◌, ◌+◌, ◌<◌, ◌≤◌, ◌++◌, sym, ap, ◌∙◌, ℕ, zero, suc, Bool, true, false, cond, List, [], ◌∷◌, length, length-append, length-set, Result, Ok, Err, refl, arith}
use Rattle.std.specs.Prelude.{Option, Some, None, IfSome, IsOk, OnOk, is_some, if◌then◌else◌, slice_index_or, slice_set}
use Rattle.std.specs.Option.{option_map}
use Rattle.std.proofs.lemmas.Bool.{false≢true}
use Rattle.std.proofs.lemmas.List.{set_past, length-replicate}
use Rattle.std.proofs.lemmas.List.Elements.{All-pop, All-push, All-same, All-set}
use Rattle.std.proofs.lemmas.Grind.{common_steps}
use Rattle.sb_pages.specs.declared.page.PageName.{PageName}
use Rattle.sb_pages.specs.declared.page.Page.{Page}
use Rattle.sb_pages.specs.PageName.{same_name}
use Rattle.sb_pages.specs.PageLists.{find_page, with_page_bytes, bytes_of, with_mode}
use Rattle.sb_pages.specs.PageWords.{zeros}
use Rattle.sb_pages.specs.declared.pages.Known.{Known}
use Rattle.sb_pages.specs.Places.{IsKnown, AreKnown, place_of, equal_names, IsIndex, either, IsNoted, IsWhole, AreWhole, IsBlank, AreBlank, IsSound}
use Rattle.sb_pages.proofs.Names.{name_same}
use Rattle.sb_pages.proofs.PageLists.{changed, with_bytes, with_executable, replaced_changes}
use Rattle.sb_pages.proofs.Modes.{mode_changes}
use Rattle.sb_pages.proofs.EqualNames.{equal_same}

-- ---- the place of a name

later : (found : Option ℕ) (place : ℕ) → option_map suc found ≡ Some (suc place) → found ≡ Some place
later None place is = cc
later (Some next) place is = cc

never_first : (found : Option ℕ) → option_map suc found ≡ Some zero → ⊥
never_first None is = cc
never_first (Some next) is = cc

-- a place that is the first, or one behind a place in the rest, is among all
pub below_by : (test : Bool) (found : Option ℕ) (count place : ℕ) → ((next : ℕ) → found ≡ Some next → next < count)
    → (if test then Some 0 else option_map suc found) ≡ Some place → place < suc count
below_by true found count place more is = grind (arith, common_steps, is)
below_by false found count zero more is = omega arith
below_by false found count (suc place) more is = let next = more place (later found place is) in omega arith

pub place_below : (pages : List Page) (name : PageName) (place : ℕ) → place_of pages name ≡ Some place → place < length pages
place_below [] name place is = cc
place_below (page ∷ pages) name place is =
    below_by (same_name page.name name) (place_of pages name) (length pages) place (λ next. place_below pages name next) is

within_by : (pages : List Page) (name : PageName) (found : Option ℕ) → place_of pages name ≡ found
    → IfSome found (λ place. place < length pages)
within_by pages name None is = tt
within_by pages name (Some place) is = place_below pages name place is

pub place_within : (pages : List Page) (name : PageName) → IfSome (place_of pages name) (λ place. place < length pages)
place_within pages name = within_by pages name (place_of pages name) refl

found_by : (test : Bool) (page default : Page) (pages : List Page) (found : Option ℕ) (behind : Option Page) (place : ℕ)
    → ((next : ℕ) → found ≡ Some next → behind ≡ Some (slice_index_or pages next default))
    → (if test then Some 0 else option_map suc found) ≡ Some place
    → (if test then Some page else behind) ≡ Some (slice_index_or (page ∷ pages) place default)
found_by true page default pages found behind zero more is = refl
found_by true page default pages found behind (suc place) more is = cc
found_by false page default pages found behind zero more is = absurd (never_first found is)
found_by false page default pages found behind (suc place) more is = more place (later found place is)

pub found_at : (pages : List Page) (name : PageName) (place : ℕ) (default : Page)
    → place_of pages name ≡ Some place → find_page pages name ≡ Some (slice_index_or pages place default)
found_at [] name place default is = cc
found_at (page ∷ pages) name place default is =
    found_by (same_name page.name name) page default pages (place_of pages name) (find_page pages name) place
    (λ next. found_at pages name next default) is

none_by : (test : Bool) (page : Page) (found : Option ℕ) (behind : Option Page) → (found ≡ None → behind ≡ None)
    → (if test then Some 0 else option_map suc found) ≡ None → (if test then Some page else behind) ≡ None
none_by true page found behind more is = cc
none_by false page None behind more is = more refl
none_by false page (Some place) behind more is = cc

pub found_none : (pages : List Page) (name : PageName) → place_of pages name ≡ None → find_page pages name ≡ None
found_none [] name is = refl
found_none (page ∷ pages) name is =
    none_by (same_name page.name name) page (place_of pages name) (find_page pages name) (found_none pages name) is

-- ---- a page is added

suc_if : (same : Bool) (count : ℕ)
    → option_map suc (if same then Some count else None) ≡ (if same then Some (suc count) else None)
suc_if true count = refl
suc_if false count = refl

pushed_by : (test same : Bool) (count : ℕ) (found behind : Option ℕ) → behind ≡ either found (if same then Some count else None)
    → (if test then Some 0 else option_map suc behind)
    ≡ either (if test then Some 0 else option_map suc found) (if same then Some (suc count) else None)
pushed_by true same count found behind more = refl
pushed_by false same count None behind more = rw more (suc_if same count)
pushed_by false same count (Some place) behind more = rw more refl

-- the new page is behind the others
pub place_pushed : (pages : List Page) (new : Page) (name : PageName)
    → place_of (pages ++ new ∷ []) name
    ≡ either (place_of pages name) (if same_name new.name name then Some (length pages) else None)
place_pushed [] new name = refl
place_pushed (page ∷ pages) new name =
    pushed_by (same_name page.name name) (same_name new.name name) (length pages) (place_of pages name)
    (place_of (pages ++ new ∷ []) name)
    (place_pushed pages new name)

-- the index after the place of the new page is noted
pub index_pushed : (index now : PageName → Option ℕ) (pages : List Page) (new : Page) (count : ℕ)
    → IsIndex index pages → count ≡ length pages → IsNoted index now new.name count → IsIndex now (pages ++ new ∷ [])
index_pushed index now pages new count old long noted = λ name.
    noted name ∙ rw (long, old name) (sym (place_pushed pages new name))

-- ---- a place is noted

pub on_ok : {T E P : Type 0} (result : Result T E) → IsOk result → OnOk result P → P
on_ok (Ok value) ok known = known
on_ok (Err error) ok known = absurd (false≢true ok)

either_none : (found : Option ℕ) → found ≡ either found None
either_none None = refl
either_none (Some place) = refl

either_some : (found second : Option ℕ) → is_some found ≡ true → found ≡ either found second
either_some None second some = cc
either_some (Some place) second some = refl

there_by : (index : PageName → Option ℕ) (name other : PageName) (place : ℕ) (same : Bool) → same_name name other ≡ same
    → is_some (index name) ≡ true → index other ≡ either (index other) (if same then Some place else None)
there_by index name other place true is there =
    either_some (index other) (Some place) (ap (λ (n : PageName). is_some (index n)) (sym (name_same name other is)) ∙ there)
there_by index name other place false is there = either_none (index other)

-- a name that has a place keeps it
pub noted_there : (index : PageName → Option ℕ) (name : PageName) (place : ℕ) → is_some (index name) ≡ true
    → IsNoted index index name place
noted_there index name place there = λ other. there_by index name other place (same_name name other) refl there

none_there : (found : Option ℕ) → is_some found ≡ false → found ≡ None
none_there None missing = refl
none_there (Some place) missing = cc

put_by : (index : PageName → Option ℕ) (name other : PageName) (place : ℕ) (same : Bool) → same_name name other ≡ same
    → index name ≡ None
    → (if same then Some place else index other) ≡ either (index other) (if same then Some place else None)
put_by index name other place true is none =
    let missing : index other ≡ None = ap index (sym (name_same name other is)) ∙ none in rw missing refl
put_by index name other place false is none = either_none (index other)

-- a name that has none gets this one
pub noted_put : (index now : PageName → Option ℕ) (name : PageName) (place : ℕ) → is_some (index name) ≡ false
    → ((other : PageName) → now other ≡ cond (equal_names name other) (Some place) (index other)) → IsNoted index now name place
noted_put index now name place none put = λ other.
    put other
    ∙ rw (equal_same name other) (put_by index name other place (same_name name other) refl (none_there (index name) none))

-- ---- a page is changed

-- where there is no page of this name, nothing changes
unchanged_by : (test : Bool) (pages rest : List Page) (page new : Page) (behind : Option Page) → (behind ≡ None → rest ≡ pages)
    → (if test then Some page else behind) ≡ None → (if test then new ∷ pages else page ∷ rest) ≡ page ∷ pages
unchanged_by true pages rest page new behind more none = cc
unchanged_by false pages rest page new behind more none = ap (λ (others : List Page). page ∷ others) (more none)

changed_none : (change : Page → Page) (pages : List Page) (name : PageName) → find_page pages name ≡ None
    → changed change pages name ≡ pages
changed_none change [] name none = refl
changed_none change (page ∷ pages) name none =
    unchanged_by (same_name page.name name) pages (changed change pages name) page (change page) (find_page pages name)
    (changed_none change pages name) none

pub replaced_none : (pages : List Page) (name : PageName) (bytes : List ℕ) → find_page pages name ≡ None
    → with_page_bytes pages name bytes ≡ pages
replaced_none pages name bytes none = replaced_changes pages name bytes ∙ changed_none (with_bytes bytes) pages name none

pub with_mode_none : (pages : List Page) (name : PageName) (executable : Bool) → find_page pages name ≡ None
    → with_mode pages name executable ≡ pages
with_mode_none pages name executable none =
    mode_changes pages name executable ∙ changed_none (with_executable executable) pages name none

-- the page at the place of its name is changed
set_by : (test : Bool) (change : Page → Page) (pages rest : List Page) (first default : Page) (found : Option ℕ) (place : ℕ)
    → ((next : ℕ) → found ≡ Some next → slice_set pages next (change (slice_index_or pages next default)) ≡ rest)
    → (if test then Some 0 else option_map suc found) ≡ Some place
    → slice_set (first ∷ pages) place (change (slice_index_or (first ∷ pages) place default))
    ≡ (if test then change first ∷ pages else first ∷ rest)
set_by true change pages rest first default found zero more is = refl
set_by true change pages rest first default found (suc place) more is = cc
set_by false change pages rest first default found zero more is = absurd (never_first found is)
set_by false change pages rest first default found (suc place) more is =
    ap (λ (others : List Page). first ∷ others) (more place (later found place is))

changed_at : (change : Page → Page) (pages : List Page) (name : PageName) (place : ℕ) (default : Page)
    → place_of pages name ≡ Some place
    → slice_set pages place (change (slice_index_or pages place default)) ≡ changed change pages name
changed_at change [] name place default is = cc
changed_at change (first ∷ pages) name place default is =
    set_by (same_name first.name name) change pages (changed change pages name) first default (place_of pages name) place
    (λ next. changed_at change pages name next default) is

-- the bytes of a page are changed
pub bytes_changed : (change : List ℕ → List ℕ) (pages : List Page) (name : PageName) (place : ℕ) (page : Page)
    → place_of pages name ≡ Some place → page ≡ slice_index_or pages place page
    → slice_set pages place (record page { bytes = change page.bytes })
    ≡ with_page_bytes pages name (change (bytes_of (find_page pages name)))
bytes_changed change pages name place page is at =
    let found : find_page pages name ≡ Some page = found_at pages name place page is ∙ ap (λ (one : Page). Some one) (sym at) in
    let bytes : bytes_of (find_page pages name) ≡ page.bytes = ap bytes_of found in
    ap (λ (one : Page). slice_set pages place (with_bytes (change page.bytes) one)) at
    ∙ changed_at (with_bytes (change page.bytes)) pages name place page is
    ∙ sym (replaced_changes pages name (change page.bytes))
    ∙ ap (λ (list : List ℕ). with_page_bytes pages name (change list)) (sym bytes)

-- past the end of the page no byte is put
pub put_past : (pages : List Page) (name : PageName) (place offset value : ℕ) (page : Page)
    → place_of pages name ≡ Some place → page ≡ slice_index_or pages place page → length page.bytes ≤ offset
    → slice_set pages place page ≡ with_page_bytes pages name (slice_set (bytes_of (find_page pages name)) offset value)
put_past pages name place offset value page is at past =
    ap (λ (list : List ℕ). slice_set pages place (with_bytes list page)) (sym (set_past page.bytes offset value past))
    ∙ bytes_changed (λ bytes. slice_set bytes offset value) pages name place page is at

-- the mode of a page is changed
pub mode_changed : (pages : List Page) (name : PageName) (place : ℕ) (executable : Bool) (page : Page)
    → place_of pages name ≡ Some place → page ≡ slice_index_or pages place page
    → slice_set pages place (record page { executable = executable }) ≡ with_mode pages name executable
mode_changed pages name place executable page is at =
    ap (λ (one : Page). slice_set pages place (with_executable executable one)) at
    ∙ changed_at (with_executable executable) pages name place page is
    ∙ sym (mode_changes pages name executable)

-- a page of the same name in the place of another: each name keeps its place
pub place_set : (pages : List Page) (place : ℕ) (page new : Page) (name : PageName) → page ≡ slice_index_or pages place page
    → new.name ≡ page.name
    → place_of (slice_set pages place new) name ≡ place_of pages name
place_set [] place page new name at same = refl
place_set (first ∷ pages) zero page new name at same =
    ap (λ (one : PageName). if same_name one name then Some 0 else option_map suc (place_of pages name)) (same
    ∙ ap (λ (one : Page). one.name) at)
place_set (first ∷ pages) (suc place) page new name at same =
    ap (λ (found : Option ℕ). if same_name first.name name then Some 0 else option_map suc found)
    (place_set pages place page new name at same)

-- ---- what pages keep beside their list

pub whole_at : (pages : List Page) (place : ℕ) (page : Page) → AreWhole pages → place < length pages
    → page ≡ slice_index_or pages place page
    → length page.bytes ≡ 4096
whole_at pages place page whole within at = ap (λ (one : Page). length one.bytes) at ∙ whole place page within

-- an index that has the same places is an index too
pub index_same : (index now : PageName → Option ℕ) (pages same : List Page) → IsIndex index pages
    → ((name : PageName) → now name ≡ index name)
    → same ≡ pages → IsIndex now same
index_same index now pages same old places is =
    λ name. places name ∙ old name ∙ ap (λ (list : List Page). place_of list name) (sym is)

-- a name that is known stays so where each name keeps its place
pub known_same : (pages now : List Page) (one : Option Known) → ((name : PageName) → place_of now name ≡ place_of pages name)
    → IsKnown pages one → IsKnown now one
known_same pages now None same known = tt
known_same pages now (Some one) same known = same one.name ∙ known

-- a page of the same name in the place of another
pub sound_set : (index : PageName
    → Option ℕ) (pages : List Page) (blanks : List (List ℕ)) (capacity spare place : ℕ) (names : List (Option Known))
    (page new : Page)
    → IsSound index pages blanks capacity spare names → place < length pages → page ≡ slice_index_or pages place page
    → new.name ≡ page.name
    → length new.bytes ≡ length page.bytes → IsSound index (slice_set pages place new) blanks capacity spare names
sound_set index pages blanks capacity spare place names page new sound within at name size = record {
  places = λ other. sound.places other ∙ sym (place_set pages place page new other at name);
  whole = All-set IsWhole pages place new (size ∙ whole_at pages place page sound.whole within at) sound.whole;
  blank = sound.blank;
  room = rw length-set sound.room;
  room_in_index = sound.room_in_index;
  known = λ k d below. known_same pages (slice_set pages place new) (slice_index_or names k d)
      (λ other. place_set pages place page new other at name) (sound.known k d below);
}

-- the bytes of a blank page that was taken
pub blank_taken : (blanks fewer : List (List ℕ)) (bytes : List ℕ) → AreBlank blanks → blanks ≡ fewer ++ bytes ∷ [] → bytes ≡ zeros
blank_taken blanks fewer bytes blank taken = (All-pop IsBlank blanks fewer (Some bytes) taken blank).1

-- a page of zeros has the size of a page
pub zeros_size : length zeros ≡ 4096
unfolding zeros
zeros_size = length-replicate {A = ℕ} 4096 0

-- a page more, for which a blank one was taken
pub sound_added : (index now : PageName
    → Option ℕ) (pages grown : List Page) (blanks fewer : List (List ℕ)) (bytes : List ℕ) (capacity spare left : ℕ)
    (names others : List (Option Known)) (page : Page)
    → IsSound index pages blanks capacity spare names → blanks ≡ fewer ++ bytes ∷ [] → grown ≡ pages ++ page ∷ []
    → length page.bytes ≡ 4096
    → IsIndex now grown → AreKnown grown others → spare ≤ left + 1 → IsSound now grown fewer capacity left others
sound_added index now pages grown blanks fewer bytes capacity spare left names others page sound taken more size places known
    kept =
    let fewer_by_one : length blanks ≡ length fewer + 1 = ap length taken ∙ length-append fewer (bytes ∷ []) in
    let one_more : length grown ≡ length pages + 1 = ap length more ∙ length-append pages (page ∷ []) in
    let room = sound.room in
    let room_in_index = sound.room_in_index in
    record {
      places = places;
      whole = All-same IsWhole grown (pages ++ page ∷ []) more (All-push IsWhole pages page sound.whole size);
      blank = (All-pop IsBlank blanks fewer (Some bytes) taken sound.blank).0;
      room = omega arith;
      room_in_index = omega arith;
      known = known;
    }
