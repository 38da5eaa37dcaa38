-- Changes of pages by which VMFUNC's bytes come to stand nowhere new.
use Rattle.std.proofs.Common.{◌≡◌, ◌∙◌, sym, ap, subst, ℕ, ◌+◌, ◌/◌, ◌%◌, Bool, true, false, List, [], ◌∷◌, ◌++◌, length, refl}
use Rattle.std.specs.Prelude.{Option, Some, None}
use Rattle.std.specs.Option.{option_map, option_and_then}
use Rattle.sb_memory.specs.declared.address.Access.TheVariants.{Fetch, Write}
use Rattle.sb_memory.specs.Words.{put_word}
use Rattle.sb_memory.proofs.Words.{length_put_word}
use Rattle.sb_state.specs.declared.page.PageName.{PageName}
use Rattle.sb_state.specs.declared.page.PageName.TheVariants.{Text, Area, Heap, Pool, HomeTrampoline, ServerTrampoline}
use Rattle.sb_state.specs.declared.page.Mode.{Mode}
use Rattle.sb_state.specs.declared.page.Mode.TheVariants as mode
use Rattle.sb_state.specs.declared.page.Page.{Page}
use Rattle.sb_state.specs.declared.page.SeenPage.{SeenPage}
use Rattle.sb_state.specs.PageName.{same_name, mode_of, permits}
use Rattle.sb_state.specs.State.{State, find_page, with_page_bytes, bytes_of, contents}
use Rattle.sb_state.specs.Windows.{page_for, page_by_name, page_and_mode, name_at, process_shown}
use Rattle.sb_trace.specs.Code.{fetched_byte, code_byte, HasNoCodePattern}
use Rattle.sb_trace.specs.Sound.{HasPage}
use Rattle.sb_trace.specs.Changes.{IsClosed, Shape, shape_of, WritesOpen, with_first_word}
use Rattle.sb_state.proofs.Cases.{clash, same_found}
use Rattle.sb_state.proofs.Names.{name_same, name_other}
use Rattle.sb_state.proofs.PageLists.{with_bytes, found_other, found_same, either, found_added}
use Rattle.sb_state.proofs.Start.{EachPage, found_each}
use Rattle.sb_trace.proofs.CodeSound.{AreCodePagesSound}

-- ---- where the same bytes may be fetched

-- all of these pages that may be fetched are as before
abbrev pub SameCode : List Page → List Page → (ℕ → PageName) → Type 0
SameCode old new name = (place : ℕ) → code_byte new name place ≡ code_byte old name place

pub no_pattern_kept : (old new : List Page) (name : ℕ → PageName) → SameCode old new name
    → HasNoCodePattern (code_byte old name) → HasNoCodePattern (code_byte new name)
no_pattern_kept old new name same none place stands =
    none place (sym (same place) ∙ stands.0, sym (same (place + 1)) ∙ stands.1, sym (same (place + 2)) ∙ stands.2)

-- where the pages themselves are found as before
pub code_where_found : (old new : List Page) (name : ℕ → PageName)
    → ((page : ℕ) → find_page new (name page) ≡ find_page old (name page)) → SameCode old new name
unfolding code_byte
code_where_found old new name same place =
    ap (λ found. fetched_byte (name (place / 4096)) found (place % 4096)) (same (place / 4096))

-- ---- pages that an instruction writes

-- what is fetched is not written
fetch_or_write : (how : Mode) → permits how Fetch ≡ true → permits how Write ≡ false
fetch_or_write mode.Fetch is = refl
fetch_or_write mode.Read is = refl
fetch_or_write mode.ReadWrite is = absurd cc

seen_there : (name : PageName) (found : Option Page) (one : SeenPage) → option_map (page_and_mode name) found ≡ Some one
    → (page : Page) × (found ≡ Some page) × (page_and_mode name page ≡ one)
seen_there name None one is = absurd cc
seen_there name (Some page) one is = (page, refl, cc)

seen_named : (pages : List Page) (name : Option PageName) (one : SeenPage) → option_and_then (page_by_name pages) name ≡ Some one
    → (page : Page) × (find_page pages one.name ≡ Some page) × (one.mode ≡ mode_of one.name page.executable)
seen_named pages None one is = absurd cc
seen_named pages (Some name) one is =
    let there = seen_there name (find_page pages name) one is in (
      there.0,
      subst (λ (seen : SeenPage). find_page pages seen.name ≡ Some there.0) there.2 there.1,
      subst (λ (seen : SeenPage). seen.mode ≡ mode_of seen.name there.0.executable) there.2 refl,
    )

-- a page that is seen is found by its name
pub seen_found : (state : State) (thread view page : ℕ) (one : SeenPage) → page_for state thread view page ≡ Some one
    → (found : Page) × (find_page state.pages one.name ≡ Some found) × (one.mode ≡ mode_of one.name found.executable)
unfolding page_for
seen_found state thread view page one is =
    seen_named state.pages (option_and_then (name_at state.threads thread view page) (process_shown state.threads thread view))
    one is

-- a page that may be fetched is closed to every thread in every view
code_closed : (state : State) (thread view : ℕ) (name : PageName) (page : Page) → find_page state.pages name ≡ Some page
    → permits (mode_of name page.executable) Fetch ≡ true → IsClosed state thread view name
code_closed state thread view name page there fetched number one is writes named =
    let found = seen_found state thread view number one is in
    let same : found.0 ≡ page =
    same_found found.0 page (find_page state.pages name)
    (subst (λ n. find_page state.pages n ≡ Some found.0) named found.1) there in
    let mode : one.mode ≡ mode_of name page.executable =
    found.2 ∙ ap (λ n. mode_of n found.0.executable) named ∙ ap (λ (p : Page). mode_of name p.executable) same in
    clash (permits one.mode Write) writes (ap (λ how. permits how Write) mode
    ∙ fetch_or_write (mode_of name page.executable) fetched)

same_fetched : (test : Bool) (name : PageName) (page page' : Page) (offset : ℕ)
    → permits (mode_of name page.executable) Fetch ≡ test → page'.executable ≡ page.executable
    → (test ≡ true → Some page' ≡ Some page) → fetched_byte name (Some page') offset ≡ fetched_byte name (Some page) offset
same_fetched true name page page' offset is mode closed = ap (λ found. fetched_byte name found offset) (closed refl)
same_fetched false name page page' offset is mode closed =
    let other : permits (mode_of name page'.executable) Fetch ≡ false =
    ap (λ executable. permits (mode_of name executable) Fetch) mode ∙ is in
    rw (is, other) refl

written_byte : (name : PageName) (found found' : Option Page) (offset : ℕ)
    → option_map shape_of found' ≡ option_map shape_of found
    → ((page : Page) → found ≡ Some page → permits (mode_of name page.executable) Fetch ≡ true → found' ≡ found)
    → fetched_byte name found' offset ≡ fetched_byte name found offset
written_byte name None None offset shapes closed = refl
written_byte name (Some page) None offset shapes closed = absurd cc
written_byte name None (Some page') offset shapes closed = absurd cc
written_byte name (Some page) (Some page') offset shapes closed =
    let same : shape_of page' ≡ shape_of page = cc in
    same_fetched (permits (mode_of name page.executable) Fetch) name page page' offset refl
    (ap (λ (shape : Shape). shape.executable) same) (closed page refl)

written_code : (old : State) (thread view : ℕ) (new : State) (name : ℕ → PageName) → WritesOpen old thread view new
    → SameCode old.pages new.pages name
unfolding code_byte
written_code old thread view new name writes place =
    written_byte (name (place / 4096)) (find_page old.pages (name (place / 4096))) (find_page new.pages (name (place / 4096)))
    (place % 4096)
    (writes.shapes (name (place / 4096)))
    (λ page is fetched. writes.closed (name (place / 4096)) (code_closed old thread view (name (place / 4096)) page is fetched))

same_shape : (found found' : Option Page) (page' : Page) → option_map shape_of found' ≡ option_map shape_of found
    → found' ≡ Some page'
    → (page : Page) × (found ≡ Some page) × (shape_of page' ≡ shape_of page)
same_shape None None page' shapes is = absurd cc
same_shape (Some page) None page' shapes is = absurd cc
same_shape None (Some other) page' shapes is = absurd cc
same_shape (Some page) (Some other) page' shapes is =
    let same : shape_of other ≡ shape_of page = cc in
    let here : other ≡ page' = cc in
    (page, refl, subst (λ (p : Page). shape_of p ≡ shape_of page) here same)

written_page : (old : State) (thread view : ℕ) (new : State) (name : PageName) (bytes : List ℕ) → WritesOpen old thread view new
    → ((executable : Bool) → permits (mode_of name executable) Fetch ≡ true) → HasPage old.pages name bytes
    → HasPage new.pages name bytes
written_page old thread view new name bytes writes fetched (page, there, has) =
    (page, writes.closed name (code_closed old thread view name page there (fetched page.executable)) ∙ there, has)

pub written_sound : (old : State) (thread view : ℕ) (new : State) → WritesOpen old thread view new → AreCodePagesSound old.pages
    → AreCodePagesSound new.pages
unfolding mode_of
written_sound old thread view new writes sound = record {
  sizes = λ name page' is.
      let before = same_shape (find_page old.pages name) (find_page new.pages name) page' (writes.shapes name) is in
      ap (λ (shape : Shape). shape.size) before.2 ∙ sound.sizes name before.0 before.1;
  home = written_page old thread view new HomeTrampoline _ writes (λ executable. refl) sound.home;
  server = written_page old thread view new ServerTrampoline _ writes (λ executable. refl) sound.server;
  text = λ process. no_pattern_kept old.pages new.pages (Text process) (written_code old thread view new (Text process) writes)
      (sound.text process);
  area = λ process. no_pattern_kept old.pages new.pages (Area process) (written_code old thread view new (Area process) writes)
      (sound.area process);
  heap = λ process. no_pattern_kept old.pages new.pages (Heap process) (written_code old thread view new (Heap process) writes)
      (sound.heap process);
}

-- ---- a pool word

-- the bytes of a page are replaced by as many
sized : (found : Option Page) (page' : Page) (bytes : List ℕ) → length bytes ≡ length (bytes_of found)
    → option_map (with_bytes bytes) found ≡ Some page'
    → (page : Page) × (found ≡ Some page) × (length page'.bytes ≡ length page.bytes)
sized None page' bytes same is = absurd cc
sized (Some page) page' bytes same is =
    let here : with_bytes bytes page ≡ page' = cc in
    (page, refl, subst (λ (p : Page). length p.bytes ≡ length page.bytes) here same)

replaced_size : (test : Bool) (pages : List Page) (name other : PageName) (bytes : List ℕ) (page' : Page)
    → same_name name other ≡ test
    → length bytes ≡ length (bytes_of (find_page pages name)) → find_page (with_page_bytes pages name bytes) other ≡ Some page'
    → (page : Page) × (find_page pages other ≡ Some page) × (length page'.bytes ≡ length page.bytes)
replaced_size true pages name other bytes page' is same found =
    let one : name ≡ other = name_same name other is in
    subst (λ (n : PageName). (page : Page) × (find_page pages n ≡ Some page) × (length page'.bytes ≡ length page.bytes)) one
    (sized (find_page pages name) page' bytes same
    (sym (found_same pages name bytes)
    ∙ subst (λ (n : PageName). find_page (with_page_bytes pages name bytes) n ≡ Some page') (sym one) found))
replaced_size false pages name other bytes page' is same found =
    (page', sym (found_other pages name other bytes is) ∙ found, refl)

replaced_page : (pages : List Page) (name other : PageName) (bytes held : List ℕ) → same_name name other ≡ false
    → HasPage pages other held
    → HasPage (with_page_bytes pages name bytes) other held
replaced_page pages name other bytes held apart (page, there, has) = (page, found_other pages name other bytes apart ∙ there, has)

pub pool_sound : (state : State) (process word : ℕ) → AreCodePagesSound state.pages
    → AreCodePagesSound (with_first_word state (Pool process) word)
unfolding same_name contents
pool_sound state process word sound =
    let bytes = put_word (bytes_of (find_page state.pages (Pool process))) 0 word in
    record {
      sizes = λ name page' is.
          let before = replaced_size (same_name (Pool process) name) state.pages (Pool process) name bytes page' refl
          (length_put_word (bytes_of (find_page state.pages (Pool process))) 0 word) is in
          before.2 ∙ sound.sizes name before.0 before.1;
      home = replaced_page state.pages (Pool process) HomeTrampoline bytes _ refl sound.home;
      server = replaced_page state.pages (Pool process) ServerTrampoline bytes _ refl sound.server;
      text = λ other. no_pattern_kept state.pages (with_page_bytes state.pages (Pool process) bytes) (Text other)
          (code_where_found state.pages (with_page_bytes state.pages (Pool process) bytes) (Text other)
          (λ page. found_other state.pages (Pool process) (Text other page) bytes refl))
          (sound.text other);
      area = λ other. no_pattern_kept state.pages (with_page_bytes state.pages (Pool process) bytes) (Area other)
          (code_where_found state.pages (with_page_bytes state.pages (Pool process) bytes) (Area other)
          (λ page. found_other state.pages (Pool process) (Area other page) bytes refl))
          (sound.area other);
      heap = λ other. no_pattern_kept state.pages (with_page_bytes state.pages (Pool process) bytes) (Heap other)
          (code_where_found state.pages (with_page_bytes state.pages (Pool process) bytes) (Heap other)
          (λ page. found_other state.pages (Pool process) (Heap other page) bytes refl))
          (sound.heap other);
    }

-- ---- pages that are added

-- a name of no code
abbrev pub IsData : PageName → Type 0
IsData (Text process page) = ⊥
IsData (Area process page) = ⊥
IsData (Heap process page) = ⊥
IsData _ = Unit {0}

-- a page that may not be fetched, of its size
abbrev pub IsDataPage : Page → Type 0
IsDataPage page = IsData page.name × (length page.bytes ≡ 4096)

none_of_code : (pages : List Page) (name : PageName) → EachPage IsDataPage pages → (IsData name → ⊥) → find_page pages name ≡ None
none_of_code [] name each code = refl
none_of_code (page ∷ pages) name each code =
    let apart : same_name page.name name ≡ false = name_other page.name name (λ same. code (subst IsData same each.0.0)) in
    rw apart (none_of_code pages name each.1 code)

or_none : (found : Option Page) → either found None ≡ found
or_none None = refl
or_none (Some page) = refl

code_added : (pages new : List Page) (name : PageName) → EachPage IsDataPage new → (IsData name → ⊥)
    → find_page (pages ++ new) name ≡ find_page pages name
code_added pages new name each code =
    found_added pages new name ∙ ap (λ found. either (find_page pages name) found) (none_of_code new name each code)
    ∙ or_none (find_page pages name)

either_size : (found new : Option Page) (page : Page) → ((one : Page) → found ≡ Some one → length one.bytes ≡ 4096)
    → ((one : Page) → new ≡ Some one → length one.bytes ≡ 4096)
    → either found new ≡ Some page → length page.bytes ≡ 4096
either_size None new page old added is = added page is
either_size (Some one) new page old added is = old page is

added_page : (pages new : List Page) (name : PageName) (bytes : List ℕ) → HasPage pages name bytes
    → HasPage (pages ++ new) name bytes
added_page pages new name bytes (page, there, has) =
    (page, found_added pages new name ∙ ap (λ found. either found (find_page new name)) there, has)

pub added_sound : (pages new : List Page) → EachPage IsDataPage new → AreCodePagesSound pages → AreCodePagesSound (pages ++ new)
added_sound pages new each sound = record {
  sizes = λ name page is.
      either_size (find_page pages name) (find_page new name) page (sound.sizes name)
      (λ one here. (found_each IsDataPage new name one each here).1) (sym (found_added pages new name) ∙ is);
  home = added_page pages new HomeTrampoline _ sound.home;
  server = added_page pages new ServerTrampoline _ sound.server;
  text = λ process. no_pattern_kept pages (pages ++ new) (Text process)
      (code_where_found pages (pages ++ new) (Text process)
      (λ page. code_added pages new (Text process page) each (λ data'. data'))) (sound.text process);
  area = λ process. no_pattern_kept pages (pages ++ new) (Area process)
      (code_where_found pages (pages ++ new) (Area process)
      (λ page. code_added pages new (Area process page) each (λ data'. data'))) (sound.area process);
  heap = λ process. no_pattern_kept pages (pages ++ new) (Heap process)
      (code_where_found pages (pages ++ new) (Heap process)
      (λ page. code_added pages new (Heap process page) each (λ data'. data'))) (sound.heap process);
}
