-- Pages that can be loaded keep bytes.
use Rattle.std.proofs.Common.{◌≡◌, ◌∙◌, sym, subst, ℕ, zero, suc, ◌+◌, ◌/◌, ◌%◌, ◌^◌, ◌<◌, Bool, true, false, List, [], ◌∷◌, set, refl, arith}
use Rattle.std.specs.Prelude.{Option, Some, None}
use Rattle.std.specs.Option.{option_map}
use Rattle.std.specs.List.{AllByRecursion}
use Rattle.sb_pages.specs.declared.page.PageName.{PageName}
use Rattle.sb_pages.specs.declared.page.Page.{Page}
use Rattle.sb_pages.specs.declared.page.SeenPage.{SeenPage}
use Rattle.sb_pages.specs.PageName.{same_name}
use Rattle.sb_state.specs.State.{State, find_page, contents, with_contents, bytes_of}
use Rattle.sb_state.specs.Windows.{page_for}
use Rattle.sb_state.specs.PlainMemory.{ByteToPut, put_byte, put_all, with_byte_to_put, bytes_to_put, plain_stored, plain}
use Rattle.sb_state.proofs.Names.{name_same}
use Rattle.sb_state.proofs.PageLists.{with_bytes, found_same, found_other}
use Rattle.sb_trace.specs.Sound.{IsSound, is_code_name}
use Rattle.sb_trace.specs.Changes.{AreBytes}
use Rattle.sb_trace.proofs.ThreadWords.{gives_bytes}
use Rattle.sb_origin_run.specs.Registers.{KeepsBytes}
use Rattle.sb_origin_plain.specs.Memory.{HaveBytes}
use Rattle.sb_origin_plain.proofs.Numbers.{set_bytes}

-- ---- one byte

-- a page whose bytes are those of another, but for one
given : (found : Option Page) (offset value : ℕ) (page : Page) → value < 256
    → ((old : Page) → found ≡ Some old → AreBytes old.bytes)
    → option_map (with_bytes (set (bytes_of found) offset value)) found ≡ Some page → AreBytes page.bytes
given None offset value page small all is = absurd cc
given (Some old) offset value page small all is =
    let same : with_bytes (set old.bytes offset value) old ≡ page = cc in
    subst (λ (one : Page). AreBytes one.bytes) same (set_bytes old.bytes offset value small (all old refl))

put_by : (test : Bool) (state : State) (name one : PageName) (offset value : ℕ) (page : Page) → same_name name one ≡ test
    → value < 256 → HaveBytes state → is_code_name one ≡ false
    → find_page (put_byte state name offset value).pages one ≡ Some page → AreBytes page.bytes
unfolding put_byte with_contents contents
put_by true state name one offset value page is small have code found =
    let same = name_same name one is in
    let changed : option_map (with_bytes (set (bytes_of (find_page state.pages name)) offset value)) (find_page state.pages name)
    ≡ Some page =
    sym (found_same state.pages name (set (bytes_of (find_page state.pages name)) offset value))
    ∙ subst (λ n. find_page (put_byte state name offset value).pages n ≡ Some page) (sym same) found in
    given (find_page state.pages name) offset value page small
    (λ old there. have name old (subst (λ n. is_code_name n ≡ false) (sym same) code) there) changed
put_by false state name one offset value page is small have code found =
    have one page code
    (sym (found_other state.pages name one (set (bytes_of (find_page state.pages name)) offset value) is) ∙ found)

put_keeps : (state : State) (name : PageName) (offset value : ℕ) → value < 256 → HaveBytes state
    → HaveBytes (put_byte state name offset value)
put_keeps state name offset value small have one page =
    put_by (same_name name one) state name one offset value page refl small have

-- ---- a store

abbrev PutBytes : List ByteToPut → Type 0
PutBytes bytes = AllByRecursion (λ (byte : ByteToPut). byte.value < 256) bytes

all_keep : (state : State) (bytes : List ByteToPut) → PutBytes bytes → HaveBytes state → HaveBytes (put_all state bytes)
all_keep state [] small have = have
all_keep state (byte ∷ bytes) small have =
    all_keep (put_byte state byte.name byte.offset byte.value) bytes small.1
    (put_keeps state byte.name byte.offset byte.value small.0 have)

first_small : (found : Option SeenPage) (address value : ℕ) (bytes : List ByteToPut) → value < 256 → PutBytes bytes
    → PutBytes (with_byte_to_put found address value bytes)
first_small None address value bytes below small = small
first_small (Some page) address value bytes below small = (below, small)

all_small : (state : State) (thread view address size value : ℕ) → PutBytes (bytes_to_put state thread view address size value)
unfolding bytes_to_put
all_small state thread view address zero value = tt
all_small state thread view address (suc size) value =
    first_small (page_for state thread view (address / 4096)) address (value % 256)
    (bytes_to_put state thread view ((address + 1) % 2 ^ 64) size (value / 256)) (omega arith)
    (all_small state thread view ((address + 1) % 2 ^ 64) size (value / 256))

store_keeps : (thread view : ℕ) (state : State) (address size value : ℕ) → HaveBytes state
    → HaveBytes (plain_stored thread view state address size value)
unfolding plain_stored
store_keeps thread view state address size value have =
    all_keep state (bytes_to_put state thread view address size value) (all_small state thread view address size value) have

pub keeps_bytes : (thread view : ℕ) → KeepsBytes (plain thread view) HaveBytes
keeps_bytes thread view = record {
  gives = λ state have. gives_bytes state thread view have;
  stored = λ state have address size value permitted. store_keeps thread view state address size value have;
}

pub sound_bytes : (state : State) → IsSound state → HaveBytes state
sound_bytes state sound = sound.pages.bytes
