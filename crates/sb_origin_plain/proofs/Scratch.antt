-- Words of the scratch page: what is loaded from it, and what a store leaves in it.
use Rattle.std.proofs.Common.{◌≡◌, ◌∙◌, sym, ap, subst, ℕ, ◌+◌, ◌*◌, ◌/◌, ◌%◌, ◌^◌, ◌<◌, ◌≤◌, inl, inr, Bool, true, false, List, length, refl, arith, Ok}
use Rattle.std.specs.Prelude.{Option, Some, None, is_some}
use Rattle.std.specs.Option.{option_map}
use Rattle.sb_memory.specs.declared.address.Access.{Access}
use Rattle.sb_memory.specs.declared.address.Access.TheVariants.{Read, Write}
use Rattle.sb_pages.specs.declared.page.PageName.{PageName}
use Rattle.sb_pages.specs.declared.page.PageName.TheVariants.{Scratch}
use Rattle.sb_pages.specs.declared.page.Page.{Page}
use Rattle.sb_pages.specs.declared.page.Mode.TheVariants as mode
use Rattle.sb_pages.specs.PageName.{same_name, mode_of, permits}
use Rattle.sb_pages.specs.PageWords.{number_at, put_number}
use Rattle.sb_exec.specs.Access.{store_answer, loaded_from, byte_for}
use Rattle.sb_state.specs.State.{State, find_page, with_page_bytes, contents, with_contents, bytes_of}
use Rattle.sb_state.specs.Windows.{name_at, page_for, process_shown}
use Rattle.sb_state.specs.PlainMemory.{plain_byte, plain_stored}
use Rattle.sb_state.specs.NameForAccess.{name_for_access}
use Rattle.sb_state.proofs.Names.{name_same, name_other}
use Rattle.sb_state.proofs.PageLists.{with_bytes, found_same, found_other}
use Rattle.sb_state.proofs.InPage.{reached_again, number_in_page}
use Rattle.sb_state.proofs.WholeNumber.{number_stored, number_may_be_stored}
use Rattle.sb_trace.specs.Table.{is_there}
use Rattle.sb_trace.specs.Changes.{AreBytes}
use Rattle.sb_original.specs.Words.{ScratchWord, FirstSaved, SecondSaved, Third, Words, place_of, word_of, with_word, with_lower, with_upper}
use Rattle.sb_origin_plain.specs.Memory.{words_in, HasScratch, is_shared, AreBesideScratch}
use Rattle.sb_origin_plain.proofs.Numbers.{number_read_back, number_beside, halves, number_below, length_put, put_bytes}

-- ---- the page that is reached

scratch_seen : (thread view : ℕ) (words : Words) (state : State) → HasScratch thread view words state
    → page_for state thread view 0x70004 ≡ Some (record { name = Scratch thread view; mode = mode.ReadWrite })
unfolding page_for name_at mode_of
scratch_seen thread view words state has = rw (has.shown, has.there) refl

reached_first : (thread view : ℕ) (words : Words) (state : State) (how : Access) → HasScratch thread view words state
    → permits mode.ReadWrite how ≡ true → name_for_access thread view state 0x70004000 how ≡ Ok (Scratch thread view)
unfolding name_for_access
reached_first thread view words state how has permitted =
    rw (scratch_seen thread view words state has, permitted) refl

-- an address of the scratch page
abbrev pub address_at : ℕ → ℕ
address_at offset = 0x70004000 + offset

reached : (thread view : ℕ) (words : Words) (state : State) (how : Access) (offset : ℕ) → HasScratch thread view words state
    → permits mode.ReadWrite how ≡ true → offset < 4096
    → name_for_access thread view state (address_at offset) how ≡ Ok (Scratch thread view)
reached thread view words state how offset has permitted inside =
    reached_again thread view state 0x70004000 (address_at offset) how (Scratch thread view) (omega arith)
    (reached_first thread view words state how has permitted)

-- ---- loads and permissions

pub loaded_at : (thread view : ℕ) (words : Words) (state : State) (offset size : ℕ) → (has : HasScratch thread view words state)
    → offset < 4096 → offset + size ≤ 4096
    → loaded_from (byte_for (plain_byte thread view state) Read) (address_at offset) size
    ≡ Ok (number_at has.page.bytes offset size)
loaded_at thread view words state offset size has inside fits =
    let place : address_at offset % 4096 ≡ offset = omega arith in
    number_in_page thread view state (address_at offset) size Read (Scratch thread view) has.page (omega arith) (omega arith)
    (reached thread view words state Read offset has refl inside) has.there
    ∙ ap (λ (n : ℕ). Ok (number_at has.page.bytes n size)) place

pub permitted_at : (thread view : ℕ) (words : Words) (state : State) (offset size : ℕ) → HasScratch thread view words state
    → offset < 4096 → offset + size ≤ 4096
    → store_answer (byte_for (plain_byte thread view state) Write) (address_at offset) size ≡ Ok tt
permitted_at thread view words state offset size has inside fits =
    number_may_be_stored thread view state (address_at offset) size (Scratch thread view) has.page (omega arith) (omega arith)
    (reached thread view words state Write offset has refl inside) has.there

-- ---- stores

pub own_name : (thread view : ℕ) → same_name (Scratch thread view) (Scratch thread view) ≡ true
unfolding same_name
own_name thread view = grind arith

-- the state with other bytes in the scratch page
abbrev pub with_scratch : ℕ → ℕ → State → List ℕ → State
with_scratch thread view state bytes = with_contents state (Scratch thread view) bytes

stored_at : (thread view : ℕ) (words : Words) (state : State) (offset size value : ℕ) → (has : HasScratch thread view words state)
    → offset < 4096 → offset + size ≤ 4096
    → plain_stored thread view state (address_at offset) size value
    ≡ with_scratch thread view state (put_number has.page.bytes offset size value)
unfolding contents
stored_at thread view words state offset size value has inside fits =
    let place : address_at offset % 4096 ≡ offset = omega arith in
    number_stored thread view state (address_at offset) size value (Scratch thread view) has.page (omega arith) (omega arith)
    (reached thread view words state Write offset has refl inside) has.there
    ∙ (ap (λ (n : ℕ). with_scratch thread view state (put_number (bytes_of (find_page state.pages (Scratch thread view))) n
    size value))
    place
    ∙ ap (λ found. with_scratch thread view state (put_number (bytes_of found) offset size value)) has.there)

given_found : (thread view : ℕ) (state : State) (page : Page) (bytes : List ℕ)
    → find_page state.pages (Scratch thread view) ≡ Some page
    → find_page (with_scratch thread view state bytes).pages (Scratch thread view) ≡ Some (record page { bytes = bytes })
unfolding with_contents
given_found thread view state page bytes there =
    found_same state.pages (Scratch thread view) bytes ∙ ap (λ found. option_map (with_bytes bytes) found) there

pub given_other : (thread view : ℕ) (state : State) (bytes : List ℕ) (name : PageName)
    → same_name (Scratch thread view) name ≡ false
    → find_page (with_scratch thread view state bytes).pages name ≡ find_page state.pages name
unfolding with_contents
given_other thread view state bytes name apart = found_other state.pages (Scratch thread view) name bytes apart

pub given_threads : (thread view : ℕ) (state : State) (bytes : List ℕ) → (with_scratch thread view state bytes).threads
    ≡ state.threads
unfolding with_contents
given_threads thread view state bytes = refl

-- with other bytes in it the scratch page holds their words
has_given : (thread view : ℕ) (words new : Words) (state : State) (bytes : List ℕ) → HasScratch thread view words state
    → length bytes ≡ 4096 → AreBytes bytes → words_in bytes ≡ new
    → HasScratch thread view new (with_scratch thread view state bytes)
has_given thread view words new state bytes has size are held = record {
  process = has.process;
  shown = ap (λ threads. process_shown threads thread view) (given_threads thread view state bytes) ∙ has.shown;
  page = record (has.page) { bytes = bytes };
  there = given_found thread view state has.page bytes has.there;
  size = size;
  bytes = are;
  held = held;
}

-- each other scratch page holds what it held
pub has_beside : (thread view number index : ℕ) (words : Words) (state : State) (bytes : List ℕ)
    → same_name (Scratch thread view) (Scratch number index) ≡ false → HasScratch number index words state
    → HasScratch number index words (with_scratch thread view state bytes)
has_beside thread view number index words state bytes apart has = record {
  process = has.process;
  shown = ap (λ threads. process_shown threads number index) (given_threads thread view state bytes) ∙ has.shown;
  page = has.page;
  there = given_other thread view state bytes (Scratch number index) apart ∙ has.there;
  size = has.size;
  bytes = has.bytes;
  held = has.held;
}

scratch_shared : (name : PageName) (thread view : ℕ) → is_shared name ≡ true → same_name (Scratch thread view) name ≡ false
unfolding is_shared
scratch_shared name thread view shared =
    name_other (Scratch thread view) name (λ is.
    let no : false ≡ true = subst (λ n. is_shared n ≡ true) (sym is) shared in cc)

some_given : (bytes : List ℕ) (found : Option Page) → is_some (option_map (with_bytes bytes) found) ≡ is_some found
some_given bytes None = refl
some_given bytes (Some page) = refl

pub there_given : (test : Bool) (thread view number index : ℕ) (state : State) (bytes : List ℕ)
    → same_name (Scratch thread view) (Scratch number index) ≡ test
    → is_there (with_scratch thread view state bytes).pages (Scratch number index)
    ≡ is_there state.pages (Scratch number index)
unfolding with_contents
there_given true thread view number index state bytes is =
    subst (λ n. is_there (with_page_bytes state.pages (Scratch thread view) bytes) n ≡ is_there state.pages n)
    (name_same (Scratch thread view) (Scratch number index) is)
    (ap is_some (found_same state.pages (Scratch thread view) bytes)
    ∙ some_given bytes (find_page state.pages (Scratch thread view)))
there_given false thread view number index state bytes is =
    ap is_some (found_other state.pages (Scratch thread view) (Scratch number index) bytes is)

-- a machine with other bytes in a scratch page is beside the same ones
pub given_beside : (thread view : ℕ) (state other : State) (bytes : List ℕ) → AreBesideScratch state other
    → AreBesideScratch (with_scratch thread view state bytes) other
given_beside thread view state other bytes beside = record {
  shown = λ number index.
      beside.shown number index
      ∙ sym (ap (λ threads. process_shown threads number index) (given_threads thread view state bytes));
  pages = λ name shared.
      beside.pages name shared ∙ sym (given_other thread view state bytes name (scratch_shared name thread view shared));
  scratch = λ number index.
      beside.scratch number index
      ∙ sym (there_given (same_name (Scratch thread view) (Scratch number index)) thread view number index state bytes refl);
}

-- ---- what a store leaves

-- a store to the scratch page gives it other bytes, and so these words
pub record LeavesWords (thread view : ℕ) (words : Words) (state after : State) : Type 0 where
  pub bytes : List ℕ
  pub is : after ≡ with_scratch thread view state bytes
  pub has : HasScratch thread view words (with_scratch thread view state bytes)

pub leaves_words : (thread view : ℕ) (words new : Words) (state : State) (offset size value : ℕ)
    → (has : HasScratch thread view words state) → offset < 4096 → offset + size ≤ 4096
    → words_in (put_number has.page.bytes offset size value) ≡ new
    → LeavesWords thread view new state (plain_stored thread view state (address_at offset) size value)
leaves_words thread view words new state offset size value has inside fits held = record {
  bytes = put_number has.page.bytes offset size value;
  is = stored_at thread view words state offset size value has inside fits;
  has = has_given thread view words new state (put_number has.page.bytes offset size value) has
      (length_put has.page.bytes offset size value ∙ has.size) (put_bytes has.page.bytes offset size value has.bytes) held;
}

-- ---- words

abbrev pub offset_of : ScratchWord → ℕ
offset_of FirstSaved = 0
offset_of SecondSaved = 8
offset_of Third = 16

pub place_is : (which : ScratchWord) → place_of which ≡ address_at (offset_of which)
place_is FirstSaved = refl
place_is SecondSaved = refl
place_is Third = refl

pub word_loaded : (which : ScratchWord) (bytes : List ℕ) → number_at bytes (offset_of which) 8 ≡ word_of which (words_in bytes)
unfolding words_in
word_loaded FirstSaved bytes = refl
word_loaded SecondSaved bytes = refl
word_loaded Third bytes = refl

-- a word that is stored
pub word_put : (which : ScratchWord) (bytes : List ℕ) (value : ℕ) → length bytes ≡ 4096
    → words_in (put_number bytes (offset_of which) 8 value) ≡ with_word which (value % 2 ^ 64) (words_in bytes)
unfolding words_in
word_put FirstSaved bytes value size =
    rw (
      number_read_back bytes 0 8 value (omega arith),
      number_beside bytes 0 8 value 8 8 (inr (omega arith)),
      number_beside bytes 0 8 value 16 8 (inr (omega arith)),
    ) refl
word_put SecondSaved bytes value size =
    rw (
      number_read_back bytes 8 8 value (omega arith),
      number_beside bytes 8 8 value 0 8 (inl (omega arith)),
      number_beside bytes 8 8 value 16 8 (inr (omega arith)),
    ) refl
word_put Third bytes value size =
    rw (
      number_read_back bytes 16 8 value (omega arith),
      number_beside bytes 16 8 value 0 8 (inl (omega arith)),
      number_beside bytes 16 8 value 8 8 (inl (omega arith)),
    ) refl

low_third : (bytes : List ℕ) (value : ℕ) → length bytes ≡ 4096 → AreBytes bytes
    → number_at (put_number bytes 16 4 value) 16 8 ≡ number_at bytes 16 8 / 2 ^ 32 * 2 ^ 32 + value % 2 ^ 32
low_third bytes value size are =
    let new = halves (put_number bytes 16 4 value) in
    let low = number_read_back bytes 16 4 value (omega arith) in
    let high = number_beside bytes 16 4 value 20 4 (inr (omega arith)) in
    let old = halves bytes in
    let below : number_at bytes 16 4 < 256 ^ 4 = number_below bytes 16 4 are in
    omega arith

high_third : (bytes : List ℕ) (value : ℕ) → length bytes ≡ 4096 → AreBytes bytes
    → number_at (put_number bytes 20 4 value) 16 8 ≡ number_at bytes 16 8 % 2 ^ 32 + value % 2 ^ 32 * 2 ^ 32
high_third bytes value size are =
    let new = halves (put_number bytes 20 4 value) in
    let high = number_read_back bytes 20 4 value (omega arith) in
    let low = number_beside bytes 20 4 value 16 4 (inl (omega arith)) in
    let old = halves bytes in
    let below : number_at bytes 16 4 < 256 ^ 4 = number_below bytes 16 4 are in
    omega arith

-- the lower half of the third is stored
pub lower_put : (bytes : List ℕ) (value : ℕ) → length bytes ≡ 4096 → AreBytes bytes
    → words_in (put_number bytes 16 4 value) ≡ with_lower value (words_in bytes)
unfolding words_in
lower_put bytes value size are =
    rw (
      number_beside bytes 16 4 value 0 8 (inl (omega arith)),
      number_beside bytes 16 4 value 8 8 (inl (omega arith)),
      low_third bytes value size are,
    ) refl

-- and the upper half
pub upper_put : (bytes : List ℕ) (value : ℕ) → length bytes ≡ 4096 → AreBytes bytes
    → words_in (put_number bytes 20 4 value) ≡ with_upper value (words_in bytes)
unfolding words_in
upper_put bytes value size are =
    rw (
      number_beside bytes 20 4 value 0 8 (inl (omega arith)),
      number_beside bytes 20 4 value 8 8 (inl (omega arith)),
      high_third bytes value size are,
    ) refl
