-- The plain memory keeps the words of slots, and is beside that of the original code.
use Rattle.std.proofs.Common.{◌≡◌, ◌∙◌, sym, ap, subst, ℕ, ◌+◌, ◌%◌, ◌^◌, ◌≤◌, Bool, true, false, List, refl, arith, Ok}
use Rattle.std.specs.Prelude.{Option, Some, None, is_some}
use Rattle.sb_memory.specs.declared.address.Access.TheVariants.{Read, Write}
use Rattle.sb_pages.specs.declared.page.PageName.{PageName}
use Rattle.sb_pages.specs.declared.page.PageName.TheVariants.{Scratch}
use Rattle.sb_pages.specs.declared.page.Page.{Page}
use Rattle.sb_exec.specs.Access.{store_answer, loaded_from, byte_for, byte_for_write}
use Rattle.sb_pages.specs.PageName.{same_name}
use Rattle.sb_state.proofs.Names.{name_same, name_other}
use Rattle.sb_state.specs.State.{State, find_page, contents, with_contents, bytes_of}
use Rattle.sb_state.specs.Windows.{process_shown}
use Rattle.sb_state.specs.PlainMemory.{plain_byte, plain_stored, plain}
use Rattle.sb_trace.specs.Table.{is_there, is_in_table}
use Rattle.sb_trace.specs.Sound.{IsSound, is_code_name}
use Rattle.sb_original.specs.Words.{ScratchWord, FirstSaved, SecondSaved, Third, Words, HasWords, place_of, word_of, upper_place, with_word, with_lower, with_upper}
use Rattle.sb_original.specs.Beside.{AreBeside}
use Rattle.sb_origin_plain.specs.Memory.{words_in, scratch_words, HasScratch, is_shared, AreBesideScratch, HoldsBeside, IsOutside, same_stop}
use Rattle.sb_origin_plain.specs.Laws.{SameButScratch}
use Rattle.sb_origin_plain.proofs.Seen.{byte_alike, stop_alike}
use Rattle.sb_origin_plain.proofs.Shared.{own_answer, agree_outside, stored_beside, stored_leaves}
use Rattle.sb_origin_plain.proofs.Scratch.{loaded_at, permitted_at, given_other, given_threads, there_given, own_name, LeavesWords, leaves_words, given_beside, offset_of, place_is, word_loaded, word_put, lower_put, upper_put}

-- ---- the words

offset_fits : (which : ScratchWord) → offset_of which + 8 ≤ 4096
offset_fits FirstSaved = omega arith
offset_fits SecondSaved = omega arith
offset_fits Third = omega arith

pub loaded_word : (thread view : ℕ) (which : ScratchWord) (words : Words) (state : State) → HasScratch thread view words state
    → loaded_from (byte_for (plain_byte thread view state) Read) (place_of which) 8 ≡ Ok (word_of which words)
loaded_word thread view which words state has =
    let fits = offset_fits which in
    ap (λ (n : ℕ). loaded_from (byte_for (plain_byte thread view state) Read) n 8) (place_is which)
    ∙ (loaded_at thread view words state (offset_of which) 8 has (omega arith) fits
    ∙ (ap (λ (n : ℕ). Ok n) (word_loaded which has.page.bytes) ∙ ap (λ (w : Words). Ok (word_of which w)) has.held))

pub permitted_word : (thread view : ℕ) (which : ScratchWord) (words : Words) (state : State)
    → HasScratch thread view words state
    → store_answer (byte_for (plain_byte thread view state) Write) (place_of which) 8 ≡ Ok tt
permitted_word thread view which words state has =
    let fits = offset_fits which in
    ap (λ (n : ℕ). store_answer (byte_for (plain_byte thread view state) Write) n 8) (place_is which)
    ∙ permitted_at thread view words state (offset_of which) 8 has (omega arith) fits

-- what a store of a word leaves
pub word_leaves : (thread view : ℕ) (which : ScratchWord) (words : Words) (state : State) (value : ℕ)
    → HasScratch thread view words state
    → LeavesWords thread view (with_word which (value % 2 ^ 64) words) state
    (plain_stored thread view state (place_of which) 8 value)
word_leaves thread view which words state value has =
    let fits = offset_fits which in
    let new = with_word which (value % 2 ^ 64) words in
    subst (λ (n : ℕ). LeavesWords thread view new state (plain_stored thread view state n 8 value)) (sym (place_is which))
    (leaves_words thread view words new state (offset_of which) 8 value has (omega arith) fits
    (word_put which has.page.bytes value has.size ∙ ap (λ (w : Words). with_word which (value % 2 ^ 64) w) has.held))

pub lower_leaves : (thread view : ℕ) (words : Words) (state : State) (value : ℕ) → HasScratch thread view words state
    → LeavesWords thread view (with_lower value words) state (plain_stored thread view state (place_of Third) 4 value)
lower_leaves thread view words state value has =
    leaves_words thread view words (with_lower value words) state 16 4 value has (omega arith) (omega arith)
    (lower_put has.page.bytes value has.size has.bytes ∙ ap (λ (w : Words). with_lower value w) has.held)

pub upper_leaves : (thread view : ℕ) (words : Words) (state : State) (value : ℕ) → HasScratch thread view words state
    → LeavesWords thread view (with_upper value words) state (plain_stored thread view state upper_place 4 value)
upper_leaves thread view words state value has =
    leaves_words thread view words (with_upper value words) state 20 4 value has (omega arith) (omega arith)
    (upper_put has.page.bytes value has.size has.bytes ∙ ap (λ (w : Words). with_upper value w) has.held)

held_after : (thread view : ℕ) (words : Words) (state other after : State) → LeavesWords thread view words state after
    → AreBesideScratch state other → HoldsBeside thread view words after other
held_after thread view words state other after leaves beside =
    subst (λ (s : State). HoldsBeside thread view words s other) (sym leaves.is)
    (leaves.has, given_beside thread view state other leaves.bytes beside)

pub has_words : (thread view : ℕ) → HasWords (plain thread view) (HoldsBeside thread view)
has_words thread view = record {
  loaded = λ which words state other holds. loaded_word thread view which words state holds.0;
  permitted = λ which words state other holds. permitted_word thread view which words state holds.0;
  stored = λ which words state other value holds.
      held_after thread view (with_word which (value % 2 ^ 64) words) state other _
      (word_leaves thread view which words state value holds.0) holds.1;
  lower_permitted = λ words state other holds. permitted_at thread view words state 16 4 holds.0 (omega arith) (omega arith);
  lower_stored = λ words state other value holds.
      held_after thread view (with_lower value words) state other _ (lower_leaves thread view words state value holds.0) holds.1;
  upper_permitted = λ words state other holds. permitted_at thread view words state 20 4 holds.0 (omega arith) (omega arith);
  upper_stored = λ words state other value holds.
      held_after thread view (with_upper value words) state other _ (upper_leaves thread view words state value holds.0) holds.1;
}

-- ---- beside the original memory

pub are_beside : (thread view : ℕ)
    → AreBeside (plain thread view) (plain thread view) (HoldsBeside thread view) IsOutside same_stop
are_beside thread view = record {
  reads = λ words state other address size holds outside.
      agree_outside (byte_for (plain_byte thread view state) Read) (byte_for (plain_byte thread view other) Read)
      (λ at apart. byte_alike state other thread view at Read holds.1 tt apart) address size outside;
  updates = λ words state other address size holds outside.
      agree_outside (byte_for_write (plain_byte thread view state)) (byte_for_write (plain_byte thread view other))
      (λ at apart. rw (
        byte_alike state other thread view at Write holds.1 tt apart,
        byte_alike state other thread view at Read holds.1 tt apart,
      ) refl) address size outside;
  writes = λ words state other address size holds outside.
      agree_outside (byte_for (plain_byte thread view state) Write) (byte_for (plain_byte thread view other) Write)
      (λ at apart. byte_alike state other thread view at Write holds.1 tt apart) address size outside;
  stored = λ words state other address size value holds outside permitted also. (
    stored_leaves thread view thread view words state other address size value holds.1 outside permitted holds.0,
    stored_beside thread view state other address size value holds.1 outside permitted,
  );
  stops = λ words state other address how holds is_data.
      stop_alike state other thread view address how holds.1 is_data ∙ sym (own_answer _);
}

-- ---- sound states

some_there : (found : Option Page) → is_some found ≡ true → (page : Page) × (found ≡ Some page)
some_there (Some page) is = (page, refl)
some_there None is = absurd cc

scratch_there : (state : State) (thread view process : ℕ) → IsSound state → process_shown state.threads thread view ≡ Some process
    → (page : Page) × (find_page state.pages (Scratch thread view) ≡ Some page)
unfolding is_in_table
scratch_there state thread view process sound shows =
    some_there (find_page state.pages (Scratch thread view))
    (sound.table.exactly (Scratch thread view) ∙ ap (λ found. is_some found) shows)

pub sound_scratch : (state : State) (thread view process : ℕ) → IsSound state → process_shown state.threads thread view
    ≡ Some process
    → HasScratch thread view (scratch_words state thread view) state
unfolding contents is_code_name
sound_scratch state thread view process sound shows =
    let page = scratch_there state thread view process sound shows in
    record {
      process = process;
      shown = shows;
      page = page.0;
      there = page.1;
      size = sound.pages.sizes (Scratch thread view) page.0 page.1;
      bytes = sound.pages.bytes (Scratch thread view) page.0 refl page.1;
      held = ap (λ found. words_in (bytes_of found)) (sym page.1);
    }

pub sound_holds : (thread view process : ℕ) (state other : State) → IsSound state
    → process_shown state.threads thread view ≡ Some process → AreBesideScratch state other
    → HoldsBeside thread view (scratch_words state thread view) state other
sound_holds thread view process state other sound shows beside = (sound_scratch state thread view process sound shows, beside)

-- ---- states that differ in one scratch page

not_scratch : (name : PageName) (thread view : ℕ) → is_shared name ≡ true → name ≡ Scratch thread view → ⊥
unfolding is_shared
not_scratch name thread view shared is = let no : false ≡ true = subst (λ n. is_shared n ≡ true) is shared in cc

scratch_by : (test : Bool) (thread view number index : ℕ) (state other : State)
    → same_name (Scratch number index) (Scratch thread view) ≡ test → SameButScratch thread view state other
    → is_there other.pages (Scratch number index) ≡ is_there state.pages (Scratch number index)
scratch_by true thread view number index state other is same =
    subst (λ n. is_there other.pages n ≡ is_there state.pages n)
    (sym (name_same (Scratch number index) (Scratch thread view) is)) same.there
scratch_by false thread view number index state other is same =
    ap is_some (same.pages (Scratch number index) (λ equal.
    let no : true ≡ false =
    sym (ap (λ n. same_name n (Scratch thread view)) equal ∙ own_name thread view) ∙ is in cc))

pub differ_beside : (thread view : ℕ) (state other : State) → SameButScratch thread view state other
    → AreBesideScratch state other
differ_beside thread view state other same = record {
  shown = same.shown;
  pages = λ name shared. same.pages name (λ is. not_scratch name thread view shared is);
  scratch = λ number index.
      scratch_by (same_name (Scratch number index) (Scratch thread view)) thread view number index state other refl same;
}

pub other_bytes : (thread view : ℕ) (state : State) (bytes : List ℕ)
    → SameButScratch thread view state (with_contents state (Scratch thread view) bytes)
other_bytes thread view state bytes = record {
  shown = λ number index. ap (λ threads. process_shown threads number index) (given_threads thread view state bytes);
  pages = λ name apart. given_other thread view state bytes name (name_other (Scratch thread view) name (λ is. apart (sym is)));
  there = there_given true thread view thread view state bytes (own_name thread view);
}
