-- Several threads on plain memory.
use Rattle.std.proofs.Common.{◌≡◌, ◌∙◌, ◌⊎◌, sym, ap, subst, inl, inr, ℕ, zero, suc, ◌%◌, ◌^◌, ◌<◌, List, [], ◌∷◌, length, refl, arith}
use Rattle.std.specs.Prelude.{Some, slice_get, unwrap_or}
use Rattle.std.specs.Option.{option_and_then}
use Rattle.std.proofs.lemmas.Bool.{cases_eq}
use Rattle.sb_memory.specs.declared.address.Access.TheVariants.{Read, Write}
use Rattle.sb_pages.specs.declared.page.PageName.TheVariants.{Scratch}
use Rattle.sb_exec.specs.Access.{byte_for, byte_for_write}
use Rattle.sb_state.specs.declared.state.Thread.{Thread}
use Rattle.sb_state.specs.State.{State, thread_at, no_thread}
use Rattle.sb_state.specs.Windows.{process_of_view, process_shown}
use Rattle.sb_state.specs.PlainMemory.{plain_byte, plain}
use Rattle.sb_state.proofs.Names.{name_other}
use Rattle.sb_original.specs.Words.{Words, with_word, with_lower, with_upper}
use Rattle.sb_origin_run.specs.Many.{with_at, WithWords, HoldsOf}
use Rattle.sb_origin_run.proofs.Many.{at_same, at_other, threads_alike}
use Rattle.sb_origin_run.proofs.Steps.{open_at}
use Rattle.sb_origin_run.proofs.Registers.{threads_straight}
use Rattle.sb_origin_plain.proofs.Bytes.{keeps_bytes}
use Rattle.sb_origin_run.proofs.Text.{made_stands}
use Rattle.sb_origin_plain.specs.Memory.{HasScratch, AreBesideScratch, HoldAllBeside, HaveBytes, IsOutside, same_stop}
use Rattle.sb_origin_plain.specs.Laws.{IsBelow, PlainHaveWords, PlainAllBeside, views_of, words_of, SoundHoldsAll, SoundThreadsRelated, PlainThreadsRun}
use Rattle.sb_origin_plain.proofs.Seen.{byte_alike, stop_alike}
use Rattle.sb_origin_plain.proofs.Shared.{own_answer, agree_outside, stored_beside, stored_leaves}
use Rattle.sb_origin_plain.proofs.Scratch.{permitted_at, has_beside, LeavesWords, given_beside}
use Rattle.sb_origin_plain.proofs.Plain.{loaded_word, permitted_word, word_leaves, lower_leaves, upper_leaves, sound_scratch}

-- ---- one of them

-- the words of one thread, among those of all
abbrev HoldsAll : ℕ → (ℕ → ℕ) → ℕ → Words → State → WithWords State → Type 0
HoldsAll count views number words state other = HoldsOf (HoldAllBeside count views) number words state other

own_scratch : (count : ℕ) (views : ℕ → ℕ) (number : ℕ) (words : Words) (state : State) (other : WithWords State)
    → number < count → HoldsAll count views number words state other → HasScratch number (views number) words state
own_scratch count views number words state other below (has, beside) =
    subst (λ (w : Words). HasScratch number (views number) w state) (at_same number words other.1) (has number below)

other_scratch : (thread view number index : ℕ) (words : Words) (state after : State) (new : Words) → (number ≡ thread → ⊥)
    → LeavesWords thread view new state after → HasScratch number index words state → HasScratch number index words after
other_scratch thread view number index words state after new apart leaves has =
    subst (λ (s : State). HasScratch number index words s) (sym leaves.is)
    (has_beside thread view number index words state leaves.bytes
    (name_other (Scratch thread view) (Scratch number index) (λ same. apart (let equal : thread ≡ number = cc in sym equal))) has)

-- after a store to the scratch page of a thread it holds its new words, and the others hold what they held
all_after : (count : ℕ) (views : ℕ → ℕ) (number : ℕ) (words new : Words) (state after : State) (other : WithWords State)
    → LeavesWords number (views number) new state after → HoldsAll count views number words state other
    → HoldsAll count views number new after other
all_after count views number words new state after other leaves (has, beside) = (
  λ one below. by_number one below (cases_eq one number),
  subst (λ (s : State). AreBesideScratch s other.0) (sym leaves.is)
      (given_beside number (views number) state other.0 leaves.bytes beside),
)
  where
    by_number : (one : ℕ) → one < count → (one ≡ number) ⊎ (one ≡ number → ⊥)
        → HasScratch one (views one) (with_at number new other.1 one) after
    by_number one below (inl same) =
        subst (λ (n : ℕ). HasScratch n (views n) (with_at number new other.1 n) after) (sym same)
        (subst (λ (w : Words). HasScratch number (views number) w after) (sym (at_same number new other.1))
        (subst (λ (s : State). HasScratch number (views number) new s) (sym leaves.is) leaves.has))
    by_number one below (inr apart) =
        subst (λ (w : Words). HasScratch one (views one) w after) (sym (at_other number new other.1 one apart))
        (other_scratch number (views number) one (views one) (other.1 one) state after new apart leaves
        (subst (λ (w : Words). HasScratch one (views one) w state) (at_other number words other.1 one apart) (has one below)))

pub have_words : PlainHaveWords
have_words count views number below = record {
  loaded = λ which words state other holds.
      loaded_word number (views number) which words state (own_scratch count views number words state other below holds);
  permitted = λ which words state other holds.
      permitted_word number (views number) which words state (own_scratch count views number words state other below holds);
  stored = λ which words state other value holds.
      all_after count views number words (with_word which (value % 2 ^ 64) words) state _ other
      (word_leaves number (views number) which words state value (own_scratch count views number words state other below holds))
      holds;
  lower_permitted = λ words state other holds.
      permitted_at number (views number) words state 16 4 (own_scratch count views number words state other below holds)
      (omega arith) (omega arith);
  lower_stored = λ words state other value holds.
      all_after count views number words (with_lower value words) state _ other
      (lower_leaves number (views number) words state value (own_scratch count views number words state other below holds)) holds;
  upper_permitted = λ words state other holds.
      permitted_at number (views number) words state 20 4 (own_scratch count views number words state other below holds)
      (omega arith) (omega arith);
  upper_stored = λ words state other value holds.
      all_after count views number words (with_upper value words) state _ other
      (upper_leaves number (views number) words state value (own_scratch count views number words state other below holds)) holds;
}

pub all_beside : PlainAllBeside
all_beside count views number below =
    let view = views number in
    record {
      reads = λ words state other address size holds outside.
          agree_outside (byte_for (plain_byte number view state) Read) (byte_for (plain_byte number view other.0) Read)
          (λ at apart. byte_alike state other.0 number view at Read holds.1 tt apart) address size outside;
      updates = λ words state other address size holds outside.
          agree_outside (byte_for_write (plain_byte number view state)) (byte_for_write (plain_byte number view other.0))
          (λ at apart. rw (
            byte_alike state other.0 number view at Write holds.1 tt apart,
            byte_alike state other.0 number view at Read holds.1 tt apart,
          ) refl) address size outside;
      writes = λ words state other address size holds outside.
          agree_outside (byte_for (plain_byte number view state) Write) (byte_for (plain_byte number view other.0) Write)
          (λ at apart. byte_alike state other.0 number view at Write holds.1 tt apart) address size outside;
      stored = λ words state other address size value holds outside permitted also. (
        λ one below.
            stored_leaves number view one (views one)
            (with_at number words other.1 one) state other.0 address size value holds.1
            outside permitted (holds.0 one below),
        stored_beside number view state other.0 address size value holds.1 outside permitted,
      );
      stops = λ words state other address how holds is_data.
          stop_alike state other.0 number view address how holds.1 is_data ∙ sym (own_answer _);
    }

-- ---- sound states

thread_in : (threads : List Thread) (number : ℕ) → number < length threads
    → slice_get threads number ≡ Some (unwrap_or (slice_get threads number) no_thread)
thread_in [] number below = absurd (omega (arith, below))
thread_in (thread ∷ threads) zero below = refl
thread_in (thread ∷ threads) (suc number) below = thread_in threads number (omega arith)

shown_now : (state : State) (number process : ℕ) → number < length state.threads
    → process_of_view (views_of state number) (thread_at state number) ≡ Some process
    → process_shown state.threads number (views_of state number) ≡ Some process
unfolding process_shown thread_at
shown_now state number process below is =
    ap (λ found. option_and_then (process_of_view (views_of state number)) found) (thread_in state.threads number below) ∙ is

pub sound_holds_all : SoundHoldsAll
sound_holds_all state other sound beside = (
  λ number below.
      let view = sound.views number in
      sound_scratch state number (views_of state number) view.0 sound (shown_now state number view.0 below view.1),
  beside,
)

pub sound_threads : SoundThreadsRelated
sound_threads state other places sound beside opens = record {
  words = words_of state;
  holds = sound_holds_all state other sound beside;
  at = λ number below.
      open_at (plain number (views_of state number)) (HoldsOf (HoldAllBeside (length state.threads) (views_of state)) number)
      (places number (thread_at state number).regs.rip)
      (record { regs = (thread_at state number).regs; words = words_of state number }) (thread_at state number).regs
      (opens number below) refl;
}

pub plain_threads : PlainThreadsRun
plain_threads count views targets sources places made instructions schedule left right are related of stays =
    threads_alike (IsBelow count) (λ number. plain number (views number)) (λ number. plain number (views number))
    (HoldAllBeside count views) (λ number. IsOutside) same_stop targets sources places (all_beside count views)
    (λ number below.
    made_stands (plain number (views number)) (HoldsOf (HoldAllBeside count views) number) (targets number) (sources number)
    (places number) (have_words count views number below) (made number below)) schedule left right are related
    (threads_straight (IsBelow count) (λ number. plain number (views number)) (HoldAllBeside count views) (λ number. IsOutside)
    HaveBytes targets sources places (λ number below. keeps_bytes number (views number)) instructions schedule left are of stays)
