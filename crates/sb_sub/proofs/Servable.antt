-- A sound state of few threads is servable, and so is a state after register.
use Rattle.std.proofs.Common.{◌≡◌, ◌≢◌, ◌∙◌, sym, ap, subst, ℕ, zero, suc, ◌-◌, ◌*◌, ◌^◌, ◌<◌, ◌≤◌, ◌==◌, Bool, true, false, List, [], ◌∷◌, ◌||◌, nat_lt, length, refl, arith}
use Rattle.std.specs.Prelude.{Option, Some, None, if◌then◌else◌, slice_get, slice_set}
use Rattle.std.proofs.lemmas.Bool.{eqb-true, eqb-false}
use Rattle.std.proofs.lemmas.List.{length-set}
use Rattle.std.proofs.lemmas.Option.{slice_get_within}
use Rattle.std.proofs.Math.Bool.{or-false}
use Rattle.sb_state.specs.declared.page.PageName.{PageName}
use Rattle.sb_state.specs.declared.page.PageName.TheVariants.{Pool, ServerStack}
use Rattle.sb_state.specs.declared.state.Registration.{Registration}
use Rattle.sb_trace.specs.PageWords.{with_word}
use Rattle.sb_trace.specs.State.{State, HasFewThreads, Process, with_contents, process_at, registration_of, registration_at}
use Rattle.sb_trace.specs.Start.{pages_from}
use Rattle.sb_trace.specs.SyscallRegister.{server_stack_page, with_registration, with_server}
use Rattle.sb_trace.specs.SyscallProtect.{heap_count}
use Rattle.sb_trace.specs.Table.{ImagePages, stacks_in, has_view, is_in_table}
use Rattle.sb_trace.specs.Sound.{IsSound}
use Rattle.sb_trace.specs.Changes.{with_first_word}
use Rattle.sb_state.proofs.Start.{each_from}
use Rattle.sb_state.proofs.Threads.{set_other}
use Rattle.sb_trace.proofs.NamedPages.{hold_from, is_below, below_none}
use Rattle.sb_trace.proofs.NameNumbers.{server_stack_place, server_stacks_numbered}
use Rattle.sb_trace.proofs.TableKept.{is_added, Grows, Grown, word_names}
use Rattle.sb_trace.proofs.TablePages.{grown_table}
use Rattle.sb_shows.proofs.Needs as needs
use Rattle.sb_sub.specs.StandsFor.{IsServable}

pub sound_servable : (state : State) → IsSound state → HasFewThreads state → IsServable state
sound_servable state sound few = record {
  table = sound.table;
  heaps = λ process. needs.heap_few state process sound;
  few = few;
  places = sound.places;
}

-- ---- register

pub set_here : {A : Type 0} (list : List A) (index : ℕ) (value : A) → index < length list
    → slice_get (slice_set list index value) index ≡ Some value
set_here [] index value below = absurd (omega (arith, below))
set_here (first ∷ list) zero value below = refl
set_here (first ∷ list) (suc index) value below = set_here list index value (omega arith)

-- a page that is no server stack has no number among them
no_other_stack : (process count : ℕ) (name : PageName) → is_added name ≡ false
    → is_below count (server_stack_place process name) ≡ false
no_other_stack process count (ServerStack other page) is = absurd cc
no_other_stack process count _ is = refl

module _ (state : State) (process handler stacks : ℕ) (one : Process) (found : process_at state process ≡ Some one)
    (unregistered : one.registration ≡ None) where
  abbrev new : State
  new = with_server state process handler stacks

  abbrev server : Process
  server = record one { registration = Some (record { handler = handler; stacks = stacks }) }

  is_found : slice_get state.processes process ≡ Some one
  unfolding process_at
  is_found = found

  processes_now : new.processes ≡ slice_set state.processes process server
  unfolding with_server with_word with_contents process_at
  processes_now = ap
      (λ (p : Option Process). with_registration p state.processes process (record { handler = handler; stacks = stacks })) found

  here : slice_get new.processes process ≡ Some server
  here =
      ap (λ (list : List Process). slice_get list process) processes_now
      ∙ set_here state.processes process server (slice_get_within state.processes process one is_found)

  there : (other : ℕ) → other ≢ process → slice_get new.processes other ≡ slice_get state.processes other
  there other apart =
      ap (λ (list : List Process). slice_get list other) processes_now
      ∙ set_other state.processes process other server apart

  heap_by : (same : Bool) (other : ℕ) → (other == process) ≡ same
      → heap_count (slice_get new.processes other) ≡ heap_count (slice_get state.processes other)
  heap_by true other is =
      subst (λ (n : ℕ). heap_count (slice_get new.processes n) ≡ heap_count (slice_get state.processes n))
      (sym (eqb-true other process is)) (ap heap_count here ∙ sym (ap heap_count is_found))
  heap_by false other is = ap heap_count (there other (eqb-false other process is))

  heap_same : (other : ℕ) → heap_count (process_at new other) ≡ heap_count (process_at state other)
  unfolding process_at
  heap_same other = heap_by (other == process) other refl

  -- the process had no stack
  none_before : (page : ℕ) → nat_lt page (4 * stacks_in (registration_of (slice_get state.processes process))) ≡ false
  none_before page =
      ap (λ (p : Option Process). nat_lt page (4 * stacks_in (registration_of p))) is_found
      ∙ (ap (λ (told : Option Registration). nat_lt page (4 * stacks_in told)) unregistered ∙ below_none page)

  stacks_by : (same : Bool) (other page : ℕ) → (process == other) ≡ same
      → (nat_lt page (4 * stacks_in (registration_of (slice_get state.processes other)))
      || is_below (4 * stacks) (if same then Some page else None))
      ≡ nat_lt page (4 * stacks_in (registration_of (slice_get new.processes other)))
  stacks_by true other page is =
      subst (λ (n : ℕ). (nat_lt page (4 * stacks_in (registration_of (slice_get state.processes n))) || nat_lt page (4 * stacks))
      ≡ nat_lt page (4 * stacks_in (registration_of (slice_get new.processes n)))) (eqb-true process other is)
      (ap (λ (test : Bool). test || nat_lt page (4 * stacks)) (none_before page)
      ∙ ap (λ (p : Option Process). nat_lt page (4 * stacks_in (registration_of p))) (sym here))
  stacks_by false other page is =
      or-false _
      ∙ ap (λ (p : Option Process). nat_lt page (4 * stacks_in (registration_of p)))
      (sym (there other (λ same. eqb-false process other is (sym same))))

  -- the table grows by the stacks
  grows : Grows state new (λ name. is_below (4 * stacks) (server_stack_place process name))
  unfolding is_in_table process_at registration_at with_server with_word with_contents
  grows = record {
    processes = ap length processes_now ∙ length-set state.processes process server;
    threads = refl;
    heaps = heap_same;
    others = no_other_stack process (4 * stacks);
    stacks = λ images other page. stacks_by (process == other) other page refl;
    buffers = λ images thread view page. or-false _;
    records = λ thread view. or-false (has_view state thread view);
    scratches = λ thread view. or-false (has_view state thread view);
  }

  no_stack_before : (images : ℕ → ImagePages) (page : ℕ) → is_in_table images state (ServerStack process page) ≡ false
  unfolding is_in_table process_at registration_at
  no_stack_before images page = none_before page

  grown : Grown state new (with_first_word state (Pool process) (2 ^ stacks - 1))
      (pages_from (server_stack_page process) 0 (4 * stacks))
  unfolding with_server with_word with_contents
  grown = record {
    pages = refl;
    names = word_names state (Pool process) (2 ^ stacks - 1);
    added = λ name. is_below (4 * stacks) (server_stack_place process name);
    grows = grows;
    held = hold_from (server_stack_page process) (server_stack_place process) (4 * stacks) (server_stacks_numbered process);
    fresh = λ images. each_from (λ page. is_in_table images state page.name ≡ false) (server_stack_page process) 0 (4 * stacks)
        (no_stack_before images);
  }

  -- the state with the server is servable, with the same images
  pub server_servable : (servable : IsServable state)
      → (after : IsServable (with_server state process handler stacks)) × (after.table.images ≡ servable.table.images)
  unfolding with_server with_word with_contents
  server_servable servable =
      let grown_now = grown_table state new (with_first_word state (Pool process) (2 ^ stacks - 1))
      (pages_from (server_stack_page process) 0 (4 * stacks)) grown servable.table in (
        record {
          table = grown_now.0;
          heaps = λ other. subst (λ (n : ℕ). n ≤ 512) (sym (heap_same other)) (servable.heaps other);
          few = servable.few;
          places = servable.places;
        },
        grown_now.1,
      )
