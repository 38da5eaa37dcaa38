-- What a sound state says of a binding: the pages that a landing reads, and the words in them.
use Rattle.std.proofs.Common.{◌≡◌, ◌∙◌, ap, subst, ℕ, ◌^◌, ◌<◌, ◌≤◌, true, false, ◌==◌, refl, arith}
use Rattle.std.specs.Prelude.{Option, Some, None, is_some, slice_get}
use Rattle.sb_state.specs.declared.page.Page.{Page}
use Rattle.sb_state.specs.declared.page.PageName.TheVariants.{Record, Pool}
use Rattle.sb_state.specs.declared.state.Binding.{Binding}
use Rattle.sb_state.specs.declared.state.Flight.{Flight}
use Rattle.sb_state.specs.declared.state.Registration.{Registration}
use Rattle.sb_state.specs.declared.state.Thread.{Thread}
use Rattle.sb_state.proofs.Cases.{some_there}
use Rattle.sb_trace.specs.State.{State, Process, find_page, thread_at, flight_at, process_at, registration_of, registration_at}
use Rattle.sb_trace.specs.KernelCall.{binding_with, handler_in}
use Rattle.sb_trace.specs.Start.{record_bytes}
use Rattle.sb_trace.specs.SyscallBind.{server_words}
use Rattle.sb_trace.specs.Table.{is_in_table}
use Rattle.sb_trace.specs.Sound.{HasPage, words_of_view, IsBindingSound, IsThreadSound, IsInFlight, IsFlightSound, IsSound}
use Rattle.sb_trace.proofs.ProcessFacts.{all_at}
use Rattle.sb_trace.proofs.TableStart.{within}
use Rattle.sb_trace.proofs.Threads.{bound_there}
use Rattle.sb_trace.proofs.ThreadWords.{handler_word}
use Rattle.sb_landing.proofs.Exchange.{not_zero}
use Rattle.sb_landing.proofs.Ground.{thread_there, server_shown}

-- ---- a registered server

process_told : (found : Option Process) (registration : Registration) → registration_of found ≡ Some registration
    → is_some found ≡ true
process_told None registration is = absurd cc
process_told (Some process) registration is = refl

-- its pool page is there
pool_there : (state : State) (server : ℕ) (registration : Registration) → IsSound state
    → registration_at state server ≡ Some registration → (page : Page) × (find_page state.pages (Pool server) ≡ Some page)
unfolding registration_at process_at is_in_table
pool_there state server registration sound is =
    some_there (find_page state.pages (Pool server))
    (sound.table.exactly (Pool server)
    ∙ (within state.processes server ∙ process_told (slice_get state.processes server) registration is))

-- ---- a binding

-- A binding's index and key, the handler of its server, the record page of its view with its words, and its server's pool page.
pub record HasPages (state : State) (number : ℕ) (binding : Binding) : Type 0 where
  pub least : 1 ≤ binding.index
  pub key : binding.key < 2 ^ 64
  pub handler : handler_in (registration_at state binding.server) < 2 ^ 64
  pub words : HasPage state.pages (Record number binding.index)
      (record_bytes (server_words number (thread_at state number) binding (handler_in (registration_at state binding.server))))
  pub pool : (page : Page) × (find_page state.pages (Pool binding.server) ≡ Some page)

-- each binding of a thread of a sound state has its pages
pub binding_pages : (state : State) (number index : ℕ) (binding : Binding) → IsSound state
    → binding_with (thread_at state number).bindings index ≡ Some binding → HasPages state number binding
binding_pages state number index binding sound bound =
    let thread : Thread = thread_at state number in
    let its : IsThreadSound state thread =
    all_at (IsThreadSound state) state.threads number thread sound.threads (thread_there state number index binding bound) in
    let own : IsBindingSound state thread binding = its.each index binding bound in
    let same : binding.index ≡ index = (bound_there thread.bindings index binding bound).0 in
    let found : binding_with thread.bindings binding.index ≡ Some binding =
    ap (λ n. binding_with thread.bindings n) same ∙ bound in
    let least = own.least in
    let away : (binding.index == 0) ≡ false = not_zero binding.index (λ none. omega (arith, least, none)) in
    record {
      least = own.least;
      key = own.key;
      handler = handler_word state binding.server sound.processes;
      words = subst (λ one. HasPage state.pages (Record number binding.index)
          (record_bytes (words_of_view state number thread one))) found
          (sound.records number binding.index binding.server (server_shown state number binding.index binding away found));
      pool = pool_there state binding.server own.registration sound own.registered;
    }

-- ---- a flight

-- a flight of a sound state is sound
pub flight_sound : (state : State) (number : ℕ) (flight : Flight) → IsSound state → flight_at state number ≡ Some flight
    → IsInFlight (thread_at state number) flight
flight_sound state number flight sound at = subst (IsFlightSound (thread_at state number)) at (sound.flights number)
