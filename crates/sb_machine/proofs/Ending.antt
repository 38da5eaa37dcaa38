-- The report of a machine is that of each state for which it stands.
use Rattle.std.proofs.Common.{◌≡◌, ◌∙◌, sym, ap, subst, ℕ, suc, ◌+◌, ◌<◌, ◌≤◌, ◌==◌, false, List, [], ◌∷◌, length, refl, arith, Result, Ok, Err}
use Rattle.std.specs.Prelude.{Option, Some, None, slice_get, unwrap_or, IfOk}
use Rattle.std.proofs.lemmas.List.{length-map}
use Rattle.std.proofs.lemmas.Option.{slice_get_within}
use Rattle.sb_abi.specs.declared.space.TheConstants.{WINDOW_THREADS}
use Rattle.sb_insn.specs.declared.registers.Regs.{Regs}
use Rattle.sb_state.specs.declared.end_kind.EndKind.{EndKind}
use Rattle.sb_state.specs.declared.page.PageName.TheVariants.{Record}
use Rattle.sb_state.specs.declared.state.Binding.{Binding}
use Rattle.sb_state.specs.declared.state.Decision.{Decision}
use Rattle.sb_state.specs.declared.state.Flight.{Flight}
use Rattle.sb_state.specs.declared.state.Thread.{Thread}
use Rattle.sb_state.specs.Windows.{process_now}
use Rattle.sb_tramp.specs.declared.record_words.RecordWords.{RecordWords}
use Rattle.sb_trace.specs.declared.end.EndState.{EndState}
use Rattle.sb_trace.specs.declared.end.ThreadEnd.{ThreadEnd}
use Rattle.sb_trace.specs.End.{thread_end, thread_ends, end_of}
use Rattle.sb_trace.specs.KernelCall.{binding_with, handler_in}
use Rattle.sb_trace.specs.Sound.{IsInFlight}
use Rattle.sb_trace.specs.Start.{record_bytes}
use Rattle.sb_trace.specs.State.{State, find_page, thread_at, flight_at, no_thread, registration_of, registration_at}
use Rattle.sb_trace.specs.SyscallBind.{server_words}
use Rattle.sb_trace.proofs.Threads.{bound_there}
use Rattle.sb_landing.specs.AtPhase.{AtPhase, record_word}
use Rattle.sb_landing.specs.Related.{IsBeside}
use Rattle.sb_landing.proofs.Bound.{HasPages, binding_pages, flight_sound}
use Rattle.sb_landing.proofs.Steps.{record_has}
use Rattle.sb_landing.proofs.Exchange.{not_zero}
use Rattle.sb_landing.proofs.Words as page_words
use Rattle.sb_sub.specs.Kernel.{seat_of, seat_in, shown_in, process_from}
use Rattle.sb_sub.specs.Refusals.{process_in}
use Rattle.sb_sub.proofs.Accepting.{found_same}
use Rattle.sb_sub.proofs.Binding.{seat_is}
use Rattle.sb_machine.specs.declared.processor.Core.{Core}
use Rattle.sb_machine.specs.Machine.{Machine, no_core, core_at, state_at, regs_of}
use Rattle.sb_machine.specs.End.{plain_regs, plain_view, handler_shown, core_end, core_ends, machine_end, decided_regs, decided_view}
use Rattle.sb_machine.specs.StandsFor.{origin_by, IsCoreOf, IsMachineOf}
use Rattle.sb_machine.proofs.Decided.{decided_are, decided_view_is}

-- ---- how many cores there are

pub few_cores : (machine : Machine) → (state : State) × IsMachineOf machine state → length machine.cores ≤ WINDOW_THREADS
few_cores machine some = let few = some.1.sound.few in rw some.1.count few

pub seats_there : (machine : Machine) → (state : State) × IsMachineOf machine state
    → length machine.cores ≤ length machine.kernel.seats
seats_there machine some =
    let seats : length machine.kernel.seats ≡ length some.0.threads =
    sym (ap length some.1.stands.seats) ∙ length-map some.0.threads seat_of in
    let count = some.1.count in
    omega (arith, seats, count)

-- ---- the words of a record page, for a binding of a sound state

module _ (state : State) (number index : ℕ) (binding : Binding) (pages : HasPages state number binding)
    (same : binding.index ≡ index) where
  abbrev words : RecordWords
  words = server_words number (thread_at state number) binding (handler_in (registration_at state binding.server))

  page_there : find_page state.pages (Record number index) ≡ Some pages.words.0
  page_there = ap (λ n. find_page state.pages (Record number n)) (sym same) ∙ pages.words.1

  word_has_base : record_word state number index 8 ≡ 0x4003FF8
  word_has_base =
      record_has state number index 8 pages.words.0 (record_bytes words) page_there pages.words.2
      ∙ page_words.base_in words (omega arith)

  word_has_handler : record_word state number index 0x10 ≡ handler_in (registration_at state binding.server)
  word_has_handler =
      record_has state number index 0x10 pages.words.0 (record_bytes words) page_there pages.words.2
      ∙ page_words.handler_in words pages.handler

-- ---- one thread

-- ends of threads with the same fields are the same
same_end : (home view present : ℕ) (end : EndKind) (regs : Regs) (flight : Option ℕ) (other : ThreadEnd)
    → home ≡ other.home → view ≡ other.view → present ≡ other.present → end ≡ other.state → regs ≡ other.regs
    → flight ≡ other.flight
    → record { home = home; view = view; present = present; state = end; regs = regs; flight = flight } ≡ other
same_end home view present end regs flight other one two three four five six = rw (one, two, three, four, five, six) refl

-- the process that a view shows, by what the kernel keeps of the thread
seat_shows : (thread : Thread) → process_from thread.view (seat_of thread) ≡ process_now thread
seat_shows thread = refl

pub server_from : (thread : Thread) (index : ℕ) (binding : Binding) → (index == 0) ≡ false
    → binding_with thread.bindings index ≡ Some binding → process_from index (seat_of thread) ≡ binding.server
server_from thread index binding away bound = rw (away, bound) refl

module _ (machine : Machine) (state : State) (is : IsMachineOf machine state) (number : ℕ) (there : number < length machine.cores)
  where
    abbrev core : Core
    core = core_at machine number

    abbrev thread : Thread
    thread = thread_at state number

    pub seated : number < length machine.kernel.seats
    seated = let seats = seats_there machine (state, is) in omega (arith, seats, there)

    pub seat_same : seat_in machine.kernel number ≡ seat_of (thread_at state number)
    seat_same = seat_is machine.kernel machine.root machine.book machine.memory state is.stands number seated

    -- the process that a view shows is that of the thread's
    pub shows : (view : ℕ) → shown_in machine.kernel number view ≡ process_from view (seat_of thread)
    shows view = ap (process_from view) seat_same

    -- what the kernel keeps of a server is what it told
    pub told : (process : ℕ) → registration_of (process_in machine.kernel process) ≡ registration_at state process
    unfolding registration_at
    told process =
        ap registration_of (found_same machine.kernel machine.root machine.book machine.memory state is.stands process)

    -- ---- a decided call in flight

    module _ (flight : Flight) (flying : flight_at state number ≡ Some flight) (decided : Decision)
        (is_decided : flight.decided ≡ Some decided) (own : IsCoreOf thread (Some flight) core) where
      flies : IsInFlight (thread_at state number) flight
      flies = flight_sound state number flight is.sound flying

      pages : HasPages state number flies.binding
      pages = binding_pages state number flight.index flies.binding is.sound flies.bound

      named : flies.binding.index ≡ flight.index
      named = (bound_there thread.bindings flight.index flies.binding flies.bound).0

      held : AtPhase state number flight (is.begun number).start (is.begun number).failed (regs_of machine number)
      held = subst (λ found. IsBeside state number found (is.begun number) (regs_of machine number)) flying (is.beside number)

      away : (flight.index == 0) ≡ false
      away =
          let least = pages.least in
          let same = named in
          not_zero flight.index (λ none. omega (arith, least, same, none))

      -- the handler that the kernel keeps is that of the record page
      handler_is : handler_shown machine number (state_at machine number).view ≡ record_word state number flight.index 0x10
      handler_is =
          ap (λ (view : ℕ). handler_shown machine number view) own.view
          ∙ (ap (λ (process : ℕ). handler_in (registration_of (process_in machine.kernel process)))
          (shows flight.index ∙ server_from thread flight.index flies.binding away flies.bound)
          ∙ (ap handler_in (told flies.binding.server)
          ∙ sym (word_has_handler state number flight.index flies.binding pages named)))

      decided_regs_are : decided_regs flight.phase (regs_of machine number)
          (handler_shown machine number (state_at machine number).view) ≡ (thread_at state number).regs
      decided_regs_are =
          ap (λ (handler : ℕ). decided_regs flight.phase (regs_of machine number) handler) handler_is
          ∙ decided_are state number flight decided (is.begun number).start (is.begun number).failed (regs_of machine number)
          is_decided held (word_has_base state number flight.index flies.binding pages named)

      decided_view_are : decided_view flight.phase (state_at machine number).view ≡ (thread_at state number).view
      decided_view_are =
          ap (λ (view : ℕ). decided_view flight.phase view) own.view
          ∙ decided_view_is thread flight decided is_decided flies

    -- ---- its registers and its view

    abbrev handler : ℕ
    handler = handler_shown machine number core.state.view

    flying_regs : (flight : Flight) (decided : Option Decision) → flight.decided ≡ decided → flight_at state number ≡ Some flight
        → IsCoreOf thread (Some flight) core → plain_regs core handler ≡ (thread_at state number).regs
    flying_regs flight None is_decided flying own =
        let origin = own.origin ∙ ap (λ found. origin_by thread found) is_decided in rw origin refl
    flying_regs flight (Some decided) is_decided flying own =
        let origin = own.origin ∙ ap (λ found. origin_by thread found) is_decided in
        let kept = decided_regs_are flight flying decided is_decided own in
        rw (origin, own.phase) kept

    flying_view : (flight : Flight) (decided : Option Decision) → flight.decided ≡ decided → flight_at state number ≡ Some flight
        → IsCoreOf thread (Some flight) core → plain_view core ≡ (thread_at state number).view
    flying_view flight None is_decided flying own =
        let origin = own.origin ∙ ap (λ found. origin_by thread found) is_decided in rw origin refl
    flying_view flight (Some decided) is_decided flying own =
        let origin = own.origin ∙ ap (λ found. origin_by thread found) is_decided in
        let kept = decided_view_are flight flying decided is_decided own in
        rw (origin, own.phase) kept

    regs_by : (found : Option Flight) → flight_at state number ≡ found → IsCoreOf thread found core
        → IsBeside state number found (is.begun number) (regs_of machine number)
        → plain_regs core handler ≡ (thread_at state number).regs
    regs_by None flying own beside = rw (own.origin, own.phase) beside
    regs_by (Some flight) flying own beside = flying_regs flight flight.decided refl flying own

    view_by : (found : Option Flight) → flight_at state number ≡ found → IsCoreOf thread found core
        → plain_view core ≡ (thread_at state number).view
    view_by None flying own = let view = own.view in rw (own.origin, own.phase) view
    view_by (Some flight) flying own = flying_view flight flight.decided refl flying own

    pub regs_same : plain_regs core handler ≡ (thread_at state number).regs
    regs_same = regs_by (flight_at state number) refl (is.cores number) (is.beside number)

    view_same : plain_view core ≡ (thread_at state number).view
    view_same = view_by (flight_at state number) refl (is.cores number)

    -- ---- its end

    core_end_is : core_end machine number core ≡ thread_end (thread_at state number) (flight_at state number)
    core_end_is =
        same_end _ _ _ _ _ _ (thread_end thread (flight_at state number)) (shows 0) view_same
        (ap (λ (view : ℕ). shown_in machine.kernel number view) view_same ∙ (shows thread.view ∙ seat_shows thread))
        (is.cores number).end regs_same (is.cores number).phase

-- ---- all of them

found_core : (machine : Machine) (number : ℕ) (core : Core) → slice_get machine.cores number ≡ Some core
    → core_at machine number ≡ core
unfolding core_at
found_core machine number core found = ap (λ one. unwrap_or one no_core) found

found_thread : (state : State) (number : ℕ) (thread : Thread) → slice_get state.threads number ≡ Some thread
    → thread_at state number ≡ thread
unfolding thread_at
found_thread state number thread found = ap (λ one. unwrap_or one no_thread) found

each_end : (machine : Machine) (state : State) → IsMachineOf machine state → (number : ℕ) (core : Core) (thread : Thread)
    → slice_get machine.cores number ≡ Some core → slice_get state.threads number ≡ Some thread
    → core_end machine number core ≡ thread_end thread (flight_at state number)
each_end machine state is number core thread found same =
    sym (ap (λ (one : Core). core_end machine number one) (found_core machine number core found))
    ∙ (core_end_is machine state is number (slice_get_within machine.cores number core found)
    ∙ ap (λ (one : Thread). thread_end one (flight_at state number)) (found_thread state number thread same))

ends_same : (machine : Machine) (state : State) (first : ℕ) (cores : List Core) (threads : List Thread)
    → length cores ≡ length threads
    → ((n : ℕ) (core : Core) (thread : Thread) → slice_get cores n ≡ Some core → slice_get threads n ≡ Some thread
    → core_end machine (first + n) core ≡ thread_end thread (flight_at state (first + n)))
    → core_ends machine first cores ≡ thread_ends state first threads
ends_same machine state first [] [] size each = refl
ends_same machine state first [] (thread ∷ threads) size each = absurd cc
ends_same machine state first (core ∷ cores) [] size each = absurd cc
ends_same machine state first (core ∷ cores) (thread ∷ threads) size each =
    let here : first + 0 ≡ first = omega arith in
    let head : core_end machine first core ≡ thread_end thread (flight_at state first) =
    subst (λ (number : ℕ). core_end machine number core ≡ thread_end thread (flight_at state number)) here
    (each 0 core thread refl refl) in
    let rest = ends_same machine state (first + 1) cores threads (let sizes = size in omega (arith, sizes))
    (λ n one other found same.
    let behind : first + suc n ≡ first + 1 + n = omega arith in
    subst (λ (number : ℕ). core_end machine number one ≡ thread_end other (flight_at state number)) behind
    (each (suc n) one other found same)) in
    ap (λ (one : ThreadEnd). one ∷ core_ends machine (first + 1) cores) head
    ∙ ap (λ (ends : List ThreadEnd). thread_end thread (flight_at state first) ∷ ends) rest

-- reports with the same fields are the same
same_report : (threads : List ThreadEnd) (free keys : ℕ) (other : EndState) → threads ≡ other.threads → free ≡ other.free
    → keys ≡ other.keys → record { threads = threads; free = free; keys = keys } ≡ other
same_report threads free keys other one two three = rw (one, two, three) refl

-- The report of a machine is that of each state for which it stands.
pub end_is : (machine : Machine) (state : State) → IsMachineOf machine state → machine_end machine ≡ end_of state
end_is machine state is =
    let threads = ends_same machine state 0 machine.cores state.threads is.count
    (λ n core thread found same.
    let number : n ≡ 0 + n = omega arith in
    subst (λ (number : ℕ). core_end machine number core ≡ thread_end thread (flight_at state number)) number
    (each_end machine state is n core thread found same)) in
    same_report _ _ _ (end_of state) threads is.stands.count (ap length is.stands.keys)

-- so what is told of a machine is told of the state
pub end_told : {E : Type 0} (machine : Machine) (result : Result EndState E) → IfOk result (λ end. end ≡ machine_end machine)
    → IfOk result (λ end. (state : State) → IsMachineOf machine state → end ≡ end_of state)
end_told machine (Ok end) is = λ state stands. is ∙ end_is machine state stands
end_told machine (Err error) is = is
