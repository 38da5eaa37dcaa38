-- Each thread in flight has the registers of its phase, by the words that its core loads.
use Rattle.std.proofs.Common.{◌≡◌, ◌∙◌, sym, ap, subst, ℕ, ◌+◌, ◌<◌, ◌==◌, Bool, false, length, refl, arith, Result, Ok}
use Rattle.std.proofs.Math.Path.{fun_ext}
use Rattle.std.specs.Prelude.{Option, Some, None}
use Rattle.std.specs.Option.{option_map}
use Rattle.std.proofs.lemmas.Option.{slice_get_within}
use Rattle.sb_abi.specs.declared.space.TheConstants.{FIRST_STACK_TOP}
use Rattle.sb_abi.specs.declared.trampoline.TheConstants.{RECORD_ADDRESS}
use Rattle.sb_memory.specs.declared.address.Access.TheVariants.{Read}
use Rattle.sb_insn.specs.declared.registers.Regs.{Regs}
use Rattle.sb_bus.specs.declared.stop.BusStop.{BusStop}
use Rattle.sb_bus.specs.Access.{byte_for, loaded_from}
use Rattle.sb_nested.specs.View.{view_byte}
use Rattle.sb_state.proofs.Cases.{same_some}
use Rattle.sb_state.proofs.Threads.{flight_there}
use Rattle.sb_state.specs.PlainMemory.{plain_byte}
use Rattle.sb_state.specs.declared.page.Mode.TheVariants as mode
use Rattle.sb_state.specs.declared.page.PageName.TheVariants.{Record}
use Rattle.sb_state.specs.declared.state.Binding.{Binding}
use Rattle.sb_state.specs.declared.state.Decision.{Decision}
use Rattle.sb_state.specs.declared.state.Flight.{Flight}
use Rattle.sb_state.specs.declared.state.Thread.{Thread}
use Rattle.sb_tramp.specs.declared.record_words.RecordWords.{RecordWords}
use Rattle.sb_trace.specs.End.{phase_of}
use Rattle.sb_trace.specs.KernelCall.{binding_with, handler_in}
use Rattle.sb_trace.specs.Sound.{IsInFlight, IsThreadOfFlight}
use Rattle.sb_trace.specs.Start.{record_bytes}
use Rattle.sb_trace.specs.State.{State, find_page, thread_at, flight_at, registration_at, registration_of}
use Rattle.sb_trace.specs.SyscallBind.{server_words}
use Rattle.sb_trace.specs.Windows.{page_for}
use Rattle.sb_trace.proofs.Threads.{bound_there}
use Rattle.sb_landing.specs.AtPhase.{AtPhase, AtPhaseBy, kept_regs, landing_in, record_word}
use Rattle.sb_landing.specs.Related.{IsBeside}
use Rattle.sb_landing.proofs.Bound.{HasPages, binding_pages, flight_sound}
use Rattle.sb_landing.proofs.Exchange.{not_zero}
use Rattle.sb_landing.proofs.Ground.{server_shown}
use Rattle.sb_landing.proofs.Loads.{record_seen, key_loaded, base_loaded, handler_loaded}
use Rattle.sb_landing.proofs.Steps.{at_row, record_has}
use Rattle.sb_landing.proofs.Words as page_words
use Rattle.sb_shows.specs.Shows.{IsEntryFor, IsView, index_of, present_index}
use Rattle.sb_sub.specs.Kernel.{Seat, seat_in}
use Rattle.sb_sub.specs.Refusals.{process_in}
use Rattle.sb_shows.proofs.Bytes.{bytes_same}
use Rattle.sb_machine.specs.declared.processor.Core.{Core}
use Rattle.sb_machine.specs.Landing.{LoadsWord, KeepsStart, IsStart, flight_in, handler_now, HasLandingRegisters, HaveLandingRegisters}
use Rattle.sb_machine.specs.End.{handler_shown, plain_regs}
use Rattle.sb_machine.specs.Translations.{IsPointer, list_word}
use Rattle.sb_machine.specs.Machine.{Machine, core_at, state_at, regs_of, view_at}
use Rattle.sb_machine.specs.Phase.{phase_at}
use Rattle.sb_machine.specs.StandsFor.{IsCoreOf, IsMachineOf, origin_by}
use Rattle.sb_machine.proofs.Ending.{regs_same, seat_same, server_from, shows, told}
use Rattle.sb_machine.proofs.Phases.{phase_read}
use Rattle.sb_machine.proofs.Present.{own_shown, thread_is, thread_sound}
use Rattle.sb_machine.proofs.Seeing.{sees, small}
use Rattle.sb_machine.proofs.Shown.{machines_show}

module _ (machine : Machine) (state : State) (is : IsMachineOf machine state) (number : ℕ)
    (flight : Flight) (flying : flight_at state number ≡ Some flight) where
  abbrev core : Core
  core = core_at machine number

  abbrev thread : Thread
  thread = thread_at state number

  there : number < length machine.cores
  there =
      let inside = slice_get_within state.flights number (Some flight) (flight_there state number flight flying) in
      let places = is.sound.places in
      let count = is.count in
      omega (arith, inside, places, count)

  flies : IsInFlight thread flight
  flies = flight_sound state number flight is.sound flying

  own : IsCoreOf thread (Some flight) core
  own = subst (λ found. IsCoreOf thread found core) flying (is.cores number)

  held : AtPhase state number flight (is.begun number).start (is.begun number).failed (regs_of machine number)
  held = subst (λ found. IsBeside state number found (is.begun number) (regs_of machine number)) flying (is.beside number)

  -- ---- the words of the record page

  abbrev binding : Binding
  binding = flies.binding

  pages : HasPages state number binding
  pages = binding_pages state number flight.index binding is.sound flies.bound

  named : binding.index ≡ flight.index
  named = (bound_there thread.bindings flight.index binding flies.bound).0

  away : (flight.index == 0) ≡ false
  away =
      let least = pages.least in
      let same = named in
      not_zero flight.index (λ none. omega (arith, least, same, none))

  abbrev words : RecordWords
  words = server_words number thread binding (handler_in (registration_at state binding.server))

  page_there : find_page state.pages (Record number flight.index) ≡ Some pages.words.0
  page_there = ap (λ n. find_page state.pages (Record number n)) (sym named) ∙ pages.words.1

  key_is : record_word state number flight.index 0 ≡ binding.key
  key_is =
      record_has state number flight.index 0 pages.words.0 (record_bytes words) page_there pages.words.2
      ∙ page_words.key_in words pages.key

  top_is : record_word state number flight.index 8 ≡ FIRST_STACK_TOP
  top_is =
      record_has state number flight.index 8 pages.words.0 (record_bytes words) page_there pages.words.2
      ∙ page_words.base_in words (omega arith)

  -- ---- what the core loads

  abbrev plain_bytes : ℕ → Result ℕ BusStop
  plain_bytes = byte_for (plain_byte number flight.index state) Read

  index_is : present_index state number ≡ flight.index
  index_is = ap (λ found. index_of found thread.view) flying

  bytes_are : byte_for (view_byte (view_at machine number)) Read ≡ plain_bytes
  bytes_are =
      fun_ext (λ (address : ℕ).
      bytes_same is.stands.placement number (present_index state number) state (view_at machine number)
      (sees machine state is number there) address Read
      ∙ ap (λ (index : ℕ). plain_byte number index state address Read) index_is)

  loads : (address word : ℕ) → loaded_from plain_bytes address 8 ≡ Ok word → LoadsWord machine number address word
  loads address word gives = ap (λ bytes. loaded_from bytes address 8) bytes_are ∙ gives

  abbrev word_of : ℕ → ℕ
  word_of place = record_word state number flight.index place

  seen : page_for state number flight.index 0x70002 ≡ Some (record { name = Record number flight.index; mode = mode.Read })
  seen =
      record_seen state number flight.index binding.server pages.words.0
      (server_shown state number flight.index binding away flies.bound) page_there

  loads_key : LoadsWord machine number RECORD_ADDRESS (word_of 0)
  loads_key = loads 0x70002000 (word_of 0) (key_loaded state number flight.index seen)

  loads_top : LoadsWord machine number (RECORD_ADDRESS + 8) (word_of 8)
  loads_top = loads 0x70002008 (word_of 8) (base_loaded state number flight.index seen)

  loads_handler : LoadsWord machine number (RECORD_ADDRESS + 0x10) (word_of 0x10)
  loads_handler = loads 0x70002010 (word_of 0x10) (handler_loaded state number flight.index seen)

  -- the key is that of the binding, and the handler that which the Subkernel keeps
  loads_binding : LoadsWord machine number RECORD_ADDRESS binding.key
  loads_binding = subst (LoadsWord machine number RECORD_ADDRESS) key_is loads_key

  handler_is : word_of 0x10 ≡ handler_now machine number
  handler_is =
      record_has state number flight.index 0x10 pages.words.0 (record_bytes words) page_there pages.words.2
      ∙ (page_words.handler_in words pages.handler
      ∙ sym (ap (handler_shown machine number) own.view
      ∙ (ap (λ (process : ℕ). handler_in (registration_of (process_in machine.kernel process)))
      (shows machine state is number there flight.index ∙ server_from thread flight.index binding away flies.bound)
      ∙ ap handler_in (told machine state is number there binding.server))))

  bound_is : binding_with (seat_in machine.kernel number).bindings (state_at machine number).view ≡ Some binding
  bound_is =
      ap (λ (seat : Seat). binding_with seat.bindings (state_at machine number).view)
      (seat_same machine state is number there)
      ∙ (ap (binding_with thread.bindings) own.view ∙ flies.bound)

  -- ---- the registers at the VMFUNC

  own_view : IsView state number thread.view
  own_view =
      let view = is.sound.views number in
      (view.0, own_shown state number view.0 (thread_is state number (small machine state is number there)) view.1)

  from : IsPointer machine number thread.view
  from =
      let few = (is.stands.keeps.leads.views number thread.view own_view.0 own_view.1).few in
      let below : thread.view < 512 = omega (arith, few) in
      record {
        core_is = there;
        index_is = below;
        pointer = subst (λ found. IsEntryFor found (list_word machine number thread.view)) own_view.1
            ((machines_show machine state is).entries number thread.view (small machine state is number there) below);
      }

  kept_by : (start : Regs) → thread.regs ≡ start → flight.decided ≡ None
      → KeepsStart machine number flight.phase binding.key start
  kept_by start same none =
      let stage = subst (λ found. IsThreadOfFlight found thread flight binding) none flies.stage in
      let small_rip = (thread_sound state number is.sound (small machine state is number there)).words.rip in
      let address = stage.0.address in
      let rip : thread.regs.rip ≡ 0x70000040 = omega (arith, address, small_rip) in
      subst (KeepsStart machine number flight.phase binding.key) same (record {
        view = thread.view;
        origin = own.origin ∙ ap (origin_by thread) none;
        from = from;
        address = rip;
        leaf = stage.0.leaf;
        index = stage.0.names ∙ sym own.view;
        fits = stage.1;
      })

  start_by : (decided : Option Decision) (start : Regs) → flight.decided ≡ decided
      → (decided ≡ None → thread.regs ≡ start) → IsStart decided machine number flight.phase binding.key start
  start_by None start is_it same = kept_by start (same refl) is_it
  start_by (Some decided) start is_it same = own.origin ∙ ap (origin_by thread) is_it

  -- ---- all of it

  stands_by : phase_at (regs_of machine number).rip ≡ Some flight.phase
  stands_by =
      ap phase_at (at_row state number flight (is.begun number).start (is.begun number).failed (regs_of machine number) held)
      ∙ phase_read thread flight flies

  in_view : flight ≡ flight_in (state_at machine number).view flight.phase flight.mask flight.decided
  in_view = ap (λ (index : ℕ). record flight { index = index }) (sym own.view)

  at_by : (key top handler : ℕ) (kept : Regs) (one : Flight) → word_of 0 ≡ key → word_of 8 ≡ top → word_of 0x10 ≡ handler
      → thread.regs ≡ kept → flight ≡ one
      → AtPhaseBy key top handler kept one (is.begun number).start (is.begun number).failed (regs_of machine number)
  at_by key top handler kept one first second third fourth fifth =
      let start : Regs = (is.begun number).start in
      let failed : Bool = (is.begun number).failed in
      let real : Regs = regs_of machine number in
      subst (λ (n : ℕ). AtPhaseBy n top handler kept one start failed real) first
      (subst (λ (n : ℕ). AtPhaseBy (word_of 0) n handler kept one start failed real) second
      (subst (λ (n : ℕ). AtPhaseBy (word_of 0) (word_of 8) n kept one start failed real) third
      (subst (λ (regs : Regs). AtPhaseBy (word_of 0) (word_of 8) (word_of 0x10) regs one start failed real) fourth
      (subst (λ (one : Flight). AtPhaseBy (word_of 0) (word_of 8) (word_of 0x10) thread.regs one start failed real) fifth
      held))))

  has_registers : HasLandingRegisters machine number flight.phase
  has_registers = record {
    stands = stands_by;
    binding = binding;
    bound = bound_is;
    loads_key = loads_binding;
    loads_top = subst (LoadsWord machine number (RECORD_ADDRESS + 8)) top_is loads_top;
    loads_handler = subst (LoadsWord machine number (RECORD_ADDRESS + 0x10)) handler_is loads_handler;
    decided = flight.decided;
    start = (is.begun number).start;
    is_start = start_by flight.decided (is.begun number).start refl (λ none.
        held.plain
        ∙ ap (kept_regs (landing_in state number flight.index flight.mask (is.begun number).start held.left)) none);
    mask = flight.mask;
    word = flies.word;
    chosen = flies.mask;
    failed = (is.begun number).failed;
    at = at_by binding.key FIRST_STACK_TOP (handler_now machine number)
        (plain_regs (core_at machine number) (handler_now machine number))
        (flight_in (state_at machine number).view flight.phase flight.mask flight.decided) key_is top_is handler_is
        (sym (regs_same machine state is number there)) in_view;
  }

registers_by : (machine : Machine) (state : State) (is : IsMachineOf machine state) (number phase : ℕ) (found : Option Flight)
    → flight_at state number ≡ found → option_map phase_of found ≡ Some phase → HasLandingRegisters machine number phase
registers_by machine state is number phase None flying at = absurd cc
registers_by machine state is number phase (Some flight) flying at =
    subst (HasLandingRegisters machine number) (same_some flight.phase phase at)
    (has_registers machine state is number flight flying)

-- each thread in flight of a machine that stands for a state has the registers of its phase
pub have_registers : (machine : Machine) (state : State) → IsMachineOf machine state → HaveLandingRegisters machine
have_registers machine state is number phase at =
    registers_by machine state is number phase (flight_at state number) refl (sym (is.cores number).phase ∙ at)
