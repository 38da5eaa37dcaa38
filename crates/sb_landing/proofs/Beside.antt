-- All threads beside the plain machine, over a step of one in flight.
use Rattle.std.proofs.Common.{◌≡◌, ◌≢◌, ◌∙◌, sym, ap, subst, ℕ, Bool, true, false, ◌==◌, get_or, refl}
use Rattle.std.specs.Prelude.{Option, Some, None, if◌then◌else◌}
use Rattle.std.proofs.lemmas.Bool.Decides.{Decides-eqb}
use Rattle.sb_insn.specs.declared.registers.Regs.{Regs}
use Rattle.sb_tramp.specs.Landing.{EachPhaseStands}
use Rattle.sb_state.specs.declared.end_kind.EndKind.{EndKind}
use Rattle.sb_state.specs.declared.end_kind.EndKind.TheVariants.{Running}
use Rattle.sb_trace.specs.declared.event.Event.{Event}
use Rattle.sb_state.specs.declared.page.Page.{Page}
use Rattle.sb_state.specs.declared.page.PageName.TheVariants.{Record}
use Rattle.sb_state.specs.declared.state.Flight.{Flight}
use Rattle.sb_trace.specs.State.{State, contents, find_page, thread_at, flight_at, with_flight}
use Rattle.sb_trace.specs.Home.{Outcome}
use Rattle.sb_trace.specs.Flight.{first_flight, landing_step}
use Rattle.sb_trace.specs.Step.{GoesOn, StepsBy, Steps}
use Rattle.sb_trace.specs.Sound.{IsSound}
use Rattle.sb_trace.proofs.Steps.{steps_change}
use Rattle.sb_trace.proofs.Threads.{bound_there, thread_other, flight_other}
use Rattle.sb_landing.specs.Rows.{address_of}
use Rattle.sb_landing.specs.Stages.{Landing, stage, begun as begun_moved}
use Rattle.sb_exec.specs.Words.{AreWords}
use Rattle.sb_landing.specs.AtPhase.{AtPhase, first_left, landing_in}
use Rattle.sb_landing.specs.Lands.{Arrives, LandsBeside, Lands, phase_execution, behind}
use Rattle.sb_landing.specs.Related.{Begun, IsBeside, AreBeside}
use Rattle.sb_landing.specs.Laws.{FlightsBegin, OthersStay, begun_behind, StepsBeside, StepsStayBeside}
use Rattle.sb_landing.proofs.Walk.{flight_placed}
use Rattle.sb_landing.proofs.Ends.{sixteen, listed}
use Rattle.sb_landing.proofs.Bound.{binding_pages, flight_sound}
use Rattle.sb_landing.proofs.Steps.{step_lands}
use Rattle.sb_landing.proofs.Others.{others_leave}

-- ---- a flight begins

listed_same : (start : Regs) → AreWords start
    → record start { rip = address_of 0 } ≡ record {
      general = listed (λ index. get_or start.general index 0) 0 16;
      rip = address_of 0;
      flags = start.flags;
    }
listed_same start words =
    ap (λ general. record { general = general; rip = address_of 0; flags = start.flags }) (sixteen start.general words.sixteen)

phase_begins : (state : State) (number index : ℕ) → AreWords (thread_at state number).regs
    → AtPhase (with_flight state number (Some (first_flight index))) number (first_flight index)
    (thread_at state number).regs false
    (record ((thread_at state number).regs) { rip = address_of 0 })
unfolding with_flight thread_at contents listed
phase_begins state number index words =
    let start : Regs = (thread_at state number).regs in
    let landing : Landing = landing_in state number index 0 start (first_left start) in
    record {
      words = words;
      left = first_left start;
      leaves = refl;
      wrong = tt;
      early = λ is. absurd cc;
      still = refl;
      place = 0;
      stage = stage 0 (record (begun_moved landing) { flags = start.flags });
      among = refl;
      phase = refl;
      registers = listed_same start words;
      plain = refl;
    }

pub flights_begin : FlightsBegin
flights_begin state number index words = record {
  phase = phase_begins state number index words;
  flight = λ below. flight_placed state number (Some (first_flight index)) below;
}

-- ---- the other threads

record_page : (state : State) (number : ℕ) (flight : Flight) → IsSound state → flight_at state number ≡ Some flight
    → (page : Page) × (find_page state.pages (Record number flight.index) ≡ Some page)
record_page state number flight sound at =
    let own = flight_sound state number flight sound at in
    let its = binding_pages state number flight.index own.binding sound own.bound in
    let same = (bound_there (thread_at state number).bindings flight.index own.binding own.bound).0 in
    (its.words.0, ap (λ n. find_page state.pages (Record number n)) (sym same) ∙ its.words.1)

stays_by : (found : Option Flight) (old : State) (core : ℕ) (event : Event) (new : State) (number : ℕ) (begun : Begun)
    (real : Regs)
    → flight_at old number ≡ found → IsSound old
    → Steps old core event new → number ≢ core → IsBeside old number found begun real → IsBeside new number found begun real
stays_by None old core event new number begun real at sound steps apart is =
    let only = (steps_change old core event new steps).thread in
    is ∙ sym (ap (λ thread. thread.regs) (thread_other old core new number only apart))
stays_by (Some flight) old core event new number begun real at sound steps apart holds =
    let page = record_page old number flight sound at in
    others_leave old core event new number flight begun.start begun.failed real page.0
    (steps_change old core event new steps) apart page.1 holds

pub others_stay : OthersStay
others_stay old core event new number begun real sound steps apart is =
    let only = (steps_change old core event new steps).thread in
    subst (λ found. IsBeside new number found begun real) (sym (flight_other old core new number only apart))
    (stays_by (flight_at old number) old core event new number begun real refl sound steps apart is)

-- ---- a step in flight

flown_is : (old : State) (core : ℕ) (event : Event) (new : State) (flight : Flight) → (thread_at old core).state ≡ Running
    → flight_at old core ≡ Some flight
    → Steps old core event new → (event, new) ≡ landing_step old core flight
flown_is old core event new flight running at steps =
    let runs = subst (λ (end : EndKind). StepsBy old core (thread_at old core) end (event, new)) running steps in
    subst (λ found. GoesOn old core (thread_at old core) found (event, new)) at runs

arrives_beside : (state : State) (number : ℕ) (next : Option Flight) (begun : Begun) (real : Regs)
    → Arrives state number next begun.start begun.failed real
    → IsBeside state number next (begun_behind next begun) real
arrives_beside state number None begun real arrives = arrives
arrives_beside state number (Some flight) begun real arrives = arrives

set_by : (test : Bool) (state : State) (core number : ℕ) (first : Begun) (begun : ℕ → Begun) (mine : Regs) (real : ℕ → Regs)
    → (number == core) ≡ test
    → IsBeside state core (flight_at state core) first mine
    → (number ≢ core → IsBeside state number (flight_at state number) (begun number) (real number))
    → IsBeside state number (flight_at state number) (if test then first else begun number) (if test then mine else real number)
set_by true state core number first begun mine real is own others =
    let same : number ≡ core = (Decides-eqb number core).0 is in
    subst (λ (n : ℕ). IsBeside state n (flight_at state n) first mine) (sym same) own
set_by false state core number first begun mine real is own others =
    others (λ same. let also : (number == core) ≡ true = (Decides-eqb number core).1 same in cc)

steps_beside : (old : State) (core : ℕ) (event : Event) (new : State) (flight : Flight) (begun : ℕ → Begun) (real : ℕ → Regs)
    → IsSound old → AreBeside old begun real
    → Steps old core event new → LandsBeside (event, new) old core flight (begun core).start (begun core).failed (real core)
    → StepsBeside old core event new flight begun real
steps_beside old core event new flight begun real sound beside steps lands = record {
  fetched = lands.fetched;
  answer = lands.answer;
  memory = lands.memory;
  line = lands.line;
  beside = λ number.
      set_by (number == core) new core number (begun_behind (flight_at new core) (begun core)) begun
      (behind flight.phase (phase_execution old core flight (real core)).registers) real refl
      (arrives_beside new core (flight_at new core) (begun core)
      (behind flight.phase (phase_execution old core flight (real core)).registers) lands.arrives)
      (λ apart. others_stay old core event new number (begun number) (real number) sound steps apart (beside number));
}

pub steps_stay_beside : EachPhaseStands → StepsStayBeside
steps_stay_beside stand old core event new flight begun real sound beside at steps =
    let own = flight_sound old core flight sound at in
    let holds : IsBeside old core (Some flight) (begun core) (real core) =
    subst (λ found. IsBeside old core found (begun core) (real core)) at (beside core) in
    let lands : Lands old core flight (begun core).start (begun core).failed (real core) =
    step_lands old core flight (begun core).start (begun core).failed (real core) stand sound at holds in
    steps_beside old core event new flight begun real sound beside steps
    (subst (λ (outcome : Outcome). LandsBeside outcome old core flight (begun core).start (begun core).failed (real core))
    (sym (flown_is old core event new flight own.running at steps)) lands)
