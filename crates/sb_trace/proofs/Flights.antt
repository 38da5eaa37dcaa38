-- Each step keeps what holds of flights.
use Rattle.std.proofs.Common.{◌≡◌, ◌≢◌, ◌∙◌, sym, ap, subst, ℕ, zero, suc, Bool, true, false, List, [], ◌∷◌, ◌==◌, ◌&&◌, ◌^◌, ◌<◌, ◌≤◌, refl, inl, inr, slice_set, arith}
use Rattle.std.specs.Prelude.{Option, Some, None, if◌then◌else◌, slice_get, unwrap_or, not}
use Rattle.std.specs.Option.{option_map}
use Rattle.std.proofs.lemmas.Bool.{cases_eq, and_parts, eqb-false, not-true}
use Rattle.sb_exec.specs.Fetching.{Stands, fetch_of}
use Rattle.sb_exec.proofs.RowWords.{either_number}
use Rattle.sb_scan.specs.Pattern.{pattern}
use Rattle.sb_trace.specs.declared.event.Event.{Event}
use Rattle.sb_state.specs.declared.end_kind.EndKind.{EndKind}
use Rattle.sb_state.specs.declared.end_kind.EndKind.TheVariants.{Running, Ended, Faulted}
use Rattle.sb_state.specs.declared.state.Binding.{Binding}
use Rattle.sb_state.specs.declared.state.Decision.{Decision}
use Rattle.sb_state.specs.declared.state.Decision.TheVariants as decision
use Rattle.sb_state.specs.declared.state.Flight.{Flight}
use Rattle.sb_state.specs.declared.state.Thread.{Thread}
use Rattle.sb_state.specs.State.{State, thread_at, flight_at, with_flight}
use Rattle.sb_state.specs.PlainMemory.{plain}
use Rattle.sb_state.specs.Registers.{eax, ecx, rsi}
use Rattle.sb_trace.specs.Home.{Outcome}
use Rattle.sb_trace.specs.KernelCall.{binding_with, kernel_call}
use Rattle.sb_trace.specs.Flight.{flight_binding, is_key, bound_pool, decision_at_phase, phase_after, at_phase, next_flight, phase_outcome, landing_step, first_flight, called_binding, vmfunc_outcome_by, vmfunc_outcome}
use Rattle.sb_trace.specs.Step.{GoesOn, StepsBy, Steps}
use Rattle.sb_trace.specs.Sound.{ArePagesSound, IsMask, IsThreadOfFlight, IsInFlight, IsFlightSound, IsSound}
use Rattle.sb_state.proofs.Names.{number}
use Rattle.sb_state.proofs.Cases.{none_some}
use Rattle.sb_state.proofs.Threads.{set_same, flight_there}
use Rattle.sb_trace.proofs.Threads.{running_there, thread_other, flight_other, bound_there}
use Rattle.sb_trace.proofs.Kernel.{Did, did_call}
use Rattle.sb_trace.proofs.Steps.{instruction_claims, did_next, steps_change}
use Rattle.sb_trace.proofs.InFlight.{flight_of, StandsAtCall, IsUndecided, follows_of, decided_of, flight_away, listed_early, listed_on, listed_first, deciding_phase}
use Rattle.sb_trace.proofs.Phases.{some_if, Saw, saw, Decides, decides, loads_no_more, decides_no_more, stays_undecided}
use Rattle.sb_trace.proofs.Deciding.{IsDecidedView, IsBehindCall, call_behind, decided_sees}
use Rattle.sb_trace.proofs.PoolWords.{pool_below}
use Rattle.sb_trace.proofs.Fetchable.{one_pattern}

-- what holds of the flight of the thread that made the step
abbrev KeepsFlight : ℕ → Outcome → Type 0
KeepsFlight core outcome = IsFlightSound (thread_at outcome.1 core) (flight_at outcome.1 core)

-- ---- flights by number

set_there : {A : Type 0} (Claim : A → Type 0) (list : List A) (index : ℕ) (old value default : A)
    → slice_get list index ≡ Some old → Claim value
    → Claim (unwrap_or (slice_get (slice_set list index value) index) default)
set_there Claim [] index old value default is new = absurd cc
set_there Claim (first ∷ list) zero old value default is new = new
set_there Claim (first ∷ list) (suc index) old value default is new = set_there Claim list index old value default is new

-- where there is no flight
no_flight : (state : State) (core : ℕ) (outcome : Outcome) → flight_at state core ≡ None → outcome.1.flights ≡ state.flights
    → KeepsFlight core outcome
unfolding flight_at
no_flight state core outcome none same =
    let still : unwrap_or (slice_get outcome.1.flights core) None ≡ None =
    ap (λ list. unwrap_or (slice_get list core) None) same ∙ none in
    subst (IsFlightSound (thread_at outcome.1 core)) (sym still) tt

did_no_flight : (state : State) (core : ℕ) (outcome : Outcome) → flight_at state core ≡ None → Did state core outcome
    → KeepsFlight core outcome
did_no_flight state core outcome none did = no_flight state core outcome none did.flights

-- ---- a flight begins

-- VMFUNC leads into a server: leaf 0, and the index of a binding
record IsCalled (thread : Thread) (binding : Binding) : Type 0 where
  leaf : eax thread.regs ≡ 0
  away : ecx thread.regs ≢ 0
  bound : binding_with thread.bindings (ecx thread.regs) ≡ Some binding

is_called : (thread : Thread) (binding : Binding) → called_binding thread ≡ Some binding → IsCalled thread binding
is_called thread binding =
    some_if (IsCalled thread binding) ((eax thread.regs == 0) && not (ecx thread.regs == 0))
    (binding_with thread.bindings (ecx thread.regs)) None binding
    (λ test is.
    let parts = and_parts (eax thread.regs == 0) (not (ecx thread.regs == 0)) test in
    record {
      leaf = number (eax thread.regs) 0 parts.0;
      away = eqb-false (ecx thread.regs) 0 (not-true (ecx thread.regs == 0) parts.1);
      bound = is;
    })
    (λ test is. absurd cc)

stands_there : (state : State) (core : ℕ) (binding : Binding) → ArePagesSound state.pages
    → Stands (fetch_of (plain core (thread_at state core).view) state) (thread_at state core).regs.rip pattern
    → IsCalled (thread_at state core) binding
    → StandsAtCall (thread_at state core) binding.index
stands_there state core binding sound stands calls =
    let there = bound_there (thread_at state core).bindings (ecx (thread_at state core).regs) binding calls.bound in
    record {
      address = one_pattern state core (thread_at state core).view (thread_at state core).regs.rip sound stands;
      leaf = calls.leaf;
      names = sym there.0;
      away = λ none. calls.away (sym there.0 ∙ none);
      binding = binding;
      bound = subst (λ n. binding_with (thread_at state core).bindings n ≡ Some binding) (sym there.0) calls.bound;
    }

-- a running thread before the decision is in flight
undecided_flies : (thread : Thread) (index phase mask : ℕ) → thread.state ≡ Running
    → IsUndecided thread (flight_of index phase mask None) → mask < 2 ^ 64 → IsInFlight thread (flight_of index phase mask None)
undecided_flies thread index phase mask running undecided word = record {
  running = running;
  binding = undecided.stands.binding;
  bound = undecided.stands.bound;
  phase = listed_early phase undecided.early;
  word = word;
  mask = undecided.mask;
  stage = (
    record { address = undecided.stands.address; leaf = undecided.stands.leaf; names = undecided.stands.names },
    undecided.key,
  );
}

first_flies : (thread : Thread) (index : ℕ) → thread.state ≡ Running → StandsAtCall thread index
    → IsInFlight thread (first_flight index)
first_flies thread index running stands = undecided_flies thread index 0 0 running (record {
  stands = stands;
  early = omega arith;
  key = λ late. absurd (late refl);
  mask = λ late. absurd (omega (arith, late));
}) (omega arith)

begun : (state : State) (core : ℕ) (found : Option Binding) → called_binding (thread_at state core) ≡ found
    → ArePagesSound state.pages
    → (thread_at state core).state ≡ Running → flight_at state core ≡ None
    → Stands (fetch_of (plain core (thread_at state core).view) state) (thread_at state core).regs.rip pattern
    → KeepsFlight core (vmfunc_outcome_by state core found)
unfolding with_flight flight_at thread_at
begun state core None is sound running none stands = did_no_flight state core (kernel_call state core) none (did_call state core)
begun state core (Some binding) is sound running none stands =
    set_same (IsFlightSound (thread_at state core)) state.flights core (Some (first_flight binding.index)) None
    (first_flies (thread_at state core) binding.index running
    (stands_there state core binding sound stands (is_called (thread_at state core) binding is)))
    (subst (IsFlightSound (thread_at state core)) (sym none) tt)

switch_begins : (state : State) (core : ℕ) → ArePagesSound state.pages → (thread_at state core).state ≡ Running
    → flight_at state core ≡ None
    → Stands (fetch_of (plain core (thread_at state core).view) state) (thread_at state core).regs.rip pattern
    → KeepsFlight core (vmfunc_outcome state core)
unfolding vmfunc_outcome
switch_begins state core sound running none stands =
    begun state core (called_binding (thread_at state core)) refl sound running none stands

-- ---- a flight goes on

-- the mask that phase 2 loads
abbrev pub mask_after : ℕ → ℕ → ℕ → ℕ
mask_after phase pool mask = if phase == 2 then pool else mask

loads_by : (test : Bool) (phase pool mask : ℕ) → (phase == 2) ≡ test → phase ≡ 2 → (if test then pool else mask) ≡ pool
loads_by true phase pool mask is two = refl
loads_by false phase pool mask is two = absurd (eqb-false phase 2 is two)

keeps_by : (test : Bool) (phase pool mask : ℕ) → (phase == 2) ≡ test → phase ≢ 2 → (if test then pool else mask) ≡ mask
keeps_by true phase pool mask is other = absurd (other (number phase 2 is))
keeps_by false phase pool mask is other = refl

-- a key that fits is that of the binding
abbrev pub KeyMeans : Thread → ℕ → Bool → Type 0
KeyMeans thread index fits = (binding : Binding) → binding_with thread.bindings index ≡ Some binding → fits ≡ true
    → rsi thread.regs ≡ binding.key

-- the phase behind one that did not decide
undecided_next : (thread : Thread) (index phase pool mask next : ℕ) (fits : Bool)
    → IsUndecided thread (flight_of index phase mask None) → KeyMeans thread index fits
    → decision_at_phase phase fits pool mask ≡ None → phase_after phase None (mask_after phase pool mask) ≡ Some next
    → IsUndecided thread (flight_of index next (mask_after phase pool mask) None)
undecided_next thread index phase pool mask next fits undecided means none is =
    let seen = subst (Saw phase fits pool mask) none (saw phase fits pool mask) in
    let early : phase ≤ 9 = undecided.early in
    let to = stays_undecided phase (mask_after phase pool mask) next early
    (λ four zero. undecided.mask (omega arith) (sym (keeps_by (phase == 2) phase pool mask refl (λ two. omega arith)) ∙ zero)) is
    in
    record {
      stands = undecided.stands;
      early = to.0;
      key = λ late. elim (cases_eq phase 0) [
        | inl first ↦ means undecided.stands.binding undecided.stands.bound (seen.0 first)
        | inr other ↦ undecided.key other
      ];
      mask = λ late zero. let from : 2 ≤ phase = to.1 late in
          elim (cases_eq phase 2) [
            | inl two ↦ seen.1 two (sym (loads_by (phase == 2) phase pool mask refl two) ∙ zero)
            | inr other ↦ undecided.mask (omega arith) (sym (keeps_by (phase == 2) phase pool mask refl other) ∙ zero)
          ];
    }

-- ---- a key that fits

fits_by : (found : Option Binding) (word : ℕ) (binding : Binding) → found ≡ Some binding → is_key found word ≡ true
    → word ≡ binding.key
fits_by None word binding is fits = absurd cc
fits_by (Some one) word binding is fits = let same : one ≡ binding = cc in
    number word one.key fits ∙ ap (λ (b : Binding). b.key) same

pub key_means : (thread : Thread) (index : ℕ)
    → KeyMeans thread index (is_key (binding_with thread.bindings index) (rsi thread.regs))
key_means thread index binding bound fits = fits_by (binding_with thread.bindings index) (rsi thread.regs) binding bound fits

-- ---- the mask

-- behind the decision the mask is right whatever the phase
mask_stays : (decided : Decision) (phase next mask : ℕ) → IsMask (Some decided) phase mask → IsMask (Some decided) next mask
mask_stays decision.WrongKey phase next mask chosen = chosen
mask_stays decision.PoolEmpty phase next mask chosen = chosen
mask_stays decision.Entered phase next mask chosen = chosen

-- a decision was taken with the mask that it asks for
mask_first : (decided : Decision) (phase next pool mask : ℕ) (fits : Bool) → Decides phase fits pool mask decided
    → (3 ≤ phase → mask ≢ 0) → IsMask (Some decided) next (mask_after phase pool mask)
mask_first decision.WrongKey phase next pool mask fits at some = tt
mask_first decision.PoolEmpty phase next pool mask fits at some = loads_by (phase == 2) phase pool mask refl at.0 ∙ at.1
mask_first decision.Entered phase next pool mask fits at some =
    let eight : phase ≡ 8 = at.0 in
    λ none. some (omega arith) (sym (keeps_by (phase == 2) phase pool mask refl (λ two. omega arith)) ∙ none)

decides_at : (decided : Decision) (phase : ℕ) (fits : Bool) (pool mask : ℕ) → Decides phase fits pool mask decided
    → phase ≡ deciding_phase decided
decides_at decision.WrongKey phase fits pool mask at = at.0
decides_at decision.PoolEmpty phase fits pool mask at = at.0
decides_at decision.Entered phase fits pool mask at = at.0

-- ---- the view

-- behind the decision the view is right whatever the phase and the mask
view_stays : (decided : Decision) (thread : Thread) (index phase next mask mask' : ℕ) (binding : Binding)
    → IsThreadOfFlight (Some decided) thread (flight_of index phase mask (Some decided)) binding
    → IsThreadOfFlight (Some decided) thread (flight_of index next mask' (Some decided)) binding
view_stays decision.WrongKey thread index phase next mask mask' binding shows = shows
view_stays decision.PoolEmpty thread index phase next mask mask' binding shows = shows
view_stays decision.Entered thread index phase next mask mask' binding shows = shows

view_first : (decided : Decision) (thread : Thread) (index phase mask : ℕ) (binding : Binding)
    → IsDecidedView decided index thread.view
    → IsThreadOfFlight (Some decided) thread (flight_of index phase mask (Some decided)) binding
view_first decision.WrongKey thread index phase mask binding shows = shows
view_first decision.PoolEmpty thread index phase mask binding shows = shows
view_first decision.Entered thread index phase mask binding shows = shows

-- ---- the phase behind

-- the phase behind one of a decided call
decided_next : (thread : Thread) (index phase pool mask next : ℕ) (decided : Decision)
    → IsInFlight thread (flight_of index phase mask (Some decided))
    → phase_after phase (Some decided) (mask_after phase pool mask) ≡ Some next
    → IsInFlight thread (flight_of index next (mask_after phase pool mask) (Some decided))
decided_next thread index phase pool mask next decided flies is =
    let follows = follows_of decided phase mask flies.phase flies.mask in
    let same = keeps_by (phase == 2) phase pool mask refl (loads_no_more decided phase mask follows) in
    let chosen = subst (IsMask (Some decided) phase) (sym same) flies.mask in
    record {
      running = flies.running;
      binding = flies.binding;
      bound = flies.bound;
      phase = listed_on decided phase (mask_after phase pool mask) next flies.phase chosen is;
      word = subst (λ n. n < 2 ^ 64) (sym same) flies.word;
      mask = mask_stays decided phase next (mask_after phase pool mask) chosen;
      stage = view_stays decided thread index phase next mask (mask_after phase pool mask) flies.binding flies.stage;
    }

-- the phase behind one that decides nothing
next_sound : (thread : Thread) (index phase pool mask : ℕ) (decided : Option Decision) (fits : Bool) (found : Option ℕ)
    → index ≢ 0 → pool < 2 ^ 64 → IsInFlight thread (flight_of index phase mask decided) → KeyMeans thread index fits
    → decision_at_phase phase fits pool mask ≡ None
    → phase_after phase decided (mask_after phase pool mask) ≡ found
    → IsFlightSound thread (option_map (at_phase (flight_of index phase (mask_after phase pool mask) decided)) found)
next_sound thread index phase pool mask decided fits None away word flies means none is = tt
next_sound thread index phase pool mask None fits (Some next) away word flies means none is =
    undecided_flies thread index next (mask_after phase pool mask) flies.running
    (undecided_next thread index phase pool mask next fits (decided_of thread (flight_of index phase mask None) away flies) means
    none is)
    (either_number (phase == 2) pool mask word flies.word)
next_sound thread index phase pool mask (Some decided) fits (Some next) away word flies means none is =
    decided_next thread index phase pool mask next decided flies is

-- the phase behind the deciding one
first_decided : (state : State) (core index phase mask pool next : ℕ) (fits : Bool) (decided : Decision)
    → pool < 2 ^ 64 → IsInFlight (thread_at state core) (flight_of index phase mask None)
    → Decides phase fits pool mask decided
    → IsBehindCall state core decided index (kernel_call state core)
    → phase_after phase (Some decided) (mask_after phase pool mask) ≡ Some next
    → IsInFlight (thread_at (kernel_call state core).1 core)
    (flight_of index next (mask_after phase pool mask) (Some decided))
first_decided state core index phase mask pool next fits decided word flies at behind is =
    record {
      running = behind.running;
      binding = flies.binding;
      bound = ap (λ bindings. binding_with bindings index) behind.bindings ∙ flies.bound;
      phase = listed_first decided phase (mask_after phase pool mask) next (decides_at decided phase fits pool mask at) is;
      word = either_number (phase == 2) pool mask word flies.word;
      mask = mask_first decided phase next pool mask fits at flies.mask;
      stage = view_first decided (thread_at (kernel_call state core).1 core) index next (mask_after phase pool mask)
          flies.binding behind.view;
    }

decided_sound : (state : State) (core index phase mask pool : ℕ) (fits : Bool) (decided : Decision) (found : Option ℕ)
    → pool < 2 ^ 64 → IsInFlight (thread_at state core) (flight_of index phase mask None)
    → Decides phase fits pool mask decided
    → IsBehindCall state core decided index (kernel_call state core)
    → phase_after phase (Some decided) (mask_after phase pool mask) ≡ found
    → IsFlightSound (thread_at (kernel_call state core).1 core)
    (option_map (at_phase (flight_of index phase (mask_after phase pool mask) (Some decided))) found)
decided_sound state core index phase mask pool fits decided None word flies at behind is = tt
decided_sound state core index phase mask pool fits decided (Some next) word flies at behind is =
    first_decided state core index phase mask pool next fits decided word flies at behind is

-- ---- a phase, by what it decides

-- the pool word that a phase sees, and whether the key fits
abbrev seen_pool : State → ℕ → ℕ → ℕ
seen_pool state core index = bound_pool state (binding_with (thread_at state core).bindings index)

abbrev seen_key : State → ℕ → ℕ → Bool
seen_key state core index = is_key (binding_with (thread_at state core).bindings index) (rsi (thread_at state core).regs)

landed_sound : (state : State) (core index phase mask : ℕ) (decided : Option Decision) (found : Option Decision)
    → decision_at_phase phase (seen_key state core index) (seen_pool state core index) mask ≡ found
    → flight_at state core ≡ Some (flight_of index phase mask decided) → index ≢ 0 → seen_pool state core index < 2 ^ 64
    → IsInFlight (thread_at state core) (flight_of index phase mask decided)
    → KeepsFlight core
    (phase_outcome state core (flight_of index phase (mask_after phase (seen_pool state core index) mask) decided) found)
unfolding with_flight flight_at thread_at
landed_sound state core index phase mask decided None is at away word flies =
    let pool : ℕ = seen_pool state core index in
    set_there (IsFlightSound (thread_at state core)) state.flights core (Some (flight_of index phase mask decided))
    (next_flight (flight_of index phase (mask_after phase pool mask) decided)) None
    (flight_there state core (flight_of index phase mask decided) at)
    (next_sound (thread_at state core) index phase pool mask decided (seen_key state core index)
    (phase_after phase decided (mask_after phase pool mask)) away word flies (key_means (thread_at state core) index) is refl)
landed_sound state core index phase mask None (Some found) is at away word flies =
    let pool : ℕ = seen_pool state core index in
    let fits : Bool = seen_key state core index in
    let undecided = decided_of (thread_at state core) (flight_of index phase mask None) away flies in
    let deciding = decides phase fits pool mask found is in
    set_there (IsFlightSound (thread_at (kernel_call state core).1 core)) (kernel_call state core).1.flights core
    (Some (flight_of index phase mask None))
    (next_flight (flight_of index phase (mask_after phase pool mask) (Some found))) None
    (ap (λ list. slice_get list core) (did_call state core).flights
    ∙ flight_there state core (flight_of index phase mask None) at)
    (decided_sound state core index phase mask pool fits found
    (phase_after phase (Some found) (mask_after phase pool mask)) word flies deciding
    (call_behind state core index undecided.stands found (running_there state core flies.running, flies.running)
    (decided_sees state (thread_at state core) index phase mask undecided found deciding)) refl)
landed_sound state core index phase mask (Some decided) (Some found) is at away word flies =
    absurd (none_some (decision_at_phase phase (seen_key state core index) (seen_pool state core index) mask) found
    (decides_no_more decided phase (seen_key state core index) (seen_pool state core index) mask mask
    (follows_of decided phase mask flies.phase flies.mask)) is)

-- a word of a page of bytes
pool_small : (state : State) (found : Option Binding) → ArePagesSound state.pages → bound_pool state found < 2 ^ 64
pool_small state None sound = omega arith
pool_small state (Some binding) sound = pool_below state binding.server sound

flown_sound : (state : State) (core : ℕ) (flight : Flight) → ArePagesSound state.pages → flight.index ≢ 0
    → flight_at state core ≡ Some flight
    → IsInFlight (thread_at state core) flight
    → KeepsFlight core (landing_step state core flight)
unfolding landing_step
flown_sound state core flight sound away at flies =
    landed_sound state core flight.index flight.phase flight.mask flight.decided _ refl at away
    (pool_small state (flight_binding (thread_at state core) flight) sound) flies

-- ---- a step

on_flight : (state : State) (core : ℕ) (flight : Option Flight) (outcome : Outcome) → IsSound state
    → (thread_at state core).state ≡ Running
    → flight_at state core ≡ flight → GoesOn state core (thread_at state core) flight outcome → KeepsFlight core outcome
on_flight state core None outcome sound running at runs =
    instruction_claims (KeepsFlight core) vmfunc_outcome state core (thread_at state core).view (thread_at state core).regs
    (λ insn regs'. did_no_flight state core _ at
    (did_next state core (thread_at state core).view insn (thread_at state core).regs regs' refl))
    (λ one did. did_no_flight state core one at did) (switch_begins state core sound.pages running at) outcome runs
on_flight state core (Some flight) outcome sound running at is =
    let flies : IsFlightSound (thread_at state core) (Some flight) =
    subst (IsFlightSound (thread_at state core)) at (sound.flights core) in
    subst (KeepsFlight core) (sym is)
    (flown_sound state core flight sound.pages (flight_away state core flight sound.threads flies) at flies)

by_flight : (state : State) (core : ℕ) (end : EndKind) (outcome : Outcome) → (thread_at state core).state ≡ end → IsSound state
    → StepsBy state core (thread_at state core) end outcome → KeepsFlight core outcome
by_flight state core Running outcome running sound runs =
    on_flight state core (flight_at state core) outcome sound running refl runs
by_flight state core (Ended status) outcome ended sound is = subst (KeepsFlight core) (sym is) (sound.flights core)
by_flight state core (Faulted kind address) outcome ended sound is = subst (KeepsFlight core) (sym is) (sound.flights core)

pub flights_kept : (old : State) (core : ℕ) (event : Event) (new : State) → IsSound old → Steps old core event new
    → (number : ℕ) → IsFlightSound (thread_at new number) (flight_at new number)
flights_kept old core event new sound steps number = elim (cases_eq number core) [
  | inl same ↦
      subst (λ n. IsFlightSound (thread_at new n) (flight_at new n)) (sym same)
      (by_flight old core (thread_at old core).state (event, new) refl sound steps)
  | inr apart ↦
      let only = (steps_change old core event new steps).thread in
      subst (λ thread. IsFlightSound thread (flight_at new number)) (sym (thread_other old core new number only apart))
      (subst (λ flight. IsFlightSound (thread_at old number) flight) (sym (flight_other old core new number only apart))
      (sound.flights number))
]
