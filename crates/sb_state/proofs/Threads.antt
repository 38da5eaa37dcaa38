-- Threads and flights by number, where one is set.
use Rattle.std.proofs.Common.{◌≡◌, ◌≢◌, ap, ℕ, zero, suc, ◌<◌, List, [], ◌∷◌, length, refl, slice_set, arith}
use Rattle.std.specs.Prelude.{Option, Some, None, slice_get, unwrap_or}
use Rattle.sb_insn.specs.declared.registers.Regs.{Regs}
use Rattle.sb_state.specs.declared.state.Flight.{Flight}
use Rattle.sb_state.specs.declared.state.Thread.{Thread}
use Rattle.sb_state.specs.State.{State, thread_at, with_thread, with_regs, no_thread, flight_at, with_flight}

-- ---- lists

-- an element of another place is as before
pub set_other : {A : Type 0} (list : List A) (index other : ℕ) (value : A) → other ≢ index
    → slice_get (slice_set list index value) other ≡ slice_get list other
set_other [] index other value apart = refl
set_other (first ∷ list) zero zero value apart = absurd (apart refl)
set_other (first ∷ list) zero (suc other) value apart = refl
set_other (first ∷ list) (suc index) zero value apart = refl
set_other (first ∷ list) (suc index) (suc other) value apart = set_other list index other value (λ same. apart (ap suc same))

-- what is said of the value that is set, and of the one that was there, is said of the one that is there
pub set_same : {A : Type 0} (Claim : A → Type 0) (list : List A) (index : ℕ) (value default : A) → Claim value
    → Claim (unwrap_or (slice_get list index) default)
    → Claim (unwrap_or (slice_get (slice_set list index value) index) default)
set_same Claim [] index value default new old = old
set_same Claim (first ∷ list) zero value default new old = new
set_same Claim (first ∷ list) (suc index) value default new old = set_same Claim list index value default new old

-- where an element was, the value that is set stands
pub set_there : {A : Type 0} (list : List A) (index : ℕ) (old value default : A) → slice_get list index ≡ Some old
    → unwrap_or (slice_get (slice_set list index value) index) default ≡ value
set_there [] index old value default there = absurd cc
set_there (first ∷ list) zero old value default there = refl
set_there (first ∷ list) (suc index) old value default there = set_there list index old value default there

-- the same where the place is one of the list
pub set_within : {A : Type 0} (list : List A) (index : ℕ) (value default : A) → index < length list
    → unwrap_or (slice_get (slice_set list index value) index) default ≡ value
set_within [] index value default within = absurd (omega (arith, within))
set_within (first ∷ list) zero value default within = refl
set_within (first ∷ list) (suc index) value default within = set_within list index value default (omega arith)

-- ---- a thread

-- what is said of the thread that is set, and of the one that was there, is said of the one that is there
pub thread_set : (Claim : Thread → Type 0) (state : State) (number : ℕ) (thread : Thread) → Claim thread
    → Claim (thread_at state number) → Claim (thread_at (with_thread state number thread) number)
unfolding thread_at
thread_set Claim state number thread new old = set_same Claim state.threads number thread no_thread new old

-- where a thread is there, the one that is set stands
pub thread_set_there : (state : State) (number : ℕ) (old thread : Thread) → slice_get state.threads number ≡ Some old
    → thread_at (with_thread state number thread) number ≡ thread
unfolding thread_at
thread_set_there state number old thread there = set_there state.threads number old thread no_thread there

-- a thread has the registers that it is given
pub regs_set : (state : State) (number : ℕ) (regs : Regs) → number < length state.threads
    → (thread_at (with_regs state number regs) number).regs ≡ regs
unfolding thread_at with_regs
regs_set state number regs within =
    ap (λ (thread : Thread). thread.regs)
    (set_within state.threads number (record (thread_at state number) { regs = regs }) no_thread within)

-- ---- a flight

there_by : {A : Type 0} (found : Option (Option A)) (value : A) → unwrap_or found None ≡ Some value → found ≡ Some (Some value)
there_by None value is = absurd cc
there_by (Some one) value is = ap (λ held. Some held) is

-- a thread that is in flight has a place for its flight
pub flight_there : (state : State) (core : ℕ) (flight : Flight) → flight_at state core ≡ Some flight
    → slice_get state.flights core ≡ Some (Some flight)
unfolding flight_at
flight_there state core flight is = there_by (slice_get state.flights core) flight is

-- where a thread is in flight, the flight that is set stands
pub flight_set_there : (state : State) (number : ℕ) (flight : Flight) (next : Option Flight)
    → flight_at state number ≡ Some flight
    → flight_at (with_flight state number next) number ≡ next
unfolding flight_at with_flight
flight_set_there state number flight next is =
    set_there state.flights number (Some flight) next None (there_by (slice_get state.flights number) flight is)
