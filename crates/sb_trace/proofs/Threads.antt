-- Threads and flights by number, where one is set.
use Rattle.std.proofs.Common.{◌≡◌, ◌≢◌, ◌∙◌, sym, ap, subst, ℕ, zero, suc, Bool, true, false, List, [], ◌∷◌, ◌==◌, length, refl, slice_set, inl, inr}
use Rattle.std.specs.Prelude.{Option, Some, None, slice_get, unwrap_or, if◌then◌else◌}
use Rattle.std.specs.Option.{option_map}
use Rattle.std.proofs.lemmas.Bool.{cases_eq}
use Rattle.std.proofs.lemmas.List.{length-set}
use Rattle.sb_state.specs.declared.end_kind.EndKind.TheVariants.{Running}
use Rattle.sb_state.specs.declared.state.Binding.{Binding}
use Rattle.sb_state.specs.declared.state.Flight.{Flight}
use Rattle.sb_state.specs.declared.state.Thread.{Thread}
use Rattle.sb_state.specs.State.{State, thread_at, with_thread, no_thread, flight_at, with_flight}
use Rattle.sb_state.specs.Windows.{server_of}
use Rattle.sb_state.proofs.Indices.{index_found}
use Rattle.sb_state.proofs.Threads.{set_other, thread_set}
use Rattle.sb_trace.specs.KernelCall.{binding_with}
use Rattle.sb_trace.specs.Sound.{HasView}
use Rattle.sb_trace.specs.Changes.{OnlyThread, BindingsStay}

-- ---- a thread

pub only_thread : (state : State) (number : ℕ) (thread : Thread) → thread.home ≡ (thread_at state number).home
    → OnlyThread state number (with_thread state number thread)
only_thread state number thread home = record {
  count = length-set state.threads number thread;
  places = refl;
  threads = λ other apart. set_other state.threads number other thread apart;
  flights = λ other apart. refl;
  home = thread_set (λ (one : Thread). one.home ≡ (thread_at state number).home) state number thread home refl;
}

pub only_flight : (state : State) (number : ℕ) (flight : Option Flight)
    → OnlyThread state number (with_flight state number flight)
unfolding with_flight thread_at
only_flight state number flight = record {
  count = refl;
  places = length-set state.flights number flight;
  threads = λ other apart. refl;
  flights = λ other apart. set_other state.flights number other flight apart;
  home = refl;
}

pub only_both : (first : State) (number : ℕ) (second third : State) → OnlyThread first number second
    → OnlyThread second number third → OnlyThread first number third
only_both first number second third one other = record {
  count = other.count ∙ one.count;
  places = other.places ∙ one.places;
  threads = λ number' apart. other.threads number' apart ∙ one.threads number' apart;
  flights = λ number' apart. other.flights number' apart ∙ one.flights number' apart;
  home = other.home ∙ one.home;
}

-- threads and flights stay
pub only_none : (old : State) (number : ℕ) (new : State) → new.threads ≡ old.threads → new.flights ≡ old.flights
    → OnlyThread old number new
unfolding thread_at
only_none old number new threads flights = record {
  count = ap (λ list. length list) threads;
  places = ap (λ list. length list) flights;
  threads = λ other apart. ap (λ list. slice_get list other) threads;
  flights = λ other apart. ap (λ list. slice_get list other) flights;
  home = ap (λ list. (unwrap_or (slice_get list number) no_thread).home) threads;
}

-- ---- the others

pub thread_other : (old : State) (number : ℕ) (new : State) (other : ℕ) → OnlyThread old number new → other ≢ number
    → thread_at new other ≡ thread_at old other
unfolding thread_at
thread_other old number new other only apart = ap (λ found. unwrap_or found no_thread) (only.threads other apart)

pub flight_other : (old : State) (number : ℕ) (new : State) (other : ℕ) → OnlyThread old number new → other ≢ number
    → flight_at new other ≡ flight_at old other
unfolding flight_at
flight_other old number new other only apart = ap (λ found. unwrap_or found None) (only.flights other apart)

-- ---- a thread that is there

-- the thread of this number is one of the state's
abbrev pub HasThread : State → ℕ → Type 0
HasThread state number = slice_get state.threads number ≡ Some (thread_at state number)

-- a value that is set is found where another was
pub set_found : {A : Type 0} (list : List A) (index : ℕ) (old value default : A) → slice_get list index ≡ Some old
    → slice_get (slice_set list index value) index ≡ Some (unwrap_or (slice_get (slice_set list index value) index) default)
set_found [] index old value default there = absurd cc
set_found (first ∷ list) zero old value default there = refl
set_found (first ∷ list) (suc index) old value default there = set_found list index old value default there

pub running_by : (found : Option Thread) → (unwrap_or found no_thread).state ≡ Running → found ≡ Some (unwrap_or found no_thread)
unfolding no_thread
running_by None running = absurd cc
running_by (Some thread) running = refl

-- a running thread is there
pub running_there : (state : State) (number : ℕ) → (thread_at state number).state ≡ Running → HasThread state number
unfolding thread_at
running_there state number running = running_by (slice_get state.threads number) running

-- ---- bindings

-- where a thread is set that has the bindings of the one before, all bindings stay
pub bindings_set : (state : State) (number : ℕ) (thread : Thread) → thread.bindings ≡ (thread_at state number).bindings
    → BindingsStay state (with_thread state number thread)
unfolding thread_at
bindings_set state number thread same other = elim (cases_eq other number) [
  | inl is ↦ subst (λ n. (thread_at (with_thread state number thread) n).bindings ≡ (thread_at state n).bindings) (sym is)
      (thread_set (λ (one : Thread). one.bindings ≡ (thread_at state number).bindings) state number thread same refl)
  | inr apart ↦ ap (λ (found : Option Thread). (unwrap_or found no_thread).bindings)
      (set_other state.threads number other thread apart)
]

-- where threads stay, bindings stay
pub bindings_same : (old new : State) → new.threads ≡ old.threads → BindingsStay old new
unfolding thread_at
bindings_same old new threads number = ap (λ list. (unwrap_or (slice_get list number) no_thread).bindings) threads

pub bindings_both : (first second third : State) → BindingsStay first second → BindingsStay second third
    → BindingsStay first third
bindings_both first second third one other number = other number ∙ one number

-- a binding that is found has its index, and its view shows its server
pub bound_there : (bindings : List Binding) (index : ℕ) (binding : Binding) → binding_with bindings index ≡ Some binding
    → (binding.index ≡ index) × (server_of bindings index ≡ Some binding.server)
bound_there bindings index binding here =
    (index_found bindings index binding here, ap (option_map (λ (one : Binding). one.server)) here)

view_by : (test : Bool) (home : ℕ) (server : Option ℕ) (process : ℕ) → server ≡ Some process
    → (one : ℕ) × ((if test then Some home else server) ≡ Some one)
view_by true home server process is = (home, refl)
view_by false home server process is = (process, is)

pub view_bound : (thread : Thread) (process : ℕ) → server_of thread.bindings thread.view ≡ Some process → HasView thread
view_bound thread process is = view_by (thread.view == 0) thread.home (server_of thread.bindings thread.view) process is
