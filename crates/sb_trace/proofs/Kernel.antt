-- What the kernel does in a step: faults, calls through VMFUNC, and system calls, each by its cases.
use Rattle.std.proofs.Common.{◌≡◌, ◌≢◌, ◌∙◌, sym, ap, subst, ℕ, ◌-◌, ◌^◌, ◌<◌, Bool, true, false, List, [], ◌∷◌, ◌++◌, ◌==◌, refl, inl, inr}
use Rattle.std.specs.Prelude.{Option, Some, None, if◌then◌else◌}
use Rattle.std.specs.Option.{option_map}
use Rattle.sb_insn.specs.declared.registers.Regs.{Regs}
use Rattle.sb_bus.specs.declared.stop.FaultKind.{FaultKind}
use Rattle.sb_bus.specs.declared.stop.FaultKind.TheVariants as kind
use Rattle.sb_trace.specs.declared.event.Event.{Event}
use Rattle.sb_trace.specs.declared.event.Event.TheVariants.{Fault, ServerFault, ServerExit, Exit, Printed, Sys, Entered, WrongKey, PoolEmpty, Unbound, BadLeaf, Return, Turn, Landing, Idle}
use Rattle.sb_state.specs.declared.end_kind.EndKind.{EndKind}
use Rattle.sb_state.specs.declared.end_kind.EndKind.TheVariants.{Ended, Faulted}
use Rattle.sb_state.specs.declared.page.PageName.TheVariants.{Pool}
use Rattle.sb_state.specs.declared.state.Binding.{Binding}
use Rattle.sb_state.specs.declared.state.Thread.{Thread}
use Rattle.sb_state.specs.State.{State, thread_at, no_thread, with_thread, with_regs, with_end, with_view, process_at, registration_at, with_contents}
use Rattle.sb_state.specs.PageWords.{with_word}
use Rattle.sb_state.specs.Registers.{rax, rsi, rdi, eax, ecx}
use Rattle.sb_trace.specs.Home.{Outcome, fault_outcome, server_fault_regs, home_address}
use Rattle.sb_trace.specs.KernelCall.{binding_with, pool_word, refusal_outcome, refusal_or_fault, lowest_bit, state_at_handler, entry_regs, entry_outcome, call_outcome, outcome_by_index, kernel_call, handler_in}
use Rattle.sb_state.specs.Windows.{process_now, server_of}
use Rattle.sb_state.specs.Pattern.{heap_pattern}
use Rattle.sb_abi.specs.declared.call.CallRefusal.{CallRefusal}
use Rattle.sb_abi.specs.declared.call.CallRefusal.TheVariants as refusal
use Rattle.sb_abi.specs.Numbers.{refusal_number}
use Rattle.sb_calls.specs.Refusals.{protect_refusal}
use Rattle.sb_calls.specs.SyscallRegisters.{regs_with_answer, regs_after_bind}
use Rattle.sb_trace.specs.SyscallAnswer.{syscall_refusal, syscall_acceptance}
use Rattle.sb_trace.specs.SyscallRegister.{refusal_of_register, with_registration, with_server, register_outcome}
use Rattle.sb_trace.specs.SyscallBind.{refusal_of_bind, new_binding, binding_pages, with_binding, binding_outcome, bind_outcome, server_words}
use Rattle.sb_trace.specs.SyscallProtect.{heap_count, with_heap_mode, execute_mode_outcome, protect_outcome_by}
use Rattle.sb_trace.specs.Syscall.{exit_outcome, outcome_by_number, syscall_outcome}
use Rattle.sb_trace.specs.Sound.{HasView}
use Rattle.sb_trace.specs.Changes.{OnlyThreads, AddsStacks, LineChanges, StepChanges}
use Rattle.std.proofs.lemmas.Bool.Decides.{Decides-eqb}
use Rattle.sb_state.proofs.Cases.{claim_if, clash}
use Rattle.sb_state.proofs.Names.{number}
use Rattle.sb_state.proofs.Indices.{indices_are_free}
use Rattle.sb_state.proofs.Threads.{thread_set, thread_set_there}
use Rattle.sb_trace.proofs.Accepted.{IsRegistering, registering, IsBinding, binding, protecting}
use Rattle.sb_trace.proofs.Threads.{HasThread, set_found, bindings_set, bindings_both, only_thread, only_both, only_none, bound_there, view_bound}

-- a line of a step that the kernel does: none of a landing, and not idle
abbrev pub IsOwn : Event → Type 0
IsOwn (Landing phase) = ⊥
IsOwn Idle = ⊥
IsOwn _ = Unit {0}

-- what is said of each outcome of the kernel, by the thread that makes the step: what changes, that flights stay, that its
-- line is none of a landing, and that the thread keeps a view
pub record Did (old : State) (core : ℕ) (outcome : Outcome) : Type 0 where
  pub changes : HasThread old core → StepChanges old core outcome.0 outcome.1
  pub flights : outcome.1.flights ≡ old.flights
  pub own : IsOwn outcome.0
  pub view : HasView (thread_at old core) → HasView (thread_at outcome.1 core)

-- ---- only the thread changes

still : (state : State) (core : ℕ) (thread : Thread) → thread.bindings ≡ (thread_at state core).bindings
    → OnlyThreads state (with_thread state core thread)
still state core thread bindings = record {
  become = refl;
  bindings = bindings_set state core thread bindings;
  processes = refl;
  free = refl;
  keys = refl;
}

-- the thread becomes another of the same home
did_thread : (state : State) (core : ℕ) (event : Event) (thread : Thread) → thread.home ≡ (thread_at state core).home
    → (HasView (thread_at state core) → HasView thread) → IsOwn event
    → LineChanges state core event (with_thread state core thread)
    → Did state core (event, with_thread state core thread)
did_thread state core event thread home view own changes = record {
  changes = λ there. record { thread = only_thread state core thread home; rest = changes };
  flights = refl;
  own = own;
  view = λ given. thread_set HasView state core thread (view given) given;
}

-- it goes on in its home view
did_home : (state : State) (core : ℕ) (event : Event) (regs : Regs) → IsOwn event
    → (OnlyThreads state (with_view state core 0 regs) → LineChanges state core event (with_view state core 0 regs))
    → Did state core (event, with_view state core 0 regs)
unfolding with_view
did_home state core event regs own changes =
    did_thread state core event (record (thread_at state core) { view = 0; regs = regs }) refl
    (λ given. ((thread_at state core).home, refl)) own
    (changes (still state core (record (thread_at state core) { view = 0; regs = regs }) refl))

-- it goes on in its view
did_regs : (state : State) (core : ℕ) (event : Event) (regs : Regs) → IsOwn event
    → (OnlyThreads state (with_regs state core regs) → LineChanges state core event (with_regs state core regs))
    → Did state core (event, with_regs state core regs)
unfolding with_regs
did_regs state core event regs own changes =
    did_thread state core event (record (thread_at state core) { regs = regs }) refl (λ given. given) own
    (changes (still state core (record (thread_at state core) { regs = regs }) refl))

-- it ends
did_end : (state : State) (core : ℕ) (event : Event) (end : EndKind) → IsOwn event
    → (OnlyThreads state (with_end state core end) → LineChanges state core event (with_end state core end))
    → Did state core (event, with_end state core end)
unfolding with_end
did_end state core event end own changes =
    did_thread state core event (record (thread_at state core) { state = end }) refl (λ given. given) own
    (changes (still state core (record (thread_at state core) { state = end }) refl))

-- ---- faults

pub did_fault : (state : State) (core : ℕ) (kind : FaultKind) (address : ℕ)
    → Did state core (fault_outcome state core kind address)
did_fault state core kind address =
    claim_if (Did state core) ((thread_at state core).view == 0) _ _
    (λ home. did_end state core (Fault kind address) (Faulted kind address) tt (λ same. same))
    (λ away. did_home state core (ServerFault kind address) server_fault_regs tt (λ same. same))

-- ---- calls through VMFUNC

-- the lines of refused calls
abbrev IsRefused : Event → Type 0
IsRefused (WrongKey index) = Unit {0}
IsRefused (PoolEmpty index) = Unit {0}
IsRefused (Unbound index) = Unit {0}
IsRefused (BadLeaf index) = Unit {0}
IsRefused _ = ⊥

did_refused : (state : State) (core : ℕ) (line : Event) (status : ℕ) → IsRefused line
    → Did state core (refusal_outcome state core (thread_at state core) line status)
did_refused state core (WrongKey index) status is = did_home state core (WrongKey index) _ tt (λ same. same)
did_refused state core (PoolEmpty index) status is = did_home state core (PoolEmpty index) _ tt (λ same. same)
did_refused state core (Unbound index) status is = did_home state core (Unbound index) _ tt (λ same. same)
did_refused state core (BadLeaf index) status is = did_home state core (BadLeaf index) _ tt (λ same. same)
did_refused state core _ status is = absurd is

did_not_switched : (state : State) (core : ℕ) (line : Event) (status : ℕ) → IsRefused line
    → Did state core (refusal_or_fault state core (thread_at state core) line status)
did_not_switched state core line status is =
    claim_if (Did state core) ((thread_at state core).view == 0) _ _ (λ home. did_refused state core line status is)
    (λ away. did_fault state core kind.Switch (thread_at state core).regs.rip)

did_returned : (state : State) (core : ℕ) (test : Bool) (regs : Regs)
    → Did state core (if test then Turn else Return, with_view state core 0 regs)
did_returned state core true regs = did_home state core Turn regs tt (λ same. same)
did_returned state core false regs = did_home state core Return regs tt (λ same. same)

-- the thread as it enters
abbrev enters : State → ℕ → Binding → ℕ → Thread
enters state core binding word = record (thread_at state core) {
  view = binding.index;
  regs = entry_regs (thread_at state core).regs (lowest_bit word) (handler_in (registration_at state binding.server));
}

did_entered : (state : State) (core : ℕ) (binding : Binding)
    → server_of (thread_at state core).bindings binding.index ≡ Some binding.server → pool_word state binding.server ≢ 0
    → Did state core (
      Entered binding.index (lowest_bit (pool_word state binding.server)),
      state_at_handler state core (thread_at state core) binding (pool_word state binding.server),
    )
unfolding with_view with_word with_contents thread_at
did_entered state core binding bound some =
    let word : ℕ = pool_word state binding.server in
    let mid = with_word state (Pool binding.server) 0 (word - 2 ^ lowest_bit word) in
    record {
      changes = λ there. record {
        thread =
            only_both state core mid (with_thread mid core (enters state core binding word)) (only_none state core mid refl refl)
            (only_thread mid core (enters state core binding word) refl);
        rest = record {
          server = binding.server;
          bound = bound;
          some = some;
          lowest = refl;
          view = ap (λ (thread : Thread). thread.view)
              (thread_set_there mid core (thread_at state core) (enters state core binding word) there);
          only = record {
            become = refl;
            bindings = bindings_set mid core (enters state core binding word) refl;
            processes = refl;
            free = refl;
            keys = refl;
          };
        };
      };
      flights = refl;
      own = tt;
      view = λ given. thread_set HasView mid core (enters state core binding word)
          (view_bound (enters state core binding word) binding.server bound) given;
    }

did_taken : (state : State) (core : ℕ) (binding : Binding)
    → server_of (thread_at state core).bindings binding.index ≡ Some binding.server
    → Did state core (entry_outcome state core (thread_at state core) binding (pool_word state binding.server))
did_taken state core binding bound =
    claim_if (Did state core) (pool_word state binding.server == 0) _ _
    (λ none. did_refused state core (PoolEmpty binding.index) 2 tt)
    (λ some. did_entered state core binding bound
    (λ none. clash (pool_word state binding.server == 0) ((Decides-eqb (pool_word state binding.server) 0).1 none) some))

did_through : (state : State) (core index : ℕ) (found : Option Binding)
    → binding_with (thread_at state core).bindings index ≡ found
    → Did state core (call_outcome state core (thread_at state core) index found)
did_through state core index None is = did_not_switched state core (Unbound index) 3 tt
did_through state core index (Some binding) is =
    let there = bound_there (thread_at state core).bindings index binding is in
    claim_if (Did state core) (rsi (thread_at state core).regs == binding.key) _ _
    (λ fits. did_taken state core binding
    (subst (λ (n : ℕ). server_of (thread_at state core).bindings n ≡ Some binding.server) (sym there.0) there.1))
    (λ wrong. did_refused state core (WrongKey binding.index) 1 tt)

did_switched_by : (state : State) (core leaf index : ℕ)
    → Did state core (outcome_by_index state core (thread_at state core) leaf index)
did_switched_by state core leaf index =
    claim_if (Did state core) (leaf == 0) _ _
    (λ switches. claim_if (Did state core) (index == 0) _ _
    (λ home. did_returned state core ((thread_at state core).view == 0)
    (record (thread_at state core).regs { rip = home_address }))
    (λ away. did_through state core index (binding_with (thread_at state core).bindings index) refl))
    (λ bad. did_not_switched state core (BadLeaf index) 5 tt)

pub did_call : (state : State) (core : ℕ) → Did state core (kernel_call state core)
unfolding kernel_call
did_call state core = did_switched_by state core (eax (thread_at state core).regs) (ecx (thread_at state core).regs)

-- ---- system calls

-- a refusal's number is not 0
refusal_some : (refusal : CallRefusal) → refusal_number refusal ≢ 0
refusal_some refusal.InServer = λ same. cc
refusal_some refusal.Already = λ same. cc
refusal_some refusal.BadHandler = λ same. cc
refusal_some refusal.BadCount = λ same. cc
refusal_some refusal.NoFrames = λ same. cc
refusal_some refusal.NoServer = λ same. cc
refusal_some refusal.ListFull = λ same. cc
refusal_some refusal.NoKeys = λ same. cc
refusal_some refusal.BadPage = λ same. cc
refusal_some refusal.BadMode = λ same. cc
refusal_some refusal.Pattern = λ same. cc
refusal_some refusal.NoCall = λ same. cc

did_declined : (state : State) (core : ℕ) (next : Regs) (refusal : CallRefusal) (second : ℕ)
    → Did state core (syscall_refusal state core next refusal second)
did_declined state core next refusal second =
    did_regs state core (Sys (rax next) (refusal_number refusal)) _ tt (λ same. inl (refusal_some refusal, same))

-- ---- exit

-- a thread that is given registers is there as before
regs_there : (state : State) (core : ℕ) (regs : Regs) → HasThread state core → HasThread (with_regs state core regs) core
unfolding with_regs thread_at
regs_there state core regs there = set_found state.threads core (thread_at state core) _ no_thread there

did_exit : (state : State) (core : ℕ) (next : Regs) → Did state core (exit_outcome state core next)
did_exit state core next =
    claim_if (Did state core) ((thread_at state core).view == 0) _ _
    (λ home.
    let first = did_regs state core (Exit (rdi next)) next tt (λ same. same) in
    let last = did_end (with_regs state core next) core (Exit (rdi next)) (Ended (rdi next)) tt (λ same. same) in
    record {
      changes = λ there.
          let one = first.changes there in
          let other = last.changes (regs_there state core next there) in
          record {
            thread = only_both state core (with_regs state core next) _ one.thread other.thread;
            rest = record {
              become = other.rest.become ∙ one.rest.become;
              bindings = bindings_both state (with_regs state core next) _ one.rest.bindings other.rest.bindings;
              processes = other.rest.processes ∙ one.rest.processes;
              free = other.rest.free ∙ one.rest.free;
              keys = other.rest.keys ∙ one.rest.keys;
            };
          };
      flights = last.flights ∙ first.flights;
      own = tt;
      view = λ given. last.view (first.view given);
    })
    (λ away. did_home state core (ServerExit (rdi next)) server_fault_regs tt (λ same. same))

-- ---- register

-- in the home view a thread's process is its home
home_now : (thread : Thread) → thread.view ≡ 0 → process_now thread ≡ thread.home
home_now thread home = rw home refl

did_server : (state : State) (core : ℕ) (next : Regs) (process : ℕ) → rax next ≡ 2
    → process ≡ (thread_at state core).home → IsRegistering state (thread_at state core).view process (rdi next) (rsi next)
    → Did state core (syscall_acceptance (with_server state process (rdi next) (rsi next)) core next)
unfolding with_server with_word with_contents with_regs thread_at
did_server state core next process call home asks =
    let mid = with_server state process (rdi next) (rsi next) in
    let thread : Thread = record (thread_at state core) { regs = regs_with_answer next 0 0 } in
    record {
      changes = λ there. record {
        thread =
            only_both state core mid (with_thread mid core thread) (only_none state core mid refl refl)
            (only_thread mid core thread refl);
        rest = inr (inl (
          refl,
          call,
          asks.home,
          subst (λ (number : ℕ). AddsStacks state number (with_thread mid core thread)) home (record {
            found = asks.found;
            there = asks.there;
            none = asks.none;
            handler = rdi next;
            listed = asks.listed;
            stacks = rsi next;
            some = asks.some;
            few = asks.few;
            room = asks.room;
            pages = refl;
            processes = ap (λ one. with_registration one state.processes process
                (record { handler = rdi next; stacks = rsi next })) asks.there;
            bindings = bindings_set mid core thread refl;
            free = refl;
            keys = refl;
          }),
        ));
      };
      flights = refl;
      own = tt;
      view = λ given. thread_set HasView mid core thread given given;
    }

did_registered : (state : State) (core : ℕ) (next : Regs) (refusal : Option CallRefusal) → rax next ≡ 2
    → refusal_of_register state (thread_at state core).view (process_now (thread_at state core)) (rdi next) (rsi next) ≡ refusal
    → Did state core (register_outcome state core next (process_now (thread_at state core)) refusal)
did_registered state core next (Some refusal) call is = did_declined state core next refusal 0
did_registered state core next None call is =
    let asks = registering state (thread_at state core).view (process_now (thread_at state core)) (rdi next) (rsi next) is in
    did_server state core next (process_now (thread_at state core)) call (home_now (thread_at state core) asks.home) asks

-- ---- bind

-- the server of a binding
abbrev server_in : Option Binding → Option ℕ
server_in = option_map (λ (binding : Binding). binding.server)

-- a view stays one where a binding is added
server_behind : (test : Bool) (first : Binding) (found found' : Option Binding) (process : ℕ)
    → (server_in found ≡ Some process → server_in found' ≡ Some process)
    → server_in (if test then Some first else found) ≡ Some process
    → server_in (if test then Some first else found') ≡ Some process
server_behind true first found found' process more is = is
server_behind false first found found' process more is = more is

server_added : (bindings others : List Binding) (index process : ℕ) → server_of bindings index ≡ Some process
    → server_of (bindings ++ others) index ≡ Some process
server_added [] others index process is = absurd cc
server_added (first ∷ bindings) others index process is =
    server_behind (first.index == index) first (binding_with bindings index) (binding_with (bindings ++ others) index) process
    (server_added bindings others index process) is

shown_added : (test : Bool) (home : ℕ) (bindings others : List Binding) (index process : ℕ)
    → (if test then Some home else server_of bindings index) ≡ Some process
    → (if test then Some home else server_of (bindings ++ others) index) ≡ Some process
shown_added true home bindings others index process is = is
shown_added false home bindings others index process is = server_added bindings others index process is

view_added : (thread : Thread) (binding : Binding) (regs : Regs) → HasView thread
    → HasView (record thread { bindings = thread.bindings ++ binding ∷ []; regs = regs })
view_added thread binding regs given =
    (given.0, shown_added (thread.view == 0) thread.home thread.bindings (binding ∷ []) thread.view given.0 given.1)

-- the thread as the binding is there
abbrev binds : State → ℕ → Binding → Thread
binds state core binding = record (thread_at state core) { bindings = (thread_at state core).bindings ++ binding ∷ [] }

bound_view : (state : State) (core : ℕ) (binding : Binding) → HasView (thread_at state core)
    → HasView (thread_at (with_binding state core (thread_at state core) binding) core)
unfolding with_binding thread_at
bound_view state core binding given =
    thread_set HasView state core (binds state core binding)
    (view_added (thread_at state core) binding (thread_at state core).regs given) given

-- the registers do not matter to bindings
bound_list : (state : State) (core : ℕ) (binding : Binding) (regs : Regs) → HasThread state core
    → (thread_at (with_regs (with_binding state core (thread_at state core) binding) core regs) core).bindings
    ≡ (thread_at state core).bindings ++ binding ∷ []
unfolding with_binding with_regs thread_at
bound_list state core binding regs there =
    let mid = with_binding state core (thread_at state core) binding in
    bindings_set mid core (record (thread_at mid core) { regs = regs }) refl core
    ∙ ap (λ (thread : Thread). thread.bindings)
    (thread_set_there state core (thread_at state core) (binds state core binding) there)

did_binding : (state : State) (core : ℕ) (next : Regs) (server : ℕ) → rax next ≡ 3
    → IsBinding state (thread_at state core) server
    → Did state core
    (binding_outcome state core (thread_at state core) next (new_binding state (thread_at state core) server))
unfolding with_binding with_regs
did_binding state core next server call asks =
    let binding = new_binding state (thread_at state core) server in
    let first : Thread = binds state core binding in
    let mid = with_binding state core (thread_at state core) binding in
    let last : Thread = record (thread_at mid core) { regs = regs_after_bind next core binding.index binding.key } in
    record {
      changes = λ there. record {
        thread = only_both state core (with_thread state core first) (with_thread mid core last)
            (only_thread state core first refl)
            (only_both (with_thread state core first) core mid (with_thread mid core last)
            (only_none (with_thread state core first) core mid refl refl) (only_thread mid core last refl));
        rest = inr (inr (inl (
          refl,
          call,
          asks.home,
          record {
            there = there;
            binding = binding;
            index = indices_are_free (thread_at state core).bindings asks.few;
            away = asks.away;
            registration = asks.registration;
            registered = asks.registered;
            key = asks.key;
            bindings = bound_list state core binding (regs_after_bind next core binding.index binding.key) there;
            room = asks.room;
            pages = ap (λ found. state.pages
                ++ binding_pages core binding.index (server_words core (thread_at state core) binding (handler_in found)))
                asks.registered;
            processes = refl;
            free = refl;
          },
        )));
      };
      flights = refl;
      own = tt;
      view = λ given. thread_set HasView mid core last (bound_view state core binding given)
          (bound_view state core binding given);
    }

did_bound : (state : State) (core : ℕ) (next : Regs) (refusal : Option CallRefusal) → rax next ≡ 3
    → refusal_of_bind state (thread_at state core) (rdi next) ≡ refusal
    → Did state core (bind_outcome state core (thread_at state core) next refusal)
did_bound state core next (Some refusal) call is = did_declined state core next refusal 0
did_bound state core next None call is =
    did_binding state core next (rdi next) call (binding state (thread_at state core) (rdi next) is)

-- ---- protect

did_mode : (state : State) (core : ℕ) (next : Regs) (page : ℕ) (executable : Bool) → rax next ≡ 4
    → page < heap_count (process_at state (process_now (thread_at state core)))
    → (executable ≡ true → heap_pattern state (process_now (thread_at state core)) page ≡ None)
    → Did state core (syscall_acceptance (with_heap_mode state (process_now (thread_at state core)) page executable) core next)
unfolding with_heap_mode with_regs thread_at
did_mode state core next page executable call inside harmless =
    let mid = with_heap_mode state (process_now (thread_at state core)) page executable in
    let thread : Thread = record (thread_at state core) { regs = regs_with_answer next 0 0 } in
    record {
      changes = λ there. record {
        thread =
            only_both state core mid (with_thread mid core thread) (only_none state core mid refl refl)
            (only_thread mid core thread refl);
        rest = inr (inr (inr (
          refl,
          call,
          record {
            page = page;
            there = inside;
            executable = executable;
            harmless = harmless;
            only = record {
              become = refl;
              bindings = bindings_set mid core thread refl;
              processes = refl;
              free = refl;
              keys = refl;
            };
          },
        )));
      };
      flights = refl;
      own = tt;
      view = λ given. thread_set HasView mid core thread given given;
    }

did_executable : (state : State) (core : ℕ) (next : Regs) (page : ℕ) (found : Option ℕ) → rax next ≡ 4
    → page < heap_count (process_at state (process_now (thread_at state core)))
    → heap_pattern state (process_now (thread_at state core)) page ≡ found
    → Did state core (execute_mode_outcome state core next (process_now (thread_at state core)) page found)
did_executable state core next page (Some address) call inside is = did_declined state core next refusal.Pattern address
did_executable state core next page None call inside is = did_mode state core next page true call inside (λ executable. is)

did_protects_by : (state : State) (core : ℕ) (next : Regs) (page mode : ℕ) (refusal : Option CallRefusal) → rax next ≡ 4
    → protect_refusal (heap_count (process_at state (process_now (thread_at state core)))) page mode ≡ refusal
    → Did state core (protect_outcome_by state core next (process_now (thread_at state core)) page mode refusal)
did_protects_by state core next page mode (Some refusal) call is = did_declined state core next refusal 0
did_protects_by state core next page mode None call is =
    let inside = protecting (heap_count (process_at state (process_now (thread_at state core)))) page mode is in
    claim_if (Did state core) (mode == 1) _ _
    (λ executed. did_executable state core next page (heap_pattern state (process_now (thread_at state core)) page) call inside
    refl)
    (λ written. did_mode state core next page false call inside (λ executable. absurd cc))

-- ---- by number

did_called_by : (state : State) (core : ℕ) (next : Regs)
    → Did state core (outcome_by_number state core (thread_at state core) next (rax next))
did_called_by state core next =
    claim_if (Did state core) (rax next == 0) _ _ (λ is. did_exit state core next)
    (λ more. claim_if (Did state core) (rax next == 1) _ _ (λ is. did_regs state core (Printed (rdi next)) _ tt (λ same. same))
    (λ more. claim_if (Did state core) (rax next == 2) _ _
    (λ is. did_registered state core next _ (number (rax next) 2 is) refl)
    (λ more. claim_if (Did state core) (rax next == 3) _ _
    (λ is. did_bound state core next _ (number (rax next) 3 is) refl)
    (λ more. claim_if (Did state core) (rax next == 4) _ _
    (λ is. did_protects_by state core next (rdi next) (rsi next) _ (number (rax next) 4 is) refl)
    (λ more. did_declined state core next refusal.NoCall 0)))))

pub did_syscall : (state : State) (core : ℕ) (next : Regs) → Did state core (syscall_outcome state core next)
unfolding syscall_outcome
did_syscall state core next = did_called_by state core next
