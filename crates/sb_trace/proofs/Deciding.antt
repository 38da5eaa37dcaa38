-- What a phase that decides has seen, and where the kernel's call then leaves the thread.
use Rattle.std.proofs.Common.{◌≡◌, ◌≢◌, ◌∙◌, sym, ap, subst, ℕ, ◌-◌, ◌^◌, Bool, true, false, ◌==◌, refl, arith}
use Rattle.std.specs.Prelude.{Option, Some, None}
use Rattle.std.proofs.lemmas.Bool.Decides.{Decides-eqb}
use Rattle.std.proofs.lemmas.Bool.{eqb-false}
use Rattle.sb_insn.specs.declared.registers.Regs.{Regs}
use Rattle.sb_trace.specs.declared.event.Event.{Event}
use Rattle.sb_trace.specs.declared.event.Event.TheVariants.{WrongKey, PoolEmpty, Entered}
use Rattle.sb_state.specs.declared.end_kind.EndKind.TheVariants.{Running}
use Rattle.sb_state.specs.declared.page.PageName.TheVariants.{Pool}
use Rattle.sb_state.specs.declared.state.Binding.{Binding}
use Rattle.sb_state.specs.declared.state.Decision.{Decision}
use Rattle.sb_state.specs.declared.state.Decision.TheVariants as decision
use Rattle.sb_state.specs.declared.state.Thread.{Thread}
use Rattle.sb_state.specs.State.{State, thread_at, with_view, with_contents, registration_at}
use Rattle.sb_state.specs.PageWords.{with_word}
use Rattle.sb_state.specs.Registers.{eax, ecx, rsi}
use Rattle.sb_trace.specs.Home.{Outcome}
use Rattle.sb_trace.specs.KernelCall.{binding_with, pool_word, state_at_handler, call_outcome, outcome_by_index, kernel_call, lowest_bit, entry_regs, handler_in}
use Rattle.sb_trace.specs.Flight.{is_key, bound_pool}
use Rattle.sb_state.proofs.Cases.{claim_if, clash}
use Rattle.sb_state.proofs.Threads.{thread_set_there}
use Rattle.sb_trace.proofs.Threads.{HasThread, bound_there}
use Rattle.sb_trace.proofs.InFlight.{flight_of, StandsAtCall, IsUndecided}
use Rattle.sb_trace.proofs.Phases.{Decides}

-- ---- what is seen

is_number : (first second : ℕ) → first ≡ second → (first == second) ≡ true
is_number first second same = (Decides-eqb first second).1 same

-- what the call sees: whether the key fits, and the pool word
abbrev pub Sees : Decision → Bool → ℕ → Type 0
Sees decision.WrongKey fits word = fits ≡ false
Sees decision.PoolEmpty fits word = (fits ≡ true) × (word ≡ 0)
Sees decision.Entered fits word = (fits ≡ true) × (word ≢ 0)

-- with the binding of the flight
fits_is : (found : Option Binding) (word : ℕ) (binding : Binding) → found ≡ Some binding
    → is_key found word ≡ (word == binding.key)
fits_is None word binding is = absurd cc
fits_is (Some one) word binding is = let same : one ≡ binding = cc in ap (λ (b : Binding). word == b.key) same

pool_is : (state : State) (found : Option Binding) (binding : Binding) → found ≡ Some binding
    → bound_pool state found ≡ pool_word state binding.server
pool_is state None binding is = absurd cc
pool_is state (Some one) binding is = let same : one ≡ binding = cc in ap (λ (b : Binding). pool_word state b.server) same

-- a phase that decides has seen what the kernel's call sees
pub decided_sees : (state : State) (thread : Thread) (index phase mask : ℕ)
    (undecided : IsUndecided thread (flight_of index phase mask None)) (decided : Decision)
    → Decides phase (is_key (binding_with thread.bindings index) (rsi thread.regs))
    (bound_pool state (binding_with thread.bindings index)) mask decided
    → Sees decided (rsi thread.regs == undecided.stands.binding.key) (pool_word state undecided.stands.binding.server)
decided_sees state thread index phase mask undecided decision.WrongKey at =
    sym (fits_is (binding_with thread.bindings index) (rsi thread.regs) undecided.stands.binding undecided.stands.bound) ∙ at.1
decided_sees state thread index phase mask undecided decision.PoolEmpty at =
    let two : phase ≡ 2 = at.0 in (
      is_number (rsi thread.regs) undecided.stands.binding.key (undecided.key (λ zero. omega arith)),
      sym (pool_is state (binding_with thread.bindings index) undecided.stands.binding undecided.stands.bound) ∙ at.1,
    )
decided_sees state thread index phase mask undecided decision.Entered at =
    let eight : phase ≡ 8 = at.0 in (
      is_number (rsi thread.regs) undecided.stands.binding.key (undecided.key (λ zero. omega arith)),
      λ zero.
          undecided.mask (omega arith)
          (sym at.1
          ∙ (pool_is state (binding_with thread.bindings index) undecided.stands.binding undecided.stands.bound ∙ zero)),
    )

-- ---- where the call leaves the thread

-- the view of a thread whose call is decided
abbrev pub IsDecidedView : Decision → ℕ → ℕ → Type 0
IsDecidedView decision.Entered index view = view ≡ index
IsDecidedView decision.WrongKey index view = view ≡ 0
IsDecidedView decision.PoolEmpty index view = view ≡ 0

-- behind the decision the thread runs, in its view, with the bindings that it had
pub record IsBehindCall (old : State) (core : ℕ) (decided : Decision) (index : ℕ) (outcome : Outcome) : Type 0 where
  pub running : (thread_at outcome.1 core).state ≡ Running
  pub bindings : (thread_at outcome.1 core).bindings ≡ (thread_at old core).bindings
  pub view : IsDecidedView decided index (thread_at outcome.1 core).view

-- a running thread that is there
abbrev pub RunsThere : State → ℕ → Type 0
RunsThere state core = HasThread state core × ((thread_at state core).state ≡ Running)

behind_in : (state : State) (core view : ℕ) (event : Event) (regs : Regs) (decided : Decision) (index : ℕ)
    → RunsThere state core → IsDecidedView decided index view
    → IsBehindCall state core decided index (event, with_view state core view regs)
unfolding with_view
behind_in state core view event regs decided index runs shows =
    let is = thread_set_there state core (thread_at state core) (record (thread_at state core) { view = view; regs = regs })
    runs.0 in
    record {
      running = ap (λ (thread : Thread). thread.state) is ∙ runs.1;
      bindings = ap (λ (thread : Thread). thread.bindings) is;
      view = subst (IsDecidedView decided index) (sym (ap (λ (thread : Thread). thread.view) is)) shows;
    }

behind_entered : (state : State) (core : ℕ) (binding : Binding) (word index : ℕ) → RunsThere state core → binding.index ≡ index
    → IsBehindCall state core decision.Entered index
    (Entered binding.index (lowest_bit word), state_at_handler state core (thread_at state core) binding word)
unfolding with_word with_contents thread_at
behind_entered state core binding word index runs same =
    let mid = with_word state (Pool binding.server) 0 (word - 2 ^ lowest_bit word) in
    let behind = behind_in mid core binding.index (Entered binding.index (lowest_bit word))
    (entry_regs (thread_at state core).regs (lowest_bit word) (handler_in (registration_at state binding.server)))
    decision.Entered index runs same in
    record { running = behind.running; bindings = behind.bindings; view = behind.view }

behind_bound : (state : State) (core index : ℕ) (binding : Binding) (decided : Decision) → RunsThere state core
    → binding.index ≡ index
    → Sees decided (rsi (thread_at state core).regs == binding.key) (pool_word state binding.server)
    → IsBehindCall state core decided index (call_outcome state core (thread_at state core) index (Some binding))
behind_bound state core index binding decision.WrongKey runs same sees =
    claim_if (IsBehindCall state core decision.WrongKey index) (rsi (thread_at state core).regs == binding.key) _ _
    (λ fits. absurd (clash _ fits sees))
    (λ wrong. behind_in state core 0 (WrongKey binding.index) _ decision.WrongKey index runs refl)
behind_bound state core index binding decision.PoolEmpty runs same sees =
    claim_if (IsBehindCall state core decision.PoolEmpty index) (rsi (thread_at state core).regs == binding.key) _ _
    (λ fits. claim_if (IsBehindCall state core decision.PoolEmpty index) (pool_word state binding.server == 0) _ _
    (λ none. behind_in state core 0 (PoolEmpty binding.index) _ decision.PoolEmpty index runs refl)
    (λ some. absurd (eqb-false _ 0 some sees.1)))
    (λ wrong. absurd (clash _ sees.0 wrong))
behind_bound state core index binding decision.Entered runs same sees =
    claim_if (IsBehindCall state core decision.Entered index) (rsi (thread_at state core).regs == binding.key) _ _
    (λ fits. claim_if (IsBehindCall state core decision.Entered index) (pool_word state binding.server == 0) _ _
    (λ none. absurd (sees.1 ((Decides-eqb (pool_word state binding.server) 0).0 none)))
    (λ some. behind_entered state core binding (pool_word state binding.server) index runs same))
    (λ wrong. absurd (clash _ sees.0 wrong))

behind_through : (state : State) (core index : ℕ) (found : Option Binding) (binding : Binding) (decided : Decision)
    → RunsThere state core → found ≡ Some binding → binding.index ≡ index
    → Sees decided (rsi (thread_at state core).regs == binding.key) (pool_word state binding.server)
    → IsBehindCall state core decided index (call_outcome state core (thread_at state core) index found)
behind_through state core index found binding decided runs is same sees =
    subst (λ one. IsBehindCall state core decided index (call_outcome state core (thread_at state core) index one)) (sym is)
    (behind_bound state core index binding decided runs same sees)

behind_called : (state : State) (core leaf index : ℕ) (binding : Binding) (decided : Decision) → RunsThere state core
    → leaf ≡ 0 → index ≢ 0 → binding_with (thread_at state core).bindings index ≡ Some binding
    → Sees decided (rsi (thread_at state core).regs == binding.key) (pool_word state binding.server)
    → IsBehindCall state core decided index (outcome_by_index state core (thread_at state core) leaf index)
behind_called state core leaf index binding decided runs none away bound sees =
    claim_if (IsBehindCall state core decided index) (leaf == 0) _ _
    (λ switches. claim_if (IsBehindCall state core decided index) (index == 0) _ _
    (λ home. absurd (away ((Decides-eqb index 0).0 home)))
    (λ server. behind_through state core index (binding_with (thread_at state core).bindings index) binding decided runs bound
    (bound_there (thread_at state core).bindings index binding bound).0 sees))
    (λ bad. absurd (eqb-false leaf 0 bad none))

-- the kernel's call of a thread at the VMFUNC, by what it sees
pub call_behind : (state : State) (core index : ℕ) (stands : StandsAtCall (thread_at state core) index) (decided : Decision)
    → RunsThere state core
    → Sees decided (rsi (thread_at state core).regs == stands.binding.key) (pool_word state stands.binding.server)
    → IsBehindCall state core decided index (kernel_call state core)
unfolding kernel_call
call_behind state core index stands decided runs sees =
    subst (λ n. IsBehindCall state core decided n
    (outcome_by_index state core (thread_at state core) (eax (thread_at state core).regs) (ecx (thread_at state core).regs)))
    stands.names
    (behind_called state core (eax (thread_at state core).regs) (ecx (thread_at state core).regs) stands.binding decided runs
    stands.leaf
    (λ zero. stands.away (sym stands.names ∙ zero))
    (subst (λ n. binding_with (thread_at state core).bindings n ≡ Some stands.binding) (sym stands.names) stands.bound) sees)
