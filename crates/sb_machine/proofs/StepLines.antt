-- A thread in flight has no line of an instruction.
use Rattle.std.proofs.Common.{◌≡◌, sym, subst, ℕ, ◌==◌}
use Rattle.std.specs.Prelude.{Option, Some, None}
use Rattle.sb_bus.specs.declared.stop.FaultKind.{FaultKind}
use Rattle.sb_bus.specs.declared.stop.FaultKind.TheVariants as kind
use Rattle.sb_state.proofs.Cases.{claim_if}
use Rattle.sb_state.specs.Registers.{eax, ecx, rsi}
use Rattle.sb_state.specs.State.{State, thread_at, flight_at}
use Rattle.sb_state.specs.declared.end_kind.EndKind.{EndKind}
use Rattle.sb_state.specs.declared.end_kind.EndKind.TheVariants.{Running}
use Rattle.sb_state.specs.declared.state.Binding.{Binding}
use Rattle.sb_state.specs.declared.state.Decision.{Decision}
use Rattle.sb_state.specs.declared.state.Flight.{Flight}
use Rattle.sb_state.specs.declared.state.Thread.{Thread}
use Rattle.sb_trace.specs.Flight.{landing_step, phase_outcome}
use Rattle.sb_trace.specs.Home.{Outcome, fault_outcome}
use Rattle.sb_trace.specs.KernelCall.{binding_with, call_outcome, kernel_call, outcome_by_index, pool_word, refusal_or_fault}
use Rattle.sb_trace.specs.Step.{GoesOn, Steps, StepsBy}
use Rattle.sb_trace.specs.declared.event.Event.{Event}
use Rattle.sb_trace.specs.declared.event.Event.TheVariants.{BadLeaf, Extra, Return, Step as StepLine, Stray, Turn, Unbound}

-- the lines of instructions
abbrev pub IsNoStep : Event → Type 0
IsNoStep (StepLine rip) = ⊥
IsNoStep (Extra rip) = ⊥
IsNoStep (Stray rip) = ⊥
IsNoStep _ = Unit {0}

abbrev HasNoStep : Outcome → Type 0
HasNoStep outcome = IsNoStep outcome.0

fault_line : (state : State) (core : ℕ) (kind : FaultKind) (address : ℕ) → HasNoStep (fault_outcome state core kind address)
fault_line state core kind address =
    claim_if HasNoStep ((thread_at state core).view == 0) _ _ (λ home. tt) (λ away. tt)

refused_line : (state : State) (core : ℕ) (thread : Thread) (line : Event) (status : ℕ) → IsNoStep line
    → HasNoStep (refusal_or_fault state core thread line status)
refused_line state core thread line status is =
    claim_if HasNoStep (thread.view == 0) _ _ (λ home. is) (λ away. fault_line state core kind.Switch thread.regs.rip)

called_line : (state : State) (core : ℕ) (thread : Thread) (index : ℕ) (found : Option Binding)
    → HasNoStep (call_outcome state core thread index found)
called_line state core thread index None = refused_line state core thread (Unbound index) _ tt
called_line state core thread index (Some binding) =
    claim_if HasNoStep (rsi thread.regs == binding.key) _ _
    (λ fits. claim_if HasNoStep (pool_word state binding.server == 0) _ _ (λ none. tt) (λ some. tt)) (λ wrong. tt)

index_line : (state : State) (core : ℕ) (thread : Thread) (leaf index : ℕ)
    → HasNoStep (outcome_by_index state core thread leaf index)
index_line state core thread leaf index =
    claim_if HasNoStep (leaf == 0) _ _
    (λ first. claim_if HasNoStep (index == 0) _ _
    (λ home. claim_if IsNoStep (thread.view == 0) Turn Return (λ here. tt) (λ away. tt))
    (λ away. called_line state core thread index (binding_with thread.bindings index)))
    (λ other. refused_line state core thread (BadLeaf index) _ tt)

kernel_line : (state : State) (core : ℕ) → HasNoStep (kernel_call state core)
unfolding kernel_call
kernel_line state core =
    index_line state core (thread_at state core) (eax (thread_at state core).regs) (ecx (thread_at state core).regs)

phase_line : (state : State) (core : ℕ) (flight : Flight) (found : Option Decision)
    → HasNoStep (phase_outcome state core flight found)
phase_line state core flight None = tt
phase_line state core flight (Some decided) = kernel_line state core

landing_line : (state : State) (core : ℕ) (flight : Flight) → HasNoStep (landing_step state core flight)
unfolding landing_step
landing_line state core flight = phase_line state core _ _

-- a step of a thread in flight
pub flying_line : (state : State) (core : ℕ) (event : Event) (next : State) (flight : Flight)
    → (thread_at state core).state ≡ Running → flight_at state core ≡ Some flight → Steps state core event next → IsNoStep event
flying_line state core event next flight running flying steps =
    let runs = subst (λ (end : EndKind). StepsBy state core (thread_at state core) end (event, next)) running steps in
    let is = subst (λ found. GoesOn state core (thread_at state core) found (event, next)) flying runs in
    subst HasNoStep (sym is) (landing_line state core flight)
