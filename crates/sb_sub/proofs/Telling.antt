-- Bind by its number, and what its thread is told.
use Rattle.std.proofs.Common.{◌≡◌, ◌∙◌, sym, ap, subst, ℕ, ◌<◌, length}
use Rattle.std.specs.Prelude.{Option, Some, None, Result}
use Rattle.sb_abi.specs.declared.call.CallRefusal.{CallRefusal}
use Rattle.sb_abi.specs.Numbers.{refusal_number}
use Rattle.sb_insn.specs.declared.registers.Regs.{Regs}
use Rattle.sb_calls.specs.SyscallRegisters.{regs_after_bind}
use Rattle.sb_memory.specs.Physical.{Physical}
use Rattle.sb_frames.specs.Book.{Book}
use Rattle.sb_root.specs.declared.root_kernel.RootKernel.{RootKernel}
use Rattle.sb_state.specs.declared.state.Binding.{Binding}
use Rattle.sb_state.proofs.Threads.{regs_set}
use Rattle.sb_trace.specs.declared.event.Event.TheVariants as event
use Rattle.sb_trace.specs.Registers.{rax, rdi}
use Rattle.sb_trace.specs.State.{State, thread_at}
use Rattle.sb_trace.specs.Syscall.{outcome_by_number, syscall_outcome}
use Rattle.sb_trace.specs.SyscallBind.{bind_of_thread, bind_outcome, new_binding, refusal_of_bind, with_binding}
use Rattle.sb_sub.specs.Binding.{BindsBy, after_bind, binding_by}
use Rattle.sb_sub.specs.BindingTold.{binding_answer, binding_regs}
use Rattle.sb_sub.specs.Kernel.{Kernel}
use Rattle.sb_sub.specs.Serving.{Serves, entered}
use Rattle.sb_sub.specs.StandsFor.{StandsFor}
use Rattle.sb_sub.specs.declared.answer.Answer.TheVariants.{Back}
use Rattle.sb_sub.proofs.Calling.{count_same, goes_on, moved_regs, rax_entered, rdi_entered}
use Rattle.sb_sub.proofs.Moves.{stands_moved}

-- call 3 is bind
called_bind : (state : State) (number : ℕ) (next : Regs) → rax next ≡ 3
    → syscall_outcome state number next ≡ bind_of_thread state number (thread_at state number) next
unfolding syscall_outcome
called_bind state number next is = ap (λ (call : ℕ). outcome_by_number state number (thread_at state number) next call) is

-- bind, by its refusal
told_by : (refusal : Option CallRefusal) (kernel : Kernel) (root : RootKernel) (book : Book) (memory : Physical) (state : State)
    (thread : ℕ) (next new : Regs) (number : ℕ)
    → StandsFor kernel root book memory
    (after_bind state thread (binding_by refusal (new_binding state (thread_at state thread) (rdi next))))
    → thread < length kernel.seats → rax next ≡ number
    → new ≡ binding_regs next thread (binding_by refusal (new_binding state (thread_at state thread) (rdi next)))
    → Serves kernel root book memory thread
    (Back number (binding_answer (binding_by refusal (new_binding state (thread_at state thread) (rdi next))))) new
    (bind_outcome state thread (thread_at state thread) next refusal)
told_by None kernel root book memory state thread next new number stands inside same now =
    let binding = new_binding state (thread_at state thread) (rdi next) in
    let mid = with_binding state thread (thread_at state thread) binding in
    let regs = regs_after_bind next thread binding.index binding.key in
    record {
      line = ap (λ (call : ℕ). event.Sys call 0) (sym same);
      registers =
          now ∙ sym (regs_set mid thread regs
          (subst (λ (n : ℕ). thread < n) (count_same kernel root book memory mid stands) inside));
      stands = stands_moved kernel root book memory mid _ (moved_regs mid thread regs) stands;
    }
told_by (Some refusal) kernel root book memory state thread next new number stands inside same now =
    goes_on kernel root book memory state thread next new (refusal_number refusal) 0 stands inside now
    (Back number (refusal_number refusal)) _ (ap (λ (call : ℕ). event.Sys call (refusal_number refusal)) (sym same))

-- what bind leaves is the outcome of the definitions
pub bind_served : (bound : Result Binding CallRefusal) (kernel : Kernel) (root : RootKernel) (book : Book) (memory : Physical)
    (state : State) (thread : ℕ) (old new : Regs) → BindsBy kernel root book memory state thread (rdi old) bound
    → thread < length kernel.seats → rax old ≡ 3 → new ≡ binding_regs (entered old) thread bound
    → Serves kernel root book memory thread (Back (rax old) (binding_answer bound)) new
    (syscall_outcome state thread (entered old))
bind_served bound kernel root book memory state thread old new by inside number now =
    let at = thread_at state thread in
    let told : ℕ → Result Binding CallRefusal =
    λ server. binding_by (refusal_of_bind state at server) (new_binding state at server) in
    let is : bound ≡ told (rdi (entered old)) = by.is ∙ ap told (sym (rdi_entered old)) in
    let stands = subst (λ (one : Result Binding CallRefusal). StandsFor kernel root book memory (after_bind state thread one)) is
    by.stands in
    subst (λ (one : Result Binding CallRefusal). Serves kernel root book memory thread (Back (rax old) (binding_answer one)) new
    (syscall_outcome state thread (entered old))) (sym is)
    (subst (Serves kernel root book memory thread (Back (rax old) (binding_answer (told (rdi (entered old))))) new)
    (sym (called_bind state thread (entered old) (rax_entered old ∙ number)))
    (told_by (refusal_of_bind state at (rdi (entered old))) kernel root book memory state thread (entered old) new (rax old)
    stands inside (rax_entered old) (now ∙ ap (binding_regs (entered old) thread) is)))
