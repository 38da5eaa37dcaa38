-- Outcomes of calls by their refusal.
use Rattle.std.specs.Prelude.{ℕ, ◌≡◌, ◌==◌, Option, Some, None}
use Rattle.sb_abi.specs.declared.call.CallRefusal.{CallRefusal}
use Rattle.sb_insn.specs.declared.registers.Regs.{Regs}
use Rattle.sb_memory.specs.Physical.{Physical}
use Rattle.sb_frames.specs.Book.{Book}
use Rattle.sb_calls.specs.declared.refusals.TheConstants.{EXECUTE_MODE}
use Rattle.sb_root.specs.declared.root_kernel.RootKernel.{RootKernel}
use Rattle.sb_trace.specs.State.{State, process_at}
use Rattle.sb_trace.specs.Home.{Outcome}
use Rattle.sb_trace.specs.Pattern.{heap_pattern}
use Rattle.sb_trace.specs.SyscallAnswer.{syscall_refusal, syscall_acceptance}
use Rattle.sb_trace.specs.SyscallProtect.{heap_count, with_heap_mode}
use Rattle.sb_trace.specs.SyscallRegister.{refusal_of_register, with_server}
use Rattle.sb_sub.specs.Kernel.{Kernel}
use Rattle.sb_sub.specs.Refusals.{page_refusal}
use Rattle.sb_sub.specs.StandsFor.{StandsFor}

-- the state after protect, but for the thread's registers
abbrev pub after_protect : State → ℕ → ℕ → ℕ → Option (CallRefusal × ℕ) → State
after_protect state process page mode None = with_heap_mode state process page (mode == EXECUTE_MODE)
after_protect state process page mode (Some refusal) = state

-- protect by its refusal
abbrev pub protect_by : State → ℕ → Regs → ℕ → ℕ → ℕ → Option (CallRefusal × ℕ) → Outcome
protect_by state number next process page mode None =
    syscall_acceptance (with_heap_mode state process page (mode == EXECUTE_MODE)) number next
protect_by state number next process page mode (Some refusal) = syscall_refusal state number next refusal.0 refusal.1

-- what protect answers and leaves
pub record ProtectsBy (kernel : Kernel) (root : RootKernel) (book : Book) (memory : Physical) (state : State)
    (process page mode : ℕ) (refusal : Option (CallRefusal × ℕ)) : Type 0 where
  pub is : refusal ≡ page_refusal (heap_count (process_at state process)) page mode (heap_pattern state process page)
  pub stands : StandsFor kernel root book memory (after_protect state process page mode refusal)

-- the state after register, but for the thread's registers
abbrev pub after_register : State → ℕ → ℕ → ℕ → Option CallRefusal → State
after_register state process handler stacks None = with_server state process handler stacks
after_register state process handler stacks (Some refusal) = state

-- what register answers and leaves
pub record RegistersBy (kernel : Kernel) (root : RootKernel) (book : Book) (memory : Physical) (state : State)
    (view process handler stacks : ℕ) (refusal : Option CallRefusal) : Type 0 where
  pub is : refusal ≡ refusal_of_register state view process handler stacks
  pub stands : StandsFor kernel root book memory (after_register state process handler stacks refusal)
