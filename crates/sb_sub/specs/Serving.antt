-- What a system call answers and leaves, beside the outcome of the definitions.
use Rattle.std.specs.Prelude.{ℕ, ◌≡◌, ◌≢◌, ◌==◌, if◌then◌else◌}
use Rattle.sb_insn.specs.declared.registers.Regs.{Regs}
use Rattle.sb_calls.specs.SyscallRegisters.{after_syscall, server_fault_regs}
use Rattle.sb_memory.specs.Physical.{Physical}
use Rattle.sb_frames.specs.Book.{Book}
use Rattle.sb_root.specs.declared.root_kernel.RootKernel.{RootKernel}
use Rattle.sb_root.specs.Root.{IsSet, eptp_list_frame, view_of}
use Rattle.sb_trace.specs.declared.event.Event.{Event}
use Rattle.sb_trace.specs.declared.event.Event.TheVariants as event
use Rattle.sb_trace.specs.State.{State, thread_at}
use Rattle.sb_trace.specs.Home.{Outcome}
use Rattle.sb_sub.specs.declared.answer.Answer.{Answer}
use Rattle.sb_sub.specs.declared.answer.Answer.TheVariants.{Back, Printed, Ended, GoHome}
use Rattle.sb_sub.specs.Kernel.{Kernel}
use Rattle.sb_sub.specs.StandsFor.{StandsFor}

-- ---- registers

-- the registers after SYSCALL, from those with which its thread stands at the next instruction
abbrev pub entered : Regs → Regs
entered regs = after_syscall regs.rip regs

-- ---- answers

abbrev pub line_of : Answer → Event
line_of (Back number answer) = event.Sys number answer
line_of (Printed value) = event.Printed value
line_of (Ended status) = event.Exit status
line_of (GoHome status) = event.ServerExit status

-- a call that was refused
abbrev pub IsRefused : Answer → Type 0
IsRefused (Back number answer) = answer ≢ 0
IsRefused (Printed value) = ⊥
IsRefused (Ended status) = ⊥
IsRefused (GoHome status) = ⊥

-- The line is the outcome's, the thread's registers are those of the state after it, and that state is what is stood for.
pub record Serves (kernel : Kernel) (root : RootKernel) (book : Book) (memory : Physical) (thread : ℕ) (answer : Answer)
    (regs : Regs) (outcome : Outcome) : Type 0 where
  pub line : line_of answer ≡ outcome.0
  pub registers : regs ≡ (thread_at outcome.1 thread).regs
  pub stands : StandsFor kernel root book memory outcome.1

-- From each state that is stood for, a call gives the outcome of the definitions: the thread in its present view, by the
-- registers after SYSCALL.
abbrev pub ServesBy : (State → ℕ → Regs → Outcome) → Kernel → RootKernel → Book → Physical → Kernel → RootKernel → Book → Physical
    → ℕ → ℕ → Answer → Regs → Regs → Type 0
ServesBy outcome kernel root book memory kernel' root' book' memory' thread view answer old new =
    (state : State) → StandsFor kernel root book memory state → (thread_at state thread).view ≡ view
    → Serves kernel' root' book' memory' thread answer new (outcome state thread (entered old))

-- Each list stays in its frame, and each view that is set stays what it is: its entry, its tables, and its own pages.
pub record KeepsLists (old new : RootKernel) : Type 0 where
  pub lists : (thread : ℕ) → eptp_list_frame new thread ≡ eptp_list_frame old thread
  pub views : (thread index : ℕ) → IsSet old thread index → view_of new thread index ≡ view_of old thread index

-- what exit answers, and the registers that it leaves
abbrev pub exit_answer : ℕ → ℕ → Answer
exit_answer view status = if view == 0 then Ended status else GoHome status

abbrev pub exit_regs : ℕ → Regs → Regs
exit_regs view regs = if view == 0 then entered regs else server_fault_regs
