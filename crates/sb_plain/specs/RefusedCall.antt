-- What a refused system call leaves as it was.
use Rattle.std.specs.Prelude.{◌≡◌, ◌≢◌, ℕ, slice_index}
use Rattle.sb_insn.specs.declared.registers.Regs.{Regs}
use Rattle.sb_trace.specs.declared.event.Event.{Event}
use Rattle.sb_trace.specs.declared.event.Event.TheVariants.{Sys}
use Rattle.sb_state.specs.State.{State, thread_at, with_regs}

-- the line of a refused call: its answer is not 0
abbrev pub IsRefusedCall : Event → Type 0
IsRefusedCall (Sys number answer) = answer ≢ 0
IsRefusedCall _ = ⊥

-- the registers are as before, but for RIP, RAX, RCX, RDX and R11
pub record KeepsOthers (before after : Regs) : Type 0 where
  pub general : (register : ℕ) → register ≢ 0 → register ≢ 1 → register ≢ 2 → register ≢ 11
      → slice_index after.general register ≡ slice_index before.general register
  pub flags : after.flags ≡ before.flags

-- nothing has changed but these five registers of the thread of this core
pub record LeavesAll (before after : State) (core : ℕ) : Type 0 where
  pub state : after ≡ with_regs before core (thread_at after core).regs
  pub registers : KeepsOthers (thread_at before core).regs (thread_at after core).regs
