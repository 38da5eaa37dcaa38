-- The registers that a system call leaves (docs/FORMATS.md, "System calls").
use Rattle.std.specs.Prelude.{ℕ, ◌+◌, replicate, slice_set}
use Rattle.sb_insn.specs.declared.registers.Regs.{Regs}
use Rattle.sb_insn.specs.declared.registers.TheConstants.Flags.{CLEAR}
use Rattle.sb_insn.specs.Registers.{flags_image}
use Rattle.sb_abi.specs.declared.trampoline.TheConstants.{RETURN_ADDRESS}
use Rattle.sb_abi.specs.declared.call.CallStatus.TheVariants.{ServerFault}
use Rattle.sb_abi.specs.Numbers.{status_number}
use Rattle.sb_calls.specs.Views.{buffer_address}
use Rattle.sb_calls.specs.declared.registers.TheConstants.{FIXED_FLAGS}

-- SYSCALL puts the address of the next instruction into RCX, and the flags, with bits 1 and 9, into R11 (SDM volume 2, SYSCALL)
abbrev pub after_syscall : ℕ → Regs → Regs
after_syscall address regs = record {
  general = slice_set (slice_set regs.general 1 address) 11 (flags_image regs.flags + FIXED_FLAGS);
  rip = address;
  flags = regs.flags;
}

-- the answer goes into RAX, and a second value into RDX
abbrev pub regs_with_answer : Regs → ℕ → ℕ → Regs
regs_with_answer regs answer second = record regs { general = slice_set (slice_set regs.general 0 answer) 2 second }

-- after a bind: RAX is 0, RDX the index of the view, R8 its key, and R10 the address of its buffer
abbrev pub regs_after_bind : Regs → ℕ → ℕ → ℕ → Regs
regs_after_bind regs thread index key = record regs {
  general = slice_set (slice_set (slice_set (slice_set regs.general 0 0) 2 index) 8 key) 10 (buffer_address thread index);
}

-- a thread that is sent home from a server's view: R9 has the status of a server fault, and all else is 0
unfoldable pub server_fault_regs : Regs
server_fault_regs = record {
  general = slice_set (replicate 16 0) 9 (status_number ServerFault);
  rip = RETURN_ADDRESS;
  flags = CLEAR;
}
