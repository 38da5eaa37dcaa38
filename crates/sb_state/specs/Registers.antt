-- Registers by name (SDM volume 2, section 2.2.1), and the values that the kernel puts into them.
use Rattle.std.specs.Prelude.{ℕ, ◌+◌, ◌*◌, ◌%◌, ◌^◌, true, false, slice_index, slice_set}
use Rattle.sb_abi.specs.declared.space.TheConstants.{FIRST_STACK_TOP, STACK_DISTANCE}
use Rattle.sb_abi.specs.declared.trampoline.TheConstants.{RETURN_ADDRESS}
use Rattle.sb_insn.specs.declared.registers.Flags.{Flags}
use Rattle.sb_insn.specs.declared.registers.Regs.{Regs}

abbrev pub rax : Regs → ℕ
rax regs = slice_index regs.general 0

abbrev pub rsi : Regs → ℕ
rsi regs = slice_index regs.general 6

abbrev pub rdi : Regs → ℕ
rdi regs = slice_index regs.general 7

-- the lower 32 bits of RAX: the leaf of VMFUNC (SDM volume 3, section 25.5.6)
abbrev pub eax : Regs → ℕ
eax regs = slice_index regs.general 0 % 2 ^ 32

-- the lower 32 bits of RCX: the index of EPTP switching
abbrev pub ecx : Regs → ℕ
ecx regs = slice_index regs.general 1 % 2 ^ 32

abbrev pub no_flags : Flags
no_flags = record { cf = false; pf = false; zf = false; sf = false; of = false }

-- the flags of a logical instruction whose result is 0
abbrev pub zero_flags : Flags
zero_flags = record { cf = false; pf = true; zf = true; sf = false; of = false }

-- the registers of a call that is refused: R9 has the status, RAX, RCX and R10 are 0, and the thread goes on at home
unfoldable pub refusal_regs : Regs → ℕ → Regs
refusal_regs regs status = record {
  general = slice_set (slice_set (slice_set (slice_set regs.general 9 status) 0 0) 1 0) 10 0;
  rip = RETURN_ADDRESS;
  flags = zero_flags;
}

-- the registers of a call that is entered: RSP is the top word of the server stack of this number, RAX, RCX and R10 are 0, and the
-- thread is at the handler
unfoldable pub entry_regs : Regs → ℕ → ℕ → Regs
entry_regs regs stack handler = record {
  general = slice_set (slice_set (slice_set (slice_set regs.general 4 (FIRST_STACK_TOP + stack * STACK_DISTANCE)) 0 0) 1 0) 10 0;
  rip = handler;
  flags = zero_flags;
}
