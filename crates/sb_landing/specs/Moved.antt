-- What a landing does to registers: five of them, the next instruction's address and the flags change.
use Rattle.std.specs.Prelude.{ℕ, [], ◌∷◌, slice_index}
use Rattle.sb_insn.specs.declared.registers.Flags.{Flags}
use Rattle.sb_insn.specs.declared.registers.Regs.{Regs}

-- the registers that a landing changes
pub record Moved : Type 0 where
  pub rax : ℕ
  pub rcx : ℕ
  pub rsp : ℕ
  pub r9 : ℕ
  pub r10 : ℕ
  pub rip : ℕ
  pub flags : Flags

-- the registers at the VMFUNC, with those that have changed since
abbrev pub landing_regs : Regs → Moved → Regs
landing_regs start moved = record {
  general =
      moved.rax ∷ moved.rcx ∷ slice_index start.general 2 ∷ slice_index start.general 3
      ∷ moved.rsp ∷ slice_index start.general 5 ∷ slice_index start.general 6 ∷ slice_index start.general 7
      ∷ slice_index start.general 8 ∷ moved.r9 ∷ moved.r10 ∷ slice_index start.general 11
      ∷ slice_index start.general 12 ∷ slice_index start.general 13 ∷ slice_index start.general 14
      ∷ slice_index start.general 15 ∷ [];
  rip = moved.rip;
  flags = moved.flags;
}
