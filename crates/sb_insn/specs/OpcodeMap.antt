-- The opcode maps (SDM volume 2, tables A-2 and A-3), as far as the subset goes: a row for each opcode.
use Rattle.std.specs.Prelude.{ℕ, Bool, true, false, ◌&&◌, ◌==◌, nat_le, if◌then◌else◌, List, [], ◌∷◌}
use Rattle.sb_insn.specs.declared.insn.Op.{Op}
use Rattle.sb_insn.specs.declared.insn.Op.TheVariants as op
use Rattle.sb_insn.specs.declared.opcode_map.Mnemonic.{Mnemonic}
use Rattle.sb_insn.specs.declared.opcode_map.Mnemonic.TheVariants.{Add, Or, And, Sub, Xor, Cmp, Test, Mov, Movzx, Lea, Imul, Push, Pop, Jmp, Jcc, Call, Ret, Xchg, Cmpxchg, Xadd, Bsf, Nop, Endbr64, Syscall, Ud2, Vmfunc}
use Rattle.sb_insn.specs.declared.opcode_map.OperandForm.{OperandForm}
use Rattle.sb_insn.specs.declared.opcode_map.OperandForm.TheVariants.{RmReg, RegRm, RmImm, AccImm, OpcodeImm, RegRmImm, RmCount, RmCl, Rm, Opcode, Imm, Relative, Nothing}
use Rattle.sb_insn.specs.declared.opcode_map.RexRule.{RexRule}
use Rattle.sb_insn.specs.declared.opcode_map.RexRule.TheVariants.{Refused, Permitted}
use Rattle.sb_insn.specs.declared.opcode_map.RmRule.TheVariants as rm_rule
use Rattle.sb_insn.specs.declared.opcode_map.ImmRule.{ImmRule}
use Rattle.sb_insn.specs.declared.opcode_map.ImmRule.TheVariants as imm_rule
use Rattle.sb_insn.specs.declared.opcode_map.ModRmOpcode.{ModRmOpcode}
use Rattle.sb_insn.specs.declared.opcode_map.Group.TheVariants.{Group1, Group2, Group3, Group5, Group11, Group16}
use Rattle.sb_insn.specs.declared.opcode_map.Cell.{Cell}
use Rattle.sb_insn.specs.declared.opcode_map.Cell.TheVariants.{Absent, NoModRm, ModRm, Extended}

-- ---- what stands with an opcode

-- rm is a destination: LOCK may stand where it names memory
abbrev pub lockable : Mnemonic → OperandForm → ImmRule → ModRmOpcode
lockable mnemonic form imm =
    record {
      lock = true;
      rm = rm_rule.Any;
      byte_reg = false;
      byte_rm = false;
      imm = imm;
      instruction = record { mnemonic = mnemonic; form = form };
    }

-- LOCK may not stand
abbrev pub not_lockable : Mnemonic → OperandForm → ImmRule → ModRmOpcode
not_lockable mnemonic form imm =
    record {
      lock = false;
      rm = rm_rule.Any;
      byte_reg = false;
      byte_rm = false;
      imm = imm;
      instruction = record { mnemonic = mnemonic; form = form };
    }

-- rm names memory, whose address is the operand (M in the SDM)
abbrev pub address : Mnemonic → OperandForm → ModRmOpcode
address mnemonic form =
    record {
      lock = false;
      rm = rm_rule.Memory;
      byte_reg = false;
      byte_rm = false;
      imm = imm_rule.None;
      instruction = record { mnemonic = mnemonic; form = form };
    }

-- both operands are bytes (Eb and Gb)
abbrev pub of_bytes : Mnemonic → OperandForm → ModRmOpcode
of_bytes mnemonic form =
    record {
      lock = false;
      rm = rm_rule.Any;
      byte_reg = true;
      byte_rm = true;
      imm = imm_rule.None;
      instruction = record { mnemonic = mnemonic; form = form };
    }

-- rm is a byte, and reg is not (Eb and Gv)
abbrev pub from_byte : Mnemonic → OperandForm → ModRmOpcode
from_byte mnemonic form =
    record {
      lock = false;
      rm = rm_rule.Any;
      byte_reg = false;
      byte_rm = true;
      imm = imm_rule.None;
      instruction = record { mnemonic = mnemonic; form = form };
    }

-- no ModRM byte
abbrev pub no_modrm : RexRule → Mnemonic → OperandForm → ImmRule → Cell
no_modrm rex mnemonic form imm =
    NoModRm (record { rex = rex; imm = imm; instruction = record { mnemonic = mnemonic; form = form } })

-- ---- rows

-- the opcodes of one row: one, or all from one to another
pub data Opcodes : Type 0 where
  Single : ℕ → Opcodes
  Span : (low high : ℕ) → Opcodes

pub record OpcodeRow : Type 0 where
  pub opcodes : Opcodes
  pub cell : Cell

abbrev pub is_of : ℕ → Opcodes → Bool
is_of opcode (Single one) = opcode == one
is_of opcode (Span low high) = nat_le low opcode && nat_le opcode high

-- the cell of the first row that lists the opcode
abbrev pub look_up : ℕ → List OpcodeRow → Cell
look_up opcode [] = Absent
look_up opcode (row ∷ rows) = if is_of opcode row.opcodes then row.cell else look_up opcode rows

abbrev pub row : ℕ → Cell → OpcodeRow
row opcode cell = record { opcodes = Single opcode; cell = cell }

abbrev pub span : ℕ → ℕ → Cell → OpcodeRow
span low high cell = record { opcodes = Span low high; cell = cell }

-- ---- the maps

abbrev pub one_byte_rows : List OpcodeRow
one_byte_rows =
    row 0x01 (ModRm (lockable Add RmReg imm_rule.None))
    ∷ row 0x03 (ModRm (not_lockable Add RegRm imm_rule.None))
    ∷ row 0x05 (no_modrm Permitted Add AccImm imm_rule.I32)
    ∷ row 0x09 (ModRm (lockable Or RmReg imm_rule.None))
    ∷ row 0x0B (ModRm (not_lockable Or RegRm imm_rule.None))
    ∷ row 0x0D (no_modrm Permitted Or AccImm imm_rule.I32)
    ∷ row 0x21 (ModRm (lockable And RmReg imm_rule.None))
    ∷ row 0x23 (ModRm (not_lockable And RegRm imm_rule.None))
    ∷ row 0x25 (no_modrm Permitted And AccImm imm_rule.I32)
    ∷ row 0x29 (ModRm (lockable Sub RmReg imm_rule.None))
    ∷ row 0x2B (ModRm (not_lockable Sub RegRm imm_rule.None))
    ∷ row 0x2D (no_modrm Permitted Sub AccImm imm_rule.I32)
    ∷ row 0x31 (ModRm (lockable Xor RmReg imm_rule.None))
    ∷ row 0x33 (ModRm (not_lockable Xor RegRm imm_rule.None))
    ∷ row 0x35 (no_modrm Permitted Xor AccImm imm_rule.I32)
    ∷ row 0x39 (ModRm (not_lockable Cmp RmReg imm_rule.None))
    ∷ row 0x3B (ModRm (not_lockable Cmp RegRm imm_rule.None))
    ∷ row 0x3D (no_modrm Permitted Cmp AccImm imm_rule.I32)
    ∷ span 0x50 0x57 (no_modrm Permitted Push Opcode imm_rule.None)
    ∷ span 0x58 0x5F (no_modrm Permitted Pop Opcode imm_rule.None)
    ∷ row 0x68 (no_modrm Refused Push Imm imm_rule.I32)
    ∷ row 0x69 (ModRm (not_lockable Imul RegRmImm imm_rule.I32))
    ∷ row 0x6A (no_modrm Refused Push Imm imm_rule.I8)
    ∷ row 0x6B (ModRm (not_lockable Imul RegRmImm imm_rule.I8))
    ∷ span 0x70 0x7F (no_modrm Refused Jcc Relative imm_rule.I8)
    ∷ row 0x81 (Extended Group1 RmImm imm_rule.I32)
    ∷ row 0x83 (Extended Group1 RmImm imm_rule.I8)
    ∷ row 0x85 (ModRm (not_lockable Test RmReg imm_rule.None))
    ∷ row 0x87 (ModRm (lockable Xchg RmReg imm_rule.None))
    ∷ row 0x88 (ModRm (of_bytes Mov RmReg))
    ∷ row 0x89 (ModRm (not_lockable Mov RmReg imm_rule.None))
    ∷ row 0x8A (ModRm (of_bytes Mov RegRm))
    ∷ row 0x8B (ModRm (not_lockable Mov RegRm imm_rule.None))
    ∷ row 0x8D (ModRm (address Lea RegRm))
    ∷ row 0x90 (no_modrm Refused Nop Nothing imm_rule.None)
    ∷ span 0xB8 0xBF (no_modrm Permitted Mov OpcodeImm imm_rule.Wide)
    ∷ row 0xC1 (Extended Group2 RmCount imm_rule.I8)
    ∷ row 0xC3 (no_modrm Refused Ret Nothing imm_rule.None)
    ∷ row 0xC7 (Extended Group11 RmImm imm_rule.I32)
    ∷ row 0xD3 (Extended Group2 RmCl imm_rule.None)
    ∷ row 0xE8 (no_modrm Refused Call Relative imm_rule.I32)
    ∷ row 0xE9 (no_modrm Refused Jmp Relative imm_rule.I32)
    ∷ row 0xEB (no_modrm Refused Jmp Relative imm_rule.I8)
    ∷ row 0xF7 (Extended Group3 Rm imm_rule.None)
    ∷ row 0xFF (Extended Group5 Rm imm_rule.None)
    ∷ []

-- behind 0F
abbrev pub two_byte_rows : List OpcodeRow
two_byte_rows =
    row 0x05 (no_modrm Refused Syscall Nothing imm_rule.None)
    ∷ row 0x0B (no_modrm Refused Ud2 Nothing imm_rule.None)
    ∷ row 0x1F (Extended Group16 Rm imm_rule.None)
    ∷ span 0x80 0x8F (no_modrm Refused Jcc Relative imm_rule.I32)
    ∷ row 0xAF (ModRm (not_lockable Imul RegRm imm_rule.None))
    ∷ row 0xB1 (ModRm (lockable Cmpxchg RmReg imm_rule.None))
    ∷ row 0xB6 (ModRm (from_byte Movzx RegRm))
    ∷ row 0xBC (ModRm (not_lockable Bsf RegRm imm_rule.None))
    ∷ row 0xC1 (ModRm (lockable Xadd RmReg imm_rule.None))
    ∷ []

unfoldable pub one_byte : ℕ → Cell
one_byte opcode = look_up opcode one_byte_rows

unfoldable pub two_byte : ℕ → Cell
two_byte opcode = look_up opcode two_byte_rows

-- what the maps say of an opcode
abbrev pub cell_of : Op → Cell
cell_of (op.One opcode) = one_byte opcode
cell_of (op.Two opcode) = two_byte opcode
cell_of op.Endbr = no_modrm Refused Endbr64 Nothing imm_rule.None
cell_of op.Vmfunc = no_modrm Refused Vmfunc Nothing imm_rule.None
