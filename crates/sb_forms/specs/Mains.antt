-- The instruction that does the work of a moved one: the same with other operands. LOCK and REX stand exactly where they
-- stood, and REX.W is kept.
use Rattle.std.specs.Prelude.{◌+◌, ◌*◌, ◌%◌, List, [], ◌∷◌, Some, None, pos}
use Rattle.sb_insn.specs.declared.insn.Insn.{Insn}
use Rattle.sb_insn.specs.declared.insn.Op.{Op}
use Rattle.sb_insn.specs.declared.insn.Op.TheVariants.{One, Two}
use Rattle.sb_insn.specs.declared.insn.Disp.TheVariants as disp
use Rattle.sb_insn.specs.declared.insn.Imm.TheVariants as imm
use Rattle.sb_insn.specs.declared.opcode_map.Mnemonic.{Mnemonic}
use Rattle.sb_insn.specs.declared.opcode_map.Mnemonic.TheVariants.{Add, Or, And, Sub, Xor, Cmp, Test, Mov, Movzx, Lea, Imul}
use Rattle.sb_insn.specs.declared.opcode_map.Mnemonic.TheVariants.{Not, Neg, Shl, Shr, Sar, Inc, Dec, Push, Pop, Jmp, Jcc}
use Rattle.sb_insn.specs.declared.opcode_map.Mnemonic.TheVariants.{Call, Ret, Xchg, Cmpxchg, Xadd, Bsf, Nop, Endbr64, Syscall}
use Rattle.sb_insn.specs.declared.opcode_map.Mnemonic.TheVariants.{Ud2, Vmfunc}
use Rattle.sb_insn.specs.declared.opcode_map.OperandForm.{OperandForm}
use Rattle.sb_insn.specs.declared.opcode_map.OperandForm.TheVariants.{RmReg, RegRm, RmImm, AccImm, OpcodeImm, RegRmImm}
use Rattle.sb_insn.specs.declared.opcode_map.OperandForm.TheVariants.{RmCount, RmCl, Rm, Opcode, Imm, Relative, Nothing}
use Rattle.sb_insn.specs.Fields.{reg_field, rm_field, rex_r, rex_b}
use Rattle.sb_forms.specs.declared.helper.Helper.{Helper}
use Rattle.sb_forms.specs.declared.mains.RmOperand.{RmOperand}
use Rattle.sb_insn.specs.Rex.{with_r_b}
use Rattle.sb_insn.specs.RegisterNumbers.{modrm_of, last_opcode_byte}
use Rattle.sb_forms.specs.Registers.{number_of}
use Rattle.sb_forms.specs.Pieces.{opcode_alone, wide, wide_at_address, scratch_word}

-- ---- operands

-- memory at a helper: mod 1 with the displacement 0
unfoldable pub at_helper : Helper → RmOperand
at_helper helper = record { mod_rm = 0x40 + number_of helper; disp = disp.D8 (pos 0); rex_b = 0 }

-- the register that the instruction has as its operand beside reg and the immediate: RAX, the one in the opcode, or rm
unfoldable pub own_register : OperandForm → Insn → RmOperand
own_register AccImm insn = record { mod_rm = 0xC0; disp = disp.None; rex_b = 0 }
own_register OpcodeImm insn = record { mod_rm = 0xC0 + last_opcode_byte insn.op % 8; disp = disp.None; rex_b = rex_b insn.rex }
own_register RmReg insn = record { mod_rm = 0xC0 + rm_field (modrm_of insn); disp = disp.None; rex_b = rex_b insn.rex }
own_register RegRm insn = record { mod_rm = 0xC0 + rm_field (modrm_of insn); disp = disp.None; rex_b = rex_b insn.rex }
own_register RmImm insn = record { mod_rm = 0xC0 + rm_field (modrm_of insn); disp = disp.None; rex_b = rex_b insn.rex }
own_register RegRmImm insn = record { mod_rm = 0xC0 + rm_field (modrm_of insn); disp = disp.None; rex_b = rex_b insn.rex }
own_register RmCount insn = record { mod_rm = 0xC0 + rm_field (modrm_of insn); disp = disp.None; rex_b = rex_b insn.rex }
own_register RmCl insn = record { mod_rm = 0xC0 + rm_field (modrm_of insn); disp = disp.None; rex_b = rex_b insn.rex }
own_register Rm insn = record { mod_rm = 0xC0 + rm_field (modrm_of insn); disp = disp.None; rex_b = rex_b insn.rex }
own_register Opcode insn = record { mod_rm = 0xC0 + rm_field (modrm_of insn); disp = disp.None; rex_b = rex_b insn.rex }
own_register Imm insn = record { mod_rm = 0xC0 + rm_field (modrm_of insn); disp = disp.None; rex_b = rex_b insn.rex }
own_register Relative insn = record { mod_rm = 0xC0 + rm_field (modrm_of insn); disp = disp.None; rex_b = rex_b insn.rex }
own_register Nothing insn = record { mod_rm = 0xC0 + rm_field (modrm_of insn); disp = disp.None; rex_b = rex_b insn.rex }

-- ---- with other operands

-- The pattern would begin at ModRM 0F, which is [RDI] or [R15]: the same memory with a displacement 0.
unfoldable pub with_displacement : Insn → Insn
with_displacement insn =
    record insn { rex = with_r_b insn.rex (rex_r insn.rex) (rex_b insn.rex); modrm = Some 0x4F; disp = disp.D8 (pos 0) }

-- the memory operand at a helper
unfoldable pub with_helper : Helper → Insn → Insn
with_helper helper insn = record insn {
  rex = with_r_b insn.rex (rex_r insn.rex) 0;
  modrm = Some ((at_helper helper).mod_rm + 8 * reg_field (modrm_of insn));
  sib = None;
  disp = (at_helper helper).disp;
}

-- The opcode of the same instruction on rm and reg, or for IMUL on reg and rm. PUSH has its register in the opcode, and no
-- other mnemonic below MOV comes (`held_instructions`).
abbrev pub register_op : Mnemonic → Op
register_op Add = One 0x01
register_op Or = One 0x09
register_op And = One 0x21
register_op Sub = One 0x29
register_op Xor = One 0x31
register_op Cmp = One 0x39
register_op Test = One 0x85
register_op Imul = Two 0xAF
register_op Mov = One 0x89
register_op Movzx = One 0x89
register_op Lea = One 0x89
register_op Not = One 0x89
register_op Neg = One 0x89
register_op Shl = One 0x89
register_op Shr = One 0x89
register_op Sar = One 0x89
register_op Inc = One 0x89
register_op Dec = One 0x89
register_op Push = One 0x89
register_op Pop = One 0x89
register_op Jmp = One 0x89
register_op Jcc = One 0x89
register_op Call = One 0x89
register_op Ret = One 0x89
register_op Xchg = One 0x89
register_op Cmpxchg = One 0x89
register_op Xadd = One 0x89
register_op Bsf = One 0x89
register_op Nop = One 0x89
register_op Endbr64 = One 0x89
register_op Syscall = One 0x89
register_op Ud2 = One 0x89
register_op Vmfunc = One 0x89

-- the immediate in a helper, which reg names
unfoldable pub with_constant : Mnemonic → Insn → RmOperand → Helper → Insn
with_constant mnemonic insn operand helper = record insn {
  rex = with_r_b insn.rex 0 operand.rex_b;
  op = register_op mnemonic;
  modrm = Some (operand.mod_rm + 8 * number_of helper);
  sib = None;
  disp = operand.disp;
  imm = imm.None;
}

-- the same where the instruction has no memory operand; PUSH has its register in the opcode
unfoldable pub on_register : Mnemonic → OperandForm → Insn → Helper → Insn
on_register Push form insn helper = opcode_alone (0x50 + number_of helper)
on_register Add form insn helper = with_constant Add insn (own_register form insn) helper
on_register Or form insn helper = with_constant Or insn (own_register form insn) helper
on_register And form insn helper = with_constant And insn (own_register form insn) helper
on_register Sub form insn helper = with_constant Sub insn (own_register form insn) helper
on_register Xor form insn helper = with_constant Xor insn (own_register form insn) helper
on_register Cmp form insn helper = with_constant Cmp insn (own_register form insn) helper
on_register Test form insn helper = with_constant Test insn (own_register form insn) helper
on_register Mov form insn helper = with_constant Mov insn (own_register form insn) helper
on_register Movzx form insn helper = with_constant Movzx insn (own_register form insn) helper
on_register Lea form insn helper = with_constant Lea insn (own_register form insn) helper
on_register Imul form insn helper = with_constant Imul insn (own_register form insn) helper
on_register Not form insn helper = with_constant Not insn (own_register form insn) helper
on_register Neg form insn helper = with_constant Neg insn (own_register form insn) helper
on_register Shl form insn helper = with_constant Shl insn (own_register form insn) helper
on_register Shr form insn helper = with_constant Shr insn (own_register form insn) helper
on_register Sar form insn helper = with_constant Sar insn (own_register form insn) helper
on_register Inc form insn helper = with_constant Inc insn (own_register form insn) helper
on_register Dec form insn helper = with_constant Dec insn (own_register form insn) helper
on_register Pop form insn helper = with_constant Pop insn (own_register form insn) helper
on_register Jmp form insn helper = with_constant Jmp insn (own_register form insn) helper
on_register Jcc form insn helper = with_constant Jcc insn (own_register form insn) helper
on_register Call form insn helper = with_constant Call insn (own_register form insn) helper
on_register Ret form insn helper = with_constant Ret insn (own_register form insn) helper
on_register Xchg form insn helper = with_constant Xchg insn (own_register form insn) helper
on_register Cmpxchg form insn helper = with_constant Cmpxchg insn (own_register form insn) helper
on_register Xadd form insn helper = with_constant Xadd insn (own_register form insn) helper
on_register Bsf form insn helper = with_constant Bsf insn (own_register form insn) helper
on_register Nop form insn helper = with_constant Nop insn (own_register form insn) helper
on_register Endbr64 form insn helper = with_constant Endbr64 insn (own_register form insn) helper
on_register Syscall form insn helper = with_constant Syscall insn (own_register form insn) helper
on_register Ud2 form insn helper = with_constant Ud2 insn (own_register form insn) helper
on_register Vmfunc form insn helper = with_constant Vmfunc insn (own_register form insn) helper

-- IMUL on reg and rm leaves its product in the helper: mov reg, helper
unfoldable pub move_product : Insn → Helper → Insn
move_product insn helper = record (opcode_alone 0x89) {
  rex = with_r_b insn.rex 0 (rex_r insn.rex);
  modrm = Some (0xC0 + 8 * number_of helper + reg_field (modrm_of insn));
}

unfoldable pub behind_main : Mnemonic → Insn → Helper → List Insn
behind_main Imul insn helper = move_product insn helper ∷ []
behind_main Add insn helper = []
behind_main Or insn helper = []
behind_main And insn helper = []
behind_main Sub insn helper = []
behind_main Xor insn helper = []
behind_main Cmp insn helper = []
behind_main Test insn helper = []
behind_main Mov insn helper = []
behind_main Movzx insn helper = []
behind_main Lea insn helper = []
behind_main Not insn helper = []
behind_main Neg insn helper = []
behind_main Shl insn helper = []
behind_main Shr insn helper = []
behind_main Sar insn helper = []
behind_main Inc insn helper = []
behind_main Dec insn helper = []
behind_main Push insn helper = []
behind_main Pop insn helper = []
behind_main Jmp insn helper = []
behind_main Jcc insn helper = []
behind_main Call insn helper = []
behind_main Ret insn helper = []
behind_main Xchg insn helper = []
behind_main Cmpxchg insn helper = []
behind_main Xadd insn helper = []
behind_main Bsf insn helper = []
behind_main Nop insn helper = []
behind_main Endbr64 insn helper = []
behind_main Syscall insn helper = []
behind_main Ud2 insn helper = []
behind_main Vmfunc insn helper = []

-- ---- own bytes

-- mov helper, [helper + 0]
unfoldable pub load_target : Helper → Insn
load_target helper = record (wide 0x8B (0x40 + 9 * number_of helper)) { disp = disp.D8 (pos 0) }

-- mov of the word in the scratch page to the register in the opcode
unfoldable pub load_word : Insn → Insn
load_word insn =
    record (wide_at_address 0x8B (last_opcode_byte insn.op % 8) scratch_word) { rex = Some (0x48 + 4 * rex_b insn.rex) }
