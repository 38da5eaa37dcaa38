-- What each field of an instruction says of the fields behind it (SDM volume 2, sections 2.1 and 2.2.1).
use Rattle.std.specs.Prelude.{ℕ, ◌/◌, ◌%◌, Bool, true, false, not, ◌&&◌, ◌||◌, ◌==◌, nat_le, if◌then◌else◌, Option, Some, None}
use Rattle.sb_insn.specs.declared.insn.Disp.{Disp}
use Rattle.sb_insn.specs.declared.insn.Disp.TheVariants as disp
use Rattle.sb_insn.specs.declared.insn.Imm.{Imm}
use Rattle.sb_insn.specs.declared.insn.Imm.TheVariants as imm
use Rattle.sb_insn.specs.declared.insn.DispKind.{DispKind}
use Rattle.sb_insn.specs.declared.insn.DispKind.TheVariants as disp_kind
use Rattle.sb_insn.specs.declared.insn.ImmKind.{ImmKind}
use Rattle.sb_insn.specs.declared.insn.ImmKind.TheVariants as imm_kind
use Rattle.sb_insn.specs.declared.opcode_map.RexRule.{RexRule}
use Rattle.sb_insn.specs.declared.opcode_map.RexRule.TheVariants as rex_rule
use Rattle.sb_insn.specs.declared.opcode_map.RmRule.{RmRule}
use Rattle.sb_insn.specs.declared.opcode_map.RmRule.TheVariants as rm_rule
use Rattle.sb_insn.specs.declared.opcode_map.ImmRule.{ImmRule}
use Rattle.sb_insn.specs.declared.opcode_map.ImmRule.TheVariants as imm_rule
use Rattle.sb_insn.specs.declared.opcode_map.ModRmOpcode.{ModRmOpcode}
use Rattle.sb_insn.specs.declared.opcode_map.Cell.{Cell}
use Rattle.sb_insn.specs.declared.opcode_map.Cell.TheVariants.{Absent, NoModRm, ModRm, Extended}
use Rattle.sb_insn.specs.Groups.{modrm_opcode}

-- ---- REX

abbrev pub is_none : Option ℕ → Bool
is_none None = true
is_none (Some byte) = false

-- 40 to 4F
abbrev pub is_rex : ℕ → Bool
is_rex byte = nat_le 0x40 byte && nat_le byte 0x4F

abbrev pub is_rex_field : Option ℕ → Bool
is_rex_field None = true
is_rex_field (Some byte) = is_rex byte

abbrev pub permits_rex : RexRule → Option ℕ → Bool
permits_rex rex_rule.Permitted rex = true
permits_rex rex_rule.Refused rex = is_none rex

-- The bits of a REX prefix: W, R, X and B from bit 3 down (SDM volume 2, section 2.2.1). Without a prefix they are 0.

-- the operands are 64 bits wide
abbrev pub rex_w : Option ℕ → ℕ
rex_w None = 0
rex_w (Some rex) = rex / 8 % 2

-- reg is extended
abbrev pub rex_r : Option ℕ → ℕ
rex_r None = 0
rex_r (Some rex) = rex / 4 % 2

-- the index of SIB is extended
abbrev pub rex_x : Option ℕ → ℕ
rex_x None = 0
rex_x (Some rex) = rex / 2 % 2

-- rm, the base of SIB or the register of the opcode is extended
abbrev pub rex_b : Option ℕ → ℕ
rex_b None = 0
rex_b (Some rex) = rex % 2

-- REX.W is set
abbrev pub is_wide : Option ℕ → Bool
is_wide rex = rex_w rex == 1

-- ---- ModRM: mod, reg and rm

abbrev pub mod_field : ℕ → ℕ
mod_field modrm = modrm / 64

abbrev pub reg_field : ℕ → ℕ
reg_field modrm = modrm / 8 % 8

abbrev pub rm_field : ℕ → ℕ
rm_field modrm = modrm % 8

-- the operand that rm names is a register
abbrev pub is_register : ℕ → Bool
is_register modrm = mod_field modrm == 3

-- rm names memory
abbrev pub has_memory : Option ℕ → Bool
has_memory None = false
has_memory (Some modrm) = not (is_register modrm)

-- mod 0 and rm 5: from the next instruction's address on
abbrev pub is_from_next : ℕ → Bool
is_from_next modrm = (mod_field modrm == 0) && (rm_field modrm == 5)

abbrev pub permits_rm : RmRule → ℕ → Bool
permits_rm rm_rule.Any modrm = true
permits_rm rm_rule.Memory modrm = not (is_register modrm)

-- without a REX byte the byte registers 4 to 7 are AH, CH, DH and BH
abbrev pub needs_rex : ModRmOpcode → ℕ → Bool
needs_rex opcode modrm =
    (opcode.byte_reg && nat_le 4 (reg_field modrm))
    || (opcode.byte_rm && (is_register modrm && nat_le 4 (rm_field modrm)))

-- the operands permit this ModRM byte behind these prefixes
unfoldable pub modrm_opcode_permits : ModRmOpcode → Bool → Option ℕ → ℕ → Bool
modrm_opcode_permits opcode lock rex modrm =
    (not lock || (opcode.lock && not (is_register modrm)))
    && (permits_rm opcode.rm modrm && not (is_none rex && needs_rex opcode modrm))

abbrev pub some_permits : Option ModRmOpcode → Bool → Option ℕ → ℕ → Bool
some_permits None lock rex modrm = false
some_permits (Some opcode) lock rex modrm = modrm_opcode_permits opcode lock rex modrm

-- the opcode has no ModRM byte, and permits these prefixes
abbrev pub stands_alone : Cell → Bool → Option ℕ → Bool
stands_alone Absent lock rex = false
stands_alone (NoModRm opcode) lock rex = not lock && permits_rex opcode.rex rex
stands_alone (ModRm opcode) lock rex = false
stands_alone (Extended group form imm) lock rex = false

abbrev pub is_modrm_field : Cell → Bool → Option ℕ → Option ℕ → Bool
is_modrm_field cell lock rex None = stands_alone cell lock rex
is_modrm_field cell lock rex (Some modrm) = some_permits (modrm_opcode cell (reg_field modrm)) lock rex modrm

-- ---- SIB and the displacement

abbrev pub scale : ℕ → ℕ
scale sib = sib / 64

abbrev pub index : ℕ → ℕ
index sib = sib / 8 % 8

abbrev pub base : ℕ → ℕ
base sib = sib % 8

unfoldable pub has_sib : ℕ → Bool
has_sib modrm = not (is_register modrm) && (rm_field modrm == 4)

abbrev pub wants_sib : Option ℕ → Bool
wants_sib None = false
wants_sib (Some modrm) = has_sib modrm

abbrev pub is_sib_field : Option ℕ → Option ℕ → Bool
is_sib_field modrm None = not (wants_sib modrm)
is_sib_field modrm (Some sib) = wants_sib modrm

-- an SIB byte stands whose base is 5, which names no register where mod is 0
abbrev pub base_field_is_5 : Option ℕ → Bool
base_field_is_5 None = false
base_field_is_5 (Some sib) = base sib == 5

unfoldable pub modrm_disp : ℕ → Option ℕ → DispKind
modrm_disp modrm sib =
    if mod_field modrm == 0 then (if (rm_field modrm == 5) || base_field_is_5 sib then disp_kind.D32 else disp_kind.None)
    else if mod_field modrm == 1 then disp_kind.D8
    else if mod_field modrm == 2 then disp_kind.D32
    else disp_kind.None

abbrev pub disp_kind_of : Option ℕ → Option ℕ → DispKind
disp_kind_of None sib = disp_kind.None
disp_kind_of (Some modrm) sib = modrm_disp modrm sib

abbrev pub kind_of_disp : Disp → DispKind
kind_of_disp disp.None = disp_kind.None
kind_of_disp (disp.D8 value) = disp_kind.D8
kind_of_disp (disp.D32 value) = disp_kind.D32

-- ---- the immediate

abbrev pub alone_rule : Cell → ImmRule
alone_rule Absent = imm_rule.None
alone_rule (NoModRm opcode) = opcode.imm
alone_rule (ModRm opcode) = imm_rule.None
alone_rule (Extended group form imm) = imm_rule.None

abbrev pub operand_rule : Option ModRmOpcode → ImmRule
operand_rule None = imm_rule.None
operand_rule (Some opcode) = opcode.imm

abbrev pub rule_of : Cell → Option ℕ → ImmRule
rule_of cell None = alone_rule cell
rule_of cell (Some modrm) = operand_rule (modrm_opcode cell (reg_field modrm))

-- which immediate the opcode wants behind this ModRM byte, if the opcode permits the byte behind these prefixes
abbrev pub permitted_rule : Cell → Bool → Option ℕ → ℕ → Option ImmRule
permitted_rule cell lock rex modrm =
    if is_modrm_field cell lock rex (Some modrm) then Some (rule_of cell (Some modrm)) else None

abbrev pub imm_kind_of : ImmRule → Option ℕ → ImmKind
imm_kind_of imm_rule.None rex = imm_kind.None
imm_kind_of imm_rule.I8 rex = imm_kind.I8
imm_kind_of imm_rule.I32 rex = imm_kind.I32
imm_kind_of imm_rule.Wide rex = if is_wide rex then imm_kind.I64 else imm_kind.I32

abbrev pub kind_of_imm : Imm → ImmKind
kind_of_imm imm.None = imm_kind.None
kind_of_imm (imm.I8 value) = imm_kind.I8
kind_of_imm (imm.I32 value) = imm_kind.I32
kind_of_imm (imm.I64 value) = imm_kind.I64
