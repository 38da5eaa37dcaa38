-- The main instructions are valid.
use Rattle.std.proofs.Common.{◌≡◌, ◌∙◌, sym, ap, subst, ℕ, ◌+◌, ◌*◌, ◌<◌, ◌≤◌, Bool, true, false, Option, Some, None, refl, arith, pos}
use Rattle.std.specs.Prelude.{not, ◌==◌, nat_le, unwrap_or}
use Rattle.std.proofs.lemmas.Bool.{and_parts, and_from, and_right, le-leb, not-true, ne_eqb, eqb-true, cond_both}
use Rattle.sb_insn.specs.declared.insn.Insn.{Insn}
use Rattle.sb_insn.specs.declared.insn.Disp.{Disp}
use Rattle.sb_insn.specs.declared.insn.Disp.TheVariants as disp
use Rattle.sb_insn.specs.declared.opcode_map.RmRule.{RmRule}
use Rattle.sb_insn.specs.declared.opcode_map.RmRule.TheVariants as rm_rule
use Rattle.sb_insn.specs.declared.opcode_map.ImmRule.{ImmRule}
use Rattle.sb_insn.specs.declared.opcode_map.ImmRule.TheVariants as imm_rule
use Rattle.sb_insn.specs.declared.opcode_map.ModRmOpcode.{ModRmOpcode}
use Rattle.sb_insn.specs.declared.insn.DispKind.TheVariants as disp_kind
use Rattle.sb_insn.specs.OpcodeMap.{cell_of}
use Rattle.sb_insn.specs.Groups.{modrm_opcode}
use Rattle.sb_insn.specs.Fields.{is_none, is_rex_field, rex_w, rex_r, rex_b, mod_field, reg_field, rm_field, is_register, has_memory, permits_rm, modrm_opcode_permits, some_permits, is_modrm_field, has_sib, is_sib_field, modrm_disp, disp_kind_of, kind_of_disp, operand_rule, rule_of, imm_kind_of, kind_of_imm}
use Rattle.sb_insn.specs.Grammar.{FitsDisp, IsByte, IsValid}
use Rattle.sb_insn.specs.Rex.{with_r_b, with_x_b_exchanged}
use Rattle.sb_insn.specs.RegisterNumbers.{modrm_of}
use Rattle.sb_forms.specs.declared.helper.Helper.{Helper}
use Rattle.sb_forms.specs.Registers.{number_of}
use Rattle.sb_forms.specs.Pieces.{is_sib_0f, sib_exchanged, without_sib_0f}
use Rattle.sb_forms.specs.Mains.{at_helper, with_displacement, with_helper}
use Rattle.sb_forms.proofs.Leads.{IsRex, with_r_b_rex, exchanged_rex, r_1, b_1}
use Rattle.sb_forms.proofs.QuietPieces.{number_7}
use Rattle.sb_forms.proofs.Fields.{with_w, exchanged_w, helper_not_4, at_mod, at_reg, at_rm}
use Rattle.sb_forms.proofs.Operands.{no_sib_7}

-- ---- REX

pub rex_field : (rex : Option ℕ) → IsRex rex → is_rex_field rex ≡ true
rex_field None range = refl
rex_field (Some rex) range = and_from (nat_le 0x40 rex) (nat_le rex 0x4F) (le-leb 0x40 rex range.0) (le-leb rex 0x4F range.1)

pub with_none : (rex : Option ℕ) (r b : ℕ) → is_none (with_r_b rex r b) ≡ is_none rex
with_none None r b = refl
with_none (Some rex) r b = refl

exchanged_none : (rex : Option ℕ) → is_none (with_x_b_exchanged rex) ≡ is_none rex
exchanged_none None = refl
exchanged_none (Some rex) = refl

-- ---- another memory operand with the same reg

-- two ModRM bytes that name memory and have one reg are permitted alike
permits_alike : (opcode : ModRmOpcode) (lock : Bool) (rex rex' : Option ℕ) (modrm modrm' : ℕ) → is_none rex' ≡ is_none rex
    → reg_field modrm' ≡ reg_field modrm → is_register modrm ≡ false → is_register modrm' ≡ false
    → modrm_opcode_permits opcode lock rex modrm ≡ true → modrm_opcode_permits opcode lock rex' modrm' ≡ true
unfolding modrm_opcode_permits
permits_alike opcode lock rex rex' modrm modrm' none reg memory memory' e =
    let rm : permits_rm opcode.rm modrm' ≡ permits_rm opcode.rm modrm = rm_alike opcode.rm modrm modrm' memory memory' in
    rw (none, reg, memory', rm) (rw memory at e)
  where
    rm_alike : (rule : RmRule) (modrm modrm' : ℕ) → is_register modrm ≡ false → is_register modrm' ≡ false
        → permits_rm rule modrm' ≡ permits_rm rule modrm
    rm_alike rm_rule.Any modrm modrm' memory memory' = refl
    rm_alike rm_rule.Memory modrm modrm' memory memory' = rw (memory, memory') refl

some_alike : (opcode : Option ModRmOpcode) (lock : Bool) (rex rex' : Option ℕ) (modrm modrm' : ℕ) → is_none rex' ≡ is_none rex
    → reg_field modrm' ≡ reg_field modrm → is_register modrm ≡ false → is_register modrm' ≡ false
    → some_permits opcode lock rex modrm ≡ true → some_permits opcode lock rex' modrm' ≡ true
some_alike None lock rex rex' modrm modrm' none reg memory memory' e = e
some_alike (Some opcode) lock rex rex' modrm modrm' none reg memory memory' e =
    permits_alike opcode lock rex rex' modrm modrm' none reg memory memory' e

-- the immediate that an opcode wants goes by REX.W
kind_alike : (rule : ImmRule) (rex rex' : Option ℕ) → rex_w rex' ≡ rex_w rex → imm_kind_of rule rex' ≡ imm_kind_of rule rex
kind_alike imm_rule.None rex rex' same = refl
kind_alike imm_rule.I8 rex rex' same = refl
kind_alike imm_rule.I32 rex rex' same = refl
kind_alike imm_rule.Wide rex rex' same = rw same refl

-- what stands behind the opcode of an instruction in place of its memory operand
record IsOperand (old : Option ℕ) (rex : Option ℕ) (reg : ℕ) (modrm : ℕ) (sib : Option ℕ) (displacement : Disp) : Type 0 where
  rex_stands : is_rex_field rex ≡ true
  same_none : is_none rex ≡ is_none old
  same_w : rex_w rex ≡ rex_w old
  same_reg : reg_field modrm ≡ reg
  memory : is_register modrm ≡ false
  byte : modrm < 256
  sib_stands : is_sib_field (Some modrm) sib ≡ true
  sib_byte : IsByte sib
  kind : kind_of_disp displacement ≡ disp_kind_of (Some modrm) sib
  fits : FitsDisp displacement

-- an instruction with another memory operand
abbrev with_operand : Insn → Option ℕ → ℕ → Option ℕ → Disp → Insn
with_operand insn rex modrm sib displacement =
    record insn { rex = rex; modrm = Some modrm; sib = sib; disp = displacement }

register_false : (modrm : ℕ) → has_memory (Some modrm) ≡ true → is_register modrm ≡ false
register_false modrm memory = not-true (is_register modrm) memory

operand_by : (old : Option ℕ) (insn : Insn) (rex : Option ℕ) (modrm : ℕ) (sib : Option ℕ) (displacement : Disp) → IsValid insn
    → insn.modrm ≡ old → has_memory old ≡ true → IsOperand insn.rex rex (reg_field (unwrap_or old 0)) modrm sib displacement
    → IsValid (with_operand insn rex modrm sib displacement)
operand_by None insn rex modrm sib displacement valid is memory operand = absurd cc
operand_by (Some old) insn rex modrm sib displacement valid is memory operand =
    let permitted : is_modrm_field (cell_of insn.op) insn.lock insn.rex (Some old) ≡ true =
    subst (λ m. is_modrm_field (cell_of insn.op) insn.lock insn.rex m ≡ true) is valid.modrm in
    let kind : kind_of_imm insn.imm ≡ imm_kind_of (rule_of (cell_of insn.op) (Some old)) insn.rex =
    subst (λ m. kind_of_imm insn.imm ≡ imm_kind_of (rule_of (cell_of insn.op) m) insn.rex) is valid.imm in
    record {
      rex = operand.rex_stands;
      modrm = ap (λ (reg : ℕ). some_permits (modrm_opcode (cell_of insn.op) reg) insn.lock rex modrm) operand.same_reg
          ∙ some_alike (modrm_opcode (cell_of insn.op) (reg_field old)) insn.lock insn.rex rex old modrm operand.same_none
          operand.same_reg (register_false old memory) operand.memory permitted;
      modrm_byte = operand.byte;
      sib = operand.sib_stands;
      sib_byte = operand.sib_byte;
      disp = operand.kind;
      disp_fits = operand.fits;
      imm = kind ∙ sym (kind_alike (operand_rule (modrm_opcode (cell_of insn.op) (reg_field old))) insn.rex rex operand.same_w)
          ∙ ap (λ (reg : ℕ). imm_kind_of (operand_rule (modrm_opcode (cell_of insn.op) reg)) rex) (sym operand.same_reg);
      imm_fits = valid.imm_fits;
    }

-- a valid instruction with another memory operand is valid
operand_valid : (insn : Insn) (rex : Option ℕ) (modrm : ℕ) (sib : Option ℕ) (displacement : Disp) → IsValid insn
    → has_memory insn.modrm ≡ true → IsOperand insn.rex rex (reg_field (modrm_of insn)) modrm sib displacement
    → IsValid (with_operand insn rex modrm sib displacement)
operand_valid insn rex modrm sib displacement valid memory operand =
    operand_by insn.modrm insn rex modrm sib displacement valid refl memory operand

-- ---- memory at mod 1, with a displacement 0

mod_1_memory : (modrm : ℕ) → mod_field modrm ≡ 1 → is_register modrm ≡ false
mod_1_memory modrm one = rw one refl

mod_1_disp : (modrm : ℕ) → mod_field modrm ≡ 1 → disp_kind.D8 ≡ modrm_disp modrm None
unfolding modrm_disp
mod_1_disp modrm one = rw one refl

not_4 : (modrm : ℕ) → (rm_field modrm ≡ 4 → ⊥) → is_sib_field (Some modrm) None ≡ true
unfolding has_sib
not_4 modrm other =
    let none : has_sib modrm ≡ false = and_right (not (is_register modrm)) (rm_field modrm == 4)
    (ne_eqb (rm_field modrm) 4 other) in
    rw none refl

at_one : (old rex : Option ℕ) (reg modrm : ℕ) → IsRex rex → is_none rex ≡ is_none old → rex_w rex ≡ rex_w old
    → reg_field modrm ≡ reg → mod_field modrm ≡ 1 → (rm_field modrm ≡ 4 → ⊥)
    → IsOperand old rex reg modrm None (disp.D8 (pos 0))
at_one old rex reg modrm range none w same one other = record {
  rex_stands = rex_field rex range;
  same_none = none;
  same_w = w;
  same_reg = same;
  memory = mod_1_memory modrm one;
  byte = omega (arith, one);
  sib_stands = not_4 modrm other;
  sib_byte = tt;
  kind = mod_1_disp modrm one;
  fits = record { sfits = omega arith };
}

-- ---- mains with the immediate of the instruction

pub helper_valid : (helper : Helper) (insn : Insn) → IsValid insn → has_memory insn.modrm ≡ true
    → IsValid (with_helper helper insn)
unfolding with_helper at_helper
helper_valid helper insn valid memory =
    let modrm = 0x40 + number_of helper + 8 * reg_field (modrm_of insn) in
    let seven : reg_field (modrm_of insn) ≤ 7 = omega arith in
    operand_valid insn (with_r_b insn.rex (rex_r insn.rex) 0) modrm None (disp.D8 (pos 0)) valid memory
    (at_one insn.rex (with_r_b insn.rex (rex_r insn.rex) 0) (reg_field (modrm_of insn)) modrm
    (with_r_b_rex insn.rex (rex_r insn.rex) 0 (r_1 insn.rex) (omega arith)) (with_none insn.rex (rex_r insn.rex) 0)
    (with_w insn.rex (rex_r insn.rex) 0 (r_1 insn.rex) (omega arith))
    (at_reg (number_of helper) (reg_field (modrm_of insn)) (number_7 helper) seven)
    (at_mod (number_of helper) (reg_field (modrm_of insn)) (number_7 helper) seven)
    (λ is. helper_not_4 helper (sym (at_rm (number_of helper) (reg_field (modrm_of insn)) (number_7 helper) seven) ∙ is)))

pub displaced_valid : (insn : Insn) → IsValid insn → insn.modrm ≡ Some 0x0F → IsValid (with_displacement insn)
unfolding with_displacement
displaced_valid insn valid is =
    subst (λ (s : Option ℕ). IsValid (record insn {
      rex = with_r_b insn.rex (rex_r insn.rex) (rex_b insn.rex);
      modrm = Some 0x4F;
      sib = s;
      disp = disp.D8 (pos 0);
    })) (sym (no_sib_7 0x0F insn.sib refl
    (subst (λ m. is_sib_field m insn.sib ≡ true) is valid.sib)))
    (operand_valid insn (with_r_b insn.rex (rex_r insn.rex) (rex_b insn.rex)) 0x4F None (disp.D8 (pos 0)) valid
    (ap (λ m. has_memory m) is)
    (at_one insn.rex (with_r_b insn.rex (rex_r insn.rex) (rex_b insn.rex)) (reg_field (modrm_of insn)) 0x4F
    (with_r_b_rex insn.rex (rex_r insn.rex) (rex_b insn.rex) (r_1 insn.rex) (b_1 insn.rex))
    (with_none insn.rex (rex_r insn.rex) (rex_b insn.rex))
    (with_w insn.rex (rex_r insn.rex) (rex_b insn.rex) (r_1 insn.rex) (b_1 insn.rex))
    (ap (λ (m : Option ℕ). reg_field (unwrap_or m 0)) (sym is)) refl (λ e. omega (arith, e))))

-- ---- base and index exchanged

-- neither base is 5
exchanged_disp : (modrm : ℕ) → modrm_disp modrm (Some 0x0F) ≡ modrm_disp modrm (Some 0x39)
unfolding modrm_disp
exchanged_disp modrm = refl

sib_0f : (sib : Option ℕ) → is_sib_0f sib ≡ true → sib ≡ Some 0x0F
sib_0f None e = absurd cc
sib_0f (Some sib) e = ap (λ (s : ℕ). Some s) (eqb-true sib 0x0F e)

exchanged_by : (modrm : Option ℕ) (insn : Insn) → IsValid insn → insn.modrm ≡ modrm → insn.sib ≡ Some 0x0F
    → IsValid (sib_exchanged insn)
unfolding sib_exchanged has_sib
exchanged_by None insn valid is sib =
    absurd (let no : false ≡ true = subst (λ s. is_sib_field None s ≡ true) sib (subst (λ m. is_sib_field m insn.sib ≡ true) is
    valid.sib) in cc)
exchanged_by (Some modrm) insn valid is sib =
    let stands : has_sib modrm ≡ true =
    subst (λ s. is_sib_field (Some modrm) s ≡ true) sib (subst (λ m. is_sib_field m insn.sib ≡ true) is valid.sib) in
    let parts = and_parts (not (is_register modrm)) (rm_field modrm == 4) stands in
    subst (λ (m : Option ℕ). IsValid (record insn { rex = with_x_b_exchanged insn.rex; modrm = m; sib = Some 0x39 })) (sym is)
    (operand_valid insn (with_x_b_exchanged insn.rex) modrm (Some 0x39) insn.disp valid
    (ap (λ m. has_memory m) is ∙ parts.0) (record {
      rex_stands = rex_field (with_x_b_exchanged insn.rex) (exchanged_rex insn.rex);
      same_none = exchanged_none insn.rex;
      same_w = exchanged_w insn.rex;
      same_reg = ap (λ (m : Option ℕ). reg_field (unwrap_or m 0)) (sym is);
      memory = not-true (is_register modrm) parts.0;
      byte = subst IsByte is valid.modrm_byte;
      sib_stands = stands;
      sib_byte = omega arith;
      kind = valid.disp ∙ (ap (λ m. disp_kind_of m insn.sib) is ∙ (ap (λ s. modrm_disp modrm s) sib ∙ exchanged_disp modrm));
      fits = valid.disp_fits;
    }))

pub exchanged_valid : (insn : Insn) → IsValid insn → is_sib_0f insn.sib ≡ true → IsValid (sib_exchanged insn)
exchanged_valid insn valid e = exchanged_by insn.modrm insn valid refl (sib_0f insn.sib e)

pub without_valid : (insn : Insn) → IsValid insn → IsValid (without_sib_0f insn)
unfolding without_sib_0f
without_valid insn valid =
    cond_both (is_sib_0f insn.sib) (sib_exchanged insn) insn (λ i. IsValid i) (λ e. exchanged_valid insn valid e) (λ _. valid)
