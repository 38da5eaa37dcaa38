-- The instruction of `is_add_esp_edx`: all its fields are known.
use Rattle.std.proofs.Common.{◌≡◌, ℕ, Bool, true, false, Option, Some, None, refl, sym, ap, subst}
use Rattle.std.specs.Prelude.{◌&&◌}
use Rattle.std.proofs.lemmas.Bool.{and_parts, eqb-true}
use Rattle.sb_insn.specs.declared.insn.Insn.{Insn}
use Rattle.sb_insn.specs.declared.insn.Op.{Op}
use Rattle.sb_insn.specs.declared.insn.Op.TheVariants.{One, Two, Endbr, Vmfunc}
use Rattle.sb_insn.specs.declared.insn.Disp.{Disp}
use Rattle.sb_insn.specs.declared.insn.Disp.TheVariants as disp
use Rattle.sb_insn.specs.declared.insn.Imm.{Imm}
use Rattle.sb_insn.specs.declared.insn.Imm.TheVariants as imm
use Rattle.sb_insn.specs.OpcodeMap.{one_byte, cell_of}
use Rattle.sb_insn.specs.Fields.{is_none, modrm_opcode_permits, has_sib, modrm_disp, is_modrm_field, is_sib_field, disp_kind_of, kind_of_disp, rule_of, imm_kind_of, kind_of_imm}
use Rattle.sb_insn.specs.Grammar.{IsValid}
use Rattle.sb_forms.specs.Table.{is_one_byte, is_modrm, is_add_esp_edx}
use Rattle.sb_forms.proofs.Operands.{modrm_is}

-- an opcode of one byte, by its test
one_byte_is : (opcode : ℕ) (op : Op) → is_one_byte opcode op ≡ true → op ≡ One opcode
one_byte_is opcode (One other) e = ap (λ (byte : ℕ). One byte) (sym (eqb-true opcode other e))
one_byte_is opcode (Two other) e = absurd cc
one_byte_is opcode Endbr e = absurd cc
one_byte_is opcode Vmfunc e = absurd cc

-- add esp, edx as 01 D4
abbrev pub add_to_rm : Insn
add_to_rm = record { lock = false; rex = None; op = One 0x01; modrm = Some 0xD4; sib = None; disp = disp.None; imm = imm.None }

-- an instruction of these fields is 01 D4
abbrev IsAddToRm : Bool → Option ℕ → Option ℕ → Disp → Imm → Op → Option ℕ → Type 0
IsAddToRm lock rex sib displacement immediate op modrm =
    is_none rex ≡ true → is_modrm_field (cell_of op) lock rex modrm ≡ true → is_sib_field modrm sib ≡ true
    → kind_of_disp displacement ≡ disp_kind_of modrm sib
    → kind_of_imm immediate ≡ imm_kind_of (rule_of (cell_of op) modrm) rex
    → (let i : Insn = record {
      lock = lock;
      rex = rex;
      op = op;
      modrm = modrm;
      sib = sib;
      disp = displacement;
      imm = immediate;
    } in i) ≡ add_to_rm

add_fields : (lock : Bool) (rex sib : Option ℕ) (displacement : Disp) (immediate : Imm)
    → IsAddToRm lock rex sib displacement immediate (One 0x01) (Some 0xD4)
unfolding one_byte modrm_opcode_permits has_sib modrm_disp
add_fields lock (Some rex) sib displacement immediate none e s d i = absurd cc
add_fields true None sib displacement immediate none e s d i = absurd cc
add_fields false None (Some sib) displacement immediate none e s d i = absurd cc
add_fields false None None (disp.D8 value) immediate none e s d i = absurd cc
add_fields false None None (disp.D32 value) immediate none e s d i = absurd cc
add_fields false None None disp.None imm.None none e s d i = refl
add_fields false None None disp.None (imm.I8 value) none e s d i = absurd cc
add_fields false None None disp.None (imm.I32 value) none e s d i = absurd cc
add_fields false None None disp.None (imm.I64 value) none e s d i = absurd cc

-- it is 01 D4
pub add_is : (insn : Insn) → IsValid insn → is_add_esp_edx insn ≡ true → insn ≡ add_to_rm
add_is insn valid e =
    let parts = and_parts (is_none insn.rex) (is_one_byte 0x01 insn.op && is_modrm 0xD4 insn.modrm) e in
    let behind = and_parts (is_one_byte 0x01 insn.op) (is_modrm 0xD4 insn.modrm) parts.1 in
    let fields : IsAddToRm insn.lock insn.rex insn.sib insn.disp insn.imm insn.op insn.modrm =
    subst (λ op. IsAddToRm insn.lock insn.rex insn.sib insn.disp insn.imm op insn.modrm) (sym (one_byte_is 0x01 insn.op behind.0))
    (subst (λ modrm. IsAddToRm insn.lock insn.rex insn.sib insn.disp insn.imm (One 0x01) modrm)
    (sym (modrm_is 0xD4 insn.modrm behind.1)) (add_fields insn.lock insn.rex insn.sib insn.disp insn.imm)) in
    fields parts.0 valid.modrm valid.sib valid.disp valid.imm
