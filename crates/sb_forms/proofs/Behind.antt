-- In an instruction other than VMFUNC the pattern stands behind the opcode, without a memory operand in the immediate.
use Rattle.std.proofs.Common.{◌≡◌, ℕ, false, List, ◌++◌, Option, Some, None, refl, ap, ◌∙◌}
use Rattle.std.specs.Option.{option_to_list}
use Rattle.std.proofs.lemmas.Bool.{both_ways}
use Rattle.sb_insn.specs.declared.insn.Insn.{Insn}
use Rattle.sb_insn.specs.Spelling.{disp_bytes, imm_bytes, spelling}
use Rattle.sb_insn.specs.Grammar.{IsValid}
use Rattle.sb_forms.specs.Holding.{holds_pattern}
use Rattle.sb_insn.specs.Fields.{has_memory}
use Rattle.sb_forms.specs.Table.{is_vmfunc}
use Rattle.sb_forms.proofs.Operands.{no_memory}
use Rattle.sb_forms.proofs.Quiet.{skip}
use Rattle.sb_forms.proofs.Leads.{valid_rex, valid_op, lead_holds}

-- the bytes behind the opcode
abbrev pub behind_opcode : Insn → List ℕ
behind_opcode insn = option_to_list insn.modrm ++ (option_to_list insn.sib ++ (disp_bytes insn.disp ++ imm_bytes insn.imm))

-- In another instruction than VMFUNC the pattern stands behind the opcode.
pub behind_holds : (insn : Insn) → IsValid insn → is_vmfunc insn.op ≡ false
    → holds_pattern (spelling insn) ≡ holds_pattern (behind_opcode insn)
behind_holds insn valid other =
    lead_holds insn.lock insn.rex insn.op (behind_opcode insn) (valid_rex insn.rex valid.rex)
    (valid_op insn.op insn.lock insn.rex insn.modrm other valid.modrm)

register_holds : (modrm : Option ℕ) (rest : List ℕ) → has_memory modrm ≡ false
    → holds_pattern (option_to_list modrm ++ rest) ≡ holds_pattern rest
register_holds None rest e = refl
register_holds (Some modrm) rest e =
    skip modrm rest (λ is. both_ways (has_memory (Some modrm)) e (ap (λ (m : ℕ). has_memory (Some m)) is))

-- without a memory operand it stands in the immediate
pub imm_holds : (insn : Insn) → IsValid insn → is_vmfunc insn.op ≡ false → has_memory insn.modrm ≡ false
    → holds_pattern (spelling insn) ≡ holds_pattern (imm_bytes insn.imm)
imm_holds insn valid other e =
    let none = no_memory insn.modrm insn.sib insn.disp e valid.sib valid.disp in
    behind_holds insn valid other
    ∙ register_holds insn.modrm (option_to_list insn.sib ++ (disp_bytes insn.disp ++ imm_bytes insn.imm)) e
    ∙ ap (λ sib. holds_pattern (option_to_list sib ++ (disp_bytes insn.disp ++ imm_bytes insn.imm))) none.0
    ∙ ap (λ d. holds_pattern (disp_bytes d ++ imm_bytes insn.imm)) none.1
