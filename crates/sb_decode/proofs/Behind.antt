-- The fields behind the lead are read exactly, each as the fields before it decide.
use Rattle.std.proofs.Common.{ℕ, pos, List, ◌++◌, Option, refl, arith}
use Rattle.std.specs.Option.{option_to_list}
use Rattle.sb_insn.specs.declared.insn.Disp.{Disp}
use Rattle.sb_insn.specs.declared.insn.Disp.TheVariants as disp
use Rattle.sb_insn.specs.declared.insn.Imm.{Imm}
use Rattle.sb_insn.specs.declared.insn.Imm.TheVariants as imm
use Rattle.sb_insn.specs.declared.insn.DispKind.{DispKind}
use Rattle.sb_insn.specs.declared.insn.DispKind.TheVariants as disp_kinds
use Rattle.sb_insn.specs.declared.insn.ImmKind.{ImmKind}
use Rattle.sb_insn.specs.declared.insn.ImmKind.TheVariants as imm_kinds
use Rattle.sb_insn.specs.OpcodeMap.{cell_of}
use Rattle.sb_insn.specs.Spelling.{disp_bytes, imm_bytes}
use Rattle.sb_insn.specs.Fields.{disp_kind_of, rule_of, imm_kind_of}
use Rattle.sb_decode.specs.declared.lead.Lead.{Lead}
use Rattle.sb_decode.specs.Reading.{Read, field_pair}
use Rattle.sb_decode.specs.FieldReaders.{modrm_at, sib_at, disp_at, imm_at}
use Rattle.sb_decode.proofs.Reader.{Reads, both}
use Rattle.sb_decode.proofs.Tail.{GoodDisp, GoodImm, disp_reads, imm_reads}
use Rattle.sb_decode.proofs.Sib.{GoodSib, sib_reads, some_sib}
use Rattle.sb_decode.proofs.Modrm.{GoodModrm, modrm_reads, some_modrm}
use Rattle.sb_decode.proofs.Prefixes.{GoodLead}

-- ---- the displacement and the immediate

some_disp : (kind : DispKind) → (value : Disp) × GoodDisp kind value
some_disp disp_kinds.None = (disp.None, (refl, tt))
some_disp disp_kinds.D8 = (disp.D8 (pos 0), (refl, omega arith))
some_disp disp_kinds.D32 = (disp.D32 (pos 0), (refl, omega arith))

some_imm : (kind : ImmKind) → (value : Imm) × GoodImm kind value
some_imm imm_kinds.None = (imm.None, (refl, tt))
some_imm imm_kinds.I8 = (imm.I8 (pos 0), (refl, omega arith))
some_imm imm_kinds.I32 = (imm.I32 (pos 0), (refl, omega arith))
some_imm imm_kinds.I64 = (imm.I64 (pos 0), (refl, omega arith))

abbrev GoodEnd : DispKind → ImmKind → Disp × Imm → Type 0
GoodEnd disp_kind imm_kind end = GoodDisp disp_kind end.0 × GoodImm imm_kind end.1

abbrev spell_end : Disp × Imm → List ℕ
spell_end end = disp_bytes end.0 ++ imm_bytes end.1

end_reads : (disp_kind : DispKind) (imm_kind : ImmKind)
    → Reads (Disp × Imm) (GoodEnd disp_kind imm_kind) spell_end (field_pair (disp_at disp_kind) (λ d. imm_at imm_kind))
end_reads disp_kind imm_kind =
    both Disp Imm (GoodDisp disp_kind) (λ d. GoodImm imm_kind) disp_bytes imm_bytes (disp_at disp_kind) (λ d. imm_at imm_kind)
    (disp_reads disp_kind) (λ d good. imm_reads imm_kind) (λ d good. some_imm imm_kind)

some_end : (disp_kind : DispKind) (imm_kind : ImmKind) → (end : Disp × Imm) × GoodEnd disp_kind imm_kind end
some_end disp_kind imm_kind = let d = some_disp disp_kind in let v = some_imm imm_kind in ((d.0, v.0), (d.1, v.1))

-- ---- behind ModRM

abbrev GoodBehind : Option ℕ → ImmKind → Option ℕ × (Disp × Imm) → Type 0
GoodBehind modrm imm_kind behind = GoodSib modrm behind.0 × GoodEnd (disp_kind_of modrm behind.0) imm_kind behind.1

abbrev spell_behind : Option ℕ × (Disp × Imm) → List ℕ
spell_behind behind = option_to_list behind.0 ++ spell_end behind.1

behind_reads : (modrm : Option ℕ) (imm_kind : ImmKind)
    → Reads (Option ℕ × (Disp × Imm)) (GoodBehind modrm imm_kind) spell_behind
    (field_pair (sib_at modrm) (λ sib. field_pair (disp_at (disp_kind_of modrm sib)) (λ d. imm_at imm_kind)))
behind_reads modrm imm_kind =
    both (Option ℕ) (Disp × Imm) (GoodSib modrm) (λ sib. GoodEnd (disp_kind_of modrm sib) imm_kind)
    (λ sib. option_to_list sib) spell_end
    (sib_at modrm) (λ sib. field_pair (disp_at (disp_kind_of modrm sib)) (λ d. imm_at imm_kind))
    (sib_reads modrm) (λ sib good. end_reads (disp_kind_of modrm sib) imm_kind)
    (λ sib good. some_end (disp_kind_of modrm sib) imm_kind)

some_behind : (modrm : Option ℕ) (imm_kind : ImmKind) → (behind : Option ℕ × (Disp × Imm)) × GoodBehind modrm imm_kind behind
some_behind modrm imm_kind = let sib = some_sib modrm in let end = some_end (disp_kind_of modrm sib.0) imm_kind in
    ((sib.0, end.0), (sib.1, end.1))

-- ---- behind the opcode

abbrev pub Rest : Type 0
Rest = Option ℕ × (Option ℕ × (Disp × Imm))

abbrev imm_kind_at : Lead → Option ℕ → ImmKind
imm_kind_at lead modrm = imm_kind_of (rule_of (cell_of lead.op) modrm) lead.rex

abbrev pub GoodRest : Lead → Rest → Type 0
GoodRest lead rest =
    GoodModrm (cell_of lead.op) lead.lock lead.rex rest.0 × GoodBehind rest.0 (imm_kind_at lead rest.0) rest.1

abbrev pub spell_rest : Rest → List ℕ
spell_rest rest = option_to_list rest.0 ++ spell_behind rest.1

abbrev pub rest_at : Lead → List ℕ → Read Rest
rest_at lead =
    field_pair (modrm_at (cell_of lead.op) lead.lock lead.rex)
    (λ modrm. field_pair (sib_at modrm)
    (λ sib. field_pair (disp_at (disp_kind_of modrm sib)) (λ d. imm_at (imm_kind_at lead modrm))))

pub rest_reads : (lead : Lead) → GoodLead lead → Reads Rest (GoodRest lead) spell_rest (rest_at lead)
rest_reads lead good =
    both (Option ℕ) (Option ℕ × (Disp × Imm)) (GoodModrm (cell_of lead.op) lead.lock lead.rex)
    (λ modrm. GoodBehind modrm (imm_kind_at lead modrm)) (λ modrm. option_to_list modrm) spell_behind
    (modrm_at (cell_of lead.op) lead.lock lead.rex)
    (λ modrm. field_pair (sib_at modrm)
    (λ sib. field_pair (disp_at (disp_kind_of modrm sib)) (λ d. imm_at (imm_kind_at lead modrm))))
    (modrm_reads (cell_of lead.op) lead.lock lead.rex good.takes)
    (λ modrm fits. behind_reads modrm (imm_kind_at lead modrm)) (λ modrm fits. some_behind modrm (imm_kind_at lead modrm))

pub some_rest : (lead : Lead) → GoodLead lead → (rest : Rest) × GoodRest lead rest
some_rest lead good =
    let modrm = some_modrm (cell_of lead.op) lead.lock lead.rex good.takes in
    let behind = some_behind modrm.0 (imm_kind_at lead modrm.0) in
    ((modrm.0, behind.0), (modrm.1, behind.1))
