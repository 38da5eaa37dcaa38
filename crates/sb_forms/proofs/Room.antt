-- How many bytes stand in place of an instruction, and that a jump has room in one that is moved.
use Rattle.std.proofs.Common.{◌≡◌, ℕ, zero, suc, ◌+◌, ◌≤◌, Bool, true, false, List, [], ◌++◌, length, get_or, Option, Some, None, refl, sym, ap, ◌∙◌, arith, subst, ⊎_elim, length-append}
use Rattle.std.specs.Prelude.{not}
use Rattle.std.specs.Option.{option_to_list}
use Rattle.std.proofs.lemmas.Bool.{and_parts, cases_lt}
use Rattle.sb_insn.specs.declared.insn.Insn.{Insn}
use Rattle.sb_insn.specs.declared.insn.Op.{Op}
use Rattle.sb_insn.specs.declared.insn.Op.TheVariants.{One, Two, Endbr, Vmfunc}
use Rattle.sb_insn.specs.declared.insn.Imm.{Imm}
use Rattle.sb_insn.specs.declared.insn.Imm.TheVariants as imm
use Rattle.sb_insn.specs.declared.insn.Disp.{Disp}
use Rattle.sb_insn.specs.declared.insn.Disp.TheVariants as disp
use Rattle.sb_insn.specs.OpcodeMap.{cell_of}
use Rattle.sb_insn.specs.Spelling.{lock_bytes, op_bytes, disp_bytes, imm_bytes, spelling}
use Rattle.sb_insn.specs.Fields.{is_modrm_field, is_sib_field, disp_kind_of, kind_of_disp, rule_of, imm_kind_of, kind_of_imm}
use Rattle.sb_insn.specs.Grammar.{IsValid}
use Rattle.sb_scan.specs.Pattern.{HasPatternAt}
use Rattle.sb_forms.specs.declared.slots.Site.{Site}
use Rattle.sb_forms.specs.declared.answer.Form.{Form}
use Rattle.sb_forms.specs.Holding.{holds_pattern}
use Rattle.sb_forms.specs.Pieces.{is_sib_0f, sib_exchanged}
use Rattle.sb_forms.specs.Table.{Replacement, is_vmfunc, is_add_esp_edx, jump_form, wide_constant_form, address_and_constant_form, address_form, constant_form, replacement, bytes_of, site_of, form_of}
use Rattle.sb_forms.specs.Answers.{HasRoom}
use Rattle.sb_scan.proofs.Places.{read_within}
use Rattle.sb_forms.proofs.Held.{holds_at}
use Rattle.sb_forms.proofs.Lengths.{spelling_length, exchanged_length}
use Rattle.sb_forms.proofs.Operands.{bare_0f}
use Rattle.sb_forms.proofs.AddToRm.{add_is}
use Rattle.sb_forms.proofs.Behind.{behind_opcode, behind_holds}
use Rattle.sb_forms.proofs.ByTable.{IsHeld, TableCases, by_table}
use Rattle.sb_forms.proofs.Small.{address_small, constant_small, both_small, jump_small, wide_small, displaced_small, quiet_memory}

-- ---- an instruction that holds the pattern has five bytes

few_at : (bytes : List ℕ) (place : ℕ) → length bytes ≤ 3 → HasPatternAt bytes place
    → (length bytes ≡ 3) × (get_or bytes 0 0 ≡ 0x0F)
few_at bytes zero few stands = (omega (arith, few, read_within bytes 2 (omega (arith, stands.2))), stands.0)
few_at bytes (suc place) few stands = absurd (omega (arith, few, read_within bytes (suc place + 2) (omega (arith, stands.2))))

few : (bytes : List ℕ) → length bytes ≤ 3 → holds_pattern bytes ≡ true → (length bytes ≡ 3) × (get_or bytes 0 0 ≡ 0x0F)
few bytes short e = let found = holds_at bytes e in few_at bytes found.0 short found.1

no_imm_2 : (immediate : Imm) → length (imm_bytes immediate) ≡ 2 → ⊥
no_imm_2 imm.None e = omega (arith, e)
no_imm_2 (imm.I8 value) e = omega (arith, e)
no_imm_2 (imm.I32 value) e = omega (arith, e)
no_imm_2 (imm.I64 value) e = omega (arith, e)

no_imm_3 : (immediate : Imm) → length (imm_bytes immediate) ≡ 3 → ⊥
no_imm_3 imm.None e = omega (arith, e)
no_imm_3 (imm.I8 value) e = omega (arith, e)
no_imm_3 (imm.I32 value) e = omega (arith, e)
no_imm_3 (imm.I64 value) e = omega (arith, e)

-- three bytes behind the opcode would begin with ModRM 0F, which has an immediate alone behind it
not_three : (modrm sib : Option ℕ) (displacement : Disp) (immediate : Imm) → is_sib_field modrm sib ≡ true
    → kind_of_disp displacement ≡ disp_kind_of modrm sib
    → length (option_to_list modrm ++ (option_to_list sib ++ (disp_bytes displacement ++ imm_bytes immediate))) ≡ 3
    → get_or (option_to_list modrm ++ (option_to_list sib ++ (disp_bytes displacement ++ imm_bytes immediate))) 0 0 ≡ 0x0F → ⊥
not_three None (Some sib) displacement immediate stands kind three first = absurd cc
not_three None None disp.None immediate stands kind three first = no_imm_3 immediate three
not_three None None (disp.D8 value) immediate stands kind three first = absurd cc
not_three None None (disp.D32 value) immediate stands kind three first = absurd cc
not_three (Some modrm) sib displacement immediate stands kind three first =
    let bare = bare_0f modrm sib displacement first stands kind in
    let rest : length (option_to_list sib ++ (disp_bytes displacement ++ imm_bytes immediate)) ≡ length (imm_bytes immediate) =
    ap (λ s. length (option_to_list s ++ (disp_bytes displacement ++ imm_bytes immediate))) bare.0
    ∙ ap (λ d. length (disp_bytes d ++ imm_bytes immediate)) bare.1 in
    no_imm_2 immediate (omega (arith, rest, three))

behind_4 : (insn : Insn) → IsHeld insn → 4 ≤ length (behind_opcode insn)
behind_4 insn held =
    ⊎_elim
    (λ short.
    let found = few (behind_opcode insn) (omega (arith, short)) (sym (behind_holds insn held.valid held.other) ∙ held.held) in
    absurd (not_three insn.modrm insn.sib insn.disp insn.imm held.valid.sib held.valid.disp found.0 found.1))
    (λ long. long)
    (cases_lt (length (behind_opcode insn)) 4)

op_1 : (op : Op) → 1 ≤ length (op_bytes op)
op_1 (One opcode) = omega arith
op_1 (Two opcode) = omega arith
op_1 Endbr = omega arith
op_1 Vmfunc = omega arith

pub held_5 : (insn : Insn) → IsHeld insn → 5 ≤ length (spelling insn)
held_5 insn held =
    let a = length-append (option_to_list insn.modrm) (option_to_list insn.sib ++ (disp_bytes insn.disp ++ imm_bytes insn.imm)) in
    let b = length-append (option_to_list insn.sib) (disp_bytes insn.disp ++ imm_bytes insn.imm) in
    let c = length-append (disp_bytes insn.disp) (imm_bytes insn.imm) in
    omega (arith, spelling_length insn, behind_4 insn held, op_1 insn.op, a, b, c)

-- ---- VMFUNC has three bytes, and ADD ESP, EDX has two

-- no other field stands
abbrev others : Bool → Option ℕ → Option ℕ → Disp → Imm → ℕ
others lock rex sib displacement immediate =
    length (lock_bytes lock) + length (option_to_list rex) + length (option_to_list sib) + length
    (disp_bytes displacement) + length (imm_bytes immediate)

vmfunc_alone : (lock : Bool) (rex modrm sib : Option ℕ) (displacement : Disp) (immediate : Imm)
    → is_modrm_field (cell_of Vmfunc) lock rex modrm ≡ true → is_sib_field modrm sib ≡ true
    → kind_of_disp displacement ≡ disp_kind_of modrm sib
    → kind_of_imm immediate ≡ imm_kind_of (rule_of (cell_of Vmfunc) modrm) rex
    → others lock rex sib displacement immediate + length (option_to_list modrm) ≡ 0
vmfunc_alone lock rex (Some modrm) sib displacement immediate e s d i = absurd cc
vmfunc_alone true rex None sib displacement immediate e s d i = absurd cc
vmfunc_alone false (Some rex) None sib displacement immediate e s d i = absurd cc
vmfunc_alone false None None (Some sib) displacement immediate e s d i = absurd cc
vmfunc_alone false None None None (disp.D8 value) immediate e s d i = absurd cc
vmfunc_alone false None None None (disp.D32 value) immediate e s d i = absurd cc
vmfunc_alone false None None None disp.None imm.None e s d i = refl
vmfunc_alone false None None None disp.None (imm.I8 value) e s d i = absurd cc
vmfunc_alone false None None None disp.None (imm.I32 value) e s d i = absurd cc
vmfunc_alone false None None None disp.None (imm.I64 value) e s d i = absurd cc

vmfunc_fields : (op : Op) (lock : Bool) (rex modrm sib : Option ℕ) (displacement : Disp) (immediate : Imm)
    → is_vmfunc op ≡ true → is_modrm_field (cell_of op) lock rex modrm ≡ true → is_sib_field modrm sib ≡ true
    → kind_of_disp displacement ≡ disp_kind_of modrm sib → kind_of_imm immediate ≡ imm_kind_of (rule_of (cell_of op) modrm) rex
    → others lock rex sib displacement immediate + length (option_to_list modrm) + length (op_bytes op) ≡ 3
vmfunc_fields (One opcode) lock rex modrm sib displacement immediate is e s d i = absurd cc
vmfunc_fields (Two opcode) lock rex modrm sib displacement immediate is e s d i = absurd cc
vmfunc_fields Endbr lock rex modrm sib displacement immediate is e s d i = absurd cc
vmfunc_fields Vmfunc lock rex modrm sib displacement immediate is e s d i =
    omega (arith, vmfunc_alone lock rex modrm sib displacement immediate e s d i)

pub vmfunc_3 : (insn : Insn) → IsValid insn → is_vmfunc insn.op ≡ true → length (spelling insn) ≡ 3
vmfunc_3 insn valid is =
    omega (
      arith,
      spelling_length insn,
      vmfunc_fields insn.op insn.lock insn.rex insn.modrm insn.sib insn.disp insn.imm is valid.modrm valid.sib valid.disp
          valid.imm,
    )

add_2 : (insn : Insn) → IsValid insn → is_add_esp_edx insn ≡ true → length (spelling insn) ≡ 2
add_2 insn valid e = subst (λ (i : Insn). length (spelling i) ≡ 2) (sym (add_is insn valid e)) refl

-- ---- every replacement

-- what is said of a replacement
abbrev IsRoomy : Insn → Replacement → Type 0
IsRoomy insn form = HasRoom insn (bytes_of form)

roomy_cases : (insn : Insn) (site : Site) → IsValid insn → TableCases (IsRoomy insn) insn site
unfolding jump_form wide_constant_form address_and_constant_form address_form constant_form
roomy_cases insn site valid = record {
  vmfunc = λ is. sym (vmfunc_3 insn valid is);
  completes = λ is. sym (add_2 insn valid is);
  keep = λ none. tt;
  exchange = λ held e.
      let one = length-append (spelling (sib_exchanged insn)) [] in
      omega (
        arith,
        one,
        exchanged_length insn (and_parts (is_sib_0f insn.sib) (not (holds_pattern (spelling (sib_exchanged insn)))) e).0,
      );
  displace = λ held e. (held_5 insn held, displaced_small insn site valid e);
  unmovable = tt;
  through = λ instruction known memory jumps. (held_5 insn known.held, jump_small instruction insn site);
  wide = λ instruction value known is. (held_5 insn known.held, wide_small instruction insn site value);
  both = λ instruction value known is memory.
      (held_5 insn known.held, both_small instruction insn site value valid known.listed);
  alone = λ instruction value known is alone. (held_5 insn known.held, constant_small instruction insn site value);
  memory = λ instruction known none.
      (held_5 insn known.held, address_small instruction insn site valid (quiet_memory insn known.held none));
}

replacement_roomy : (insn : Insn) (site : Site) (after_0f : Bool) → IsValid insn → IsRoomy insn (replacement insn site after_0f)
replacement_roomy insn site after_0f valid = by_table (IsRoomy insn) insn site after_0f valid (roomy_cases insn site valid)

-- what stands in place of an instruction
pub form_roomy : (insn : Insn) (at slot : ℕ) (after_0f : Bool) (form : Form) → IsValid insn
    → form ≡ form_of insn at slot after_0f → HasRoom insn form
unfolding form_of
form_roomy insn at slot after_0f form valid is =
    subst (λ f. HasRoom insn f) (sym is) (replacement_roomy insn (site_of insn at slot) after_0f valid)
