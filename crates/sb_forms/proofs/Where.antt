-- Where the pattern can stand in an instruction.
use Rattle.std.proofs.Common.{◌≡◌, ℕ, zero, suc, ◌+◌, ◌/◌, ◌%◌, ◌^◌, ◌≤◌, Bool, true, false, List, [], ◌∷◌, ◌++◌, length, get_or, Option, Some, None, refl, sym, ap, ◌∙◌, arith, subst, inl, inr, ◌⊎◌, ⊎_elim, length-append, append_assoc, FitsSigned, ℤ, pos, negsuc}
use Rattle.std.specs.Prelude.{◌&&◌, ◌||◌, ◌==◌, not, IsTrue, ◌↔◌}
use Rattle.std.specs.Int.{w8, w32, w64, cast_unsigned}
use Rattle.std.specs.Option.{option_to_list}
use Rattle.std.proofs.lemmas.Bool.{and_parts, or_cases, not-true, not_from_false, both_ways, cases_Bool, cond-true, cond-false, eqb-true, false_from_ne_true, false≢true}
use Rattle.std.proofs.lemmas.List.{get_or-append-add}
use Rattle.sb_insn.specs.declared.insn.Insn.{Insn}
use Rattle.sb_insn.specs.declared.insn.Op.{Op}
use Rattle.sb_insn.specs.declared.insn.Op.TheVariants.{One, Two, Endbr, Vmfunc}
use Rattle.sb_insn.specs.declared.insn.Imm.{Imm}
use Rattle.sb_insn.specs.declared.insn.Imm.TheVariants as imm
use Rattle.sb_insn.specs.declared.opcode_map.OperandForm.{OperandForm}
use Rattle.sb_insn.specs.declared.opcode_map.Group.{Group}
use Rattle.sb_insn.specs.declared.opcode_map.ModRmOpcode.{ModRmOpcode}
use Rattle.sb_insn.specs.declared.opcode_map.ImmRule.{ImmRule}
use Rattle.sb_insn.specs.declared.opcode_map.ImmRule.TheVariants as rules
use Rattle.sb_insn.specs.declared.opcode_map.Cell.{Cell}
use Rattle.sb_insn.specs.declared.opcode_map.Cell.TheVariants.{Absent, NoModRm, ModRm, Extended}
use Rattle.sb_insn.specs.OpcodeMap.{Opcodes, Single, Span, OpcodeRow, is_of, look_up, one_byte, one_byte_rows, two_byte, two_byte_rows, cell_of}
use Rattle.sb_insn.specs.Groups.{extensions, group_operand, modrm_opcode}
use Rattle.sb_insn.specs.Spelling.{number, lock_bytes, op_bytes, disp_bytes, imm_bytes, lead_bytes, spelling}
use Rattle.sb_insn.specs.Fields.{reg_field, is_modrm_field, is_sib_field, disp_kind_of, operand_rule, rule_of, imm_kind_of, kind_of_imm, has_memory}
use Rattle.sb_insn.specs.Grammar.{FitsImm, IsValid}
use Rattle.sb_insn.specs.Lookup.{named_instruction, instruction_in, instruction_of}
use Rattle.sb_insn.proofs.Longest.{spelling_13}
use Rattle.sb_insn.proofs.Rows.{looked_up, every_extension, some_holds, extended}
use Rattle.sb_scan.specs.Pattern.{HasPatternAt}
use Rattle.sb_forms.specs.Holding.{holds_pattern}
use Rattle.sb_forms.specs.Table.{is_vmfunc}
use Rattle.sb_insn.specs.Branch.{imm_value, is_distance, is_relative, is_direct}
use Rattle.sb_forms.specs.Places.{lead, HasForm, IsPermitted, BehindOpcode, AtModrm, IsOrImul, InImmediate, NotInJumps}
use Rattle.sb_forms.proofs.Held.{before, not_held, none_held, nothing_holds, byte_holds}
use Rattle.sb_forms.proofs.Lowered.{IsInFour, in_four}
use Rattle.sb_forms.proofs.Maps.{of_operand, narrow, is_narrow, is_bare, one_narrow, two_bare, bare_imm}
use Rattle.sb_forms.proofs.Operands.{bare_0f, no_memory}
use Rattle.sb_forms.proofs.Leads.{IsRex, IsOpcode, valid_rex, valid_op}
use Rattle.sb_forms.proofs.Behind.{behind_opcode, imm_holds}

-- ---- behind the opcode

-- the pattern begins so many bytes on, or later
abbrev BeginsFrom : ℕ → List ℕ → Type 0
BeginsFrom count bytes = (place : ℕ) → HasPatternAt bytes place → count ≤ place

anywhere : (bytes : List ℕ) → BeginsFrom 0 bytes
anywhere bytes place stands = omega arith

one_more : (byte : ℕ) (bytes : List ℕ) (count : ℕ) → (byte ≡ 0x0F → ⊥) → BeginsFrom count bytes
    → BeginsFrom (suc count) (byte ∷ bytes)
one_more byte bytes count other from zero stands = absurd (other stands.0)
one_more byte bytes count other from (suc place) stands = omega (arith, from place (before byte bytes place stands))

behind_0f : (byte : ℕ) (bytes : List ℕ) (count : ℕ) → (byte ≡ 0x01 → ⊥) → BeginsFrom count (byte ∷ bytes)
    → BeginsFrom (suc count) (0x0F ∷ byte ∷ bytes)
behind_0f byte bytes count other from zero stands = absurd (other stands.1)
behind_0f byte bytes count other from (suc place) stands = omega (arith, from place (before 0x0F (byte ∷ bytes) place stands))

op_from : (op : Op) (rest : List ℕ) (count : ℕ) → IsOpcode op → BeginsFrom count rest
    → BeginsFrom (length (op_bytes op) + count) (op_bytes op ++ rest)
op_from (One opcode) rest count known from place stands = omega (arith, one_more opcode rest count known.0 from place stands)
op_from (Two opcode) rest count known from place stands =
    omega (arith, behind_0f opcode rest (suc count) known.0 (one_more opcode rest count known.1 from) place stands)
op_from Endbr rest count known from place stands =
    let last = one_more 0xFA rest count (λ is. omega (arith, is)) from in
    let third = one_more 0x1E (0xFA ∷ rest) (suc count) (λ is. omega (arith, is)) last in
    let second = behind_0f 0x1E (0xFA ∷ rest) (suc (suc count)) (λ is. omega (arith, is)) third in
    let first = one_more 0xF3 (0x0F ∷ 0x1E ∷ 0xFA ∷ rest) (suc (suc (suc count))) (λ is. omega (arith, is)) second in
    omega (arith, first place stands)
op_from Vmfunc rest count known from place stands = absurd known

rex_from : (rex : Option ℕ) (rest : List ℕ) (count : ℕ) → IsRex rex → BeginsFrom count rest
    → BeginsFrom (length (option_to_list rex) + count) (option_to_list rex ++ rest)
rex_from None rest count range from place stands = omega (arith, from place stands)
rex_from (Some rex) rest count range from place stands =
    omega (arith, one_more rex rest count (λ is. omega (arith, range.0, is)) from place stands)

lock_from : (lock : Bool) (rest : List ℕ) (count : ℕ) → BeginsFrom count rest
    → BeginsFrom (length (lock_bytes lock) + count) (lock_bytes lock ++ rest)
lock_from false rest count from place stands = omega (arith, from place stands)
lock_from true rest count from place stands = omega (arith, one_more 0xF0 rest count (λ is. omega (arith, is)) from place stands)

lead_from : (lock : Bool) (rex : Option ℕ) (op : Op) (rest : List ℕ) (count : ℕ) → IsRex rex → IsOpcode op
    → BeginsFrom count rest → BeginsFrom (length (lead_bytes lock rex op) + count) (lead_bytes lock rex op ++ rest)
lead_from lock rex op rest count range known behind place stands =
    let same : (lead_bytes lock rex op ++ rest) ≡ lock_bytes lock ++ (option_to_list rex ++ (op_bytes op ++ rest)) =
    append_assoc (lock_bytes lock) (option_to_list rex ++ op_bytes op) rest
    ∙ ap (λ (bytes : List ℕ). lock_bytes lock ++ bytes) (append_assoc (option_to_list rex) (op_bytes op) rest) in
    let from =
    lock_from lock (option_to_list rex ++ (op_bytes op ++ rest)) (length (option_to_list rex) + (length (op_bytes op) + count))
    (rex_from rex (op_bytes op ++ rest) (length (op_bytes op) + count) range (op_from op rest count known behind)) place
    (subst (λ (bytes : List ℕ). HasPatternAt bytes place) same stands) in
    omega (
      arith,
      from,
      length-append (lock_bytes lock) (option_to_list rex ++ op_bytes op),
      length-append (option_to_list rex) (op_bytes op),
    )

pub not_vmfunc : (op : Op) → (op ≡ Vmfunc → ⊥) → is_vmfunc op ≡ false
not_vmfunc (One opcode) other = refl
not_vmfunc (Two opcode) other = refl
not_vmfunc Endbr other = refl
not_vmfunc Vmfunc other = absurd (other refl)

pub behind_opcode_only : BehindOpcode
behind_opcode_only insn place valid other stands =
    omega (
      arith,
      lead_from insn.lock insn.rex insn.op (behind_opcode insn) 0 (valid_rex insn.rex valid.rex)
          (valid_op insn.op insn.lock insn.rex insn.modrm (not_vmfunc insn.op other) valid.modrm)
          (anywhere (behind_opcode insn)) place stands,
    )

-- ---- without a memory operand

register_from : (modrm : Option ℕ) (rest : List ℕ) → has_memory modrm ≡ false
    → BeginsFrom (length (option_to_list modrm)) (option_to_list modrm ++ rest)
register_from None rest alone = anywhere rest
register_from (Some modrm) rest alone =
    one_more modrm rest 0 (λ is. both_ways (has_memory (Some modrm)) alone (ap (λ (m : ℕ). has_memory (Some m)) is))
    (anywhere rest)

pub in_immediate : InImmediate
in_immediate insn place valid other alone stands =
    let none = no_memory insn.modrm insn.sib insn.disp alone valid.sib valid.disp in
    let sib : length (option_to_list insn.sib) ≡ 0 = ap (λ s. length (option_to_list s)) none.0 in
    let disp : length (disp_bytes insn.disp) ≡ 0 = ap (λ d. length (disp_bytes d)) none.1 in
    let from =
    lead_from insn.lock insn.rex insn.op (behind_opcode insn) (length (option_to_list insn.modrm)) (valid_rex insn.rex valid.rex)
    (valid_op insn.op insn.lock insn.rex insn.modrm (not_vmfunc insn.op other) valid.modrm)
    (register_from insn.modrm (option_to_list insn.sib ++ (disp_bytes insn.disp ++ imm_bytes insn.imm)) alone) place stands in
    let last = length-append (disp_bytes insn.disp) (imm_bytes insn.imm) in
    let more = length-append (option_to_list insn.sib) (disp_bytes insn.disp ++ imm_bytes insn.imm) in
    let rest =
    length-append (option_to_list insn.modrm) (option_to_list insn.sib ++ (disp_bytes insn.disp ++ imm_bytes insn.imm)) in
    let whole = length-append (lead insn) (behind_opcode insn) in
    omega (arith, from, sib, disp, last, more, rest, whole)

-- ---- at ModRM

stands_behind : (first second : List ℕ) → HasPatternAt (first ++ second) (length first) → HasPatternAt second 0
stands_behind first second stands =
    let here_it : length first + 0 ≡ length first = omega arith in (
      sym (get_or-append-add first second 0 0) ∙ ap (λ (k : ℕ). get_or (first ++ second) k 0) here_it ∙ stands.0,
      sym (get_or-append-add first second 1 0) ∙ stands.1,
      sym (get_or-append-add first second 2 0) ∙ stands.2,
    )

begins : (bytes : List ℕ) → get_or bytes 0 0 ≡ 0x01 → get_or bytes 1 0 ≡ 0xD4 → (behind : List ℕ) × (bytes ≡ 0x01 ∷ 0xD4 ∷ behind)
begins [] first second = absurd (omega (arith, first))
begins (a ∷ []) first second = absurd (omega (arith, second))
begins (a ∷ b ∷ rest) first second = (rest, cc)

-- a row whose ModRM byte with reg 1 has an immediate of four bytes is that of 81 or 69
abbrev is_four : ImmRule → Bool
is_four rules.I32 = true
is_four _ = false

abbrev has_four : Cell → Bool
has_four cell = is_four (operand_rule (modrm_opcode cell 1))

abbrev is_named : Opcodes → Bool
is_named (Single opcode) = (opcode == 0x81) || (opcode == 0x69)
is_named (Span low high) = false

every_row : List OpcodeRow → Bool
every_row [] = true
every_row (row ∷ rows) = (not (has_four row.cell) || is_named row.opcodes) && every_row rows

named_is : (opcode : ℕ) (opcodes : Opcodes) → is_named opcodes ≡ true → is_of opcode opcodes ≡ true
    → (opcode ≡ 0x81) ⊎ (opcode ≡ 0x69)
named_is opcode (Span low high) e is = absurd cc
named_is opcode (Single one) e is =
    let same = eqb-true opcode one is in
    ⊎_elim (λ first. inl (same ∙ eqb-true one 0x81 first)) (λ second. inr (same ∙ eqb-true one 0x69 second))
    (or_cases (one == 0x81) (one == 0x69) e)

-- the cell that is looked up
four_at : (opcode : ℕ) (rows : List OpcodeRow) → every_row rows ≡ true → has_four (look_up opcode rows) ≡ true
    → (opcode ≡ 0x81) ⊎ (opcode ≡ 0x69)
unfolding every_row
four_at opcode [] e four = absurd cc
four_at opcode (row ∷ rows) e four =
    let parts = and_parts (not (has_four row.cell) || is_named row.opcodes) (every_row rows) e in
    ⊎_elim
    (λ is.
    let cell : has_four row.cell ≡ true =
    ap (λ c. has_four c) (sym (cond-true (is_of opcode row.opcodes) row.cell (look_up opcode rows) is)) ∙ four in
    ⊎_elim
    (λ none. absurd (both_ways (has_four row.cell) (not-true (has_four row.cell) none) cell))
    (λ named. named_is opcode row.opcodes named is)
    (or_cases (not (has_four row.cell)) (is_named row.opcodes) parts.0))
    (λ other. four_at opcode rows parts.1
    (ap (λ c. has_four c) (sym (cond-false (is_of opcode row.opcodes) row.cell (look_up opcode rows) other)) ∙ four))
    (cases_Bool (is_of opcode row.opcodes))

one_four : (opcode : ℕ) → has_four (one_byte opcode) ≡ true → (opcode ≡ 0x81) ⊎ (opcode ≡ 0x69)
unfolding one_byte every_row group_operand
one_four opcode four = four_at opcode one_byte_rows refl four

rule_four : (rule : ImmRule) (immediate : Imm) (rex : Option ℕ) → narrow rule ≡ true
    → kind_of_imm immediate ≡ imm_kind_of rule rex → 2 ≤ length (imm_bytes immediate) → is_four rule ≡ true
rule_four rules.None imm.None rex e k long = absurd (omega (arith, long))
rule_four rules.None (imm.I8 value) rex e k long = absurd cc
rule_four rules.None (imm.I32 value) rex e k long = absurd cc
rule_four rules.None (imm.I64 value) rex e k long = absurd cc
rule_four rules.I8 imm.None rex e k long = absurd cc
rule_four rules.I8 (imm.I8 value) rex e k long = absurd (omega (arith, long))
rule_four rules.I8 (imm.I32 value) rex e k long = absurd cc
rule_four rules.I8 (imm.I64 value) rex e k long = absurd cc
rule_four rules.I32 immediate rex e k long = refl
rule_four rules.Wide immediate rex e k long = absurd cc

operand_four : (operand : Option ModRmOpcode) (immediate : Imm) (rex : Option ℕ)
    → some_holds (λ row. is_narrow row) operand ≡ true → kind_of_imm immediate ≡ imm_kind_of (operand_rule operand) rex
    → 2 ≤ length (imm_bytes immediate)
    → is_four (operand_rule operand) ≡ true
operand_four None immediate rex e k long = rule_four rules.None immediate rex refl k long
operand_four (Some operand) immediate rex e k long = rule_four operand.imm immediate rex e k long

or_imul : (op : Op) (lock : Bool) (rex : Option ℕ) (immediate : Imm) → is_modrm_field (cell_of op) lock rex (Some 0x0F) ≡ true
    → kind_of_imm immediate ≡ imm_kind_of (rule_of (cell_of op) (Some 0x0F)) rex
    → 2 ≤ length (imm_bytes immediate) → (op ≡ One 0x81) ⊎ (op ≡ One 0x69)
or_imul (One opcode) lock rex immediate e k long =
    ⊎_elim
    (λ first. inl (ap (λ (byte : ℕ). One byte) first))
    (λ second. inr (ap (λ (byte : ℕ). One byte) second))
    (one_four opcode
    (operand_four (modrm_opcode (one_byte opcode) 1) immediate rex
    (of_operand (λ row. is_narrow row) (one_byte opcode) 1 (one_narrow opcode)) k long))
or_imul (Two opcode) lock rex immediate e k long =
    absurd (omega (
      arith,
      long,
      bare_imm (modrm_opcode (two_byte opcode) 1) immediate rex
          (of_operand (λ row. is_bare row) (two_byte opcode) 1 (two_bare opcode)) k,
    ))
or_imul Endbr lock rex immediate e k long = absurd cc
or_imul Vmfunc lock rex immediate e k long = absurd cc

-- the ModRM byte is 0F
at_0f : (insn : Insn) → IsValid insn → insn.modrm ≡ Some 0x0F → HasPatternAt (spelling insn) (length (lead insn))
    → IsOrImul insn × ((behind : List ℕ) × (imm_bytes insn.imm ≡ 0x01 ∷ 0xD4 ∷ behind))
at_0f insn valid is stands =
    let bare =
    bare_0f 0x0F insn.sib insn.disp refl (ap (λ m. is_sib_field m insn.sib) (sym is) ∙ valid.sib) (valid.disp
    ∙ ap (λ m. disp_kind_of m insn.sib) is) in
    let bytes : behind_opcode insn ≡ 0x0F ∷ imm_bytes insn.imm =
    ap (λ m. option_to_list m ++ (option_to_list insn.sib ++ (disp_bytes insn.disp ++ imm_bytes insn.imm))) is
    ∙ ap (λ s. 0x0F ∷ (option_to_list s ++ (disp_bytes insn.disp ++ imm_bytes insn.imm))) bare.0
    ∙ ap (λ d. 0x0F ∷ (disp_bytes d ++ imm_bytes insn.imm)) bare.1 in
    let there = subst (λ (all : List ℕ). HasPatternAt all 0) bytes (stands_behind (lead insn) (behind_opcode insn) stands) in
    let found = begins (imm_bytes insn.imm) there.1 there.2 in
    let long : 2 ≤ length (imm_bytes insn.imm) = omega (arith, ap (λ (all : List ℕ). length all) found.1) in (
      or_imul insn.op insn.lock insn.rex insn.imm (ap (λ m. is_modrm_field (cell_of insn.op) insn.lock insn.rex m) (sym is)
          ∙ valid.modrm) (valid.imm ∙ ap (λ m. imm_kind_of (rule_of (cell_of insn.op) m) insn.rex) is) long,
      found,
    )

pub at_modrm_only : AtModrm
at_modrm_only insn modrm valid is stands =
    let there = stands_behind (lead insn) (behind_opcode insn) stands in
    let first : modrm ≡ 0x0F =
    sym (ap (λ m. get_or (option_to_list m ++ (option_to_list insn.sib ++ (disp_bytes insn.disp ++ imm_bytes insn.imm))) 0
    0) is) ∙ there.0 in
    let rest = at_0f insn valid (is ∙ ap (λ (m : ℕ). Some m) first) stands in
    (first, rest.0, rest.1)

-- ---- direct jumps and calls

-- Only opcodes without ModRM byte have a distance, of one byte or four.
abbrev is_short : ImmRule → Bool
is_short rules.I8 = true
is_short rules.I32 = true
is_short _ = false

abbrev has_distance : Cell → Bool
has_distance Absent = true
has_distance (NoModRm plain) = not (is_distance plain.instruction.form) || is_short plain.imm
has_distance (ModRm operand) = not (is_distance operand.instruction.form)
has_distance (Extended group form imm) =
    every_extension (λ row. not (is_distance row.instruction.form)) (extensions group form imm)

one_distance : (opcode : ℕ) → has_distance (one_byte opcode) ≡ true
unfolding one_byte
one_distance opcode = looked_up (λ cell. has_distance cell) opcode one_byte_rows refl refl

two_distance : (opcode : ℕ) → has_distance (two_byte opcode) ≡ true
unfolding two_byte
two_distance opcode = looked_up (λ cell. has_distance cell) opcode two_byte_rows refl refl

group_rows : (group : Group) (form : OperandForm) (immediate : ImmRule) (reg : ℕ)
    → has_distance (Extended group form immediate) ≡ true
    → some_holds (λ row. not (is_distance row.instruction.form)) (group_operand group form immediate reg) ≡ true
unfolding group_operand
group_rows group form immediate reg e =
    extended (λ row. not (is_distance row.instruction.form)) reg (extensions group form immediate) e

any_distance : (op : Op) → has_distance (cell_of op) ≡ true
any_distance (One opcode) = one_distance opcode
any_distance (Two opcode) = two_distance opcode
any_distance Endbr = refl
any_distance Vmfunc = refl

no_relative : (operand : Option ModRmOpcode) → some_holds (λ row. not (is_distance row.instruction.form)) operand ≡ true
    → is_relative (named_instruction operand) ≡ true → ⊥
no_relative None e is = false≢true is
no_relative (Some operand) e is =
    both_ways (is_distance operand.instruction.form) (not-true (is_distance operand.instruction.form) e) is

direct_fields : (cell : Cell) (modrm : Option ℕ) (lock : Bool) (rex : Option ℕ) → has_distance cell ≡ true
    → is_modrm_field cell lock rex modrm ≡ true → is_relative (instruction_in cell modrm) ≡ true
    → (modrm ≡ None) × (is_short (rule_of cell modrm) ≡ true)
direct_fields Absent modrm lock rex e known is = absurd (false≢true is)
direct_fields (NoModRm plain) (Some modrm) lock rex e known is = absurd cc
direct_fields (NoModRm plain) None lock rex e known is = (
  refl,
  ⊎_elim
      (λ none. absurd (both_ways (is_distance plain.instruction.form) (not-true (is_distance plain.instruction.form) none) is))
      (λ some. some)
      (or_cases (not (is_distance plain.instruction.form)) (is_short plain.imm) e),
)
direct_fields (ModRm operand) None lock rex e known is = absurd cc
direct_fields (ModRm operand) (Some modrm) lock rex e known is = absurd (no_relative (Some operand) e is)
direct_fields (Extended group form immediate) None lock rex e known is = absurd cc
direct_fields (Extended group form immediate) (Some modrm) lock rex e known is =
    absurd (no_relative (group_operand group form immediate (reg_field modrm))
    (group_rows group form immediate (reg_field modrm) e) is)

not_relative_vmfunc : (op : Op) (modrm : Option ℕ) → is_relative (instruction_in (cell_of op) modrm) ≡ true → is_vmfunc op ≡ false
not_relative_vmfunc (One opcode) modrm is = refl
not_relative_vmfunc (Two opcode) modrm is = refl
not_relative_vmfunc Endbr modrm is = refl
not_relative_vmfunc Vmfunc modrm is = absurd (false≢true is)

-- ---- distances

-- so far on, or so far back
near_holds : (next : ℕ) (value : ℤ) → 0x400000 ≤ next → next ≤ 0x600010 → FitsSigned w32 value
    → IsPermitted ((next + cast_unsigned w64 value) % 2 ^ 64)
    → IsInFour (cast_unsigned w32 value % 256) (cast_unsigned w32 value / 256 % 256) (cast_unsigned w32 value / 65536 % 256)
    (cast_unsigned w32 value / 16777216 % 256)
    → ⊥
near_holds next (pos n) low high fits (inl text) (inl four) = omega (arith, fits.sfits, text.0, text.1, four.2, low, high)
near_holds next (pos n) low high fits (inl text) (inr four) = omega (arith, fits.sfits, text.0, text.1, four.2, low, high)
near_holds next (pos n) low high fits (inr page) (inl four) = omega (arith, fits.sfits, page.0, page.1, four.2, low, high)
near_holds next (pos n) low high fits (inr page) (inr four) = omega (arith, fits.sfits, page.0, page.1, four.2, low, high)
near_holds next (negsuc n) low high fits (inl text) (inl four) = omega (arith, fits.sfits, text.0, text.1, four.2, low, high)
near_holds next (negsuc n) low high fits (inl text) (inr four) = omega (arith, fits.sfits, text.0, text.1, four.2, low, high)
near_holds next (negsuc n) low high fits (inr page) (inl four) = omega (arith, fits.sfits, page.0, page.1, four.2, low, high)
near_holds next (negsuc n) low high fits (inr page) (inr four) = omega (arith, fits.sfits, page.0, page.1, four.2, low, high)

distance_holds : (next : ℕ) (immediate : Imm) (rule : ImmRule) (rex : Option ℕ) → 0x400000 ≤ next → next ≤ 0x600010
    → is_short rule ≡ true → kind_of_imm immediate ≡ imm_kind_of rule rex → FitsImm immediate
    → IsPermitted ((next + imm_value immediate) % 2 ^ 64) → holds_pattern (imm_bytes immediate) ≡ false
distance_holds next imm.None rule rex low high is k fits permitted = nothing_holds
distance_holds next (imm.I8 value) rule rex low high is k fits permitted = byte_holds (cast_unsigned w8 value % 256)
distance_holds next (imm.I32 value) rule rex low high is k fits permitted =
    false_from_ne_true (holds_pattern (number w32 value)) (λ e.
    near_holds next value low high fits permitted
    (in_four (cast_unsigned w32 value % 256) (cast_unsigned w32 value / 256 % 256) (cast_unsigned w32 value / 65536 % 256)
    (cast_unsigned w32 value / 16777216 % 256) e))
distance_holds next (imm.I64 value) rules.None rex low high is k fits permitted = absurd cc
distance_holds next (imm.I64 value) rules.I8 rex low high is k fits permitted = absurd cc
distance_holds next (imm.I64 value) rules.I32 rex low high is k fits permitted = absurd cc
distance_holds next (imm.I64 value) rules.Wide rex low high is k fits permitted = absurd cc

pub not_in_jumps : NotInJumps
unfolding instruction_of
not_in_jumps insn at valid is low high permitted =
    let fields = direct_fields (cell_of insn.op) insn.modrm insn.lock insn.rex (any_distance insn.op) valid.modrm is in
    let alone : has_memory insn.modrm ≡ false = ap (λ m. has_memory m) fields.0 in
    let length_13 = spelling_13 insn valid in
    not_held
    (spelling insn)
    (imm_holds insn valid (not_relative_vmfunc insn.op insn.modrm is) alone
    ∙ distance_holds (at + length (spelling insn)) insn.imm (rule_of (cell_of insn.op) insn.modrm) insn.rex (omega (arith, low))
    (omega (arith, high, length_13)) fields.1 valid.imm valid.imm_fits permitted)

-- whether it has a form, as a test
pub has_form : (insn : Insn) → IsTrue (not (is_direct insn && holds_pattern (spelling insn))) ↔ HasForm insn
has_form insn = (
  λ e direct. not_held (spelling insn)
      (second_false (is_direct insn) (holds_pattern (spelling insn))
      (not-true (is_direct insn && holds_pattern (spelling insn)) e) direct),
  λ none. not_from_false (is_direct insn && holds_pattern (spelling insn))
      (false_from_ne_true (is_direct insn && holds_pattern (spelling insn)) (λ both.
      let parts = and_parts (is_direct insn) (holds_pattern (spelling insn)) both in
      both_ways (holds_pattern (spelling insn)) (none_held (spelling insn) (none parts.0)) parts.1)),
)
  where
    second_false : (first second : Bool) → (first && second) ≡ false → first ≡ true → second ≡ false
    second_false true second e is = e
    second_false false second e is = absurd (false≢true is)
