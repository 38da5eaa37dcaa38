-- The longest instruction has 13 bytes.
use Rattle.std.proofs.Common.{◌≡◌, ℕ, ◌+◌, ◌≤◌, Bool, true, false, ◌&&◌, ◌++◌, length, Option, Some, None, refl, arith, length-append}
use Rattle.std.proofs.lemmas.Bool.{and_parts}
use Rattle.std.specs.Option.{option_to_list}
use Rattle.sb_insn.specs.declared.insn.Insn.{Insn}
use Rattle.sb_insn.specs.declared.insn.Op.{Op}
use Rattle.sb_insn.specs.declared.insn.Op.TheVariants.{One, Two, Endbr, Vmfunc}
use Rattle.sb_insn.specs.declared.insn.Disp.{Disp}
use Rattle.sb_insn.specs.declared.insn.Disp.TheVariants as disp
use Rattle.sb_insn.specs.declared.insn.DispKind.TheVariants as disp_kinds
use Rattle.sb_insn.specs.declared.insn.Imm.{Imm}
use Rattle.sb_insn.specs.declared.insn.Imm.TheVariants as imm
use Rattle.sb_insn.specs.declared.opcode_map.ImmRule.{ImmRule}
use Rattle.sb_insn.specs.declared.opcode_map.ImmRule.TheVariants as rules
use Rattle.sb_insn.specs.declared.opcode_map.Cell.{Cell}
use Rattle.sb_insn.specs.declared.opcode_map.Cell.TheVariants.{Absent, NoModRm, ModRm, Extended}
use Rattle.sb_insn.specs.declared.opcode_map.Group.{Group}
use Rattle.sb_insn.specs.declared.opcode_map.Group.TheVariants.{Group1, Group2, Group3, Group5, Group11, Group16}
use Rattle.sb_insn.specs.declared.opcode_map.OperandForm.{OperandForm}
use Rattle.sb_insn.specs.declared.opcode_map.ModRmOpcode.{ModRmOpcode}
use Rattle.sb_insn.specs.OpcodeMap.{one_byte, one_byte_rows, two_byte, two_byte_rows, cell_of}
use Rattle.sb_insn.specs.Groups.{extended_by, extensions, group_operand, modrm_opcode}
use Rattle.sb_insn.proofs.Rows.{looked_up, every_extension, some_holds, extended}
use Rattle.sb_insn.specs.Spelling.{lock_bytes, op_bytes, disp_bytes, imm_bytes, lead_bytes, spelling}
use Rattle.sb_insn.specs.Fields.{kind_of_imm, kind_of_disp, imm_kind_of, rule_of, disp_kind_of, is_sib_field, is_modrm_field, operand_rule, reg_field}
use Rattle.sb_insn.specs.Grammar.{IsValid}

-- ---- which immediates stand behind ModRM

-- no eight bytes
abbrev is_narrow : ImmRule → Bool
is_narrow rules.None = true
is_narrow rules.I8 = true
is_narrow rules.I32 = true
is_narrow rules.Wide = false

abbrev is_no_rule : ImmRule → Bool
is_no_rule rules.None = true
is_no_rule rules.I8 = false
is_no_rule rules.I32 = false
is_no_rule rules.Wide = false

abbrev narrow_cell : Cell → Bool
narrow_cell Absent = true
narrow_cell (NoModRm opcode) = true
narrow_cell (ModRm opcode) = is_narrow opcode.imm
narrow_cell (Extended group form imm) = is_narrow imm

-- no row has an immediate of its own
abbrev bare_group : Group → Bool
bare_group Group3 = false
bare_group _ = true

-- no immediate behind ModRM
abbrev bare_cell : Cell → Bool
bare_cell Absent = true
bare_cell (NoModRm opcode) = true
bare_cell (ModRm opcode) = is_no_rule opcode.imm
bare_cell (Extended group form imm) = bare_group group && is_no_rule imm

one_narrow : (opcode : ℕ) → narrow_cell (one_byte opcode) ≡ true
unfolding one_byte
one_narrow opcode = looked_up narrow_cell opcode one_byte_rows refl refl

two_bare : (opcode : ℕ) → bare_cell (two_byte opcode) ≡ true
unfolding two_byte
two_bare opcode = looked_up bare_cell opcode two_byte_rows refl refl

narrow_option : (opcode : Option ModRmOpcode) → some_holds (λ row. is_narrow row.imm) opcode ≡ true
    → is_narrow (operand_rule opcode) ≡ true
narrow_option None e = refl
narrow_option (Some opcode) e = e

bare_option : (opcode : Option ModRmOpcode) → some_holds (λ row. is_no_rule row.imm) opcode ≡ true
    → is_no_rule (operand_rule opcode) ≡ true
bare_option None e = refl
bare_option (Some opcode) e = e

narrow_rows : (group : Group) (form : OperandForm) (imm : ImmRule) → is_narrow imm ≡ true
    → every_extension (λ row. is_narrow row.imm) (extensions group form imm) ≡ true
narrow_rows Group1 form imm e = rw e refl
narrow_rows Group2 form imm e = rw e refl
narrow_rows Group3 form imm e = rw e refl
narrow_rows Group5 form imm e = rw e refl
narrow_rows Group11 form imm e = rw e refl
narrow_rows Group16 form imm e = rw e refl

bare_rows : (group : Group) (form : OperandForm) (imm : ImmRule) → bare_group group ≡ true → is_no_rule imm ≡ true
    → every_extension (λ row. is_no_rule row.imm) (extensions group form imm) ≡ true
bare_rows Group1 form imm bare e = rw e refl
bare_rows Group2 form imm bare e = rw e refl
bare_rows Group3 form imm bare e = absurd cc
bare_rows Group5 form imm bare e = rw e refl
bare_rows Group11 form imm bare e = rw e refl
bare_rows Group16 form imm bare e = rw e refl

narrow_operand : (cell : Cell) (reg : ℕ) → narrow_cell cell ≡ true → is_narrow (operand_rule (modrm_opcode cell reg)) ≡ true
unfolding group_operand
narrow_operand Absent reg e = refl
narrow_operand (NoModRm opcode) reg e = refl
narrow_operand (ModRm opcode) reg e = e
narrow_operand (Extended group form imm) reg e =
    narrow_option (extended_by reg (extensions group form imm))
    (extended (λ row. is_narrow row.imm) reg (extensions group form imm) (narrow_rows group form imm e))

bare_operand : (cell : Cell) (reg : ℕ) → bare_cell cell ≡ true → is_no_rule (operand_rule (modrm_opcode cell reg)) ≡ true
unfolding group_operand
bare_operand Absent reg e = refl
bare_operand (NoModRm opcode) reg e = refl
bare_operand (ModRm opcode) reg e = e
bare_operand (Extended group form imm) reg e =
    let parts = and_parts (bare_group group) (is_no_rule imm) e in
    bare_option (extended_by reg (extensions group form imm))
    (extended (λ row. is_no_rule row.imm) reg (extensions group form imm) (bare_rows group form imm parts.0 parts.1))

-- ---- how long the fields are

narrow_imm : (immediate : Imm) (rule : ImmRule) (rex : Option ℕ) → is_narrow rule ≡ true
    → kind_of_imm immediate ≡ imm_kind_of rule rex → length (imm_bytes immediate) ≤ 4
narrow_imm imm.None rule rex e k = omega arith
narrow_imm (imm.I8 value) rule rex e k = omega arith
narrow_imm (imm.I32 value) rule rex e k = omega arith
narrow_imm (imm.I64 value) rules.None rex e k = absurd cc
narrow_imm (imm.I64 value) rules.I8 rex e k = absurd cc
narrow_imm (imm.I64 value) rules.I32 rex e k = absurd cc
narrow_imm (imm.I64 value) rules.Wide rex e k = absurd cc

no_imm : (immediate : Imm) (rule : ImmRule) (rex : Option ℕ) → is_no_rule rule ≡ true
    → kind_of_imm immediate ≡ imm_kind_of rule rex → length (imm_bytes immediate) ≡ 0
no_imm imm.None rule rex e k = refl
no_imm (imm.I8 value) rules.None rex e k = absurd cc
no_imm (imm.I32 value) rules.None rex e k = absurd cc
no_imm (imm.I64 value) rules.None rex e k = absurd cc
no_imm immediate rules.I8 rex e k = absurd cc
no_imm immediate rules.I32 rex e k = absurd cc
no_imm immediate rules.Wide rex e k = absurd cc

any_imm : (immediate : Imm) → length (imm_bytes immediate) ≤ 8
any_imm imm.None = omega arith
any_imm (imm.I8 value) = omega arith
any_imm (imm.I32 value) = omega arith
any_imm (imm.I64 value) = omega arith

-- a displacement has four bytes at most
pub any_disp : (displacement : Disp) → length (disp_bytes displacement) ≤ 4
any_disp disp.None = omega arith
any_disp (disp.D8 value) = omega arith
any_disp (disp.D32 value) = omega arith

no_disp : (displacement : Disp) → kind_of_disp displacement ≡ disp_kinds.None → length (disp_bytes displacement) ≡ 0
no_disp disp.None e = refl
no_disp (disp.D8 value) e = absurd cc
no_disp (disp.D32 value) e = absurd cc

-- LOCK is one byte at most
pub one_lock : (lock : Bool) → length (lock_bytes lock) ≤ 1
one_lock true = omega arith
one_lock false = omega arith

-- a field of one byte has one byte at most
pub one_field : (field : Option ℕ) → length (option_to_list field) ≤ 1
one_field None = omega arith
one_field (Some byte) = omega arith

no_sib : (sib : Option ℕ) → is_sib_field None sib ≡ true → length (option_to_list sib) ≡ 0
no_sib None e = refl
no_sib (Some byte) e = absurd cc

-- the bytes behind the opcode
abbrev tail_length : Option ℕ → Option ℕ → Disp → Imm → ℕ
tail_length modrm sib displacement immediate =
    length (option_to_list modrm) +
    (length (option_to_list sib) + (length (disp_bytes displacement) + length (imm_bytes immediate)))

tail_11 : (op : Op) (modrm sib : Option ℕ) (displacement : Disp) (immediate : Imm) (lock : Bool) (rex : Option ℕ)
    → is_modrm_field (cell_of op) lock rex modrm ≡ true → is_sib_field modrm sib ≡ true
    → kind_of_disp displacement ≡ disp_kind_of modrm sib
    → kind_of_imm immediate ≡ imm_kind_of (rule_of (cell_of op) modrm) rex
    → length (op_bytes op) + tail_length modrm sib displacement immediate ≤ 11
tail_11 (One opcode) None sib displacement immediate lock rex is_modrm is_sib disp_is imm_is = let short = any_imm immediate in
    omega (arith, no_sib sib is_sib, no_disp displacement disp_is, short)
tail_11 (One opcode) (Some modrm) sib displacement immediate lock rex is_modrm is_sib disp_is imm_is =
    let short =
    narrow_imm immediate (operand_rule (modrm_opcode (one_byte opcode) (reg_field modrm))) rex
    (narrow_operand (one_byte opcode) (reg_field modrm) (one_narrow opcode)) imm_is in
    omega (arith, one_field sib, any_disp displacement, short)
tail_11 (Two opcode) None sib displacement immediate lock rex is_modrm is_sib disp_is imm_is = let short = any_imm immediate in
    omega (arith, no_sib sib is_sib, no_disp displacement disp_is, short)
tail_11 (Two opcode) (Some modrm) sib displacement immediate lock rex is_modrm is_sib disp_is imm_is =
    let short =
    no_imm immediate (operand_rule (modrm_opcode (two_byte opcode) (reg_field modrm))) rex
    (bare_operand (two_byte opcode) (reg_field modrm) (two_bare opcode)) imm_is in
    omega (arith, one_field sib, any_disp displacement, short)
tail_11 Endbr None sib displacement immediate lock rex is_modrm is_sib disp_is imm_is =
    let short = no_imm immediate rules.None rex refl imm_is in
    omega (arith, no_sib sib is_sib, no_disp displacement disp_is, short)
tail_11 Endbr (Some modrm) sib displacement immediate lock rex is_modrm is_sib disp_is imm_is = absurd cc
tail_11 Vmfunc None sib displacement immediate lock rex is_modrm is_sib disp_is imm_is =
    let short = no_imm immediate rules.None rex refl imm_is in
    omega (arith, no_sib sib is_sib, no_disp displacement disp_is, short)
tail_11 Vmfunc (Some modrm) sib displacement immediate lock rex is_modrm is_sib disp_is imm_is = absurd cc

-- the lengths of the fields of a valid instruction
pub fields_13 : (insn : Insn) → IsValid insn
    → length (lock_bytes insn.lock) + length (option_to_list insn.rex) + length (op_bytes insn.op) + length
    (option_to_list insn.modrm) + length (option_to_list insn.sib) + length (disp_bytes insn.disp) + length
    (imm_bytes insn.imm) ≤ 13
fields_13 insn valid =
    let tail =
    tail_11 insn.op insn.modrm insn.sib insn.disp insn.imm insn.lock insn.rex valid.modrm valid.sib valid.disp valid.imm in
    omega (arith, one_lock insn.lock, one_field insn.rex, tail)

pub spelling_13 : (insn : Insn) → IsValid insn → length (spelling insn) ≤ 13
spelling_13 insn valid =
    let tail =
    tail_11 insn.op insn.modrm insn.sib insn.disp insn.imm insn.lock insn.rex valid.modrm valid.sib valid.disp valid.imm in
    let a = length-append (lead_bytes insn.lock insn.rex insn.op)
    (option_to_list insn.modrm ++ (option_to_list insn.sib ++ (disp_bytes insn.disp ++ imm_bytes insn.imm))) in
    let b = length-append (lock_bytes insn.lock) (option_to_list insn.rex ++ op_bytes insn.op) in
    let c = length-append (option_to_list insn.rex) (op_bytes insn.op) in
    let d = length-append (option_to_list insn.modrm) (option_to_list insn.sib ++ (disp_bytes insn.disp ++ imm_bytes insn.imm)) in
    let e = length-append (option_to_list insn.sib) (disp_bytes insn.disp ++ imm_bytes insn.imm) in
    let f = length-append (disp_bytes insn.disp) (imm_bytes insn.imm) in
    omega (arith, one_lock insn.lock, one_field insn.rex, tail, a, b, c, d, e, f)
