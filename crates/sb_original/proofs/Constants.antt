-- The mains with the immediate in a helper do what the original does.
use Rattle.std.proofs.Common.{◌≡◌, ℕ, ◌≤◌, ◌+◌, ◌%◌, ◌^◌, Bool, true, false, Option, Some, None, refl, sym, ap, ◌∙◌, arith, subst, ℤ}
use Rattle.std.specs.Prelude.{◌==◌, ◌||◌, not, if◌then◌else◌}
use Rattle.std.specs.Int.{w64, cast_unsigned}
use Rattle.sb_insn.specs.declared.insn.Insn.{Insn}
use Rattle.sb_insn.specs.declared.insn.Op.{Op}
use Rattle.sb_insn.specs.declared.insn.Op.TheVariants.{One, Two, Endbr, Vmfunc}
use Rattle.sb_insn.specs.declared.insn.Imm.TheVariants as imm
use Rattle.sb_insn.specs.declared.registers.Regs.{Regs}
use Rattle.sb_insn.specs.declared.opcode_map.Mnemonic.{Mnemonic}
use Rattle.sb_insn.specs.declared.opcode_map.Mnemonic.TheVariants as mnemonic
use Rattle.sb_insn.specs.declared.opcode_map.OperandForm.{OperandForm}
use Rattle.sb_insn.specs.declared.opcode_map.OperandForm.TheVariants as form
use Rattle.sb_insn.specs.declared.opcode_map.ImmRule.{ImmRule}
use Rattle.sb_insn.specs.declared.opcode_map.ImmRule.TheVariants as rules
use Rattle.sb_insn.specs.declared.opcode_map.Instruction.{Instruction}
use Rattle.sb_insn.specs.declared.opcode_map.ModRmOpcode.{ModRmOpcode}
use Rattle.sb_insn.specs.declared.opcode_map.Cell.{Cell}
use Rattle.sb_insn.specs.OpcodeMap.{one_byte, one_byte_rows, two_byte, two_byte_rows, cell_of}
use Rattle.sb_insn.specs.Groups.{modrm_opcode}
use Rattle.sb_insn.specs.Fields.{reg_field, operand_rule, rule_of, imm_kind_of, kind_of_imm}
use Rattle.sb_insn.specs.Lookup.{instruction_of, modrm_opcode_in, modrm_opcode_of}
use Rattle.sb_insn.specs.Grammar.{IsValid}
use Rattle.sb_insn.proofs.Rows.{looked_up, some_holds}
use Rattle.sb_alu.specs.declared.size.Size.{Size}
use Rattle.sb_alu.specs.declared.size.Size.TheVariants.{Byte, Doubleword, Quadword}
use Rattle.sb_alu.specs.declared.operation.Operation.{Operation}
use Rattle.sb_alu.specs.declared.operation.Operation.TheVariants as operation
use Rattle.sb_exec.specs.declared.action.MemoryUse.{MemoryUse}
use Rattle.sb_exec.specs.declared.action.MemoryUse.TheVariants as memory_use
use Rattle.sb_exec.specs.declared.action.Load.TheVariants as load
use Rattle.sb_exec.specs.declared.action.Store.TheVariants as store
use Rattle.sb_exec.specs.declared.action.Action.{Action}
use Rattle.sb_exec.specs.declared.action.Action.TheVariants.{Compute}
use Rattle.sb_exec.specs.declared.action.Location.{Location}
use Rattle.sb_exec.specs.declared.action.Location.TheVariants.{Register, Memory}
use Rattle.sb_exec.specs.Size.{low}
use Rattle.sb_insn.specs.Branch.{imm_value}
use Rattle.sb_exec.specs.Operand.{operand_size, general, operand_value}
use Rattle.sb_insn.specs.RegisterNumbers.{reg_number, opcode_number}
use Rattle.sb_exec.specs.Address.{rm_location}
use Rattle.sb_exec.specs.WriteBack.{destination, first_operand, last_operand}
use Rattle.sb_exec.specs.Actions.{byte_or, moved_size, action_by, action_for, action_of}
use Rattle.sb_exec.specs.Rows.{destination_use, rm_use, load_by, store_by, row_by, row_of}
use Rattle.sb_forms.specs.declared.helper.Helper.{Helper}
use Rattle.sb_forms.specs.declared.mains.RmOperand.{RmOperand}
use Rattle.sb_forms.specs.Registers.{number_of}
use Rattle.sb_forms.specs.Mains.{with_constant}
use Rattle.sb_forms.proofs.Maps.{of_cell, of_operand, bare}
use Rattle.sb_original.specs.Kept.{AgreeBut, IsShown}
use Rattle.sb_original.specs.Work.{constant_operation, is_imm_form, IsConstantWork}
use Rattle.sb_original.specs.Alike.{AlikeBut}
use Rattle.sb_original.proofs.Registers.{value_same}
use Rattle.sb_original.proofs.Alike.{compute_alike}
use Rattle.sb_forms.proofs.Fields.{with_w}

-- ---- which operation

abbrev compute_as : Option Operation → OperandForm → Size → Action
compute_as None kinds size = Compute operation.Move kinds size
compute_as (Some kind) kinds size = Compute kind kinds size

abbrev compute_of : Option Operation → Size → Action
compute_of found size = compute_as found form.RmReg size

-- the instruction with these operands is the main with the constant
main_action : (name : Mnemonic) (kind : Operation) (insn : Insn) (operand : RmOperand) (helper : Helper)
    → constant_operation name ≡ Some kind
    → action_of (with_constant name insn operand helper)
    ≡ Compute kind form.RmReg (operand_size (with_constant name insn operand helper))
unfolding action_of instruction_of modrm_opcode_of one_byte action_by with_constant
main_action mnemonic.Add kind insn operand helper is =
    ap (λ o. compute_of o (operand_size (with_constant mnemonic.Add insn operand helper))) is
main_action mnemonic.Or kind insn operand helper is =
    ap (λ o. compute_of o (operand_size (with_constant mnemonic.Or insn operand helper))) is
main_action mnemonic.And kind insn operand helper is =
    ap (λ o. compute_of o (operand_size (with_constant mnemonic.And insn operand helper))) is
main_action mnemonic.Sub kind insn operand helper is =
    ap (λ o. compute_of o (operand_size (with_constant mnemonic.Sub insn operand helper))) is
main_action mnemonic.Xor kind insn operand helper is =
    ap (λ o. compute_of o (operand_size (with_constant mnemonic.Xor insn operand helper))) is
main_action mnemonic.Cmp kind insn operand helper is =
    ap (λ o. compute_of o (operand_size (with_constant mnemonic.Cmp insn operand helper))) is
main_action mnemonic.Test kind insn operand helper is =
    ap (λ o. compute_of o (operand_size (with_constant mnemonic.Test insn operand helper))) is
main_action mnemonic.Mov kind insn operand helper is =
    ap (λ o. compute_of o (operand_size (with_constant mnemonic.Mov insn operand helper))) is
main_action _ kind insn operand helper is = absurd cc

-- behind an immediate of four bytes nothing is a byte
abbrev wide_or_bare : ModRmOpcode → Bool
wide_or_bare operand = not operand.byte_rm || bare operand.imm

one_sized : (opcode : ℕ) → of_cell wide_or_bare (one_byte opcode) ≡ true
unfolding one_byte
one_sized opcode = looked_up (λ cell. of_cell wide_or_bare cell) opcode one_byte_rows refl refl

two_sized : (opcode : ℕ) → of_cell wide_or_bare (two_byte opcode) ≡ true
unfolding two_byte
two_sized opcode = looked_up (λ cell. of_cell wide_or_bare cell) opcode two_byte_rows refl refl

op_sized : (op : Op) → of_cell wide_or_bare (cell_of op) ≡ true
op_sized (One opcode) = one_sized opcode
op_sized (Two opcode) = two_sized opcode
op_sized Endbr = refl
op_sized Vmfunc = refl

sized_by : (byte : Bool) (rule : ImmRule) (rex : Option ℕ) (value : ℤ) (size : Size) → (not byte || bare rule) ≡ true
    → kind_of_imm (imm.I32 value) ≡ imm_kind_of rule rex → (if byte then Byte else size) ≡ size
sized_by false rule rex value size e k = refl
sized_by true rules.None rex value size e k = absurd cc
sized_by true rules.I8 rex value size e k = absurd cc
sized_by true rules.I32 rex value size e k = absurd cc
sized_by true rules.Wide rex value size e k = absurd cc

sized_in : (cell : Cell) (modrm rex : Option ℕ) (value : ℤ) (size : Size) → of_cell wide_or_bare cell ≡ true
    → kind_of_imm (imm.I32 value) ≡ imm_kind_of (rule_of cell modrm) rex → byte_or (modrm_opcode_in cell modrm) size ≡ size
sized_in cell None rex value size e k = refl
sized_in cell (Some modrm) rex value size e k =
    some_sized (modrm_opcode cell (reg_field modrm)) (of_operand wide_or_bare cell (reg_field modrm) e) k
  where
    some_sized : (operand : Option ModRmOpcode) → some_holds wide_or_bare operand ≡ true
        → kind_of_imm (imm.I32 value) ≡ imm_kind_of (operand_rule operand) rex → byte_or operand size ≡ size
    some_sized None e k = refl
    some_sized (Some operand) e k = sized_by operand.byte_rm operand.imm rex value size e k

pub moved_whole : (insn : Insn) (value : ℤ) → IsValid insn → insn.imm ≡ imm.I32 value → moved_size insn ≡ operand_size insn
unfolding modrm_opcode_of
moved_whole insn value valid is =
    sized_in (cell_of insn.op) insn.modrm insn.rex value (operand_size insn) (op_sized insn.op) (sym (ap (λ i. kind_of_imm i) is)
    ∙ valid.imm)

-- the same with an immediate of eight bytes
eight_sized : (byte : Bool) (rule : ImmRule) (rex : Option ℕ) (value : ℤ) (size : Size) → (not byte || bare rule) ≡ true
    → kind_of_imm (imm.I64 value) ≡ imm_kind_of rule rex → (if byte then Byte else size) ≡ size
eight_sized false rule rex value size e k = refl
eight_sized true rules.None rex value size e k = absurd cc
eight_sized true rules.I8 rex value size e k = absurd cc
eight_sized true rules.I32 rex value size e k = absurd cc
eight_sized true rules.Wide rex value size e k = absurd cc

eight_in : (cell : Cell) (modrm rex : Option ℕ) (value : ℤ) (size : Size) → of_cell wide_or_bare cell ≡ true
    → kind_of_imm (imm.I64 value) ≡ imm_kind_of (rule_of cell modrm) rex → byte_or (modrm_opcode_in cell modrm) size ≡ size
eight_in cell None rex value size e k = refl
eight_in cell (Some modrm) rex value size e k =
    some_sized (modrm_opcode cell (reg_field modrm)) (of_operand wide_or_bare cell (reg_field modrm) e) k
  where
    some_sized : (operand : Option ModRmOpcode) → some_holds wide_or_bare operand ≡ true
        → kind_of_imm (imm.I64 value) ≡ imm_kind_of (operand_rule operand) rex → byte_or operand size ≡ size
    some_sized None e k = refl
    some_sized (Some operand) e k = eight_sized operand.byte_rm operand.imm rex value size e k

pub moved_eight : (insn : Insn) (value : ℤ) → IsValid insn → insn.imm ≡ imm.I64 value → moved_size insn ≡ operand_size insn
unfolding modrm_opcode_of
moved_eight insn value valid is =
    eight_in (cell_of insn.op) insn.modrm insn.rex value (operand_size insn) (op_sized insn.op) (sym (ap (λ i. kind_of_imm i) is)
    ∙ valid.imm)

own_by : (name : Mnemonic) (kind : Operation) (kinds : OperandForm) (insn : Insn) → constant_operation name ≡ Some kind
    → moved_size insn ≡ operand_size insn → action_by name kinds insn ≡ Compute kind kinds (operand_size insn)
unfolding action_by
own_by mnemonic.Add kind kinds insn is moved = ap (λ o. compute_as o kinds (operand_size insn)) is
own_by mnemonic.Or kind kinds insn is moved = ap (λ o. compute_as o kinds (operand_size insn)) is
own_by mnemonic.And kind kinds insn is moved = ap (λ o. compute_as o kinds (operand_size insn)) is
own_by mnemonic.Sub kind kinds insn is moved = ap (λ o. compute_as o kinds (operand_size insn)) is
own_by mnemonic.Xor kind kinds insn is moved = ap (λ o. compute_as o kinds (operand_size insn)) is
own_by mnemonic.Cmp kind kinds insn is moved = ap (λ o. compute_as o kinds (operand_size insn)) is
own_by mnemonic.Test kind kinds insn is moved = ap (λ o. compute_as o kinds (operand_size insn)) is
own_by mnemonic.Mov kind kinds insn is moved =
    ap (λ s. Compute operation.Move kinds s) moved ∙ ap (λ o. compute_as o kinds (operand_size insn)) is
own_by _ kind kinds insn is moved = absurd cc

-- ---- forms with an immediate beside one operand

pub no_load : (size : Size) (place : Location) → load_by memory_use.Nothing size place ≡ load.Nothing
no_load size (Register number) = refl
no_load size (Memory address) = refl

pub no_store : (size : Size) (place : Location) → store_by memory_use.Nothing size place ≡ store.Nothing
no_store size (Register number) = refl
no_store size (Memory address) = refl

register_load : (usage : MemoryUse) (size : Size) (place : Location) (number : ℕ) → place ≡ Register number
    → load_by usage size place ≡ load.Nothing
register_load usage size place number is = ap (λ (there : Location). load_by usage size there) is

register_store : (usage : MemoryUse) (size : Size) (place : Location) (number : ℕ) → place ≡ Register number
    → store_by usage size place ≡ store.Nothing
register_store usage size place number is = ap (λ (there : Location). store_by usage size there) is

-- the main's place is the destination
abbrev pub PlaceIs : OperandForm → Insn → Regs → Insn → Regs → Type 0
PlaceIs kinds insn old main other = rm_location main other ≡ destination kinds insn old

loads_same : (kinds : OperandForm) (usage : MemoryUse) (size : Size) (insn : Insn) (old : Regs) (main : Insn) (other : Regs)
    → is_imm_form kinds ≡ true → PlaceIs kinds insn old main other
    → load_by (rm_use form.RmReg usage) size (rm_location main other) ≡ load_by (rm_use kinds usage) size (rm_location insn old)
unfolding rm_use destination
loads_same form.RmImm usage size insn old main other is place = ap (λ (there : Location). load_by usage size there) place
loads_same form.AccImm usage size insn old main other is place =
    register_load usage size (rm_location main other) 0 place ∙ sym (no_load size (rm_location insn old))
loads_same form.OpcodeImm usage size insn old main other is place =
    register_load usage size (rm_location main other) (opcode_number insn) place ∙ sym (no_load size (rm_location insn old))
loads_same _ usage size insn old main other is place = absurd cc

stores_same : (kinds : OperandForm) (usage : MemoryUse) (size : Size) (insn : Insn) (old : Regs) (main : Insn) (other : Regs)
    → is_imm_form kinds ≡ true → PlaceIs kinds insn old main other
    → store_by (rm_use form.RmReg usage) size (rm_location main other) ≡ store_by (rm_use kinds usage) size (rm_location insn old)
unfolding rm_use destination
stores_same form.RmImm usage size insn old main other is place = ap (λ (there : Location). store_by usage size there) place
stores_same form.AccImm usage size insn old main other is place =
    register_store usage size (rm_location main other) 0 place ∙ sym (no_store size (rm_location insn old))
stores_same form.OpcodeImm usage size insn old main other is place =
    register_store usage size (rm_location main other) (opcode_number insn) place ∙ sym (no_store size (rm_location insn old))
stores_same _ usage size insn old main other is place = absurd cc

first_is : (kinds : OperandForm) (size : Size) (insn : Insn) (old : Regs) (loaded : ℕ) → is_imm_form kinds ≡ true
    → first_operand kinds size insn old loaded ≡ operand_value size (destination kinds insn old) old loaded
unfolding first_operand
first_is form.RmImm size insn old loaded is = refl
first_is form.AccImm size insn old loaded is = refl
first_is form.OpcodeImm size insn old loaded is = refl
first_is _ size insn old loaded is = absurd cc

last_is : (kinds : OperandForm) (size : Size) (insn : Insn) (old : Regs) (loaded : ℕ) → is_imm_form kinds ≡ true
    → last_operand kinds size insn old loaded ≡ low size (imm_value insn.imm)
unfolding last_operand
last_is form.RmImm size insn old loaded is = refl
last_is form.AccImm size insn old loaded is = refl
last_is form.OpcodeImm size insn old loaded is = refl
last_is _ size insn old loaded is = absurd cc

pub low_whole : (size : Size) (value : ℕ) → low size ((0 + value) % 2 ^ 64) ≡ low size value
unfolding low
low_whole Byte value = omega arith
low_whole Doubleword value = omega arith
low_whole Quadword value = omega arith

main_first : (size : Size) (main : Insn) (other : Regs) (loaded : ℕ)
    → first_operand form.RmReg size main other loaded ≡ operand_value size (rm_location main other) other loaded
unfolding first_operand destination
main_first size main other loaded = refl

main_last : (size : Size) (main : Insn) (other : Regs) (loaded : ℕ)
    → last_operand form.RmReg size main other loaded ≡ low size (general other (reg_number main))
unfolding last_operand
main_last size main other loaded = refl

main_place : (main : Insn) (other : Regs) → destination form.RmReg main other ≡ rm_location main other
unfolding destination
main_place main other = refl

pub main_size : (name : Mnemonic) (insn : Insn) (operand : RmOperand) (helper : Helper) → operand.rex_b ≤ 1
    → operand_size (with_constant name insn operand helper) ≡ operand_size insn
unfolding with_constant
main_size name insn operand helper bit =
    ap (λ (b : ℕ). if b == 1 then Quadword else Doubleword) (with_w insn.rex 0 operand.rex_b (omega arith) bit)

pub own_action : (insn : Insn) (instruction : Instruction) (kind : Operation) (value : ℤ)
    → IsConstantWork insn instruction kind value → action_of insn ≡ Compute kind instruction.form (operand_size insn)
unfolding action_of
own_action insn instruction kind value work =
    ap (λ found. action_for found insn) work.named
    ∙ own_by instruction.mnemonic kind instruction.form insn work.operation (moved_whole insn value work.valid work.imm)

pub whole_main_action : (name : Mnemonic) (kind : Operation) (insn : Insn) (operand : RmOperand) (helper : Helper)
    → constant_operation name ≡ Some kind → operand.rex_b ≤ 1
    → action_of (with_constant name insn operand helper) ≡ Compute kind form.RmReg (operand_size insn)
whole_main_action name kind insn operand helper is bit =
    main_action name kind insn operand helper is ∙ ap (λ s. Compute kind form.RmReg s) (main_size name insn operand helper bit)

pub constant_main : (hidden : ℕ
    → Bool) (insn : Insn) (instruction : Instruction) (kind : Operation) (value : ℤ) (operand : RmOperand) (helper : Helper)
    (old other : Regs)
    → IsConstantWork insn instruction kind value → operand.rex_b ≤ 1
    → AgreeBut hidden old other → IsShown hidden (destination instruction.form insn old)
    → PlaceIs instruction.form insn old (with_constant instruction.mnemonic insn operand helper) other
    → reg_number (with_constant instruction.mnemonic insn operand helper) ≡ number_of helper
    → general other (number_of helper) ≡ (0 + cast_unsigned w64 value) % 2 ^ 64
    → AlikeBut hidden old (row_of insn old) (row_of (with_constant instruction.mnemonic insn operand helper) other)
unfolding row_of
constant_main hidden insn instruction kind value operand helper old other work bit agree shown place reg holds =
    let main = with_constant instruction.mnemonic insn operand helper in
    let kinds = instruction.form in
    let size = operand_size insn in
    let own : action_of insn ≡ Compute kind kinds size = own_action insn instruction kind value work in
    let mains : action_of main ≡ Compute kind form.RmReg size =
    main_action instruction.mnemonic kind insn operand helper work.operation
    ∙ ap (λ s. Compute kind form.RmReg s) (main_size instruction.mnemonic insn operand helper bit) in
    let usage = destination_use kind in
    subst (λ action. AlikeBut hidden old (row_by action insn old) (row_by (action_of main) main other)) (sym own)
    (subst (λ action. AlikeBut hidden old (row_by (Compute kind kinds size) insn old) (row_by action main other)) (sym mains)
    (compute_alike hidden kind kinds form.RmReg size insn old main other agree shown (main_place main other ∙ place)
    (λ loaded. main_first size main other loaded ∙ ap (λ (there : Location). operand_value size there other loaded) place
    ∙ value_same hidden size (destination kinds insn old) old other loaded shown agree
    ∙ sym (first_is kinds size insn old loaded work.form))
    (λ loaded. main_last size main other loaded ∙ ap (λ (n : ℕ). low size (general other n)) reg
    ∙ ap (λ (n : ℕ). low size n) holds ∙ low_whole size (cast_unsigned w64 value)
    ∙ ap (λ i. low size (imm_value i)) (sym work.imm) ∙ sym (last_is kinds size insn old loaded work.form))
    (loads_same kinds usage size insn old main other work.form place)
    (stores_same kinds usage size insn old main other work.form place)))
