-- Which actions the instructions with a memory operand have, and that the main with the operand at a helper has the same.
use Rattle.std.proofs.Common.{◌≡◌, ℕ, ◌%◌, Bool, true, false, List, [], ◌∷◌, Option, Some, None, refl, sym, ap, ◌∙◌}
use Rattle.std.specs.Prelude.{◌==◌, if◌then◌else◌, unwrap_or}
use Rattle.std.proofs.lemmas.Bool.{or_parts, or_from}
use Rattle.sb_insn.specs.declared.insn.Insn.{Insn}
use Rattle.sb_insn.specs.declared.insn.Op.{Op}
use Rattle.sb_insn.specs.declared.insn.Op.TheVariants.{One, Two, Endbr, Vmfunc}
use Rattle.sb_insn.specs.declared.opcode_map.Mnemonic.{Mnemonic}
use Rattle.sb_insn.specs.declared.opcode_map.Mnemonic.TheVariants as mnemonic
use Rattle.sb_insn.specs.declared.opcode_map.OperandForm.{OperandForm}
use Rattle.sb_insn.specs.declared.opcode_map.OperandForm.TheVariants as form
use Rattle.sb_insn.specs.declared.opcode_map.Instruction.{Instruction}
use Rattle.sb_insn.specs.declared.opcode_map.ModRmOpcode.{ModRmOpcode}
use Rattle.sb_insn.specs.declared.opcode_map.Cell.{Cell}
use Rattle.sb_insn.specs.declared.opcode_map.Cell.TheVariants.{Absent, NoModRm, ModRm, Extended}
use Rattle.sb_insn.specs.OpcodeMap.{one_byte, one_byte_rows, two_byte, two_byte_rows, cell_of}
use Rattle.sb_insn.specs.Groups.{group_operand, modrm_opcode}
use Rattle.sb_insn.specs.Fields.{reg_field, some_permits, is_modrm_field, rex_w, has_memory}
use Rattle.sb_insn.specs.Lookup.{named_instruction, instruction_in, instruction_of, modrm_opcode_in, modrm_opcode_of}
use Rattle.sb_insn.specs.Grammar.{IsValid}
use Rattle.sb_insn.proofs.Rows.{looked_up, some_holds}
use Rattle.sb_alu.specs.declared.operation.Operation.TheVariants as operation
use Rattle.sb_exec.specs.declared.action.Exchange.TheVariants as exchange
use Rattle.sb_exec.specs.declared.action.Action.TheVariants.{Compute, ZeroExtend, LoadAddress, Exchange, JumpIf}
use Rattle.sb_alu.specs.declared.size.Size.TheVariants.{Doubleword, Quadword}
use Rattle.sb_exec.specs.Operand.{operand_size}
use Rattle.sb_insn.specs.RegisterNumbers.{modrm_of, reg_number, last_opcode_byte, rm_number, base_number, index_number}
use Rattle.sb_exec.specs.Actions.{byte_or, moved_size, condition_number, action_by, action_for, action_of}
use Rattle.sb_forms.specs.Registers.{is_number, form_number, is_named}
use Rattle.sb_forms.specs.Table.{is_call, is_jump}
use Rattle.sb_forms.proofs.Maps.{of_cell, of_operand}
use Rattle.sb_original.specs.Alike.{is_rm_form, is_rm_action, FormShown, ActionShown, hides, NamesNone}

-- ---- the maps

abbrev is_reg_rm : OperandForm → Bool
is_reg_rm form.RegRm = true
is_reg_rm _ = false

abbrev is_rm_reg : OperandForm → Bool
is_rm_reg form.RmReg = true
is_rm_reg _ = false

abbrev pub is_plain_rm : OperandForm → Bool
is_plain_rm form.Rm = true
is_plain_rm _ = false

-- behind a ModRM byte an instruction of this name has operands of this form
abbrev pub fits : Mnemonic → OperandForm → Bool
fits mnemonic.Movzx form = is_reg_rm form
fits mnemonic.Lea form = is_reg_rm form
fits mnemonic.Xchg form = is_rm_reg form
fits mnemonic.Xadd form = is_rm_reg form
fits mnemonic.Cmpxchg form = is_rm_reg form
fits mnemonic.Nop form = true
fits mnemonic.Jmp form = is_plain_rm form
fits mnemonic.Call form = is_plain_rm form
fits mnemonic.Pop form = false
fits mnemonic.Jcc form = false
fits mnemonic.Ret form = false
fits mnemonic.Endbr64 form = false
fits mnemonic.Syscall form = false
fits mnemonic.Ud2 form = false
fits mnemonic.Vmfunc form = false
fits _ form = is_rm_form form

abbrev operand_fits : ModRmOpcode → Bool
operand_fits operand = fits operand.instruction.mnemonic operand.instruction.form

one_fits : (opcode : ℕ) → of_cell operand_fits (one_byte opcode) ≡ true
unfolding one_byte
one_fits opcode = looked_up (λ cell. of_cell operand_fits cell) opcode one_byte_rows refl refl

two_fits : (opcode : ℕ) → of_cell operand_fits (two_byte opcode) ≡ true
unfolding two_byte
two_fits opcode = looked_up (λ cell. of_cell operand_fits cell) opcode two_byte_rows refl refl

op_fits : (op : Op) → of_cell operand_fits (cell_of op) ≡ true
op_fits (One opcode) = one_fits opcode
op_fits (Two opcode) = two_fits opcode
op_fits Endbr = refl
op_fits Vmfunc = refl

-- an instruction that is listed and fits
abbrev pub Fits : Option Instruction → Type 0
Fits found = (instruction : Instruction) × (found ≡ Some instruction) × (fits instruction.mnemonic instruction.form ≡ true)

some_fits : (operand : Option ModRmOpcode) (lock : Bool) (rex : Option ℕ) (modrm : ℕ) → some_holds operand_fits operand ≡ true
    → some_permits operand lock rex modrm ≡ true → Fits (named_instruction operand)
some_fits None lock rex modrm e permitted = absurd cc
some_fits (Some operand) lock rex modrm e permitted = (operand.instruction, refl, e)

cell_fits : (cell : Cell) (lock : Bool) (rex modrm : Option ℕ) → of_cell operand_fits cell ≡ true → has_memory modrm ≡ true
    → is_modrm_field cell lock rex modrm ≡ true → Fits (instruction_in cell modrm)
cell_fits cell lock rex None e memory permitted = absurd cc
cell_fits Absent lock rex (Some modrm) e memory permitted = absurd cc
cell_fits (NoModRm plain) lock rex (Some modrm) e memory permitted = absurd cc
cell_fits (ModRm operand) lock rex (Some modrm) e memory permitted = (operand.instruction, refl, e)
cell_fits (Extended group form imm) lock rex (Some modrm) e memory permitted =
    some_fits (group_operand group form imm (reg_field modrm)) lock rex modrm
    (of_operand operand_fits (Extended group form imm) (reg_field modrm) e) permitted

pub memory_fits : (insn : Insn) → IsValid insn → has_memory insn.modrm ≡ true → Fits (instruction_of insn)
unfolding instruction_of
memory_fits insn valid memory = cell_fits (cell_of insn.op) insn.lock insn.rex insn.modrm (op_fits insn.op) memory valid.modrm

-- ---- actions

pub fits_action : (name : Mnemonic) (form : OperandForm) (insn : Insn) → fits name form ≡ true → is_call name ≡ false
    → is_jump name ≡ false → is_rm_action (action_by name form insn) ≡ true
unfolding action_by
fits_action mnemonic.Add form insn e call jump = e
fits_action mnemonic.Or form insn e call jump = e
fits_action mnemonic.And form insn e call jump = e
fits_action mnemonic.Sub form insn e call jump = e
fits_action mnemonic.Xor form insn e call jump = e
fits_action mnemonic.Cmp form insn e call jump = e
fits_action mnemonic.Test form insn e call jump = e
fits_action mnemonic.Mov form insn e call jump = e
fits_action mnemonic.Movzx form insn e call jump = refl
fits_action mnemonic.Lea form insn e call jump = refl
fits_action mnemonic.Not form insn e call jump = e
fits_action mnemonic.Neg form insn e call jump = e
fits_action mnemonic.Imul form insn e call jump = e
fits_action mnemonic.Shl form insn e call jump = e
fits_action mnemonic.Shr form insn e call jump = e
fits_action mnemonic.Sar form insn e call jump = e
fits_action mnemonic.Inc form insn e call jump = e
fits_action mnemonic.Dec form insn e call jump = e
fits_action mnemonic.Bsf form insn e call jump = e
fits_action mnemonic.Xchg form insn e call jump = refl
fits_action mnemonic.Xadd form insn e call jump = refl
fits_action mnemonic.Cmpxchg form insn e call jump = refl
fits_action mnemonic.Push form insn e call jump = e
fits_action mnemonic.Nop form insn e call jump = refl
fits_action mnemonic.Jmp form insn e call jump = absurd cc
fits_action mnemonic.Call form insn e call jump = absurd cc
fits_action mnemonic.Pop form insn e call jump = absurd cc
fits_action mnemonic.Jcc form insn e call jump = absurd cc
fits_action mnemonic.Ret form insn e call jump = absurd cc
fits_action mnemonic.Endbr64 form insn e call jump = absurd cc
fits_action mnemonic.Syscall form insn e call jump = absurd cc
fits_action mnemonic.Ud2 form insn e call jump = absurd cc
fits_action mnemonic.Vmfunc form insn e call jump = absurd cc

-- reg is named where the form is one of the two with reg and rm
reg_shown : (hidden : ℕ → Bool) (form : OperandForm) (insn : Insn) → is_reg_rm form ≡ true → FormShown hidden form insn
    → hidden (reg_number insn) ≡ false
reg_shown hidden form.RegRm insn e shown = shown
reg_shown hidden form.RmReg insn e shown = absurd cc
reg_shown hidden form.RmImm insn e shown = absurd cc
reg_shown hidden form.AccImm insn e shown = absurd cc
reg_shown hidden form.OpcodeImm insn e shown = absurd cc
reg_shown hidden form.RegRmImm insn e shown = absurd cc
reg_shown hidden form.RmCount insn e shown = absurd cc
reg_shown hidden form.RmCl insn e shown = absurd cc
reg_shown hidden form.Rm insn e shown = absurd cc
reg_shown hidden form.Opcode insn e shown = absurd cc
reg_shown hidden form.Imm insn e shown = absurd cc
reg_shown hidden form.Relative insn e shown = absurd cc
reg_shown hidden form.Nothing insn e shown = absurd cc

rm_reg_shown : (hidden : ℕ → Bool) (form : OperandForm) (insn : Insn) → is_rm_reg form ≡ true → FormShown hidden form insn
    → hidden (reg_number insn) ≡ false
rm_reg_shown hidden form.RmReg insn e shown = shown
rm_reg_shown hidden form.RegRm insn e shown = absurd cc
rm_reg_shown hidden form.RmImm insn e shown = absurd cc
rm_reg_shown hidden form.AccImm insn e shown = absurd cc
rm_reg_shown hidden form.OpcodeImm insn e shown = absurd cc
rm_reg_shown hidden form.RegRmImm insn e shown = absurd cc
rm_reg_shown hidden form.RmCount insn e shown = absurd cc
rm_reg_shown hidden form.RmCl insn e shown = absurd cc
rm_reg_shown hidden form.Rm insn e shown = absurd cc
rm_reg_shown hidden form.Opcode insn e shown = absurd cc
rm_reg_shown hidden form.Imm insn e shown = absurd cc
rm_reg_shown hidden form.Relative insn e shown = absurd cc
rm_reg_shown hidden form.Nothing insn e shown = absurd cc

pub action_shown : (hidden : ℕ → Bool) (name : Mnemonic) (form : OperandForm) (insn : Insn) → fits name form ≡ true
    → FormShown hidden form insn → ActionShown hidden (action_by name form insn) insn
unfolding action_by
action_shown hidden mnemonic.Add form insn e shown = shown
action_shown hidden mnemonic.Or form insn e shown = shown
action_shown hidden mnemonic.And form insn e shown = shown
action_shown hidden mnemonic.Sub form insn e shown = shown
action_shown hidden mnemonic.Xor form insn e shown = shown
action_shown hidden mnemonic.Cmp form insn e shown = shown
action_shown hidden mnemonic.Test form insn e shown = shown
action_shown hidden mnemonic.Mov form insn e shown = shown
action_shown hidden mnemonic.Movzx form insn e shown = reg_shown hidden form insn e shown
action_shown hidden mnemonic.Lea form insn e shown = reg_shown hidden form insn e shown
action_shown hidden mnemonic.Not form insn e shown = shown
action_shown hidden mnemonic.Neg form insn e shown = shown
action_shown hidden mnemonic.Imul form insn e shown = shown
action_shown hidden mnemonic.Shl form insn e shown = shown
action_shown hidden mnemonic.Shr form insn e shown = shown
action_shown hidden mnemonic.Sar form insn e shown = shown
action_shown hidden mnemonic.Inc form insn e shown = shown
action_shown hidden mnemonic.Dec form insn e shown = shown
action_shown hidden mnemonic.Bsf form insn e shown = shown
action_shown hidden mnemonic.Xchg form insn e shown = rm_reg_shown hidden form insn e shown
action_shown hidden mnemonic.Xadd form insn e shown = rm_reg_shown hidden form insn e shown
action_shown hidden mnemonic.Cmpxchg form insn e shown = rm_reg_shown hidden form insn e shown
action_shown hidden mnemonic.Push form insn e shown = shown
action_shown hidden mnemonic.Nop form insn e shown = tt
action_shown hidden mnemonic.Jmp form insn e shown = tt
action_shown hidden mnemonic.Call form insn e shown = tt
action_shown hidden mnemonic.Pop form insn e shown = tt
action_shown hidden mnemonic.Jcc form insn e shown = tt
action_shown hidden mnemonic.Ret form insn e shown = tt
action_shown hidden mnemonic.Endbr64 form insn e shown = tt
action_shown hidden mnemonic.Syscall form insn e shown = tt
action_shown hidden mnemonic.Ud2 form insn e shown = tt
action_shown hidden mnemonic.Vmfunc form insn e shown = tt

-- ---- what is not named is not hidden

names_not : (form : OperandForm) (insn : Insn) (number : ℕ) → is_named form insn number ≡ false
    → is_number (form_number form insn) number ≡ false
unfolding is_named
names_not form insn number e =
    let first = or_parts (is_number (rm_number insn.modrm insn.rex) number) _ e in
    let second = or_parts (is_number (base_number insn.sib insn.rex) number) _ first.1 in
    (or_parts (is_number (index_number insn.sib insn.rex) number) (is_number (form_number form insn) number) second.1).1

-- a number that is named is not among those that are not
pub number_shown : (named : ℕ) (form : OperandForm) (insn : Insn) (numbers : List ℕ) → form_number form insn ≡ Some named
    → NamesNone form insn numbers → hides numbers named ≡ false
number_shown named form insn [] is none = refl
number_shown named form insn (one ∷ others) is none =
    or_from (named == one) (hides others named)
    (ap (λ (number : Option ℕ). is_number number one) (sym is) ∙ names_not form insn one none.0)
    (number_shown named form insn others is none.1)

reg_is_shown : (form : OperandForm) (insn : Insn) (numbers : List ℕ) → form_number form insn ≡ Some (reg_number insn)
    → NamesNone form insn numbers → hides numbers (reg_number insn) ≡ false
reg_is_shown form insn numbers is none =
    number_shown (reg_number insn) form insn numbers is none

pub form_shown : (form : OperandForm) (insn : Insn) (numbers : List ℕ) → NamesNone form insn numbers
    → FormShown (hides numbers) form insn
form_shown form.RmReg insn numbers none = reg_is_shown form.RmReg insn numbers refl none
form_shown form.RegRm insn numbers none = reg_is_shown form.RegRm insn numbers refl none
form_shown form.RegRmImm insn numbers none = reg_is_shown form.RegRmImm insn numbers refl none
form_shown form.RmCl insn numbers none = number_shown 1 form.RmCl insn numbers refl none
form_shown form.RmImm insn numbers none = tt
form_shown form.AccImm insn numbers none = tt
form_shown form.OpcodeImm insn numbers none = tt
form_shown form.RmCount insn numbers none = tt
form_shown form.Rm insn numbers none = tt
form_shown form.Opcode insn numbers none = tt
form_shown form.Imm insn numbers none = tt
form_shown form.Relative insn numbers none = tt
form_shown form.Nothing insn numbers none = tt

-- ---- the same action

instruction_same : (cell : Cell) (modrm : Option ℕ) (byte : ℕ) → has_memory modrm ≡ true
    → reg_field byte ≡ reg_field (unwrap_or modrm 0) → instruction_in cell (Some byte) ≡ instruction_in cell modrm
instruction_same cell None byte memory same = absurd cc
instruction_same Absent (Some modrm) byte memory same = refl
instruction_same (NoModRm plain) (Some modrm) byte memory same = refl
instruction_same (ModRm operand) (Some modrm) byte memory same = refl
instruction_same (Extended group form imm) (Some modrm) byte memory same =
    ap (λ (reg : ℕ). named_instruction (group_operand group form imm reg)) same

operand_same : (cell : Cell) (modrm : Option ℕ) (byte : ℕ) → has_memory modrm ≡ true
    → reg_field byte ≡ reg_field (unwrap_or modrm 0) → modrm_opcode_in cell (Some byte) ≡ modrm_opcode_in cell modrm
operand_same cell None byte memory same = absurd cc
operand_same cell (Some modrm) byte memory same = ap (λ (reg : ℕ). modrm_opcode cell reg) same

action_by_same : (name : Mnemonic) (form : OperandForm) (insn main : Insn) → operand_size main ≡ operand_size insn
    → moved_size main ≡ moved_size insn → condition_number main ≡ condition_number insn
    → action_by name form main ≡ action_by name form insn
unfolding action_by
action_by_same mnemonic.Add form insn main size moved number = ap (λ s. Compute operation.Add form s) size
action_by_same mnemonic.Or form insn main size moved number = ap (λ s. Compute operation.Or form s) size
action_by_same mnemonic.And form insn main size moved number = ap (λ s. Compute operation.And form s) size
action_by_same mnemonic.Sub form insn main size moved number = ap (λ s. Compute operation.Sub form s) size
action_by_same mnemonic.Xor form insn main size moved number = ap (λ s. Compute operation.Xor form s) size
action_by_same mnemonic.Cmp form insn main size moved number = ap (λ s. Compute operation.Compare form s) size
action_by_same mnemonic.Test form insn main size moved number = ap (λ s. Compute operation.Test form s) size
action_by_same mnemonic.Mov form insn main size moved number = ap (λ s. Compute operation.Move form s) moved
action_by_same mnemonic.Movzx form insn main size moved number = ap (λ s. ZeroExtend s) size
action_by_same mnemonic.Lea form insn main size moved number = ap (λ s. LoadAddress s) size
action_by_same mnemonic.Not form insn main size moved number = ap (λ s. Compute operation.Not form s) size
action_by_same mnemonic.Neg form insn main size moved number = ap (λ s. Compute operation.Negate form s) size
action_by_same mnemonic.Imul form insn main size moved number = ap (λ s. Compute operation.Multiply form s) size
action_by_same mnemonic.Shl form insn main size moved number = ap (λ s. Compute operation.ShiftLeft form s) size
action_by_same mnemonic.Shr form insn main size moved number = ap (λ s. Compute operation.ShiftRight form s) size
action_by_same mnemonic.Sar form insn main size moved number = ap (λ s. Compute operation.ShiftArithmetic form s) size
action_by_same mnemonic.Inc form insn main size moved number = ap (λ s. Compute operation.Increment form s) size
action_by_same mnemonic.Dec form insn main size moved number = ap (λ s. Compute operation.Decrement form s) size
action_by_same mnemonic.Bsf form insn main size moved number = ap (λ s. Compute operation.ScanForward form s) size
action_by_same mnemonic.Xchg form insn main size moved number = ap (λ s. Exchange exchange.Xchg s) size
action_by_same mnemonic.Xadd form insn main size moved number = ap (λ s. Exchange exchange.Xadd s) size
action_by_same mnemonic.Cmpxchg form insn main size moved number = ap (λ s. Exchange exchange.Cmpxchg s) size
action_by_same mnemonic.Jcc form insn main size moved number = ap (λ n. JumpIf n) number
action_by_same _ form insn main size moved number = refl

pub action_same : (insn main : Insn) → instruction_of main ≡ instruction_of insn → operand_size main ≡ operand_size insn
    → moved_size main ≡ moved_size insn → condition_number main ≡ condition_number insn → action_of main ≡ action_of insn
unfolding action_of
action_same insn main same size moved number =
    ap (λ found. action_for found main) same ∙ for_same (instruction_of insn) insn main size moved number
  where
    for_same : (found : Option Instruction) (insn main : Insn) → operand_size main ≡ operand_size insn
        → moved_size main ≡ moved_size insn → condition_number main ≡ condition_number insn
        → action_for found main ≡ action_for found insn
    for_same None insn main size moved number = refl
    for_same (Some instruction) insn main size moved number =
        action_by_same instruction.mnemonic instruction.form insn main size moved number

-- an instruction with another ModRM byte whose reg field is the same, and the same REX.W
pub same_work : (insn main : Insn) (byte : ℕ) → has_memory insn.modrm ≡ true → main.op ≡ insn.op → main.modrm ≡ Some byte
    → reg_field byte ≡ reg_field (modrm_of insn) → rex_w main.rex ≡ rex_w insn.rex → action_of main ≡ action_of insn
unfolding instruction_of modrm_opcode_of
same_work insn main byte memory op modrm reg wide =
    let size : operand_size main ≡ operand_size insn = ap (λ (bit : ℕ). if bit == 1 then Quadword else Doubleword) wide in
    let found : instruction_of main ≡ instruction_of insn =
    ap (λ o. instruction_in (cell_of o) main.modrm) op ∙ ap (λ m. instruction_in (cell_of insn.op) m) modrm
    ∙ instruction_same (cell_of insn.op) insn.modrm byte memory reg in
    let operand : modrm_opcode_of main ≡ modrm_opcode_of insn =
    ap (λ o. modrm_opcode_in (cell_of o) main.modrm) op ∙ ap (λ m. modrm_opcode_in (cell_of insn.op) m) modrm
    ∙ operand_same (cell_of insn.op) insn.modrm byte memory reg in
    let moved : moved_size main ≡ moved_size insn =
    ap (λ o. byte_or o (operand_size main)) operand ∙ ap (λ s. byte_or (modrm_opcode_of insn) s) size in
    action_same insn main found size moved (ap (λ o. last_opcode_byte o % 16) op)
