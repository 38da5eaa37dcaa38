-- Which opcodes have an instruction that ends in another effect than Next.
use Rattle.std.proofs.Common.{◌≡◌, ℕ, Bool, true, false, List, [], ◌∷◌, Option, Some, None, refl}
use Rattle.std.specs.Prelude.{◌==◌, ◌&&◌, if◌then◌else◌}
use Rattle.sb_insn.specs.declared.insn.Op.{Op}
use Rattle.sb_insn.specs.declared.insn.Op.TheVariants.{One, Two, Endbr, Vmfunc}
use Rattle.sb_insn.specs.declared.opcode_map.Mnemonic.{Mnemonic}
use Rattle.sb_insn.specs.declared.opcode_map.Mnemonic.TheVariants as mnemonic
use Rattle.sb_insn.specs.declared.opcode_map.Instruction.{Instruction}
use Rattle.sb_insn.specs.declared.opcode_map.OperandForm.{OperandForm}
use Rattle.sb_insn.specs.declared.opcode_map.ImmRule.{ImmRule}
use Rattle.sb_insn.specs.declared.opcode_map.ModRmOpcode.{ModRmOpcode}
use Rattle.sb_insn.specs.declared.opcode_map.Group.{Group}
use Rattle.sb_insn.specs.declared.opcode_map.Group.TheVariants.{Group1, Group2, Group3, Group5, Group11, Group16}
use Rattle.sb_insn.specs.declared.opcode_map.Cell.{Cell}
use Rattle.sb_insn.specs.declared.opcode_map.Cell.TheVariants.{Absent, NoModRm, ModRm, Extended}
use Rattle.sb_insn.specs.OpcodeMap.{OpcodeRow, look_up, is_of, one_byte, one_byte_rows, two_byte, two_byte_rows, cell_of}
use Rattle.sb_insn.specs.Groups.{Extension, extended_by, extensions, group_operand}
use Rattle.sb_insn.specs.Fields.{reg_field}
use Rattle.sb_insn.specs.Lookup.{named_instruction, extended_instruction, instruction_in}
use Rattle.sb_exec.specs.declared.action.Effect.{Effect}
use Rattle.sb_exec.specs.declared.action.Effect.TheVariants as effect

-- the effect of an instruction's name
abbrev pub mnemonic_effect : Mnemonic → Effect
mnemonic_effect mnemonic.Syscall = effect.Syscall
mnemonic_effect mnemonic.Ud2 = effect.Undefined
mnemonic_effect mnemonic.Vmfunc = effect.Switch
mnemonic_effect _ = effect.Next

-- an instruction that is found ends in this effect
abbrev pub Ends : Option Instruction → Effect → Type 0
Ends None end = Unit {0}
Ends (Some instruction) end = mnemonic_effect instruction.mnemonic ≡ end

-- ---- cells all of whose instructions go on

abbrev is_next : Effect → Bool
is_next effect.Next = true
is_next _ = false

abbrev goes_on : Instruction → Bool
goes_on instruction = is_next (mnemonic_effect instruction.mnemonic)

-- groups are looked at on their own
abbrev cell_goes_on : Cell → Bool
cell_goes_on Absent = true
cell_goes_on (NoModRm plain) = goes_on plain.instruction
cell_goes_on (ModRm operand) = goes_on operand.instruction
cell_goes_on (Extended group form imm) = true

abbrev rows_go_on : List OpcodeRow → Bool
rows_go_on [] = true
rows_go_on (row ∷ rows) = cell_goes_on row.cell && rows_go_on rows

abbrev extensions_go_on : List Extension → Bool
extensions_go_on [] = true
extensions_go_on (row ∷ rows) = goes_on row.operand.instruction && extensions_go_on rows

both : (first second : Bool) → first && second ≡ true → (first ≡ true) × (second ≡ true)
both true true holds = (refl, refl)
both true false holds = absurd cc
both false second holds = absurd cc

next_ends : (end : Effect) → is_next end ≡ true → end ≡ effect.Next
next_ends effect.Next holds = refl
next_ends effect.Syscall holds = absurd cc
next_ends effect.Switch holds = absurd cc
next_ends effect.Undefined holds = absurd cc

-- ---- groups

chosen_ends : (test : Bool) (first : ModRmOpcode) (second : Option ModRmOpcode) → goes_on first.instruction ≡ true
    → Ends (named_instruction second) effect.Next
    → Ends (named_instruction (if test then Some first else second)) effect.Next
chosen_ends true first second one two = next_ends _ one
chosen_ends false first second one two = two

extended_ends : (reg : ℕ) (rows : List Extension) → extensions_go_on rows ≡ true
    → Ends (named_instruction (extended_by reg rows)) effect.Next
extended_ends reg [] all = tt
extended_ends reg (row ∷ rows) all =
    let parts = both (goes_on row.operand.instruction) (extensions_go_on rows) all in
    chosen_ends (reg == row.digit) row.operand (extended_by reg rows) parts.0 (extended_ends reg rows parts.1)

group_goes_on : (group : Group) (form : OperandForm) (imm : ImmRule) → extensions_go_on (extensions group form imm) ≡ true
group_goes_on Group1 form imm = refl
group_goes_on Group2 form imm = refl
group_goes_on Group3 form imm = refl
group_goes_on Group5 form imm = refl
group_goes_on Group11 form imm = refl
group_goes_on Group16 form imm = refl

group_ends : (group : Group) (form : OperandForm) (imm : ImmRule) (modrm : Option ℕ)
    → Ends (extended_instruction group form imm modrm) effect.Next
unfolding group_operand
group_ends group form imm None = tt
group_ends group form imm (Some modrm) =
    extended_ends (reg_field modrm) (extensions group form imm) (group_goes_on group form imm)

-- ---- maps

cell_ends : (cell : Cell) (modrm : Option ℕ) → cell_goes_on cell ≡ true → Ends (instruction_in cell modrm) effect.Next
cell_ends Absent modrm all = tt
cell_ends (NoModRm plain) modrm all = next_ends _ all
cell_ends (ModRm operand) modrm all = next_ends _ all
cell_ends (Extended group form imm) modrm all = group_ends group form imm modrm

either_goes_on : (test : Bool) (first second : Cell) → cell_goes_on first ≡ true → cell_goes_on second ≡ true
    → cell_goes_on (if test then first else second) ≡ true
either_goes_on true first second one two = one
either_goes_on false first second one two = two

look_up_goes_on : (opcode : ℕ) (rows : List OpcodeRow) → rows_go_on rows ≡ true → cell_goes_on (look_up opcode rows) ≡ true
look_up_goes_on opcode [] all = refl
look_up_goes_on opcode (row ∷ rows) all =
    let parts = both (cell_goes_on row.cell) (rows_go_on rows) all in
    either_goes_on (is_of opcode row.opcodes) row.cell (look_up opcode rows) parts.0 (look_up_goes_on opcode rows parts.1)

-- the two-byte map behind SYSCALL and UD2
abbrev after_two : List OpcodeRow → List OpcodeRow
after_two [] = []
after_two (first ∷ []) = []
after_two (first ∷ second ∷ others) = others

abbrev pub two_byte_effect : Bool → Bool → Effect
two_byte_effect is_syscall is_ud2 = if is_syscall then effect.Syscall else if is_ud2 then effect.Undefined else effect.Next

two_byte_ends : (opcode : ℕ) (modrm : Option ℕ) (is_syscall is_ud2 : Bool)
    → Ends (instruction_in
    (if is_syscall then two_byte 0x05 else if is_ud2 then two_byte 0x0B else look_up opcode (after_two two_byte_rows)) modrm)
    (two_byte_effect is_syscall is_ud2)
unfolding two_byte
two_byte_ends opcode modrm true is_ud2 = refl
two_byte_ends opcode modrm false true = refl
two_byte_ends opcode modrm false false =
    cell_ends (look_up opcode (after_two two_byte_rows)) modrm (look_up_goes_on opcode (after_two two_byte_rows) refl)

-- ---- opcodes

-- the effect of an opcode's instructions
abbrev pub op_effect : Op → Effect
op_effect (One opcode) = effect.Next
op_effect (Two opcode) = two_byte_effect (opcode == 0x05) (opcode == 0x0B)
op_effect Endbr = effect.Next
op_effect Vmfunc = effect.Switch

pub op_ends : (op : Op) (modrm : Option ℕ) → Ends (instruction_in (cell_of op) modrm) (op_effect op)
unfolding one_byte two_byte
op_ends (One opcode) modrm = cell_ends (one_byte opcode) modrm (look_up_goes_on opcode one_byte_rows refl)
op_ends (Two opcode) modrm = two_byte_ends opcode modrm (opcode == 0x05) (opcode == 0x0B)
op_ends Endbr modrm = refl
op_ends Vmfunc modrm = refl
