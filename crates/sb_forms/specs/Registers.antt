-- The registers that an instruction names, and the helper registers that it leaves free.
use Rattle.std.specs.Prelude.{ℕ, Bool, false, not, ◌&&◌, ◌||◌, ◌==◌, if◌then◌else◌, List, [], ◌∷◌, Option}
use Rattle.std.specs.Prelude.{Some, None}
use Rattle.sb_insn.specs.declared.insn.Insn.{Insn}
use Rattle.sb_insn.specs.declared.opcode_map.OperandForm.{OperandForm}
use Rattle.sb_insn.specs.declared.opcode_map.OperandForm.TheVariants.{RmReg, RegRm, RmImm, AccImm, OpcodeImm, RegRmImm}
use Rattle.sb_insn.specs.declared.opcode_map.OperandForm.TheVariants.{RmCount, RmCl, Rm, Opcode, Imm, Relative, Nothing}
use Rattle.sb_insn.specs.RegisterNumbers.{reg_number, opcode_number, rm_number, base_number, index_number}
use Rattle.sb_forms.specs.declared.helper.Helper.{Helper}
use Rattle.sb_forms.specs.declared.helper.Helper.TheVariants.{Rcx, Rdx, Rbx, Rsi, Rdi}

-- ---- registers by their numbers, 0 to 15

-- the number of a register that may be absent
abbrev pub is_number : Option ℕ → ℕ → Bool
is_number None number = false
is_number (Some named) number = named == number

-- The register that the operands name beside rm: reg, the register in the opcode, or CL. A reg field that extends the
-- opcode names none.
abbrev pub form_number : OperandForm → Insn → Option ℕ
form_number RmReg insn = Some (reg_number insn)
form_number RegRm insn = Some (reg_number insn)
form_number RegRmImm insn = Some (reg_number insn)
form_number OpcodeImm insn = Some (opcode_number insn)
form_number Opcode insn = Some (opcode_number insn)
form_number RmCl insn = Some 1
form_number RmImm insn = None
form_number AccImm insn = None
form_number RmCount insn = None
form_number Rm insn = None
form_number Imm insn = None
form_number Relative insn = None
form_number Nothing insn = None

-- The instruction names the register. Where rm, base or index names none, its number is 4, 5, 12 or 13, which no helper
-- has.
unfoldable pub is_named : OperandForm → Insn → ℕ → Bool
is_named form insn number =
    is_number (rm_number insn.modrm insn.rex) number
    || (is_number (base_number insn.sib insn.rex) number
    || (is_number (index_number insn.sib insn.rex) number
    || is_number (form_number form insn) number))

-- ---- helper registers

abbrev pub number_of : Helper → ℕ
number_of Rcx = 1
number_of Rdx = 2
number_of Rbx = 3
number_of Rsi = 6
number_of Rdi = 7

abbrev pub helpers : List Helper
helpers = Rcx ∷ Rdx ∷ Rbx ∷ Rsi ∷ Rdi ∷ []

abbrev pub is_taken : Option Helper → Helper → Bool
is_taken None helper = false
is_taken (Some taken) helper = number_of taken == number_of helper

-- the helper that the instruction does not name, and that is not taken
abbrev pub is_free : OperandForm → Insn → Option Helper → Helper → Bool
is_free form insn taken helper = not (is_named form insn (number_of helper)) && not (is_taken taken helper)

-- the first free one; a valid instruction leaves two free (`free_helpers`), so the list does not run out
abbrev pub first_free : OperandForm → Insn → Option Helper → List Helper → Helper
first_free form insn taken [] = Rdi
first_free form insn taken (helper ∷ rest) = if is_free form insn taken helper then helper else first_free form insn taken rest

-- the first helper of an instruction
unfoldable pub first_helper : OperandForm → Insn → Helper
first_helper form insn = first_free form insn None helpers

-- the second one
unfoldable pub second_helper : OperandForm → Insn → Helper
second_helper form insn = first_free form insn (Some (first_helper form insn)) helpers
