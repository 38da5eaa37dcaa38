-- The operands of the mains with a constant.
use Rattle.std.proofs.Common.{◌≡◌, ℕ, ◌≤◌, ◌+◌, ◌*◌, ◌/◌, ◌%◌, ◌^◌, Option, Some, None, refl, sym, ap, ◌∙◌, arith}
use Rattle.std.specs.Prelude.{◌==◌}
use Rattle.std.proofs.lemmas.Bool.{cond-true, eq-eqb}
use Rattle.sb_insn.specs.declared.insn.Insn.{Insn}
use Rattle.sb_insn.specs.declared.registers.Regs.{Regs}
use Rattle.sb_insn.specs.declared.opcode_map.Mnemonic.{Mnemonic}
use Rattle.sb_insn.specs.Fields.{mod_field, rex_r, rex_b}
use Rattle.sb_exec.specs.declared.action.Location.TheVariants.{Register, Memory}
use Rattle.sb_exec.specs.Operand.{rm_number, general}
use Rattle.sb_insn.specs.RegisterNumbers.{modrm_of, reg_number}
use Rattle.sb_exec.specs.Address.{linear, disp_value, operand_address, rm_location}
use Rattle.sb_forms.specs.declared.helper.Helper.{Helper}
use Rattle.sb_forms.specs.declared.mains.RmOperand.{RmOperand}
use Rattle.sb_insn.specs.Rex.{with_r_b}
use Rattle.sb_forms.specs.Registers.{number_of}
use Rattle.sb_forms.specs.Mains.{at_helper, with_constant}
use Rattle.sb_forms.proofs.Fields.{with_b_0, helper_not_4, at_mod, at_reg, at_rm}
use Rattle.sb_original.proofs.Memory.{memory_place, rm_base}
use Rattle.sb_forms.proofs.QuietPieces.{number_7}

-- ---- fields

pub with_r_0 : (rex : Option ℕ) (b : ℕ) → b ≤ 1 → rex_r (with_r_b rex 0 b) ≡ 0
with_r_0 None b bb = refl
with_r_0 (Some rex) b bb = omega arith

reg_fields : (n r : ℕ) → n ≤ 7 → r ≤ 7
    → ((0xC0 + n + 8 * r) / 64 ≡ 3) × ((0xC0 + n + 8 * r) / 8 % 8 ≡ r) × ((0xC0 + n + 8 * r) % 8 ≡ n)
reg_fields n r nn rr = (omega arith, omega arith, omega arith)

pub register_place : (insn : Insn) (regs : Regs) → mod_field (modrm_of insn) ≡ 3
    → rm_location insn regs ≡ Register (rm_number insn)
unfolding rm_location
register_place insn regs is =
    cond-true (mod_field (modrm_of insn) == 3) (Register (rm_number insn)) (Memory (linear (operand_address insn regs)))
    (eq-eqb (mod_field (modrm_of insn)) 3 is)

-- ---- memory at a helper

memory_fields : (name : Mnemonic) (insn : Insn) (at helper : Helper)
    → (modrm_of (with_constant name insn (at_helper at) helper) ≡ 0x40 + number_of at + 8 * number_of helper)
    × (rex_b (with_constant name insn (at_helper at) helper).rex ≡ 0)
    × (rex_r (with_constant name insn (at_helper at) helper).rex ≡ 0)
unfolding with_constant at_helper
memory_fields name insn at helper = (refl, with_b_0 insn.rex 0 (omega arith), with_r_0 insn.rex 0 (omega arith))

memory_distance : (name : Mnemonic) (insn : Insn) (at helper : Helper) (value : ℕ)
    → (value + disp_value (with_constant name insn (at_helper at) helper).disp) % 2 ^ 64 ≡ value % 2 ^ 64
unfolding with_constant at_helper
memory_distance name insn at helper value = omega arith

pub memory_reg : (name : Mnemonic) (insn : Insn) (at helper : Helper)
    → reg_number (with_constant name insn (at_helper at) helper) ≡ number_of helper
memory_reg name insn at helper =
    let fields = memory_fields name insn at helper in
    let reg = ap (λ (m : ℕ). m / 8 % 8) fields.0 ∙ at_reg (number_of at) (number_of helper) (number_7 at) (number_7 helper) in
    omega (arith, reg, fields.2)

memory_address : (name : Mnemonic) (insn : Insn) (at helper : Helper) (regs : Regs)
    → operand_address (with_constant name insn (at_helper at) helper) regs ≡ general regs (number_of at) % 2 ^ 64
unfolding operand_address
memory_address name insn at helper regs =
    let main = with_constant name insn (at_helper at) helper in
    let fields = memory_fields name insn at helper in
    let low_field = ap (λ (m : ℕ). m % 8) fields.0 ∙ at_rm (number_of at) (number_of helper) (number_7 at) (number_7 helper) in
    let top = ap (λ (m : ℕ). m / 64) fields.0 ∙ at_mod (number_of at) (number_of helper) (number_7 at) (number_7 helper) in
    let base = rm_base main regs (λ is. helper_not_4 at (sym low_field ∙ is)) (λ is _. omega (arith, top, is)) in
    let number : rm_number main ≡ number_of at = omega (arith, low_field, fields.1) in
    ap (λ (from : ℕ). (from + disp_value main.disp) % 2 ^ 64) (base ∙ ap (λ (n : ℕ). general regs n) number)
    ∙ memory_distance name insn at helper (general regs (number_of at))

pub memory_at : (name : Mnemonic) (insn : Insn) (at helper : Helper) (regs : Regs)
    → rm_location (with_constant name insn (at_helper at) helper) regs ≡ Memory (linear (general regs (number_of at) % 2 ^ 64))
memory_at name insn at helper regs =
    let main = with_constant name insn (at_helper at) helper in
    let top =
    ap (λ (m : ℕ). m / 64) (memory_fields name insn at helper).0
    ∙ at_mod (number_of at) (number_of helper) (number_7 at) (number_7 helper) in
    memory_place main regs (λ is. omega (arith, top, is))
    ∙ ap (λ (n : ℕ). Memory (linear n)) (memory_address name insn at helper regs)

-- ---- a register

-- the operand names a register
pub record IsRegister (operand : RmOperand) (low bit : ℕ) : Type 0 where
  pub mod_rm : operand.mod_rm ≡ 0xC0 + low
  pub within : low ≤ 7
  pub rex : operand.rex_b ≤ 1

own_fields : (name : Mnemonic) (insn : Insn) (operand : RmOperand) (helper : Helper)
    → (modrm_of (with_constant name insn operand helper) ≡ operand.mod_rm + 8 * number_of helper)
    × ((with_constant name insn operand helper).rex ≡ with_r_b insn.rex 0 operand.rex_b)
unfolding with_constant
own_fields name insn operand helper = (refl, refl)

pub own_reg : (name : Mnemonic) (insn : Insn) (operand : RmOperand) (helper : Helper) (low bit : ℕ)
    → IsRegister operand low bit → reg_number (with_constant name insn operand helper) ≡ number_of helper
own_reg name insn operand helper low bit is =
    let fields = own_fields name insn operand helper in
    let reg = ap (λ (m : ℕ). m / 8 % 8) (fields.0 ∙ ap (λ (m : ℕ). m + 8 * number_of helper) is.mod_rm)
    ∙ (reg_fields low (number_of helper) is.within (number_7 helper)).1 in
    omega (arith, reg, ap (λ r. rex_r r) fields.1 ∙ with_r_0 insn.rex operand.rex_b is.rex)

pub own_place : (name : Mnemonic) (insn : Insn) (operand : RmOperand) (helper : Helper) (low bit number : ℕ) (regs : Regs)
    → IsRegister operand low bit → low + 8 * rex_b (with_r_b insn.rex 0 operand.rex_b) ≡ number
    → rm_location (with_constant name insn operand helper) regs ≡ Register number
own_place name insn operand helper low bit number regs is same =
    let main = with_constant name insn operand helper in
    let fields = own_fields name insn operand helper in
    let modrm = fields.0 ∙ ap (λ (m : ℕ). m + 8 * number_of helper) is.mod_rm in
    let parts = reg_fields low (number_of helper) is.within (number_7 helper) in
    let low_field = ap (λ (m : ℕ). m % 8) modrm ∙ parts.2 in
    let top = ap (λ (m : ℕ). m / 64) modrm ∙ parts.0 in
    let rex = ap (λ r. rex_b r) fields.1 in
    let whole : rm_number main ≡ number = omega (arith, low_field, rex, same) in
    register_place main regs top ∙ ap (λ (n : ℕ). Register n) whole
