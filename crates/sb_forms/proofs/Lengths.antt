-- How many bytes instructions have.
use Rattle.std.proofs.Common.{◌≡◌, ℕ, ◌+◌, ◌≤◌, Bool, true, false, [], ◌++◌, length, Option, Some, None, refl, sym, ap, arith, length-append}
use Rattle.std.specs.Option.{option_to_list}
use Rattle.std.proofs.lemmas.Bool.{and_parts, eqb-true}
use Rattle.sb_insn.specs.declared.insn.Insn.{Insn}
use Rattle.sb_insn.specs.declared.insn.Op.{Op}
use Rattle.sb_insn.specs.declared.insn.Op.TheVariants.{One, Two, Endbr, Vmfunc}
use Rattle.sb_insn.specs.declared.insn.Imm.{Imm}
use Rattle.sb_insn.specs.declared.insn.Imm.TheVariants as imm
use Rattle.sb_insn.specs.declared.opcode_map.Mnemonic.{Mnemonic}
use Rattle.sb_insn.specs.declared.opcode_map.Mnemonic.TheVariants as mnemonic
use Rattle.sb_insn.specs.declared.opcode_map.OperandForm.{OperandForm}
use Rattle.sb_insn.specs.declared.opcode_map.OperandForm.TheVariants.{AccImm, OpcodeImm}
use Rattle.sb_insn.specs.Spelling.{lock_bytes, op_bytes, disp_bytes, imm_bytes, lead_bytes, spelling}
use Rattle.sb_insn.specs.Grammar.{IsValid}
use Rattle.sb_insn.proofs.Longest.{one_field, spelling_13, one_lock}
use Rattle.sb_forms.specs.declared.helper.Helper.{Helper}
use Rattle.sb_insn.specs.Rex.{with_x_b_exchanged}
use Rattle.sb_forms.specs.Pieces.{is_sib_0f, sib_exchanged}
use Rattle.sb_forms.specs.Mains.{at_helper, own_register, with_displacement, with_helper, register_op, with_constant, behind_main, move_product}
use Rattle.sb_forms.proofs.Maps.{short_5}
use Rattle.sb_forms.proofs.Operands.{no_sib_0f}
use Rattle.sb_insn.specs.Fields.{has_memory}
use Rattle.sb_forms.specs.Table.{spelled_bytes, is_modrm, begins_with_01_d4, begins_at_modrm}

-- the sum over the fields
pub spelling_length : (insn : Insn) → length (spelling insn)
    ≡ length (lock_bytes insn.lock) + length (option_to_list insn.rex) + length (op_bytes insn.op) + length
    (option_to_list insn.modrm) + length (option_to_list insn.sib) + length (disp_bytes insn.disp) + length
    (imm_bytes insn.imm)
spelling_length insn =
    let a = length-append (lead_bytes insn.lock insn.rex insn.op)
    (option_to_list insn.modrm ++ (option_to_list insn.sib ++ (disp_bytes insn.disp ++ imm_bytes insn.imm))) in
    let b = length-append (lock_bytes insn.lock) (option_to_list insn.rex ++ op_bytes insn.op) in
    let c = length-append (option_to_list insn.rex) (op_bytes insn.op) in
    let d = length-append (option_to_list insn.modrm) (option_to_list insn.sib ++ (disp_bytes insn.disp ++ imm_bytes insn.imm)) in
    let e = length-append (option_to_list insn.sib) (disp_bytes insn.disp ++ imm_bytes insn.imm) in
    let f = length-append (disp_bytes insn.disp) (imm_bytes insn.imm) in
    omega (arith, a, b, c, d, e, f)

-- ---- fields

pub op_4 : (op : Op) → length (op_bytes op) ≤ 4
op_4 (One opcode) = omega arith
op_4 (Two opcode) = omega arith
op_4 Endbr = omega arith
op_4 Vmfunc = omega arith

-- ---- mains

pub with_helper_9 : (helper : Helper) (insn : Insn) → length (op_bytes insn.op) + length (imm_bytes insn.imm) ≤ 5
    → length (spelling (with_helper helper insn)) ≤ 9
unfolding with_helper at_helper
with_helper_9 helper insn short =
    omega (arith, spelling_length (with_helper helper insn), one_lock insn.lock, one_field (with_helper helper insn).rex)

-- MOV of the product has three bytes at most
pub product_3 : (insn : Insn) (helper : Helper) → length (spelling (move_product insn helper)) ≤ 3
unfolding move_product
product_3 insn helper = omega (arith, spelling_length (move_product insn helper), one_field (move_product insn helper).rex)

behind_3 : (insn : Insn) (helper : Helper) → length (spelled_bytes (behind_main mnemonic.Imul insn helper)) ≤ 3
unfolding behind_main
behind_3 insn helper = omega (arith, product_3 insn helper, length-append (spelling (move_product insn helper)) [])

behind_other : (lock : Bool) (one : ℕ) → length (lock_bytes lock) + length (op_bytes (One one)) + length (spelled_bytes []) ≤ 5
behind_other lock one = omega (arith, one_lock lock)

with_imul : (lock : Bool) (insn : Insn) (helper : Helper) → length (lock_bytes lock) ≡ 0
    → length (lock_bytes lock) + length (op_bytes (register_op mnemonic.Imul)) + length
    (spelled_bytes (behind_main mnemonic.Imul insn helper)) ≤ 5
with_imul lock insn helper none = omega (arith, none, behind_3 insn helper)

-- the opcode on registers has two bytes for IMUL alone, which has one more instruction behind it
main_and_behind : (name : Mnemonic) (insn : Insn) (helper : Helper) → (name ≡ mnemonic.Imul → insn.lock ≡ false)
    → length (lock_bytes insn.lock) + length (op_bytes (register_op name)) + length
    (spelled_bytes (behind_main name insn helper)) ≤ 5
unfolding behind_main
main_and_behind mnemonic.Imul insn helper unlocked =
    let none : length (lock_bytes insn.lock) ≡ 0 = ap (λ lock. length (lock_bytes lock)) (unlocked refl) in
    with_imul insn.lock insn helper none
main_and_behind mnemonic.Add insn helper unlocked = behind_other insn.lock 0x01
main_and_behind mnemonic.Or insn helper unlocked = behind_other insn.lock 0x09
main_and_behind mnemonic.And insn helper unlocked = behind_other insn.lock 0x21
main_and_behind mnemonic.Sub insn helper unlocked = behind_other insn.lock 0x29
main_and_behind mnemonic.Xor insn helper unlocked = behind_other insn.lock 0x31
main_and_behind mnemonic.Cmp insn helper unlocked = behind_other insn.lock 0x39
main_and_behind mnemonic.Test insn helper unlocked = behind_other insn.lock 0x85
main_and_behind _ insn helper unlocked = behind_other insn.lock 0x89

pub constant_main_8 : (name : Mnemonic) (insn : Insn) (helper second : Helper) → (name ≡ mnemonic.Imul → insn.lock ≡ false)
    → length (spelling (with_constant name insn (at_helper helper) second)) + length
    (spelled_bytes (behind_main name insn second)) ≤ 8
unfolding with_constant at_helper
constant_main_8 name insn helper second unlocked =
    omega (
      arith,
      spelling_length (with_constant name insn (at_helper helper) second),
      main_and_behind name insn second unlocked,
      one_field (with_constant name insn (at_helper helper) second).rex,
    )

op_2 : (name : Mnemonic) → length (op_bytes (register_op name)) ≤ 2
op_2 mnemonic.Imul = omega arith
op_2 _ = omega arith

bare : (form : OperandForm) (insn : Insn) → length (disp_bytes (own_register form insn).disp) ≡ 0
unfolding own_register
bare AccImm insn = refl
bare OpcodeImm insn = refl
bare _ insn = refl

pub alone_5 : (name : Mnemonic) (form : OperandForm) (insn : Insn) (helper : Helper)
    → length (spelling (with_constant name insn (own_register form insn) helper)) ≤ 5
unfolding with_constant
alone_5 name form insn helper =
    omega (
      arith,
      spelling_length (with_constant name insn (own_register form insn) helper),
      op_2 name,
      one_lock insn.lock,
      bare form insn,
      one_field (with_constant name insn (own_register form insn) helper).rex,
    )

-- ---- in place, and at ModRM 0F

exchanged_field : (rex : Option ℕ) → length (option_to_list (with_x_b_exchanged rex)) ≡ length (option_to_list rex)
exchanged_field None = refl
exchanged_field (Some byte) = refl

-- where a SIB byte stands, the exchanged instruction has as many bytes
pub exchanged_length : (insn : Insn) → is_sib_0f insn.sib ≡ true → length (spelling (sib_exchanged insn)) ≡ length (spelling insn)
unfolding sib_exchanged
exchanged_length insn e =
    omega (arith, spelling_length (sib_exchanged insn), spelling_length insn, exchanged_field insn.rex, sib_one insn.sib e)
  where
    sib_one : (sib : Option ℕ) → is_sib_0f sib ≡ true → length (option_to_list sib) ≡ 1
    sib_one None absent = absurd cc
    sib_one (Some byte) stands = refl

pub exchanged_short : (insn : Insn) → IsValid insn → length (spelling (sib_exchanged insn)) ≤ 14
unfolding sib_exchanged
exchanged_short insn valid =
    omega (arith, spelling_length (sib_exchanged insn), spelling_length insn, exchanged_field insn.rex, spelling_13 insn valid)

imm_4 : (immediate : Imm) → begins_with_01_d4 immediate ≡ true → length (imm_bytes immediate) ≡ 4
imm_4 imm.None e = absurd cc
imm_4 (imm.I8 value) e = absurd cc
imm_4 (imm.I32 value) e = refl
imm_4 (imm.I64 value) e = absurd cc

memory_0f : (modrm : Option ℕ) → is_modrm 0x0F modrm ≡ true → has_memory modrm ≡ true
memory_0f None e = absurd cc
memory_0f (Some modrm) e = ap (λ (byte : ℕ). has_memory (Some byte)) (sym (eqb-true 0x0F modrm e))

pub displaced_9 : (insn : Insn) → IsValid insn → begins_at_modrm insn ≡ true → length (spelling (with_displacement insn)) ≤ 9
unfolding with_displacement
displaced_9 insn valid e =
    let parts = and_parts (is_modrm 0x0F insn.modrm) (begins_with_01_d4 insn.imm) e in
    omega (
      arith,
      spelling_length (with_displacement insn),
      one_lock insn.lock,
      one_field (with_displacement insn).rex,
      ap (λ sib. length (option_to_list sib)) (no_sib_0f insn.modrm insn.sib parts.0 valid.sib),
      short_5 insn valid (memory_0f insn.modrm parts.0),
    )
