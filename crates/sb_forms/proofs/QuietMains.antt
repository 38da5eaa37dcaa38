-- The main instructions are quiet.
use Rattle.std.proofs.Common.{◌≡◌, ℕ, ◌+◌, ◌*◌, ◌/◌, ◌%◌, ◌≤◌, Bool, true, false, List, [], ◌∷◌, ◌++◌, Option, Some, None, refl, ap, ◌∙◌, arith, ⊎_elim}
use Rattle.std.specs.Prelude.{◌&&◌, ◌==◌}
use Rattle.std.specs.Int.{w32, cast_unsigned}
use Rattle.std.specs.Option.{option_to_list}
use Rattle.std.proofs.lemmas.Bool.{and_parts, and_left, eqb-true, ne_eqb, false_from_ne_true}
use Rattle.sb_insn.specs.declared.insn.Insn.{Insn}
use Rattle.sb_insn.specs.declared.insn.Op.{Op}
use Rattle.sb_insn.specs.declared.insn.Op.TheVariants.{One, Two, Endbr, Vmfunc}
use Rattle.sb_insn.specs.declared.insn.Imm.{Imm}
use Rattle.sb_insn.specs.declared.insn.Imm.TheVariants as imm
use Rattle.sb_insn.specs.declared.opcode_map.Mnemonic.{Mnemonic}
use Rattle.sb_insn.specs.declared.opcode_map.Mnemonic.TheVariants as mnemonic
use Rattle.sb_insn.specs.declared.opcode_map.OperandForm.{OperandForm}
use Rattle.sb_insn.specs.declared.opcode_map.OperandForm.TheVariants.{AccImm, OpcodeImm}
use Rattle.sb_insn.specs.Spelling.{number, imm_bytes, lead_bytes, spelling}
use Rattle.sb_insn.specs.Fields.{reg_field, rm_field, rex_r, rex_b}
use Rattle.sb_forms.specs.declared.helper.Helper.{Helper}
use Rattle.sb_forms.specs.declared.helper.Helper.TheVariants.{Rcx, Rdx, Rbx, Rsi, Rdi}
use Rattle.sb_scan.proofs.Held.{nothing_holds}
use Rattle.sb_forms.specs.Holding.{begins_with, holds_pattern}
use Rattle.sb_insn.specs.Rex.{with_r_b}
use Rattle.sb_insn.specs.RegisterNumbers.{modrm_of, last_opcode_byte}
use Rattle.sb_forms.specs.Registers.{number_of}
use Rattle.sb_forms.specs.Mains.{at_helper, own_register, with_displacement, with_helper, register_op, with_constant, on_register, behind_main, move_product, load_target, load_word}
use Rattle.sb_forms.specs.Table.{begins_with_01_d4}
use Rattle.sb_forms.proofs.Lowered.{in_four}
use Rattle.sb_forms.proofs.Quiet.{IsQuiet, AreQuiet, skip, last_one}
use Rattle.sb_forms.proofs.Leads.{IsRex, IsOpcode, IsStart, with_r_b_rex, r_1, b_1, lead_holds, lead_quiet}
use Rattle.sb_forms.proofs.QuietPieces.{number_7}

-- ---- behind the opcode

-- ModRM that is neither 0F nor D4
not_d4 : (modrm : ℕ) (rest : List ℕ) → (modrm ≡ 0xD4 → ⊥) → begins_with last_one (modrm ∷ rest) ≡ false
not_d4 modrm rest other = and_left (modrm == 0xD4) true (ne_eqb modrm 0xD4 other)

pub any_start : (op : Op) (rest : List ℕ) → begins_with last_one rest ≡ false → IsStart op rest
any_start (One opcode) rest other = λ _. other
any_start (Two opcode) rest other = tt
any_start Endbr rest other = tt
any_start Vmfunc rest other = tt

-- an instruction with this ModRM byte
modrm_quiet : (lock : Bool) (rex : Option ℕ) (op : Op) (modrm : ℕ) (rest : List ℕ) → IsRex rex → IsOpcode op
    → (modrm ≡ 0x0F → ⊥) → (modrm ≡ 0xD4 → ⊥) → holds_pattern rest ≡ false
    → IsQuiet (lead_bytes lock rex op ++ modrm ∷ rest)
modrm_quiet lock rex op modrm rest range known other last none =
    lead_quiet lock rex op (modrm ∷ rest) range known (any_start op (modrm ∷ rest) (not_d4 modrm rest last))
    (skip modrm rest other ∙ none)

zero_holds : holds_pattern (0 ∷ []) ≡ false
unfolding holds_pattern
zero_holds = refl

-- ---- opcodes on registers

register_opcode : (name : Mnemonic) → IsOpcode (register_op name)
register_opcode mnemonic.Add = (λ is. omega (arith, is), λ is. omega (arith, is))
register_opcode mnemonic.Or = (λ is. omega (arith, is), λ is. omega (arith, is))
register_opcode mnemonic.And = (λ is. omega (arith, is), λ is. omega (arith, is))
register_opcode mnemonic.Sub = (λ is. omega (arith, is), λ is. omega (arith, is))
register_opcode mnemonic.Xor = (λ is. omega (arith, is), λ is. omega (arith, is))
register_opcode mnemonic.Cmp = (λ is. omega (arith, is), λ is. omega (arith, is))
register_opcode mnemonic.Test = (λ is. omega (arith, is), λ is. omega (arith, is))
register_opcode mnemonic.Imul = (λ is. omega (arith, is), λ is. omega (arith, is))
register_opcode _ = (λ is. omega (arith, is), λ is. omega (arith, is))

-- ---- mains

-- the immediate in a helper, memory at another
pub on_memory_quiet : (name : Mnemonic) (insn : Insn) (helper second : Helper)
    → IsQuiet (spelling (with_constant name insn (at_helper helper) second))
unfolding with_constant at_helper
on_memory_quiet name insn helper second =
    modrm_quiet
    insn.lock
    (with_r_b insn.rex 0 0)
    (register_op name)
    (0x40 + number_of helper + 8 * number_of second)
    (0 ∷ [])
    (with_r_b_rex insn.rex 0 0 (omega arith) (omega arith))
    (register_opcode name)
    (λ is. omega (arith, is))
    (λ is. omega (arith, is, number_7 helper, number_7 second))
    zero_holds

-- the immediate in a helper, and a register that is not a helper: ModRM may be D4 here
register_holds : (lock : Bool) (rex : Option ℕ) (b : ℕ) (op : Op) (modrm : ℕ) → b ≤ 1 → IsOpcode op → 0xC0 ≤ modrm
    → holds_pattern (lead_bytes lock (with_r_b rex 0 b) op ++ modrm ∷ []) ≡ false
register_holds lock rex b op modrm bit known high =
    lead_holds lock (with_r_b rex 0 b) op (modrm ∷ []) (with_r_b_rex rex 0 b (omega arith) bit) known
    ∙ skip modrm [] (λ is. omega (arith, is, high)) ∙ nothing_holds

own_holds : (form : OperandForm) (name : Mnemonic) (insn : Insn) (helper : Helper)
    → holds_pattern (spelling (with_constant name insn (own_register form insn) helper)) ≡ false
unfolding with_constant own_register
own_holds AccImm name insn helper =
    register_holds insn.lock insn.rex 0 (register_op name) (0xC0 + 8 * number_of helper) (omega arith) (register_opcode name)
    (omega arith)
own_holds OpcodeImm name insn helper =
    register_holds insn.lock insn.rex (rex_b insn.rex) (register_op name)
    (0xC0 + last_opcode_byte insn.op % 8 + 8 * number_of helper) (b_1 insn.rex) (register_opcode name) (omega arith)
own_holds _ name insn helper =
    register_holds insn.lock insn.rex (rex_b insn.rex) (register_op name) (0xC0 + rm_field (modrm_of insn) + 8 * number_of helper)
    (b_1 insn.rex) (register_opcode name) (omega arith)

push_holds : (helper : Helper) → holds_pattern ((0x50 + number_of helper) ∷ []) ≡ false
push_holds helper = skip (0x50 + number_of helper) [] (λ is. omega (arith, is)) ∙ nothing_holds

pub on_register_holds : (name : Mnemonic) (form : OperandForm) (insn : Insn) (helper : Helper)
    → holds_pattern (spelling (on_register name form insn helper)) ≡ false
unfolding on_register
on_register_holds mnemonic.Push form insn helper = push_holds helper
on_register_holds name form insn helper = own_holds form name insn helper

-- the product of IMUL
product_quiet : (insn : Insn) (helper : Helper) → IsQuiet (spelling (move_product insn helper))
unfolding move_product
product_quiet insn helper =
    lead_quiet
    false
    (with_r_b insn.rex 0 (rex_r insn.rex))
    (One 0x89)
    ((0xC0 + 8 * number_of helper + reg_field (modrm_of insn)) ∷ [])
    (with_r_b_rex insn.rex 0 (rex_r insn.rex) (omega arith) (r_1 insn.rex))
    (λ is. omega (arith, is), λ is. omega (arith, is))
    (λ is. absurd (omega (arith, is)))
    (skip (0xC0 + 8 * number_of helper + reg_field (modrm_of insn)) [] (λ is. omega (arith, is)) ∙ nothing_holds)

pub behind_quiet : (name : Mnemonic) (insn : Insn) (helper : Helper) → AreQuiet (behind_main name insn helper)
unfolding behind_main
behind_quiet mnemonic.Imul insn helper = (product_quiet insn helper, tt)
behind_quiet _ insn helper = tt

-- memory at a helper
pub with_helper_quiet : (helper : Helper) (insn : Insn) → IsRex insn.rex → IsOpcode insn.op
    → holds_pattern (imm_bytes insn.imm) ≡ false → IsQuiet (spelling (with_helper helper insn))
unfolding with_helper at_helper
with_helper_quiet helper insn range known none =
    modrm_quiet
    insn.lock
    (with_r_b insn.rex (rex_r insn.rex) 0)
    insn.op
    (0x40 + number_of helper + 8 * reg_field (modrm_of insn))
    (0 ∷ imm_bytes insn.imm)
    (with_r_b_rex insn.rex (rex_r insn.rex) 0 (r_1 insn.rex) (omega arith))
    known
    (λ is. omega (arith, is))
    (λ is. omega (arith, is, number_7 helper))
    (skip 0 (imm_bytes insn.imm) (λ is. omega (arith, is)) ∙ none)

-- own bytes
pub load_target_quiet : (helper : Helper) → IsQuiet (spelling (load_target helper))
unfolding load_target holds_pattern
load_target_quiet Rcx = record { none = refl; two = refl; one = refl }
load_target_quiet Rdx = record { none = refl; two = refl; one = refl }
load_target_quiet Rbx = record { none = refl; two = refl; one = refl }
load_target_quiet Rsi = record { none = refl; two = refl; one = refl }
load_target_quiet Rdi = record { none = refl; two = refl; one = refl }

word_holds : holds_pattern (0x25 ∷ 0x10 ∷ 0x40 ∷ 0x00 ∷ 0x70 ∷ []) ≡ false
unfolding holds_pattern
word_holds = refl

pub load_word_quiet : (insn : Insn) → IsQuiet (spelling (load_word insn))
unfolding load_word
load_word_quiet insn =
    modrm_quiet
    false
    (Some (0x48 + 4 * rex_b insn.rex))
    (One 0x8B)
    (8 * (last_opcode_byte insn.op % 8) + 4)
    (0x25 ∷ 0x10 ∷ 0x40 ∷ 0x00 ∷ 0x70 ∷ [])
    (omega (arith, b_1 insn.rex), omega (arith, b_1 insn.rex))
    (λ is. omega (arith, is), λ is. omega (arith, is))
    (λ is. omega (arith, is))
    (λ is. omega (arith, is))
    word_holds

-- ---- an immediate that begins with 01 D4 behind ModRM 0F

rest_holds : (immediate : Imm) → begins_with_01_d4 immediate ≡ true → holds_pattern (imm_bytes immediate) ≡ false
rest_holds imm.None e = absurd cc
rest_holds (imm.I8 value) e = absurd cc
rest_holds (imm.I64 value) e = absurd cc
rest_holds (imm.I32 value) e =
    let n = cast_unsigned w32 value in
    let parts = and_parts (n % 256 == 0x01) ((n / 256 % 256 == 0xD4) && true) e in
    let first : n % 256 ≡ 0x01 = eqb-true (n % 256) 0x01 parts.0 in
    let second : n / 256 % 256 ≡ 0xD4 = eqb-true (n / 256 % 256) 0xD4 (and_parts (n / 256 % 256 == 0xD4) true parts.1).0 in
    false_from_ne_true (holds_pattern (number w32 value)) (λ held.
    ⊎_elim
    (λ (a, b, c). omega (arith, a, first))
    (λ (a, b, c). omega (arith, a, second))
    (in_four (n % 256) (n / 256 % 256) (n / 65536 % 256) (n / 16777216 % 256) held))

pub displaced_quiet : (insn : Insn) → IsRex insn.rex → IsOpcode insn.op → insn.sib ≡ None → begins_with_01_d4 insn.imm ≡ true
    → IsQuiet (spelling (with_displacement insn))
unfolding with_displacement
displaced_quiet insn range known no_sib e =
    modrm_quiet
    insn.lock
    (with_r_b insn.rex (rex_r insn.rex) (rex_b insn.rex))
    insn.op
    0x4F
    (option_to_list insn.sib ++ 0 ∷ imm_bytes insn.imm)
    (with_r_b_rex insn.rex (rex_r insn.rex) (rex_b insn.rex) (r_1 insn.rex) (b_1 insn.rex))
    known
    (λ is. omega (arith, is))
    (λ is. omega (arith, is))
    (ap (λ sib. holds_pattern (option_to_list sib ++ 0 ∷ imm_bytes insn.imm)) no_sib
    ∙ skip 0 (imm_bytes insn.imm) (λ is. omega (arith, is)) ∙ rest_holds insn.imm e)
