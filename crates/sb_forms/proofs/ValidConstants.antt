-- The mains whose immediate is in a helper are valid, and so are the pieces that take an operand of the instruction.
use Rattle.std.proofs.Common.{◌≡◌, ◌∙◌, ◌⊎◌, sym, ap, subst, inl, inr, ℕ, ◌+◌, ◌*◌, ◌%◌, ◌<◌, ◌≤◌, Bool, true, false, Option, Some, None, refl, arith, ℤ, pos}
use Rattle.std.specs.Prelude.{not, ◌&&◌, ◌||◌, ◌==◌, unwrap_or}
use Rattle.std.proofs.lemmas.Bool.{and_parts, and_right, not-true, not-false, ne_eqb, false≢true}
use Rattle.sb_insn.specs.declared.insn.Insn.{Insn}
use Rattle.sb_insn.specs.declared.insn.Op.{Op}
use Rattle.sb_insn.specs.declared.insn.Op.TheVariants.{One, Two, Endbr, Vmfunc}
use Rattle.sb_insn.specs.declared.insn.Disp.{Disp}
use Rattle.sb_insn.specs.declared.insn.Disp.TheVariants as disp
use Rattle.sb_insn.specs.declared.insn.Imm.TheVariants as imm
use Rattle.sb_insn.specs.declared.insn.ImmKind.TheVariants as imm_kind
use Rattle.sb_insn.specs.declared.opcode_map.Mnemonic.{Mnemonic}
use Rattle.sb_insn.specs.declared.opcode_map.Mnemonic.TheVariants as mnemonic
use Rattle.sb_insn.specs.declared.opcode_map.OperandForm.{OperandForm}
use Rattle.sb_insn.specs.declared.opcode_map.OperandForm.TheVariants.{AccImm, OpcodeImm}
use Rattle.sb_insn.specs.declared.opcode_map.Instruction.{Instruction}
use Rattle.sb_insn.specs.declared.opcode_map.ImmRule.{ImmRule}
use Rattle.sb_insn.specs.declared.opcode_map.ImmRule.TheVariants as rules
use Rattle.sb_insn.specs.declared.opcode_map.ModRmOpcode.{ModRmOpcode}
use Rattle.sb_insn.specs.declared.opcode_map.Cell.{Cell}
use Rattle.sb_insn.specs.declared.opcode_map.Cell.TheVariants.{Absent, NoModRm, ModRm, Extended}
use Rattle.sb_insn.specs.OpcodeMap.{one_byte, one_byte_rows, two_byte, two_byte_rows, cell_of}
use Rattle.sb_insn.specs.Groups.{group_operand, modrm_opcode}
use Rattle.sb_insn.specs.Fields.{is_none, rex_r, rex_x, rex_b, mod_field, reg_field, rm_field, is_register, has_memory, permits_rm, needs_rex, modrm_opcode_permits, some_permits, is_modrm_field, has_sib, is_sib_field, modrm_disp, disp_kind_of, kind_of_disp, operand_rule, rule_of, imm_kind_of, kind_of_imm}
use Rattle.sb_insn.specs.Lookup.{named_instruction, instruction_in, instruction_of}
use Rattle.sb_insn.specs.Grammar.{FitsDisp, IsByte, IsValid}
use Rattle.sb_insn.specs.Rex.{with_r_b}
use Rattle.sb_insn.specs.RegisterNumbers.{modrm_of, last_opcode_byte}
use Rattle.sb_insn.proofs.Rows.{looked_up, some_holds}
use Rattle.sb_forms.specs.declared.helper.Helper.{Helper}
use Rattle.sb_forms.specs.declared.helper.Helper.TheVariants.{Rcx, Rdx, Rbx, Rsi, Rdi}
use Rattle.sb_forms.specs.declared.mains.RmOperand.{RmOperand}
use Rattle.sb_forms.specs.Registers.{number_of}
use Rattle.sb_forms.specs.Pieces.{opcode_alone, load_address}
use Rattle.sb_forms.specs.Mains.{at_helper, own_register, register_op, with_constant, on_register, move_product, behind_main, load_word}
use Rattle.sb_forms.proofs.Leads.{with_r_b_rex, r_1, x_1, b_1}
use Rattle.sb_forms.proofs.Maps.{of_cell, of_operand}
use Rattle.sb_forms.proofs.QuietPieces.{number_7}
use Rattle.sb_forms.proofs.Fields.{helper_not_4, at_mod, at_rm}
use Rattle.sb_forms.specs.Valid.{AllValid}
use Rattle.sb_forms.proofs.ValidMains.{rex_field}

-- ---- where LOCK stands

-- the mnemonics of which both the form with an immediate and the one with a register may have LOCK
abbrev pub is_locked : Mnemonic → Bool
is_locked mnemonic.Add = true
is_locked mnemonic.Or = true
is_locked mnemonic.And = true
is_locked mnemonic.Sub = true
is_locked mnemonic.Xor = true
is_locked _ = false

-- what is asked of an instruction with an immediate of four bytes
abbrev if_four : ImmRule → Bool → Bool
if_four rules.None claim = true
if_four rules.I8 claim = true
if_four rules.I32 claim = claim
if_four rules.Wide claim = claim

abbrev lock_fits : ModRmOpcode → Bool
lock_fits operand = if_four operand.imm (not operand.lock || is_locked operand.instruction.mnemonic)

one_lock : (opcode : ℕ) → of_cell lock_fits (one_byte opcode) ≡ true
unfolding one_byte
one_lock opcode = looked_up (λ cell. of_cell lock_fits cell) opcode one_byte_rows refl refl

two_lock : (opcode : ℕ) → of_cell lock_fits (two_byte opcode) ≡ true
unfolding two_byte
two_lock opcode = looked_up (λ cell. of_cell lock_fits cell) opcode two_byte_rows refl refl

op_lock : (op : Op) → of_cell lock_fits (cell_of op) ≡ true
op_lock (One opcode) = one_lock opcode
op_lock (Two opcode) = two_lock opcode
op_lock Endbr = refl
op_lock Vmfunc = refl

four_claim : (rule : ImmRule) (rex : Option ℕ) (claim : Bool) → if_four rule claim ≡ true → imm_kind.I32 ≡ imm_kind_of rule rex
    → claim ≡ true
four_claim rules.None rex claim e kind = absurd cc
four_claim rules.I8 rex claim e kind = absurd cc
four_claim rules.I32 rex claim e kind = e
four_claim rules.Wide rex claim e kind = e

not_or : (lock claim : Bool) → (not lock || claim) ≡ true → lock ≡ true → claim ≡ true
not_or true claim e is = e
not_or false claim e is = absurd cc

locked_row : (operand : ModRmOpcode) (rex : Option ℕ) (modrm : ℕ) → lock_fits operand ≡ true
    → modrm_opcode_permits operand true rex modrm ≡ true → imm_kind.I32 ≡ imm_kind_of operand.imm rex
    → is_locked operand.instruction.mnemonic ≡ true
unfolding modrm_opcode_permits
locked_row operand rex modrm fits e kind =
    let parts =
    and_parts (operand.lock && not (is_register modrm))
    (permits_rm operand.rm modrm && not (is_none rex && needs_rex operand modrm)) e in
    not_or operand.lock (is_locked operand.instruction.mnemonic)
    (four_claim operand.imm rex (not operand.lock || is_locked operand.instruction.mnemonic) fits kind)
    (and_parts operand.lock (not (is_register modrm)) parts.0).0

locked_operand : (operand : Option ModRmOpcode) (rex : Option ℕ) (modrm : ℕ) (instruction : Instruction)
    → some_holds lock_fits operand ≡ true → some_permits operand true rex modrm ≡ true
    → named_instruction operand ≡ Some instruction → imm_kind.I32 ≡ imm_kind_of (operand_rule operand) rex
    → is_locked instruction.mnemonic ≡ true
locked_operand None rex modrm instruction fits e is kind = absurd cc
locked_operand (Some operand) rex modrm instruction fits e is kind =
    let same : operand.instruction ≡ instruction = cc in
    subst (λ (i : Instruction). is_locked i.mnemonic ≡ true) same (locked_row operand rex modrm fits e kind)

locked_in : (cell : Cell) (rex modrm : Option ℕ) (instruction : Instruction) → of_cell lock_fits cell ≡ true
    → is_modrm_field cell true rex modrm ≡ true → instruction_in cell modrm ≡ Some instruction
    → imm_kind.I32 ≡ imm_kind_of (rule_of cell modrm) rex → is_locked instruction.mnemonic ≡ true
locked_in Absent rex None instruction fits e is kind = absurd cc
locked_in Absent rex (Some modrm) instruction fits e is kind = absurd cc
locked_in (NoModRm plain) rex None instruction fits e is kind = absurd cc
locked_in (NoModRm plain) rex (Some modrm) instruction fits e is kind = absurd cc
locked_in (ModRm operand) rex None instruction fits e is kind = absurd cc
locked_in (ModRm operand) rex (Some modrm) instruction fits e is kind =
    locked_operand (Some operand) rex modrm instruction fits e is kind
locked_in (Extended group form imm) rex None instruction fits e is kind = absurd cc
locked_in (Extended group form imm) rex (Some modrm) instruction fits e is kind =
    locked_operand (group_operand group form imm (reg_field modrm)) rex modrm instruction
    (of_operand lock_fits (Extended group form imm) (reg_field modrm) fits) e is kind

locked_by : (lock : Bool) (insn : Insn) (instruction : Instruction) (value : ℤ) → IsValid insn → insn.lock ≡ lock
    → instruction_of insn ≡ Some instruction → insn.imm ≡ imm.I32 value → (lock ≡ false) ⊎ (is_locked instruction.mnemonic ≡ true)
unfolding instruction_of
locked_by false insn instruction value valid lock listed is = inl refl
locked_by true insn instruction value valid lock listed is =
    inr (locked_in (cell_of insn.op) insn.rex insn.modrm instruction (op_lock insn.op)
    (subst (λ l. is_modrm_field (cell_of insn.op) l insn.rex insn.modrm ≡ true) lock valid.modrm) listed
    (sym (ap (λ i. kind_of_imm i) is) ∙ valid.imm))

-- LOCK stands before an instruction with an immediate of four bytes only where it may stand before the same on a register
pub locked : (insn : Insn) (instruction : Instruction) (value : ℤ) → IsValid insn → instruction_of insn ≡ Some instruction
    → insn.imm ≡ imm.I32 value → (insn.lock ≡ false) ⊎ (is_locked instruction.mnemonic ≡ true)
locked insn instruction value valid listed is = locked_by insn.lock insn instruction value valid refl listed is

-- without a memory operand no LOCK stands
alone_row : (operand : Option ModRmOpcode) (rex : Option ℕ) (modrm : ℕ) → is_register modrm ≡ true
    → some_permits operand true rex modrm ≡ true → ⊥
unfolding modrm_opcode_permits
alone_row None rex modrm register e = cc
alone_row (Some operand) rex modrm register e =
    let parts =
    and_parts (operand.lock && not (is_register modrm))
    (permits_rm operand.rm modrm && not (is_none rex && needs_rex operand modrm)) e in
    let memory = (and_parts operand.lock (not (is_register modrm)) parts.0).1 in
    false≢true (ap (λ b. not b) (sym register) ∙ memory)

alone_in : (cell : Cell) (rex modrm : Option ℕ) → has_memory modrm ≡ false → is_modrm_field cell true rex modrm ≡ true → ⊥
alone_in Absent rex None memory e = cc
alone_in (NoModRm plain) rex None memory e = cc
alone_in (ModRm operand) rex None memory e = cc
alone_in (Extended group form imm) rex None memory e = cc
alone_in cell rex (Some modrm) memory e =
    alone_row (modrm_opcode cell (reg_field modrm)) rex modrm (not-false (is_register modrm) memory) e

alone_by : (lock : Bool) (insn : Insn) → IsValid insn → insn.lock ≡ lock → has_memory insn.modrm ≡ false → lock ≡ false
alone_by false insn valid is memory = refl
alone_by true insn valid is memory =
    absurd (alone_in (cell_of insn.op) insn.rex insn.modrm memory
    (subst (λ l. is_modrm_field (cell_of insn.op) l insn.rex insn.modrm ≡ true) is valid.modrm))

pub unlocked : (insn : Insn) → IsValid insn → has_memory insn.modrm ≡ false → insn.lock ≡ false
unlocked insn valid memory = alone_by insn.lock insn valid refl memory

-- ---- opcodes on registers

shape : (may lock register none : Bool) → (lock ≡ false) ⊎ ((may ≡ true) × (register ≡ false))
    → ((not lock || (may && not register)) && (true && not (none && false))) ≡ true
shape may false register true ok = refl
shape may false register false ok = refl
shape may true register none (inl none_locked) = absurd cc
shape false true register none (inr locked_too) = absurd (false≢true locked_too.0)
shape true true true none (inr locked_too) = absurd (false≢true (sym locked_too.1))
shape true true false true (inr locked_too) = refl
shape true true false false (inr locked_too) = refl

-- they permit any register and any memory, and LOCK where it is as it was
abbrev LockFits : Mnemonic → Bool → ℕ → Type 0
LockFits name lock modrm = (lock ≡ false) ⊎ ((is_locked name ≡ true) × (is_register modrm ≡ false))

plain_permits : (name : Mnemonic) (lock : Bool) (rex : Option ℕ) (modrm : ℕ) → LockFits name lock modrm
    → is_modrm_field (cell_of (register_op name)) lock rex (Some modrm) ≡ true
unfolding one_byte two_byte modrm_opcode_permits
plain_permits mnemonic.Add lock rex modrm ok = shape true lock (is_register modrm) (is_none rex) ok
plain_permits mnemonic.Or lock rex modrm ok = shape true lock (is_register modrm) (is_none rex) ok
plain_permits mnemonic.And lock rex modrm ok = shape true lock (is_register modrm) (is_none rex) ok
plain_permits mnemonic.Sub lock rex modrm ok = shape true lock (is_register modrm) (is_none rex) ok
plain_permits mnemonic.Xor lock rex modrm ok = shape true lock (is_register modrm) (is_none rex) ok
plain_permits _ lock rex modrm ok = shape false lock (is_register modrm) (is_none rex) ok

-- they have no immediate
plain_kind : (name : Mnemonic) (rex : Option ℕ) (modrm : ℕ)
    → imm_kind.None ≡ imm_kind_of (rule_of (cell_of (register_op name)) (Some modrm)) rex
unfolding one_byte two_byte
plain_kind mnemonic.Imul rex modrm = refl
plain_kind _ rex modrm = refl

-- ---- operands

-- fields that stand with ModRM
record AreFields (modrm : ℕ) (displacement : Disp) : Type 0 where
  byte : modrm < 256
  sib : is_sib_field (Some modrm) None ≡ true
  kind : kind_of_disp displacement ≡ modrm_disp modrm None
  fits : FitsDisp displacement

no_sib : (modrm : ℕ) → has_sib modrm ≡ false → is_sib_field (Some modrm) None ≡ true
no_sib modrm none = rw none refl

register_fields : (modrm : ℕ) → mod_field modrm ≡ 3 → modrm < 256 → AreFields modrm disp.None
unfolding has_sib modrm_disp
register_fields modrm three byte = record { byte = byte; sib = rw three refl; kind = rw three refl; fits = tt }

memory_fields : (modrm : ℕ) → mod_field modrm ≡ 1 → (rm_field modrm ≡ 4 → ⊥) → AreFields modrm (disp.D8 (pos 0))
unfolding has_sib modrm_disp
memory_fields modrm one other = record {
  byte = omega (arith, one);
  sib = no_sib modrm (and_right (not (is_register modrm)) (rm_field modrm == 4) (ne_eqb (rm_field modrm) 4 other));
  kind = rw one refl;
  fits = record { sfits = omega arith };
}

-- ---- mains

constant_by : (name : Mnemonic) (insn : Insn) (operand : RmOperand) (helper : Helper) → IsValid insn → operand.rex_b ≤ 1
    → AreFields (operand.mod_rm + 8 * number_of helper) operand.disp
    → LockFits name insn.lock (operand.mod_rm + 8 * number_of helper) → IsValid (with_constant name insn operand helper)
unfolding with_constant
constant_by name insn operand helper valid bit fields lock =
    let modrm = operand.mod_rm + 8 * number_of helper in
    let rex = with_r_b insn.rex 0 operand.rex_b in
    record {
      rex = rex_field rex (with_r_b_rex insn.rex 0 operand.rex_b (omega arith) bit);
      modrm = plain_permits name insn.lock rex modrm lock;
      modrm_byte = fields.byte;
      sib = fields.sib;
      sib_byte = tt;
      disp = fields.kind;
      disp_fits = fields.fits;
      imm = plain_kind name rex modrm;
      imm_fits = tt;
    }

-- on memory at a helper
pub on_memory_valid : (name : Mnemonic) (insn : Insn) (helper second : Helper) → IsValid insn
    → (insn.lock ≡ false) ⊎ (is_locked name ≡ true) → IsValid (with_constant name insn (at_helper helper) second)
unfolding at_helper
on_memory_valid name insn helper second valid lock =
    let modrm = 0x40 + number_of helper + 8 * number_of second in
    let one : mod_field modrm ≡ 1 = at_mod (number_of helper) (number_of second) (number_7 helper) (number_7 second) in
    constant_by name insn (record { mod_rm = 0x40 + number_of helper; disp = disp.D8 (pos 0); rex_b = 0 }) second valid
    (omega arith)
    (memory_fields modrm one
    (λ is. helper_not_4 helper (sym (at_rm (number_of helper) (number_of second) (number_7 helper) (number_7 second)) ∙ is)))
    (fits modrm one lock)
  where
    fits : (modrm : ℕ) → mod_field modrm ≡ 1 → (insn.lock ≡ false) ⊎ (is_locked name ≡ true) → LockFits name insn.lock modrm
    fits modrm one (inl none_locked) = inl none_locked
    fits modrm one (inr locked_too) = inr (locked_too, rw one refl)

-- on a register
own_by : (name : Mnemonic) (insn : Insn) (helper : Helper) (rm b : ℕ) → IsValid insn → insn.lock ≡ false → rm < 8 → b ≤ 1
    → IsValid (with_constant name insn (record { mod_rm = 0xC0 + rm; disp = disp.None; rex_b = b }) helper)
own_by name insn helper rm b valid lock low bit =
    constant_by name insn (record { mod_rm = 0xC0 + rm; disp = disp.None; rex_b = b }) helper valid bit
    (register_fields (0xC0 + rm + 8 * number_of helper) (omega (arith, number_7 helper)) (omega (arith, number_7 helper)))
    (inl lock)

own_valid : (kinds : OperandForm) (name : Mnemonic) (insn : Insn) (helper : Helper) → IsValid insn → insn.lock ≡ false
    → IsValid (with_constant name insn (own_register kinds insn) helper)
unfolding own_register
own_valid AccImm name insn helper valid lock = own_by name insn helper 0 0 valid lock (omega arith) (omega arith)
own_valid OpcodeImm name insn helper valid lock =
    own_by name insn helper (last_opcode_byte insn.op % 8) (rex_b insn.rex) valid lock (omega arith) (b_1 insn.rex)
own_valid _ name insn helper valid lock =
    own_by name insn helper (rm_field (modrm_of insn)) (rex_b insn.rex) valid lock (omega arith) (b_1 insn.rex)

push_valid : (helper : Helper) → IsValid (opcode_alone (0x50 + number_of helper))
unfolding one_byte
push_valid Rcx = record {
  rex = refl;
  modrm = refl;
  modrm_byte = tt;
  sib = refl;
  sib_byte = tt;
  disp = refl;
  disp_fits = tt;
  imm = refl;
  imm_fits = tt;
}
push_valid Rdx = record {
  rex = refl;
  modrm = refl;
  modrm_byte = tt;
  sib = refl;
  sib_byte = tt;
  disp = refl;
  disp_fits = tt;
  imm = refl;
  imm_fits = tt;
}
push_valid Rbx = record {
  rex = refl;
  modrm = refl;
  modrm_byte = tt;
  sib = refl;
  sib_byte = tt;
  disp = refl;
  disp_fits = tt;
  imm = refl;
  imm_fits = tt;
}
push_valid Rsi = record {
  rex = refl;
  modrm = refl;
  modrm_byte = tt;
  sib = refl;
  sib_byte = tt;
  disp = refl;
  disp_fits = tt;
  imm = refl;
  imm_fits = tt;
}
push_valid Rdi = record {
  rex = refl;
  modrm = refl;
  modrm_byte = tt;
  sib = refl;
  sib_byte = tt;
  disp = refl;
  disp_fits = tt;
  imm = refl;
  imm_fits = tt;
}

pub on_register_valid : (name : Mnemonic) (kinds : OperandForm) (insn : Insn) (helper : Helper) → IsValid insn
    → insn.lock ≡ false → IsValid (on_register name kinds insn helper)
unfolding on_register
on_register_valid mnemonic.Push kinds insn helper valid lock = push_valid helper
on_register_valid name kinds insn helper valid lock = own_valid kinds name insn helper valid lock

-- ---- behind main

product_valid : (insn : Insn) (helper : Helper) → IsValid (move_product insn helper)
unfolding move_product one_byte modrm_opcode_permits
product_valid insn helper =
    let modrm = 0xC0 + 8 * number_of helper + reg_field (modrm_of insn) in
    let rex = with_r_b insn.rex 0 (rex_r insn.rex) in
    let fields = register_fields modrm (omega (arith, number_7 helper)) (omega (arith, number_7 helper)) in
    record {
      rex = rex_field rex (with_r_b_rex insn.rex 0 (rex_r insn.rex) (omega arith) (r_1 insn.rex));
      modrm = shape false false (is_register modrm) (is_none rex) (inl refl);
      modrm_byte = fields.byte;
      sib = fields.sib;
      sib_byte = tt;
      disp = fields.kind;
      disp_fits = tt;
      imm = refl;
      imm_fits = tt;
    }

pub behind_valid : (name : Mnemonic) (insn : Insn) (helper : Helper) → AllValid (behind_main name insn helper)
unfolding behind_main
behind_valid mnemonic.Imul insn helper = (product_valid insn helper, tt)
behind_valid _ insn helper = tt

-- ---- the word of the scratch page to the register in the opcode

pub word_valid : (insn : Insn) → IsValid (load_word insn)
unfolding load_word one_byte modrm_opcode_permits has_sib modrm_disp
word_valid insn =
    let modrm = 8 * (last_opcode_byte insn.op % 8) + 4 in
    let bit = b_1 insn.rex in
    let zero_mod : mod_field modrm ≡ 0 = omega arith in
    let four : rm_field modrm ≡ 4 = omega arith in
    record {
      rex = rex_field (Some (0x48 + 4 * rex_b insn.rex)) (omega (arith, bit), omega (arith, bit));
      modrm = refl;
      modrm_byte = omega arith;
      sib = rw (zero_mod, four) refl;
      sib_byte = omega arith;
      disp = rw (zero_mod, four) refl;
      disp_fits = record { sfits = omega arith };
      imm = refl;
      imm_fits = tt;
    }

-- ---- the address of an operand

sib_alike : (modrm old : ℕ) (sib : Option ℕ) → mod_field modrm ≡ mod_field old → rm_field modrm ≡ rm_field old
    → is_sib_field (Some old) sib ≡ true → is_sib_field (Some modrm) sib ≡ true
unfolding has_sib
sib_alike modrm old None same_mod same_rm e = rw (same_mod, same_rm) e
sib_alike modrm old (Some sib) same_mod same_rm e = rw (same_mod, same_rm) e

lea_by : (old : Option ℕ) (helper : Helper) (insn : Insn) (displacement : Disp) → IsValid insn → insn.modrm ≡ old
    → has_memory old ≡ true → kind_of_disp displacement ≡ kind_of_disp insn.disp → FitsDisp displacement
    → IsValid (load_address helper insn displacement)
unfolding load_address one_byte modrm_opcode_permits has_sib modrm_disp
lea_by None helper insn displacement valid is memory kind fits = absurd cc
lea_by (Some old) helper insn displacement valid is memory kind fits =
    let modrm = 64 * mod_field old + 8 * number_of helper + rm_field old in
    let byte : old < 256 = subst IsByte is valid.modrm_byte in
    let other : is_register old ≡ false = not-true (is_register old) memory in
    let same_mod : mod_field modrm ≡ mod_field old = omega (arith, number_7 helper) in
    let same_rm : rm_field modrm ≡ rm_field old = omega (arith, number_7 helper) in
    let x = x_1 insn.rex in
    let b = b_1 insn.rex in
    let sib : is_sib_field (Some old) insn.sib ≡ true = subst (λ m. is_sib_field m insn.sib ≡ true) is valid.sib in
    let wanted : kind_of_disp insn.disp ≡ modrm_disp old insn.sib = valid.disp ∙ ap (λ m. disp_kind_of m insn.sib) is in
    let here : 64 * mod_field (modrm_of insn) + 8 * number_of helper + rm_field (modrm_of insn) ≡ modrm =
    ap (λ (m : Option ℕ). 64 * mod_field (unwrap_or m 0) + 8 * number_of helper + rm_field (unwrap_or m 0)) is in
    record {
      rex = rex_field (Some (0x48 + 2 * rex_x insn.rex + rex_b insn.rex)) (omega (arith, x), omega (arith, x, b));
      modrm = rw (here, same_mod, other) refl;
      modrm_byte = rw here (omega (arith, number_7 helper, byte));
      sib = rw here (sib_alike modrm old insn.sib same_mod same_rm sib);
      sib_byte = valid.sib_byte;
      disp = kind ∙ (wanted ∙ rw (here, same_mod, same_rm) refl);
      disp_fits = fits;
      imm = refl;
      imm_fits = tt;
    }

pub lea_valid : (helper : Helper) (insn : Insn) (displacement : Disp) → IsValid insn → has_memory insn.modrm ≡ true
    → kind_of_disp displacement ≡ kind_of_disp insn.disp → FitsDisp displacement → IsValid (load_address helper insn displacement)
lea_valid helper insn displacement valid memory kind fits = lea_by insn.modrm helper insn displacement valid refl memory kind fits
