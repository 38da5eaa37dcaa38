-- IMUL with an immediate of four bytes: main leaves the product in the helper, and it is moved to the destination.
use Rattle.std.proofs.Common.{◌≡◌, ℕ, ◌+◌, ◌*◌, ◌/◌, ◌%◌, ◌^◌, ◌<◌, ◌≤◌, Bool, true, false, List, Option, Some, None, refl, sym, ap, ◌∙◌, arith, subst, ℤ}
use Rattle.std.specs.Prelude.{◌==◌, not, if◌then◌else◌, slice_set}
use Rattle.std.specs.Int.{w64, cast_unsigned}
use Rattle.std.proofs.Math.Nat.{mul_comm}
use Rattle.std.proofs.Math.IntN.{*ℤ_comm}
use Rattle.std.proofs.lemmas.Grind.{get_or-set_at}
use Rattle.sb_insn.specs.declared.insn.Insn.{Insn}
use Rattle.sb_insn.specs.declared.insn.Imm.TheVariants as imm
use Rattle.sb_insn.specs.declared.registers.Regs.{Regs}
use Rattle.sb_insn.specs.declared.registers.Flags.{Flags}
use Rattle.sb_insn.specs.OpcodeMap.{one_byte}
use Rattle.sb_insn.specs.Fields.{reg_field, rex_w, rex_b, rex_r}
use Rattle.sb_insn.specs.Lookup.{instruction_of, modrm_opcode_of}
use Rattle.sb_insn.specs.declared.opcode_map.OperandForm.TheVariants as form
use Rattle.sb_alu.specs.declared.operation.Operation.TheVariants as operation
use Rattle.sb_exec.specs.declared.action.Action.TheVariants.{Compute}
use Rattle.sb_forms.proofs.Leads.{r_1}
use Rattle.sb_original.proofs.Constants.{low_whole}
use Rattle.sb_alu.specs.declared.size.Size.{Size}
use Rattle.sb_alu.specs.declared.size.Size.TheVariants.{Byte, Doubleword, Quadword}
use Rattle.sb_exec.specs.declared.action.Effect.TheVariants.{Next}
use Rattle.sb_exec.specs.declared.action.MemoryUse.TheVariants as memory_use
use Rattle.sb_exec.specs.declared.action.Location.{Location}
use Rattle.sb_exec.specs.declared.action.Location.TheVariants.{Register}
use Rattle.sb_alu.specs.declared.operation.OperationOutcome.{OperationOutcome}
use Rattle.sb_exec.specs.Size.{modulus, low}
use Rattle.sb_exec.specs.Arithmetic.{product_overflows, product_outcome, signed_value, fits, is_negative}
use Rattle.sb_exec.specs.Interface.{Interface}
use Rattle.sb_insn.specs.Branch.{imm_value}
use Rattle.sb_exec.specs.Operand.{rm_number, operand_size, general, register_value, register_after_write, with_register, operand_value}
use Rattle.sb_insn.specs.RegisterNumbers.{modrm_of, reg_number}
use Rattle.sb_exec.specs.Address.{rm_location}
use Rattle.sb_exec.specs.Outcome.{operation_outcome}
use Rattle.sb_exec.specs.WriteBack.{regs_at_next, with_flags, without_store, write_result, destination, first_operand, last_operand, result_or_nothing, compute_result, rm_value}
use Rattle.sb_exec.specs.Row.{Row}
use Rattle.sb_exec.specs.Actions.{action_by, action_of}
use Rattle.sb_exec.specs.Rows.{rm_use, load_by, store_by, load_of, store_of, after_action, effect_of, row_of, row_by}
use Rattle.sb_forms.specs.declared.helper.Helper.{Helper}
use Rattle.sb_insn.specs.Rex.{with_r_b}
use Rattle.sb_forms.specs.Registers.{number_of}
use Rattle.sb_forms.specs.Mains.{move_product}
use Rattle.sb_original.specs.Words.{Words}
use Rattle.sb_original.specs.Kept.{AgreeBut, FollowBut, IsShown}
use Rattle.sb_original.specs.Alike.{hides}
use Rattle.sb_original.specs.Slot.{Slotted, Does}
use Rattle.sb_forms.proofs.Fields.{with_w}
use Rattle.sb_original.proofs.Registers.{follow_with, value_same}
use Rattle.sb_original.proofs.Operands.{register_place, with_r_0}
use Rattle.sb_original.proofs.Pieces.{plain_row, plain_does}
use Rattle.sb_original.proofs.Chains.{agree_set}
use Rattle.sb_forms.proofs.Leads.{r_1}
use Rattle.sb_forms.proofs.QuietPieces.{number_7}

-- ---- a product

abbrev pub product_by : Size → Flags → Bool → ℕ → OperationOutcome
product_by size flags lost product = record {
  value = Some (product % modulus size);
  flags = record flags { cf = lost; of = lost; sf = is_negative size (product % modulus size) };
}

pub multiplied_comm : (size : Size) (first second : ℕ) (flags : Flags)
    → product_outcome size first second flags ≡ product_outcome size second first flags
unfolding product_outcome
multiplied_comm size first second flags =
    ap (λ (product : ℕ). product_by size flags (product_overflows size first second) product) (mul_comm first second)
    ∙ ap (λ (lost : Bool). product_by size flags lost (second * first))
    (ap (λ (z : ℤ). not (fits size z)) (*ℤ_comm (signed_value size first) (signed_value size second)))

-- ---- the piece behind main

rex_same : (rex : Option ℕ) → rex_b (with_r_b rex 0 (rex_r rex)) ≡ rex_r rex
rex_same None = refl
rex_same (Some rex) = omega arith

product_fields : (c r : ℕ) → c ≤ 7 → r ≤ 7
    → ((0xC0 + 8 * c + r) / 64 ≡ 3) × ((0xC0 + 8 * c + r) / 8 % 8 ≡ c) × ((0xC0 + 8 * c + r) % 8 ≡ r)
product_fields c r cc rr = (omega arith, omega arith, omega arith)

move_fields : (insn : Insn) (helper : Helper)
    → (modrm_of (move_product insn helper) ≡ 0xC0 + 8 * number_of helper + reg_field (modrm_of insn))
    × ((move_product insn helper).rex ≡ with_r_b insn.rex 0 (rex_r insn.rex))
unfolding move_product
move_fields insn helper = (refl, refl)

move_parts : (insn : Insn) (helper : Helper) (regs : Regs)
    → (rm_location (move_product insn helper) regs ≡ Register (reg_number insn))
    × (reg_number (move_product insn helper) ≡ number_of helper)
    × (operand_size (move_product insn helper) ≡ operand_size insn)
move_parts insn helper regs =
    let move = move_product insn helper in
    let known = move_fields insn helper in
    let fields = product_fields (number_of helper) (reg_field (modrm_of insn)) (number_7 helper) (omega arith) in
    let top = ap (λ (m : ℕ). m / 64) known.0 ∙ fields.0 in
    let reg = ap (λ (m : ℕ). m / 8 % 8) known.0 ∙ fields.1 in
    let rm = ap (λ (m : ℕ). m % 8) known.0 ∙ fields.2 in
    let number : rm_number move ≡ reg_number insn =
    omega (arith, rm, ap (λ r. rex_b r) known.1 ∙ rex_same insn.rex) in
    let helper_is : reg_number move ≡ number_of helper =
    omega (arith, reg, ap (λ r. rex_r r) known.1 ∙ with_r_0 insn.rex (rex_r insn.rex) (r_1 insn.rex)) in (
      register_place move regs top ∙ ap (λ (n : ℕ). Register n) number,
      helper_is,
      ap (λ (b : ℕ). if b == 1 then Quadword else Doubleword) (ap (λ r. rex_w r) known.1
          ∙ with_w insn.rex 0 (rex_r insn.rex) (omega arith) (r_1 insn.rex)),
    )

abbrev move_row : Insn → Regs → Location → Size → ℕ → Row
move_row move regs place size number = record {
  load = load_by memory_use.Write size place;
  store = store_by memory_use.Write size place;
  after = λ loaded. result_or_nothing size place (Some (register_value size number regs))
      (with_flags regs.flags (regs_at_next move regs));
  effect = Next;
}

move_by : (insn : Insn) (helper : Helper) (regs : Regs)
    → row_of (move_product insn helper) regs
    ≡ move_row (move_product insn helper) regs (rm_location (move_product insn helper) regs)
    (operand_size (move_product insn helper)) (reg_number (move_product insn helper))
unfolding row_of action_of action_by instruction_of modrm_opcode_of one_byte move_product load_of store_of after_action effect_of
    compute_result destination first_operand last_operand operation_outcome rm_use
move_by insn helper regs = refl

move_plain : (move : Insn) (regs : Regs) (size : Size) (to number : ℕ)
    → move_row move regs (Register to) size number
    ≡ plain_row (λ loaded. without_store (with_register size to (register_value size number regs) (regs_at_next move regs)))
unfolding result_or_nothing write_result
move_plain move regs size to number = refl

-- what the piece leaves: the helper's value in the destination
abbrev pub product_moved : Insn → Helper → Slotted → Slotted
product_moved insn helper state = record {
  regs = with_register (operand_size insn) (reg_number insn) (register_value (operand_size insn) (number_of helper) state.regs)
      (regs_at_next (move_product insn helper) state.regs);
  words = state.words;
}

pub move_does : {M A N : Type 0} (bus : Interface M A) (Holds : Words → M → N
    → Type 0) (insn : Insn) (helper : Helper) (state : Slotted)
    → Does bus Holds (move_product insn helper) state (product_moved insn helper state)
move_does bus Holds insn helper state =
    let move = move_product insn helper in
    let parts = move_parts insn helper state.regs in
    let row = move_by insn helper state.regs
    ∙ ap (λ (place : Location). move_row move state.regs place (operand_size move) (reg_number move)) parts.0
    ∙ ap (λ (size : Size). move_row move state.regs (Register (reg_number insn)) size (reg_number move)) parts.2
    ∙ ap (λ (number : ℕ). move_row move state.regs (Register (reg_number insn)) (operand_size insn) number) parts.1
    ∙ move_plain move state.regs (operand_size insn) (reg_number insn) (number_of helper) in
    plain_does bus Holds move state (product_moved insn helper state) _ row refl refl refl

-- ---- what was left in the helper comes to the destination

merged_low : (size : Size) (old other product : ℕ)
    → register_after_write size old (low size (register_after_write size other (product % modulus size)))
    ≡ register_after_write size old (product % modulus size)
unfolding register_after_write low
merged_low Byte old other product = omega arith
merged_low Doubleword old other product = omega arith
merged_low Quadword old other product = omega arith

-- Behind main the product is in the helper; behind the piece the registers are the original's but for the helpers.
pub product_follows : (helper : Helper) (numbers : List ℕ) (insn main : Insn) (size : Size) (product : ℕ) (flags : Flags)
    (old other : Regs) (rip : ℕ)
    → hides numbers (number_of helper) ≡ true → reg_number insn < 16 → hides numbers (reg_number insn) ≡ false
    → AgreeBut (hides numbers) old other
    → (let now : Regs =
    with_register size (number_of helper) (product % modulus size) (with_flags flags (regs_at_next main other)) in
    FollowBut (hides numbers) old
    (with_register size (reg_number insn) (product % modulus size) (with_flags flags (regs_at_next insn old)))
    (with_register size (reg_number insn) (register_value size (number_of helper) now) (record now { rip = rip })))
product_follows helper numbers insn main size product flags old other rip hidden below shown agree =
    let value = product % modulus size in
    let base : Regs = with_flags flags (regs_at_next main other) in
    let now : Regs = with_register size (number_of helper) value base in
    let kept : register_after_write size (general base (number_of helper)) value ≡ general now (number_of helper) =
    sym (get_or-set_at other.general (number_of helper) (number_of helper)
    (register_after_write size (general base (number_of helper)) value) 0 refl
    (omega (arith, number_7 helper, agree.other_count))) in
    let start : AgreeBut (hides numbers) (with_flags flags (regs_at_next insn old)) base =
    record { flags = refl; count = agree.count; other_count = agree.other_count; seen = agree.seen } in
    let after =
    agree_set helper numbers (register_after_write size (general base (number_of helper)) value)
    (with_flags flags (regs_at_next insn old)) base rip hidden start in
    let follow : FollowBut (hides numbers) old (with_flags flags (regs_at_next insn old)) (record now { rip = rip }) =
    record { agree = after; left = λ k _. refl } in
    let both =
    follow_with (hides numbers) old size (reg_number insn) (register_value size (number_of helper) now)
    (with_flags flags (regs_at_next insn old)) (record now { rip = rip }) below shown follow in
    let same : register_after_write size (general old (reg_number insn)) (register_value size (number_of helper) now)
    ≡ register_after_write size (general old (reg_number insn)) value =
    ap (λ (n : ℕ). register_after_write size (general old (reg_number insn)) (low size n)) (sym kept)
    ∙ merged_low size (general old (reg_number insn)) (general base (number_of helper)) product in
    subst (λ (n : ℕ). FollowBut (hides numbers) old
    (record (with_flags flags (regs_at_next insn old)) { general = slice_set old.general (reg_number insn) n })
    (with_register size (reg_number insn) (register_value size (number_of helper) now) (record now { rip = rip }))) same both

-- ---- the rows of the original and of main

abbrev pub product_row : Insn → Regs → Location → Size → ℕ → (ℕ → OperationOutcome) → Row
product_row insn regs place size number out = record {
  load = load_by memory_use.Read size place;
  store = store_by memory_use.Read size place;
  after = λ loaded. result_or_nothing size (Register number) (out loaded).value
      (with_flags (out loaded).flags (regs_at_next insn regs));
  effect = Next;
}

pub own_product : (insn : Insn) (old : Regs) (size : Size)
    → row_by (Compute operation.Multiply form.RegRmImm size) insn old
    ≡ product_row insn old (rm_location insn old) size (reg_number insn)
    (λ loaded. product_outcome size (rm_value size insn old loaded) (low size (imm_value insn.imm)) old.flags)
unfolding load_of store_of after_action effect_of compute_result destination first_operand last_operand operation_outcome rm_use
own_product insn old size = refl

pub main_product : (main : Insn) (other : Regs) (size : Size)
    → row_by (Compute operation.Multiply form.RegRm size) main other
    ≡ product_row main other (rm_location main other) size (reg_number main)
    (λ loaded. product_outcome size (register_value size (reg_number main) other) (rm_value size main other loaded) other.flags)
unfolding load_of store_of after_action effect_of compute_result destination first_operand last_operand operation_outcome rm_use
main_product main other size = refl

-- the helper has the immediate, and the other operand is where it was: the same product and flags
pub same_product : (hidden : ℕ
    → Bool) (insn main : Insn) (size : Size) (value : ℤ) (helper : Helper) (old other : Regs) (loaded : ℕ)
    → AgreeBut hidden old other → IsShown hidden (rm_location insn old) → rm_location main other ≡ rm_location insn old
    → reg_number main ≡ number_of helper
    → general other (number_of helper) ≡ (0 + cast_unsigned w64 value) % 2 ^ 64 → insn.imm ≡ imm.I32 value
    → product_outcome size (register_value size (reg_number main) other) (rm_value size main other loaded) other.flags
    ≡ product_outcome size (rm_value size insn old loaded) (low size (imm_value insn.imm)) old.flags
same_product hidden insn main size value helper old other loaded agree shown place reg holds is =
    let number : register_value size (reg_number main) other ≡ low size (imm_value insn.imm) =
    ap (λ (n : ℕ). low size (general other n)) reg ∙ ap (λ (n : ℕ). low size n) holds ∙ low_whole size (cast_unsigned w64 value)
    ∙ ap (λ i. low size (imm_value i)) (sym is) in
    let rm : rm_value size main other loaded ≡ rm_value size insn old loaded =
    ap (λ (there : Location). operand_value size there other loaded) place
    ∙ value_same hidden size (rm_location insn old) old other loaded shown agree in
    ap (λ (n : ℕ). product_outcome size n (rm_value size main other loaded) other.flags) number
    ∙ ap (λ (n : ℕ). product_outcome size (low size (imm_value insn.imm)) n other.flags) rm
    ∙ ap (λ (f : Flags). product_outcome size (low size (imm_value insn.imm)) (rm_value size insn old loaded) f) agree.flags
    ∙ multiplied_comm size (low size (imm_value insn.imm)) (rm_value size insn old loaded) old.flags
