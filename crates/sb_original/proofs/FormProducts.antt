-- The laws of the forms of IMUL with an immediate of four bytes.
use Rattle.sb_insn.specs.Grammar.{IsValid}
use Rattle.sb_original.proofs.FormConstants.{rm_shown, same_at, insns_both, at_bit}
use Rattle.sb_original.proofs.FormAddress.{one_length}
use Rattle.sb_original.proofs.Operands.{register_place, memory_reg, memory_at, IsRegister, own_reg, own_place}
use Rattle.sb_original.proofs.Constants.{main_size}
use Rattle.sb_original.proofs.Addresses.{address_loads, constant_loads}
use Rattle.sb_original.proofs.Chains.{before_append, before_rip}
use Rattle.sb_original.proofs.Pieces.{save_does}
use Rattle.sb_original.proofs.Helpers.{second_unnamed, first_unnamed, helpers_differ}
use Rattle.sb_original.proofs.Classes.{number_shown}
use Rattle.sb_original.proofs.Memory.{memory_place, memory_mod}
use Rattle.sb_forms.proofs.Fields.{with_b}
use Rattle.sb_original.proofs.Saves.{save_done_first, save_done_second, staged_done, staged_then, address_saves, constant_saves}
use Rattle.sb_original.specs.Work.{IsEntered}
use Rattle.sb_forms.proofs.Leads.{b_1}
use Rattle.sb_forms.specs.Answers.{IsSmall}
use Rattle.sb_forms.specs.Table.{spelled_bytes, move_outcome, bytes_of, constant_form, address_and_constant_form}
use Rattle.sb_forms.specs.Registers as forms
use Rattle.sb_insn.specs.Rex.{with_r_b}
use Rattle.sb_forms.specs.declared.slots.Site.{Site}
use Rattle.sb_insn.specs.Fields.{mod_field, rex_b, has_memory}
use Rattle.sb_insn.specs.declared.opcode_map.Instruction.{Instruction}
use Rattle.sb_insn.specs.declared.opcode_map.OperandForm.{OperandForm}
use Rattle.sb_insn.specs.declared.opcode_map.Mnemonic.{Mnemonic}
use Rattle.std.proofs.lemmas.Bool.{eq-eqb, or_left}
use Rattle.std.specs.Prelude.{◌==◌, unwrap_or}
use Rattle.sb_insn.specs.declared.insn.Imm.TheVariants as imm
use Rattle.sb_forms.specs.declared.mains.RmOperand.{RmOperand}
use Rattle.std.proofs.Common.{◌≡◌, ℕ, ◌+◌, ◌*◌, ◌%◌, ◌^◌, true, false, List, [], ◌∷◌, length, refl, sym, ap, ◌∙◌, subst, ℤ, ◌<◌, ◌≤◌, ◌++◌, Option, Some, inl, arith, length-append, FitsSigned}
use Rattle.std.specs.Int.{w64, cast_unsigned, w32}
use Rattle.sb_insn.specs.declared.insn.Insn.{Insn}
use Rattle.sb_insn.specs.declared.registers.Regs.{Regs}
use Rattle.sb_insn.specs.Spelling.{spelling}
use Rattle.sb_insn.specs.Lookup.{instruction_of}
use Rattle.sb_exec.specs.declared.action.Action.TheVariants.{Compute}
use Rattle.sb_exec.specs.declared.action.Location.{Location}
use Rattle.sb_exec.specs.declared.action.Location.TheVariants.{Register, Memory}
use Rattle.sb_exec.specs.Interface.{Interface}
use Rattle.sb_insn.specs.Branch.{imm_value}
use Rattle.sb_exec.specs.Operand.{operand_size, general, next_rip, with_register, rm_number}
use Rattle.sb_insn.specs.RegisterNumbers.{reg_number, modrm_of}
use Rattle.sb_exec.specs.Address.{rm_location, linear, operand_address}
use Rattle.sb_exec.specs.WriteBack.{regs_at_next, with_flags, without_store, write_result, result_or_nothing, rm_value}
use Rattle.sb_exec.specs.Actions.{action_for, action_of, action_by}
use Rattle.sb_exec.specs.Rows.{row_of, row_by, load_by, store_by}
use Rattle.sb_forms.specs.declared.helper.Helper.{Helper}
use Rattle.sb_forms.specs.Registers.{number_of, is_number, is_named, first_helper, second_helper}
use Rattle.sb_forms.specs.Pieces.{first_saved, second_saved, restore, jump_insn, save, load_constant, load_address_of_operand}
use Rattle.sb_forms.specs.Mains.{with_constant, move_product, at_helper, own_register, on_register, behind_main}
use Rattle.sb_original.specs.Words.{Words, HasWords, FirstSaved, SecondSaved}
use Rattle.sb_original.specs.Kept.{AgreeBut, IsShown}
use Rattle.sb_original.specs.Alike.{hides, NamesNone}
use Rattle.sb_original.specs.Slot.{Slotted, saved}
use Rattle.sb_original.specs.Original.{Behind, SameAccesses, IsRegs, Stage, insns_of, Before, staged, FormLaw}
use Rattle.sb_original.proofs.Alike.{reg_below}
use Rattle.sb_original.proofs.FormAddress.{one_behind, insns_staged, one_save, one_kept}
use Rattle.sb_original.proofs.FormConstant.{two_behind, two_saves, two_kept, hides_second}
use Rattle.sb_insn.specs.OpcodeMap.{two_byte}
use Rattle.sb_alu.specs.declared.operation.OperationOutcome.{OperationOutcome}
use Rattle.sb_insn.specs.declared.registers.Flags.{Flags}
use Rattle.sb_exec.specs.Row.{RowResult, Row}
use Rattle.sb_exec.specs.Size.{modulus, low}
use Rattle.sb_exec.specs.Arithmetic.{product_overflows, product_outcome}
use Rattle.sb_original.proofs.FormProduct.{product_by, own_product, main_product, same_product, product_moved, move_does, product_follows}
use Rattle.sb_insn.specs.declared.opcode_map.Mnemonic.TheVariants as mnemonic
use Rattle.sb_insn.specs.declared.opcode_map.OperandForm.TheVariants as form
use Rattle.sb_alu.specs.declared.operation.Operation.TheVariants as operation
use Rattle.sb_exec.specs.declared.action.MemoryUse.TheVariants as memory_use
use Rattle.sb_exec.proofs.RowWords.{address_word}

-- ---- main

main_action : (insn : Insn) (operand : RmOperand) (helper : Helper)
    → action_of (with_constant mnemonic.Imul insn operand helper)
    ≡ Compute operation.Multiply form.RegRm (operand_size (with_constant mnemonic.Imul insn operand helper))
unfolding action_of instruction_of two_byte action_by with_constant
main_action insn operand helper = refl

-- what is known of main and of the registers before it
record IsProductMain (numbers : List ℕ) (insn main : Insn) (helper : Helper) (value : ℤ) (old other : Regs) : Type 0 where
  own : action_of insn ≡ Compute operation.Multiply form.RegRmImm (operand_size insn)
  main_is : action_of main ≡ Compute operation.Multiply form.RegRm (operand_size insn)
  agree : AgreeBut (hides numbers) old other
  shown : IsShown (hides numbers) (rm_location insn old)
  place : rm_location main other ≡ rm_location insn old
  reg : reg_number main ≡ number_of helper
  holds : general other (number_of helper) ≡ (0 + cast_unsigned w64 value) % 2 ^ 64
  imm : insn.imm ≡ imm.I32 value
  hidden : hides numbers (number_of helper) ≡ true
  free : hides numbers (reg_number insn) ≡ false

-- the product that both have, and the flags
abbrev product : Insn → Regs → ℕ → ℕ
product insn old loaded = rm_value (operand_size insn) insn old loaded * low (operand_size insn) (imm_value insn.imm)

abbrev product_flags : Insn → Regs → ℕ → Flags
product_flags insn old loaded =
    (product_by (operand_size insn) old.flags
    (product_overflows (operand_size insn) (rm_value (operand_size insn) insn old loaded)
    (low (operand_size insn) (imm_value insn.imm))) (product insn old loaded)).flags

-- written to a register
abbrev product_to : Insn → Regs → ℕ → Insn → Regs → ℕ → RowResult
product_to insn old number one regs loaded =
    without_store
    (with_register (operand_size insn) number (product insn old loaded % modulus (operand_size insn))
    (with_flags (product_flags insn old loaded) (regs_at_next one regs)))

written_to : (insn : Insn) (old : Regs) (number : ℕ) (one : Insn) (regs : Regs) (loaded : ℕ) (out : OperationOutcome)
    → out ≡ product_outcome (operand_size insn) (rm_value (operand_size insn) insn old loaded)
    (low (operand_size insn) (imm_value insn.imm)) old.flags
    → result_or_nothing (operand_size insn) (Register number) out.value (with_flags out.flags (regs_at_next one regs))
    ≡ product_to insn old number one regs loaded
unfolding result_or_nothing write_result product_outcome
written_to insn old number one regs loaded out is =
    ap (λ (o : OperationOutcome). result_or_nothing (operand_size insn) (Register number) o.value
    (with_flags o.flags (regs_at_next one regs))) is

own_after : (insn : Insn) (old : Regs) (loaded : ℕ)
    → action_of insn ≡ Compute operation.Multiply form.RegRmImm (operand_size insn)
    → (row_of insn old).after loaded ≡ product_to insn old (reg_number insn) insn old loaded
unfolding row_of
own_after insn old loaded is =
    ap (λ action. (row_by action insn old).after loaded) is
    ∙ ap (λ (r : Row). r.after loaded) (own_product insn old (operand_size insn))
    ∙ written_to insn old (reg_number insn) insn old loaded _ refl

main_after : (numbers : List ℕ) (insn main : Insn) (helper : Helper) (value : ℤ) (old other : Regs) (loaded : ℕ)
    → IsProductMain numbers insn main helper value old other
    → (row_of main other).after loaded ≡ product_to insn old (number_of helper) main other loaded
unfolding row_of
main_after numbers insn main helper value old other loaded known =
    ap (λ action. (row_by action main other).after loaded) known.main_is
    ∙ ap (λ (r : Row). r.after loaded) (main_product main other (operand_size insn))
    ∙ written_to insn old (reg_number main) main other loaded _
    (same_product (hides numbers) insn main
    (operand_size insn) value helper old other loaded known.agree known.shown known.place known.reg known.holds known.imm)
    ∙ ap (λ (n : ℕ). product_to insn old n main other loaded) known.reg

product_accesses : (numbers : List ℕ) (insn main : Insn) (helper : Helper) (value : ℤ) (old other : Regs)
    → IsProductMain numbers insn main helper value old other → SameAccesses (row_of insn old) (row_of main other)
unfolding row_of
product_accesses numbers insn main helper value old other known =
    let size = operand_size insn in
    let own = ap (λ action. row_by action insn old) known.own ∙ own_product insn old size in
    let there = ap (λ action. row_by action main other) known.main_is ∙ main_product main other size in record {
      load = ap (λ (r : Row). r.load) there ∙ ap (λ (p : Location). load_by memory_use.Read size p) known.place
          ∙ sym (ap (λ (r : Row). r.load) own);
      store = ap (λ (r : Row). r.store) there ∙ ap (λ (p : Location). store_by memory_use.Read size p) known.place
          ∙ sym (ap (λ (r : Row). r.store) own);
      effect = ap (λ (r : Row). r.effect) there ∙ sym (ap (λ (r : Row). r.effect) own);
      stored = λ loaded. ap (λ (a : RowResult). a.stored) (main_after numbers insn main helper value old other loaded known)
          ∙ sym (ap (λ (a : RowResult). a.stored) (own_after insn old loaded known.own));
    }

product_goes : (numbers : List ℕ) (insn main : Insn) (helper : Helper) (value : ℤ) (old other : Regs) (loaded : ℕ)
    → IsProductMain numbers insn main helper value old other
    → ((row_of main other).after loaded).regs.rip ≡ next_rip main other
product_goes numbers insn main helper value old other loaded known =
    ap (λ (a : RowResult). a.regs.rip) (main_after numbers insn main helper value old other loaded known)

-- ---- behind main

product_one : {M A N : Type 0} (bus : Interface M A) (Holds : Words → M → N
    → Type 0) (insn main : Insn) (helper : Helper) (value : ℤ) (start from next : ℕ) (state : Slotted) (other : Regs)
    (words : Words) (loaded : ℕ)
    → HasWords bus Holds → IsRegs state.regs
    → IsProductMain (number_of helper ∷ []) insn main helper value (record (state.regs) { rip = start }) other
    → words.first ≡ general state.regs (number_of helper) % 2 ^ 64
    → next_rip insn (record (state.regs) { rip = start }) ≡ next
    → ((next_rip main other + length (spelling (move_product insn helper))) % 2 ^ 64 + length
    (spelling (restore helper first_saved))) % 2 ^ 64 ≡ from → from + 5 < 2 ^ 63 → next < 2 ^ 63
    → Behind bus Holds ((row_of insn (record (state.regs) { rip = start })).after loaded).regs
    (move_product insn helper ∷ restore helper first_saved ∷ jump_insn from next ∷ [])
    (record { regs = ((row_of main other).after loaded).regs; words = words })
product_one bus Holds insn main helper value start from next state other words loaded has fit known word goes at a b =
    let old : Regs = record (state.regs) { rip = start } in
    let numbers = number_of helper ∷ [] in
    let move = move_product insn helper in
    let target = (product_to insn old (reg_number insn) insn old loaded).regs in
    let now : Slotted = record { regs = (product_to insn old (number_of helper) main other loaded).regs; words = words } in
    let moved = product_moved insn helper now in
    let follow =
    product_follows helper numbers insn main (operand_size insn) (product insn old loaded)
    (product_flags insn old loaded) old other (next_rip move now.regs) known.hidden
    (reg_below insn) known.free known.agree in
    let chain : Behind bus Holds target (move ∷ restore helper first_saved ∷ jump_insn from next ∷ []) now = (
      moved,
      move_does bus Holds insn helper now,
      refl,
      one_behind bus Holds helper start from next state moved target has fit follow word goes at a b,
    ) in
    subst (λ (r : RowResult). Behind bus Holds r.regs (move ∷ restore helper first_saved ∷ jump_insn from next ∷ [])
    (record { regs = ((row_of main other).after loaded).regs; words = words })) (sym (own_after insn old loaded known.own))
    (subst (λ (r : RowResult). Behind bus Holds target (move ∷ restore helper first_saved ∷ jump_insn from next ∷ [])
    (record { regs = r.regs; words = words })) (sym (main_after numbers insn main helper value old other loaded known)) chain)

product_two : {M A N : Type 0} (bus : Interface M A) (Holds : Words → M → N
    → Type 0) (insn main : Insn) (helper second : Helper) (value : ℤ) (start from next : ℕ) (state : Slotted) (other : Regs)
    (words : Words) (loaded : ℕ)
    → HasWords bus Holds → IsRegs state.regs
    → IsProductMain (number_of helper ∷ number_of second ∷ []) insn main second value (record (state.regs) { rip = start }) other
    → words.first ≡ general state.regs (number_of helper) % 2 ^ 64
    → words.second ≡ general state.regs (number_of second) % 2 ^ 64
    → next_rip insn (record (state.regs) { rip = start }) ≡ next
    → (((next_rip main other + length (spelling (move_product insn second))) % 2 ^ 64 + length
    (spelling (restore helper first_saved))) % 2 ^ 64 + length (spelling (restore second second_saved))) % 2 ^ 64 ≡ from
    → from + 5 < 2 ^ 63 → next < 2 ^ 63
    → Behind bus Holds ((row_of insn (record (state.regs) { rip = start })).after loaded).regs
    (move_product insn second ∷ restore helper first_saved ∷ restore second second_saved ∷ jump_insn from next ∷ [])
    (record { regs = ((row_of main other).after loaded).regs; words = words })
product_two bus Holds insn main helper second value start from next state other words loaded has fit known word word_too goes at a
    b =
    let old : Regs = record (state.regs) { rip = start } in
    let numbers = number_of helper ∷ number_of second ∷ [] in
    let move = move_product insn second in
    let rest = restore helper first_saved ∷ restore second second_saved ∷ jump_insn from next ∷ [] in
    let target = (product_to insn old (reg_number insn) insn old loaded).regs in
    let now : Slotted = record { regs = (product_to insn old (number_of second) main other loaded).regs; words = words } in
    let moved = product_moved insn second now in
    let follow =
    product_follows second numbers insn main (operand_size insn) (product insn old loaded)
    (product_flags insn old loaded) old other (next_rip move now.regs) known.hidden
    (reg_below insn) known.free known.agree in
    let chain : Behind bus Holds target (move ∷ rest) now = (
      moved,
      move_does bus Holds insn second now,
      refl,
      two_behind bus Holds helper second start from next state moved target has fit follow word word_too goes at a b,
    ) in
    subst (λ (r : RowResult). Behind bus Holds r.regs (move ∷ rest)
    (record { regs = ((row_of main other).after loaded).regs; words = words })) (sym (own_after insn old loaded known.own))
    (subst (λ (r : RowResult). Behind bus Holds target (move ∷ rest) (record { regs = r.regs; words = words }))
    (sym (main_after numbers insn main second value old other loaded known)) chain)

-- ---- the forms

-- what is known of IMUL with an immediate of four bytes
pub record IsProductWork (insn : Insn) (instruction : Instruction) (value : ℤ) : Type 0 where
  pub valid : IsValid insn
  pub named : instruction_of insn ≡ Some instruction
  pub imm : insn.imm ≡ imm.I32 value
  pub product : instruction.mnemonic ≡ mnemonic.Imul
  pub form : instruction.form ≡ form.RegRmImm

work_action : (insn : Insn) (instruction : Instruction) (value : ℤ) → IsProductWork insn instruction value
    → action_of insn ≡ Compute operation.Multiply form.RegRmImm (operand_size insn)
unfolding action_of action_by
work_action insn instruction value work =
    ap (λ found. action_for found insn) work.named ∙ ap (λ (n : Mnemonic). action_by n instruction.form insn) work.product
    ∙ ap (λ (k : OperandForm). Compute operation.Multiply k (operand_size insn)) work.form

-- its destination is not hidden
product_free : (numbers : List ℕ) (insn : Insn) (instruction : Instruction) (value : ℤ) → IsProductWork insn instruction value
    → NamesNone instruction.form insn numbers → hides numbers (reg_number insn) ≡ false
product_free numbers insn instruction value work none =
    number_shown (reg_number insn) instruction.form insn numbers (ap (λ k. forms.form_number k insn) work.form) none

pub product_slot : {M A N : Type 0} (bus : Interface M A) (Holds : Words → M → N
    → Type 0) (insn : Insn) (instruction : Instruction) (value : ℤ) (helper : Helper) (site : Site) (start : ℕ) (state : Slotted)
    → HasWords bus Holds
    → IsProductWork insn instruction value → FitsSigned w32 value → is_named instruction.form insn (number_of helper) ≡ false
    → (modrm : ℕ) × (insn.modrm ≡ Some modrm) × (mod_field modrm ≡ 3) → IsEntered insn site start state
    → IsSmall
    (bytes_of
    (move_outcome site (save helper first_saved ∷ load_constant helper value)
    (with_constant mnemonic.Imul insn (own_register form.RegRmImm insn) helper)
    (move_product insn helper ∷ restore helper first_saved ∷ [])))
    → FormLaw bus Holds insn start state
    (move_outcome site (save helper first_saved ∷ load_constant helper value)
    (with_constant mnemonic.Imul insn (own_register form.RegRmImm insn) helper)
    (move_product insn helper ∷ restore helper first_saved ∷ []))
unfolding own_register
product_slot bus Holds insn instruction value helper site start state has work fits named modrm entered small =
    let old : Regs = record (state.regs) { rip = start } in
    let numbers = number_of helper ∷ [] in
    let saves = one_save helper in
    let first = saved helper FirstSaved state in
    let operand = own_register form.RegRmImm insn in
    let pre = save helper first_saved ∷ load_constant helper value in
    let main = with_constant mnemonic.Imul insn operand helper in
    let move = move_product insn helper in
    let kept = one_kept helper start state entered.regs in
    let agree : AgreeBut (hides numbers) old first.regs =
    record { flags = refl; count = entered.regs.count; other_count = entered.regs.count; seen = λ number _. refl } in
    let goes : next_rip insn old ≡ site.next = omega (arith, entered.next, entered.place.next) in
    let hidden : hides numbers (number_of helper) ≡ true =
    or_left (number_of helper == number_of helper) false (eq-eqb (number_of helper) (number_of helper) refl) in
    let loads = constant_loads bus Holds saves start old numbers old helper value first hidden agree kept fits in
    let ready = loads.new in
    let stages : List Stage =
    record { insn = save helper first_saved; saves = saves } ∷ staged saves (load_constant helper value) in
    let staging : insns_of stages ≡ pre =
    ap (λ (rest : List Insn). save helper first_saved ∷ rest) (insns_staged saves (load_constant helper value)) in
    let before : Before bus Holds start old stages state ready =
    (first, save_does bus Holds helper FirstSaved state has, refl, kept first agree refl, loads.before) in
    let low_field = modrm_of insn % 8 in
    let known : IsRegister operand low_field 0 = record { mod_rm = refl; within = omega arith; rex = b_1 insn.rex } in
    let three : mod_field (modrm_of insn) ≡ 3 = ap (λ (m : Option ℕ). mod_field (unwrap_or m 0)) modrm.1 ∙ modrm.2 in
    let number : low_field + 8 * rex_b (with_r_b insn.rex 0 (rex_b insn.rex)) ≡ rm_number insn =
    omega (arith, with_b insn.rex 0 (omega arith)) in
    let there = register_place insn old three in
    let bit : operand.rex_b ≤ 1 = b_1 insn.rex in
    let mains : IsProductMain numbers insn main helper value old ready.regs = record {
      own = work_action insn instruction value work;
      main_is =
          main_action insn operand helper
          ∙ ap (λ s. Compute operation.Multiply form.RegRm s) (main_size mnemonic.Imul insn operand helper bit);
      agree = loads.agree;
      shown = subst (λ (place : Location). IsShown (hides numbers) place) (sym there) (
        omega (arith, b_1 insn.rex),
        rm_shown numbers instruction.form insn modrm.0 modrm.1 (named, tt),
      );
      place = own_place mnemonic.Imul insn operand helper low_field 0 (rm_number insn) ready.regs known number ∙ sym there;
      reg = own_reg mnemonic.Imul insn operand helper low_field 0 known;
      holds = loads.loaded;
      imm = work.imm;
      hidden = hidden;
      free = product_free numbers insn instruction value work (named, tt);
    } in
    let back = restore helper first_saved in
    let from = site.slot + length (spelled_bytes pre) + length (spelling main) + length (spelled_bytes (move ∷ back ∷ [])) in
    let two : length (spelled_bytes (move ∷ back ∷ [])) ≡ length (spelling move) + length (spelling back) =
    length-append (spelling move) (spelled_bytes (back ∷ []))
    ∙ ap (λ (n : ℕ). length (spelling move) + n) (one_length back) in
    let whole : length (spelled_bytes (move ∷ back ∷ jump_insn from site.next ∷ []))
    ≡ length (spelling move) + length (spelled_bytes (back ∷ jump_insn from site.next ∷ [])) =
    length-append (spelling move) (spelled_bytes (back ∷ jump_insn from site.next ∷ [])) in
    let later : length (spelled_bytes (back ∷ jump_insn from site.next ∷ []))
    ≡ length (spelling back) + length (spelled_bytes (jump_insn from site.next ∷ [])) =
    length-append (spelling back) (spelled_bytes (jump_insn from site.next ∷ [])) in
    let rip = before_rip bus Holds start old stages state ready (omega (arith, entered.at, entered.place.slot)) before in
    let all : length (spelled_bytes (insns_of stages)) ≡ length (spelled_bytes pre) =
    ap (λ (insns : List Insn). length (spelled_bytes insns)) staging in
    record {
      stages = stages;
      staged = staging;
      done = (save_done_first helper [], staged_done saves (load_constant helper value) (constant_saves helper value));
      ready = ready;
      before = before;
      work = inl (record {
        accesses = product_accesses numbers insn main helper value old ready.regs mains;
        goes = λ loaded. product_goes numbers insn main helper value old ready.regs loaded mains;
        behind = λ loaded.
            product_one bus Holds insn main helper value start from site.next state ready.regs ready.words loaded has entered.regs
            mains (ap (λ (w : Words). w.first) loads.words) goes
            (omega (arith, rip, all, entered.at, entered.place.slot, small.before, small.work, small.behind, two, whole, later))
            (omega (arith, entered.place.slot, small.before, small.work, small.behind, two, whole, later))
            (omega (arith, entered.place.next));
      });
    }

pub product_both_slot : {M A N : Type 0} (bus : Interface M A) (Holds : Words → M → N
    → Type 0) (insn : Insn) (instruction : Instruction) (value : ℤ) (helper second : Helper) (site : Site) (start : ℕ)
    (state : Slotted)
    → HasWords bus Holds
    → IsProductWork insn instruction value → FitsSigned w32 value → has_memory insn.modrm ≡ true
    → (number_of helper == number_of second) ≡ false
    → NamesNone instruction.form insn (number_of helper ∷ number_of second ∷ []) → IsEntered insn site start state
    → IsSmall
    (bytes_of
    (move_outcome site
    (save helper first_saved ∷ save second second_saved ∷ load_address_of_operand helper insn site.next ++
    load_constant second value) (with_constant mnemonic.Imul insn (at_helper helper) second)
    (move_product insn second ∷ restore helper first_saved ∷ restore second second_saved ∷ [])))
    → FormLaw bus Holds insn start state
    (move_outcome site
    (save helper first_saved ∷ save second second_saved ∷ load_address_of_operand helper insn site.next ++ load_constant
    second value) (with_constant mnemonic.Imul insn (at_helper helper) second)
    (move_product insn second ∷ restore helper first_saved ∷ restore second second_saved ∷ []))
product_both_slot bus Holds insn instruction value helper second site start state has work fits memory differ named entered
    small =
    let old : Regs = record (state.regs) { rip = start } in
    let numbers = number_of helper ∷ number_of second ∷ [] in
    let saves = two_saves helper second in
    let one = one_save helper in
    let first = saved helper FirstSaved state in
    let both = saved second SecondSaved first in
    let operand = at_helper helper in
    let pre =
    save helper first_saved ∷ save second second_saved ∷ load_address_of_operand helper insn site.next ++ load_constant
    second value in
    let main = with_constant mnemonic.Imul insn operand second in
    let move = move_product insn second in
    let kept_one = one_kept helper start state entered.regs in
    let kept = two_kept helper second start state entered.regs in
    let agree_one : AgreeBut (hides (number_of helper ∷ [])) old first.regs =
    record { flags = refl; count = entered.regs.count; other_count = entered.regs.count; seen = λ number _. refl } in
    let agree : AgreeBut (hides numbers) old both.regs =
    record { flags = refl; count = entered.regs.count; other_count = entered.regs.count; seen = λ number _. refl } in
    let goes : next_rip insn old ≡ site.next = omega (arith, entered.next, entered.place.next) in
    let hidden : hides numbers (number_of helper) ≡ true =
    or_left (number_of helper == number_of helper) (hides (number_of second ∷ []) (number_of helper))
    (eq-eqb (number_of helper) (number_of helper) refl) in
    let at =
    address_loads bus Holds saves start old numbers old helper insn site.next both
    (record { valid = work.valid; hidden = hidden; agree = agree; same = refl; goes = goes }) kept in
    let loads =
    constant_loads bus Holds saves start old numbers old second value at.new (hides_second helper second) at.agree
    (λ s a w. kept s a (w ∙ at.words)) fits in
    let ready = loads.new in
    let stages : List Stage =
    record { insn = save helper first_saved; saves = one } ∷ record {
      insn = save second second_saved;
      saves = saves;
    } ∷
    (staged saves (load_address_of_operand helper insn site.next) ++ staged saves (load_constant second value)) in
    let staging : insns_of stages ≡ pre =
    ap (λ (rest : List Insn). save helper first_saved ∷ save second second_saved ∷ rest)
    (insns_both saves (load_address_of_operand helper insn site.next) (load_constant second value)) in
    let before : Before bus Holds start old stages state ready = (
      first,
      save_does bus Holds helper FirstSaved state has,
      refl,
      kept_one first agree_one refl,
      (
        both,
        save_does bus Holds second SecondSaved first has,
        refl,
        kept both agree refl,
        before_append bus Holds start old (staged saves (load_address_of_operand helper insn site.next))
            (staged saves (load_constant second value)) both at.new ready at.before loads.before,
      ),
    ) in
    let address_stays : general ready.regs (number_of helper) ≡ operand_address insn old =
    loads.others (number_of helper) (same_at helper second differ) ∙ at.loaded in
    let reduced : general ready.regs (number_of helper) % 2 ^ 64 ≡ operand_address insn old =
    omega (arith, address_stays, address_word insn old) in
    let there = memory_place insn old (memory_mod insn.modrm memory) in
    let mains : IsProductMain numbers insn main second value old ready.regs = record {
      own = work_action insn instruction value work;
      main_is =
          main_action insn operand second
          ∙ ap (λ s. Compute operation.Multiply form.RegRm s) (main_size mnemonic.Imul insn operand second (at_bit helper));
      agree = loads.agree;
      shown = subst (λ (place : Location). IsShown (hides numbers) place) (sym there) tt;
      place = memory_at mnemonic.Imul insn helper second ready.regs ∙ ap (λ (n : ℕ). Memory (linear n)) reduced ∙ sym there;
      reg = memory_reg mnemonic.Imul insn helper second;
      holds = loads.loaded;
      imm = work.imm;
      hidden = hides_second helper second;
      free = product_free numbers insn instruction value work named;
    } in
    let back = restore helper first_saved in
    let again = restore second second_saved in
    let from =
    site.slot + length (spelled_bytes pre) + length (spelling main) + length (spelled_bytes (move ∷ back ∷ again ∷ [])) in
    let two : length (spelled_bytes (back ∷ again ∷ [])) ≡ length (spelling back) + length (spelling again) =
    length-append (spelling back) (spelled_bytes (again ∷ []))
    ∙ ap (λ (n : ℕ). length (spelling back) + n) (one_length again) in
    let three : length (spelled_bytes (move ∷ back ∷ again ∷ []))
    ≡ length (spelling move) + length (spelled_bytes (back ∷ again ∷ [])) =
    length-append (spelling move) (spelled_bytes (back ∷ again ∷ [])) in
    let most : length (spelled_bytes (move ∷ back ∷ again ∷ jump_insn from site.next ∷ []))
    ≡ length (spelling move) + length (spelled_bytes (back ∷ again ∷ jump_insn from site.next ∷ [])) =
    length-append (spelling move) (spelled_bytes (back ∷ again ∷ jump_insn from site.next ∷ [])) in
    let whole : length (spelled_bytes (back ∷ again ∷ jump_insn from site.next ∷ []))
    ≡ length (spelling back) + length (spelled_bytes (again ∷ jump_insn from site.next ∷ [])) =
    length-append (spelling back) (spelled_bytes (again ∷ jump_insn from site.next ∷ [])) in
    let later : length (spelled_bytes (again ∷ jump_insn from site.next ∷ []))
    ≡ length (spelling again) + length (spelled_bytes (jump_insn from site.next ∷ [])) =
    length-append (spelling again) (spelled_bytes (jump_insn from site.next ∷ [])) in
    let rip = before_rip bus Holds start old stages state ready (omega (arith, entered.at, entered.place.slot)) before in
    let all : length (spelled_bytes (insns_of stages)) ≡ length (spelled_bytes pre) =
    ap (λ (insns : List Insn). length (spelled_bytes insns)) staging in
    let words = loads.words ∙ at.words in
    record {
      stages = stages;
      staged = staging;
      done = (
        save_done_first helper [],
        (
          save_done_second second one,
          staged_then saves (load_address_of_operand helper insn site.next) (staged saves (load_constant second value))
              (address_saves helper insn site.next)
              (staged_done saves (load_constant second value) (constant_saves second value)),
        ),
      );
      ready = ready;
      before = before;
      work = inl (record {
        accesses = product_accesses numbers insn main second value old ready.regs mains;
        goes = λ loaded. product_goes numbers insn main second value old ready.regs loaded mains;
        behind = λ loaded.
            product_two bus Holds insn main helper second value start from site.next state ready.regs ready.words loaded has
            entered.regs mains (ap (λ (w : Words). w.first) words) (ap (λ (w : Words). w.second) words) goes
            (omega (
              arith,
              rip,
              all,
              entered.at,
              entered.place.slot,
              small.before,
              small.work,
              small.behind,
              two,
              three,
              most,
              whole,
              later,
            )) (omega (
              arith,
              entered.place.slot,
              small.before,
              small.work,
              small.behind,
              two,
              three,
              most,
              whole,
              later,
            )) (omega (arith, entered.place.next));
      });
    }

-- ---- the table at these instructions

pub product_law : {M A N : Type 0} (bus : Interface M A) (Holds : Words → M → N
    → Type 0) (insn : Insn) (instruction : Instruction) (value : ℤ) (site : Site) (start : ℕ) (state : Slotted)
    → HasWords bus Holds → IsProductWork insn instruction value → FitsSigned w32 value
    → (modrm : ℕ) × (insn.modrm ≡ Some modrm) × (mod_field modrm ≡ 3) → IsEntered insn site start state
    → IsSmall (bytes_of (constant_form instruction insn site value))
    → FormLaw bus Holds insn start state (constant_form instruction insn site value)
unfolding constant_form on_register behind_main
product_law bus Holds insn instruction value site start state has work fits modrm entered =
    let helper = first_helper instruction.form insn in
    let pre = save helper first_saved ∷ load_constant helper value in
    subst (λ (name : Mnemonic). IsSmall
    (bytes_of
    (move_outcome site pre (on_register name instruction.form insn helper)
    (behind_main name insn helper ++ restore helper first_saved ∷ [])))
    → FormLaw bus Holds insn start state
    (move_outcome site pre (on_register name instruction.form insn helper)
    (behind_main name insn helper ++ restore helper first_saved ∷ []))) (sym work.product)
    (subst (λ (kinds : OperandForm). IsSmall
    (bytes_of
    (move_outcome site pre (with_constant mnemonic.Imul insn (own_register kinds insn) helper)
    (move_product insn helper ∷ restore helper first_saved ∷ [])))
    → FormLaw bus Holds insn start state
    (move_outcome site pre (with_constant mnemonic.Imul insn (own_register kinds insn) helper)
    (move_product insn helper ∷ restore helper first_saved ∷ []))) (sym work.form)
    (λ small. product_slot bus Holds insn instruction value helper site start state has work fits
    (first_unnamed instruction.form insn work.valid) modrm entered small))

pub product_both_law : {M A N : Type 0} (bus : Interface M A) (Holds : Words → M → N
    → Type 0) (insn : Insn) (instruction : Instruction) (value : ℤ) (site : Site) (start : ℕ) (state : Slotted)
    → HasWords bus Holds → IsProductWork insn instruction value → FitsSigned w32 value
    → has_memory insn.modrm ≡ true → IsEntered insn site start state
    → IsSmall (bytes_of (address_and_constant_form instruction insn site value))
    → FormLaw bus Holds insn start state (address_and_constant_form instruction insn site value)
unfolding address_and_constant_form behind_main
product_both_law bus Holds insn instruction value site start state has work fits memory entered =
    let helper = first_helper instruction.form insn in
    let second = second_helper instruction.form insn in
    let pre =
    save helper first_saved ∷ save second second_saved ∷ load_address_of_operand helper insn site.next ++ load_constant
    second value in
    subst (λ (name : Mnemonic). IsSmall
    (bytes_of
    (move_outcome site pre (with_constant name insn (at_helper helper) second)
    (behind_main name insn second ++ restore helper first_saved ∷ restore second second_saved ∷ [])))
    → FormLaw bus Holds insn start state
    (move_outcome site pre (with_constant name insn (at_helper helper) second)
    (behind_main name insn second ++ restore helper first_saved ∷ restore second second_saved ∷ []))) (sym work.product)
    (λ small. product_both_slot bus Holds insn instruction value helper second site start state has work fits memory
    (helpers_differ instruction.form insn work.valid)
    (first_unnamed instruction.form insn work.valid, (second_unnamed instruction.form insn work.valid, tt)) entered small)
