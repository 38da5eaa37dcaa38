-- The laws of the forms with a constant in a helper, where main writes no helper.
use Rattle.std.proofs.Common.{◌≡◌, ℕ, ◌+◌, ◌*◌, ◌%◌, ◌^◌, ◌≤◌, true, false, List, [], ◌∷◌, ◌++◌, length, Option, Some, inl, refl, sym, ap, ◌∙◌, arith, subst, length-append, FitsSigned, ℤ}
use Rattle.std.specs.Prelude.{◌==◌, unwrap_or}
use Rattle.std.specs.Int.{w32}
use Rattle.std.proofs.lemmas.Bool.{eq-eqb, ne_eqb, eqb-false, or_left, or_from, or_parts}
use Rattle.sb_insn.specs.declared.insn.Insn.{Insn}
use Rattle.sb_insn.specs.declared.registers.Regs.{Regs}
use Rattle.sb_insn.specs.declared.opcode_map.Mnemonic.{Mnemonic}
use Rattle.sb_insn.specs.declared.opcode_map.Mnemonic.TheVariants as mnemonic
use Rattle.sb_insn.specs.declared.opcode_map.OperandForm.{OperandForm}
use Rattle.sb_insn.specs.declared.opcode_map.OperandForm.TheVariants as form
use Rattle.sb_insn.specs.declared.opcode_map.Instruction.{Instruction}
use Rattle.sb_insn.specs.Fields.{mod_field, rm_field, rex_b, has_memory}
use Rattle.sb_insn.specs.Spelling.{spelling}
use Rattle.sb_insn.specs.Lookup.{instruction_of}
use Rattle.sb_exec.specs.declared.action.Action.TheVariants.{Compute}
use Rattle.sb_alu.specs.declared.operation.Operation.{Operation}
use Rattle.sb_exec.specs.declared.action.Location.{Location}
use Rattle.sb_exec.specs.declared.action.Location.TheVariants.{Memory}
use Rattle.sb_alu.specs.declared.size.Size.{Size}
use Rattle.sb_exec.specs.Interface.{Interface}
use Rattle.sb_exec.specs.Operand.{rm_number, operand_size, general, next_rip}
use Rattle.sb_insn.specs.RegisterNumbers.{register_number, modrm_of, last_opcode_byte, reg_number, opcode_number}
use Rattle.sb_exec.specs.Address.{linear, operand_address}
use Rattle.sb_exec.specs.WriteBack.{destination, compute_result}
use Rattle.sb_exec.specs.Actions.{action_of}
use Rattle.sb_exec.specs.Rows.{after_action, row_of}
use Rattle.sb_exec.proofs.RowWords.{address_word}
use Rattle.sb_forms.specs.declared.helper.Helper.{Helper}
use Rattle.sb_forms.specs.declared.slots.Site.{Site}
use Rattle.sb_insn.specs.Rex.{with_r_b}
use Rattle.sb_forms.specs.Registers.{number_of, is_number, is_named, first_helper, second_helper}
use Rattle.sb_insn.specs.RegisterNumbers as encoded
use Rattle.sb_forms.specs.Pieces.{first_saved, second_saved, save, restore, load_constant, load_address_of_operand, jump_insn}
use Rattle.sb_forms.specs.Mains.{at_helper, own_register, with_constant, on_register, behind_main}
use Rattle.sb_forms.specs.Table.{spelled_bytes, move_outcome, bytes_of, constant_form, address_and_constant_form}
use Rattle.sb_forms.specs.Answers.{IsSmall}
use Rattle.sb_forms.proofs.Leads.{b_1}
use Rattle.sb_original.specs.Words.{FirstSaved, SecondSaved, Words, HasWords}
use Rattle.sb_original.specs.Kept.{AgreeBut, IsShown}
use Rattle.sb_original.specs.Work.{constant_operation, is_imm_form, IsConstantWork, IsEntered}
use Rattle.sb_original.specs.Alike.{hides, NamesNone}
use Rattle.sb_original.specs.Slot.{Slotted, saved}
use Rattle.sb_original.proofs.Saves.{save_done_first, save_done_second, staged_done, staged_then, address_saves, constant_saves}
use Rattle.sb_original.specs.Original.{Save, Stage, insns_of, Before, staged, FormLaw}
use Rattle.sb_forms.proofs.Fields.{with_b_0, with_b, helper_not_0}
use Rattle.sb_original.proofs.Memory.{memory_place, memory_mod}
use Rattle.sb_original.proofs.Classes.{number_shown}
use Rattle.sb_original.proofs.Helpers.{first_unnamed, helpers_differ}
use Rattle.sb_original.proofs.Pieces.{save_does}
use Rattle.sb_original.proofs.Chains.{before_append, before_rip}
use Rattle.sb_original.proofs.Goes.{back_rip}
use Rattle.sb_original.proofs.Addresses.{address_loads, constant_loads}
use Rattle.sb_original.proofs.FormAddress.{insns_staged, alike_accesses, one_save, one_kept, one_behind}
use Rattle.sb_original.proofs.FormConstant.{two_saves, two_kept, two_behind, hides_second}
use Rattle.sb_original.proofs.Constants.{PlaceIs, constant_main, own_action, whole_main_action}
use Rattle.sb_original.proofs.Operands.{register_place, memory_reg, memory_at, IsRegister, own_reg, own_place}
use Rattle.sb_original.proofs.FormAddress.{one_length}

-- ---- the table at these instructions

on_is : (name : Mnemonic) (kind : Operation) (kinds : OperandForm) (insn : Insn) (helper : Helper)
    → constant_operation name ≡ Some kind
    → with_constant name insn (own_register kinds insn) helper ≡ on_register name kinds insn helper
unfolding on_register
on_is mnemonic.Add kind kinds insn helper is = refl
on_is mnemonic.Or kind kinds insn helper is = refl
on_is mnemonic.And kind kinds insn helper is = refl
on_is mnemonic.Sub kind kinds insn helper is = refl
on_is mnemonic.Xor kind kinds insn helper is = refl
on_is mnemonic.Cmp kind kinds insn helper is = refl
on_is mnemonic.Test kind kinds insn helper is = refl
on_is mnemonic.Mov kind kinds insn helper is = refl
on_is _ kind kinds insn helper is = absurd cc

none_behind : (name : Mnemonic) (kind : Operation) (insn : Insn) (helper : Helper) → constant_operation name ≡ Some kind
    → [] ≡ behind_main name insn helper
unfolding behind_main
none_behind mnemonic.Add kind insn helper is = refl
none_behind mnemonic.Or kind insn helper is = refl
none_behind mnemonic.And kind insn helper is = refl
none_behind mnemonic.Sub kind insn helper is = refl
none_behind mnemonic.Xor kind insn helper is = refl
none_behind mnemonic.Cmp kind insn helper is = refl
none_behind mnemonic.Test kind insn helper is = refl
none_behind mnemonic.Mov kind insn helper is = refl
none_behind _ kind insn helper is = absurd cc

-- ---- where the operand is

rm_is : (insn : Insn) (modrm : ℕ) → insn.modrm ≡ Some modrm
    → register_number (rm_field modrm) (rex_b insn.rex) ≡ rm_number insn
rm_is insn modrm is =
    let byte : modrm_of insn ≡ modrm = ap (λ (m : Option ℕ). unwrap_or m 0) is in
    omega (arith, byte)

rm_unnamed : (kinds : OperandForm) (insn : Insn) (number : ℕ) → is_named kinds insn number ≡ false
    → is_number (encoded.rm_number insn.modrm insn.rex) number ≡ false
unfolding is_named
rm_unnamed kinds insn number e = (or_parts (is_number (encoded.rm_number insn.modrm insn.rex) number) _ e).0

-- the bit that extends the operand
own_bit : (kinds : OperandForm) (insn : Insn) → (own_register kinds insn).rex_b ≤ 1
unfolding own_register
own_bit form.AccImm insn = omega arith
own_bit form.OpcodeImm insn = b_1 insn.rex
own_bit _ insn = b_1 insn.rex

pub at_bit : (helper : Helper) → (at_helper helper).rex_b ≤ 1
unfolding at_helper
at_bit helper = omega arith

-- it stays where it was, and is no helper
pub record StaysAt (numbers : List ℕ) (insn : Insn) (kinds : OperandForm) (old : Regs) (main : Insn) (helper : Helper)
    (other : Regs) : Type 0 where
  pub place : PlaceIs kinds insn old main other
  pub shown : IsShown (hides numbers) (destination kinds insn old)
  pub reg : reg_number main ≡ number_of helper

-- a register that rm names is not hidden
pub rm_shown : (numbers : List ℕ) (kinds : OperandForm) (insn : Insn) (modrm : ℕ) → insn.modrm ≡ Some modrm
    → NamesNone kinds insn numbers → hides numbers (rm_number insn) ≡ false
rm_shown numbers kinds insn modrm is none = hides_not (rm_number insn) numbers (λ one free. rm_not one free) none
  where
    rm_not : (one : ℕ) → is_named kinds insn one ≡ false → (rm_number insn == one) ≡ false
    rm_not one free =
        ap (λ (n : ℕ). n == one) (sym (rm_is insn modrm is))
        ∙ ap (λ n. is_number n one) (sym (ap (λ m. encoded.rm_number m insn.rex) is)) ∙ rm_unnamed kinds insn one free

    hides_not : (named : ℕ) (numbers : List ℕ) → ((one : ℕ) → is_named kinds insn one ≡ false → (named == one) ≡ false)
        → NamesNone kinds insn numbers → hides numbers named ≡ false
    hides_not named [] each none = refl
    hides_not named (one ∷ others) each none =
        or_from (named == one) (hides others named) (each one none.0) (hides_not named others each none.1)

own_stays : (numbers : List ℕ) (name : Mnemonic) (insn : Insn) (instruction : Instruction) (kinds : OperandForm)
    (old other : Regs) (helper : Helper)
    → instruction_of insn ≡ Some instruction → instruction.form ≡ kinds → is_imm_form kinds ≡ true
    → NamesNone kinds insn numbers → hides numbers 0 ≡ false
    → (kinds ≡ form.RmImm → (modrm : ℕ) × (insn.modrm ≡ Some modrm) × (mod_field modrm ≡ 3))
    → StaysAt numbers insn kinds old (with_constant name insn (own_register kinds insn) helper) helper other
unfolding own_register destination
own_stays numbers name insn instruction form.AccImm old other helper found is e none accumulator stands =
    let operand = own_register form.AccImm insn in
    let known : IsRegister operand 0 0 = record { mod_rm = refl; within = omega arith; rex = omega arith } in record {
      place = own_place name insn operand helper 0 0 0 other known (omega (arith, with_b_0 insn.rex 0 (omega arith)));
      shown = (omega arith, accumulator);
      reg = own_reg name insn operand helper 0 0 known;
    }
own_stays numbers name insn instruction form.OpcodeImm old other helper found is e none accumulator stands =
    let operand = own_register form.OpcodeImm insn in
    let low = last_opcode_byte insn.op % 8 in
    let known : IsRegister operand low 0 = record { mod_rm = refl; within = omega arith; rex = b_1 insn.rex } in
    let number : low + 8 * rex_b (with_r_b insn.rex 0 (rex_b insn.rex)) ≡ opcode_number insn =
    omega (arith, with_b insn.rex 0 (omega arith)) in record {
      place = own_place name insn operand helper low 0 (opcode_number insn) other known number;
      shown = (
        omega (arith, b_1 insn.rex),
        number_shown (opcode_number insn) form.OpcodeImm insn numbers refl none,
      );
      reg = own_reg name insn operand helper low 0 known;
    }
own_stays numbers name insn instruction form.RmImm old other helper found is e none accumulator stands =
    let operand = own_register form.RmImm insn in
    let modrm = stands refl in
    let low = modrm_of insn % 8 in
    let known : IsRegister operand low 0 = record { mod_rm = refl; within = omega arith; rex = b_1 insn.rex } in
    let three : mod_field (modrm_of insn) ≡ 3 = ap (λ (m : Option ℕ). mod_field (unwrap_or m 0)) modrm.1 ∙ modrm.2 in
    let number : low + 8 * rex_b (with_r_b insn.rex 0 (rex_b insn.rex)) ≡ rm_number insn =
    omega (arith, with_b insn.rex 0 (omega arith)) in
    let there = register_place insn old three in record {
      place = own_place name insn operand helper low 0 (rm_number insn) other known number ∙ sym there;
      shown = subst (λ (place : Location). IsShown (hides numbers) place) (sym there) (
        omega (arith, b_1 insn.rex),
        rm_shown numbers form.RmImm insn modrm.0 modrm.1 none,
      );
      reg = own_reg name insn operand helper low 0 known;
    }
own_stays numbers name insn instruction _ old other helper found is e none accumulator stands = absurd cc

memory_stays : (numbers : List ℕ) (name : Mnemonic) (insn : Insn) (old other : Regs) (at helper : Helper)
    → has_memory insn.modrm ≡ true → general other (number_of at) ≡ operand_address insn old
    → StaysAt numbers insn form.RmImm old (with_constant name insn (at_helper at) helper) helper other
unfolding destination
memory_stays numbers name insn old other at helper memory is =
    let there = memory_place insn old (memory_mod insn.modrm memory) in
    let reduced : general other (number_of at) % 2 ^ 64 ≡ operand_address insn old = omega (arith, is, address_word insn old) in
    record {
      place = memory_at name insn at helper other ∙ ap (λ (n : ℕ). Memory (linear n)) reduced ∙ sym there;
      shown = subst (λ (place : Location). IsShown (hides numbers) place) (sym there) tt;
      reg = memory_reg name insn at helper;
    }

-- ---- the rows go on

pub insns_both : (saves : List Save) (one two : List Insn) → insns_of (staged saves one ++ staged saves two) ≡ one ++ two
insns_both saves [] two = insns_staged saves two
insns_both saves (insn ∷ one) two = ap (λ (rest : List Insn). insn ∷ rest) (insns_both saves one two)

compute_goes : (insn : Insn) (regs : Regs) (loaded : ℕ) (kind : Operation) (kinds : OperandForm) (size : Size)
    → action_of insn ≡ Compute kind kinds size → ((row_of insn regs).after loaded).regs.rip ≡ next_rip insn regs
unfolding row_of after_action compute_result
compute_goes insn regs loaded kind kinds size is =
    subst (λ action. (after_action action insn regs loaded).regs.rip ≡ next_rip insn regs) (sym is) (back_rip size _ _ _)

-- ---- one helper

not_hidden : (helper : Helper) (number : ℕ) → (number_of helper ≡ number → ⊥) → (number == number_of helper) ≡ false
not_hidden helper number other = ne_eqb number (number_of helper) (λ is. other (sym is))

pub constant_slot : {M A N : Type 0} (bus : Interface M A) (Holds : Words → M → N
    → Type 0) (insn : Insn) (instruction : Instruction) (kind : Operation) (value : ℤ) (helper : Helper) (site : Site) (start : ℕ)
    (state : Slotted)
    → HasWords bus Holds
    → IsConstantWork insn instruction kind value → FitsSigned w32 value
    → is_named instruction.form insn (number_of helper) ≡ false
    → (instruction.form ≡ form.RmImm → (modrm : ℕ) × (insn.modrm ≡ Some modrm) × (mod_field modrm ≡ 3))
    → IsEntered insn site start state
    → IsSmall
    (bytes_of
    (move_outcome site (save helper first_saved ∷ load_constant helper value)
    (with_constant instruction.mnemonic insn (own_register instruction.form insn) helper)
    (restore helper first_saved ∷ [])))
    → FormLaw bus Holds insn start state
    (move_outcome site (save helper first_saved ∷ load_constant helper value)
    (with_constant instruction.mnemonic insn (own_register instruction.form insn) helper)
    (restore helper first_saved ∷ []))
constant_slot bus Holds insn instruction kind value helper site start state has work fits free stands entered small =
    let old : Regs = record (state.regs) { rip = start } in
    let numbers = number_of helper ∷ [] in
    let saves = one_save helper in
    let first = saved helper FirstSaved state in
    let operand = own_register instruction.form insn in
    let pre = save helper first_saved ∷ load_constant helper value in
    let main = with_constant instruction.mnemonic insn operand helper in
    let kept = one_kept helper start state entered.regs in
    let agree : AgreeBut (hides numbers) old first.regs =
    record { flags = refl; count = entered.regs.count; other_count = entered.regs.count; seen = λ number _. refl } in
    let goes : next_rip insn old ≡ site.next = omega (arith, entered.next, entered.place.next) in
    let hidden : hides numbers (number_of helper) ≡ true =
    or_left (number_of helper == number_of helper) false (eq-eqb (number_of helper) (number_of helper) refl) in
    let loads = constant_loads bus Holds saves start old numbers old helper value first hidden agree kept fits in
    let ready = loads.new in
    let stages : List Stage =
    record { insn = save helper first_saved; saves = saves } ∷ staged saves (load_constant helper value) in
    let staging : insns_of stages ≡ pre =
    ap (λ (rest : List Insn). save helper first_saved ∷ rest) (insns_staged saves (load_constant helper value)) in
    let before : Before bus Holds start old stages state ready =
    (first, save_does bus Holds helper FirstSaved state has, refl, kept first agree refl, loads.before) in
    let accumulator = or_from (0 == number_of helper) false (not_hidden helper 0 (helper_not_0 helper)) refl in
    let stays =
    own_stays numbers instruction.mnemonic insn instruction instruction.form old ready.regs helper work.named refl work.form
    (free, tt) accumulator stands in
    let bit = own_bit instruction.form insn in
    let alike =
    constant_main (hides numbers) insn instruction kind value operand helper old ready.regs work bit loads.agree stays.shown
    stays.place stays.reg loads.loaded in
    let from =
    site.slot + length (spelled_bytes pre) + length (spelling main) + length
    (spelled_bytes (restore helper first_saved ∷ [])) in
    let back = restore helper first_saved in
    let whole : length (spelled_bytes (back ∷ jump_insn from site.next ∷ []))
    ≡ length (spelling back) + length (spelled_bytes (jump_insn from site.next ∷ [])) =
    length-append (spelling back) (spelled_bytes (jump_insn from site.next ∷ [])) in
    let rip = before_rip bus Holds start old stages state ready (omega (arith, entered.at, entered.place.slot)) before in
    let all : length (spelled_bytes (insns_of stages)) ≡ length (spelled_bytes pre) =
    ap (λ (insns : List Insn). length (spelled_bytes insns)) staging in
    record {
      stages = stages;
      staged = staging;
      done = (save_done_first helper [], staged_done saves (load_constant helper value) (constant_saves helper value));
      ready = ready;
      before = before;
      work = inl (record {
        accesses = alike_accesses (hides numbers) old (row_of insn old) (row_of main ready.regs) alike;
        goes = λ loaded. compute_goes main ready.regs loaded kind form.RmReg (operand_size insn)
            (whole_main_action instruction.mnemonic kind insn operand helper work.operation bit);
        behind = λ loaded.
            let now : Slotted = record { regs = ((row_of main ready.regs).after loaded).regs; words = ready.words } in
            let after = ((row_of insn old).after loaded).regs in
            let there : now.regs.rip ≡ next_rip main ready.regs =
            compute_goes main ready.regs loaded kind form.RmReg (operand_size insn)
            (whole_main_action instruction.mnemonic kind insn operand helper work.operation bit) in
            one_behind bus Holds helper start from site.next state now after has entered.regs (alike.after loaded).regs
            (ap (λ (w : Words). w.first) loads.words)
            (compute_goes insn old loaded kind instruction.form (operand_size insn)
            (own_action insn instruction kind value work) ∙ goes)
            (omega (
              arith,
              there,
              rip,
              all,
              entered.at,
              entered.place.slot,
              small.before,
              small.work,
              small.behind,
              one_length back,
              whole,
            ))
            (omega (arith, entered.place.slot, small.before, small.work, small.behind, one_length back, whole))
            (omega (arith, entered.place.next));
      });
    }

pub constant_law : {M A N : Type 0} (bus : Interface M A) (Holds : Words → M → N
    → Type 0) (insn : Insn) (instruction : Instruction) (kind : Operation) (value : ℤ) (site : Site) (start : ℕ) (state : Slotted)
    → HasWords bus Holds
    → IsConstantWork insn instruction kind value → FitsSigned w32 value
    → (instruction.form ≡ form.RmImm → (modrm : ℕ) × (insn.modrm ≡ Some modrm) × (mod_field modrm ≡ 3))
    → IsEntered insn site start state
    → IsSmall (bytes_of (constant_form instruction insn site value))
    → FormLaw bus Holds insn start state (constant_form instruction insn site value)
unfolding constant_form
constant_law bus Holds insn instruction kind value site start state has work fits stands entered =
    let helper = first_helper instruction.form insn in
    subst (λ (main : Insn). IsSmall
    (bytes_of
    (move_outcome site (save helper first_saved ∷ load_constant helper value) main
    (behind_main instruction.mnemonic insn helper ++ restore helper first_saved ∷ [])))
    → FormLaw bus Holds insn start state
    (move_outcome site (save helper first_saved ∷ load_constant helper value) main
    (behind_main instruction.mnemonic insn helper ++ restore helper first_saved ∷ [])))
    (on_is instruction.mnemonic kind instruction.form insn helper work.operation)
    (subst (λ (last : List Insn). IsSmall
    (bytes_of
    (move_outcome site (save helper first_saved ∷ load_constant helper value)
    (with_constant instruction.mnemonic insn (own_register instruction.form insn) helper)
    (last ++ restore helper first_saved ∷ [])))
    → FormLaw bus Holds insn start state
    (move_outcome site (save helper first_saved ∷ load_constant helper value)
    (with_constant instruction.mnemonic insn (own_register instruction.form insn) helper)
    (last ++ restore helper first_saved ∷ [])))
    (none_behind instruction.mnemonic kind insn helper work.operation)
    (λ small. constant_slot bus Holds insn instruction kind value helper site start state has work fits
    (first_unnamed instruction.form insn work.valid) stands entered small))

-- ---- two helpers

pub same_at : (helper second : Helper) → (number_of helper == number_of second) ≡ false → number_of helper ≡ number_of second → ⊥
same_at helper second e is = eqb-false (number_of helper) (number_of second) e is

both_slot : {M A N : Type 0} (bus : Interface M A) (Holds : Words → M → N
    → Type 0) (insn : Insn) (instruction : Instruction) (kind : Operation) (value : ℤ) (helper second : Helper) (site : Site)
    (start : ℕ) (state : Slotted)
    → HasWords bus Holds
    → IsConstantWork insn instruction kind value → FitsSigned w32 value → instruction.form ≡ form.RmImm
    → has_memory insn.modrm ≡ true → (number_of helper == number_of second) ≡ false → IsEntered insn site start state
    → IsSmall
    (bytes_of
    (move_outcome site
    (save helper first_saved ∷ save second second_saved ∷ load_address_of_operand helper insn site.next ++
    load_constant second value) (with_constant instruction.mnemonic insn (at_helper helper) second)
    (restore helper first_saved ∷ restore second second_saved ∷ [])))
    → FormLaw bus Holds insn start state
    (move_outcome site
    (save helper first_saved ∷ save second second_saved ∷ load_address_of_operand helper insn site.next ++ load_constant
    second value) (with_constant instruction.mnemonic insn (at_helper helper) second)
    (restore helper first_saved ∷ restore second second_saved ∷ []))
both_slot bus Holds insn instruction kind value helper second site start state has work fits rm memory differ entered small =
    let old : Regs = record (state.regs) { rip = start } in
    let numbers = number_of helper ∷ number_of second ∷ [] in
    let saves = two_saves helper second in
    let one = one_save helper in
    let first = saved helper FirstSaved state in
    let both = saved second SecondSaved first in
    let operand = at_helper helper in
    let pre =
    save helper first_saved ∷ save second second_saved ∷ load_address_of_operand helper insn site.next ++ load_constant
    second value in
    let main = with_constant instruction.mnemonic insn operand second in
    let kept_one = one_kept helper start state entered.regs in
    let kept = two_kept helper second start state entered.regs in
    let agree_one : AgreeBut (hides (number_of helper ∷ [])) old first.regs =
    record { flags = refl; count = entered.regs.count; other_count = entered.regs.count; seen = λ number _. refl } in
    let agree : AgreeBut (hides numbers) old both.regs =
    record { flags = refl; count = entered.regs.count; other_count = entered.regs.count; seen = λ number _. refl } in
    let goes : next_rip insn old ≡ site.next = omega (arith, entered.next, entered.place.next) in
    let hidden : hides numbers (number_of helper) ≡ true =
    or_left (number_of helper == number_of helper) (hides (number_of second ∷ []) (number_of helper))
    (eq-eqb (number_of helper) (number_of helper) refl) in
    let at =
    address_loads bus Holds saves start old numbers old helper insn site.next both
    (record { valid = work.valid; hidden = hidden; agree = agree; same = refl; goes = goes }) kept in
    let loads =
    constant_loads bus Holds saves start old numbers old second value at.new (hides_second helper second) at.agree
    (λ s a w. kept s a (w ∙ at.words)) fits in
    let ready = loads.new in
    let stages : List Stage =
    record { insn = save helper first_saved; saves = one } ∷ record {
      insn = save second second_saved;
      saves = saves;
    } ∷
    (staged saves (load_address_of_operand helper insn site.next) ++ staged saves (load_constant second value)) in
    let staging : insns_of stages ≡ pre =
    ap (λ (rest : List Insn). save helper first_saved ∷ save second second_saved ∷ rest)
    (insns_both saves (load_address_of_operand helper insn site.next) (load_constant second value)) in
    let before : Before bus Holds start old stages state ready = (
      first,
      save_does bus Holds helper FirstSaved state has,
      refl,
      kept_one first agree_one refl,
      (
        both,
        save_does bus Holds second SecondSaved first has,
        refl,
        kept both agree refl,
        before_append bus Holds start old (staged saves (load_address_of_operand helper insn site.next))
            (staged saves (load_constant second value)) both at.new ready at.before loads.before,
      ),
    ) in
    let address_stays : general ready.regs (number_of helper) ≡ operand_address insn old =
    loads.others (number_of helper) (same_at helper second differ) ∙ at.loaded in
    let stays =
    subst (λ kinds. StaysAt numbers insn kinds old main second ready.regs) (sym rm)
    (memory_stays numbers instruction.mnemonic insn old ready.regs helper second memory address_stays) in
    let alike =
    constant_main (hides numbers) insn instruction kind value operand second old ready.regs work
    (at_bit helper) loads.agree stays.shown stays.place stays.reg loads.loaded in
    let back = restore helper first_saved in
    let again = restore second second_saved in
    let from = site.slot + length (spelled_bytes pre) + length (spelling main) + length (spelled_bytes (back ∷ again ∷ [])) in
    let two : length (spelled_bytes (back ∷ again ∷ [])) ≡ length (spelling back) + length (spelling again) =
    length-append (spelling back) (spelled_bytes (again ∷ []))
    ∙ ap (λ (n : ℕ). length (spelling back) + n) (one_length again) in
    let whole : length (spelled_bytes (back ∷ again ∷ jump_insn from site.next ∷ []))
    ≡ length (spelling back) + length (spelled_bytes (again ∷ jump_insn from site.next ∷ [])) =
    length-append (spelling back) (spelled_bytes (again ∷ jump_insn from site.next ∷ [])) in
    let later : length (spelled_bytes (again ∷ jump_insn from site.next ∷ []))
    ≡ length (spelling again) + length (spelled_bytes (jump_insn from site.next ∷ [])) =
    length-append (spelling again) (spelled_bytes (jump_insn from site.next ∷ [])) in
    let rip = before_rip bus Holds start old stages state ready (omega (arith, entered.at, entered.place.slot)) before in
    let all : length (spelled_bytes (insns_of stages)) ≡ length (spelled_bytes pre) =
    ap (λ (insns : List Insn). length (spelled_bytes insns)) staging in
    record {
      stages = stages;
      staged = staging;
      done = (
        save_done_first helper [],
        (
          save_done_second second one,
          staged_then saves (load_address_of_operand helper insn site.next) (staged saves (load_constant second value))
              (address_saves helper insn site.next)
              (staged_done saves (load_constant second value) (constant_saves second value)),
        ),
      );
      ready = ready;
      before = before;
      work = inl (record {
        accesses = alike_accesses (hides numbers) old (row_of insn old) (row_of main ready.regs) alike;
        goes = λ loaded. compute_goes main ready.regs loaded kind form.RmReg (operand_size insn)
            (whole_main_action instruction.mnemonic kind insn operand second work.operation (at_bit helper));
        behind = λ loaded.
            let now : Slotted = record { regs = ((row_of main ready.regs).after loaded).regs; words = ready.words } in
            let after = ((row_of insn old).after loaded).regs in
            let there : now.regs.rip ≡ next_rip main ready.regs =
            compute_goes main ready.regs loaded kind form.RmReg (operand_size insn)
            (whole_main_action instruction.mnemonic kind insn operand second work.operation (at_bit helper)) in
            let words = loads.words ∙ at.words in
            two_behind bus Holds helper second start from site.next state now after has entered.regs (alike.after loaded).regs
            (ap (λ (w : Words). w.first) words) (ap (λ (w : Words). w.second) words)
            (compute_goes insn old loaded kind instruction.form (operand_size insn) (own_action insn instruction kind value work)
            ∙ goes)
            (omega (
              arith,
              there,
              rip,
              all,
              entered.at,
              entered.place.slot,
              small.before,
              small.work,
              small.behind,
              two,
              whole,
              later,
            )) (omega (arith, entered.place.slot, small.before, small.work, small.behind, two, whole, later))
            (omega (arith, entered.place.next));
      });
    }

pub both_law : {M A N : Type 0} (bus : Interface M A) (Holds : Words → M → N
    → Type 0) (insn : Insn) (instruction : Instruction) (kind : Operation) (value : ℤ) (site : Site) (start : ℕ) (state : Slotted)
    → HasWords bus Holds
    → IsConstantWork insn instruction kind value → FitsSigned w32 value → instruction.form ≡ form.RmImm
    → has_memory insn.modrm ≡ true → IsEntered insn site start state
    → IsSmall (bytes_of (address_and_constant_form instruction insn site value))
    → FormLaw bus Holds insn start state (address_and_constant_form instruction insn site value)
unfolding address_and_constant_form
both_law bus Holds insn instruction kind value site start state has work fits rm memory entered =
    let helper = first_helper instruction.form insn in
    let second = second_helper instruction.form insn in
    subst (λ (last : List Insn). IsSmall
    (bytes_of
    (move_outcome site
    (save helper first_saved ∷ save second second_saved ∷ load_address_of_operand helper insn site.next ++
    load_constant second value) (with_constant instruction.mnemonic insn (at_helper helper) second)
    (last ++ restore helper first_saved ∷ restore second second_saved ∷ [])))
    → FormLaw bus Holds insn start state
    (move_outcome site
    (save helper first_saved ∷ save second second_saved ∷ load_address_of_operand helper insn site.next ++ load_constant
    second value) (with_constant instruction.mnemonic insn (at_helper helper) second)
    (last ++ restore helper first_saved ∷ restore second second_saved ∷ [])))
    (none_behind instruction.mnemonic kind insn second work.operation)
    (λ small. both_slot bus Holds insn instruction kind value helper second site start state has work fits rm memory
    (helpers_differ instruction.form insn work.valid) entered small)
