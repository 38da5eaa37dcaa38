-- The law of JMP through memory.
use Rattle.std.proofs.Common.{◌≡◌, ℕ, ◌+◌, ◌%◌, ◌^◌, true, false, List, [], ◌∷◌, length, inl, refl, sym, ap, ◌∙◌, arith, subst}
use Rattle.std.proofs.lemmas.Grind.{get_or-set_at}
use Rattle.std.specs.Prelude.{slice_index, slice_set, ◌==◌}
use Rattle.std.proofs.lemmas.Bool.{eq-eqb, or_left}
use Rattle.sb_insn.specs.declared.insn.Insn.{Insn}
use Rattle.sb_insn.specs.declared.registers.Regs.{Regs}
use Rattle.sb_insn.specs.declared.opcode_map.OperandForm.TheVariants as form
use Rattle.sb_insn.specs.declared.opcode_map.Instruction.{Instruction}
use Rattle.sb_insn.specs.OpcodeMap.{one_byte}
use Rattle.sb_insn.specs.Lookup.{instruction_of, modrm_opcode_of}
use Rattle.sb_alu.specs.declared.size.Size.TheVariants.{Quadword}
use Rattle.sb_exec.specs.declared.action.Action.TheVariants.{Jump}
use Rattle.sb_exec.specs.declared.action.Location.{Location}
use Rattle.sb_exec.specs.declared.action.Location.TheVariants.{Memory}
use Rattle.sb_exec.specs.declared.action.Load.TheVariants as load
use Rattle.sb_exec.specs.declared.action.Store.TheVariants as store
use Rattle.sb_exec.specs.declared.action.MemoryUse.TheVariants as memory_use
use Rattle.sb_exec.specs.Interface.{Interface}
use Rattle.sb_exec.specs.Size.{low}
use Rattle.sb_exec.specs.Operand.{general, register_after_write, next_rip, operand_value}
use Rattle.sb_exec.specs.Address.{linear, operand_address, rm_location}
use Rattle.sb_exec.specs.Outcome.{operation_outcome}
use Rattle.sb_exec.specs.WriteBack.{regs_at_next, without_store, write_result, destination, first_operand, last_operand, result_or_nothing, compute_result}
use Rattle.sb_exec.specs.Branch.{at_rip}
use Rattle.sb_exec.specs.Row.{Row}
use Rattle.sb_exec.specs.Actions.{action_by, action_for, action_of}
use Rattle.sb_exec.specs.Rows.{rm_use, load_by, load_of, store_of, after_action, effect_of, row_by, row_of}
use Rattle.sb_exec.proofs.RowWords.{address_word}
use Rattle.sb_forms.specs.declared.helper.Helper.{Helper}
use Rattle.sb_forms.specs.declared.helper.Helper.TheVariants.{Rcx, Rdx, Rbx, Rsi, Rdi}
use Rattle.sb_forms.specs.declared.slots.Site.{Site}
use Rattle.sb_forms.specs.Registers.{number_of, first_helper}
use Rattle.sb_forms.specs.Pieces.{first_saved, scratch_word, save, restore, load_address_of_operand, jump_through}
use Rattle.sb_forms.specs.Mains.{load_target}
use Rattle.sb_forms.specs.Table.{jump_form}
use Rattle.sb_original.specs.Words.{FirstSaved, Third, Words, HasWords}
use Rattle.sb_original.specs.Kept.{AgreeBut}
use Rattle.sb_original.specs.Alike.{hides}
use Rattle.sb_original.specs.Slot.{Slotted, with_general, saved, restored, jumped}
use Rattle.sb_original.proofs.Saves.{save_done_first, staged_done, address_saves}
use Rattle.sb_original.specs.Original.{Behind, staged, FormLaw}
use Rattle.sb_original.specs.Work.{IsJumpWork, IsEntered}
use Rattle.sb_original.proofs.Memory.{memory_place, memory_mod}
use Rattle.sb_original.proofs.Pieces.{load_row, save_does, restore_does, jump_through_does}
use Rattle.sb_original.proofs.Chains.{regs_same, agree_set}
use Rattle.sb_original.proofs.Addresses.{address_loads}
use Rattle.sb_original.proofs.FormPlain.{all_same}
use Rattle.sb_original.proofs.FormAddress.{insns_staged, one_save, one_kept}
use Rattle.sb_original.proofs.FormConstant.{unhide}
use Rattle.sb_forms.proofs.QuietPieces.{number_7}

-- ---- the rows

target_is : (helper : Helper) (regs : Regs)
    → row_of (load_target helper) regs
    ≡ load_row ((general regs (number_of helper) + 0) % 2 ^ 64) Quadword
    (λ loaded. without_store (with_general (number_of helper) (loaded % 2 ^ 64) (regs_at_next (load_target helper) regs)))
unfolding row_of action_of action_by instruction_of modrm_opcode_of one_byte load_target load_of store_of after_action effect_of
    compute_result destination first_operand last_operand operation_outcome result_or_nothing write_result rm_use rm_location
    operand_address low register_after_write
target_is Rcx regs = refl
target_is Rdx regs = refl
target_is Rbx regs = refl
target_is Rsi regs = refl
target_is Rdi regs = refl

-- the row of a jump to what a place holds
jump_by : (insn : Insn) (regs : Regs) (address : ℕ) → rm_location insn regs ≡ Memory (linear address)
    → row_by (Jump form.Rm) insn regs ≡ load_row address Quadword (λ loaded. without_store (at_rip (loaded % 2 ^ 64) regs))
unfolding load_of store_of after_action effect_of rm_use last_operand low
jump_by insn regs address is =
    ap (λ (place : Location).
    let r : Row =
    record {
      load = load_by memory_use.Read Quadword place;
      store = store.Nothing;
      after = λ loaded. without_store (at_rip (operand_value Quadword place regs loaded) regs);
      effect =
          effect_of (Jump form.Rm);
    } in r) is

jump_is : (insn : Insn) (instruction : Instruction) (regs : Regs) → IsJumpWork insn instruction
    → row_of insn regs ≡ load_row (operand_address insn regs) Quadword (λ loaded. without_store (at_rip (loaded % 2 ^ 64) regs))
unfolding row_of action_of action_by
jump_is insn instruction regs work =
    let action : action_of insn ≡ Jump form.Rm =
    ap (λ found. action_for found insn) work.named ∙ ap (λ name. action_by name instruction.form insn) work.jump
    ∙ ap (λ kinds. Jump kinds) work.form in
    ap (λ a. row_by a insn regs) action
    ∙ jump_by insn regs (operand_address insn regs) (memory_place insn regs (memory_mod insn.modrm work.memory))

-- ---- the form

holds_it : (helper : Helper) (value : ℕ) (registers : List ℕ) → length registers ≡ 16
    → slice_index (slice_set registers (number_of helper) value) (number_of helper) ≡ value
holds_it helper value registers count =
    get_or-set_at registers (number_of helper) (number_of helper) value 0 refl (omega (arith, number_7 helper, count))

pub jump_law : {M A N : Type 0} (bus : Interface M A) (Holds : Words → M → N
    → Type 0) (insn : Insn) (instruction : Instruction) (site : Site) (start : ℕ) (state : Slotted)
    → HasWords bus Holds → IsJumpWork insn instruction
    → IsEntered insn site start state → FormLaw bus Holds insn start state (jump_form instruction insn site)
unfolding jump_form
jump_law bus Holds insn instruction site start state has work entered =
    let helper = first_helper instruction.form insn in
    let old : Regs = record (state.regs) { rip = start } in
    let numbers = number_of helper ∷ [] in
    let saves = one_save helper in
    let first = saved helper FirstSaved state in
    let main = load_target helper in
    let kept = one_kept helper start state entered.regs in
    let agree : AgreeBut (hides numbers) old first.regs =
    record { flags = refl; count = entered.regs.count; other_count = entered.regs.count; seen = λ number _. refl } in
    let hidden : hides numbers (number_of helper) ≡ true =
    or_left (number_of helper == number_of helper) false (eq-eqb (number_of helper) (number_of helper) refl) in
    let goes : next_rip insn old ≡ site.next = omega (arith, entered.next, entered.place.next) in
    let loads =
    address_loads bus Holds saves start old numbers old helper insn site.next first
    (record { valid = work.valid; hidden = hidden; agree = agree; same = refl; goes = goes }) kept in
    let ready = loads.new in
    let address_is : (general ready.regs (number_of helper) + 0) % 2 ^ 64 ≡ operand_address insn old =
    omega (arith, loads.loaded, address_word insn old) in
    let row = jump_is insn instruction old work in
    let there = target_is helper ready.regs in
    record {
      stages =
          record { insn = save helper first_saved; saves = saves } ∷ staged saves (load_address_of_operand helper insn site.next);
      staged =
          ap (λ (rest : List Insn). save helper first_saved ∷ rest)
          (insns_staged saves (load_address_of_operand helper insn site.next));
      done = (
        save_done_first helper [],
        staged_done saves (load_address_of_operand helper insn site.next) (address_saves helper insn site.next),
      );
      ready = ready;
      before = (first, save_does bus Holds helper FirstSaved state has, refl, kept first agree refl, loads.before);
      work = inl (record {
        accesses = record {
          load = ap (λ r. r.load) there ∙ ap (λ (n : ℕ). load.Read (linear n) Quadword) address_is ∙ sym (ap (λ r. r.load) row);
          store = ap (λ r. r.store) there ∙ sym (ap (λ r. r.store) row);
          effect = ap (λ r. r.effect) there ∙ sym (ap (λ r. r.effect) row);
          stored = λ loaded. ap (λ r. (r.after loaded).stored) there ∙ sym (ap (λ r. (r.after loaded).stored) row);
        };
        goes = λ loaded. ap (λ r. (r.after loaded).regs.rip) there;
        behind = λ loaded.
            let target : Regs = record old { rip = loaded % 2 ^ 64 } in
            let now : Slotted =
            record {
              regs = with_general (number_of helper) (loaded % 2 ^ 64) (regs_at_next main ready.regs);
              words = ready.words;
            } in
            let second = saved helper Third now in
            let third = restored helper FirstSaved second in
            let last = jumped (third.words.third % 2 ^ 64) third in
            let agreed : AgreeBut (hides numbers) old now.regs =
            agree_set helper numbers (loaded % 2 ^ 64) old ready.regs now.regs.rip hidden loads.agree in
            let word : second.words.first % 2 ^ 64 ≡ general old (number_of helper) =
            omega (arith, ap (λ (w : Words). w.first) loads.words, entered.regs.fit (number_of helper)) in
            let shown =
            unhide helper [] old second.regs (second.words.first % 2 ^ 64) third.regs.rip
            (record {
              flags = agreed.flags;
              count = agreed.count;
              other_count = agreed.other_count;
              seen = agreed.seen;
            }) word in
            let through : last.regs.rip ≡ loaded % 2 ^ 64 =
            omega (arith, holds_it helper (loaded % 2 ^ 64) ready.regs.general loads.agree.other_count) in
            subst (λ (r : Row). Behind bus Holds (r.after loaded).regs
            (save helper scratch_word ∷ restore helper first_saved ∷ jump_through scratch_word ∷ [])
            (record { regs = ((row_of main ready.regs).after loaded).regs; words = ready.words })) (sym row)
            (subst (λ (r : Row). Behind bus Holds target
            (save helper scratch_word ∷ restore helper first_saved ∷ jump_through scratch_word ∷ [])
            (record { regs = (r.after loaded).regs; words = ready.words })) (sym there) (
              second,
              save_does bus Holds helper Third now has,
              refl,
              (
                third,
                restore_does bus Holds helper FirstSaved second has,
                refl,
                (
                  last,
                  jump_through_does bus Holds third has,
                  tt,
                  regs_same last.regs target
                      (all_same old last.regs
                      (record {
                        flags = shown.flags;
                        count = shown.count;
                        other_count = shown.other_count;
                        seen = shown.seen;
                      })) through shown.flags,
                ),
              ),
            ));
      });
    }
