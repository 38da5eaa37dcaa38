-- The law of PUSH of a constant.
use Rattle.std.proofs.Common.{◌≡◌, ℕ, ◌+◌, ◌%◌, ◌^◌, Bool, true, false, List, [], ◌∷◌, ◌++◌, length, inl, refl, sym, ap, ◌∙◌, arith, subst, length-append, FitsSigned, ℤ}
use Rattle.std.specs.Prelude.{◌==◌}
use Rattle.std.specs.Int.{w32, w64, cast_unsigned}
use Rattle.std.proofs.lemmas.Bool.{eq-eqb, ne_eqb, or_left, or_from}
use Rattle.sb_insn.specs.declared.insn.Insn.{Insn}
use Rattle.sb_insn.specs.declared.insn.Imm.TheVariants as imm
use Rattle.sb_insn.specs.declared.registers.Regs.{Regs}
use Rattle.sb_insn.specs.declared.opcode_map.Mnemonic.TheVariants as mnemonic
use Rattle.sb_insn.specs.declared.opcode_map.OperandForm.{OperandForm}
use Rattle.sb_insn.specs.declared.opcode_map.OperandForm.TheVariants as form
use Rattle.sb_insn.specs.declared.opcode_map.Instruction.{Instruction}
use Rattle.sb_insn.specs.OpcodeMap.{one_byte}
use Rattle.sb_insn.specs.Lookup.{instruction_of}
use Rattle.sb_insn.specs.Spelling.{spelling}
use Rattle.sb_alu.specs.declared.size.Size.TheVariants.{Quadword}
use Rattle.sb_exec.specs.declared.action.Action.TheVariants.{Push}
use Rattle.sb_exec.specs.declared.action.Effect.TheVariants.{Next}
use Rattle.sb_exec.specs.declared.action.Load.TheVariants as load
use Rattle.sb_exec.specs.declared.action.Store.TheVariants as store
use Rattle.sb_exec.specs.Interface.{Interface}
use Rattle.sb_exec.specs.Size.{low}
use Rattle.sb_insn.specs.Branch.{imm_value}
use Rattle.sb_exec.specs.Operand.{general, next_rip}
use Rattle.sb_exec.specs.Address.{linear, rm_location}
use Rattle.sb_exec.specs.WriteBack.{regs_at_next, with_store, last_operand}
use Rattle.sb_exec.specs.Branch.{rsp_after_push, regs_after_push}
use Rattle.sb_exec.specs.Row.{Row}
use Rattle.sb_exec.specs.Actions.{action_by, action_for, action_of}
use Rattle.sb_exec.specs.Rows.{rm_use, load_of, store_of, after_action, effect_of, row_by, row_of}
use Rattle.sb_forms.specs.declared.helper.Helper.{Helper}
use Rattle.sb_forms.specs.declared.helper.Helper.TheVariants.{Rcx, Rdx, Rbx, Rsi, Rdi}
use Rattle.sb_forms.specs.declared.slots.Site.{Site}
use Rattle.sb_forms.specs.Registers.{number_of, first_helper}
use Rattle.sb_forms.specs.Pieces.{opcode_alone, first_saved, save, restore, load_constant, jump_insn}
use Rattle.sb_forms.specs.Mains.{on_register, behind_main}
use Rattle.sb_forms.specs.Table.{spelled_bytes, move_outcome, bytes_of, constant_form}
use Rattle.sb_forms.specs.Answers.{IsSmall}
use Rattle.sb_original.specs.Words.{FirstSaved, Words, HasWords}
use Rattle.sb_original.specs.Kept.{AgreeBut}
use Rattle.sb_original.specs.Work.{IsPushWork, IsEntered}
use Rattle.sb_original.specs.Alike.{AlikeBut, hides}
use Rattle.sb_original.specs.Slot.{Slotted, saved}
use Rattle.sb_original.proofs.Saves.{save_done_first, staged_done, constant_saves}
use Rattle.sb_original.specs.Original.{Stage, insns_of, Before, staged, FormLaw}
use Rattle.sb_forms.proofs.Fields.{helper_not_4}
use Rattle.sb_original.proofs.Alike.{push_follows, top_same}
use Rattle.sb_original.proofs.Pieces.{save_does}
use Rattle.sb_original.proofs.Chains.{before_rip}
use Rattle.sb_original.proofs.Addresses.{constant_loads}
use Rattle.sb_original.proofs.FormAddress.{insns_staged, alike_accesses, one_save, one_kept, one_behind}
use Rattle.sb_original.proofs.Constants.{no_load}

-- ---- the rows

abbrev push_row : Insn → Regs → ℕ → Row
push_row insn regs value =
    record {
      load = load.Nothing;
      store = store.At (linear (rsp_after_push regs)) Quadword;
      after = λ loaded. with_store (regs_after_push (regs_at_next insn regs)) value;
      effect = Next;
    }

main_is : (helper : Helper) (regs : Regs)
    → row_of (opcode_alone (0x50 + number_of helper)) regs
    ≡ push_row (opcode_alone (0x50 + number_of helper)) regs (general regs (number_of helper) % 2 ^ 64)
unfolding row_of action_of action_by instruction_of one_byte load_of store_of after_action effect_of last_operand rm_use
    rm_location low
main_is Rcx regs = refl
main_is Rdx regs = refl
main_is Rbx regs = refl
main_is Rsi regs = refl
main_is Rdi regs = refl

own_by : (insn : Insn) (regs : Regs) (value : ℤ) → insn.imm ≡ imm.I32 value
    → row_by (Push form.Imm) insn regs ≡ push_row insn regs (cast_unsigned w64 value % 2 ^ 64)
unfolding load_of store_of after_action effect_of last_operand rm_use low
own_by insn regs value is =
    ap (λ l.
    let r : Row =
    record {
      load = l;
      store = store.At (linear (rsp_after_push regs)) Quadword;
      after = λ loaded. with_store (regs_after_push (regs_at_next insn regs)) (imm_value insn.imm % 2 ^ 64);
      effect =
          Next;
    } in r) (no_load Quadword (rm_location insn regs))
    ∙ ap (λ i. push_row insn regs (imm_value i % 2 ^ 64)) is

own_is : (insn : Insn) (instruction : Instruction) (value : ℤ) (regs : Regs) → IsPushWork insn instruction value
    → row_of insn regs ≡ push_row insn regs (cast_unsigned w64 value % 2 ^ 64)
unfolding row_of action_of action_by
own_is insn instruction value regs work =
    let action : action_of insn ≡ Push form.Imm =
    ap (λ found. action_for found insn) work.named ∙ ap (λ name. action_by name instruction.form insn) work.push
    ∙ ap (λ kinds. Push kinds) work.form in
    ap (λ a. row_by a insn regs) action ∙ own_by insn regs value work.imm

rows_alike : (hidden : ℕ → Bool) (insn main : Insn) (old other : Regs) (value other_value : ℕ) → AgreeBut hidden old other
    → hidden 4 ≡ false → other_value ≡ value → AlikeBut hidden old (push_row insn old value) (push_row main other other_value)
rows_alike hidden insn main old other value other_value agree stack same = record {
  load = refl;
  store = ap (λ (top : ℕ). store.At (linear top) Quadword) (top_same hidden old other agree stack);
  effect = refl;
  after = λ loaded. push_follows hidden value other_value (rsp_after_push old)
      (rsp_after_push other) insn old main other agree stack same (top_same hidden old other agree stack);
}

-- ---- the form

push_slot : {M A N : Type 0} (bus : Interface M A) (Holds : Words → M → N
    → Type 0) (insn : Insn) (instruction : Instruction) (value : ℤ) (helper : Helper) (site : Site) (start : ℕ) (state : Slotted)
    → HasWords bus Holds → IsPushWork insn instruction value → FitsSigned w32 value
    → IsEntered insn site start state
    → IsSmall
    (bytes_of
    (move_outcome site (save helper first_saved ∷ load_constant helper value) (opcode_alone (0x50 + number_of helper))
    (restore helper first_saved ∷ [])))
    → FormLaw bus Holds insn start state
    (move_outcome site (save helper first_saved ∷ load_constant helper value) (opcode_alone (0x50 + number_of helper))
    (restore helper first_saved ∷ []))
push_slot bus Holds insn instruction value helper site start state has work fits entered small =
    let old : Regs = record (state.regs) { rip = start } in
    let numbers = number_of helper ∷ [] in
    let saves = one_save helper in
    let first = saved helper FirstSaved state in
    let pre = save helper first_saved ∷ load_constant helper value in
    let main = opcode_alone (0x50 + number_of helper) in
    let kept = one_kept helper start state entered.regs in
    let agree : AgreeBut (hides numbers) old first.regs =
    record { flags = refl; count = entered.regs.count; other_count = entered.regs.count; seen = λ number _. refl } in
    let goes : next_rip insn old ≡ site.next = omega (arith, entered.next, entered.place.next) in
    let hidden : hides numbers (number_of helper) ≡ true =
    or_left (number_of helper == number_of helper) false (eq-eqb (number_of helper) (number_of helper) refl) in
    let loads = constant_loads bus Holds saves start old numbers old helper value first hidden agree kept fits in
    let ready = loads.new in
    let stages : List Stage =
    record { insn = save helper first_saved; saves = saves } ∷ staged saves (load_constant helper value) in
    let staging : insns_of stages ≡ pre =
    ap (λ (rest : List Insn). save helper first_saved ∷ rest) (insns_staged saves (load_constant helper value)) in
    let before : Before bus Holds start old stages state ready =
    (first, save_does bus Holds helper FirstSaved state has, refl, kept first agree refl, loads.before) in
    let stack = or_from (4 == number_of helper) false (ne_eqb 4 (number_of helper) (λ is. helper_not_4 helper (sym is))) refl in
    let equal : general ready.regs (number_of helper) % 2 ^ 64 ≡ cast_unsigned w64 value % 2 ^ 64 = omega (arith, loads.loaded) in
    let own = own_is insn instruction value old work in
    let mains = main_is helper ready.regs in
    let alike = subst (λ (r : Row). AlikeBut (hides numbers) old r (row_of main ready.regs)) (sym own)
    (subst (λ (r : Row). AlikeBut (hides numbers) old (push_row insn old (cast_unsigned w64 value % 2 ^ 64)) r) (sym mains)
    (rows_alike (hides numbers) insn main old ready.regs (cast_unsigned w64 value % 2 ^ 64)
    (general ready.regs (number_of helper) % 2 ^ 64) loads.agree stack equal)) in
    let from =
    site.slot + length (spelled_bytes pre) + length (spelling main) + length
    (spelled_bytes (restore helper first_saved ∷ [])) in
    let back = restore helper first_saved in
    let one_length : length (spelled_bytes (back ∷ [])) ≡ length (spelling back) =
    omega (arith, length-append (spelling back) []) in
    let whole : length (spelled_bytes (back ∷ jump_insn from site.next ∷ []))
    ≡ length (spelling back) + length (spelled_bytes (jump_insn from site.next ∷ [])) =
    length-append (spelling back) (spelled_bytes (jump_insn from site.next ∷ [])) in
    let rip = before_rip bus Holds start old stages state ready (omega (arith, entered.at, entered.place.slot)) before in
    let all : length (spelled_bytes (insns_of stages)) ≡ length (spelled_bytes pre) =
    ap (λ (insns : List Insn). length (spelled_bytes insns)) staging in
    record {
      stages = stages;
      staged = staging;
      done = (save_done_first helper [], staged_done saves (load_constant helper value) (constant_saves helper value));
      ready = ready;
      before = before;
      work = inl (record {
        accesses = alike_accesses (hides numbers) old (row_of insn old) (row_of main ready.regs) alike;
        goes = λ loaded. ap (λ (r : Row). (r.after loaded).regs.rip) mains;
        behind = λ loaded.
            let now : Slotted = record { regs = ((row_of main ready.regs).after loaded).regs; words = ready.words } in
            let after = ((row_of insn old).after loaded).regs in
            let there : now.regs.rip ≡ next_rip main ready.regs = ap (λ (r : Row). (r.after loaded).regs.rip) mains in
            one_behind bus Holds helper start from site.next state now after has entered.regs (alike.after loaded).regs
            (ap (λ (w : Words). w.first) loads.words) (ap (λ (r : Row). (r.after loaded).regs.rip) own ∙ goes)
            (omega (
              arith,
              there,
              rip,
              all,
              entered.at,
              entered.place.slot,
              small.before,
              small.work,
              small.behind,
              one_length,
              whole,
            )) (omega (arith, entered.place.slot, small.before, small.work, small.behind, one_length, whole))
            (omega (arith, entered.place.next));
      });
    }

at_push : (kinds : OperandForm) (insn : Insn) (helper : Helper)
    → opcode_alone (0x50 + number_of helper) ≡ on_register mnemonic.Push kinds insn helper
unfolding on_register
at_push kinds insn helper = refl

none_at_push : (insn : Insn) (helper : Helper) → [] ≡ behind_main mnemonic.Push insn helper
unfolding behind_main
none_at_push insn helper = refl

pub push_law : {M A N : Type 0} (bus : Interface M A) (Holds : Words → M → N
    → Type 0) (insn : Insn) (instruction : Instruction) (value : ℤ) (site : Site) (start : ℕ) (state : Slotted)
    → HasWords bus Holds → IsPushWork insn instruction value → FitsSigned w32 value
    → IsEntered insn site start state → IsSmall (bytes_of (constant_form instruction insn site value))
    → FormLaw bus Holds insn start state (constant_form instruction insn site value)
unfolding constant_form
push_law bus Holds insn instruction value site start state has work fits entered =
    let helper = first_helper instruction.form insn in
    let pre = save helper first_saved ∷ load_constant helper value in
    subst (λ (main : Insn). IsSmall
    (bytes_of (move_outcome site pre main (behind_main instruction.mnemonic insn helper ++ restore helper first_saved ∷ [])))
    → FormLaw bus Holds insn start state
    (move_outcome site pre main (behind_main instruction.mnemonic insn helper ++ restore helper first_saved ∷ [])))
    (at_push instruction.form insn helper ∙ ap (λ name. on_register name instruction.form insn helper) (sym work.push))
    (subst (λ (last : List Insn). IsSmall
    (bytes_of (move_outcome site pre (opcode_alone (0x50 + number_of helper)) (last ++ restore helper first_saved ∷ [])))
    → FormLaw bus Holds insn start state
    (move_outcome site pre (opcode_alone (0x50 + number_of helper)) (last ++ restore helper first_saved ∷ [])))
    (none_at_push insn helper ∙ ap (λ name. behind_main name insn helper) (sym work.push))
    (λ small. push_slot bus Holds insn instruction value helper site start state has work fits entered small))
