-- The laws of the forms that need no helper: SIB 0F exchanged in place, and a displacement behind ModRM 0F.
use Rattle.std.proofs.Common.{◌≡◌, ℕ, ◌+◌, ◌%◌, ◌^◌, true, [], ◌∷◌, length, inl, refl, sym, ap, ◌∙◌, arith}
use Rattle.std.proofs.lemmas.List.{ext_get_or}
use Rattle.sb_insn.specs.declared.insn.Insn.{Insn}
use Rattle.sb_insn.specs.declared.registers.Regs.{Regs}
use Rattle.sb_insn.specs.declared.opcode_map.Instruction.{Instruction}
use Rattle.sb_insn.specs.Spelling.{spelling}
use Rattle.sb_exec.specs.declared.action.Action.{Action}
use Rattle.sb_exec.specs.Interface.{Interface}
use Rattle.sb_exec.specs.Operand.{next_rip}
use Rattle.sb_exec.specs.Rows.{row_of}
use Rattle.sb_forms.specs.declared.slots.Site.{Site}
use Rattle.sb_forms.specs.Pieces.{is_sib_0f, sib_exchanged}
use Rattle.sb_forms.specs.Mains.{with_displacement}
use Rattle.sb_forms.specs.Table.{InPlace, move_outcome, bytes_of, is_modrm}
use Rattle.sb_forms.specs.Answers.{IsSmall}
use Rattle.sb_forms.proofs.Lengths.{exchanged_length}
use Rattle.sb_forms.proofs.Operands.{modrm_is}
use Rattle.sb_original.specs.Words.{Words}
use Rattle.sb_original.specs.Kept.{AgreeBut}
use Rattle.sb_original.specs.Work.{IsMemoryWork, IsEntered}
use Rattle.sb_original.specs.Alike.{hides, is_rm_action}
use Rattle.sb_original.specs.Slot.{Slotted, jumped}
use Rattle.sb_original.specs.Original.{IsRegs, FormLaw}
use Rattle.sb_original.proofs.Mains.{work_is_rm, displaced_action, displaced_main, exchanged_action, exchanged_main}
use Rattle.sb_original.proofs.Chains.{regs_same, jump_does}
use Rattle.sb_original.proofs.FormAddress.{alike_accesses, row_goes}

-- registers of which none is hidden
pub all_same : (regs other : Regs) → AgreeBut (hides []) regs other → other.general ≡ regs.general
all_same regs other agree =
    ext_get_or 0 other.general regs.general (agree.other_count ∙ sym agree.count) (λ k _. agree.seen k refl)

-- ---- base and index exchanged, in place

pub exchanged_law : {M A N : Type 0} (bus : Interface M A) (Holds : Words → M → N
    → Type 0) (insn : Insn) (instruction : Instruction) (start : ℕ) (state : Slotted)
    → IsMemoryWork insn instruction → is_sib_0f insn.sib ≡ true
    → IsRegs state.regs → FormLaw bus Holds insn start state (InPlace (sib_exchanged insn ∷ []))
exchanged_law bus Holds insn instruction start state work is regs =
    let old : Regs = record (state.regs) { rip = start } in
    let main = sib_exchanged insn in
    let alike = exchanged_main insn instruction old work is regs.count in
    let is_rm = work_is_rm insn instruction work in
    let main_rm = ap (λ (a : Action). is_rm_action a) (exchanged_action insn work.memory) ∙ is_rm in record {
      accesses = alike_accesses (hides []) old (row_of insn old) (row_of main old) alike;
      registers = λ loaded.
          let follow = (alike.after loaded).regs in
          regs_same _ _ (all_same ((row_of insn old).after loaded).regs ((row_of main old).after loaded).regs follow.agree)
          (row_goes main old loaded main_rm ∙ ap (λ (n : ℕ). (start + n) % 2 ^ 64) (exchanged_length insn is)
          ∙ sym (row_goes insn old loaded is_rm)) follow.agree.flags;
    }

-- ---- a displacement behind ModRM 0F

pub displaced_law : {M A N : Type 0} (bus : Interface M A) (Holds : Words → M → N
    → Type 0) (insn : Insn) (instruction : Instruction) (site : Site) (start : ℕ) (state : Slotted)
    → IsMemoryWork insn instruction → is_modrm 0x0F insn.modrm ≡ true
    → IsEntered insn site start state → IsSmall (bytes_of (move_outcome site [] (with_displacement insn) []))
    → FormLaw bus Holds insn start state (move_outcome site [] (with_displacement insn) [])
displaced_law bus Holds insn instruction site start state work e entered small =
    let is = modrm_is 0x0F insn.modrm e in
    let old : Regs = record (state.regs) { rip = start } in
    let main = with_displacement insn in
    let agree : AgreeBut (hides []) old state.regs =
    record { flags = refl; count = entered.regs.count; other_count = entered.regs.count; seen = λ number _. refl } in
    let alike = displaced_main insn instruction old state.regs work is agree in
    let is_rm = work_is_rm insn instruction work in
    let main_rm = ap (λ (a : Action). is_rm_action a) (displaced_action insn is) ∙ is_rm in
    let from = site.slot + 0 + length (spelling main) + 0 in
    let goes : next_rip insn old ≡ site.next = omega (arith, entered.next, entered.place.next) in record {
      stages = [];
      staged = refl;
      done = tt;
      ready = state;
      before = refl;
      work = inl (record {
        accesses = alike_accesses (hides []) old (row_of insn old) (row_of main state.regs) alike;
        goes = λ loaded. row_goes main state.regs loaded main_rm;
        behind = λ loaded.
            let now : Slotted = record { regs = ((row_of main state.regs).after loaded).regs; words = state.words } in
            let after = ((row_of insn old).after loaded).regs in
            let follow = (alike.after loaded).regs in
            let there : now.regs.rip ≡ next_rip main state.regs = row_goes main state.regs loaded main_rm in (
              jumped site.next now,
              jump_does bus Holds from site.next now (omega (arith, there, entered.at, entered.place.slot, small.work))
                  (omega (arith, entered.place.slot, small.work)) (omega (arith, entered.place.next)),
              tt,
              regs_same (jumped site.next now).regs after (all_same after now.regs follow.agree)
                  (sym (row_goes insn old loaded is_rm ∙ goes)) follow.agree.flags,
            );
      });
    }
