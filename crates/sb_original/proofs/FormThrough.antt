-- JMP and CALL through memory with base and index exchanged, in place.
use Rattle.std.proofs.Common.{◌≡◌, ℕ, ◌+◌, ◌%◌, ◌^◌, true, [], length, refl, sym, ap, ◌∙◌, subst}
use Rattle.sb_insn.specs.declared.insn.Insn.{Insn}
use Rattle.sb_insn.specs.declared.registers.Regs.{Regs}
use Rattle.sb_insn.specs.declared.opcode_map.OperandForm.TheVariants as form
use Rattle.sb_insn.specs.declared.opcode_map.Instruction.{Instruction}
use Rattle.sb_alu.specs.declared.size.Size.TheVariants.{Quadword}
use Rattle.sb_exec.specs.declared.action.Action.{Action}
use Rattle.sb_exec.specs.declared.action.Action.TheVariants.{Jump, Call}
use Rattle.sb_exec.specs.declared.action.MemoryUse.TheVariants as memory_use
use Rattle.sb_exec.specs.Operand.{next_rip}
use Rattle.sb_exec.specs.Address.{rm_location}
use Rattle.sb_exec.specs.WriteBack.{last_operand}
use Rattle.sb_exec.specs.Branch.{at_rip, regs_after_push}
use Rattle.sb_exec.specs.Actions.{action_by, action_for, action_of}
use Rattle.sb_exec.specs.Rows.{rm_use, load_of, store_of, after_action, effect_of, row_by, row_of}
use Rattle.sb_forms.specs.Pieces.{is_sib_0f, sib_exchanged}
use Rattle.sb_forms.proofs.Lengths.{exchanged_length}
use Rattle.sb_original.specs.Alike.{SameOperands, hides}
use Rattle.sb_original.specs.Original.{SameAccesses, InPlaceLaw}
use Rattle.sb_original.specs.Work.{IsJumpWork, IsCallWork}
use Rattle.sb_original.proofs.Alike.{rm_same, load_same}
use Rattle.sb_original.proofs.Memory.{exchanged_operands}
use Rattle.sb_original.proofs.Mains.{sib_is, exchanged_action}

-- in place, by the actions
pub record InPlaceBy (own : Action) (insn : Insn) (other : Action) (main : Insn) (regs : Regs) : Type 0 where
  pub accesses : SameAccesses (row_by own insn regs) (row_by other main regs)
  pub registers : (loaded : ℕ) → ((row_by other main regs).after loaded).regs ≡ ((row_by own insn regs).after loaded).regs

by_actions : (insn main : Insn) (regs : Regs) → InPlaceBy (action_of insn) insn (action_of main) main regs
    → InPlaceLaw (row_of insn regs) main regs
unfolding row_of
by_actions insn main regs by = record { accesses = by.accesses; registers = by.registers }

jump_same : (insn main : Insn) (regs : Regs) → action_of insn ≡ Jump form.Rm → action_of main ≡ Jump form.Rm
    → SameOperands (hides []) insn regs main regs → InPlaceLaw (row_of insn regs) main regs
unfolding row_of load_of store_of after_action effect_of last_operand
jump_same insn main regs own other same =
    by_actions insn main regs
    (subst (λ (a : Action). InPlaceBy a insn (action_of main) main regs) (sym own)
    (subst (λ (a : Action). InPlaceBy (Jump form.Rm) insn a main regs) (sym other)
    (record {
      accesses =
          record {
            load = load_same (rm_use form.Rm memory_use.Read) Quadword (rm_location insn regs) (rm_location main regs) same.place;
            store = refl;
            effect = refl;
            stored = λ loaded. refl;
          };
      registers = λ loaded. ap (λ (to : ℕ). at_rip to regs) (rm_same (hides []) Quadword insn regs main regs loaded same);
    })))

call_same : (insn main : Insn) (regs : Regs) → action_of insn ≡ Call form.Rm → action_of main ≡ Call form.Rm
    → SameOperands (hides []) insn regs main regs → next_rip main regs ≡ next_rip insn regs
    → InPlaceLaw (row_of insn regs) main regs
unfolding row_of load_of store_of after_action effect_of last_operand
call_same insn main regs own other same next =
    by_actions insn main regs
    (subst (λ (a : Action). InPlaceBy a insn (action_of main) main regs) (sym own)
    (subst (λ (a : Action). InPlaceBy (Call form.Rm) insn a main regs) (sym other)
    (record {
      accesses =
          record {
            load = load_same (rm_use form.Rm memory_use.Read) Quadword (rm_location insn regs) (rm_location main regs) same.place;
            store = refl;
            effect = refl;
            stored = λ loaded. next;
          };
      registers =
          λ loaded. ap (λ (to : ℕ). at_rip to (regs_after_push regs))
          (rm_same (hides []) Quadword insn regs main regs loaded same);
    })))

pub jump_exchanged : (insn : Insn) (instruction : Instruction) (regs : Regs) → IsJumpWork insn instruction
    → is_sib_0f insn.sib ≡ true → length regs.general ≡ 16 → InPlaceLaw (row_of insn regs) (sib_exchanged insn) regs
unfolding action_of action_by
jump_exchanged insn instruction regs work is count =
    let known = sib_is insn.modrm insn.sib is work.valid.sib in
    let own : action_of insn ≡ Jump form.Rm =
    ap (λ found. action_for found insn) work.named ∙ ap (λ name. action_by name instruction.form insn) work.jump
    ∙ ap (λ kinds. Jump kinds) work.form in
    jump_same insn (sib_exchanged insn) regs own (exchanged_action insn work.memory
    ∙ own) (exchanged_operands insn regs count work.memory known.0 known.1)

pub call_exchanged : (insn : Insn) (instruction : Instruction) (regs : Regs) → IsCallWork insn instruction
    → is_sib_0f insn.sib ≡ true → length regs.general ≡ 16 → InPlaceLaw (row_of insn regs) (sib_exchanged insn) regs
unfolding action_of action_by
call_exchanged insn instruction regs work is count =
    let known = sib_is insn.modrm insn.sib is work.valid.sib in
    let own : action_of insn ≡ Call form.Rm =
    ap (λ found. action_for found insn) work.named ∙ ap (λ name. action_by name instruction.form insn) work.call
    ∙ ap (λ kinds. Call kinds) work.form in
    call_same insn (sib_exchanged insn) regs own (exchanged_action insn work.memory
    ∙ own) (exchanged_operands insn regs count work.memory known.0 known.1)
    (ap (λ (n : ℕ). (regs.rip + n) % 2 ^ 64) (exchanged_length insn is))
