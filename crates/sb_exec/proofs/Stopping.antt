-- Exactly SYSCALL, VMFUNC and UD2 end in another effect than Next.
use Rattle.std.proofs.Common.{◌≡◌, ◌∙◌, sym, ap, subst, ℕ, Bool, true, false, nat_eq, refl, arith}
use Rattle.std.specs.Prelude.{◌==◌, Result, Ok, Err}
use Rattle.std.proofs.lemmas.Grind.{common_steps}
use Rattle.sb_insn.specs.declared.insn.Insn.{Insn}
use Rattle.sb_insn.specs.declared.insn.Op.{Op}
use Rattle.sb_insn.specs.declared.insn.Op.TheVariants.{One, Two, Endbr, Vmfunc}
use Rattle.sb_insn.specs.declared.registers.Regs.{Regs}
use Rattle.sb_insn.specs.OpcodeMap.{two_byte, cell_of}
use Rattle.sb_insn.specs.Lookup.{instruction_in, instruction_of}
use Rattle.sb_insn.specs.Grammar.{IsValid}
use Rattle.sb_bus.specs.declared.stop.BusStop.{BusStop}
use Rattle.sb_exec.specs.declared.action.Effect.{Effect}
use Rattle.sb_exec.specs.declared.action.Effect.TheVariants as effect
use Rattle.sb_bus.specs.Interface.{Interface}
use Rattle.sb_exec.specs.Row.{accesses}
use Rattle.sb_exec.specs.Execution.{execution_of, effect_after, run}
use Rattle.sb_exec.specs.Actions.{action_by, action_for, action_of}
use Rattle.sb_exec.specs.Rows.{effect_of, row_of, row_by, load_of, store_of}
use Rattle.sb_exec.proofs.Named.{op_effect, two_byte_effect}
use Rattle.sb_exec.proofs.Effects.{valid_effect}

-- the answer tells the effect
answer_effect : (effect end : Effect) (answer : Result ℕ BusStop) → effect_after effect answer ≡ Ok end → effect ≡ end
answer_effect effect end (Ok loaded) same = cc
answer_effect effect end (Err stop) same = cc

-- a valid instruction with this answer has an opcode with this effect
op_answers : {M A : Type 0} (bus : Interface M A) (insn : Insn) (regs : Regs) (meaning : M) (account : A) (end : Effect)
    → IsValid insn
    → (execution_of bus (row_of insn regs) regs meaning account).answer ≡ Ok end → op_effect insn.op ≡ end
unfolding execution_of row_of
op_answers bus insn regs meaning account end valid answers =
    sym (valid_effect insn valid) ∙ answer_effect _ _ (run bus (accesses (row_of insn regs)) meaning account 0).answer answers

-- an instruction that stops at this opcode
abbrev Answers : {M A : Type 0} → Interface M A → Insn → Regs → M → A → Effect → Op → Type 0
Answers bus insn regs meaning account end op =
    effect_after (row_by (action_for (instruction_in (cell_of op) insn.modrm) insn) insn regs).effect
    (run bus (accesses (row_by (action_for (instruction_in (cell_of op) insn.modrm) insn) insn regs)) meaning account 0).answer
    ≡ Ok end

-- ---- SYSCALL

two_syscall : (opcode : ℕ) (is_syscall is_ud2 : Bool) → nat_eq opcode 5 ≡ is_syscall
    → two_byte_effect is_syscall is_ud2 ≡ effect.Syscall → Two opcode ≡ Two 5
two_syscall opcode true is_ud2 test ends = let is : opcode ≡ 5 = grind (arith, common_steps, test) in ap (λ number. Two number) is
two_syscall opcode false true test ends = cc
two_syscall opcode false false test ends = cc

op_syscall : (op : Op) → op_effect op ≡ effect.Syscall → op ≡ Two 5
op_syscall (One opcode) ends = cc
op_syscall (Two opcode) ends = two_syscall opcode (opcode == 5) (opcode == 11) refl ends
op_syscall Endbr ends = cc
op_syscall Vmfunc ends = cc

pub syscall_ends : {M A : Type 0} (bus : Interface M A) (insn : Insn) (regs : Regs) (meaning : M) (account : A) → IsValid insn
    → (execution_of bus (row_of insn regs) regs meaning account).answer ≡ Ok effect.Syscall → insn.op ≡ Two 5
syscall_ends bus insn regs meaning account valid ends =
    op_syscall insn.op (op_answers bus insn regs meaning account effect.Syscall valid ends)

pub syscall_begins : {M A : Type 0} (bus : Interface M A) (insn : Insn) (regs : Regs) (meaning : M) (account : A)
    → insn.op ≡ Two 5 → (execution_of bus (row_of insn regs) regs meaning account).answer ≡ Ok effect.Syscall
unfolding execution_of row_of action_of instruction_of action_by two_byte load_of store_of effect_of
syscall_begins bus insn regs meaning account is = subst (Answers bus insn regs meaning account effect.Syscall) (sym is) refl

-- ---- VMFUNC

two_switch : (opcode : ℕ) (is_syscall is_ud2 : Bool) → two_byte_effect is_syscall is_ud2 ≡ effect.Switch → Two opcode ≡ Vmfunc
two_switch opcode true is_ud2 ends = cc
two_switch opcode false true ends = cc
two_switch opcode false false ends = cc

op_switch : (op : Op) → op_effect op ≡ effect.Switch → op ≡ Vmfunc
op_switch (One opcode) ends = cc
op_switch (Two opcode) ends = two_switch opcode (opcode == 5) (opcode == 11) ends
op_switch Endbr ends = cc
op_switch Vmfunc ends = refl

pub switch_ends : {M A : Type 0} (bus : Interface M A) (insn : Insn) (regs : Regs) (meaning : M) (account : A) → IsValid insn
    → (execution_of bus (row_of insn regs) regs meaning account).answer ≡ Ok effect.Switch → insn.op ≡ Vmfunc
switch_ends bus insn regs meaning account valid ends =
    op_switch insn.op (op_answers bus insn regs meaning account effect.Switch valid ends)

pub switch_begins : {M A : Type 0} (bus : Interface M A) (insn : Insn) (regs : Regs) (meaning : M) (account : A)
    → insn.op ≡ Vmfunc → (execution_of bus (row_of insn regs) regs meaning account).answer ≡ Ok effect.Switch
unfolding execution_of row_of action_of instruction_of action_by load_of store_of effect_of
switch_begins bus insn regs meaning account is = subst (Answers bus insn regs meaning account effect.Switch) (sym is) refl

-- ---- UD2

two_undefined : (opcode : ℕ) (is_syscall is_ud2 : Bool) → nat_eq opcode 11 ≡ is_ud2
    → two_byte_effect is_syscall is_ud2 ≡ effect.Undefined → Two opcode ≡ Two 11
two_undefined opcode true is_ud2 test ends = cc
two_undefined opcode false true test ends = let is : opcode ≡ 11 = grind (arith, common_steps, test) in
    ap (λ number. Two number) is
two_undefined opcode false false test ends = cc

op_undefined : (op : Op) → op_effect op ≡ effect.Undefined → op ≡ Two 11
op_undefined (One opcode) ends = cc
op_undefined (Two opcode) ends = two_undefined opcode (opcode == 5) (opcode == 11) refl ends
op_undefined Endbr ends = cc
op_undefined Vmfunc ends = cc

pub undefined_ends : {M A : Type 0} (bus : Interface M A) (insn : Insn) (regs : Regs) (meaning : M) (account : A) → IsValid insn
    → (execution_of bus (row_of insn regs) regs meaning account).answer ≡ Ok effect.Undefined → insn.op ≡ Two 11
undefined_ends bus insn regs meaning account valid ends =
    op_undefined insn.op (op_answers bus insn regs meaning account effect.Undefined valid ends)

pub undefined_begins : {M A : Type 0} (bus : Interface M A) (insn : Insn) (regs : Regs) (meaning : M) (account : A)
    → insn.op ≡ Two 11 → (execution_of bus (row_of insn regs) regs meaning account).answer ≡ Ok effect.Undefined
unfolding execution_of row_of action_of instruction_of action_by two_byte load_of store_of effect_of
undefined_begins bus insn regs meaning account is = subst (Answers bus insn regs meaning account effect.Undefined) (sym is) refl
