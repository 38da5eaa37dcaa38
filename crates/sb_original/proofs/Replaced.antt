-- The law of whatever the table of forms puts in place of an instruction.
use Rattle.std.proofs.Common.{◌≡◌, ◌⊎◌, ℕ, ◌/◌, ◌%◌, Bool, true, false, List, [], ◌∷◌, length, Option, Some, None, refl, sym, ap, ◌∙◌, arith, subst, inl, inr, ℤ}
use Rattle.std.specs.Prelude.{not, ◌&&◌, ◌==◌, if◌then◌else◌, FitsSigned}
use Rattle.std.specs.Int.{w32, w64}
use Rattle.std.proofs.lemmas.Bool.{cond_both, cond-true, cond-false, and_parts, and_cases, not-false, both_ways, eqb-true}
use Rattle.sb_insn.specs.declared.insn.Insn.{Insn}
use Rattle.sb_insn.specs.declared.insn.Op.{Op}
use Rattle.sb_insn.specs.declared.insn.Op.TheVariants.{One, Two, Endbr, Vmfunc}
use Rattle.sb_insn.specs.declared.insn.Disp.{Disp}
use Rattle.sb_insn.specs.declared.insn.Disp.TheVariants as disp
use Rattle.sb_insn.specs.declared.insn.Imm.{Imm}
use Rattle.sb_insn.specs.declared.insn.Imm.TheVariants as imm
use Rattle.sb_insn.specs.declared.insn.ImmKind.TheVariants as kinds
use Rattle.sb_insn.specs.declared.registers.Regs.{Regs}
use Rattle.sb_insn.specs.declared.opcode_map.Mnemonic.{Mnemonic}
use Rattle.sb_insn.specs.declared.opcode_map.Mnemonic.TheVariants as mnemonic
use Rattle.sb_insn.specs.declared.opcode_map.OperandForm.{OperandForm}
use Rattle.sb_insn.specs.declared.opcode_map.OperandForm.TheVariants as form
use Rattle.sb_insn.specs.declared.opcode_map.Instruction.{Instruction}
use Rattle.sb_insn.specs.declared.opcode_map.ImmRule.{ImmRule}
use Rattle.sb_insn.specs.declared.opcode_map.ImmRule.TheVariants as rules
use Rattle.sb_insn.specs.declared.opcode_map.Cell.{Cell}
use Rattle.sb_insn.specs.declared.opcode_map.Cell.TheVariants.{Absent, NoModRm, ModRm, Extended}
use Rattle.sb_insn.specs.OpcodeMap.{one_byte, one_byte_rows, two_byte, two_byte_rows, cell_of}
use Rattle.sb_insn.specs.Spelling.{number, spelling}
use Rattle.sb_insn.specs.Fields.{is_register, is_wide, mod_field, is_modrm_field, is_sib_field, disp_kind_of, kind_of_disp, rule_of, imm_kind_of, kind_of_imm, rex_w, has_memory}
use Rattle.sb_insn.specs.Lookup.{instruction_in, instruction_of}
use Rattle.sb_insn.specs.Grammar.{IsValid, FitsImm}
use Rattle.sb_insn.proofs.Rows.{looked_up}
use Rattle.sb_alu.specs.declared.size.Size.{Size}
use Rattle.sb_alu.specs.declared.size.Size.TheVariants.{Doubleword, Quadword}
use Rattle.sb_alu.specs.declared.operation.Operation.{Operation}
use Rattle.sb_alu.specs.declared.operation.Operation.TheVariants as operation
use Rattle.sb_exec.specs.declared.action.Action.TheVariants.{Compute}
use Rattle.sb_exec.specs.Interface.{Interface}
use Rattle.sb_exec.specs.Operand.{next_rip}
use Rattle.sb_exec.specs.Actions.{action_by, action_for, action_of, moved_size}
use Rattle.sb_exec.specs.Row.{Row}
use Rattle.sb_exec.specs.Rows.{row_of}
use Rattle.sb_forms.specs.declared.slots.Site.{Site}
use Rattle.sb_forms.specs.Holding.{holds_pattern}
use Rattle.sb_forms.specs.Pieces.{is_sib_0f, sib_exchanged}
use Rattle.sb_forms.specs.Mains.{with_displacement}
use Rattle.sb_insn.specs.Branch.{is_distance, is_direct}
use Rattle.sb_forms.specs.Places.{HasForm}
use Rattle.sb_forms.specs.Table.{Replacement, Keep, InPlace, Moved, Unmovable, move_outcome, is_vmfunc, is_modrm, is_add_esp_edx, completes_pattern, begins_with_01_d4, begins_at_modrm, is_call, is_jump, jump_form, wide_constant_form, address_and_constant_form, address_form, constant_form, form_by, slot_form, slot_form_of, is_exchangeable, held_form, nop, add_from_rm, replacement}
use Rattle.sb_forms.proofs.Held.{none_held}
use Rattle.sb_forms.proofs.Operands.{modrm_is}
use Rattle.sb_forms.proofs.ByTable.{IsHeld}
use Rattle.sb_original.specs.Words.{Words, HasWords}
use Rattle.sb_original.specs.Alike.{is_rm_form}
use Rattle.sb_original.specs.Slot.{Slotted}
use Rattle.sb_original.specs.Original.{FromScratch, IsRegs, InPlaceLaw, SlotLaw}
use Rattle.sb_original.specs.Work.{IsMemoryWork, IsEntered, IsConstantWork, IsJumpWork, IsWideWork, IsPushWork, constant_operation, is_imm_form}
use Rattle.sb_original.specs.Immediates.{is_move_to_opcode, has_table_row}
use Rattle.sb_original.specs.Going.{passing_row, original_row, SlotGoes, Goes, IsMovable}
use Rattle.sb_original.proofs.Classes.{fits, Fits, is_plain_rm, memory_fits}
use Rattle.sb_original.proofs.Immediates.{with_four, with_eight}
use Rattle.sb_original.proofs.Constants.{moved_eight}
use Rattle.sb_original.proofs.Small.{address_small, constant_small, both_small, wide_small, displaced_small, held_memory, not_i32}
use Rattle.sb_original.proofs.Chains.{regs_same}
use Rattle.sb_original.proofs.Mains.{sib_is}
use Rattle.sb_original.proofs.FormPlain.{exchanged_law, displaced_law}
use Rattle.sb_original.proofs.FormAddress.{address_law}
use Rattle.sb_original.proofs.FormConstants.{constant_law, both_law}
use Rattle.sb_original.proofs.FormJump.{jump_law}
use Rattle.sb_original.proofs.FormProducts.{IsProductWork, product_law, product_both_law}
use Rattle.sb_original.proofs.FormPush.{push_law}
use Rattle.sb_original.proofs.FormWide.{wide_law}
use Rattle.sb_original.proofs.FormThrough.{jump_exchanged, call_exchanged}
use Rattle.sb_original.proofs.FormSmall.{add_law}
use Rattle.sb_original.proofs.FormNops.{passed, nop_does}
use Rattle.sb_original.proofs.Going.{work_is, slot_goes}
use Rattle.sb_forms.proofs.Room.{vmfunc_3}

-- ---- names and operands

is_jmp : (name : Mnemonic) → is_jump name ≡ true → name ≡ mnemonic.Jmp
is_jmp mnemonic.Jmp e = refl
is_jmp _ e = absurd cc

is_called : (name : Mnemonic) → is_call name ≡ true → name ≡ mnemonic.Call
is_called mnemonic.Call e = refl
is_called _ e = absurd cc

is_rm : (kinds : OperandForm) → is_plain_rm kinds ≡ true → kinds ≡ form.Rm
is_rm form.Rm e = refl
is_rm _ e = absurd cc

jmp_rm : (name : Mnemonic) (kinds : OperandForm) → fits name kinds ≡ true → is_jump name ≡ true → kinds ≡ form.Rm
jmp_rm mnemonic.Jmp kinds e jump = is_rm kinds e
jmp_rm _ kinds e jump = absurd cc

call_rm : (name : Mnemonic) (kinds : OperandForm) → fits name kinds ≡ true → is_call name ≡ true → kinds ≡ form.Rm
call_rm mnemonic.Call kinds e call = is_rm kinds e
call_rm _ kinds e call = absurd cc

-- a row of the last form's table: one of eight operations, a product, PUSH, or a distance
abbrev TableCase : Mnemonic → OperandForm → Type 0
TableCase name kinds =
    ((kind : Operation) × (constant_operation name ≡ Some kind) × (is_imm_form kinds ≡ true))
    ⊎ (((name ≡ mnemonic.Imul) × (kinds ≡ form.RegRmImm))
    ⊎ (((name ≡ mnemonic.Push) × (kinds ≡ form.Imm)) ⊎ (is_distance kinds ≡ true)))

table_case : (name : Mnemonic) (kinds : OperandForm) → has_table_row name kinds ≡ true → TableCase name kinds
table_case mnemonic.Add kinds e = inl (operation.Add, refl, e)
table_case mnemonic.Or kinds e = inl (operation.Or, refl, e)
table_case mnemonic.And kinds e = inl (operation.And, refl, e)
table_case mnemonic.Sub kinds e = inl (operation.Sub, refl, e)
table_case mnemonic.Xor kinds e = inl (operation.Xor, refl, e)
table_case mnemonic.Cmp kinds e = inl (operation.Compare, refl, e)
table_case mnemonic.Test kinds e = inl (operation.Test, refl, e)
table_case mnemonic.Mov kinds e = inl (operation.Move, refl, e)
table_case mnemonic.Imul form.RegRmImm e = inr (inl (refl, refl))
table_case mnemonic.Imul _ e = inr (inr (inr e))
table_case mnemonic.Push form.Imm e = inr (inr (inl (refl, refl)))
table_case mnemonic.Push _ e = inr (inr (inr e))
table_case _ kinds e = inr (inr (inr e))

imm_rm : (kinds : OperandForm) → is_imm_form kinds ≡ true → is_rm_form kinds ≡ true → kinds ≡ form.RmImm
imm_rm form.RmImm e rm = refl
imm_rm form.AccImm e rm = absurd cc
imm_rm form.OpcodeImm e rm = absurd cc
imm_rm _ e rm = absurd cc

eight_rm : (name : Mnemonic) (kinds : OperandForm) (kind : Operation) → constant_operation name ≡ Some kind
    → fits name kinds ≡ true → is_rm_form kinds ≡ true
eight_rm mnemonic.Add kinds kind is e = e
eight_rm mnemonic.Or kinds kind is e = e
eight_rm mnemonic.And kinds kind is e = e
eight_rm mnemonic.Sub kinds kind is e = e
eight_rm mnemonic.Xor kinds kind is e = e
eight_rm mnemonic.Cmp kinds kind is e = e
eight_rm mnemonic.Test kinds kind is e = e
eight_rm mnemonic.Mov kinds kind is e = e
eight_rm _ kinds kind is e = absurd cc

move_name : (name : Mnemonic) (kinds : OperandForm) → is_move_to_opcode name kinds ≡ true
    → (name ≡ mnemonic.Mov) × (kinds ≡ form.OpcodeImm)
move_name mnemonic.Mov form.OpcodeImm e = (refl, refl)
move_name mnemonic.Mov _ e = absurd cc
move_name _ kinds e = absurd cc

-- an immediate of four bytes behind 0F is that of no jump or call with a memory operand
no_through : (name : Mnemonic) (kinds : OperandForm) → has_table_row name kinds ≡ true → fits name kinds ≡ true
    → (is_call name ≡ false) × (is_jump name ≡ false)
no_through mnemonic.Jmp form.Rm e f = absurd cc
no_through mnemonic.Jmp form.Relative e f = absurd cc
no_through mnemonic.Jmp _ e f = absurd cc
no_through mnemonic.Call form.Rm e f = absurd cc
no_through mnemonic.Call form.Relative e f = absurd cc
no_through mnemonic.Call _ e f = absurd cc
no_through _ kinds e f = (refl, refl)

-- ---- RmImm has a ModRM byte

abbrev is_rm_imm : OperandForm → Bool
is_rm_imm form.RmImm = true
is_rm_imm form.RegRmImm = true
is_rm_imm _ = false

abbrev none_alone : Cell → Bool
none_alone (NoModRm plain) = not (is_rm_imm plain.instruction.form)
none_alone _ = true

one_none : (opcode : ℕ) → none_alone (one_byte opcode) ≡ true
unfolding one_byte
one_none opcode = looked_up (λ cell. none_alone cell) opcode one_byte_rows refl refl

two_none : (opcode : ℕ) → none_alone (two_byte opcode) ≡ true
unfolding two_byte
two_none opcode = looked_up (λ cell. none_alone cell) opcode two_byte_rows refl refl

op_none : (op : Op) → none_alone (cell_of op) ≡ true
op_none (One opcode) = one_none opcode
op_none (Two opcode) = two_none opcode
op_none Endbr = refl
op_none Vmfunc = refl

plain_not : (one instruction : Instruction) → not (is_rm_imm one.form) ≡ true → Some one ≡ Some instruction
    → is_rm_imm instruction.form ≡ true → ⊥
plain_not one instruction e is rm =
    let same : one ≡ instruction = cc in
    both_ways (not (is_rm_imm one.form)) (ap (λ (i : Instruction). not (is_rm_imm i.form)) same ∙ ap (λ t. not t) rm) e

register_in : (cell : Cell) (lock : Bool) (rex modrm : Option ℕ) (instruction : Instruction) → none_alone cell ≡ true
    → is_modrm_field cell lock rex modrm ≡ true → instruction_in cell modrm ≡ Some instruction
    → is_rm_imm instruction.form ≡ true
    → has_memory modrm ≡ false → (byte : ℕ) × (modrm ≡ Some byte) × (mod_field byte ≡ 3)
register_in cell lock rex (Some byte) instruction e stands is rm alone =
    (byte, refl, eqb-true (mod_field byte) 3 (not_false (is_register byte) alone))
  where
    not_false : (b : Bool) → not b ≡ false → b ≡ true
    not_false true e = refl
    not_false false e = absurd cc
register_in Absent lock rex None instruction e stands is rm alone = absurd cc
register_in (NoModRm plain) lock rex None instruction e stands is rm alone =
    absurd (plain_not plain.instruction instruction e is rm)
register_in (ModRm operand) lock rex None instruction e stands is rm alone = absurd cc
register_in (Extended group kinds immediate) lock rex None instruction e stands is rm alone = absurd cc

names_register : (insn : Insn) (instruction : Instruction) → IsValid insn → instruction_of insn ≡ Some instruction
    → has_memory insn.modrm ≡ false → is_rm_imm instruction.form ≡ true
    → (byte : ℕ) × (insn.modrm ≡ Some byte) × (mod_field byte ≡ 3)
unfolding instruction_of
names_register insn instruction valid is alone rm =
    register_in (cell_of insn.op) insn.lock insn.rex insn.modrm instruction (op_none insn.op) valid.modrm is rm alone

-- ---- an immediate of eight bytes means REX.W

wide_rule : (rule : ImmRule) (rex : Option ℕ) (value : ℤ) → kind_of_imm (imm.I64 value) ≡ imm_kind_of rule rex
    → is_wide rex ≡ true
wide_rule rules.None rex value k = absurd cc
wide_rule rules.I8 rex value k = absurd cc
wide_rule rules.I32 rex value k = absurd cc
wide_rule rules.Wide rex value k = wide_kind (is_wide rex) k
  where
    wide_kind : (b : Bool) → kinds.I64 ≡ (if b then kinds.I64 else kinds.I32) → b ≡ true
    wide_kind true k = refl
    wide_kind false k = absurd cc

wide_size : (rex : Option ℕ) → is_wide rex ≡ true → (if rex_w rex == 1 then Quadword else Doubleword) ≡ Quadword
wide_size None e = absurd cc
wide_size (Some rex) e = cond-true (rex / 8 % 2 == 1) Quadword Doubleword e

wide_action : (insn : Insn) (instruction : Instruction) (value : ℤ) → IsValid insn → instruction_of insn ≡ Some instruction
    → insn.imm ≡ imm.I64 value → instruction.mnemonic ≡ mnemonic.Mov → instruction.form ≡ form.OpcodeImm
    → action_of insn ≡ Compute operation.Move form.OpcodeImm Quadword
unfolding action_of action_by
wide_action insn instruction value valid is has name kinds =
    let wide = wide_rule (rule_of (cell_of insn.op) insn.modrm) insn.rex value (sym (ap (λ i. kind_of_imm i) has) ∙ valid.imm) in
    ap (λ found. action_for found insn) is
    ∙ ap (λ (n : Mnemonic). action_by n instruction.form insn) name
    ∙ ap (λ (k : OperandForm). Compute operation.Move k (moved_size insn)) kinds
    ∙ ap (λ (s : Size). Compute operation.Move form.OpcodeImm s) (moved_eight insn value valid has ∙ wide_size insn.rex wide)

-- ---- a distance holds no pattern

no_distance : (insn : Insn) (instruction : Instruction) → HasForm insn → holds_pattern (spelling insn) ≡ true
    → instruction_of insn ≡ Some instruction → is_distance instruction.form ≡ true → ⊥
no_distance insn instruction has held is far =
    both_ways (holds_pattern (spelling insn)) (none_held (spelling insn) (has (direct insn instruction is far))) held
  where
    direct : (insn : Insn) (instruction : Instruction) → instruction_of insn ≡ Some instruction
        → is_distance instruction.form ≡ true → is_direct insn ≡ true
    direct insn instruction is far = rw is far

-- ---- from a slot's law

-- the row of the original code
own_row : (insn : Insn) (regs : Regs) → is_vmfunc insn.op ≡ false → row_of insn regs ≡ original_row insn regs
own_row insn regs other = sym (cond-false (is_vmfunc insn.op) (passing_row insn regs) (row_of insn regs) other)

go : {M A N : Type 0} (bus : Interface M A) (Holds : Words → M → N
    → Type 0) (insn : Insn) (start : ℕ) (pre : List Insn) (main : Insn) (post : List Insn) (state : Slotted)
    → is_vmfunc insn.op ≡ false
    → SlotLaw bus Holds insn start pre main post state → Goes bus Holds insn start state (Moved pre main post)
go bus Holds insn start pre main post state other law =
    subst (λ (row : Row). SlotGoes bus Holds row start pre main post state)
    (own_row insn (record (state.regs) { rip = start }) other) (slot_goes bus Holds insn start pre main post state law)

go_in_place : {M A N : Type 0} (bus : Interface M A) (Holds : Words → M → N
    → Type 0) (insn main : Insn) (start : ℕ) (state : Slotted)
    → is_vmfunc insn.op ≡ false
    → InPlaceLaw (row_of insn (record (state.regs) { rip = start })) main (record (state.regs) { rip = start })
    → Goes bus Holds insn start state (InPlace (main ∷ []))
go_in_place bus Holds insn main start state other law =
    subst (λ (row : Row). InPlaceLaw row main (record (state.regs) { rip = start }))
    (own_row insn (record (state.regs) { rip = start }) other) law

-- ---- VMFUNC

abbrev VmfuncFields : Bool → Option ℕ → Option ℕ → Option ℕ → Disp → Imm → Op → Type 0
VmfuncFields lock rex modrm sib displacement immediate op =
    is_modrm_field (cell_of op) lock rex modrm ≡ true → is_sib_field modrm sib ≡ true
    → kind_of_disp displacement ≡ disp_kind_of modrm sib
    → kind_of_imm immediate ≡ imm_kind_of (rule_of (cell_of op) modrm) rex
    → length
    (spelling
    (let i : Insn = record {
      lock = lock;
      rex = rex;
      op = op;
      modrm = modrm;
      sib = sib;
      disp = displacement;
      imm = immediate;
    } in i)) ≡ 3

vmfunc_fields : (lock : Bool) (rex modrm sib : Option ℕ) (displacement : Disp) (immediate : Imm)
    → VmfuncFields lock rex modrm sib displacement immediate Vmfunc
vmfunc_fields true rex None sib displacement immediate e s d i = absurd cc
vmfunc_fields false (Some rex) None sib displacement immediate e s d i = absurd cc
vmfunc_fields lock rex (Some modrm) sib displacement immediate e s d i = absurd cc
vmfunc_fields false None None (Some sib) displacement immediate e s d i = absurd cc
vmfunc_fields false None None None (disp.D8 value) immediate e s d i = absurd cc
vmfunc_fields false None None None (disp.D32 value) immediate e s d i = absurd cc
vmfunc_fields false None None None disp.None (imm.I8 value) e s d i = absurd cc
vmfunc_fields false None None None disp.None (imm.I32 value) e s d i = absurd cc
vmfunc_fields false None None None disp.None (imm.I64 value) e s d i = absurd cc
vmfunc_fields false None None None disp.None imm.None e s d i = refl

vmfunc_op : (op : Op) → is_vmfunc op ≡ true → op ≡ Vmfunc
vmfunc_op Vmfunc e = refl
vmfunc_op _ e = absurd cc

passes : {M A N : Type 0} (bus : Interface M A) (Holds : Words → M → N → Type 0) (insn : Insn) (start : ℕ) (state : Slotted)
    → IsValid insn → is_vmfunc insn.op ≡ true → Goes bus Holds insn start state (InPlace (nop ∷ nop ∷ nop ∷ []))
passes bus Holds insn start state valid e =
    let old : Regs = record (state.regs) { rip = start } in
    let at : Slotted = record { regs = old; words = state.words } in
    let one = passed at in
    let two = passed one in
    let three = passed two in
    let length_3 = vmfunc_3 insn valid e in
    let rip : three.regs.rip ≡ next_rip insn old = omega (arith, length_3) in
    let from : FromScratch bus Holds (passing_row insn old) nop (nop ∷ nop ∷ []) at = record {
      load = refl;
      store = refl;
      effect = refl;
      after = one;
      does = nop_does bus Holds at;
      goes = refl;
      behind = (
        two,
        nop_does bus Holds one,
        refl,
        (three, nop_does bus Holds two, tt, regs_same three.regs ((passing_row insn old).after 0).regs refl rip refl),
      );
    } in
    let law : SlotGoes bus Holds (passing_row insn old) start [] nop (nop ∷ nop ∷ []) at =
    record { ahead = refl; work = work_is bus Holds (passing_row insn old) nop (nop ∷ nop ∷ []) at (inr from) } in
    subst (λ (row : Row). SlotGoes bus Holds row start [] nop (nop ∷ nop ∷ []) at)
    (sym (cond-true (is_vmfunc insn.op) (passing_row insn old) (row_of insn old) e)) law

-- ---- instructions that hold the pattern

-- what is known of the instruction and of the thread that enters its slot
record IsAsked {M A N : Type 0} (bus : Interface M A) (Holds : Words → M → N
    → Type 0) (insn : Insn) (site : Site) (start : ℕ) (state : Slotted) : Type 0 where
  words : HasWords bus Holds
  held : IsHeld insn
  form : HasForm insn
  entered : IsEntered insn site start state

memory_named : (insn : Insn) (instruction : Instruction) → IsValid insn → has_memory insn.modrm ≡ true
    → instruction_of insn ≡ Some instruction → fits instruction.mnemonic instruction.form ≡ true
memory_named insn instruction valid memory is =
    let found = memory_fits insn valid memory in
    let same : found.0 ≡ instruction = same_some found.0 (instruction_of insn) found.1 is in
    subst (λ (i : Instruction). fits i.mnemonic i.form ≡ true) same found.2
  where
    same_some : (one : Instruction) (found : Option Instruction) → found ≡ Some one → found ≡ Some instruction → one ≡ instruction
    same_some one found a b = cc

fits_32 : (immediate : Imm) (value : ℤ) → immediate ≡ imm.I32 value → FitsImm immediate → FitsSigned w32 value
fits_32 immediate value is fit = subst (λ i. FitsImm i) is fit

fits_64 : (immediate : Imm) (value : ℤ) → immediate ≡ imm.I64 value → FitsImm immediate → FitsSigned w64 value
fits_64 immediate value is fit = subst (λ i. FitsImm i) is fit

no_and : (a b : Bool) → a ≡ true → (a && b) ≡ false → b ≡ false
no_and a b stands none = elim (and_cases a b none) [
  | inl first ↦ absurd (both_ways a first stands)
  | inr second ↦ second
]

address_goes : {M A N : Type 0} (bus : Interface M A) (Holds : Words → M → N
    → Type 0) (insn : Insn) (instruction : Instruction) (site : Site) (start : ℕ) (state : Slotted)
    → IsAsked bus Holds insn site start state → instruction_of insn ≡ Some instruction
    → has_memory insn.modrm ≡ true → is_call instruction.mnemonic ≡ false → is_jump instruction.mnemonic ≡ false
    → Goes bus Holds insn start state (address_form instruction insn site)
unfolding address_form
address_goes bus Holds insn instruction site start state asked is memory call jump =
    let work : IsMemoryWork insn instruction =
    record { valid = asked.held.valid; memory = memory; named = is; no_call = call; no_jump = jump } in
    go bus Holds insn start _ _ _ state asked.held.other
    (address_law bus Holds insn instruction site start state asked.words work asked.entered
    (address_small instruction insn site asked.held.valid memory))

both_goes : {M A N : Type 0} (bus : Interface M A) (Holds : Words → M → N
    → Type 0) (insn : Insn) (instruction : Instruction) (value : ℤ) (site : Site) (start : ℕ) (state : Slotted)
    → IsAsked bus Holds insn site start state → instruction_of insn ≡ Some instruction
    → insn.imm ≡ imm.I32 value → has_memory insn.modrm ≡ true
    → Goes bus Holds insn start state (address_and_constant_form instruction insn site value)
unfolding address_and_constant_form
both_goes bus Holds insn instruction value site start state asked is has memory =
    let valid = asked.held.valid in
    let fit = memory_named insn instruction valid memory is in
    elim (table_case instruction.mnemonic instruction.form (with_four insn instruction value valid is has)) [
      | inl eight ↦
          let rm = imm_rm instruction.form eight.2 (eight_rm instruction.mnemonic instruction.form eight.0 eight.1 fit) in
          let work : IsConstantWork insn instruction eight.0 value =
          record { valid = valid; named = is; imm = has; operation = eight.1; form = eight.2 } in
          go bus Holds insn start _ _ _ state asked.held.other
          (both_law bus Holds insn instruction eight.0 value site start state asked.words work
          (fits_32 insn.imm value has valid.imm_fits) rm memory asked.entered
          (both_small instruction insn site value valid is))
      | inr other ↦ elim other [
        | inl product ↦
            let work : IsProductWork insn instruction value =
            record { valid = valid; named = is; imm = has; product = product.0; form = product.1 } in
            go bus Holds insn start _ _ _ state asked.held.other
            (product_both_law bus Holds insn instruction value site start state asked.words work
            (fits_32 insn.imm value has valid.imm_fits) memory asked.entered
            (both_small instruction insn site value valid is))
        | inr last ↦ elim last [
          | inl push ↦ absurd
              (both_ways (fits instruction.mnemonic instruction.form) (ap (λ (n : Mnemonic). fits n instruction.form) push.0
              ∙ ap (λ (k : OperandForm). is_rm_form k) push.1) fit)
          | inr far ↦ absurd (no_distance insn instruction asked.form asked.held.held is far)
        ]
      ]
    ]

constant_goes : {M A N : Type 0} (bus : Interface M A) (Holds : Words → M → N
    → Type 0) (insn : Insn) (instruction : Instruction) (value : ℤ) (site : Site) (start : ℕ) (state : Slotted)
    → IsAsked bus Holds insn site start state → instruction_of insn ≡ Some instruction
    → insn.imm ≡ imm.I32 value → has_memory insn.modrm ≡ false
    → Goes bus Holds insn start state (constant_form instruction insn site value)
unfolding constant_form
constant_goes bus Holds insn instruction value site start state asked is has alone =
    let valid = asked.held.valid in
    let fit = fits_32 insn.imm value has valid.imm_fits in
    elim (table_case instruction.mnemonic instruction.form (with_four insn instruction value valid is has)) [
      | inl eight ↦
          let work : IsConstantWork insn instruction eight.0 value =
          record { valid = valid; named = is; imm = has; operation = eight.1; form = eight.2 } in
          go bus Holds insn start _ _ _ state asked.held.other
          (constant_law bus Holds insn instruction eight.0 value site start state asked.words work fit
          (λ rm. names_register insn instruction valid is alone (ap (λ k. is_rm_imm k) rm)) asked.entered
          (constant_small instruction insn site value))
      | inr other ↦ elim other [
        | inl product ↦
            let work : IsProductWork insn instruction value =
            record { valid = valid; named = is; imm = has; product = product.0; form = product.1 } in
            go bus Holds insn start _ _ _ state asked.held.other
            (product_law bus Holds insn instruction value site start state asked.words work fit
            (names_register insn instruction valid is alone (ap (λ k. is_rm_imm k) product.1)) asked.entered
            (constant_small instruction insn site value))
        | inr last ↦ elim last [
          | inl push ↦
              let work : IsPushWork insn instruction value =
              record { valid = valid; named = is; imm = has; push = push.0; form = push.1 } in
              go bus Holds insn start _ _ _ state asked.held.other
              (push_law bus Holds insn instruction value site start state asked.words work fit asked.entered
              (constant_small instruction insn site value))
          | inr far ↦ absurd (no_distance insn instruction asked.form asked.held.held is far)
        ]
      ]
    ]

wide_goes : {M A N : Type 0} (bus : Interface M A) (Holds : Words → M → N
    → Type 0) (insn : Insn) (instruction : Instruction) (value : ℤ) (site : Site) (start : ℕ) (state : Slotted)
    → IsAsked bus Holds insn site start state → instruction_of insn ≡ Some instruction
    → insn.imm ≡ imm.I64 value → Goes bus Holds insn start state (wide_constant_form instruction insn site value)
unfolding wide_constant_form
wide_goes bus Holds insn instruction value site start state asked is has =
    let valid = asked.held.valid in
    let move = move_name instruction.mnemonic instruction.form (with_eight insn instruction value valid is has) in
    let work : IsWideWork insn instruction value = record {
      valid = valid;
      named = is;
      imm = has;
      fits = fits_64 insn.imm value has valid.imm_fits;
      move = move.0;
      action = wide_action insn instruction value valid is has move.0 move.1;
      form = move.1;
    } in
    go bus Holds insn start _ _ _ state asked.held.other
    (wide_law bus Holds insn instruction value site start state asked.words work asked.entered
    (wide_small instruction insn site value))

jump_goes : {M A N : Type 0} (bus : Interface M A) (Holds : Words → M → N
    → Type 0) (insn : Insn) (instruction : Instruction) (site : Site) (start : ℕ) (state : Slotted)
    → IsAsked bus Holds insn site start state → instruction_of insn ≡ Some instruction
    → has_memory insn.modrm ≡ true → is_jump instruction.mnemonic ≡ true
    → Goes bus Holds insn start state (jump_form instruction insn site)
unfolding jump_form
jump_goes bus Holds insn instruction site start state asked is memory jump =
    let valid = asked.held.valid in
    let work : IsJumpWork insn instruction = record {
      valid = valid;
      memory = memory;
      named = is;
      jump = is_jmp instruction.mnemonic jump;
      form = jmp_rm instruction.mnemonic instruction.form (memory_named insn instruction valid memory is) jump;
    } in
    go bus Holds insn start _ _ _ state asked.held.other
    (jump_law bus Holds insn instruction site start state asked.words work asked.entered)

by_goes : {M A N : Type 0} (bus : Interface M A) (Holds : Words → M → N
    → Type 0) (insn : Insn) (instruction : Instruction) (site : Site) (start : ℕ) (state : Slotted) (immediate : Imm)
    → IsAsked bus Holds insn site start state → instruction_of insn ≡ Some instruction
    → insn.imm ≡ immediate → (has_memory insn.modrm && is_call instruction.mnemonic) ≡ false
    → (has_memory insn.modrm && is_jump instruction.mnemonic) ≡ false
    → Goes bus Holds insn start state (form_by instruction insn site immediate)
by_goes bus Holds insn instruction site start state (imm.I64 value) asked is has call jump =
    wide_goes bus Holds insn instruction value site start state asked is has
by_goes bus Holds insn instruction site start state (imm.I32 value) asked is has call jump =
    cond_both (has_memory insn.modrm)
    (if holds_pattern (number w32 value) then address_and_constant_form instruction insn site value else address_form
    instruction insn site) (constant_form instruction insn site value) (λ form. Goes bus Holds insn start state form)
    (λ stands. cond_both (holds_pattern (number w32 value)) (address_and_constant_form instruction insn site value)
    (address_form instruction insn site) (λ form. Goes bus Holds insn start state form)
    (λ _. both_goes bus Holds insn instruction value site start state asked is has stands)
    (λ _. address_goes bus Holds insn instruction site start state asked is stands
    (no_and (has_memory insn.modrm) (is_call instruction.mnemonic) stands call)
    (no_and (has_memory insn.modrm) (is_jump instruction.mnemonic) stands jump)))
    (λ alone. constant_goes bus Holds insn instruction value site start state asked is has alone)
by_goes bus Holds insn instruction site start state imm.None asked is has call jump =
    let stands = held_memory insn asked.held (ap (λ i. not_i32 i) has) in
    address_goes bus Holds insn instruction site start state asked is stands
    (no_and (has_memory insn.modrm) (is_call instruction.mnemonic) stands call)
    (no_and (has_memory insn.modrm) (is_jump instruction.mnemonic) stands jump)
by_goes bus Holds insn instruction site start state (imm.I8 value) asked is has call jump =
    let stands = held_memory insn asked.held (ap (λ i. not_i32 i) has) in
    address_goes bus Holds insn instruction site start state asked is stands
    (no_and (has_memory insn.modrm) (is_call instruction.mnemonic) stands call)
    (no_and (has_memory insn.modrm) (is_jump instruction.mnemonic) stands jump)

-- where something can stand in its place, it goes
abbrev MovesOn : {M A N : Type 0} → Interface M A → (Words → M → N → Type 0) → Insn → ℕ → Slotted → Replacement → Type 0
MovesOn bus Holds insn start state form = IsMovable form → Goes bus Holds insn start state form

of_goes : {M A N : Type 0} (bus : Interface M A) (Holds : Words → M → N
    → Type 0) (found : Option Instruction) (insn : Insn) (site : Site) (start : ℕ) (state : Slotted)
    → IsAsked bus Holds insn site start state → instruction_of insn ≡ found
    → MovesOn bus Holds insn start state (slot_form_of found insn site)
unfolding slot_form
of_goes bus Holds None insn site start state asked is = λ none. none
of_goes bus Holds (Some instruction) insn site start state asked is =
    let behind = form_by instruction insn site insn.imm in
    let through = jump_form instruction insn site in
    cond_both (has_memory insn.modrm && is_call instruction.mnemonic) Unmovable
    (if has_memory insn.modrm && is_jump instruction.mnemonic then through else behind)
    (λ form. MovesOn bus Holds insn start state form)
    (λ _ none. none)
    (λ call. cond_both (has_memory insn.modrm && is_jump instruction.mnemonic) through behind
    (λ form. MovesOn bus Holds insn start state form)
    (λ jump _. let parts = and_parts (has_memory insn.modrm) (is_jump instruction.mnemonic) jump in
    jump_goes bus Holds insn instruction site start state asked is parts.0 parts.1)
    (λ jump _. by_goes bus Holds insn instruction site start state insn.imm asked is refl call jump))

-- ModRM 0F with an immediate of four bytes behind it
displaced_goes : {M A N : Type 0} (bus : Interface M A) (Holds : Words → M → N
    → Type 0) (insn : Insn) (site : Site) (start : ℕ) (state : Slotted)
    → IsAsked bus Holds insn site start state → begins_at_modrm insn ≡ true
    → Goes bus Holds insn start state (move_outcome site [] (with_displacement insn) [])
displaced_goes bus Holds insn site start state asked e =
    let valid = asked.held.valid in
    let parts = and_parts (is_modrm 0x0F insn.modrm) (begins_with_01_d4 insn.imm) e in
    let memory : has_memory insn.modrm ≡ true = ap (λ m. has_memory m) (modrm_is 0x0F insn.modrm parts.0) in
    let found = memory_fits insn valid memory in
    let value = four_is insn.imm parts.1 in
    let none = no_through (found.0).mnemonic (found.0).form (with_four insn found.0 value.0 valid found.1 value.1) found.2 in
    let work : IsMemoryWork insn found.0 =
    record { valid = valid; memory = memory; named = found.1; no_call = none.0; no_jump = none.1 } in
    go bus Holds insn start _ _ _ state asked.held.other
    (displaced_law bus Holds insn found.0 site start state work parts.0 asked.entered (displaced_small insn site valid e))
  where
    four_is : (immediate : Imm) → begins_with_01_d4 immediate ≡ true → (value : ℤ) × (immediate ≡ imm.I32 value)
    four_is (imm.I32 value) e = (value, refl)
    four_is imm.None e = absurd cc
    four_is (imm.I8 value) e = absurd cc
    four_is (imm.I64 value) e = absurd cc

exchanged_goes : {M A N : Type 0} (bus : Interface M A) (Holds : Words → M → N
    → Type 0) (insn : Insn) (start : ℕ) (state : Slotted)
    → IsValid insn → is_vmfunc insn.op ≡ false → is_sib_0f insn.sib ≡ true → IsRegs state.regs
    → Goes bus Holds insn start state (InPlace (sib_exchanged insn ∷ []))
exchanged_goes bus Holds insn start state valid other sib regs =
    let old : Regs = record (state.regs) { rip = start } in
    let known = sib_is insn.modrm insn.sib sib valid.sib in
    let found = memory_fits insn valid known.2 in
    go_in_place bus Holds insn (sib_exchanged insn) start state other
    (subst (λ (claim : Bool). is_call (found.0).mnemonic ≡ claim → InPlaceLaw (row_of insn old) (sib_exchanged insn) old) refl
    (λ same. by_call (is_call (found.0).mnemonic) (is_jump (found.0).mnemonic) known.2 found refl refl) refl)
  where
    by_call : (call jump : Bool) → has_memory insn.modrm ≡ true → (found : Fits (instruction_of insn))
        → is_call (found.0).mnemonic ≡ call → is_jump (found.0).mnemonic ≡ jump
        → InPlaceLaw (row_of insn (record (state.regs) { rip = start })) (sib_exchanged insn)
        (record (state.regs) { rip = start })
    by_call true jump memory found c j =
        call_exchanged insn found.0 (record (state.regs) { rip = start })
        (record {
          valid = valid;
          memory = memory;
          named = found.1;
          call = is_called (found.0).mnemonic c;
          form = call_rm (found.0).mnemonic (found.0).form found.2 c;
        }) sib regs.count
    by_call false true memory found c j =
        jump_exchanged insn found.0 (record (state.regs) { rip = start })
        (record {
          valid = valid;
          memory = memory;
          named = found.1;
          jump = is_jmp (found.0).mnemonic j;
          form = jmp_rm (found.0).mnemonic (found.0).form found.2 j;
        }) sib regs.count
    by_call false false memory found c j =
        exchanged_law_of found.0 (record { valid = valid; memory = memory; named = found.1; no_call = c; no_jump = j })
      where
        exchanged_law_of : (instruction : Instruction) → IsMemoryWork insn instruction
            → InPlaceLaw (row_of insn (record (state.regs) { rip = start })) (sib_exchanged insn)
            (record (state.regs) { rip = start })
        exchanged_law_of instruction work = exchanged_law bus Holds insn instruction start state work sib regs

held_goes : {M A N : Type 0} (bus : Interface M A) (Holds : Words → M → N
    → Type 0) (insn : Insn) (site : Site) (start : ℕ) (state : Slotted)
    → IsAsked bus Holds insn site start state → MovesOn bus Holds insn start state (held_form insn site)
unfolding held_form
held_goes bus Holds insn site start state asked =
    let displaced = move_outcome site [] (with_displacement insn) [] in
    let behind = slot_form_of (instruction_of insn) insn site in
    cond_both (is_exchangeable insn) (InPlace (sib_exchanged insn ∷ [])) (if begins_at_modrm insn then displaced else behind)
    (λ form. MovesOn bus Holds insn start state form)
    (λ e _. exchanged_goes bus Holds insn start state asked.held.valid asked.held.other
    (and_parts (is_sib_0f insn.sib) (not (holds_pattern (spelling (sib_exchanged insn)))) e).0 asked.entered.regs)
    (λ _. cond_both (begins_at_modrm insn) displaced behind (λ form. MovesOn bus Holds insn start state form)
    (λ e _. displaced_goes bus Holds insn site start state asked e)
    (λ _. of_goes bus Holds (instruction_of insn) insn site start state asked refl))

pub all_go : {M A N : Type 0} (bus : Interface M A) (Holds : Words → M → N → Type 0) → HasWords bus Holds
    → (insn : Insn) (site : Site) (after_0f : Bool) (start : ℕ) (state : Slotted) → IsValid insn → HasForm insn
    → IsEntered insn site start state → IsMovable (replacement insn site after_0f)
    → Goes bus Holds insn start state (replacement insn site after_0f)
unfolding replacement
all_go bus Holds has insn site after_0f start state valid forms entered =
    let held = held_form insn site in
    let kept = if not (holds_pattern (spelling insn)) then Keep else held in
    let added = if completes_pattern insn after_0f then InPlace (add_from_rm ∷ []) else kept in
    cond_both (is_vmfunc insn.op) (InPlace (nop ∷ nop ∷ nop ∷ [])) added (λ form. MovesOn bus Holds insn start state form)
    (λ e _. passes bus Holds insn start state valid e)
    (λ other. cond_both (completes_pattern insn after_0f) (InPlace (add_from_rm ∷ [])) kept
    (λ form. MovesOn bus Holds insn start state form)
    (λ e _. go_in_place bus Holds insn add_from_rm start state other
    (add_law insn (record (state.regs) { rip = start }) valid (and_parts (is_add_esp_edx insn) after_0f e).0))
    (λ _. cond_both (not (holds_pattern (spelling insn))) Keep held (λ form. MovesOn bus Holds insn start state form)
    (λ _ _. other)
    (λ some. held_goes bus Holds insn site start state
    (record {
      words = has;
      held = record { valid = valid; other = other; held = not-false (holds_pattern (spelling insn)) some };
      form = forms;
      entered = entered;
    }))))
