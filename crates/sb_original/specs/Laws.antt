-- The laws, as statements.
use Rattle.std.specs.Prelude.{◌≡◌, ℕ, ◌+◌, ◌%◌, ◌^◌, ◌<◌, Bool, true, List, [], ◌∷◌, Some, FitsSigned, ℤ, ◌⊎◌, length}
use Rattle.std.specs.Int.{w32}
use Rattle.sb_insn.specs.declared.insn.Insn.{Insn}
use Rattle.sb_insn.specs.declared.registers.Regs.{Regs}
use Rattle.sb_insn.specs.declared.opcode_map.OperandForm.TheVariants as form
use Rattle.sb_insn.specs.declared.opcode_map.Instruction.{Instruction}
use Rattle.sb_insn.specs.Fields.{mod_field, has_memory}
use Rattle.sb_insn.specs.Grammar.{IsValid}
use Rattle.sb_bus.specs.declared.stop.BusStop.{BusStop}
use Rattle.sb_alu.specs.declared.operation.Operation.{Operation}
use Rattle.sb_exec.specs.Interface.{Interface}
use Rattle.sb_exec.specs.Row.{Row}
use Rattle.sb_exec.specs.Rows.{row_of}
use Rattle.sb_exec.specs.Execution.{execution_of}
use Rattle.sb_forms.specs.declared.helper.Helper.{Helper}
use Rattle.sb_forms.specs.declared.slots.Site.{Site}
use Rattle.sb_forms.specs.Pieces.{is_sib_0f, sib_exchanged, save, restore, load_number, add_number, save_half, scratch_word, upper_half, jump_insn, jump_through}
use Rattle.sb_forms.specs.Mains.{with_displacement}
use Rattle.sb_forms.specs.Table.{nop, InPlace, move_outcome, bytes_of, is_modrm, is_add_esp_edx, add_from_rm, replacement, jump_form, wide_constant_form, address_form, constant_form, address_and_constant_form}
use Rattle.sb_forms.specs.Answers.{IsSmall}
use Rattle.sb_forms.specs.Places.{HasForm}
use Rattle.sb_original.specs.Words.{ScratchWord, Words, HasWords}
use Rattle.sb_original.specs.Slot.{Slotted, Does, address_of, saved, restored, number_loaded, number_added, low_saved, high_saved, jumped}
use Rattle.sb_original.specs.Original.{Behind, IsRegs, SameAccesses, InPlaceLaw, FormLaw}
use Rattle.sb_original.specs.Going.{Left, original_behind, Goes, IsMovable}
use Rattle.sb_original.specs.Work.{IsMemoryWork, IsEntered, IsConstantWork, IsJumpWork, IsWideWork, IsPushWork, IsCallWork}
use Rattle.sb_exec.specs.Simulation.{IsRowAt}
use Rattle.sb_original.specs.Beside.{AreBeside, IsStopped, MainStep}

-- ---- pieces

-- each piece does what it is to do
pub record Pieces {M A N : Type 0} (bus : Interface M A) (Holds : Words → M → N → Type 0) : Type 0 where
  pub save : (helper : Helper) (which : ScratchWord) (state : Slotted)
      → Does bus Holds (save helper (address_of which)) state (saved helper which state)
  pub restore : (helper : Helper) (which : ScratchWord) (state : Slotted)
      → Does bus Holds (restore helper (address_of which)) state (restored helper which state)
  pub number : (helper : Helper) (value : ℤ) (state : Slotted)
      → Does bus Holds (load_number helper value) state (number_loaded helper value state)
  pub sum : (helper : Helper) (amount : ℤ) (state : Slotted)
      → Does bus Holds (add_number helper amount) state (number_added helper amount state)
  pub lower : (helper : Helper) (state : Slotted) → Does bus Holds (save_half helper scratch_word) state (low_saved helper state)
  pub upper : (helper : Helper) (state : Slotted) → Does bus Holds (save_half helper upper_half) state (high_saved helper state)
  pub jump : (from to : ℕ) (state : Slotted) → state.regs.rip ≡ from → from + 5 < 2 ^ 63 → to < 2 ^ 63
      → Does bus Holds (jump_insn from to) state (jumped to state)
  pub through : (state : Slotted) → Does bus Holds (jump_through scratch_word) state (jumped (state.words.third % 2 ^ 64) state)

abbrev pub PiecesDo : {M A N : Type 0} → Interface M A → (Words → M → N → Type 0) → Type 0
PiecesDo bus Holds = HasWords bus Holds → Pieces bus Holds

-- ---- forms

-- base and index exchanged, in place
abbrev pub Exchanged : {M A N : Type 0} → Interface M A → (Words → M → N → Type 0) → Type 0
Exchanged bus Holds =
    (insn : Insn) (instruction : Instruction) (start : ℕ) (state : Slotted) → IsMemoryWork insn instruction
    → is_sib_0f insn.sib ≡ true → IsRegs state.regs
    → FormLaw bus Holds insn start state (InPlace (sib_exchanged insn ∷ []))

-- a displacement behind ModRM 0F
abbrev pub Displaced : {M A N : Type 0} → Interface M A → (Words → M → N → Type 0) → Type 0
Displaced bus Holds =
    (insn : Insn) (instruction : Instruction) (site : Site) (start : ℕ) (state : Slotted) → IsMemoryWork insn instruction
    → is_modrm 0x0F insn.modrm ≡ true
    → IsEntered insn site start state → IsSmall (bytes_of (move_outcome site [] (with_displacement insn) []))
    → FormLaw bus Holds insn start state (move_outcome site [] (with_displacement insn) [])

-- the operand's address in a helper
abbrev pub Addressed : {M A N : Type 0} → Interface M A → (Words → M → N → Type 0) → Type 0
Addressed bus Holds =
    HasWords bus Holds → (insn : Insn) (instruction : Instruction) (site : Site) (start : ℕ) (state : Slotted)
    → IsMemoryWork insn instruction
    → IsEntered insn site start state → IsSmall (bytes_of (address_form instruction insn site))
    → FormLaw bus Holds insn start state (address_form instruction insn site)

-- rm names a register where it is the operand
abbrev pub NamesRegister : Insn → Instruction → Type 0
NamesRegister insn instruction = instruction.form ≡ form.RmImm → (modrm : ℕ) × (insn.modrm ≡ Some modrm) × (mod_field modrm ≡ 3)

-- the immediate in a helper; main writes no helper
abbrev pub WithConstant : {M A N : Type 0} → Interface M A → (Words → M → N → Type 0) → Type 0
WithConstant bus Holds =
    HasWords bus Holds
    → (insn : Insn) (instruction : Instruction) (kind : Operation) (value : ℤ) (site : Site) (start : ℕ) (state : Slotted)
    → IsConstantWork insn instruction kind value → FitsSigned w32 value → NamesRegister insn instruction
    → IsEntered insn site start state → IsSmall (bytes_of (constant_form instruction insn site value))
    → FormLaw bus Holds insn start state (constant_form instruction insn site value)

-- the operand's address in one helper, and the immediate in another; main writes no helper
abbrev pub WithBoth : {M A N : Type 0} → Interface M A → (Words → M → N → Type 0) → Type 0
WithBoth bus Holds =
    HasWords bus Holds
    → (insn : Insn) (instruction : Instruction) (kind : Operation) (value : ℤ) (site : Site) (start : ℕ) (state : Slotted)
    → IsConstantWork insn instruction kind value → FitsSigned w32 value → instruction.form ≡ form.RmImm
    → has_memory insn.modrm ≡ true
    → IsEntered insn site start state → IsSmall (bytes_of (address_and_constant_form instruction insn site value))
    → FormLaw bus Holds insn start state (address_and_constant_form instruction insn site value)

-- ---- main beside the original

-- Rows with the same accesses end alike on both memories where none of these is to the scratch page, or where the rewritten
-- one is stopped.
abbrev pub MainSteps : {M A N B : Type 0} → Interface M A → Interface N B → (Words → M → N → Type 0) → (ℕ → ℕ → Type 0)
    → (BusStop → BusStop) → Type 0
MainSteps {M} {A} {N} {B} left right Holds IsOutside naming =
    AreBeside left right Holds IsOutside naming
    → (row other : Row) (regs other_regs : Regs) (words : Words) (first : M) (second : N) (account : A) (account' : B)
    → SameAccesses row other → Holds words first second
    → IsRowAt IsOutside row ⊎ IsStopped (execution_of left other other_regs first account).answer
    → MainStep Holds naming words row other regs other_regs (execution_of right row regs second account')
    (execution_of left other other_regs first account)

-- ---- jumps, and 01 D4

-- JMP through memory
abbrev pub Jumping : {M A N : Type 0} → Interface M A → (Words → M → N → Type 0) → Type 0
Jumping bus Holds =
    HasWords bus Holds → (insn : Insn) (instruction : Instruction) (site : Site) (start : ℕ) (state : Slotted)
    → IsJumpWork insn instruction
    → IsEntered insn site start state → FormLaw bus Holds insn start state (jump_form instruction insn site)

-- 03 E2 in place of 01 D4
abbrev pub Adding : Type 0
Adding = (insn : Insn) (regs : Regs) → IsValid insn → is_add_esp_edx insn ≡ true → InPlaceLaw (row_of insn regs) add_from_rm regs

-- MOV of eight bytes
abbrev pub WideMoving : {M A N : Type 0} → Interface M A → (Words → M → N → Type 0) → Type 0
WideMoving bus Holds =
    HasWords bus Holds → (insn : Insn) (instruction : Instruction) (value : ℤ) (site : Site) (start : ℕ) (state : Slotted)
    → IsWideWork insn instruction value
    → IsEntered insn site start state → IsSmall (bytes_of (wide_constant_form instruction insn site value))
    → FormLaw bus Holds insn start state (wide_constant_form instruction insn site value)

-- PUSH of four bytes
abbrev pub Pushing : {M A N : Type 0} → Interface M A → (Words → M → N → Type 0) → Type 0
Pushing bus Holds =
    HasWords bus Holds → (insn : Insn) (instruction : Instruction) (value : ℤ) (site : Site) (start : ℕ) (state : Slotted)
    → IsPushWork insn instruction value
    → FitsSigned w32 value → IsEntered insn site start state → IsSmall (bytes_of (constant_form instruction insn site value))
    → FormLaw bus Holds insn start state (constant_form instruction insn site value)

-- JMP and CALL through memory with base and index exchanged, in place
abbrev pub ThroughExchanged : Type 0
ThroughExchanged =
    (insn : Insn) (instruction : Instruction) (regs : Regs) → IsJumpWork insn instruction ⊎ IsCallWork insn instruction
    → is_sib_0f insn.sib ≡ true
    → length regs.general ≡ 16 → InPlaceLaw (row_of insn regs) (sib_exchanged insn) regs

-- three NOPs in place of VMFUNC go on to the instruction behind it, and change nothing else
abbrev pub Passing : {M A N : Type 0} → Interface M A → (Words → M → N → Type 0) → Type 0
Passing bus Holds = (state : Slotted)
    → Behind bus Holds (record (state.regs) { rip = (state.regs.rip + 3) % 2 ^ 64 }) (nop ∷ nop ∷ nop ∷ []) state

-- ---- all of them

-- What the table puts in place of a valid instruction does what the instruction does.
abbrev pub ReplacementsGo : {M A N : Type 0} → Interface M A → (Words → M → N → Type 0) → Type 0
ReplacementsGo bus Holds =
    HasWords bus Holds → (insn : Insn) (site : Site) (after_0f : Bool) (start : ℕ) (state : Slotted) → IsValid insn → HasForm insn
    → IsEntered insn site start state → IsMovable (replacement insn site after_0f)
    → Goes bus Holds insn start state (replacement insn site after_0f)

-- behind main the original state is what the rest of the slot gives
abbrev pub RestGives : {M A N : Type 0} → Interface M A → (Words → M → N → Type 0) → Type 0
RestGives bus Holds = (regs : Regs) (left : List Insn) (state : Slotted) → Left bus Holds regs left state
    → original_behind left state ≡ regs
