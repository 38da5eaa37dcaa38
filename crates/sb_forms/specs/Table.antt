-- The table of forms: what stands in place of an instruction so that the bytes of VMFUNC stand nowhere (docs/FORMS.md).
use Rattle.std.specs.Prelude.{ℕ, ◌+◌, Bool, true, false, not, ◌&&◌, ◌==◌, if◌then◌else◌, List, [], ◌∷◌, ◌++◌, length}
use Rattle.std.specs.Prelude.{flat_map, Option, Some, None, ℤ}
use Rattle.std.specs.Int.{w32}
use Rattle.sb_insn.specs.declared.insn.Insn.{Insn}
use Rattle.sb_insn.specs.declared.insn.Op.{Op}
use Rattle.sb_insn.specs.declared.insn.Op.TheVariants.{One, Two, Endbr, Vmfunc}
use Rattle.sb_insn.specs.declared.insn.Imm.{Imm}
use Rattle.sb_insn.specs.declared.insn.Imm.TheVariants as imm
use Rattle.sb_insn.specs.declared.opcode_map.Mnemonic.{Mnemonic}
use Rattle.sb_insn.specs.declared.opcode_map.Mnemonic.TheVariants.{Call, Jmp}
use Rattle.sb_insn.specs.declared.opcode_map.Instruction.{Instruction}
use Rattle.sb_insn.specs.Spelling.{number, spelling}
use Rattle.sb_insn.specs.Fields.{is_none, has_memory}
use Rattle.sb_insn.specs.Lookup.{instruction_of}
use Rattle.sb_forms.specs.declared.slots.Site.{Site}
use Rattle.sb_forms.specs.declared.answer.Form.{Form}
use Rattle.sb_forms.specs.declared.answer.Form.TheVariants as form
use Rattle.sb_forms.specs.Holding.{begins_with, holds_pattern}
use Rattle.sb_forms.specs.Registers.{first_helper, second_helper}
use Rattle.sb_forms.specs.Pieces.{opcode_alone, first_saved, second_saved, scratch_word, upper_half, save, restore, save_half}
use Rattle.sb_forms.specs.Pieces.{load_constant, low_half, high_half, is_sib_0f, sib_exchanged, load_address_of_operand, jump_insn, jump_through}
use Rattle.sb_forms.specs.Mains.{at_helper, with_displacement, with_helper, with_constant, on_register, behind_main}
use Rattle.sb_forms.specs.Mains.{load_target, load_word}

-- ---- instructions in place of one

-- the bytes that instructions spell, one after another
abbrev pub spelled_bytes : List Insn → List ℕ
spelled_bytes insns = flat_map spelling insns

-- What stands in place of an instruction: itself, instructions of the same length, a jump to a slot, or nothing can.
pub data Replacement : Type 0 where
  Keep : Replacement
  InPlace : List Insn → Replacement
  Moved : List Insn → Insn → List Insn → Replacement
  Unmovable : Replacement

-- A slot ends with a jump to the next instruction.
abbrev pub move_outcome : Site → List Insn → Insn → List Insn → Replacement
move_outcome site pre main post =
    Moved pre main
    (post ++ jump_insn (site.slot + length (spelled_bytes pre) + length (spelling main) + length (spelled_bytes post))
    site.next ∷ [])

-- ---- tests

abbrev pub is_vmfunc : Op → Bool
is_vmfunc (One opcode) = false
is_vmfunc (Two opcode) = false
is_vmfunc Endbr = false
is_vmfunc Vmfunc = true

abbrev pub is_one_byte : ℕ → Op → Bool
is_one_byte opcode (One other) = opcode == other
is_one_byte opcode (Two other) = false
is_one_byte opcode Endbr = false
is_one_byte opcode Vmfunc = false

abbrev pub is_modrm : ℕ → Option ℕ → Bool
is_modrm modrm None = false
is_modrm modrm (Some other) = modrm == other

-- add esp, edx: 01 D4
abbrev pub is_add_esp_edx : Insn → Bool
is_add_esp_edx insn = is_none insn.rex && (is_one_byte 0x01 insn.op && is_modrm 0xD4 insn.modrm)

-- the same behind a byte 0F
abbrev pub completes_pattern : Insn → Bool → Bool
completes_pattern insn after_0f = is_add_esp_edx insn && after_0f

-- an immediate of four bytes begins with 01 D4
abbrev pub begins_with_01_d4 : Imm → Bool
begins_with_01_d4 (imm.I32 value) = begins_with (0x01 ∷ 0xD4 ∷ []) (number w32 value)
begins_with_01_d4 imm.None = false
begins_with_01_d4 (imm.I8 value) = false
begins_with_01_d4 (imm.I64 value) = false

-- The pattern begins at ModRM 0F, which has no SIB byte and no displacement behind it.
abbrev pub begins_at_modrm : Insn → Bool
begins_at_modrm insn = is_modrm 0x0F insn.modrm && begins_with_01_d4 insn.imm

abbrev pub is_call : Mnemonic → Bool
is_call Call = true
is_call _ = false

abbrev pub is_jump : Mnemonic → Bool
is_jump Jmp = true
is_jump _ = false

-- ---- the forms of a slot

-- jmp through memory: the target's address is loaded, and kept in the scratch page while the helper is restored
unfoldable pub jump_form : Instruction → Insn → Site → Replacement
jump_form instruction insn site =
    let helper = first_helper instruction.form insn in
    Moved
    (save helper first_saved ∷ load_address_of_operand helper insn site.next)
    (load_target helper)
    (save helper scratch_word ∷ restore helper first_saved ∷ jump_through scratch_word ∷ [])

-- mov of eight bytes to a register: by halves into the scratch page, and from there
unfoldable pub wide_constant_form : Instruction → Insn → Site → ℤ → Replacement
wide_constant_form instruction insn site value =
    let helper = first_helper instruction.form insn in
    move_outcome
    site
    (save helper first_saved
    ∷ load_constant helper (low_half value)
    ++ save_half helper scratch_word ∷ []
    ++ load_constant helper (high_half value)
    ++ save_half helper upper_half ∷ [])
    (load_word insn)
    (restore helper first_saved ∷ [])

-- the operand's address in one helper, and the immediate in another
unfoldable pub address_and_constant_form : Instruction → Insn → Site → ℤ → Replacement
address_and_constant_form instruction insn site value =
    let helper = first_helper instruction.form insn in
    let second = second_helper instruction.form insn in
    move_outcome
    site
    (save helper first_saved ∷ save second second_saved ∷ load_address_of_operand helper insn site.next ++ load_constant second
    value)
    (with_constant instruction.mnemonic insn (at_helper helper) second)
    (behind_main instruction.mnemonic insn second ++ restore helper first_saved ∷ restore second second_saved ∷ [])

-- the operand's address in a helper
unfoldable pub address_form : Instruction → Insn → Site → Replacement
address_form instruction insn site =
    let helper = first_helper instruction.form insn in
    move_outcome site (save helper first_saved ∷ load_address_of_operand helper insn site.next) (with_helper helper insn)
    (restore helper first_saved ∷ [])

-- the immediate in a helper
unfoldable pub constant_form : Instruction → Insn → Site → ℤ → Replacement
constant_form instruction insn site value =
    let helper = first_helper instruction.form insn in
    move_outcome
    site
    (save helper first_saved ∷ load_constant helper value)
    (on_register instruction.mnemonic instruction.form insn helper)
    (behind_main instruction.mnemonic insn helper ++ restore helper first_saved ∷ [])

-- ---- which form applies

-- by the immediate
abbrev pub form_by : Instruction → Insn → Site → Imm → Replacement
form_by instruction insn site (imm.I64 value) = wide_constant_form instruction insn site value
form_by instruction insn site (imm.I32 value) =
    if has_memory insn.modrm then
    (if holds_pattern (number w32 value) then address_and_constant_form instruction insn site value else address_form instruction
    insn site)
    else constant_form instruction insn site value
form_by instruction insn site (imm.I8 value) = address_form instruction insn site
form_by instruction insn site imm.None = address_form instruction insn site

-- an instruction that holds the pattern in a field behind ModRM
unfoldable pub slot_form : Instruction → Insn → Site → Replacement
slot_form instruction insn site =
    if has_memory insn.modrm && is_call instruction.mnemonic then Unmovable
    else if has_memory insn.modrm && is_jump instruction.mnemonic then jump_form instruction insn site
    else form_by instruction insn site insn.imm

-- no instruction of the maps: none that is valid
abbrev pub slot_form_of : Option Instruction → Insn → Site → Replacement
slot_form_of None insn site = Unmovable
slot_form_of (Some instruction) insn site = slot_form instruction insn site

-- SIB is 0F, and with base and index exchanged the instruction does not hold the pattern.
abbrev pub is_exchangeable : Insn → Bool
is_exchangeable insn = is_sib_0f insn.sib && not (holds_pattern (spelling (sib_exchanged insn)))

-- an instruction that holds the pattern
unfoldable pub held_form : Insn → Site → Replacement
held_form insn site =
    if is_exchangeable insn then InPlace (sib_exchanged insn ∷ [])
    else if begins_at_modrm insn then move_outcome site [] (with_displacement insn) []
    else slot_form_of (instruction_of insn) insn site

abbrev pub nop : Insn
nop = opcode_alone 0x90

-- add esp, edx with reg as the destination: 03 E2
abbrev pub add_from_rm : Insn
add_from_rm = record (opcode_alone 0x03) { modrm = Some 0xE2 }

-- The first case that applies.
unfoldable pub replacement : Insn → Site → Bool → Replacement
replacement insn site after_0f =
    if is_vmfunc insn.op then InPlace (nop ∷ nop ∷ nop ∷ [])
    else if completes_pattern insn after_0f then InPlace (add_from_rm ∷ [])
    else if not (holds_pattern (spelling insn)) then Keep
    else held_form insn site

-- ---- the bytes of a replacement

abbrev pub bytes_of : Replacement → Form
bytes_of Keep = form.Keep
bytes_of (InPlace insns) = form.InPlace (spelled_bytes insns)
bytes_of (Moved pre main post) = form.Moved (spelled_bytes pre) (spelling main) (spelled_bytes post)
bytes_of Unmovable = form.Unmovable

-- where an instruction at an address goes on, and the slot that it would get
abbrev pub site_of : Insn → ℕ → ℕ → Site
site_of insn at slot = record { next = at + length (spelling insn); slot = slot }

-- what stands in place of an instruction at an address, with the next slot, and a byte 0F before it or not
unfoldable pub form_of : Insn → ℕ → ℕ → Bool → Form
form_of insn at slot after_0f = bytes_of (replacement insn (site_of insn at slot) after_0f)
