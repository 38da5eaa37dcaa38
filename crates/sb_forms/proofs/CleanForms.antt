-- The bytes of VMFUNC stand in no form.
use Rattle.std.proofs.Common.{◌≡◌, ℕ, ◌+◌, ◌*◌, ◌/◌, ◌%◌, ◌^◌, Bool, true, false, List, [], ◌∷◌, ◌++◌, length, Option, Some, None, refl, sym, ap, ◌∙◌, arith, subst, inl, inr, length-append, FitsSigned, ℤ, pos}
use Rattle.std.specs.Prelude.{◌==◌, not}
use Rattle.std.specs.Int.{w32, w64, cast_unsigned}
use Rattle.std.specs.Option.{option_to_list}
use Rattle.std.proofs.Math.Facts.{sfits_to_z, Fits-of_z}
use Rattle.std.proofs.lemmas.Bool.{and_parts, and_left, not-true, both_ways, cond-true, ne_eqb}
use Rattle.std.proofs.lemmas.Grind.{flat_map-append}
use Rattle.sb_insn.specs.declared.insn.Insn.{Insn}
use Rattle.sb_insn.specs.declared.insn.Imm.TheVariants as imm
use Rattle.sb_insn.specs.declared.opcode_map.Instruction.{Instruction}
use Rattle.sb_insn.specs.Lookup.{instruction_of}
use Rattle.sb_insn.specs.Spelling.{disp_bytes, imm_bytes, spelling}
use Rattle.sb_insn.specs.Fields.{has_sib, is_sib_field, has_memory}
use Rattle.sb_insn.specs.Grammar.{FitsImm, IsValid}
use Rattle.sb_forms.specs.declared.helper.Helper.{Helper}
use Rattle.sb_forms.specs.declared.slots.Site.{Site}
use Rattle.sb_forms.specs.declared.answer.Form.{Form}
use Rattle.sb_forms.specs.Holding.{begins_with, holds_pattern}
use Rattle.sb_insn.specs.Rex.{with_x_b_exchanged}
use Rattle.sb_forms.specs.Registers.{number_of, first_helper, second_helper}
use Rattle.sb_forms.specs.Pieces.{first_saved, second_saved, scratch_word, upper_half, save, restore, save_half, load_number, add_number, is_lowered, lowered_displacement, add_step_back, load_constant, low_half, high_half, is_sib_0f, sib_exchanged, load_address_of_operand, jump_insn, jump_through}
use Rattle.sb_forms.specs.Mains.{at_helper, with_displacement, with_helper, with_constant, on_register, behind_main, load_target, load_word}
use Rattle.sb_forms.specs.Table.{spelled_bytes, Replacement, InPlace, move_outcome, is_vmfunc, is_modrm, begins_with_01_d4, begins_at_modrm, nop, add_from_rm, jump_form, wide_constant_form, address_and_constant_form, address_form, constant_form, is_exchangeable, replacement, bytes_of, site_of, form_of}
use Rattle.sb_forms.specs.Answers.{IsSite, IsSmall, IsCleanForm}
use Rattle.sb_forms.proofs.Held.{not_held}
use Rattle.sb_forms.proofs.ByTable.{IsHeld, TableCases, by_table}
use Rattle.sb_forms.proofs.Operands.{no_sib_0f}
use Rattle.sb_forms.proofs.Quiet.{last_one, IsQuiet, AreQuiet, MayFollow, in_place_clean, slot_clean}
use Rattle.sb_forms.proofs.Leads.{valid_rex, valid_op, exchanged_rex, lead_holds, lead_quiet}
use Rattle.sb_forms.proofs.Behind.{imm_holds}
use Rattle.sb_forms.proofs.Small.{address_small, constant_small, both_small, wide_small, displaced_small, quiet_memory}
use Rattle.sb_forms.proofs.QuietPieces.{save_first, save_second, save_word, save_low, save_high, restore_first, restore_second, jump_through_word, constant_quiet, address_quiet, jump_quiet}
use Rattle.sb_forms.proofs.QuietMains.{any_start, on_memory_quiet, on_register_holds, behind_quiet, with_helper_quiet, load_target_quiet, load_word_quiet, displaced_quiet}

-- ---- lists of quiet instructions

both_quiet : (first second : List Insn) → AreQuiet first → AreQuiet second → AreQuiet (first ++ second)
both_quiet [] second a b = b
both_quiet (insn ∷ first) second a b = (a.0, both_quiet first second a.1 b)

-- ---- a slot that goes back

moved_clean : (site : Site) (pre : List Insn) (main : Insn) (post : List Insn) → IsSite site → AreQuiet pre
    → MayFollow (spelled_bytes pre) (spelling main) → AreQuiet post → IsSmall (bytes_of (move_outcome site pre main post))
    → (insn : Insn) → IsCleanForm insn (bytes_of (move_outcome site pre main post))
moved_clean site pre main post place before work behind small insn =
    let from = site.slot + length (spelled_bytes pre) + length (spelling main) + length (spelled_bytes post) in
    let back = jump_insn from site.next in
    let whole = small.whole in
    let parts : length (spelled_bytes (post ++ back ∷ [])) ≡ length (spelled_bytes post) + length (spelled_bytes (back ∷ [])) =
    ap (λ (bytes : List ℕ). length bytes) (flat_map-append spelling post (back ∷ []))
    ∙ length-append (spelled_bytes post) (spelled_bytes (back ∷ [])) in
    let quiet : IsQuiet (spelling back) =
    jump_quiet from site.next (omega (arith, whole, parts, place.slot, place.behind)) (omega (arith, place.next)) in
    slot_clean pre main (post ++ back ∷ []) before work (both_quiet post (back ∷ []) behind (quiet, tt))

-- ---- in place

nops_quiet : AreQuiet (nop ∷ nop ∷ nop ∷ [])
unfolding holds_pattern
nops_quiet = let one : IsQuiet (spelling nop) = record { none = refl; two = refl; one = refl } in (one, (one, (one, tt)))

add_quiet : AreQuiet (add_from_rm ∷ [])
unfolding holds_pattern
add_quiet = (record { none = refl; two = refl; one = refl }, tt)

sib_start : (modrm sib : Option ℕ) (rest : List ℕ) → is_sib_0f sib ≡ true → is_sib_field modrm sib ≡ true
    → begins_with last_one (option_to_list modrm ++ rest) ≡ false
unfolding has_sib
sib_start modrm None rest e stands = absurd cc
sib_start None (Some sib) rest e stands = absurd cc
sib_start (Some modrm) (Some sib) rest e stands =
    and_left (modrm == 0xD4) true (ne_eqb modrm 0xD4 (λ is. both_ways (has_sib modrm) (ap (λ (m : ℕ). has_sib m) is) stands))

pub exchanged_quiet : (insn : Insn) → IsValid insn → is_vmfunc insn.op ≡ false → is_sib_0f insn.sib ≡ true
    → holds_pattern (spelling (sib_exchanged insn)) ≡ false → IsQuiet (spelling (sib_exchanged insn))
unfolding sib_exchanged
exchanged_quiet insn valid other e none =
    let rest = option_to_list insn.modrm ++ 0x39 ∷ (disp_bytes insn.disp ++ imm_bytes insn.imm) in
    let known = valid_op insn.op insn.lock insn.rex insn.modrm other valid.modrm in
    let range = exchanged_rex insn.rex in
    lead_quiet
    insn.lock
    (with_x_b_exchanged insn.rex)
    insn.op
    rest
    range
    known
    (any_start insn.op rest (sib_start insn.modrm insn.sib (0x39 ∷ (disp_bytes insn.disp ++ imm_bytes insn.imm)) e valid.sib))
    (sym (lead_holds insn.lock (with_x_b_exchanged insn.rex) insn.op rest range known) ∙ none)

-- ---- moved

-- what is said of a replacement
abbrev IsGood : Insn → Replacement → Type 0
IsGood insn form = IsCleanForm insn (bytes_of form)

jump_good : (instruction : Instruction) (insn : Insn) (site : Site) → IsValid insn → IsSite site
    → IsGood insn (jump_form instruction insn site)
unfolding jump_form
jump_good instruction insn site valid place =
    let helper = first_helper instruction.form insn in
    slot_clean
    (save helper first_saved ∷ load_address_of_operand helper insn site.next)
    (load_target helper)
    (save helper scratch_word ∷ restore helper first_saved ∷ jump_through scratch_word ∷ [])
    (save_first helper, address_quiet helper insn site.next valid place.next)
    (inl (load_target_quiet helper))
    (save_word helper, (restore_first helper, (jump_through_word, tt)))

pub low_fits : (value : ℤ) → FitsSigned w32 (low_half value)
unfolding low_half
low_fits value = sfits_to_z {w = w32} {n = cast_unsigned w64 value % 2 ^ 32} (omega arith)

pub high_fits : (value : ℤ) → FitsSigned w64 value → FitsSigned w32 (high_half value)
unfolding high_half
high_fits value fits =
    let below = Fits-of_z {w = w64} {z = value} fits in
    sfits_to_z {w = w32} {n = cast_unsigned w64 value / 2 ^ 32} (omega (arith, below.fits))

wide_good : (instruction : Instruction) (insn : Insn) (site : Site) (value : ℤ) → IsSite site → FitsSigned w64 value
    → IsGood insn (wide_constant_form instruction insn site value)
unfolding wide_constant_form
wide_good instruction insn site value place fits =
    let helper = first_helper instruction.form insn in
    let low = load_constant helper (low_half value) in
    let high = load_constant helper (high_half value) in
    let first : AreQuiet (save helper first_saved ∷ low) =
    (save_first helper, constant_quiet helper (low_half value) (low_fits value)) in
    let kept = both_quiet (save helper first_saved ∷ low) (save_half helper scratch_word ∷ []) first (save_low helper, tt) in
    let again =
    both_quiet (save helper first_saved ∷ low ++ save_half helper scratch_word ∷ []) high kept
    (constant_quiet helper (high_half value) (high_fits value fits)) in
    moved_clean
    site
    (save helper first_saved ∷ low ++ save_half helper scratch_word ∷ [] ++ high ++ save_half helper upper_half ∷ [])
    (load_word insn)
    (restore helper first_saved ∷ [])
    place
    (both_quiet (save helper first_saved ∷ low ++ save_half helper scratch_word ∷ [] ++ high)
    (save_half helper upper_half ∷ []) again (save_high helper, tt))
    (inl (load_word_quiet insn))
    (restore_first helper, tt)
    (wide_small instruction insn site value)
    insn

address_and_constant_good : (instruction : Instruction) (insn : Insn) (site : Site) (value : ℤ) → IsValid insn
    → instruction_of insn ≡ Some instruction → IsSite site → FitsSigned w32 value
    → IsGood insn (address_and_constant_form instruction insn site value)
unfolding address_and_constant_form
address_and_constant_good instruction insn site value valid listed place fits =
    let helper = first_helper instruction.form insn in
    let second = second_helper instruction.form insn in
    moved_clean
    site
    (save helper first_saved ∷ save second second_saved ∷ load_address_of_operand helper insn site.next ++ load_constant second
    value)
    (with_constant instruction.mnemonic insn (at_helper helper) second)
    (behind_main instruction.mnemonic insn second ++ restore helper first_saved ∷ restore second second_saved ∷ [])
    place (
      save_first helper,
      (
        save_second second,
        both_quiet (load_address_of_operand helper insn site.next) (load_constant second value)
            (address_quiet helper insn site.next valid place.next) (constant_quiet second value fits),
      ),
    )
    (inl (on_memory_quiet instruction.mnemonic insn helper second))
    (both_quiet (behind_main instruction.mnemonic insn second) (restore helper first_saved ∷ restore second second_saved ∷ [])
    (behind_quiet instruction.mnemonic insn second) (restore_first helper, (restore_second second, tt)))
    (both_small instruction insn site value valid listed)
    insn

address_good : (instruction : Instruction) (insn : Insn) (site : Site) → IsHeld insn → IsSite site
    → holds_pattern (imm_bytes insn.imm) ≡ false → IsGood insn (address_form instruction insn site)
unfolding address_form
address_good instruction insn site held place none =
    let helper = first_helper instruction.form insn in
    moved_clean
    site
    (save helper first_saved ∷ load_address_of_operand helper insn site.next)
    (with_helper helper insn)
    (restore helper first_saved ∷ [])
    place
    (save_first helper, address_quiet helper insn site.next held.valid place.next)
    (inl (with_helper_quiet helper insn (valid_rex insn.rex held.valid.rex)
    (valid_op insn.op insn.lock insn.rex insn.modrm held.other held.valid.modrm) none))
    (restore_first helper, tt)
    (address_small instruction insn site held.valid (quiet_memory insn held none))
    insn

-- a lowered constant is raised last, which ends with 00
lowered_end : (helper : Helper) (value : ℤ) → is_lowered value ≡ true
    → (lead : List ℕ) × (spelled_bytes (save helper first_saved ∷ load_constant helper value) ≡ lead ++ 0 ∷ [])
unfolding save load_constant add_step_back load_number add_number
lowered_end helper value e =
    let first =
    spelling (save helper first_saved) ++
    (spelling (load_number helper (lowered_displacement value)) ++ 0x48 ∷ 0x8D ∷
    (0x80 + 9 * number_of helper) ∷ 0 ∷ 1 ∷ 0 ∷ []) in (
      first,
      ap (λ (last : List Insn). spelled_bytes (save helper first_saved ∷ load_number helper (lowered_displacement value) ∷ last))
          (cond-true (is_lowered value) (add_number helper (pos 0x100) ∷ []) [] e),
    )

constant_good : (instruction : Instruction) (insn : Insn) (site : Site) (value : ℤ) → IsSite site → FitsSigned w32 value
    → is_lowered value ≡ true → IsGood insn (constant_form instruction insn site value)
unfolding constant_form
constant_good instruction insn site value place fits lowers =
    let helper = first_helper instruction.form insn in
    moved_clean
    site
    (save helper first_saved ∷ load_constant helper value)
    (on_register instruction.mnemonic instruction.form insn helper)
    (behind_main instruction.mnemonic insn helper ++ restore helper first_saved ∷ [])
    place
    (save_first helper, constant_quiet helper value fits)
    (inr (on_register_holds instruction.mnemonic instruction.form insn helper, lowered_end helper value lowers))
    (both_quiet (behind_main instruction.mnemonic insn helper) (restore helper first_saved ∷ [])
    (behind_quiet instruction.mnemonic insn helper) (restore_first helper, tt))
    (constant_small instruction insn site value)
    insn

-- ---- which form applies

-- an immediate without a memory operand holds it
imm_lowered : (insn : Insn) (value : ℤ) → IsHeld insn → insn.imm ≡ imm.I32 value → has_memory insn.modrm ≡ false
    → is_lowered value ≡ true
imm_lowered insn value held is alone =
    sym (ap (λ i. holds_pattern (imm_bytes i)) is) ∙ sym (imm_holds insn held.valid held.other alone) ∙ held.held

displaced_good : (insn : Insn) (site : Site) → IsHeld insn → IsSite site → begins_at_modrm insn ≡ true
    → IsGood insn (move_outcome site [] (with_displacement insn) [])
displaced_good insn site held place e =
    let parts = and_parts (is_modrm 0x0F insn.modrm) (begins_with_01_d4 insn.imm) e in
    let known = valid_op insn.op insn.lock insn.rex insn.modrm held.other held.valid.modrm in
    let quiet =
    displaced_quiet insn (valid_rex insn.rex held.valid.rex) known
    (no_sib_0f insn.modrm insn.sib parts.0 held.valid.sib) parts.1 in
    moved_clean site [] (with_displacement insn) [] place tt (inl quiet) tt (displaced_small insn site held.valid e) insn

exchanged_good : (insn : Insn) → IsHeld insn → is_exchangeable insn ≡ true → IsGood insn (InPlace (sib_exchanged insn ∷ []))
exchanged_good insn held e =
    let parts = and_parts (is_sib_0f insn.sib) (not (holds_pattern (spelling (sib_exchanged insn)))) e in
    in_place_clean (sib_exchanged insn ∷ []) (
      exchanged_quiet insn held.valid held.other parts.0 (not-true (holds_pattern (spelling (sib_exchanged insn))) parts.1),
      tt,
    )

good_cases : (insn : Insn) (site : Site) → IsSite site → TableCases (IsGood insn) insn site
good_cases insn site place = record {
  vmfunc = λ _. in_place_clean (nop ∷ nop ∷ nop ∷ []) nops_quiet;
  completes = λ _. in_place_clean (add_from_rm ∷ []) add_quiet;
  keep = λ none. not_held (spelling insn) none;
  exchange = λ held e. exchanged_good insn held e;
  displace = λ held e. displaced_good insn site held place e;
  unmovable = tt;
  through = λ instruction known memory jumps. jump_good instruction insn site known.held.valid place;
  wide = λ instruction value known is. wide_good instruction insn site value place
      (subst (λ i. FitsImm i) is known.held.valid.imm_fits);
  both = λ instruction value known is memory.
      address_and_constant_good instruction insn site value known.held.valid known.listed place
      (subst (λ i. FitsImm i) is known.held.valid.imm_fits);
  alone = λ instruction value known is alone.
      constant_good instruction insn site value place (subst (λ i. FitsImm i) is known.held.valid.imm_fits)
      (imm_lowered insn value known.held is alone);
  memory = λ instruction known none. address_good instruction insn site known.held place none;
}

replacement_good : (insn : Insn) (site : Site) (after_0f : Bool) → IsValid insn → IsSite site
    → IsGood insn (replacement insn site after_0f)
replacement_good insn site after_0f valid place = by_table (IsGood insn) insn site after_0f valid (good_cases insn site place)

-- what stands in place of an instruction
pub form_clean : (insn : Insn) (at slot : ℕ) (after_0f : Bool) (form : Form) → IsValid insn → IsSite (site_of insn at slot)
    → form ≡ form_of insn at slot after_0f → IsCleanForm insn form
unfolding form_of
form_clean insn at slot after_0f form valid place is =
    subst (λ f. IsCleanForm insn f) (sym is) (replacement_good insn (site_of insn at slot) after_0f valid place)
