-- The instructions of each form are valid.
use Rattle.std.proofs.Common.{◌≡◌, ◌∙◌, sym, ap, subst, ℕ, ◌+◌, ◌^◌, ◌<◌, ◌≤◌, true, List, [], ◌∷◌, ◌++◌, length, refl, arith, length-append, FitsSigned, ℤ, pos, ◌-ℤ◌}
use Rattle.std.specs.Int.{w32, w64}
use Rattle.std.proofs.lemmas.Bool.{and_parts, cond_both}
use Rattle.std.proofs.lemmas.Grind.{flat_map-append}
use Rattle.std.specs.Prelude.{not}
use Rattle.sb_insn.specs.declared.insn.Insn.{Insn}
use Rattle.sb_insn.specs.declared.insn.Disp.{Disp}
use Rattle.sb_insn.specs.declared.insn.Disp.TheVariants as disp
use Rattle.sb_insn.specs.declared.insn.Imm.TheVariants as imm
use Rattle.sb_insn.specs.Spelling.{spelling}
use Rattle.sb_insn.specs.Fields.{has_memory, is_from_next, kind_of_disp}
use Rattle.sb_insn.specs.Grammar.{FitsDisp, FitsImm, IsValid}
use Rattle.sb_insn.specs.RegisterNumbers.{modrm_of}
use Rattle.sb_scan.specs.Holding.{holds_pattern}
use Rattle.sb_forms.specs.declared.helper.Helper.{Helper}
use Rattle.sb_forms.specs.declared.slots.Site.{Site}
use Rattle.sb_forms.specs.Registers.{first_helper, second_helper}
use Rattle.sb_forms.specs.Pieces.{first_saved, second_saved, scratch_word, upper_half, save, restore, save_half, is_lowered, lowered_displacement, lacking, add_step_back, add_number, load_constant, low_half, high_half, is_sib_0f, sib_exchanged, without_sib_0f, load_address, address_from, address_at, address_by, load_address_of_operand, jump_insn}
use Rattle.sb_forms.specs.Mains.{at_helper, with_displacement, with_helper, with_constant, on_register, behind_main, load_word}
use Rattle.sb_forms.specs.Table.{spelled_bytes, move_outcome, bytes_of, is_modrm, begins_with_01_d4, jump_form, wide_constant_form, address_and_constant_form, address_form, constant_form}
use Rattle.sb_forms.specs.Answers.{IsSite, IsSmall}
use Rattle.sb_forms.proofs.ByTable.{TableCases, by_table}
use Rattle.sb_forms.proofs.CleanForms.{low_fits, high_fits}
use Rattle.sb_forms.proofs.Lowered.{lowered_fits}
use Rattle.sb_forms.proofs.Operands.{modrm_is}
use Rattle.sb_forms.proofs.Small.{address_small, constant_small, both_small, wide_small, displaced_small, quiet_memory}
use Rattle.sb_forms.specs.Valid.{AllValid}
use Rattle.sb_forms.specs.Valid.{AreValid, ReplacementsValid}
use Rattle.sb_forms.proofs.ValidPieces.{save_valid, restore_valid, half_valid, through_valid, number_valid, sum_valid, target_valid, jump_valid, nop_valid, add_valid}
use Rattle.sb_forms.proofs.ValidMains.{helper_valid, displaced_valid, exchanged_valid, without_valid}
use Rattle.sb_forms.proofs.ValidConstants.{locked, unlocked, on_memory_valid, on_register_valid, behind_valid, word_valid, lea_valid}

-- ---- lists

pub valid_append : (first second : List Insn) → AllValid first → AllValid second → AllValid (first ++ second)
valid_append [] second one two = two
valid_append (insn ∷ first) second one two = (one.0, valid_append first second one.1 two)

-- ---- numbers

address_fits : (n : ℕ) → n < 2 ^ 31 → FitsSigned w32 (pos n)
address_fits n small = record { sfits = omega (arith, small) }

lowered : (value : ℤ) → FitsSigned w32 value → FitsSigned w32 (lowered_displacement value)
unfolding lowered_displacement
lowered value fits =
    cond_both (is_lowered value) (value -ℤ pos 0x100) value (λ z. FitsSigned w32 z) (λ e. lowered_fits value fits e) (λ _. fits)

raise_valid : (helper : Helper) (value : ℤ) → AllValid (add_step_back helper value)
unfolding add_step_back
raise_valid helper value =
    cond_both (is_lowered value) (add_number helper (pos 0x100) ∷ []) [] (λ insns. AllValid insns)
    (λ _. (sum_valid helper (pos 0x100) (address_fits 0x100 (omega arith)), tt)) (λ _. tt)

constant_valid : (helper : Helper) (value : ℤ) → FitsSigned w32 value → AllValid (load_constant helper value)
unfolding load_constant
constant_valid helper value fits =
    (number_valid helper (lowered_displacement value) (lowered value fits), raise_valid helper value)

-- ---- addresses

lacking_256 : (value : ℤ) → lacking value ≤ 0x100
unfolding lacking
lacking_256 value = cond_both (is_lowered value) 0x100 0 (λ n. n ≤ 0x100) (λ _. omega arith) (λ _. omega arith)

from_valid : (helper : Helper) (next : ℕ) (distance : ℤ) → next ≤ 0x600010 → FitsSigned w32 distance
    → AllValid (address_from helper next distance)
unfolding address_from
from_valid helper next distance near fits = (
  number_valid helper (lowered_displacement distance) (lowered distance fits),
  (
    sum_valid helper (pos (next + lacking distance))
        (address_fits (next + lacking distance) (omega (arith, near, lacking_256 distance))),
    tt,
  ),
)

at_valid : (helper : Helper) (insn : Insn) (next : ℕ) (distance : ℤ) → IsValid insn → has_memory insn.modrm ≡ true
    → kind_of_disp (disp.D32 distance) ≡ kind_of_disp insn.disp → next ≤ 0x600010 → FitsSigned w32 distance
    → AllValid (address_at helper insn next distance)
unfolding address_at
at_valid helper insn next distance valid memory kind near fits =
    cond_both (is_from_next (modrm_of insn)) (address_from helper next distance)
    (load_address helper insn (disp.D32 (lowered_displacement distance)) ∷ add_step_back helper distance)
    (λ insns. AllValid insns)
    (λ _. from_valid helper next distance near fits)
    (λ _. (
      lea_valid helper insn (disp.D32 (lowered_displacement distance)) valid memory kind (lowered distance fits),
      raise_valid helper distance,
    ))

by_valid : (helper : Helper) (insn : Insn) (next : ℕ) (displacement : Disp) → IsValid insn → has_memory insn.modrm ≡ true
    → kind_of_disp displacement ≡ kind_of_disp insn.disp → next ≤ 0x600010 → FitsDisp displacement
    → AllValid (address_by helper insn next displacement)
by_valid helper insn next disp.None valid memory kind near fits = (lea_valid helper insn disp.None valid memory kind fits, tt)
by_valid helper insn next (disp.D8 value) valid memory kind near fits =
    (lea_valid helper insn (disp.D8 value) valid memory kind fits, tt)
by_valid helper insn next (disp.D32 distance) valid memory kind near fits =
    at_valid helper insn next distance valid memory kind near fits

-- the other SIB byte leaves ModRM and the displacement
without_modrm : (insn : Insn) → (without_sib_0f insn).modrm ≡ insn.modrm
unfolding without_sib_0f sib_exchanged
without_modrm insn =
    cond_both (is_sib_0f insn.sib) (sib_exchanged insn) insn (λ i. i.modrm ≡ insn.modrm) (λ _. refl) (λ _. refl)

without_disp : (insn : Insn) → (without_sib_0f insn).disp ≡ insn.disp
unfolding without_sib_0f sib_exchanged
without_disp insn =
    cond_both (is_sib_0f insn.sib) (sib_exchanged insn) insn (λ i. i.disp ≡ insn.disp) (λ _. refl) (λ _. refl)

address_valid : (helper : Helper) (insn : Insn) (next : ℕ) → IsValid insn → has_memory insn.modrm ≡ true → next ≤ 0x600010
    → AllValid (load_address_of_operand helper insn next)
unfolding load_address_of_operand
address_valid helper insn next valid memory near =
    by_valid helper (without_sib_0f insn) next insn.disp (without_valid insn valid)
    (ap (λ m. has_memory m) (without_modrm insn) ∙ memory)
    (ap (λ d. kind_of_disp d) (sym (without_disp insn))) near valid.disp_fits

-- ---- slots

first_fits : FitsSigned w32 first_saved
first_fits = record { sfits = omega arith }

second_fits : FitsSigned w32 second_saved
second_fits = record { sfits = omega arith }

word_fits : FitsSigned w32 scratch_word
word_fits = record { sfits = omega arith }

upper_fits : FitsSigned w32 upper_half
upper_fits = record { sfits = omega arith }

-- a slot that goes back
moved_valid : (site : Site) (pre : List Insn) (main : Insn) (post : List Insn) → IsSite site
    → IsSmall (bytes_of (move_outcome site pre main post)) → AllValid pre → IsValid main → AllValid post
    → AreValid (move_outcome site pre main post)
moved_valid site pre main post place small one two three =
    let from = site.slot + length (spelled_bytes pre) + length (spelling main) + length (spelled_bytes post) in
    let last : length (spelled_bytes post) ≤ 24 =
    omega (
      arith,
      small.behind,
      ap (λ (bytes : List ℕ). length bytes) (flat_map-append spelling post (jump_insn from site.next ∷ [])),
      length-append (spelled_bytes post) (spelled_bytes (jump_insn from site.next ∷ [])),
    ) in (
      one,
      two,
      valid_append post (jump_insn from site.next ∷ []) three
          (jump_valid from site.next (omega (arith, place.next)) (omega (arith, place.slot, small.before, small.work, last)), tt),
    )

four_fits : (insn : Insn) (value : ℤ) → IsValid insn → insn.imm ≡ imm.I32 value → FitsSigned w32 value
four_fits insn value valid is = subst FitsImm is valid.imm_fits

-- a number of eight bytes by halves
wide_valid : (helper : Helper) (value : ℤ) → FitsSigned w64 value
    → AllValid (((load_constant helper (low_half value) ++ save_half helper scratch_word ∷ [])
    ++ load_constant helper (high_half value)) ++ save_half helper upper_half ∷ [])
wide_valid helper value fits =
    let low = load_constant helper (low_half value) in
    let high = load_constant helper (high_half value) in
    let first = save_half helper scratch_word ∷ [] in
    valid_append ((low ++ first) ++ high) (save_half helper upper_half ∷ [])
    (valid_append (low ++ first) high
    (valid_append low first (constant_valid helper (low_half value) (low_fits value)) (
      half_valid helper scratch_word
          word_fits,
      tt,
    ))
    (constant_valid helper (high_half value) (high_fits value fits))) (half_valid helper upper_half upper_fits, tt)

valid_cases : (insn : Insn) (site : Site) → IsValid insn → IsSite site → TableCases AreValid insn site
unfolding jump_form wide_constant_form address_and_constant_form address_form constant_form
valid_cases insn site valid place =
    let near : site.next ≤ 0x600010 = omega (arith, place.next) in
    record {
      vmfunc = λ is. (nop_valid, (nop_valid, (nop_valid, tt)));
      completes = λ is. (add_valid, tt);
      keep = λ none. tt;
      exchange = λ held e. (
        exchanged_valid insn valid (and_parts (is_sib_0f insn.sib) (not (holds_pattern (spelling (sib_exchanged insn))))
            e).0,
        tt,
      );
      displace = λ held e.
          moved_valid site [] (with_displacement insn) [] place (displaced_small insn site valid e) tt
          (displaced_valid insn valid
          (modrm_is 0x0F insn.modrm (and_parts (is_modrm 0x0F insn.modrm) (begins_with_01_d4 insn.imm) e).0)) tt;
      unmovable = tt;
      through = λ instruction known memory jumps.
          let helper = first_helper instruction.form insn in (
            (save_valid helper first_saved first_fits, address_valid helper insn site.next valid memory near),
            target_valid helper,
            (
              save_valid helper scratch_word word_fits,
              (
                restore_valid helper first_saved first_fits,
                (through_valid scratch_word word_fits, tt),
              ),
            ),
          );
      wide = λ instruction value known is.
          let helper = first_helper instruction.form insn in
          moved_valid site
          (save helper first_saved
          ∷ load_constant helper (low_half value)
          ++ save_half helper scratch_word ∷ []
          ++ load_constant helper (high_half value)
          ++ save_half helper upper_half ∷ [])
          (load_word insn) (restore helper first_saved ∷ []) place (wide_small instruction insn site value) (
            save_valid helper first_saved first_fits,
            wide_valid helper value
                (subst FitsImm is valid.imm_fits),
          )
          (word_valid insn) (restore_valid helper first_saved first_fits, tt);
      both = λ instruction value known is memory.
          let helper = first_helper instruction.form insn in
          let second = second_helper instruction.form insn in
          moved_valid site
          (save helper first_saved ∷ save second second_saved ∷ load_address_of_operand helper insn site.next ++ load_constant
          second
          value)
          (with_constant instruction.mnemonic insn (at_helper helper) second)
          (behind_main instruction.mnemonic insn second ++ restore helper first_saved ∷ restore second second_saved ∷ []) place
          (both_small instruction insn site value valid known.listed) (
            save_valid helper first_saved first_fits,
            (
              save_valid second second_saved second_fits,
              valid_append (load_address_of_operand helper insn site.next) (load_constant second value)
                  (address_valid helper insn site.next valid memory near)
                  (constant_valid second value (four_fits insn value valid is)),
            ),
          )
          (on_memory_valid instruction.mnemonic insn helper second valid (locked insn instruction value valid known.listed is))
          (valid_append (behind_main instruction.mnemonic insn second)
          (restore helper first_saved ∷ restore second second_saved ∷ []) (behind_valid instruction.mnemonic insn second)
          (restore_valid helper first_saved first_fits, (restore_valid second second_saved second_fits, tt)));
      alone = λ instruction value known is none.
          let helper = first_helper instruction.form insn in
          moved_valid site (save helper first_saved ∷ load_constant helper value)
          (on_register instruction.mnemonic instruction.form insn helper)
          (behind_main instruction.mnemonic insn helper ++ restore helper first_saved ∷ []) place
          (constant_small instruction insn site value)
          (save_valid helper first_saved first_fits, constant_valid helper value (four_fits insn value valid is))
          (on_register_valid instruction.mnemonic instruction.form insn helper valid (unlocked insn valid none))
          (valid_append (behind_main instruction.mnemonic insn helper) (restore helper first_saved ∷ [])
          (behind_valid instruction.mnemonic insn helper) (restore_valid helper first_saved first_fits, tt));
      memory = λ instruction known none.
          let helper = first_helper instruction.form insn in
          let memory = quiet_memory insn known.held none in
          moved_valid site (save helper first_saved ∷ load_address_of_operand helper insn site.next) (with_helper helper insn)
          (restore helper first_saved ∷ []) place (address_small instruction insn site valid memory)
          (save_valid helper first_saved first_fits, address_valid helper insn site.next valid memory near)
          (helper_valid helper insn valid memory) (restore_valid helper first_saved first_fits, tt);
    }

pub replacements_valid : ReplacementsValid
replacements_valid insn site after_0f valid place =
    by_table AreValid insn site after_0f valid (valid_cases insn site valid place)
