-- What ModRM says of the fields behind it.
use Rattle.std.proofs.Common.{◌≡◌, ℕ, true, false, Option, Some, None, refl, sym, ap, ◌∙◌, arith}
use Rattle.std.specs.Prelude.{◌||◌, ◌==◌, not}
use Rattle.std.proofs.lemmas.Bool.{both_ways, or_from, and_left, and_right, not-false, not_from_true, cond-true, cond-false, eq-eqb, ne_eqb, eqb-true}
use Rattle.sb_insn.specs.declared.insn.Disp.{Disp}
use Rattle.sb_insn.specs.declared.insn.Disp.TheVariants as disp
use Rattle.sb_insn.specs.declared.insn.DispKind.TheVariants as kinds
use Rattle.sb_insn.specs.Fields.{mod_field, rm_field, is_register, has_sib, is_sib_field, modrm_disp, disp_kind_of, kind_of_disp, has_memory}
use Rattle.sb_forms.specs.Table.{is_modrm}

-- ---- rm 7

pub no_sib_7 : (modrm : ℕ) (sib : Option ℕ) → rm_field modrm ≡ 7 → is_sib_field (Some modrm) sib ≡ true → sib ≡ None
unfolding has_sib
no_sib_7 modrm None seven stands = refl
no_sib_7 modrm (Some sib) seven stands =
    absurd (both_ways (has_sib modrm)
    (and_right (not (is_register modrm)) (rm_field modrm == 4) (ne_eqb (rm_field modrm) 4 (λ is. omega (arith, seven, is))))
    stands)

pub no_disp_7 : (modrm : ℕ) → mod_field modrm ≡ 0 → rm_field modrm ≡ 7 → modrm_disp modrm None ≡ kinds.None
unfolding modrm_disp
no_disp_7 modrm zero_mod seven =
    cond-true (mod_field modrm == 0) _ _ (eq-eqb (mod_field modrm) 0 zero_mod)
    ∙ cond-false ((rm_field modrm == 5) || false) kinds.D32 kinds.None
    (or_from (rm_field modrm == 5) false (ne_eqb (rm_field modrm) 5 (λ is. omega (arith, seven, is))) refl)

pub kind_none : (displacement : Disp) → kind_of_disp displacement ≡ kinds.None → displacement ≡ disp.None
kind_none disp.None e = refl
kind_none (disp.D8 value) e = absurd cc
kind_none (disp.D32 value) e = absurd cc

pub modrm_is : (byte : ℕ) (modrm : Option ℕ) → is_modrm byte modrm ≡ true → modrm ≡ Some byte
modrm_is byte None e = absurd cc
modrm_is byte (Some modrm) e = ap (λ (m : ℕ). Some m) (sym (eqb-true byte modrm e))

sib_of_0f : (modrm sib : Option ℕ) → modrm ≡ Some 0x0F → is_sib_field modrm sib ≡ true → sib ≡ None
sib_of_0f modrm sib is stands = no_sib_7 0x0F sib refl (ap (λ m. is_sib_field m sib) (sym is) ∙ stands)

-- ModRM 0F has neither SIB nor a displacement behind it
pub bare_0f : (modrm : ℕ) (sib : Option ℕ) (displacement : Disp) → modrm ≡ 0x0F → is_sib_field (Some modrm) sib ≡ true
    → kind_of_disp displacement ≡ disp_kind_of (Some modrm) sib → (sib ≡ None) × (displacement ≡ disp.None)
bare_0f modrm sib displacement is stands kind =
    let seven : rm_field modrm ≡ 7 = omega (arith, is) in
    let none = no_sib_7 modrm sib seven stands in
    (none, kind_none displacement (kind ∙ ap (λ s. modrm_disp modrm s) none ∙ no_disp_7 modrm (omega (arith, is)) seven))

pub no_sib_0f : (modrm sib : Option ℕ) → is_modrm 0x0F modrm ≡ true → is_sib_field modrm sib ≡ true → sib ≡ None
no_sib_0f modrm sib e stands = sib_of_0f modrm sib (modrm_is 0x0F modrm e) stands

-- ---- a register, or no ModRM byte

register_mod : (modrm : ℕ) → has_memory (Some modrm) ≡ false → is_register modrm ≡ true
register_mod modrm e = not-false (is_register modrm) e

no_sib_register : (modrm : ℕ) (sib : Option ℕ) → is_register modrm ≡ true → is_sib_field (Some modrm) sib ≡ true → sib ≡ None
unfolding has_sib
no_sib_register modrm None register stands = refl
no_sib_register modrm (Some sib) register stands =
    absurd (both_ways (has_sib modrm)
    (and_left (not (is_register modrm)) (rm_field modrm == 4) (not_from_true (is_register modrm) register)) stands)

no_disp_register : (modrm : ℕ) (sib : Option ℕ) → mod_field modrm ≡ 3 → modrm_disp modrm sib ≡ kinds.None
unfolding modrm_disp
no_disp_register modrm sib three =
    cond-false (mod_field modrm == 0) _ _ (ne_eqb (mod_field modrm) 0 (λ is. omega (arith, three, is)))
    ∙ cond-false (mod_field modrm == 1) _ _ (ne_eqb (mod_field modrm) 1 (λ is. omega (arith, three, is)))
    ∙ cond-false (mod_field modrm == 2) _ _ (ne_eqb (mod_field modrm) 2 (λ is. omega (arith, three, is)))

-- no memory operand: neither SIB nor a displacement
pub no_memory : (modrm sib : Option ℕ) (displacement : Disp) → has_memory modrm ≡ false → is_sib_field modrm sib ≡ true
    → kind_of_disp displacement ≡ disp_kind_of modrm sib
    → (sib ≡ None) × (displacement ≡ disp.None)
no_memory None None displacement e stands kind = (refl, kind_none displacement kind)
no_memory None (Some sib) displacement e stands kind = absurd cc
no_memory (Some modrm) sib displacement e stands kind =
    let register = register_mod modrm e in (
      no_sib_register modrm sib register stands,
      kind_none displacement (kind ∙ no_disp_register modrm sib (eqb-true (mod_field modrm) 3 register)),
    )
