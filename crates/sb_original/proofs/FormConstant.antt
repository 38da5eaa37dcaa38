-- Two helpers: the original state, and the way back.
use Rattle.std.proofs.Common.{◌≡◌, ℕ, ◌+◌, ◌%◌, ◌^◌, ◌<◌, true, List, [], ◌∷◌, get_or, refl, sym, ap, ◌∙◌, arith, inl, inr, get_or-set_other}
use Rattle.std.specs.Prelude.{slice_set, ◌==◌}
use Rattle.std.proofs.Math.ListN.{length-set}
use Rattle.std.proofs.lemmas.Grind.{get_or-set_at}
use Rattle.std.proofs.lemmas.Bool.{cases_eq, eq-eqb, ne_eqb, or_left, or_right, or_from}
use Rattle.sb_insn.specs.declared.registers.Regs.{Regs}
use Rattle.sb_exec.specs.Interface.{Interface}
use Rattle.sb_exec.specs.Operand.{general, next_rip}
use Rattle.sb_forms.specs.declared.helper.Helper.{Helper}
use Rattle.sb_forms.specs.Registers.{number_of}
use Rattle.sb_forms.specs.Pieces.{first_saved, second_saved, restore, jump_insn}
use Rattle.sb_original.specs.Words.{FirstSaved, SecondSaved, Words, word_of, HasWords}
use Rattle.sb_original.specs.Kept.{AgreeBut, FollowBut}
use Rattle.sb_original.specs.Alike.{hides}
use Rattle.sb_original.specs.Slot.{Slotted, saved, restored, jumped}
use Rattle.sb_original.specs.Original.{Save, original, Behind, IsRegs, IsKept}
use Rattle.sb_original.proofs.Pieces.{restore_does}
use Rattle.sb_original.proofs.Chains.{regs_same, jump_does}
use Rattle.sb_original.proofs.FormPlain.{all_same}
use Rattle.sb_forms.proofs.QuietPieces.{number_7}

-- a helper that is restored is no longer hidden
pub unhide : (helper : Helper) (numbers : List ℕ) (regs other : Regs) (value rip : ℕ)
    → AgreeBut (hides (number_of helper ∷ numbers)) regs other → value ≡ general regs (number_of helper)
    → AgreeBut (hides numbers) regs (record other { general = slice_set other.general (number_of helper) value; rip = rip })
unhide helper numbers regs other value rip agree is = record {
  flags = agree.flags;
  count = agree.count;
  other_count = length-set other.general (number_of helper) value ∙ agree.other_count;
  seen = λ k shown.
      elim (cases_eq k (number_of helper)) [
        | inl same ↦ get_or-set_at other.general (number_of helper) k value 0 same
            (omega (arith, number_7 helper, agree.other_count)) ∙ is ∙ ap (λ (n : ℕ). get_or regs.general n 0) (sym same)
        | inr differ ↦ get_or-set_other other.general (number_of helper) k value 0 differ
            ∙ agree.seen k (or_from (k == number_of helper) (hides numbers k) (ne_eqb k (number_of helper) differ) shown)
      ];
}

-- ---- two helpers

abbrev pub two_saves : Helper → Helper → List Save
two_saves helper second =
    record { number = number_of helper; which = FirstSaved } ∷ record { number = number_of second; which = SecondSaved } ∷ []

pub two_kept : (helper second : Helper) (start : ℕ) (state : Slotted) → IsRegs state.regs
    → IsKept (two_saves helper second) start (record (state.regs) { rip = start }) (number_of helper ∷ number_of second ∷ [])
    (record (state.regs) { rip = start }) (saved second SecondSaved (saved helper FirstSaved state)).words
two_kept helper second start state fit now agree words =
    let old : Regs = record (state.regs) { rip = start } in
    let word : now.words.first ≡ general old (number_of helper) =
    ap (λ (w : Words). w.first) words ∙ reduced (fit.fit (number_of helper)) in
    let other : now.words.second ≡ general old (number_of second) =
    ap (λ (w : Words). w.second) words ∙ reduced (fit.fit (number_of second)) in
    let one = unhide helper (number_of second ∷ []) old now.regs now.words.first start agree word in
    let two =
    unhide second [] old (record (now.regs) {
      general = slice_set now.regs.general (number_of helper) now.words.first;
      rip = start;
    }) now.words.second start one other in
    regs_same (original (two_saves helper second) start now) old
    (all_same old (original (two_saves helper second) start now) two) refl agree.flags
  where
    reduced : {n : ℕ} → n < 2 ^ 64 → n % 2 ^ 64 ≡ n
    reduced below = omega arith

hides_first : (helper : Helper) (numbers : List ℕ) → hides (number_of helper ∷ numbers) (number_of helper) ≡ true
hides_first helper numbers =
    or_left (number_of helper == number_of helper) (hides numbers (number_of helper))
    (eq-eqb (number_of helper) (number_of helper) refl)

pub hides_second : (helper second : Helper) → hides (number_of helper ∷ number_of second ∷ []) (number_of second) ≡ true
hides_second helper second =
    or_right (number_of second == number_of helper) (hides (number_of second ∷ []) (number_of second)) (hides_first second [])

pub two_behind : {M A N : Type 0} (bus : Interface M A) (Holds : Words → M → N
    → Type 0) (helper second : Helper) (start from next : ℕ) (state now : Slotted) (regs : Regs)
    → HasWords bus Holds → IsRegs state.regs
    → FollowBut (hides (number_of helper ∷ number_of second ∷ [])) (record (state.regs) { rip = start }) regs now.regs
    → now.words.first ≡ general state.regs (number_of helper) % 2 ^ 64
    → now.words.second ≡ general state.regs (number_of second) % 2 ^ 64 → regs.rip ≡ next
    → next_rip (restore second second_saved) (restored helper FirstSaved now).regs ≡ from → from + 5 < 2 ^ 63 → next < 2 ^ 63
    → Behind bus Holds regs (restore helper first_saved ∷ restore second second_saved ∷ jump_insn from next ∷ []) now
two_behind bus Holds helper second start from next state now regs has fit follow word other goes at a b =
    let first = restored helper FirstSaved now in
    let again = restored second SecondSaved first in
    let kept : word_of FirstSaved now.words % 2 ^ 64 ≡ general regs (number_of helper) =
    omega (
      arith,
      word,
      fit.fit (number_of helper),
      follow.left (number_of helper) (hides_first helper (number_of second ∷ [])),
    ) in
    let kept_too : word_of SecondSaved now.words % 2 ^ 64 ≡ general regs (number_of second) =
    omega (arith, other, fit.fit (number_of second), follow.left (number_of second) (hides_second helper second)) in
    let one =
    unhide helper (number_of second ∷ []) regs now.regs
    (word_of FirstSaved now.words % 2 ^ 64) first.regs.rip follow.agree kept in
    let two = unhide second [] regs first.regs (word_of SecondSaved now.words % 2 ^ 64) again.regs.rip one kept_too in (
      first,
      restore_does bus Holds helper FirstSaved now has,
      refl,
      (
        again,
        restore_does bus Holds second SecondSaved first has,
        refl,
        (
          jumped next again,
          jump_does bus Holds from next again at a b,
          tt,
          regs_same (jumped next again).regs regs (all_same regs again.regs two) (sym goes) two.flags,
        ),
      ),
    )
