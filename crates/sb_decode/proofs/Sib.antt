-- SIB is read exactly.
use Rattle.std.proofs.Common.{◌≡◌, ℕ, lit<, ◌<◌, Bool, true, false, cond, not, List, [], ◌∷◌, ◌++◌, Option, Some, None, Ok, Err, refl, ap, subst}
use Rattle.std.proofs.lemmas.Bool.{not-true}
use Rattle.std.specs.Option.{option_to_list}
use Rattle.sb_insn.specs.Fields.{is_sib_field, wants_sib}
use Rattle.sb_insn.specs.Grammar.{IsByte}
use Rattle.sb_decode.specs.declared.fault.DecodeFault.TheVariants.{Short, Undecoded}
use Rattle.sb_decode.specs.FieldReaders.{sib_at, any_byte}
use Rattle.sb_decode.proofs.Reader.{IsBytes, Reads, ok_is}

abbrev pub GoodSib : Option ℕ → Option ℕ → Type 0
GoodSib modrm sib = (is_sib_field modrm sib ≡ true) × IsByte sib

sib_takes : (modrm : Option ℕ) (wanted : Bool) → wants_sib modrm ≡ wanted → (bytes : List ℕ) (sib : Option ℕ) (rest : List ℕ)
    → IsBytes bytes
    → cond wanted (any_byte bytes) (Ok (None, bytes)) ≡ Ok (sib, rest) → GoodSib modrm sib × (bytes ≡ option_to_list sib ++ rest)
sib_takes modrm true w [] sib rest fits e = absurd cc
sib_takes modrm true w (byte ∷ behind) sib rest fits e =
    let lt : byte < 256 = fits 0 in
    subst (λ (z : Option ℕ × List ℕ). GoodSib modrm z.0 × (byte ∷ behind ≡ option_to_list z.0 ++ z.1))
    (ok_is (Some byte, behind) (sib, rest) e) ((w, lt), refl)
sib_takes modrm false w bytes sib rest fits e =
    let none : is_sib_field modrm None ≡ true = ap (λ (b : Bool). not b) w in
    subst (λ (z : Option ℕ × List ℕ). GoodSib modrm z.0 × (bytes ≡ option_to_list z.0 ++ z.1)) (ok_is (None, bytes) (sib, rest) e)
    ((none, tt), refl)

sib_again : (modrm sib : Option ℕ) (rest : List ℕ) → GoodSib modrm sib
    → sib_at modrm (option_to_list sib ++ rest) ≡ Ok (sib, rest)
unfolding sib_at
sib_again modrm None rest good = let none : wants_sib modrm ≡ false = not-true _ good.0 in rw none refl
sib_again modrm (Some sib) rest good = let some : wants_sib modrm ≡ true = good.0 in rw some refl

sib_final : (modrm : Option ℕ) (wanted : Bool) (bytes : List ℕ)
    → cond wanted (any_byte bytes) (Ok (None, bytes)) ≡ Err Undecoded → ⊥
sib_final modrm true [] e = cc
sib_final modrm true (byte ∷ behind) e = cc
sib_final modrm false bytes e = cc

sib_opens : (modrm : Option ℕ) (wanted : Bool) → wants_sib modrm ≡ wanted → (bytes : List ℕ)
    → cond wanted (any_byte bytes) (Ok (None, bytes)) ≡ Err Short
    → (more : List ℕ) × (sib : Option ℕ) × GoodSib modrm sib × (bytes ++ more ≡ option_to_list sib)
sib_opens modrm true w [] e = (0 ∷ [], Some 0, (w, lit< tt), refl)
sib_opens modrm true w (byte ∷ behind) e = absurd cc
sib_opens modrm false w bytes e = absurd cc

pub sib_reads : (modrm : Option ℕ) → Reads (Option ℕ) (GoodSib modrm) (λ sib. option_to_list sib) (sib_at modrm)
unfolding sib_at
sib_reads modrm = record {
  takes = λ bytes sib rest fits e. sib_takes modrm (wants_sib modrm) refl bytes sib rest fits e;
  again = sib_again modrm;
  final = λ bytes more fits e. absurd (sib_final modrm (wants_sib modrm) bytes e);
  opens = λ bytes fits e. sib_opens modrm (wants_sib modrm) refl bytes e;
}

-- some SIB field always stands
pub some_sib : (modrm : Option ℕ) → (sib : Option ℕ) × GoodSib modrm sib
some_sib modrm =
    elim (wants_sib modrm) as (λ t. wants_sib modrm ≡ t → (sib : Option ℕ) × GoodSib modrm sib) [
      | true ↦ λ e. (Some 0, (e, lit< tt))
      | false ↦ λ e. let none : is_sib_field modrm None ≡ true = ap (λ (b : Bool). not b) e in (None, (none, tt))
    ] refl
