-- What the maps leave out: the prefixes, and the bytes that lead to more bytes of opcode, are no opcodes.
use Rattle.std.proofs.Common.{◌≡◌, ℕ, Bool, true, false, eqb, Option, refl, ap, subst, ◌∙◌, arith}
use Rattle.std.proofs.lemmas.Bool.{eqb-true}
use Rattle.std.proofs.lemmas.Bool.Decides.{nat_tests}
use Rattle.sb_insn.specs.declared.opcode_map.Cell.{Cell}
use Rattle.sb_insn.specs.declared.opcode_map.Cell.TheVariants.{Absent}
use Rattle.sb_insn.specs.OpcodeMap.{one_byte, two_byte}
use Rattle.sb_insn.specs.Fields.{is_rex}
use Rattle.sb_decode.specs.LeadReader.{takes_prefixes}

pub no_0F : one_byte 0x0F ≡ Absent
unfolding one_byte
no_0F = refl

pub no_F3 : one_byte 0xF3 ≡ Absent
unfolding one_byte
no_F3 = refl

pub no_F0 : one_byte 0xF0 ≡ Absent
unfolding one_byte
no_F0 = refl

pub no_0F_01 : two_byte 0x01 ≡ Absent
unfolding two_byte
no_0F_01 = refl

no_rex : (byte : ℕ) → is_rex byte ≡ true → one_byte byte ≡ Absent
unfolding one_byte
no_rex byte e = grind (arith, nat_tests)

-- an absent opcode takes no prefixes
not_absent : (cell : Cell) (lock : Bool) (rex : Option ℕ) → takes_prefixes cell lock rex ≡ true → cell ≡ Absent → ⊥
not_absent cell lock rex takes e =
    let bad : takes_prefixes Absent lock rex ≡ true = subst (λ (z : Cell). takes_prefixes z lock rex ≡ true) e takes in cc

-- an opcode of a map is none that the map leaves out
pub differs : (map : ℕ → Cell) (opcode out : ℕ) (lock : Bool) (rex : Option ℕ) → takes_prefixes (map opcode) lock rex ≡ true
    → map out ≡ Absent → eqb opcode out ≡ false
differs map opcode out lock rex takes absent =
    elim (eqb opcode out) as (λ t. eqb opcode out ≡ t → t ≡ false) [
      | true ↦ λ e. absurd (not_absent (map opcode) lock rex takes (ap (λ (k : ℕ). map k) (eqb-true _ _ e) ∙ absent))
      | false ↦ λ e. refl
    ] refl

pub is_no_rex : (opcode : ℕ) (lock : Bool) (rex : Option ℕ) → takes_prefixes (one_byte opcode) lock rex ≡ true
    → is_rex opcode ≡ false
is_no_rex opcode lock rex takes =
    elim (is_rex opcode) as (λ t. is_rex opcode ≡ t → t ≡ false) [
      | true ↦ λ e. absurd (not_absent (one_byte opcode) lock rex takes (no_rex opcode e))
      | false ↦ λ e. refl
    ] refl

pub rex_not_F0 : (byte : ℕ) → is_rex byte ≡ true → eqb byte 0xF0 ≡ false
rex_not_F0 byte e = grind (arith, nat_tests)
