-- Which instructions hold the pattern, and how long they are.
use Rattle.std.proofs.Common.{◌≡◌, ℕ, false, length, Some, refl, ap, ◌∙◌, arith, ℤ}
use Rattle.std.proofs.lemmas.Bool.{true_from_ne_false, false_from_ne_true}
use Rattle.sb_insn.specs.declared.insn.Insn.{Insn}
use Rattle.sb_insn.specs.declared.insn.Op.TheVariants.{Vmfunc}
use Rattle.sb_insn.specs.declared.insn.Imm.{Imm}
use Rattle.sb_insn.specs.declared.insn.Imm.TheVariants as imm
use Rattle.sb_insn.specs.declared.opcode_map.Instruction.{Instruction}
use Rattle.sb_insn.specs.Spelling.{imm_bytes, spelling}
use Rattle.sb_insn.specs.Grammar.{IsValid}
use Rattle.sb_insn.specs.Lookup.{instruction_of}
use Rattle.sb_insn.specs.Branch.{is_relative, is_distance}
use Rattle.sb_insn.proofs.InMaps.{valid_in_maps}
use Rattle.sb_scan.specs.Pattern.{HasPatternAt}
use Rattle.sb_scan.specs.Holding.{holds_pattern}
use Rattle.sb_scan.proofs.Held.{not_held}
use Rattle.sb_forms.specs.Places.{HasForm, AtLeastFive}
use Rattle.sb_insn.specs.Fields.{has_memory}
use Rattle.sb_forms.specs.Laws.{HasTableRow, HeldForeseen}
use Rattle.sb_forms.proofs.ByTable.{IsHeld}
use Rattle.sb_forms.proofs.Immediates.{with_four, with_eight}
use Rattle.sb_forms.proofs.Maps.{short_5}
use Rattle.sb_forms.proofs.Room.{held_5}
use Rattle.sb_forms.proofs.Small.{not_i32, held_memory}
use Rattle.sb_forms.proofs.Where.{not_vmfunc}

-- one in which the pattern stands at a place
held_at : (insn : Insn) (place : ℕ) → IsValid insn → ¬ (insn.op ≡ Vmfunc) → HasPatternAt (spelling insn) place → IsHeld insn
held_at insn place valid other stands = record {
  valid = valid;
  other = not_vmfunc insn.op other;
  held = true_from_ne_false (holds_pattern (spelling insn)) (λ none. not_held (spelling insn) none place stands);
}

pub at_least_five : AtLeastFive
at_least_five insn place valid other stands = held_5 insn (held_at insn place valid other stands)

-- an immediate of eight bytes has no memory operand beside it
alone_8 : (insn : Insn) (value : ℤ) → IsValid insn → insn.imm ≡ imm.I64 value → has_memory insn.modrm ≡ false
alone_8 insn value valid is =
    false_from_ne_true (has_memory insn.modrm) (λ memory.
    let eight : length (imm_bytes insn.imm) ≡ 8 = ap (λ i. length (imm_bytes i)) is in
    omega (arith, eight, short_5 insn valid memory))

by_imm : (insn : Insn) (instruction : Instruction) (immediate : Imm) → IsHeld insn → instruction_of insn ≡ Some instruction
    → insn.imm ≡ immediate → HasTableRow insn.modrm instruction immediate
by_imm insn instruction imm.None held listed is = held_memory insn held (ap (λ i. not_i32 i) is)
by_imm insn instruction (imm.I8 value) held listed is = held_memory insn held (ap (λ i. not_i32 i) is)
by_imm insn instruction (imm.I32 value) held listed is = with_four insn instruction value held.valid listed is
by_imm insn instruction (imm.I64 value) held listed is =
    (alone_8 insn value held.valid is, with_eight insn instruction value held.valid listed is)

-- one that has a form has no distance
no_distance : (insn : Insn) (instruction : Instruction) (place : ℕ) → instruction_of insn ≡ Some instruction
    → HasPatternAt (spelling insn) place → HasForm insn → is_distance instruction.form ≡ false
no_distance insn instruction place listed stands has =
    false_from_ne_true (is_distance instruction.form) (λ distance.
    has (ap (λ one. is_relative one) listed ∙ distance) place stands)

pub held_foreseen : HeldForeseen
held_foreseen insn place valid other stands =
    let listed = valid_in_maps insn valid in
    let held = held_at insn place valid other stands in
    record {
      instruction = listed.0;
      listed = listed.1;
      row = by_imm insn listed.0 insn.imm held listed.1 refl;
      no_distance = no_distance insn listed.0 place listed.1 stands;
    }
