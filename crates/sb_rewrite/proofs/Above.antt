-- What is listed starts before what is left.
use Rattle.std.proofs.Common.{◌≡◌, ℕ, ◌+◌, ◌-◌, ◌<◌, List, [], ◌∷◌, length, subst, sym, ap, ◌∙◌, arith, length-append}
use Rattle.std.specs.List.{AllByRecursion}
use Rattle.sb_insn.specs.declared.insn.Insn.{Insn}
use Rattle.sb_insn.specs.Spelling.{spelling}
use Rattle.sb_decode.proofs.Exact.{some_spelling}
use Rattle.sb_rewrite.specs.Listing.{text_address, spelled_bytes, starts_from}
use Rattle.sb_rewrite.proofs.Listed.{Partway, place_of}

-- instructions that stand one after another start before where they end
starts_end : (at : ℕ) (insns : List Insn)
    → AllByRecursion (λ start. start < at + length (spelled_bytes insns)) (starts_from at insns)
unfolding starts_from
starts_end at [] = tt
starts_end at (insn ∷ insns) =
    let size = length-append (spelling insn) (spelled_bytes insns) in
    let end : at + length (spelling insn) + length (spelled_bytes insns) ≡ at + length (spelled_bytes (insn ∷ insns)) =
    omega (arith, size) in (
      omega (arith, size, some_spelling insn),
      subst (λ (end : ℕ). AllByRecursion (λ start. start < end) (starts_from (at + length (spelling insn)) insns)) end
          (starts_end (at + length (spelling insn)) insns),
    )

-- so each start so far is before the next instruction
pub starts_before : (text rest starts : List ℕ) → Partway text rest starts
    → AllByRecursion (λ start. start < text_address + (length text - length rest)) starts
starts_before text rest starts partway =
    let place = ap (λ (size : ℕ). text_address + size) (sym (place_of text rest partway.insns partway.whole)) in
    subst (λ (end : ℕ). AllByRecursion (λ start. start < end) starts) place
    (subst (λ (those : List ℕ). AllByRecursion (λ start. start < text_address + length (spelled_bytes partway.insns)) those)
    (sym partway.starts_are) (starts_end text_address partway.insns))
