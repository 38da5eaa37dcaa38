-- Instructions start within the text.
use Rattle.std.proofs.Common.{◌≡◌, ℕ, ◌+◌, ◌≤◌, List, [], ◌∷◌, length, ap, sym, ◌∙◌, subst, arith, length-append}
use Rattle.std.specs.List.{AllByRecursion}
use Rattle.sb_insn.specs.declared.insn.Insn.{Insn}
use Rattle.sb_insn.specs.Spelling.{spelling}
use Rattle.sb_rewrite.specs.Listing.{text_address, spelled_bytes, starts_from}
use Rattle.sb_rewrite.specs.Placing.{Placement, area_address}
use Rattle.sb_rewrite.specs.RewrittenText.{RewrittenText, starts_of, IsBetween}
use Rattle.sb_rewrite.specs.Rewriting.{StartsStandInText}
use Rattle.sb_rewrite.proofs.Placed.{starts_placed}
use Rattle.sb_decode.proofs.Exact.{some_spelling}

-- instructions that stand one after another start before the end of the last one
starts_between : (least end at : ℕ) (insns : List Insn) → least ≤ at → at + length (spelled_bytes insns) ≤ end
    → AllByRecursion (IsBetween least end) (starts_from at insns)
unfolding starts_from
starts_between least end at [] from to = tt
starts_between least end at (insn ∷ insns) from to =
    let size = length-append (spelling insn) (spelled_bytes insns) in (
      (from, omega (arith, to, size, some_spelling insn)),
      starts_between least end (at + length (spelling insn)) insns (omega arith) (omega (arith, to, size)),
    )

-- each start of what a text becomes is the address of one of the text's bytes
pub starts_in_text : StartsStandInText
starts_in_text text made (of_text, are, fits, is) =
    let starts : made.starts ≡ starts_from text_address are.insns =
    ap (λ (one : RewrittenText). one.starts) is ∙ ap (λ (list : List Placement). starts_of list) are.places_are
    ∙ starts_placed text text_address area_address are.insns in
    let size : length text ≡ length (spelled_bytes are.insns) = ap length are.whole in
    subst (λ (list : List ℕ). AllByRecursion (IsBetween text_address (text_address + length text)) list) (sym starts)
    (starts_between text_address (text_address + length text) text_address are.insns (omega arith) (omega (arith, size)))
