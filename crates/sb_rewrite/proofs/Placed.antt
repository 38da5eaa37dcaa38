-- The places of the instructions of a text.
use Rattle.std.proofs.Common.{◌≡◌, ℕ, ◌+◌, List, [], ◌∷◌, ◌++◌, length, refl, ap, ◌∙◌, arith, length-append}
use Rattle.std.specs.Prelude.{flat_map}
use Rattle.sb_insn.specs.declared.insn.Insn.{Insn}
use Rattle.sb_insn.specs.Spelling.{spelling}
use Rattle.sb_rewrite.specs.Listing.{text_address, spelled_bytes, starts_from}
use Rattle.sb_rewrite.specs.Placing.{Placement, place, places_from, places, area_address}
use Rattle.sb_rewrite.specs.RewrittenText.{area_bytes, starts_of}

-- the starts are those of the listing
pub starts_placed : (text : List ℕ) (at slot : ℕ) (insns : List Insn)
    → starts_of (places_from text at slot insns) ≡ starts_from at insns
unfolding places_from starts_from
starts_placed text at slot [] = refl
starts_placed text at slot (insn ∷ insns) =
    ap (λ (starts : List ℕ). at ∷ starts) (starts_placed text (at + length (spelling insn)) _ insns)

-- how many bytes the slots have
abbrev pub slots_size : List Placement → ℕ
slots_size of_text = length (flat_map area_bytes of_text)

-- instructions behind others begin where those end, and so do their slots
pub places_append : (text : List ℕ) (at slot : ℕ) (insns others : List Insn) → places_from text at slot (insns ++ others)
    ≡ places_from text at slot insns ++ places_from text (at + length (spelled_bytes insns))
    (slot + slots_size (places_from text at slot insns)) others
unfolding places_from
places_append text at slot [] others =
    let here : at ≡ at + 0 = omega arith in
    let there : slot ≡ slot + 0 = omega arith in
    λ i. places_from text (here i) (there i) others
places_append text at slot (insn ∷ insns) others =
    let first : Placement = place text at slot insn in
    let next : ℕ = at + length (spelling insn) in
    let next_slot : ℕ = slot + length (area_bytes first) in
    let later : List Placement = places_from text next next_slot insns in
    let here : next + length (spelled_bytes insns) ≡ at + length (spelling insn ++ spelled_bytes insns) =
    omega (arith, length-append (spelling insn) (spelled_bytes insns)) in
    let there : next_slot + slots_size later ≡ slot + length (area_bytes first ++ flat_map area_bytes later) =
    omega (arith, length-append (area_bytes first) (flat_map area_bytes later)) in
    ap (λ (list : List Placement). first ∷ list) (places_append text next next_slot insns others)
    ∙ (λ i. first ∷ (later ++ places_from text (here i) (there i) others))

-- the place of an instruction behind others
abbrev pub here : List ℕ → List Insn → Insn → Placement
here text done insn = place text (text_address + length (spelled_bytes done)) (area_address + slots_size (places text done)) insn

pub here_among : (text : List ℕ) (done : List Insn) (insn : Insn) (others : List Insn)
    → (behind : List Placement) × (places text (done ++ insn ∷ others) ≡ places text done ++ here text done insn ∷ behind)
unfolding places_from
here_among text done insn others = (_, places_append text text_address area_address done (insn ∷ others))

pub here_last : (text : List ℕ) (done : List Insn) (insn : Insn)
    → places text (done ++ insn ∷ []) ≡ places text done ++ here text done insn ∷ []
unfolding places_from
here_last text done insn = places_append text text_address area_address done (insn ∷ [])
