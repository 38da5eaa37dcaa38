-- How far a listing has come, instruction by instruction.
use Rattle.std.proofs.Common.{◌≡◌, ℕ, ◌+◌, ◌-◌, ◌<◌, List, [], ◌∷◌, ◌++◌, Ok, Err, length, take, drop, refl, ap, sym, ◌∙◌, subst, arith, append_assoc, length-append, length-drop}
use Rattle.std.proofs.lemmas.List.{append-nil}
use Rattle.std.proofs.lemmas.List.Concat.{flat_map-append}
use Rattle.std.proofs.Math.Seq.{drop-append_seam, take-length}
use Rattle.sb_insn.specs.declared.insn.Insn.{Insn}
use Rattle.sb_insn.specs.Spelling.{spelling}
use Rattle.sb_insn.specs.Grammar.{BeginsWith}
use Rattle.sb_decode.specs.Decode.{Decodes}
use Rattle.sb_decode.specs.declared.fault.DecodeFault.{DecodeFault}
use Rattle.sb_decode.specs.declared.fault.DecodeFault.TheVariants.{Short, Undecoded}
use Rattle.sb_rewrite.specs.Listing.{text_address, spelled_bytes, AllValid, starts_from, IsListing, IsStuck, IsUndecodedAt}

-- instructions spell the text up to its rest, and these are their starts
pub record Partway (text rest starts : List ℕ) : Type 0 where
  pub insns : List Insn
  pub valid : AllValid insns
  pub whole : text ≡ spelled_bytes insns ++ rest
  pub starts_are : starts ≡ starts_from text_address insns

-- nothing is listed at first
pub none_listed : (text starts : List ℕ) → starts ≡ [] → Partway text text starts
unfolding starts_from
none_listed text starts none = record {
  insns = [];
  valid = tt;
  whole = refl;
  starts_are = none;
}

pub spelled_push : (insns : List Insn) (insn : Insn) → spelled_bytes (insns ++ insn ∷ []) ≡ spelled_bytes insns ++ spelling insn
spelled_push insns insn =
    flat_map-append spelling insns (insn ∷ [])
    ∙ ap (λ (bytes : List ℕ). spelled_bytes insns ++ bytes) (append-nil (spelling insn))

pub starts_push : (at : ℕ) (insns : List Insn) (insn : Insn)
    → starts_from at (insns ++ insn ∷ []) ≡ starts_from at insns ++ (at + length (spelled_bytes insns)) ∷ []
unfolding starts_from
starts_push at [] insn =
    let here : at ≡ at + 0 = omega arith in
    ap (λ (place : ℕ). place ∷ []) here
starts_push at (first ∷ insns) insn =
    let behind : at + length (spelling first) + length (spelled_bytes insns)
    ≡ at + length (spelling first ++ spelled_bytes insns) =
    omega (arith, length-append (spelling first) (spelled_bytes insns)) in
    ap (λ (later : List ℕ). at ∷ later) (starts_push (at + length (spelling first)) insns insn
    ∙ ap (λ (place : ℕ). starts_from (at + length (spelling first)) insns ++ place ∷ []) behind)

pub valid_push : (insns : List Insn) (insn : Insn) → AllValid insns → AllValid (insn ∷ []) → AllValid (insns ++ insn ∷ [])
valid_push [] insn all one = one
valid_push (first ∷ insns) insn all one = (all.0, valid_push insns insn all.1 one)

-- where the rest of the text stands
pub place_of : (text rest : List ℕ) (insns : List Insn) → text ≡ spelled_bytes insns ++ rest
    → length text - length rest ≡ length (spelled_bytes insns)
place_of text rest insns whole = omega (arith, ap length whole ∙ length-append (spelled_bytes insns) rest)

-- behind the spelling of the first instruction
behind : (text rest : List ℕ) (insn : Insn) → text ≡ spelling insn ++ rest → drop (length (spelling insn)) text ≡ rest
behind text rest insn parts =
    ap (λ (bytes : List ℕ). drop (length (spelling insn)) bytes) parts ∙ drop-append_seam (spelling insn) rest

-- one more instruction begins it
unfoldable pub more_of : (text rest tail starts : List ℕ) (insn : Insn) → Partway text rest starts → AllValid (insn ∷ [])
    → rest ≡ spelling insn ++ tail
    → Partway text tail (starts ++ (text_address + (length text - length rest)) ∷ [])
more_of text rest tail starts insn partway one parts = record {
  insns = partway.insns ++ insn ∷ [];
  valid = valid_push partway.insns insn partway.valid one;
  whole =
      partway.whole
      ∙ ap (λ (bytes : List ℕ). spelled_bytes partway.insns ++ bytes) parts
      ∙ sym (append_assoc (spelled_bytes partway.insns) (spelling insn) tail)
      ∙ ap (λ (bytes : List ℕ). bytes ++ tail) (sym (spelled_push partway.insns insn));
  starts_are =
      ap (λ (place : ℕ). starts ++ (text_address + place) ∷ []) (place_of text rest partway.insns partway.whole)
      ∙ ap (λ (list : List ℕ). list ++ (text_address + length (spelled_bytes partway.insns)) ∷ []) partway.starts_are
      ∙ sym (starts_push text_address partway.insns insn);
}

-- one more instruction is decoded
pub one_more : (text rest starts : List ℕ) (insn : Insn) (count : ℕ) → Partway text rest starts → Decodes rest (Ok (insn, count))
    → Partway text (take (length rest - count) (drop count rest)) (starts ++ (text_address + (length text - length rest)) ∷ [])
one_more text rest starts insn count partway ((valid, (tail, parts)), is_length) =
    let left : drop count rest ≡ tail = ap (λ (many : ℕ). drop many rest) is_length ∙ behind rest tail insn parts in
    let all : take (length rest - count) (drop count rest) ≡ tail =
    rw (← length-drop count rest) (take-length (drop count rest)) ∙ left in
    subst (λ (bytes : List ℕ). Partway text bytes (starts ++ (text_address + (length text - length rest)) ∷ [])) (sym all)
    (more_of text rest tail starts insn partway (valid, tt) parts)

-- where nothing is left, they spell the whole text
pub all_spelled : (text rest starts : List ℕ) (partway : Partway text rest starts) → length rest ≡ 0
    → text ≡ spelled_bytes partway.insns
all_spelled text [] starts partway none = partway.whole ∙ append-nil (spelled_bytes partway.insns)
all_spelled text (byte ∷ rest) starts partway none = absurd (omega arith)

-- all of the text is listed
pub all_listed : (text rest starts : List ℕ) → Partway text rest starts → length rest ≡ 0 → IsListing text starts
all_listed text rest starts partway none =
    (partway.insns, partway.valid, all_spelled text rest starts partway none, partway.starts_are)

-- no instruction begins what the decoder refuses
pub none_begins : (rest : List ℕ) (fault : DecodeFault) → Decodes rest (Err fault) → (insn : Insn) → BeginsWith rest insn → ⊥
none_begins rest Short decodes insn begins = decodes.0 insn begins
none_begins rest Undecoded decodes insn begins =
    decodes [] insn (subst (λ (bytes : List ℕ). BeginsWith bytes insn) (sym (append-nil rest)) begins)

-- what is left begins with no instruction
pub stuck_behind : (text rest starts : List ℕ) → Partway text rest starts → IsStuck rest
    → IsUndecodedAt text (text_address + (length text - length rest))
stuck_behind text rest starts partway stuck = (
  partway.insns,
  rest,
  partway.valid,
  partway.whole,
  stuck,
  ap (λ (place : ℕ). text_address + place) (place_of text rest partway.insns partway.whole),
)

-- nothing more is decoded
pub stuck_there : (text rest starts : List ℕ) (fault : DecodeFault) → Partway text rest starts → 0 < length rest
    → Decodes rest (Err fault)
    → IsUndecodedAt text (text_address + (length text - length rest))
stuck_there text rest starts fault partway some decodes =
    stuck_behind text rest starts partway (some, none_begins rest fault decodes)
