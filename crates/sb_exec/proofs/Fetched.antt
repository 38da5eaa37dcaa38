-- What holds of the fetched bytes as they grow, and when they spell an instruction.
use Rattle.std.proofs.Common.{◌≡◌, inl, inr, ℕ, ◌+◌, ◌<◌, ◌++◌, List, [], ◌∷◌, Result, Ok, length, take, slice_set, get_or, ap, sym, ◌∙◌, subst, arith, length-append}
use Rattle.std.proofs.lemmas.Bool.{cases_lt}
use Rattle.std.proofs.lemmas.List.{length-take-le, take_more_set, take-append-le, take_all, append-nil, get_or_append_left}
use Rattle.std.proofs.Math.Seq.{get_or-append_seam, take-append_seam}
use Rattle.sb_insn.specs.declared.insn.Insn.{Insn}
use Rattle.sb_insn.specs.Spelling.{spelling}
use Rattle.sb_insn.specs.Grammar.{Spells, BeginsWith, IsShort}
use Rattle.sb_bus.specs.declared.stop.BusStop.{BusStop}
use Rattle.sb_exec.specs.Fetching.{bytes_from_fetch, Stands, HasShortPrefixes}

pub no_prefixes : HasShortPrefixes []
unfolding HasShortPrefixes
no_prefixes count below = absurd (omega arith)

-- ---- one byte more

prefixes_push : (byte : ℕ) (bytes : List ℕ) → HasShortPrefixes bytes → IsShort bytes → HasShortPrefixes (bytes ++ byte ∷ [])
unfolding HasShortPrefixes
prefixes_push byte bytes prefixes short count below =
    let long : length (bytes ++ byte ∷ []) ≡ length bytes + 1 = length-append bytes (byte ∷ []) in
    let same : take count (bytes ++ byte ∷ []) ≡ take count bytes = take-append-le count bytes (byte ∷ []) (omega arith) in
    subst (λ (t : List ℕ). IsShort t) (sym same)
    (elim (cases_lt count (length bytes)) [
      | inl inside ↦ prefixes count inside
      | inr all ↦ subst (λ (t : List ℕ). IsShort t) (sym (take_all count bytes all)) short
    ])

stands_push : (fetch : ℕ → Result ℕ BusStop) (address byte : ℕ) (bytes : List ℕ) → Stands fetch address bytes
    → fetch (bytes_from_fetch address (length bytes)) ≡ Ok byte → Stands fetch address (bytes ++ byte ∷ [])
stands_push fetch address byte bytes stands next index below =
    let long : length (bytes ++ byte ∷ []) ≡ length bytes + 1 = length-append bytes (byte ∷ []) in
    elim (cases_lt index (length bytes)) [
      | inl inside ↦ stands index inside ∙ ap (λ (b : ℕ). Ok b) (sym (get_or_append_left bytes (byte ∷ []) 0 index inside))
      | inr last ↦
          let same : length bytes ≡ index = omega arith in
          subst (λ (n : ℕ). fetch (bytes_from_fetch address n) ≡ Ok (get_or (bytes ++ byte ∷ []) n 0)) same
          (next ∙ ap (λ (b : ℕ). Ok b) (sym (get_or-append_seam bytes byte [] 0)))
    ]

-- the array has one byte more
pub more_prefixes : (count byte : ℕ) (array : List ℕ) → count < length array → HasShortPrefixes (take count array)
    → IsShort (take count array)
    → HasShortPrefixes (take (count + 1) (slice_set array count byte))
more_prefixes count byte array inside prefixes short =
    subst (λ (t : List ℕ). HasShortPrefixes t) (sym (take_more_set array count byte inside))
    (prefixes_push byte (take count array) prefixes short)

pub more_stands : (fetch : ℕ → Result ℕ BusStop) (address count byte : ℕ) (array : List ℕ) → count < length array
    → Stands fetch address (take count array) → fetch (bytes_from_fetch address count) ≡ Ok byte
    → Stands fetch address (take (count + 1) (slice_set array count byte))
more_stands fetch address count byte array inside stands next =
    let long : length (take count array) ≡ count = length-take-le count array (omega arith) in
    subst (λ (t : List ℕ). Stands fetch address t) (sym (take_more_set array count byte inside))
    (stands_push fetch address byte (take count array) stands (ap (λ (n : ℕ). fetch (bytes_from_fetch address n)) long ∙ next))

-- ---- no byte too many

-- an instruction that begins the bytes is the whole, if each proper prefix needs more
pub spelled_whole : (bytes : List ℕ) (insn : Insn) → BeginsWith bytes insn → HasShortPrefixes bytes → Spells bytes insn
unfolding HasShortPrefixes
spelled_whole bytes insn begins prefixes =
    let split : bytes ≡ spelling insn ++ begins.1.0 = begins.1.1 in
    let prefix : take (length (spelling insn)) bytes ≡ spelling insn =
    ap (λ (t : List ℕ). take (length (spelling insn)) t) split ∙ take-append_seam (spelling insn) begins.1.0 in
    elim (cases_lt (length (spelling insn)) (length bytes)) [
      | inl more ↦
          let short : IsShort (spelling insn) = subst (λ (t : List ℕ). IsShort t) prefix (prefixes (length (spelling insn)) more) in
          absurd (short.0 insn (begins.0, ([], sym (append-nil (spelling insn)))))
      | inr all ↦ (begins.0, sym (take_all (length (spelling insn)) bytes all) ∙ prefix)
    ]
