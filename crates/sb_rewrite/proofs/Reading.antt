-- A listed text is read instruction by instruction.
use Rattle.std.proofs.Common.{◌≡◌, ℕ, ◌+◌, ◌-◌, ◌<◌, List, [], ◌∷◌, ◌++◌, length, refl, ap, sym, ◌∙◌, subst, arith, append_assoc, length-append}
use Rattle.std.proofs.lemmas.List.{append_cancel_left}
use Rattle.std.proofs.lemmas.List.Concat.{flat_map-append}
use Rattle.sb_insn.specs.declared.insn.Insn.{Insn}
use Rattle.sb_insn.specs.Spelling.{spelling}
use Rattle.sb_insn.specs.Grammar.{IsValid, BeginsWith}
use Rattle.sb_decode.proofs.Exact.{one_begins, some_spelling}
use Rattle.sb_rewrite.specs.declared.text_insn.TextInsn.{TextInsn}
use Rattle.sb_rewrite.specs.Listing.{text_address, spelled_bytes, AllValid}
use Rattle.sb_rewrite.specs.Placing.{Placement, places}
use Rattle.sb_rewrite.specs.Rewriting.{ArePlaces}
use Rattle.sb_rewrite.specs.Turns.{IsFirstInsn}

-- the text's instructions are these and more, which spell its rest
pub record Reads (text rest : List ℕ) (done more : List Insn) : Type 0 where
  pub valid : AllValid (done ++ more)
  pub whole : text ≡ spelled_bytes (done ++ more)
  pub rest_is : rest ≡ spelled_bytes more

pub nothing_read : (text : List ℕ) (insns : List Insn) → AllValid insns → text ≡ spelled_bytes insns → Reads text text [] insns
nothing_read text insns valid whole = record { valid = valid; whole = whole; rest_is = whole }

-- the places of the text's instructions
pub placed : (text rest : List ℕ) (done more : List Insn) → Reads text rest done more
    → ArePlaces text (places text (done ++ more))
placed text rest done more reads = record { insns = done ++ more; valid = reads.valid; whole = reads.whole; places_are = refl }

-- where the rest begins
pub rest_begins : (text rest : List ℕ) (done more : List Insn) → Reads text rest done more
    → length text - length rest ≡ length (spelled_bytes done)
rest_begins text rest done more reads =
    let size : length text ≡ length (spelled_bytes done) + length (spelled_bytes more) =
    ap length (reads.whole ∙ flat_map-append spelling done more) ∙ length-append (spelled_bytes done) (spelled_bytes more) in
    omega (arith, ap length reads.rest_is)

valid_first : (done : List Insn) (insn : Insn) (others : List Insn) → AllValid (done ++ insn ∷ others) → IsValid insn
valid_first [] insn others valid = valid.0
valid_first (first ∷ done) insn others valid = valid_first done insn others valid.1

-- in front of a rest that is not empty an instruction stands
pub never_stuck : (text rest : List ℕ) (done more : List Insn) → Reads text rest done more → 0 < length rest
    → ((insn : Insn) → ¬ BeginsWith rest insn) → ⊥
never_stuck text rest done [] reads some none = omega (arith, ap length reads.rest_is)
never_stuck text rest done (insn ∷ others) reads some none =
    let valid : IsValid insn = valid_first done insn others reads.valid in
    none insn (valid, (spelled_bytes others, reads.rest_is))

-- what reading one more instruction gives
pub record Turn (text rest : List ℕ) (done more : List Insn) (text_insn : TextInsn) : Type 0 where
  pub others : List Insn
  pub more_is : more ≡ text_insn.insn ∷ others
  pub reads : Reads text text_insn.rest.now (done ++ text_insn.insn ∷ []) others
  pub all : (done ++ text_insn.insn ∷ []) ++ others ≡ done ++ more
  pub here : text_insn.at ≡ text_address + length (spelled_bytes done)

next_read : (text rest behind : List ℕ) (done : List Insn) (insn : Insn) (others : List Insn)
    → Reads text rest done (insn ∷ others) → rest ≡ spelling insn ++ behind → Reads text behind (done ++ insn ∷ []) others
next_read text rest behind done insn others reads parts =
    let all : done ++ insn ∷ others ≡ (done ++ insn ∷ []) ++ others = sym (append_assoc done (insn ∷ []) others) in
    record {
      valid = subst (λ (list : List Insn). AllValid list) all reads.valid;
      whole = reads.whole ∙ ap (λ (list : List Insn). spelled_bytes list) all;
      rest_is = append_cancel_left (spelling insn) behind (spelled_bytes others) (sym parts ∙ reads.rest_is);
    }

pub turn : (text rest : List ℕ) (done more : List Insn) (text_insn : TextInsn) → Reads text rest done more
    → IsFirstInsn text rest text_insn
    → Turn text rest done more text_insn
turn text rest done [] text_insn reads is =
    absurd (omega (
      arith,
      some_spelling text_insn.insn,
      ap length (sym reads.rest_is ∙ is.parts)
          ∙ length-append (spelling text_insn.insn) text_insn.rest.now,
    ))
turn text rest done (first ∷ others) text_insn reads is =
    let valid : IsValid first = valid_first done first others reads.valid in
    let same : first ≡ text_insn.insn =
    one_begins rest first text_insn.insn (valid, (spelled_bytes others, reads.rest_is))
    (is.valid, (text_insn.rest.now, is.parts)) in
    let reads_it : Reads text rest done (text_insn.insn ∷ others) =
    subst (λ (insn : Insn). Reads text rest done (insn ∷ others)) same reads in
    record {
      others = others;
      more_is = ap (λ (insn : Insn). insn ∷ others) same;
      reads = next_read text rest text_insn.rest.now done text_insn.insn others reads_it is.parts;
      all = append_assoc done (text_insn.insn ∷ []) others ∙ ap (λ (insn : Insn). done ++ insn ∷ others) (sym same);
      here = is.here ∙ ap (λ (size : ℕ). text_address + size) (rest_begins text rest done (first ∷ others) reads);
    }

-- where nothing is left, all is read
pub all_read : (text rest : List ℕ) (done more : List Insn) → Reads text rest done more → length rest ≡ 0 → more ≡ []
all_read text rest done [] reads none = refl
all_read text rest done (insn ∷ others) reads none =
    absurd (omega (arith, some_spelling insn, ap length reads.rest_is ∙ length-append (spelling insn) (spelled_bytes others)))

-- ---- a text_insn of a text

-- the instructions of a text begin with those that spell a text_insn of it
goes_on : (done insns : List Insn) (rest : List ℕ) → AllValid done → AllValid insns
    → spelled_bytes insns ≡ spelled_bytes done ++ rest
    → (more : List Insn) × (insns ≡ done ++ more)
goes_on [] insns rest valid valid' same = (insns, refl)
goes_on (first ∷ done) [] rest valid valid' same =
    absurd (omega (
      arith,
      some_spelling first,
      ap length same,
      length-append (spelling first ++ spelled_bytes done) rest,
      length-append (spelling first) (spelled_bytes done),
    ))
goes_on (first ∷ done) (insn ∷ insns) rest valid valid' same =
    let parts : spelled_bytes (insn ∷ insns) ≡ spelling first ++ (spelled_bytes done ++ rest) =
    same ∙ append_assoc (spelling first) (spelled_bytes done) rest in
    let is : insn ≡ first =
    one_begins (spelled_bytes (insn ∷ insns)) insn first (valid'.0, (spelled_bytes insns, refl)) (
      valid.0,
      (spelled_bytes done ++ rest, parts),
    ) in
    let behind : spelled_bytes insns ≡ spelled_bytes done ++ rest =
    append_cancel_left (spelling first) (spelled_bytes insns) (spelled_bytes done ++ rest)
    (ap (λ (one : Insn). spelling one ++ spelled_bytes insns) (sym is) ∙ parts) in
    let later = goes_on done insns rest valid.1 valid'.1 behind in
    (later.0, λ i. is i ∷ later.1 i)

-- so a text that is listed is read so far
pub read_so_far : (text rest : List ℕ) (done : List Insn) (of_text : List Placement) → AllValid done
    → text ≡ spelled_bytes done ++ rest
    → ArePlaces text of_text
    → (more : List Insn) × Reads text rest done more × (of_text ≡ places text (done ++ more))
read_so_far text rest done of_text valid text_insn are =
    let found = goes_on done are.insns rest valid are.valid (sym are.whole ∙ text_insn) in
    let whole : text ≡ spelled_bytes (done ++ found.0) = are.whole ∙ ap (λ (list : List Insn). spelled_bytes list) found.1 in (
      found.0,
      record {
        valid = subst (λ (list : List Insn). AllValid list) found.1 are.valid;
        whole = whole;
        rest_is =
            append_cancel_left (spelled_bytes done) rest (spelled_bytes found.0) (sym text_insn ∙ whole
            ∙ flat_map-append spelling done found.0);
      },
      are.places_are ∙ ap (λ (list : List Insn). places text list) found.1,
    )
