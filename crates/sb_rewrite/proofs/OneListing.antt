-- A text is listed in one way.
use Rattle.std.proofs.Common.{◌≡◌, ℕ, zero, suc, ◌+◌, ◌<◌, List, [], ◌∷◌, ◌++◌, length, get_or, refl, ap, sym, ◌∙◌, subst, arith, append_assoc, length-append}
use Rattle.std.proofs.lemmas.List.{append-nil, append_cancel_left}
use Rattle.std.specs.List.Sorted.{IsStrictlyIncreasing}
use native.Mathlib.Numerals.{unary_clauses}
use Rattle.sb_insn.specs.declared.insn.Insn.{Insn}
use Rattle.sb_insn.specs.Spelling.{spelling}
use Rattle.sb_insn.specs.Grammar.{IsValid, BeginsWith}
use Rattle.sb_decode.proofs.Exact.{some_spelling, one_begins}
use Rattle.sb_rewrite.specs.Listing.{text_address, spelled_bytes, AllValid, starts_from, OneListing, OnePlace, ListedApart, StartsRise}

-- ---- the instructions

unfoldable pub NoneBegins : List ℕ → Type 0
NoneBegins rest = (insn : Insn) → ¬ BeginsWith rest insn

pub nothing_begins : NoneBegins []
unfolding NoneBegins
nothing_begins insn (valid, (rest, parts)) =
    omega (arith, ap length parts ∙ length-append (spelling insn) rest, some_spelling insn)

-- an instruction begins what it and others spell
pub first_begins : (first : Insn) (insns : List Insn) (rest : List ℕ) → IsValid first
    → BeginsWith (spelled_bytes (first ∷ insns) ++ rest) first
first_begins first insns rest valid =
    (valid, (spelled_bytes insns ++ rest, append_assoc (spelling first) (spelled_bytes insns) rest))

-- what spells a text as far as instructions go is one list of them
pub same_insns : (firsts seconds : List Insn) (rest others : List ℕ) → AllValid firsts → AllValid seconds → NoneBegins rest
    → NoneBegins others → spelled_bytes firsts ++ rest ≡ spelled_bytes seconds ++ others → firsts ≡ seconds
unfolding NoneBegins
same_insns [] [] rest others valid valid' none none' same = refl
same_insns [] (second ∷ seconds) rest others valid valid' none none' same =
    absurd (none second
    (subst (λ (bytes : List ℕ). BeginsWith bytes second) (sym same) (first_begins second seconds others valid'.0)))
same_insns (first ∷ firsts) [] rest others valid valid' none none' same =
    absurd (none' first (subst (λ (bytes : List ℕ). BeginsWith bytes first) same (first_begins first firsts rest valid.0)))
same_insns (first ∷ firsts) (second ∷ seconds) rest others valid valid' none none' same =
    let whole : List ℕ = spelled_bytes (second ∷ seconds) ++ others in
    let is : first ≡ second =
    one_begins whole first second
    (subst (λ (bytes : List ℕ). BeginsWith bytes first) same (first_begins first firsts rest valid.0))
    (first_begins second seconds others valid'.0) in
    let fronts : spelling first ++ (spelled_bytes firsts ++ rest) ≡ spelling first ++ (spelled_bytes seconds ++ others) =
    sym (append_assoc (spelling first) (spelled_bytes firsts) rest)
    ∙ same
    ∙ append_assoc (spelling second) (spelled_bytes seconds) others
    ∙ ap (λ (insn : Insn). spelling insn ++ (spelled_bytes seconds ++ others)) (sym is) in
    let behind : firsts ≡ seconds =
    same_insns firsts seconds rest others valid.1 valid'.1 none none' (append_cancel_left (spelling first) _ _ fronts) in
    λ i. is i ∷ behind i

-- ---- the listing

pub one_listed : OneListing
one_listed text first second (insns, valid, whole, starts) (insns', valid', whole', starts') =
    let fronts : spelled_bytes insns ++ [] ≡ spelled_bytes insns' ++ [] =
    append-nil (spelled_bytes insns) ∙ sym whole ∙ whole' ∙ sym (append-nil (spelled_bytes insns')) in
    let same : insns ≡ insns' = same_insns insns insns' [] [] valid valid' nothing_begins nothing_begins fronts in
    starts ∙ ap (starts_from text_address) same ∙ sym starts'

pub one_place : OnePlace
unfolding NoneBegins
one_place text first second (insns, rest, valid, whole, stuck, place) (insns', rest', valid', whole', stuck', place') =
    let same : insns ≡ insns' = same_insns insns insns' rest rest' valid valid' stuck.1 stuck'.1 (sym whole ∙ whole') in
    place ∙ ap (λ (list : List Insn). text_address + length (spelled_bytes list)) same ∙ sym place'

pub listed_apart : ListedApart
unfolding NoneBegins
listed_apart text starts at (insns, valid, whole, starts_are) (insns', rest, valid', whole', stuck, place) =
    let fronts : spelled_bytes insns ++ [] ≡ spelled_bytes insns' ++ rest =
    append-nil (spelled_bytes insns) ∙ sym whole ∙ whole' in
    let same : insns ≡ insns' = same_insns insns insns' [] rest valid valid' nothing_begins stuck.1 fronts in
    let none : [] ≡ rest =
    append_cancel_left (spelled_bytes insns') [] rest (ap (λ (list : List Insn). spelled_bytes list ++ []) (sym same) ∙ fronts) in
    omega (arith, stuck.0, ap length none)

-- each start is behind the one before
pub rises : (at : ℕ) (insns : List Insn) → IsStrictlyIncreasing (starts_from at insns)
unfolding starts_from
rises at [] k less = absurd (omega arith)
rises at (first ∷ []) k less = absurd (omega arith)
rises at (first ∷ second ∷ insns) zero less = omega (arith, some_spelling first)
rises at (first ∷ second ∷ insns) (suc k) less =
    let starts : List ℕ = starts_from (at + length (spelling first)) (second ∷ insns) in
    let next : get_or starts k 0 < get_or starts (k + 1) 0 =
    rises (at + length (spelling first)) (second ∷ insns) k (omega arith) in
    simp unary_clauses (simp unary_clauses at next)

pub rising_starts : StartsRise
rising_starts text starts (insns, valid, whole, starts_are) =
    subst (λ (list : List ℕ). IsStrictlyIncreasing list) (sym starts_are) (rises text_address insns)
