-- The addresses of a slot: what the rewritten code has there, and where the next instruction lies.
use Rattle.std.proofs.Common.{◌≡◌, ◌∙◌, sym, ap, subst, inl, inr, ℕ, ◌+◌, ◌^◌, ◌<◌, ◌≤◌, List, [], ◌∷◌, ◌++◌, length, Some, refl, arith, append_assoc, length-append}
use Rattle.std.specs.Prelude.{◌==◌, if◌then◌else◌}
use Rattle.std.proofs.lemmas.Bool.{cond-true, cond-false, eq-eqb, ne_eqb, cases_eq}
use Rattle.sb_insn.specs.declared.insn.Insn.{Insn}
use Rattle.sb_insn.specs.Spelling.{spelling}
use Rattle.sb_insn.specs.Grammar.{IsValid}
use Rattle.sb_exec.specs.Rows.{row_of}
use Rattle.sb_forms.specs.Table.{spelled_bytes}
use Rattle.sb_decode.proofs.Exact.{some_spelling}
use Rattle.sb_rewrite.specs.Listing.{AllValid}
use Rattle.sb_origin_run.specs.Machine.{Code}
use Rattle.sb_origin_run.specs.Position.{Slot, Position, InPre, AtMain, InPost, in_pre, IsNext, HasNext, behind}
use Rattle.sb_origin_run.specs.Text.{IsPlaced}
use Rattle.sb_origin_text.specs.Positions.{post_position, pre_position}
use Rattle.sb_origin_text.specs.Codes.{HasBytes}
use Rattle.sb_origin_text.proofs.Spelled.{first_code, code_behind}

-- ---- tests of addresses

pub here : {A : Type 0} (address : ℕ) (one other : A) → (if address == address then one else other) ≡ one
here address one other = cond-true (address == address) one other (eq-eqb address address refl)

pub elsewhere : {A : Type 0} (address at : ℕ) (one other : A) → (address ≡ at → ⊥) → (if address == at then one else other)
    ≡ other
elsewhere address at one other apart = cond-false (address == at) one other (ne_eqb address at apart)

-- what is said of the position at an address, by where it is
pub by_address : (Claim : Position → Type 0) (address at : ℕ) (one other : Position) → (address ≡ at → Claim one) → Claim other
    → Claim (if address == at then one else other)
by_address Claim address at one other first rest = elim (cases_eq address at) [
  | inl same ↦ subst Claim (sym (cond-true (address == at) one other (eq-eqb address at same))) (first same)
  | inr apart ↦ subst Claim (sym (elsewhere address at one other apart)) rest
]

-- the next instruction stands behind this one
pub behind_is : (address : ℕ) (insn : Insn) → address + length (spelling insn) < 2 ^ 64
    → behind address insn ≡ address + length (spelling insn)
behind_is address insn small = omega (arith, small)

-- ---- post

-- from an address on the positions are those of post
abbrev pub AgreesPost : (ℕ → Position) → Slot → ℕ → List Insn → Type 0
AgreesPost place slot at insns =
    (address : ℕ) → at ≤ address → address < at + length (spelled_bytes insns) → place address
    ≡ post_position slot at insns address

more_spelled : (insn : Insn) (insns : List Insn)
    → length (spelled_bytes (insn ∷ insns)) ≡ length (spelling insn) + length (spelled_bytes insns)
more_spelled insn insns = length-append (spelling insn) (spelled_bytes insns)

-- the first of them stands there
pub post_first : (place : ℕ → Position) (slot : Slot) (at : ℕ) (insn : Insn) (left : List Insn)
    → AgreesPost place slot at (insn ∷ left) → place at ≡ InPost slot insn left
post_first place slot at insn left agrees =
    agrees at (omega arith) (omega (arith, more_spelled insn left, some_spelling insn))
    ∙ here at (InPost slot insn left) (post_position slot (at + length (spelling insn)) left at)

post_rest : (place : ℕ → Position) (slot : Slot) (at : ℕ) (insn : Insn) (left : List Insn)
    → AgreesPost place slot at (insn ∷ left) → AgreesPost place slot (at + length (spelling insn)) left
post_rest place slot at insn left agrees address low high =
    agrees address (omega arith) (omega (arith, more_spelled insn left))
    ∙ elsewhere address at (InPost slot insn left) (post_position slot (at + length (spelling insn)) left address)
    (λ same. omega (arith, some_spelling insn, same))

next_post : (place : ℕ → Position) (slot : Slot) (at : ℕ) (left : List Insn) → AgreesPost place slot at left
    → IsNext place slot left at
next_post place slot at [] agrees = tt
next_post place slot at (insn ∷ left) agrees = post_first place slot at insn left agrees

-- each address of post
pub post_placed : (target source : Code) (place : ℕ → Position) (slot : Slot) (at : ℕ) (insns : List Insn) (rest : List ℕ)
    → AllValid insns → AgreesPost place slot at insns → HasBytes row_of at (spelled_bytes insns ++ rest) target
    → at + length (spelled_bytes insns) < 2 ^ 64
    → (address : ℕ) → IsPlaced target source place address (post_position slot at insns address)
post_placed target source place slot at [] rest valid agrees has small address = tt
post_placed target source place slot at (insn ∷ left) rest valid agrees has small address =
    let next = at + length (spelling insn) in
    let bytes : HasBytes row_of at (spelling insn ++ (spelled_bytes left ++ rest)) target =
    subst (λ list. HasBytes row_of at list target) (append_assoc (spelling insn) (spelled_bytes left) rest) has in
    let later = post_rest place slot at insn left agrees in
    by_address (IsPlaced target source place address) address at (InPost slot insn left)
    (post_position slot next left address)
    (λ same. (
      ap target same ∙ first_code row_of at insn (spelled_bytes left ++ rest) target valid.0 bytes,
      subst (λ (n : ℕ). IsNext place slot left n)
          (sym (ap (λ (n : ℕ). behind n insn) same
          ∙ behind_is at insn (omega (arith, small, more_spelled insn left)))) (next_post place slot next left later),
    ))
    (post_placed target source place slot next left rest valid.1 later
    (code_behind row_of at (spelling insn) (spelled_bytes left ++ rest) target bytes)
    (omega (arith, small, more_spelled insn left)) address)

-- ---- pre and main

-- from an address on the positions are those of pre, of main and of post
abbrev pub slot_bytes_from : Slot → List Insn → List ℕ
slot_bytes_from slot left = spelled_bytes left ++ (spelling slot.main ++ spelled_bytes slot.post)

abbrev pub AgreesPre : (ℕ → Position) → Slot → List Insn → ℕ → List Insn → Type 0
AgreesPre place slot done at left =
    (address : ℕ) → at ≤ address → address < at + length (slot_bytes_from slot left)
    → place address ≡ pre_position slot done at left address

main_size : (slot : Slot)
    → length (spelling slot.main ++ spelled_bytes slot.post) ≡ length (spelling slot.main) + length (spelled_bytes slot.post)
main_size slot = length-append (spelling slot.main) (spelled_bytes slot.post)

more_size : (slot : Slot) (insn : Insn) (left : List Insn)
    → length (slot_bytes_from slot (insn ∷ left)) ≡ length (spelling insn) + length (slot_bytes_from slot left)
more_size slot insn left =
    ap (λ (list : List ℕ). length list) (append_assoc (spelling insn) (spelled_bytes left)
    (spelling slot.main ++ spelled_bytes slot.post))
    ∙ length-append (spelling insn) (slot_bytes_from slot left)

some_slot : (slot : Slot) (left : List Insn) → 0 < length (slot_bytes_from slot left)
some_slot slot left =
    omega (
      arith,
      length-append (spelled_bytes left) (spelling slot.main ++ spelled_bytes slot.post),
      main_size slot,
      some_spelling slot.main,
    )

-- the first position behind some instructions of pre
pre_here : (slot : Slot) (done : List Insn) (at : ℕ) (left : List Insn) → pre_position slot done at left at
    ≡ in_pre slot done left
pre_here slot done at [] = here at (AtMain slot) (post_position slot (at + length (spelling slot.main)) slot.post at)
pre_here slot done at (insn ∷ left) =
    here at (InPre slot done insn left) (pre_position slot (done ++ insn ∷ []) (at + length (spelling insn)) left at)

pub pre_first : (place : ℕ → Position) (slot : Slot) (done : List Insn) (at : ℕ) (left : List Insn)
    → AgreesPre place slot done at left → place at ≡ in_pre slot done left
pre_first place slot done at left agrees =
    agrees at (omega arith) (omega (arith, some_slot slot left)) ∙ pre_here slot done at left

pre_rest : (place : ℕ → Position) (slot : Slot) (done : List Insn) (at : ℕ) (insn : Insn) (left : List Insn)
    → AgreesPre place slot done at (insn ∷ left)
    → AgreesPre place slot (done ++ insn ∷ []) (at + length (spelling insn)) left
pre_rest place slot done at insn left agrees address low high =
    agrees address (omega arith) (omega (arith, more_size slot insn left))
    ∙ elsewhere address at (InPre slot done insn left)
    (pre_position slot (done ++ insn ∷ []) (at + length (spelling insn)) left address)
    (λ same. omega (arith, some_spelling insn, same))

main_rest : (place : ℕ → Position) (slot : Slot) (done : List Insn) (at : ℕ) → AgreesPre place slot done at []
    → AgreesPost place slot (at + length (spelling slot.main)) slot.post
main_rest place slot done at agrees address low high =
    agrees address (omega arith) (omega (arith, main_size slot))
    ∙ elsewhere address at (AtMain slot) (post_position slot (at + length (spelling slot.main)) slot.post address)
    (λ same. omega (arith, some_spelling slot.main, same))

-- there is an instruction behind main
abbrev pub HasLast : List Insn → Type 0
HasLast [] = ⊥
HasLast (insn ∷ insns) = Unit {0}

pub main_next : (place : ℕ → Position) (slot : Slot) (at : ℕ) (post : List Insn) → HasLast post → AgreesPost place slot at post
    → HasNext place slot post at
main_next place slot at [] last agrees = absurd last
main_next place slot at (insn ∷ left) last agrees = post_first place slot at insn left agrees

-- what is known of a slot
pub record IsSlot (source : Code) (slot : Slot) : Type 0 where
  pub original : source slot.start ≡ Some slot.row
  pub main : IsValid slot.main
  pub post : AllValid slot.post
  pub last : HasLast slot.post

-- each address of a slot
pub pre_placed : (target source : Code) (place : ℕ → Position) (slot : Slot) (done : List Insn) (at : ℕ) (left : List Insn)
    (rest : List ℕ) → IsSlot source slot → AllValid left → done ++ left ≡ slot.pre → AgreesPre place slot done at left
    → HasBytes row_of at (slot_bytes_from slot left ++ rest) target → at + length (slot_bytes_from slot left) < 2 ^ 64
    → (address : ℕ) → IsPlaced target source place address (pre_position slot done at left address)
pre_placed target source place slot done at [] rest known valid whole agrees has small address =
    let next = at + length (spelling slot.main) in
    let bytes : HasBytes row_of at (spelling slot.main ++ (spelled_bytes slot.post ++ rest)) target =
    subst (λ list. HasBytes row_of at list target) (append_assoc (spelling slot.main) (spelled_bytes slot.post) rest) has in
    let later = main_rest place slot done at agrees in
    by_address (IsPlaced target source place address) address at (AtMain slot) (post_position slot next slot.post address)
    (λ same. (
      known.original,
      ap target same ∙ first_code row_of at slot.main (spelled_bytes slot.post ++ rest) target known.main bytes,
      subst (λ (n : ℕ). HasNext place slot slot.post n)
          (sym (ap (λ (n : ℕ). behind n slot.main) same ∙ behind_is at slot.main (omega (arith, small, main_size slot))))
          (main_next place slot next slot.post known.last later),
    ))
    (post_placed target source place slot next slot.post rest known.post later
    (code_behind row_of at (spelling slot.main) (spelled_bytes slot.post ++ rest) target bytes)
    (omega (arith, small, main_size slot)) address)
pre_placed target source place slot done at (insn ∷ left) rest known valid whole agrees has small address =
    let next = at + length (spelling insn) in
    let behind_all = slot_bytes_from slot left in
    let bytes : HasBytes row_of at (spelling insn ++ (behind_all ++ rest)) target =
    subst (λ list. HasBytes row_of at list target)
    (ap (λ (list : List ℕ). list ++ rest) (append_assoc (spelling insn) (spelled_bytes left)
    (spelling slot.main ++ spelled_bytes slot.post)) ∙ append_assoc (spelling insn) behind_all rest) has in
    let later = pre_rest place slot done at insn left agrees in
    let size = more_size slot insn left in
    by_address (IsPlaced target source place address) address at (InPre slot done insn left)
    (pre_position slot (done ++ insn ∷ []) next left address)
    (λ same. (
      ap target same ∙ first_code row_of at insn (behind_all ++ rest) target valid.0 bytes,
      whole,
      ap place (ap (λ (n : ℕ). behind n insn) same ∙ behind_is at insn (omega (arith, small, size)))
          ∙ pre_first place slot (done ++ insn ∷ []) next left later,
    ))
    (pre_placed target source place slot (done ++ insn ∷ []) next left rest known valid.1
    (append_assoc done (insn ∷ []) left ∙ whole) later
    (code_behind row_of at (spelling insn) (behind_all ++ rest) target bytes) (omega (arith, small, size)) address)
