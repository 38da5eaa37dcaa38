-- Which instructions of a slot follow one another, as its bytes are decoded.
use Rattle.std.proofs.Common.{◌≡◌, ℕ, ◌+◌, ◌-◌, ◌<◌, List, [], ◌∷◌, ◌++◌, Ok, Err, length, take, drop, refl, ap, sym, ◌∙◌, subst, arith, append_assoc, length-append, length-drop}
use Rattle.std.proofs.lemmas.List.{append-nil}
use Rattle.std.proofs.Math.Seq.{drop-append_seam, take-length}
use Rattle.sb_insn.specs.declared.insn.Insn.{Insn}
use Rattle.sb_insn.specs.Spelling.{spelling}
use Rattle.sb_insn.specs.Grammar.{BeginsWith}
use Rattle.sb_decode.specs.Decode.{Decodes}
use Rattle.sb_decode.specs.declared.fault.DecodeFault.{DecodeFault}
use Rattle.sb_decode.proofs.Exact.{some_spelling, one_begins}
use Rattle.sb_slots.specs.declared.slot.Pass.{Pass}
use Rattle.sb_rewrite.specs.Listing.{spelled_bytes, AllValid}
use Rattle.sb_rewrite.specs.Slots.{moved_insns, IsSlotOf, passes_from, IsSpelled, AddsPasses}
use Rattle.sb_rewrite.proofs.OneListing.{NoneBegins, nothing_begins, same_insns}
use Rattle.sb_rewrite.proofs.Listed.{none_begins}

-- all of a slot's instructions, those that are left, and the passes of those before
pub record PassesSoFar (slot : ℕ) (bytes : List ℕ) (old : List Pass) (from : ℕ) (rest : List ℕ) (now : List Pass) : Type 0 where
  pub all : List Insn
  pub all_valid : AllValid all
  pub whole : bytes ≡ spelled_bytes all
  pub left : List Insn
  pub valid : AllValid left
  pub rest_is : rest ≡ spelled_bytes left
  pub passes : old ++ passes_from slot all ≡ now ++ passes_from from left
  pub place : from + length rest ≡ slot + length bytes

pub none_passed : (slot : ℕ) (bytes : List ℕ) (old : List Pass) → IsSpelled bytes → PassesSoFar slot bytes old slot bytes old
none_passed slot bytes old (insns, valid, whole) = record {
  all = insns;
  all_valid = valid;
  whole = whole;
  left = insns;
  valid = valid;
  rest_is = whole;
  passes = refl;
  place = refl;
}

-- ---- one more instruction

-- what is decoded is the first of those that are left
record Next (rest : List ℕ) (left : List Insn) (insn : Insn) (count : ℕ) : Type 0 where
  others : List Insn
  left_is : left ≡ insn ∷ others
  size : count ≡ length (spelling insn)
  rest_is : take (length rest - count) (drop count rest) ≡ spelled_bytes others

next_of : (rest : List ℕ) (left : List Insn) (insn : Insn) (count : ℕ) → AllValid left → rest ≡ spelled_bytes left
    → Decodes rest (Ok (insn, count)) → Next rest left insn count
unfolding NoneBegins
next_of rest [] insn count valid is (begins, size) =
    absurd (nothing_begins insn (subst (λ (bytes : List ℕ). BeginsWith bytes insn) is begins))
next_of rest (first ∷ others) insn count valid is (begins, size) =
    let same : first ≡ insn = one_begins rest first insn (valid.0, (spelled_bytes others, is)) begins in
    let behind : drop count rest ≡ spelled_bytes others =
    (λ i. drop (size i) (is i))
    ∙ ap (λ (one : Insn). drop (length (spelling one)) (spelling first ++ spelled_bytes others)) (sym same)
    ∙ drop-append_seam (spelling first) (spelled_bytes others) in record {
      others = others;
      left_is = ap (λ (one : Insn). one ∷ others) same;
      size = size;
      rest_is = rw (← length-drop count rest) (take-length (drop count rest)) ∙ behind;
    }

-- the last one has none behind it
last_passes : (from to : ℕ) (insn : Insn) (others : List Insn) → length (spelled_bytes others) ≡ 0
    → passes_from from (insn ∷ others) ≡ passes_from to others
unfolding passes_from
last_passes from to insn [] none = refl
last_passes from to insn (next ∷ left) none =
    absurd (omega (arith, none, length-append (spelling next) (spelled_bytes left), some_spelling next))

-- another one has
more_passes : (from : ℕ) (insn : Insn) (others : List Insn) → 0 < length (spelled_bytes others)
    → passes_from from (insn ∷ others)
    ≡ record { from = from; to = from + length (spelling insn) } ∷ passes_from (from + length (spelling insn)) others
unfolding passes_from
more_passes from insn [] some = absurd (omega (arith, some))
more_passes from insn (next ∷ left) some = refl

-- what stands behind an instruction of so many bytes
abbrev pub tail_of : List ℕ → ℕ → List ℕ
tail_of rest count = take (length rest - count) (drop count rest)

module _ (slot : ℕ) (bytes : List ℕ) (old : List Pass) (from : ℕ) (rest : List ℕ) (now : List Pass)
    (so_far : PassesSoFar slot bytes old from rest now) (insn : Insn) (count : ℕ)
    (decodes : Decodes rest (Ok (insn, count))) where
  next : Next rest so_far.left insn count
  next = next_of rest so_far.left insn count so_far.valid so_far.rest_is decodes

  behind_size : length (tail_of rest count) ≡ length (spelled_bytes next.others)
  behind_size = ap (λ (list : List ℕ). length list) next.rest_is

  -- the passes of those that are left behind it
  gone_on : (new : List Pass) → now ++ passes_from from (insn ∷ next.others) ≡ new ++ passes_from (from + count) next.others
      → PassesSoFar slot bytes old (from + count) (tail_of rest count) new
  gone_on new same = record {
    all = so_far.all;
    all_valid = so_far.all_valid;
    whole = so_far.whole;
    left = next.others;
    valid = (subst (λ (insns : List Insn). AllValid insns) next.left_is so_far.valid).1;
    rest_is = next.rest_is;
    passes = so_far.passes ∙ ap (λ (insns : List Insn). now ++ passes_from from insns) next.left_is ∙ same;
    place =
        omega (
          arith,
          so_far.place,
          next.size,
          behind_size,
          ap (λ (list : List ℕ). length list) so_far.rest_is,
          ap (λ (insns : List Insn). length (spelled_bytes insns)) next.left_is,
          length-append (spelling insn) (spelled_bytes next.others),
        );
  }

  pub last_passed : length (tail_of rest count) ≡ 0 → PassesSoFar slot bytes old (from + count) (tail_of rest count) now
  last_passed none =
      gone_on now (ap (λ (passes : List Pass). now ++ passes)
      (last_passes from (from + count) insn next.others (sym behind_size ∙ none)))

  pub one_passed : 0 < length (tail_of rest count)
      → PassesSoFar slot bytes old (from + count) (tail_of rest count) (now ++ record { from = from; to = from + count } ∷ [])
  one_passed some =
      gone_on (now ++ record { from = from; to = from + count } ∷ [])
      (ap (λ (passes : List Pass). now ++ passes) (more_passes from insn next.others (omega (arith, some, behind_size)))
      ∙ (λ i. now ++ (record { from = from; to = from + sym next.size i } ∷ passes_from (from + sym next.size i) next.others))
      ∙ sym (append_assoc now (record { from = from; to = from + count } ∷ []) (passes_from (from + count) next.others)))

-- ---- all of them

-- what spells bytes is one list of instructions
pub same_spelled : (firsts seconds : List Insn) → AllValid firsts → AllValid seconds
    → spelled_bytes firsts ≡ spelled_bytes seconds → firsts ≡ seconds
same_spelled firsts seconds valid valid' same =
    same_insns firsts seconds [] [] valid valid' nothing_begins nothing_begins
    (append-nil (spelled_bytes firsts) ∙ same ∙ sym (append-nil (spelled_bytes seconds)))

-- where nothing can be decoded, none is left
none_left : (rest : List ℕ) (left : List Insn) (fault : DecodeFault) → AllValid left → rest ≡ spelled_bytes left
    → Decodes rest (Err fault) → left ≡ []
none_left rest [] fault valid is decodes = refl
none_left rest (insn ∷ others) fault valid is decodes =
    absurd (none_begins rest fault decodes insn (valid.0, (spelled_bytes others, is)))

pub all_passed : (slot : ℕ) (bytes : List ℕ) (old : List Pass) (from : ℕ) (rest : List ℕ) (now : List Pass) (fault : DecodeFault)
    → PassesSoFar slot bytes old from rest now → Decodes rest (Err fault) → AddsPasses slot bytes old now
unfolding passes_from AddsPasses
all_passed slot bytes old from rest now fault so_far decodes insns valid whole =
    let none : so_far.left ≡ [] = none_left rest so_far.left fault so_far.valid so_far.rest_is decodes in
    let same : so_far.all ≡ insns = same_spelled so_far.all insns so_far.all_valid valid (sym so_far.whole ∙ whole) in
    sym (append-nil now)
    ∙ sym (ap (λ (left : List Insn). now ++ passes_from from left) none)
    ∙ sym so_far.passes
    ∙ ap (λ (all : List Insn). old ++ passes_from slot all) same

-- those of the slot of a moved instruction
pub slot_passes : (insn : Insn) (at slot : ℕ) (bytes : List ℕ) (old new : List Pass) → IsSlotOf insn at slot bytes
    → AddsPasses slot bytes old new → new ≡ old ++ passes_from slot (moved_insns insn at slot)
unfolding AddsPasses
slot_passes insn at slot bytes old new is adds = adds (moved_insns insn at slot) is.valid is.spelled
