-- What the rewriter made of a text is made of the original code.
use Rattle.std.proofs.Common.{◌≡◌, ◌∙◌, ap, subst, ℕ, ◌+◌, ◌<◌, ◌≤◌, Bool, true, false, List, [], ◌∷◌, length, arith, length-append}
use Rattle.std.specs.Prelude.{nat_le, nat_lt, if◌then◌else◌}
use Rattle.std.specs.List.{AllByRecursion, Contains}
use Rattle.std.proofs.lemmas.Bool.{cond-true, cond-false, cond_both, lt-ltb, le-leb, and_from, and_left, lt-leb}
use Rattle.sb_insn.specs.declared.insn.Insn.{Insn}
use Rattle.sb_insn.specs.Spelling.{spelling}
use Rattle.sb_decode.proofs.Exact.{some_spelling}
use Rattle.sb_original.specs.Going.{original_row}
use Rattle.sb_origin_text.specs.Codes.{HasBytes}
use Rattle.sb_forms.specs.Answers.{area_end}
use Rattle.sb_forms.specs.Places.{HasForm}
use Rattle.sb_forms.specs.Table.{spelled_bytes}
use Rattle.sb_forms.proofs.Where.{not_in_jumps}
use Rattle.sb_rewrite.specs.Listing.{text_address, AllValid}
use Rattle.sb_rewrite.specs.Placing.{Placement, area_address, places_from, places}
use Rattle.sb_rewrite.specs.RewrittenText.{rewritten_text, starts_of}
use Rattle.sb_rewrite.specs.Rewriting.{FitsArea, NoneOf, HasBadTarget}
use Rattle.sb_rewrite.proofs.Jumps.{AreInText, jump_free, starts_within}
use Rattle.sb_rewrite.proofs.Placed.{starts_placed}
use Rattle.sb_origin_run.specs.Machine.{Code}
use Rattle.sb_origin_run.specs.Position.{Position, Same}
use Rattle.sb_origin_run.specs.Text.{IsPlaced}
use Rattle.sb_origin_text.specs.Positions.{is_in_text, is_in_area, text_position, area_position, position}
use Rattle.sb_origin_text.specs.Codes.{AreCodes, IsListed, TextIsMade, RewritingListed}
use Rattle.sb_origin_text.proofs.Texts.{AreAll, all_in_text, all_in_area}

-- ---- instructions that lead where they may have a form

forms_from : (text : List ℕ) (starts : List ℕ) (at slot : ℕ) (insns : List Insn) → AllValid insns → text_address ≤ at
    → at + length (spelled_bytes insns) ≤ 0x600000 → AreInText starts
    → NoneOf (HasBadTarget starts) (places_from text at slot insns) → AllByRecursion HasForm insns
unfolding places_from
forms_from text starts at slot [] valid low high within leads = tt
forms_from text starts at slot (insn ∷ insns) valid low high within leads =
    let size = length-append (spelling insn) (spelled_bytes insns) in (
      jump_free not_in_jumps insn at starts valid.0 (omega (arith, low)) (omega (arith, high, size, some_spelling insn)) within
          leads.0,
      forms_from text starts (at + length (spelling insn)) _ insns valid.1 (omega (arith, low)) (omega (arith, high, size)) within
          leads.1,
    )

starts_in_text : (text : List ℕ) (insns : List Insn) → length text ≤ 2097152 → text ≡ spelled_bytes insns
    → AreInText (starts_of (places text insns))
starts_in_text text insns size whole start held =
    let same : length text ≡ length (spelled_bytes insns) = ap length whole in
    let range = starts_within text_address insns start
    (subst (λ (list : List ℕ). Contains list start) (starts_placed text text_address area_address insns) held) in
    (range.0, omega (arith, range.1, size, same))

-- ---- positions

in_text_test : (text : List ℕ) (address : ℕ) → text_address ≤ address → address < text_address + length text
    → is_in_text text address ≡ true
in_text_test text address low high =
    and_from (nat_le text_address address) (nat_lt address (text_address + length text)) (le-leb text_address address low)
    (lt-ltb address (text_address + length text) high)

not_in_text : (text : List ℕ) (address : ℕ) → address < area_end → is_in_text text address ≡ false
not_in_text text address high =
    and_left (nat_le text_address address) (nat_lt address (text_address + length text))
    (lt-leb text_address address (omega (arith, high)))

in_area_test : (address : ℕ) → area_address ≤ address → address < area_end → is_in_area address ≡ true
in_area_test address low high =
    and_from (nat_le area_address address) (nat_lt address area_end) (le-leb area_address address low)
    (lt-ltb address area_end high)

at_text : (text : List ℕ) (insns : List Insn) (address : ℕ) → text_address ≤ address → address < text_address + length text
    → position text insns address ≡ text_position text text_address area_address insns address
unfolding position
at_text text insns address low high =
    cond-true (is_in_text text address) _ _ (in_text_test text address low high)

at_area : (text : List ℕ) (insns : List Insn) (address : ℕ) → area_address ≤ address → address < area_end
    → position text insns address ≡ area_position text text_address area_address insns address
unfolding position
at_area text insns address low high =
    cond-false (is_in_text text address) _ _ (not_in_text text address high)
    ∙ cond-true (is_in_area address) _ _ (in_area_test address low high)

all_of : (text : List ℕ) (insns : List Insn) (target source : Code) → IsListed text insns
    → AreCodes text (rewritten_text (places text insns)) target source
    → AreAll target source (position text insns) text text_address area_address insns
all_of text insns target source listed codes =
    let same : length text ≡ length (spelled_bytes insns) = ap length listed.whole in
    record {
      valid = listed.valid;
      forms =
          forms_from text (starts_of (places text insns)) text_address area_address insns listed.valid (omega arith)
          (omega (arith, listed.size, same)) (starts_in_text text insns listed.size listed.whole) listed.fits.0.0;
      low = omega arith;
      high = omega (arith, listed.size, same);
      fits = listed.fits.1;
      original = subst (λ (bytes : List ℕ). HasBytes original_row text_address bytes source) listed.whole codes.original;
      text_bytes = codes.text_bytes;
      area_bytes = codes.area_bytes;
      in_text = λ address low high. at_text text insns address low (omega (arith, high, same));
      in_area = λ address low high. at_area text insns address low high;
    }

by_test : (Claim : Position → Type 0) (test : Bool) (one other : Position) → (test ≡ true → Claim one) →
    (test ≡ false → Claim other)
    → Claim (if test then one else other)
by_test Claim test one other first second = cond_both test one other Claim first second

pub text_is_made : TextIsMade
unfolding position
text_is_made text insns target source listed codes address =
    let all = all_of text insns target source listed codes in
    by_test (IsPlaced target source (position text insns) address) (is_in_text text address)
    (text_position text text_address area_address insns address)
    (if is_in_area address then area_position text text_address area_address insns address else Same)
    (λ _. all_in_text target source (position text insns) text text_address area_address insns all address)
    (λ out. by_test (IsPlaced target source (position text insns) address) (is_in_area address)
    (area_position text text_address area_address insns address) Same
    (λ _. all_in_area target source (position text insns) text text_address area_address insns all address)
    (λ beside. codes.elsewhere address out beside))

-- ---- the instructions of a text that is rewritten

pub rewriting_listed : RewritingListed
rewriting_listed text made size (of_text, are, fits, is) = (
  are.insns,
  record {
    size = size;
    valid = are.valid;
    whole = are.whole;
    fits = subst (λ (list : List Placement). FitsArea list) are.places_are fits;
  },
  is ∙ ap (λ (list : List Placement). rewritten_text list) are.places_are,
)
