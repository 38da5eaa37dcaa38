-- Each address of a rewritten text and of its area lies where its position says, instruction by instruction.
use Rattle.std.proofs.Common.{◌≡◌, ◌∙◌, sym, ap, subst, ℕ, ◌+◌, ◌-◌, ◌<◌, ◌≤◌, List, [], ◌∷◌, length, replicate, refl, arith, length-append, inl, inr}
use Rattle.std.specs.Prelude.{nat_lt, flat_map, if◌then◌else◌}
use Rattle.std.specs.List.{AllByRecursion}
use Rattle.std.proofs.lemmas.Bool.{cond-true, cond-false, cases_lt, lt-ltb, le-ltb}
use Rattle.sb_insn.specs.declared.insn.Insn.{Insn}
use Rattle.sb_insn.specs.Spelling.{spelling}
use Rattle.sb_exec.specs.Rows.{row_of}
use Rattle.sb_forms.specs.declared.answer.Form.{Form}
use Rattle.sb_forms.specs.declared.answer.Form.TheVariants as form
use Rattle.sb_forms.specs.Pieces.{jump_insn}
use Rattle.sb_forms.proofs.Small.{jump_5}
use Rattle.std.proofs.lemmas.List.{length-replicate}
use Rattle.sb_forms.specs.Answers.{IsSite, HasRoom, area_end}
use Rattle.sb_forms.specs.Places.{HasForm}
use Rattle.sb_forms.specs.Table.{spelled_bytes, bytes_of, site_of, form_of}
use Rattle.sb_forms.proofs.Room.{form_roomy}
use Rattle.sb_rewrite.specs.Listing.{text_address, AllValid}
use Rattle.sb_rewrite.specs.Placing.{slot_bytes, is_after_0f, places_from}
use Rattle.sb_rewrite.specs.RewrittenText.{text_bytes, text_bytes_by, area_bytes}
use Rattle.sb_rewrite.specs.Rewriting.{NoneOf, EndsBehindArea}
use Rattle.sb_original.specs.Going.{original_row}
use Rattle.sb_origin_run.specs.Machine.{Code}
use Rattle.sb_origin_run.specs.Position.{Position}
use Rattle.sb_origin_run.specs.Text.{IsPlaced}
use Rattle.sb_origin_text.specs.Positions.{in_place, in_slot, replacement_at, slot_size, text_position, area_position}
use Rattle.sb_origin_text.specs.Codes.{HasBytes}
use Rattle.sb_forms.proofs.ValidForms.{replacements_valid}
use Rattle.sb_origin_text.proofs.Spelled.{first_code, code_behind}
use Rattle.sb_origin_text.proofs.Placed.{IsOne, has_post, text_one, slot_one}

-- ---- tests of addresses

before : {A : Type 0} (address bound : ℕ) (one other : A) → address < bound → (if nat_lt address bound then one else other) ≡ one
before address bound one other less = cond-true (nat_lt address bound) one other (lt-ltb address bound less)

after : {A : Type 0} (address bound : ℕ) (one other : A) → bound ≤ address → (if nat_lt address bound then one else other) ≡ other
after address bound one other more = cond-false (nat_lt address bound) one other (le-ltb address bound more)

by_bound : (Claim : Position → Type 0) (address bound : ℕ) (one other : Position) → Claim one → Claim other
    → Claim (if nat_lt address bound then one else other)
by_bound Claim address bound one other first rest = elim (cases_lt address bound) [
  | inl less ↦ subst Claim (sym (before address bound one other less)) first
  | inr more ↦ subst Claim (sym (after address bound one other more)) rest
]

-- ---- all instructions from one on

-- what is known of them
pub record AreAll (target source : Code) (place : ℕ → Position) (text : List ℕ) (at slot : ℕ) (insns : List Insn) : Type 0 where
  pub valid : AllValid insns
  pub forms : AllByRecursion HasForm insns
  pub low : text_address ≤ at
  pub high : at + length (spelled_bytes insns) ≤ 0x600000
  pub fits : NoneOf EndsBehindArea (places_from text at slot insns)
  pub original : HasBytes original_row at (spelled_bytes insns) source
  pub text_bytes : HasBytes row_of at (flat_map text_bytes (places_from text at slot insns)) target
  pub area_bytes : HasBytes row_of slot (flat_map area_bytes (places_from text at slot insns)) target
  pub in_text : (address : ℕ) → at ≤ address → address < at + length (spelled_bytes insns)
      → place address ≡ text_position text at slot insns address
  pub in_area : (address : ℕ) → slot ≤ address → address < area_end → place address ≡ area_position text at slot insns address

more_spelled : (insn : Insn) (insns : List Insn)
    → length (spelled_bytes (insn ∷ insns)) ≡ length (spelling insn) + length (spelled_bytes insns)
more_spelled insn insns = length-append (spelling insn) (spelled_bytes insns)

-- the slots of the rest begin where this one ends
abbrev next_slot : List ℕ → ℕ → ℕ → Insn → ℕ
next_slot text at slot insn = slot + slot_size (replacement_at text at slot insn)

-- the first one
first_one : (target source : Code) (place : ℕ → Position) (text : List ℕ) (at slot : ℕ) (insn : Insn) (insns : List Insn)
    → AreAll target source place text at slot (insn ∷ insns)
    → IsOne target source place insn at slot (is_after_0f text at) (replacement_at text at slot insn)
    (flat_map text_bytes (places_from text (at + length (spelling insn)) (next_slot text at slot insn) insns))
    (flat_map area_bytes (places_from text (at + length (spelling insn)) (next_slot text at slot insn) insns))
unfolding places_from form_of text_position area_position
first_one target source place text at slot insn insns all =
    let form = replacement_at text at slot insn in
    let size = more_spelled insn insns in
    let end : slot + slot_size form ≤ area_end = omega (arith, all.fits.0) in
    let site : IsSite (site_of insn at slot) = record {
      behind = omega (arith, all.low);
      next = omega (arith, all.high, size);
      slot = omega (arith, end);
    } in
    record {
      made = refl;
      valid = all.valid.0;
      has_form = all.forms.0;
      site = site;
      room = form_roomy insn at slot (is_after_0f text at) (bytes_of form) all.valid.0 refl;
      parts = replacements_valid insn (site_of insn at slot) (is_after_0f text at) all.valid.0 site;
      post = has_post insn (site_of insn at slot) (is_after_0f text at) all.valid.0;
      original = first_code original_row at insn (spelled_bytes insns) source all.valid.0 all.original;
      text = all.text_bytes;
      area = all.area_bytes;
      end = end;
      in_text = λ address low high.
          all.in_text address low (omega (arith, high, size))
          ∙ before address (at + length (spelling insn)) (in_place form insn at slot address)
          (text_position text (at + length (spelling insn)) (slot + slot_size form) insns address) high;
      in_area = λ address low high.
          all.in_area address low (omega (arith, high, end))
          ∙ before address (slot + slot_size form) (in_slot form insn at slot address)
          (area_position text (at + length (spelling insn)) (slot + slot_size form) insns address) high;
    }

-- in place of an instruction stand as many bytes
bytes_size : (made : Form) (insn : Insn) (at slot : ℕ) → HasRoom insn made
    → length (text_bytes_by made (record { insn = insn; at = at; slot = slot; form = made })) ≡ length (spelling insn)
bytes_size form.Keep insn at slot room = refl
bytes_size (form.InPlace bytes) insn at slot room = room
bytes_size (form.Moved pre main post) insn at slot room =
    omega (
      arith,
      room.0,
      jump_5 at slot,
      length-append (spelling (jump_insn at slot)) (replicate (length (spelling insn) - 5) 0x90),
      length-replicate {A = ℕ} (length (spelling insn) - 5) 0x90,
    )
bytes_size form.Unmovable insn at slot room = refl

-- the others
others : (target source : Code) (place : ℕ → Position) (text : List ℕ) (at slot : ℕ) (insn : Insn) (insns : List Insn)
    → AreAll target source place text at slot (insn ∷ insns)
    → AreAll target source place text (at + length (spelling insn)) (next_slot text at slot insn) insns
unfolding places_from form_of text_position area_position
others target source place text at slot insn insns all =
    let form = replacement_at text at slot insn in
    let size = more_spelled insn insns in
    let next = at + length (spelling insn) in
    let later = slot + slot_size form in
    let one = text_bytes_by (bytes_of form) (record { insn = insn; at = at; slot = slot; form = bytes_of form }) in
    let room : HasRoom insn (bytes_of form) =
    form_roomy insn at slot (is_after_0f text at) (bytes_of form) all.valid.0 refl in
    let same : at + length one ≡ next = ap (λ (n : ℕ). at + n) (bytes_size (bytes_of form) insn at slot room) in
    record {
      valid = all.valid.1;
      forms = all.forms.1;
      low = omega (arith, all.low);
      high = omega (arith, all.high, size);
      fits = all.fits.1;
      original = code_behind original_row at (spelling insn) (spelled_bytes insns) source all.original;
      text_bytes = subst (λ (n : ℕ). HasBytes row_of n (flat_map text_bytes (places_from text next later insns)) target) same
          (code_behind row_of at one (flat_map text_bytes (places_from text next later insns)) target all.text_bytes);
      area_bytes =
          code_behind row_of slot (slot_bytes (bytes_of form)) (flat_map area_bytes (places_from text next later insns)) target
          all.area_bytes;
      in_text = λ address low high.
          all.in_text address (omega arith) (omega (arith, high, size))
          ∙ after address next (in_place form insn at slot address) (text_position text next later insns address) low;
      in_area = λ address low high.
          all.in_area address (omega arith) high
          ∙ after address later (in_slot form insn at slot address) (area_position text next later insns address) low;
    }

-- each address
pub all_in_text : (target source : Code) (place : ℕ → Position) (text : List ℕ) (at slot : ℕ) (insns : List Insn)
    → AreAll target source place text at slot insns → (address : ℕ)
    → IsPlaced target source place address (text_position text at slot insns address)
unfolding text_position
all_in_text target source place text at slot [] all address = tt
all_in_text target source place text at slot (insn ∷ insns) all address =
    by_bound (IsPlaced target source place address) address (at + length (spelling insn))
    (in_place (replacement_at text at slot insn) insn at slot address)
    (text_position text (at + length (spelling insn)) (next_slot text at slot insn) insns address)
    (text_one target source place insn at slot (is_after_0f text at) (replacement_at text at slot insn) _ _
    (first_one target source place text at slot insn insns all) address)
    (all_in_text target source place text (at + length (spelling insn)) (next_slot text at slot insn) insns
    (others target source place text at slot insn insns all) address)

pub all_in_area : (target source : Code) (place : ℕ → Position) (text : List ℕ) (at slot : ℕ) (insns : List Insn)
    → AreAll target source place text at slot insns → (address : ℕ)
    → IsPlaced target source place address (area_position text at slot insns address)
unfolding area_position
all_in_area target source place text at slot [] all address = tt
all_in_area target source place text at slot (insn ∷ insns) all address =
    by_bound (IsPlaced target source place address) address (next_slot text at slot insn)
    (in_slot (replacement_at text at slot insn) insn at slot address)
    (area_position text (at + length (spelling insn)) (next_slot text at slot insn) insns address)
    (slot_one target source place insn at slot (is_after_0f text at) (replacement_at text at slot insn) _ _
    (first_one target source place text at slot insn insns all) address)
    (all_in_area target source place text (at + length (spelling insn)) (next_slot text at slot insn) insns
    (others target source place text at slot insn insns all) address)
