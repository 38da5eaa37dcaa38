-- The bytes of VMFUNC stand nowhere in what a text becomes.
use Rattle.std.proofs.Common.{◌≡◌, ℕ, suc, ◌+◌, ◌-◌, ◌<◌, ◌≤◌, Bool, true, false, List, [], ◌∷◌, ◌++◌, length, get_or}
use Rattle.std.proofs.Common.{replicate, refl, ap, sym, ◌∙◌, subst, arith, length-append, append_assoc}
use Rattle.std.specs.Prelude.{◌==◌, ◌&&◌, nat_lt, flat_map, slice_index}
use Rattle.std.proofs.lemmas.Bool.{and_parts, and_from, both_ways, eqb-true, eq-eqb, false_from_ne_true, false≢true, lt-ltb}
use Rattle.std.proofs.lemmas.List.{append-nil}
use Rattle.sb_insn.specs.declared.insn.Insn.{Insn}
use Rattle.sb_insn.specs.Spelling.{spelling}
use Rattle.sb_insn.specs.Grammar.{IsValid}
use Rattle.sb_scan.specs.Holding.{holds_pattern}
use Rattle.sb_scan.specs.Pattern.{HasNoPattern}
use Rattle.sb_forms.specs.declared.answer.Form.{Form}
use Rattle.sb_forms.specs.declared.answer.Form.TheVariants as form
use Rattle.sb_forms.specs.Answers.{IsSite, IsClean, IsCleanForm, HasRoom}
use Rattle.sb_forms.specs.Borders.{ends_with_0f, EndsNoPattern, HasBorders}
use Rattle.sb_forms.specs.Pieces.{jump_insn}
use Rattle.sb_forms.specs.Table.{is_add_esp_edx, completes_pattern, site_of}
use Rattle.sb_forms.proofs.Across.{across_border}
use Rattle.sb_forms.proofs.CleanForms.{form_clean}
use Rattle.sb_forms.proofs.Held.{none_held, not_held}
use Rattle.sb_forms.proofs.Joints.{ends_after, forms_border, IsWayToArea, jump_quiet, jump_ends}
use Rattle.sb_forms.proofs.Quiet.{IsQuiet, joined}
use Rattle.sb_forms.proofs.Room.{form_roomy}
use Rattle.sb_forms.proofs.Small.{jump_5}
use Rattle.sb_decode.proofs.Exact.{some_spelling}
use Rattle.sb_rewrite.specs.Listing.{text_address, spelled_bytes, AllValid}
use Rattle.sb_rewrite.specs.Placing.{Placement, slot_bytes, is_after_0f, place, places_from, places, area_address}
use Rattle.sb_rewrite.specs.RewrittenText.{RewrittenText, text_bytes, text_bytes_by, area_bytes, rewritten_text}
use Rattle.sb_rewrite.specs.Rewriting.{IsUnmovable, EndsBehindArea, NoneOf, IsFree, LeavesNone}
use Rattle.sb_rewrite.specs.Turns.{IsAllPut}
use Rattle.sb_rewrite.proofs.Around.{clean_around}

-- ---- the byte before an instruction

-- bytes that end with 0F have it last
last_byte : (bytes behind : List ℕ) → ends_with_0f bytes ≡ true
    → (k : ℕ) × (length bytes ≡ suc k) × (get_or (bytes ++ behind) k 0 ≡ 0x0F)
last_byte [] behind e = absurd (false≢true e)
last_byte (byte ∷ []) behind e = (0, refl, eqb-true byte 0x0F e)
last_byte (byte ∷ next ∷ rest) behind e =
    let found = last_byte (next ∷ rest) behind e in (suc found.0, ap (λ (n : ℕ). suc n) found.1, found.2)

-- where the instructions before an address end with 0F, the byte before it is 0F
after_last : (text bytes behind : List ℕ) (at : ℕ) → text ≡ bytes ++ behind → at ≡ text_address + length bytes
    → ends_with_0f bytes ≡ true → is_after_0f text at ≡ true
after_last text bytes behind at whole here e =
    let found = last_byte bytes behind e in
    let place : at - text_address - 1 ≡ found.0 = omega (arith, here, found.1) in
    let byte : slice_index text (at - text_address - 1) ≡ 0x0F =
    (λ i. slice_index (whole i) (place i)) ∙ found.2 in
    and_from (nat_lt text_address at) (slice_index text (at - text_address - 1) == 0x0F)
    (lt-ltb text_address at (omega (arith, here, found.1))) (eq-eqb _ 0x0F byte)

-- ---- one more instruction

-- what was made of the instructions before an address: nothing holds the pattern, and the text ends with 0F only where they do
pub record IsFreeSoFar (before made slots : List ℕ) : Type 0 where
  pub text : holds_pattern made ≡ false
  pub ends : ends_with_0f made ≡ true → ends_with_0f before ≡ true
  pub area : holds_pattern slots ≡ false

-- bytes behind others end as they do alone
ends_on : (before made bytes insn_bytes : List ℕ) → 0 < length bytes
    → (ends_with_0f bytes ≡ true → ends_with_0f insn_bytes ≡ true)
    → ends_with_0f (made ++ bytes) ≡ true → ends_with_0f (before ++ insn_bytes) ≡ true
ends_on before made [] insn_bytes some alike e = absurd (omega (arith, some))
ends_on before made (byte ∷ rest) [] some alike e = absurd (false≢true (alike (sym (ends_after made byte rest) ∙ e)))
ends_on before made (byte ∷ rest) (first ∷ others) some alike e =
    ends_after before first others ∙ alike (sym (ends_after made byte rest) ∙ e)

-- bytes that hold no pattern with CC around them hold none alone
clean_alone : (bytes : List ℕ) → IsClean bytes → holds_pattern bytes ≡ false
clean_alone bytes clean =
    ap (λ (all : List ℕ). holds_pattern all) (sym (append-nil bytes)) ∙ none_held (bytes ++ []) (clean 0 0)

quiet_bytes : (bytes : List ℕ) → IsClean bytes → EndsNoPattern bytes → IsQuiet bytes
quiet_bytes bytes clean borders = record { none = clean_alone bytes clean; two = borders.two; one = borders.one }

-- 01 D4 is kept only where no 0F stands before it
kept_border : (insn : Insn) (after_0f : Bool) (before made slots : List ℕ) → completes_pattern insn after_0f ≡ false
    → IsFreeSoFar before made slots → (ends_with_0f before ≡ true → after_0f ≡ true)
    → (ends_with_0f made && is_add_esp_edx insn) ≡ false
kept_border insn after_0f before made slots other so_far after =
    false_from_ne_true (ends_with_0f made && is_add_esp_edx insn) (λ both.
    let parts = and_parts (ends_with_0f made) (is_add_esp_edx insn) both in
    both_ways (completes_pattern insn after_0f) other
    (and_from (is_add_esp_edx insn) after_0f parts.1 (after (so_far.ends parts.0))))

one_more : (made_form : Form) (insn : Insn) (at slot : ℕ) (after_0f : Bool) (before made slots : List ℕ)
    → IsValid insn → HasBorders insn after_0f made_form → IsCleanForm insn made_form → HasRoom insn made_form
    → ¬ (made_form ≡ form.Unmovable) → IsWayToArea at slot → (ends_with_0f before ≡ true → after_0f ≡ true)
    → IsFreeSoFar before made slots
    → IsFreeSoFar (before ++ spelling insn)
    (made ++ text_bytes_by made_form (record { insn = insn; at = at; slot = slot; form = made_form }))
    (slots ++ slot_bytes made_form)
one_more form.Keep insn at slot after_0f before made slots valid borders clean room movable way after so_far = record {
  text = across_border made insn valid so_far.text (none_held (spelling insn) clean)
      (kept_border insn after_0f before made slots borders so_far after);
  ends = ends_on before made (spelling insn) (spelling insn) (some_spelling insn) (λ e. e);
  area = ap (λ (bytes : List ℕ). holds_pattern bytes) (append-nil slots) ∙ so_far.area;
}
one_more (form.InPlace bytes) insn at slot after_0f before made slots valid borders clean room _ _ _ so_far = record {
  text = joined made bytes so_far.text (quiet_bytes bytes clean borders.0);
  ends = ends_on before made bytes (spelling insn) (omega (arith, room, some_spelling insn)) borders.1;
  area = ap (λ (bytes : List ℕ). holds_pattern bytes) (append-nil slots) ∙ so_far.area;
}
one_more (form.Moved pre main post) insn at slot after_0f before made slots valid borders clean room movable way after so_far =
    let nops = length (spelling insn) - 5 in
    let jump = spelling (jump_insn at slot) ++ replicate nops 0x90 in record {
      text = joined made jump so_far.text (jump_quiet at slot nops way);
      ends = ends_on before made jump (spelling insn)
          (omega (arith, jump_5 at slot, length-append (spelling (jump_insn at slot)) (replicate nops 0x90)))
          (λ e. absurd (false≢true (sym (jump_ends at slot nops way) ∙ e)));
      area = joined slots (pre ++ (main ++ post)) so_far.area (quiet_bytes (pre ++ (main ++ post)) clean borders);
    }
one_more form.Unmovable insn at slot after_0f before made slots valid borders clean room movable way after so_far =
    absurd (movable refl)

-- ---- all instructions

-- nothing holds the pattern with this behind it
pub record AreFree (made slots : List ℕ) (of_text : List Placement) : Type 0 where
  pub text : holds_pattern (made ++ flat_map text_bytes of_text) ≡ false
  pub area : holds_pattern (slots ++ flat_map area_bytes of_text) ≡ false

-- from one instruction on
free_from : (text before made slots : List ℕ) (at slot : ℕ) (insns : List Insn) → length text ≤ 2097152 → AllValid insns
    → text ≡ before ++ spelled_bytes insns → at ≡ text_address + length before
    → NoneOf IsUnmovable (places_from text at slot insns) → NoneOf EndsBehindArea (places_from text at slot insns)
    → IsFreeSoFar before made slots → AreFree made slots (places_from text at slot insns)
unfolding places_from
free_from text before made slots at slot [] size valid whole here movable fits so_far = record {
  text = ap (λ (bytes : List ℕ). holds_pattern bytes) (append-nil made) ∙ so_far.text;
  area = ap (λ (bytes : List ℕ). holds_pattern bytes) (append-nil slots) ∙ so_far.area;
}
free_from text before made slots at slot (insn ∷ insns) size valid whole here movable fits so_far =
    let after_0f = is_after_0f text at in
    let first : Placement = place text at slot insn in
    let next : ℕ = at + length (spelling insn) in
    let next_slot : ℕ = slot + length (slot_bytes first.form) in
    let later : List Placement = places_from text next next_slot insns in
    let long : length (before ++ (spelling insn ++ spelled_bytes insns)) ≤ 2097152 =
    subst (λ (bytes : List ℕ). length bytes ≤ 2097152) whole size in
    let size_here = length-append before (spelling insn ++ spelled_bytes insns) in
    let size_behind = length-append (spelling insn) (spelled_bytes insns) in
    let room : slot ≤ 0x11000 = omega (arith, fits.0) in
    let site : IsSite (site_of insn at slot) = record {
      behind = omega (arith, here);
      next = omega (arith, here, long, size_here, size_behind);
      slot = omega (arith, room);
    } in
    let way : IsWayToArea at slot = record {
      low = omega (arith, here);
      high = omega (arith, here, long, size_here);
      area = room;
    } in
    let made_here = made ++ text_bytes first in
    let slots_here = slots ++ area_bytes first in
    let more : IsFreeSoFar (before ++ spelling insn) made_here slots_here =
    one_more first.form insn at slot after_0f before made slots valid.0 (forms_border insn at slot after_0f valid.0)
    (form_clean insn at slot after_0f first.form valid.0 site refl)
    (form_roomy insn at slot after_0f first.form valid.0 refl) movable.0 way
    (after_last text before (spelling insn ++ spelled_bytes insns) at whole here) so_far in
    let others =
    free_from text (before ++ spelling insn) made_here slots_here next next_slot insns size valid.1
    (whole ∙ sym (append_assoc before (spelling insn) (spelled_bytes insns)))
    (omega (arith, here, length-append before (spelling insn))) movable.1 fits.1 more in
    let text_whole = append_assoc made (text_bytes first) (flat_map text_bytes later) in
    let area_whole = append_assoc slots (area_bytes first) (flat_map area_bytes later) in record {
      text = ap (λ (bytes : List ℕ). holds_pattern bytes) (sym text_whole) ∙ others.text;
      area = ap (λ (bytes : List ℕ). holds_pattern bytes) (sym area_whole) ∙ others.area;
    }

nothing_free : IsFreeSoFar [] [] []
unfolding holds_pattern
nothing_free = record { text = refl; ends = λ e. e; area = refl }

-- nothing holds the pattern
abbrev HoldsNone : RewrittenText → Type 0
HoldsNone made = HasNoPattern made.text × HasNoPattern made.area

-- nor does what was made of all instructions of a text
pub none_made : (text : List ℕ) (draft : RewrittenText) → length text ≤ 2097152 → IsAllPut text draft → HoldsNone draft
none_made text draft size (of_text, are, fits, is) =
    let of_all : List Placement = places text are.insns in
    let all : AreFree [] [] of_all =
    free_from text [] [] [] text_address area_address are.insns size are.valid are.whole (omega arith)
    (subst (λ (list : List Placement). NoneOf IsUnmovable list) are.places_are fits.0.1)
    (subst (λ (list : List Placement). NoneOf EndsBehindArea list) are.places_are fits.1) nothing_free in
    subst (λ (one : RewrittenText). HoldsNone one) (sym is)
    (subst (λ (list : List Placement). HoldsNone (rewritten_text list)) (sym are.places_are)
    (not_held (flat_map text_bytes of_all) all.text, not_held (flat_map area_bytes of_all) all.area))

-- bytes CC around the text or the area do not change that
pub made_free : (text : List ℕ) (draft : RewrittenText) → length text ≤ 2097152 → IsAllPut text draft → IsFree draft
made_free text draft size all_put =
    let none = none_made text draft size all_put in
    (clean_around draft.text none.0, clean_around draft.area none.1)

pub leaves_none : LeavesNone
leaves_none text made size all_put = made_free text made size all_put
