-- Starts come in order, and so do moves and slots.
use Rattle.std.proofs.Common.{◌≡◌, ℕ, ◌+◌, ◌<◌, Bool, List, [], ◌∷◌, ◌++◌, length, refl, ap, sym, subst, arith, length-append}
use Rattle.std.specs.Prelude.{map, flat_map}
use Rattle.std.specs.List.Sorted.{IsStrictlyIncreasing}
use Rattle.sb_insn.specs.declared.insn.Insn.{Insn}
use Rattle.sb_insn.specs.Spelling.{spelling}
use Rattle.sb_forms.specs.declared.answer.Form.{Form}
use Rattle.sb_forms.specs.declared.answer.Form.TheVariants as form
use Rattle.sb_forms.specs.Table.{Replacement, Keep, InPlace, Moved, Unmovable, replacement, bytes_of, site_of, form_of}
use Rattle.sb_rewrite.specs.declared.edit.Move.{Move}
use Rattle.sb_rewrite.specs.Listing.{text_address}
use Rattle.sb_rewrite.specs.Placing.{Placement, slot_bytes, is_after_0f, places_from, places, area_address}
use Rattle.sb_rewrite.specs.RewrittenText.{rewritten_text, moves_of, moves_by, IsOrdered}
use Rattle.sb_rewrite.specs.Rewriting.{ArePlaces}
use Rattle.sb_rewrite.proofs.OneListing.{rises}
use Rattle.sb_rewrite.proofs.Placed.{starts_placed}
use Rattle.sb_rewrite.proofs.Originals.{start_of, main_of}
use Rattle.sb_rewrite.proofs.Rising.{Rising, rising_from, increasing}
use Rattle.sb_rewrite.proofs.OrderedSlots.{slots_are_moves, passes_rise, vmfuncs_rise}
use Rattle.sb_decode.proofs.Exact.{some_spelling}

-- a moved instruction has a main
some_main : (one : Replacement) (pre main post : List ℕ) → bytes_of one ≡ form.Moved pre main post → 0 < length main
some_main Keep pre main post is = absurd cc
some_main (InPlace insns) pre main post is = absurd cc
some_main (Moved first insn last) pre main post is =
    let same : spelling insn ≡ main = cc is in
    omega (arith, some_spelling insn, ap length same)
some_main Unmovable pre main post is = absurd cc

abbrev has_main : Form → Type 0
has_main (form.Moved pre main post) = 0 < length main
has_main _ = Unit {0}

by_form : (one : Replacement) (made : Form) → bytes_of one ≡ made → has_main made
by_form one form.Keep is = tt
by_form one (form.InPlace bytes) is = tt
by_form one (form.Moved pre main post) is = some_main one pre main post is
by_form one form.Unmovable is = tt

form_has_main : (insn : Insn) (at slot : ℕ) (after_0f : Bool) → has_main (form_of insn at slot after_0f)
unfolding form_of
form_has_main insn at slot after_0f =
    by_form (replacement insn (site_of insn at slot) after_0f) (bytes_of (replacement insn (site_of insn at slot) after_0f)) refl

-- the move of an instruction, if it has one, before those of later ones
first_start : (made : Form) (insn : Insn) (at slot next : ℕ) (later : List Move) → at < next → Rising next (map start_of later)
    → Rising at (map start_of (moves_by made (record { insn = insn; at = at; slot = slot; form = made }) ++ later))
unfolding Rising
first_start form.Keep insn at slot next later less rising = rising_from next at (map start_of later) (omega arith) rising
first_start (form.InPlace bytes) insn at slot next later less rising =
    rising_from next at (map start_of later) (omega arith) rising
first_start (form.Moved pre main post) insn at slot next later less rising =
    (omega arith, rising_from next (at + 1) (map start_of later) (omega arith) rising)
first_start form.Unmovable insn at slot next later less rising = rising_from next at (map start_of later) (omega arith) rising

first_main : (made : Form) (insn : Insn) (at slot : ℕ) (later : List Move) → has_main made
    → Rising (slot + length (slot_bytes made)) (map main_of later)
    → Rising slot (map main_of (moves_by made (record { insn = insn; at = at; slot = slot; form = made }) ++ later))
unfolding Rising
first_main form.Keep insn at slot later some rising = rising_from (slot + 0) slot (map main_of later) (omega arith) rising
first_main (form.InPlace bytes) insn at slot later some rising =
    rising_from (slot + 0) slot (map main_of later) (omega arith) rising
first_main (form.Moved pre main post) insn at slot later some rising = (
  omega arith,
  rising_from (slot + length (pre ++ (main ++ post))) (slot + length pre + 1) (map main_of later)
      (omega (arith, some, length-append pre (main ++ post), length-append main post)) rising,
)
first_main form.Unmovable insn at slot later some rising = rising_from (slot + 0) slot (map main_of later) (omega arith) rising

starts_rise : (text : List ℕ) (at slot : ℕ) (insns : List Insn)
    → Rising at (map start_of (flat_map moves_of (places_from text at slot insns)))
unfolding places_from Rising
starts_rise text at slot [] = tt
starts_rise text at slot (insn ∷ insns) =
    let made : Form = form_of insn at slot (is_after_0f text at) in
    let next : ℕ = at + length (spelling insn) in
    let next_slot : ℕ = slot + length (slot_bytes made) in
    first_start made insn at slot next (flat_map moves_of (places_from text next next_slot insns))
    (omega (arith, some_spelling insn)) (starts_rise text next next_slot insns)

mains_rise : (text : List ℕ) (at slot : ℕ) (insns : List Insn)
    → Rising slot (map main_of (flat_map moves_of (places_from text at slot insns)))
unfolding places_from Rising
mains_rise text at slot [] = tt
mains_rise text at slot (insn ∷ insns) =
    let made : Form = form_of insn at slot (is_after_0f text at) in
    let next : ℕ = at + length (spelling insn) in
    let next_slot : ℕ = slot + length (slot_bytes made) in
    first_main made insn at slot (flat_map moves_of (places_from text next next_slot insns))
    (form_has_main insn at slot (is_after_0f text at)) (mains_rise text next next_slot insns)

-- what is made of the instructions of a text is in order
pub ordered : (text : List ℕ) (of_text : List Placement) → ArePlaces text of_text → IsOrdered (rewritten_text of_text)
ordered text of_text are =
    let of_all : List Placement = places text are.insns in
    let same = slots_are_moves of_all in
    let moved = increasing text_address _ (starts_rise text text_address area_address are.insns) in
    let mains = increasing area_address _ (mains_rise text text_address area_address are.insns) in
    let all : IsOrdered (rewritten_text of_all) = record {
      starts =
          subst (λ (list : List ℕ). IsStrictlyIncreasing list) (sym (starts_placed text text_address area_address are.insns))
          (rises text_address are.insns);
      moved = moved;
      mains = mains;
      slots = subst (λ (list : List ℕ). IsStrictlyIncreasing list) (sym same.0) moved;
      slot_mains = subst (λ (list : List ℕ). IsStrictlyIncreasing list) (sym same.1) mains;
      passes = increasing area_address _ (passes_rise text text_address area_address are.insns);
      vmfuncs = increasing text_address _ (vmfuncs_rise text text_address area_address are.insns);
    } in
    subst (λ (list : List Placement). IsOrdered (rewritten_text list)) (sym are.places_are) all
