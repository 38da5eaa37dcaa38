-- How far a draft has come.
use Rattle.std.proofs.Common.{◌≡◌, ℕ, ◌+◌, ◌-◌, ◌<◌, ◌≤◌, List, [], ◌∷◌, ◌++◌, length, Ok, refl, ap, sym, ◌∙◌, subst, arith}
use Rattle.std.specs.Prelude.{flat_map, Contains}
use Rattle.std.specs.List.{All}
use Rattle.std.specs.List.Sorted.{IsStrictlyIncreasing}
use Rattle.std.proofs.lemmas.List.{flat_map_more}
use Rattle.std.proofs.lemmas.List.Elements.{All-contains}
use Rattle.sb_insn.specs.declared.insn.Insn.{Insn}
use Rattle.sb_forms.specs.Places.{HasForm, NotInJumps}
use Rattle.sb_rewrite.specs.declared.edit.Edit.{Edit}
use Rattle.sb_rewrite.specs.declared.edit.Move.{Move}
use Rattle.sb_slots.specs.declared.slot.Slot.{Slot}
use Rattle.sb_slots.specs.declared.slot.Pass.{Pass}
use Rattle.sb_rewrite.specs.declared.text_insn.TextInsn.{TextInsn}
use Rattle.sb_rewrite.specs.declared.target.Jump.{Jump}
use Rattle.sb_rewrite.specs.Listing.{text_address, spelled_bytes, starts_from}
use Rattle.sb_rewrite.specs.Target.{direct_target}
use Rattle.sb_rewrite.specs.Placing.{Placement, place, places_from, places, area_address}
use Rattle.sb_rewrite.specs.Slots.{slots_of, passes_of, vmfuncs_of}
use Rattle.sb_rewrite.specs.RewrittenText.{RewrittenText, starts_of, text_bytes, area_bytes, edits_of, moves_of}
use Rattle.sb_rewrite.specs.Rewriting.{HasBadTarget, IsUnmovable, EndsBehindArea, NoneOf, IsFirstAt, ArePlaces}
use Rattle.sb_rewrite.specs.Turns.{IsFirstInsn, IsFar, jumps_to, started, with_start, with_place, Puts, IsAllPut}
use Rattle.sb_rewrite.proofs.OneListing.{rising_starts}
use Rattle.sb_rewrite.proofs.Listed.{Partway, place_of, more_of, all_spelled, all_listed}
use Rattle.sb_rewrite.proofs.Placed.{starts_placed, slots_size, here, here_last}
use Rattle.sb_rewrite.proofs.Reading.{read_so_far, turn}
use Rattle.sb_rewrite.proofs.Jumps.{near_free}
use Rattle.sb_rewrite.proofs.Checked.{first_here, not_here, none_read}
use Rattle.sb_rewrite.proofs.Remembered.{jumps_of, HasFarTarget, all_lead}

-- the draft has what stands in place of these instructions
pub record IsMade (draft : RewrittenText) (of_text : List Placement) : Type 0 where
  pub text : draft.text ≡ flat_map text_bytes of_text
  pub area : draft.area ≡ flat_map area_bytes of_text
  pub edits : draft.edits ≡ flat_map edits_of of_text
  pub moves : draft.moves ≡ flat_map moves_of of_text
  pub slots : draft.slots ≡ flat_map slots_of of_text
  pub passes : draft.passes ≡ flat_map passes_of of_text
  pub vmfuncs : draft.vmfuncs ≡ flat_map vmfuncs_of of_text

-- it is made of the instructions that spell the text up to its rest, and these are their jumps
pub record PutSoFar (text rest : List ℕ) (draft : RewrittenText) (jumps : List Jump) : Type 0 where
  pub partway : Partway text rest draft.starts
  pub made : IsMade draft (places text partway.insns)
  pub jumps_are : jumps ≡ flat_map jumps_of (places text partway.insns)
  pub near : NoneOf HasFarTarget (places text partway.insns)
  pub movable : NoneOf IsUnmovable (places text partway.insns)
  pub fits : NoneOf EndsBehindArea (places text partway.insns)

pub nothing_put : (text : List ℕ) (jumps : List Jump) → jumps ≡ [] → PutSoFar text text started jumps
unfolding places_from starts_from
nothing_put text jumps none = record {
  partway = record { insns = []; valid = tt; whole = refl; starts_are = refl };
  made = record {
    text = refl;
    area = refl;
    edits = refl;
    moves = refl;
    slots = refl;
    passes = refl;
    vmfuncs = refl;
  };
  jumps_are = none;
  near = tt;
  movable = tt;
  fits = tt;
}

-- ---- one more instruction

-- an instruction that does not lead far away has a form
pub form_asks_here : NotInJumps → (text rest : List ℕ) (text_insn : TextInsn) → length text ≤ 2097152
    → IsFirstInsn text rest text_insn
    → 0 < length rest
    → ¬ IsFar (direct_target text_insn.insn text_insn.at) → HasForm text_insn.insn
form_asks_here law text rest text_insn size is some near =
    let low : 0x400000 ≤ text_insn.at = omega (arith, is.here) in
    let high : text_insn.at < 0x600000 = omega (arith, is.here) in
    near_free law text_insn.insn text_insn.at is.valid low high near

module _ (text rest starts : List ℕ) (partway : Partway text rest starts) (text_insn : TextInsn)
    (is : IsFirstInsn text rest text_insn) where
  pub stands_here : text_insn.at ≡ text_address + length (spelled_bytes partway.insns)
  stands_here = is.here ∙ ap (λ (size : ℕ). text_address + size) (place_of text rest partway.insns partway.whole)

  -- what holds of it, and of none before it, holds of it first
  pub first_so_far : (Holds : Placement → Type 0) → NoneOf Holds (places text partway.insns)
      → Holds (here text partway.insns text_insn.insn)
      → (of_text : List Placement) → ArePlaces text of_text → IsFirstAt Holds of_text text_insn.at
  first_so_far Holds none holds of_text are =
      let read = read_so_far text rest partway.insns of_text partway.valid partway.whole are in
      let turned = turn text rest partway.insns read.0 text_insn read.1 is in
      subst (λ (list : List Placement). IsFirstAt Holds list text_insn.at) (sym read.2)
      (first_here Holds text rest partway.insns read.0 text_insn turned none holds)

  -- what holds of none of the text's does not hold of it
  pub not_so_far : (Holds : Placement → Type 0) (of_text : List Placement) → ArePlaces text of_text → NoneOf Holds of_text
      → ¬ Holds (here text partway.insns text_insn.insn)
  not_so_far Holds of_text are none =
      let read = read_so_far text rest partway.insns of_text partway.valid partway.whole are in
      let turned = turn text rest partway.insns read.0 text_insn read.1 is in
      not_here Holds text rest partway.insns read.0 text_insn turned
      (subst (λ (list : List Placement). NoneOf Holds list) read.2 none)

-- what is put is the instruction's place
pub next_is : (text rest : List ℕ) (draft : RewrittenText) (jumps : List Jump) (text_insn : TextInsn)
    (so_far : PutSoFar text rest draft jumps)
    → IsFirstInsn text rest text_insn
    → place text text_insn.at (area_address + length draft.area) text_insn.insn ≡ here text so_far.partway.insns text_insn.insn
next_is text rest draft jumps text_insn so_far is i =
    let at : text_insn.at ≡ text_address + length (spelled_bytes so_far.partway.insns) =
    stands_here text rest draft.starts so_far.partway text_insn is in
    let slot : area_address + length draft.area ≡ area_address + slots_size (places text so_far.partway.insns) =
    ap (λ (area : List ℕ). area_address + length area) so_far.made.area in
    place text (at i) (slot i) text_insn.insn

-- one more place is put
made_more : (draft : RewrittenText) (at : ℕ) (of_text : List Placement) (one : Placement) → IsMade draft of_text
    → IsMade (with_place (with_start draft at) one) (of_text ++ one ∷ [])
made_more draft at of_text one made = record {
  text = ap (λ (bytes : List ℕ). bytes ++ text_bytes one) made.text ∙ flat_map_more text_bytes [] of_text one;
  area = ap (λ (bytes : List ℕ). bytes ++ area_bytes one) made.area ∙ flat_map_more area_bytes [] of_text one;
  edits = ap (λ (edits : List Edit). edits ++ edits_of one) made.edits ∙ flat_map_more edits_of [] of_text one;
  moves = ap (λ (moves : List Move). moves ++ moves_of one) made.moves ∙ flat_map_more moves_of [] of_text one;
  slots = ap (λ (slots : List Slot). slots ++ slots_of one) made.slots ∙ flat_map_more slots_of [] of_text one;
  passes = ap (λ (passes : List Pass). passes ++ passes_of one) made.passes ∙ flat_map_more passes_of [] of_text one;
  vmfuncs = ap (λ (vmfuncs : List ℕ). vmfuncs ++ vmfuncs_of one) made.vmfuncs ∙ flat_map_more vmfuncs_of [] of_text one;
}

pub one_put : (text rest : List ℕ) (draft new : RewrittenText) (jumps more_jumps : List Jump) (text_insn : TextInsn)
    → PutSoFar text rest draft jumps → IsFirstInsn text rest text_insn
    → ¬ IsFar (direct_target text_insn.insn text_insn.at)
    → more_jumps ≡ jumps ++ jumps_to text_insn.at (direct_target text_insn.insn text_insn.at)
    → Puts (with_start draft text_insn.at) new (place text text_insn.at (area_address + length draft.area) text_insn.insn) (Ok tt)
    → PutSoFar text text_insn.rest.now new more_jumps
unfolding more_of
one_put text rest draft new jumps more_jumps text_insn so_far is near more_are (movable, fits, new_is) =
    let done : List Insn = so_far.partway.insns in
    let one : Placement = here text done text_insn.insn in
    let at : text_insn.at ≡ one.at = stands_here text rest draft.starts so_far.partway text_insn is in
    let next : place text text_insn.at (area_address + length draft.area) text_insn.insn ≡ one =
    next_is text rest draft jumps text_insn so_far is in
    let last : places text (done ++ text_insn.insn ∷ []) ≡ places text done ++ one ∷ [] = here_last text done text_insn.insn in
    let new_here : new ≡ with_place (with_start draft text_insn.at) one =
    new_is ∙ ap (λ (put : Placement). with_place (with_start draft text_insn.at) put) next in
    let new_starts : draft.starts ++ (text_address + (length text - length rest)) ∷ [] ≡ new.starts =
    ap (λ (start : ℕ). draft.starts ++ start ∷ []) (sym is.here) ∙ ap (λ (made : RewrittenText). made.starts) (sym new_here) in
    let partway : Partway text text_insn.rest.now (draft.starts ++ (text_address + (length text - length rest)) ∷ []) =
    more_of text rest text_insn.rest.now draft.starts text_insn.insn so_far.partway (is.valid, tt) is.parts in
    record {
      partway =
          record {
            insns = done ++ text_insn.insn ∷ [];
            valid = partway.valid;
            whole = partway.whole;
            starts_are = sym new_starts
                ∙ partway.starts_are;
          };
      made =
          subst (λ (made : RewrittenText). IsMade made (places text (done ++ text_insn.insn ∷ []))) (sym new_here)
          (subst (λ (of_text : List Placement). IsMade (with_place (with_start draft text_insn.at) one) of_text) (sym last)
          (made_more draft text_insn.at (places text done) one so_far.made));
      jumps_are =
          more_are
          ∙ (λ i. so_far.jumps_are i ++ jumps_to (at i) (direct_target text_insn.insn (at i)))
          ∙ flat_map_more jumps_of [] (places text done) one
          ∙ ap (λ (of_text : List Placement). flat_map jumps_of of_text) (sym last);
      near = none_read HasFarTarget text done text_insn.insn so_far.near
          (subst (λ (place : ℕ). ¬ IsFar (direct_target text_insn.insn place)) at near);
      movable =
          none_read IsUnmovable text done text_insn.insn so_far.movable
          (subst (λ (put : Placement). ¬ IsUnmovable put) next movable);
      fits = none_read EndsBehindArea text done text_insn.insn so_far.fits
          (subst (λ (put : Placement). ¬ EndsBehindArea put) next fits);
    }

-- ---- all instructions

module _ (text rest : List ℕ) (draft : RewrittenText) (jumps : List Jump) (so_far : PutSoFar text rest draft jumps)
    (none : length rest ≡ 0) where
  -- the starts come in order
  pub rising_so_far : IsStrictlyIncreasing draft.starts
  rising_so_far = rising_starts text draft.starts (all_listed text rest draft.starts so_far.partway none)

  pub all_placed : ArePlaces text (places text so_far.partway.insns)
  all_placed =
      record {
        insns = so_far.partway.insns;
        valid = so_far.partway.valid;
        whole = all_spelled text rest draft.starts so_far.partway none;
        places_are = refl;
      }

  pub starts_are_placed : draft.starts ≡ starts_of (places text so_far.partway.insns)
  starts_are_placed = so_far.partway.starts_are ∙ sym (starts_placed text text_address area_address so_far.partway.insns)

  pub all_put : All (λ jump. Contains draft.starts jump.target) jumps → IsAllPut text draft
  all_put checked =
      let of_text : List Placement = places text so_far.partway.insns in
      let lead : NoneOf (HasBadTarget draft.starts) of_text =
      all_lead draft.starts of_text so_far.near
      (λ jump held. All-contains (λ (one : Jump). Contains draft.starts one.target) jumps jump checked
      (subst (λ (list : List Jump). Contains list jump) (sym so_far.jumps_are) held)) in (
        of_text,
        all_placed,
        ((subst (λ (list : List ℕ). NoneOf (HasBadTarget list) of_text) starts_are_placed lead, so_far.movable), so_far.fits),
        (λ i. record {
          text = so_far.made.text i;
          area = so_far.made.area i;
          starts = starts_are_placed i;
          edits = so_far.made.edits i;
          moves = so_far.made.moves i;
          slots = so_far.made.slots i;
          passes = so_far.made.passes i;
          vmfuncs = so_far.made.vmfuncs i;
        }),
      )
