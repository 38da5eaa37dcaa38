-- Slots come in the order of the moves, and the passes of their instructions and the NOPs in place of VMFUNC in theirs.
use Rattle.std.proofs.Common.{◌≡◌, ℕ, ◌+◌, ◌<◌, ◌≤◌, Bool, true, false, List, [], ◌∷◌, ◌++◌, length, refl, ap, arith, length-append}
use Rattle.std.specs.Prelude.{map, flat_map, if◌then◌else◌}
use Rattle.sb_insn.specs.declared.insn.Insn.{Insn}
use Rattle.sb_insn.specs.Spelling.{spelling}
use Rattle.sb_forms.specs.declared.answer.Form.{Form}
use Rattle.sb_forms.specs.declared.answer.Form.TheVariants as form
use Rattle.sb_forms.specs.Table.{is_vmfunc, form_of}
use Rattle.sb_decode.proofs.Exact.{some_spelling}
use Rattle.sb_rewrite.specs.declared.edit.Move.{Move}
use Rattle.sb_slots.specs.declared.slot.Slot.{Slot}
use Rattle.sb_slots.specs.declared.slot.Pass.{Pass}
use Rattle.sb_rewrite.specs.Listing.{spelled_bytes}
use Rattle.sb_rewrite.specs.Placing.{Placement, slot_bytes, is_after_0f, places_from}
use Rattle.sb_rewrite.specs.Slots.{slots_by, slots_of, moved_insns, passes_from, passes_by, passes_of, vmfuncs_by, vmfuncs_of}
use Rattle.sb_rewrite.specs.RewrittenText.{moves_by, moves_of}
use Rattle.sb_rewrite.proofs.Originals.{start_of, main_of}
use Rattle.sb_rewrite.proofs.Rising.{Rising, rising_from}
use Rattle.sb_rewrite.proofs.Slots.{SpellsSlot, slot_spelled}

abbrev pub slot_start : Slot → ℕ
slot_start slot = slot.start

abbrev pub slot_main : Slot → ℕ
slot_main slot = slot.main

abbrev pub pass_from : Pass → ℕ
pass_from pass = pass.from

-- ---- slots

-- slots have the starts and the mains of moves
abbrev pub AreMoves : List Slot → List Move → Type 0
AreMoves slots moves = (map slot_start slots ≡ map start_of moves) × (map slot_main slots ≡ map main_of moves)

one_move : (made : Form) (place : Placement) (slots : List Slot) (moves : List Move) → AreMoves slots moves
    → AreMoves (slots_by made place ++ slots) (moves_by made place ++ moves)
one_move form.Keep place slots moves are = are
one_move (form.InPlace bytes) place slots moves are = are
one_move (form.Moved pre main post) place slots moves are =
    (ap (λ (starts : List ℕ). place.at ∷ starts) are.0, ap (λ (mains : List ℕ). (place.slot + length pre) ∷ mains) are.1)
one_move form.Unmovable place slots moves are = are

pub slots_are_moves : (of_text : List Placement) → AreMoves (flat_map slots_of of_text) (flat_map moves_of of_text)
slots_are_moves [] = (refl, refl)
slots_are_moves (place ∷ of_text) =
    one_move place.form place (flat_map slots_of of_text) (flat_map moves_of of_text) (slots_are_moves of_text)

-- ---- passes

-- those of instructions from an address on, before later ones
slot_rises : (at next : ℕ) (insns : List Insn) (later : List Pass) → at + length (spelled_bytes insns) ≤ next
    → Rising next (map pass_from later) → Rising at (map pass_from (passes_from at insns ++ later))
unfolding passes_from Rising
slot_rises at next [] later less rising = rising_from next at (map pass_from later) (omega (arith, less)) rising
slot_rises at next (insn ∷ []) later less rising =
    rising_from next at (map pass_from later) (omega (arith, less)) rising
slot_rises at next (insn ∷ second ∷ left) later less rising =
    let behind = at + length (spelling insn) in
    let size = length-append (spelling insn) (spelled_bytes (second ∷ left)) in (
      omega arith,
      rising_from behind (at + 1) (map pass_from (passes_from behind (second ∷ left) ++ later))
          (omega (arith, some_spelling insn))
          (slot_rises behind next (second ∷ left) later (omega (arith, less, size)) rising),
    )

first_passes : (made : Form) (insn : Insn) (at slot : ℕ) (later : List Pass) → SpellsSlot insn at slot made
    → Rising (slot + length (slot_bytes made)) (map pass_from later)
    → Rising slot (map pass_from (passes_by made (record { insn = insn; at = at; slot = slot; form = made }) ++ later))
first_passes form.Keep insn at slot later spelled rising = rising_from (slot + 0) slot (map pass_from later) (omega arith) rising
first_passes (form.InPlace bytes) insn at slot later spelled rising =
    rising_from (slot + 0) slot (map pass_from later) (omega arith) rising
first_passes (form.Moved pre main post) insn at slot later spelled rising =
    slot_rises slot (slot + length (pre ++ (main ++ post))) (moved_insns insn at slot) later
    (omega (arith, ap (λ (bytes : List ℕ). length bytes) spelled)) rising
first_passes form.Unmovable insn at slot later spelled rising =
    rising_from (slot + 0) slot (map pass_from later) (omega arith) rising

pub passes_rise : (text : List ℕ) (at slot : ℕ) (insns : List Insn)
    → Rising slot (map pass_from (flat_map passes_of (places_from text at slot insns)))
unfolding places_from Rising
passes_rise text at slot [] = tt
passes_rise text at slot (insn ∷ insns) =
    let after_0f : Bool = is_after_0f text at in
    let made : Form = form_of insn at slot after_0f in
    let next : ℕ = at + length (spelling insn) in
    let next_slot : ℕ = slot + length (slot_bytes made) in
    first_passes made insn at slot (flat_map passes_of (places_from text next next_slot insns))
    (slot_spelled insn at slot after_0f) (passes_rise text next next_slot insns)

-- ---- VMFUNC

vmfunc_rises : (is : Bool) (at next : ℕ) (later : List ℕ) → at < next → Rising next later
    → Rising at ((if is then at ∷ [] else []) ++ later)
unfolding Rising
vmfunc_rises true at next later less rising = (omega arith, rising_from next (at + 1) later (omega (arith, less)) rising)
vmfunc_rises false at next later less rising = rising_from next at later (omega (arith, less)) rising

first_vmfunc : (made : Form) (insn : Insn) (at slot next : ℕ) (later : List ℕ) → at < next → Rising next later
    → Rising at (vmfuncs_by made (record { insn = insn; at = at; slot = slot; form = made }) ++ later)
first_vmfunc form.Keep insn at slot next later less rising = rising_from next at later (omega (arith, less)) rising
first_vmfunc (form.InPlace bytes) insn at slot next later less rising =
    vmfunc_rises (is_vmfunc insn.op) at next later less rising
first_vmfunc (form.Moved pre main post) insn at slot next later less rising =
    rising_from next at later (omega (arith, less)) rising
first_vmfunc form.Unmovable insn at slot next later less rising = rising_from next at later (omega (arith, less)) rising

pub vmfuncs_rise : (text : List ℕ) (at slot : ℕ) (insns : List Insn)
    → Rising at (flat_map vmfuncs_of (places_from text at slot insns))
unfolding places_from Rising
vmfuncs_rise text at slot [] = tt
vmfuncs_rise text at slot (insn ∷ insns) =
    let made : Form = form_of insn at slot (is_after_0f text at) in
    let next : ℕ = at + length (spelling insn) in
    let next_slot : ℕ = slot + length (slot_bytes made) in
    first_vmfunc made insn at slot next (flat_map vmfuncs_of (places_from text next next_slot insns))
    (omega (arith, some_spelling insn)) (vmfuncs_rise text next next_slot insns)
