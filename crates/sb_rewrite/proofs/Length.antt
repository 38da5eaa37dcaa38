-- What a text becomes has as many bytes.
use Rattle.std.proofs.Common.{◌≡◌, ℕ, ◌+◌, ◌-◌, List, [], ◌∷◌, length, replicate, refl, ap, sym, ◌∙◌, arith, length-append}
use Rattle.std.specs.Prelude.{flat_map}
use Rattle.std.proofs.lemmas.List.{length-replicate}
use Rattle.sb_insn.specs.declared.insn.Insn.{Insn}
use Rattle.sb_insn.specs.Spelling.{spelling}
use Rattle.sb_forms.specs.declared.answer.Form.{Form}
use Rattle.sb_forms.specs.declared.answer.Form.TheVariants as form
use Rattle.sb_forms.specs.Answers.{HasRoom}
use Rattle.sb_forms.specs.Pieces.{jump_insn}
use Rattle.sb_forms.specs.Table.{form_of}
use Rattle.sb_forms.proofs.Room.{form_roomy}
use Rattle.sb_forms.proofs.Small.{jump_5}
use Rattle.sb_rewrite.specs.Listing.{text_address, spelled_bytes, AllValid}
use Rattle.sb_rewrite.specs.Placing.{Placement, slot_bytes, is_after_0f, place, places_from, area_address}
use Rattle.sb_rewrite.specs.RewrittenText.{RewrittenText, text_bytes, text_bytes_by}
use Rattle.sb_rewrite.specs.Rewriting.{KeepsLength}
use Rattle.sb_rewrite.specs.Turns.{IsAllPut}

-- in place of an instruction stand as many bytes
bytes_size : (made : Form) (insn : Insn) (at slot : ℕ) → HasRoom insn made
    → length (text_bytes_by made (record { insn = insn; at = at; slot = slot; form = made })) ≡ length (spelling insn)
bytes_size form.Keep insn at slot room = refl
bytes_size (form.InPlace bytes) insn at slot room = room
bytes_size (form.Moved pre main post) insn at slot room =
    omega (
      arith,
      room.0,
      jump_5 at slot,
      length-append (spelling (jump_insn at slot)) (replicate (length (spelling insn) - 5) 0x90),
      length-replicate {A = ℕ} (length (spelling insn) - 5) 0x90,
    )
bytes_size form.Unmovable insn at slot room = refl

-- and so in place of instructions one after another
text_size : (text : List ℕ) (at slot : ℕ) (insns : List Insn) → AllValid insns
    → length (flat_map text_bytes (places_from text at slot insns)) ≡ length (spelled_bytes insns)
unfolding places_from
text_size text at slot [] valid = refl
text_size text at slot (insn ∷ insns) valid =
    let made : Form = form_of insn at slot (is_after_0f text at) in
    let first : Placement = place text at slot insn in
    let next : ℕ = slot + length (slot_bytes made) in
    let later : List Placement = places_from text (at + length (spelling insn)) next insns in
    let room : HasRoom insn made = form_roomy insn at slot (is_after_0f text at) made valid.0 refl in
    let one : length (text_bytes first) ≡ length (spelling insn) = bytes_size made insn at slot room in
    let others = text_size text (at + length (spelling insn)) next insns valid.1 in
    omega (
      arith,
      one,
      others,
      length-append (text_bytes first) (flat_map text_bytes later),
      length-append (spelling insn) (spelled_bytes insns),
    )

-- what was made of all instructions of a text
pub made_length : (text : List ℕ) (draft : RewrittenText) → IsAllPut text draft → length draft.text ≡ length text
made_length text draft (of_text, are, fits, is) =
    ap (λ (one : RewrittenText). length one.text) is
    ∙ ap (λ (list : List Placement). length (flat_map text_bytes list)) are.places_are
    ∙ text_size text text_address area_address are.insns are.valid
    ∙ sym (ap length are.whole)

pub keeps_length : KeepsLength
keeps_length text made all_put = made_length text made all_put
