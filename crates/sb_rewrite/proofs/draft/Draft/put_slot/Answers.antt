-- The slot is put, with the passes of its instructions.
use Rattle.std.proofs.Common.{◌≡◌, ◌∙◌, ◌+◌, ◌++◌, ◌≤◌, ℕ, List, length, ap, subst, arith, rules}
use Rattle.sb_slots.specs.declared.slot.Pass.{Pass}
use Rattle.sb_rewrite.specs.Placing.{area_address}
use Rattle.sb_rewrite.specs.Slots.{passes_from, moved_insns, AddsPasses}
use Rattle.sb_rewrite.proofs.Passed.{slot_passes}
use Rattle.sb_rewrite.proofs.SlotPut.{same_text}
use Rattle.sb_rewrite.proofs.draft.Draft.put_slot.Goals as goal

pub returns : goal.returns
returns c =
    let insn = c.args.text_insn.now.insn in
    let at = c.args.text_insn.now.at in
    let slot : ℕ = area_address + length c.args.self.now.area in
    let bytes : List ℕ = c.args.pre.now ++ (c.args.main.now ++ c.args.post.now) in
    let room : length c.args.self.now.area + length bytes ≤ 65536 = search rules in
    let old : c.self.inside.passes.items ≡ c.args.self.now.passes = search rules in
    let adds : AddsPasses slot bytes c.self.inside.passes.items c.put_slot_code.new.passes.items =
    subst (λ (place : ℕ). AddsPasses place bytes c.self.inside.passes.items c.put_slot_code.new.passes.items)
    c.next_slot-slot.ensures.address c.in_ok-put_slot_code.ensures.passes in
    let passes =
    slot_passes insn at slot bytes c.self.inside.passes.items c.put_slot_code.new.passes.items c.requires.slot adds
    ∙ ap (λ (list : List Pass). list ++ passes_from slot (moved_insns insn at slot)) old in (
      (λ is. absurd cc),
      (λ ends. omega (arith, room, ends)),
      same_text _ _ (search rules) (search rules) (search rules) (search rules) (search rules) (search rules) passes
          (search rules),
    )
