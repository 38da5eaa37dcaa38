-- The mains rise, so a binary search finds the one slot, if there is one.
use Rattle.std.proofs.Common.{Ok, Err, ap, ◌∙◌, rules}
use Rattle.std.proofs.lemmas.List.{get_or_default}
use Rattle.std.proofs.lemmas.List.Sorted.{answers_always}
use Rattle.sb_slots.specs.declared.slot.Slot.{Slot}
use Rattle.sb_slots.specs.Marks.{is_constant}
use Rattle.sb_slots.specs.TextMap.{TextMap}
use Rattle.sb_slots.proofs.Keys.{searched, found_passes, none_passes}
use Rattle.sb_slots.proofs.Nothing.{no_slot}
use Rattle.sb_slots.proofs.text_map.TextMap.is_constant.Goals as goal

pub returns-in-Ok : goal.returns-in-Ok
returns-in-Ok c =
    let facts = c.in-Ok.ensures in
    let by_main = facts.position (λ slot. slot.main) (answers_always _ _ _ (λ f a r g called. search rules)) in
    let slots = c.self.inside.slots.items in
    let found =
    searched (λ slot. slot.main) slots no_slot c.self.invariant.mains c.args.at (Ok c.in-Ok.index)
    (rw c.deref.ensures.value at facts.bound) (rw c.deref.ensures.value at by_main) in
    let read = c.index.ensures ∙ get_or_default slots c.in-Ok.index c.index.result.now no_slot found.0 in
    ap (λ (slot : Slot). slot.loads_constant) read
    ∙ found_passes (λ slot. slot.main) slots no_slot c.self.invariant.mains c.args.at (λ slot. slot.loads_constant) c.in-Ok.index found
    ∙ ap (λ (map : TextMap). is_constant map c.args.at) c.self.view_is

pub returns-in-Err : goal.returns-in-Err
returns-in-Err c =
    let facts = c.in-Err.ensures in
    let by_main = facts.position (λ slot. slot.main) (answers_always _ _ _ (λ f a r g called. search rules)) in
    let slots = c.self.inside.slots.items in
    let found =
    searched (λ slot. slot.main) slots no_slot c.self.invariant.mains c.args.at (Err c.in-Err.field-0)
    (rw c.deref.ensures.value at facts.bound) (rw c.deref.ensures.value at by_main) in
    none_passes (λ slot. slot.main) slots no_slot c.self.invariant.mains c.args.at (λ slot. slot.loads_constant) c.in-Err.field-0 found
    ∙ ap (λ (map : TextMap). is_constant map c.args.at) c.self.view_is
