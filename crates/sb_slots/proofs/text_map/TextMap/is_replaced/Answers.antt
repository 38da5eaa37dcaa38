-- The keys rise, so a binary search finds each of them.
use Rattle.std.proofs.Common.{ap, ◌∙◌, rules}
use Rattle.std.proofs.lemmas.List.Sorted.{answers_always}
use Rattle.sb_slots.specs.Marks.{is_replaced}
use Rattle.sb_slots.specs.TextMap.{TextMap}
use Rattle.sb_slots.proofs.Keys.{searched, found_any}
use Rattle.sb_slots.proofs.Nothing.{no_slot}
use Rattle.sb_slots.proofs.text_map.TextMap.is_replaced.Goals as goal

pub returns : goal.returns
returns c =
    let facts = c.binary_search_by_key.ensures in
    let by_key = facts.position (λ slot. slot.start) (answers_always _ _ _ (λ f a r g called. search rules)) in
    let slots = c.self.inside.slots.items in
    let found =
    searched (λ slot. slot.start) slots no_slot c.self.invariant.slots c.args.at c.binary_search_by_key.result
    (rw c.deref.ensures.value at facts.bound) (rw c.deref.ensures.value at by_key) in
    c.is_ok.ensures.value
    ∙ found_any (λ slot. slot.start) slots no_slot c.self.invariant.slots c.args.at c.binary_search_by_key.result found
    ∙ ap (λ (map : TextMap). is_replaced map c.args.at) c.self.view_is
