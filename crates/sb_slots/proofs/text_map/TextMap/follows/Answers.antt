-- The addresses rise, so a binary search finds the one pass, if there is one.
use Rattle.std.proofs.Common.{Ok, Err, ap, ◌∙◌, rules}
use Rattle.std.specs.Prelude.{◌==◌}
use Rattle.std.proofs.lemmas.List.{get_or_default}
use Rattle.std.proofs.lemmas.List.Sorted.{answers_always}
use Rattle.sb_slots.specs.declared.slot.Pass.{Pass}
use Rattle.sb_slots.specs.Marks.{follows}
use Rattle.sb_slots.specs.TextMap.{TextMap}
use Rattle.sb_slots.proofs.Keys.{searched, found_passes, none_passes}
use Rattle.sb_slots.proofs.Nothing.{no_pass}
use Rattle.sb_slots.proofs.text_map.TextMap.follows.Goals as goal

pub returns-in-Ok : goal.returns-in-Ok
returns-in-Ok c =
    let facts = c.in-Ok.ensures in
    let by_from = facts.position (λ pass. pass.from) (answers_always _ _ _ (λ f a r g called. search rules)) in
    let passes = c.self.inside.passes.items in
    let found =
    searched (λ pass. pass.from) passes no_pass c.self.invariant.passes c.args.at (Ok c.in-Ok.index)
    (rw c.deref.ensures.value at facts.bound) (rw c.deref.ensures.value at by_from) in
    let read = c.index.ensures ∙ get_or_default passes c.in-Ok.index c.index.result.now no_pass found.0 in
    ap (λ (pass : Pass). pass.to == c.args.next) read
    ∙ found_passes (λ pass. pass.from) passes no_pass c.self.invariant.passes c.args.at (λ pass. pass.to == c.args.next) c.in-Ok.index found
    ∙ ap (λ (map : TextMap). follows map c.args.at c.args.next) c.self.view_is

pub returns-in-Err : goal.returns-in-Err
returns-in-Err c =
    let facts = c.in-Err.ensures in
    let by_from = facts.position (λ pass. pass.from) (answers_always _ _ _ (λ f a r g called. search rules)) in
    let passes = c.self.inside.passes.items in
    let found =
    searched (λ pass. pass.from) passes no_pass c.self.invariant.passes c.args.at (Err c.in-Err.field-0)
    (rw c.deref.ensures.value at facts.bound) (rw c.deref.ensures.value at by_from) in
    none_passes (λ pass. pass.from) passes no_pass c.self.invariant.passes c.args.at (λ pass. pass.to == c.args.next) c.in-Err.field-0 found
    ∙ ap (λ (map : TextMap). follows map c.args.at c.args.next) c.self.view_is
