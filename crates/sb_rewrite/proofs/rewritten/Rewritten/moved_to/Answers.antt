-- The mains of moves rise, so a binary search finds each of them.
use Rattle.std.proofs.Common.{◌∙◌, Ok, Err, rules}
use Rattle.std.proofs.lemmas.List.{get_or_default}
use Rattle.std.proofs.lemmas.List.Sorted.{answers_always}
use Rattle.sb_rewrite.proofs.Originals.{nowhere, main_of, searched, found_main, no_main}
use Rattle.sb_rewrite.proofs.rewritten.Rewritten.moved_to.Goals as goal

pub returns-in-Ok : goal.returns-in-Ok
returns-in-Ok c =
    let facts = c.in-Ok.ensures in
    let by_main = facts.position main_of (answers_always _ _ _ (λ f a r g called. search rules)) in
    let found =
    searched main_of c.self.inside.moves.items c.self.invariant.0.mains c.args.at (Ok c.in-Ok.index)
    (rw c.deref.ensures.value at facts.bound) (rw c.deref.ensures.value at by_main) in
    let read = c.index.ensures ∙ get_or_default c.self.inside.moves.items c.in-Ok.index c.index.result.now nowhere found.0 in
    rw (← c.self.view_is) (found_main c.self.inside.moves.items c.args.at c.in-Ok.index c.index.result.now read found)

pub returns-in-Err : goal.returns-in-Err
returns-in-Err c =
    let facts = c.in-Err.ensures in
    let by_main = facts.position main_of (answers_always _ _ _ (λ f a r g called. search rules)) in
    let found =
    searched main_of c.self.inside.moves.items c.self.invariant.0.mains c.args.at (Err c.in-Err.field-0)
    (rw c.deref.ensures.value at facts.bound) (rw c.deref.ensures.value at by_main) in
    rw (← c.self.view_is) (no_main c.self.inside.moves.items c.args.at c.in-Err.field-0 found)
