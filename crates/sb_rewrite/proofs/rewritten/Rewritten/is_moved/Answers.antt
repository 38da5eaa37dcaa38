-- The starts of moves rise, so a binary search finds each of them.
use Rattle.std.proofs.Common.{rules}
use Rattle.std.proofs.lemmas.List.Sorted.{answers_always}
use Rattle.sb_rewrite.proofs.Originals.{start_of, searched, found_moved}
use Rattle.sb_rewrite.proofs.rewritten.Rewritten.is_moved.Goals as goal

pub returns : goal.returns
returns c =
    let facts = c.binary_search_by_key.ensures in
    let by_start = facts.position start_of (answers_always _ _ _ (λ f a r g called. search rules)) in
    let found =
    searched start_of c.self.inside.moves.items c.self.invariant.0.moved c.args.at c.binary_search_by_key.result
    (rw c.deref.ensures.value at facts.bound) (rw c.deref.ensures.value at by_start) in
    rw (
      c.is_ok.ensures.value,
      ← c.self.view_is,
    ) (found_moved c.self.inside.moves.items c.args.at c.binary_search_by_key.result found)
