-- The addresses rise, so a binary search finds each of them.
use Rattle.std.proofs.Common.{ap, ◌∙◌, rules}
use Rattle.std.proofs.lemmas.List.Sorted.{answers_always}
use Rattle.sb_list.proofs.Search.{found_start}
use Rattle.sb_slots.specs.Marks.{is_vmfunc}
use Rattle.sb_slots.specs.TextMap.{TextMap}
use Rattle.sb_slots.proofs.Same.{same_as_listed}
use Rattle.sb_slots.proofs.text_map.TextMap.is_vmfunc.Goals as goal

pub returns : goal.returns
returns c =
    let by_start = c.binary_search_by_key.ensures.position (λ start. start)
    (answers_always _ _ _ (λ f a r g called. search rules)) in
    let position = rw c.deref.ensures.value at by_start in
    let found = found_start c.self.inside.vmfuncs.items c.args.at c.binary_search_by_key.result c.self.invariant.vmfuncs position in
    same_as_listed c.is_ok.result c.self.inside.vmfuncs.items c.args.at (rw c.is_ok.ensures.value found)
    ∙ ap (λ (map : TextMap). is_vmfunc map c.args.at) c.self.view_is
