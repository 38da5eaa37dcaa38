use Rattle.std.proofs.Common.{◌≡◌, ◌∙◌, sym, ap, ℕ, ◌+◌, ◌<◌, ◌≤◌, List, length, get_or, drop, add-one, drop-cons}
use Rattle.std.proofs.lemmas.List.{drop_all}
use Rattle.sb_memory.specs.Physical.{Physical}
use Rattle.sb_machine.specs.Applied.{with_seen, with_seens}
use Rattle.sb_machine.specs.declared.place.Seen.{Seen}
use Rattle.sb_machine.proofs.apply.put_seens.Goals as goal

-- one that is put leaves less to put
put_more : (seens : List Seen) (index : ℕ) (none : Seen) (memory next whole : Physical) → index < length seens
    → next ≡ with_seen memory (get_or seens index none) → with_seens memory (drop index seens) ≡ whole
    → with_seens next (drop (index + 1) seens) ≡ whole
unfolding with_seens
put_more seens index none memory next whole inside is left =
    ap (λ (one : Physical). with_seens one (drop (index + 1) seens)) is
    ∙ (ap (λ (n : ℕ). with_seens (with_seen memory (get_or seens index none)) (drop n seens)) (add-one index)
    ∙ (sym (ap (with_seens memory) (drop-cons seens index none inside)) ∙ left))

-- where nothing is left
put_last : (seens : List Seen) (index : ℕ) (memory whole : Physical) → length seens ≤ index
    → with_seens memory (drop index seens) ≡ whole → memory ≡ whole
unfolding with_seens
put_last seens index memory whole past left = sym (ap (with_seens memory) (drop_all index seens past)) ∙ left

pub loop-seen-preserved : goal.loop-seen-preserved
loop-seen-preserved c =
    put_more c.args.seens.now c.loop-seen.seen-index _ c.loop-seen.memory c.put_seen.new.memory _ c.loop-seen-test.true
    c.put_seen.ensures c.loop-seen.invariant

pub returns : goal.returns
returns c =
    put_last c.args.seens.now c.loop-seen.seen-index c.loop-seen.memory _ c.loop-seen-test.false c.loop-seen.invariant
