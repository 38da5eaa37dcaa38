use Rattle.std.proofs.Common.{◌≡◌, ◌∙◌, ℕ, suc, ◌+◌, ◌-◌, ◌<◌, Bool, true, List, refl, sym, ap, arith, if◌then◌else◌}
use Rattle.sb_state.specs.declared.state.Binding.{Binding}
use Rattle.sb_state.specs.Bindings.{has_index, free_index_from, free_index}
use Rattle.sb_state.proofs.bindings.Bindings.free_index.Goals as goal

-- at an index below the last one, the next ones are looked at where a binding has it
next : (bindings : List Binding) (index : ℕ) → index < 15
    → free_index_from bindings index (15 - index)
    ≡ (if has_index bindings index then free_index_from bindings (index + 1) (15 - (index + 1)) else index)
next bindings index before =
    let left : 15 - index ≡ suc (15 - (index + 1)) = omega arith in ap (λ (count : ℕ). free_index_from bindings index count) left

by_test : (bindings : List Binding) (index : ℕ) (test : Bool) → has_index bindings index ≡ test → index < 15
    → free_index_from bindings index (15 - index)
    ≡ (if test then free_index_from bindings (index + 1) (15 - (index + 1)) else index)
by_test bindings index test is before =
    next bindings index before
    ∙ ap (λ (has : Bool). if has then free_index_from bindings (index + 1) (15 - (index + 1)) else index) is

pub loop-index-init : goal.loop-index-init
unfolding free_index
loop-index-init c = record { last = omega arith; lowest = refl }

pub loop-index-preserved : goal.loop-index-preserved
loop-index-preserved c = record {
  last = omega arith;
  lowest =
      sym (by_test c.args.self.now c.loop-index.index true (sym c.has_index.ensures
      ∙ c.if-has_index.true) c.loop-index-test.true)
      ∙ c.loop-index.invariant.lowest;
}
