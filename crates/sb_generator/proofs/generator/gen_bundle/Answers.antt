use Rattle.std.proofs.Common.{◌≡◌, sym, subst}
use Rattle.sb_bundle.specs.Limits.{IsBundle}
use Rattle.sb_generator.specs.Generator.{state_after, generated}
use Rattle.sb_generator.proofs.Drawn.{drawn_on}
use Rattle.sb_generator.proofs.GeneratedBundle.{generated_is_bundle}
use Rattle.sb_generator.proofs.generator.gen_bundle.Goals as goal

pub returns-clause-value : goal.returns-clause-value
unfolding generated
returns-clause-value c =
    let later : state_after (state_after c.args.number 5) 10 ≡ state_after c.args.number 15 = drawn_on c.args.number 5 10 in
    cc (
      c.in_ok-keys.ensures.keys,
      c.in_ok-keys.ensures.drawn,
      c.in_ok-images.ensures.images,
      c.in_ok-images.ensures.drawn,
      c.in_ok-cores.ensures,
      c.in_ok-schedule.ensures,
    )

pub returns-clause-grammar : goal.returns-clause-grammar
returns-clause-grammar c = subst IsBundle (sym (returns-clause-value c)) (generated_is_bundle c.args.number)
