use Rattle.std.proofs.Common.{rules}
use Rattle.sb_memory.specs.declared.address.Access.TheVariants.{Write}
use Rattle.sb_nested.specs.View.{view}
use Rattle.sb_core_bus.specs.LiesAt.{LiesAt}
use Rattle.sb_core_bus.proofs.Numbers.{number_may_be_stored}
use Rattle.sb_core_bus.proofs.number.store_in_page.Goals as goal

pub returns-in-Some-clause-answer : goal.returns-in-Some-clause-answer
returns-in-Some-clause-answer c =
    let lies : LiesAt (view c.args.memory.now c.args.eptp c.args.cr3) Write c.args.at.0 c.args.size c.in-Some.place.0 =
    search rules in
    λ done. number_may_be_stored (view c.args.memory.now c.args.eptp c.args.cr3) c.args.at.0 c.args.size c.in-Some.place.0
    (search rules) lies
