use Rattle.std.proofs.Common.{ap, subst, ◌∙◌, arith}
use Rattle.sb_bundle.specs.Fields.{Answers}
use Rattle.sb_bundle.specs.Reading.{reading}
use Rattle.sb_bundle.proofs.Numbers.{AllBelow-from}
use Rattle.sb_bundle.proofs.Whole.{is_found, reading_again}
use Rattle.sb_bundle.proofs.reading.read_bundle.Goals as goal

pub returns-clause-found : goal.returns-clause-found
returns-clause-found c =
    is_found c.args.bytes.now c.read_whole.result
    (AllBelow-from 256 c.args.bytes.now (λ k. omega (arith, c.type_inv.bytes k))) c.read_whole.ensures

pub returns-clause-only : goal.returns-clause-only
returns-clause-only c =
    λ value good e. subst (Answers c.read_whole.result) (ap reading e ∙ reading_again value good) c.read_whole.ensures
