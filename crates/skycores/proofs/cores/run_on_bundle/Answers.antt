use Rattle.sb_input.specs.declared.input.InputRefusal.TheVariants as refusal
use Rattle.skycores.proofs.Taken.{taken}
use Rattle.skycores.proofs.cores.run_on_bundle.Goals as goal

pub returns-clause-taken : goal.returns-clause-taken
returns-clause-taken g c =
    taken (g.S.Source.left c.args.source.now) (g.S.Source.left c.read_loaded.new.source) c.in-Ok.loaded refusal.TooLong
    c.run_loaded.result c.run_loaded.ensures.kinds c.in-Ok.ensures.taken
