use Rattle.sb_generator.proofs.GeneratedBundle.{generated_is_bundle}
use Rattle.sb_generator.proofs.Loadable.{is_loadable}
use Rattle.sb_generator.proofs.generator.generated_is_loadable.Goals as goal

pub returns : goal.returns
returns c = λ number. is_loadable number (generated_is_bundle number)
