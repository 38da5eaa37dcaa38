use Rattle.sb_trace.proofs.Fetchable.{one_pattern}
use Rattle.sb_trace.proofs.Texts.{runs_keep_one_switch}
use Rattle.sb_trace.proofs.Trampoline.{switch_stands}
use Rattle.sb_trace.proofs.laws.one_pattern.Goals as goal

pub returns-clause-only : goal.returns-clause-only
returns-clause-only c = λ state sound thread view address stands. one_pattern state thread view address sound.pages stands

pub returns-clause-run : goal.returns-clause-run
returns-clause-run c = runs_keep_one_switch

pub returns-clause-there : goal.returns-clause-there
returns-clause-there c =
    λ state thread view process address sound shows at. switch_stands state thread view process address sound.pages shows at
