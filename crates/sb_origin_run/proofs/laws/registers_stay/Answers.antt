use Rattle.sb_origin_run.proofs.Registers.{words_are_regs, step_keeps, words_straight}
use Rattle.sb_origin_run.proofs.laws.registers_stay.Goals as goal

pub returns-clause-words : goal.returns-clause-words
returns-clause-words g c = words_are_regs

pub returns-clause-steps : goal.returns-clause-steps
returns-clause-steps g c = step_keeps g.R.Codes.bus g.R.Codes.has_bytes g.R.Codes.target

pub returns-clause-runs : goal.returns-clause-runs
returns-clause-runs g c =
    words_straight g.R.Codes.bus g.R.Codes.holds g.R.Codes.outside g.R.Codes.has_bytes g.R.Codes.target g.R.Codes.source
    g.R.Codes.place
