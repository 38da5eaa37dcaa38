use Rattle.std.proofs.Common.{sym, arith}
use Rattle.sb_tramp.proofs.Phases.{no_phase}
use Rattle.sb_tramp.proofs.landing.landing_row.Goals as goal

pub returns-in_default-clause-row : goal.returns-in_default-clause-row
returns-in_default-clause-row c = sym (no_phase c.args.phase (omega (arith, c.in_default)))
