use Rattle.sb_trace.proofs.Decisions.{flight_lines}
use Rattle.sb_trace.proofs.laws.flights_decide.Goals as goal

pub returns : goal.returns
returns c = flight_lines
