use Rattle.std.proofs.Common.{List, ℕ, subst}
use Rattle.sb_input.specs.Told.{WritesLine}
use Rattle.sb_input.proofs.Parts.{line_written}
use Rattle.sb_input.proofs.lines.write_line.Goals as goal

pub returns-clause-written : goal.returns-clause-written
returns-clause-written g c =
    subst (λ (line : List ℕ). WritesLine (g.K.Sink.held c.args.sink.now) (g.K.Sink.held c.write_all.new.sink)
    (g.K.Sink.faults c.args.sink.now) (g.K.Sink.faults c.write_all.new.sink) line)
    c.as_bytes.ensures.value
    (line_written _ _ _ _ _ c.write_all.result c.write_all.ensures.ok c.write_all.ensures.err c.write_all.ensures.fault)
