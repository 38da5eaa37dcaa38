use Rattle.std.proofs.lemmas.Result.{err_from_is_err_and}
use Rattle.sb_bundle.specs.Fields.{many}
use Rattle.sb_bundle.proofs.Loop.{goes_on, ends, is_done}
use Rattle.sb_bundle.proofs.reading.read_list.Goals as goal

pub returns-in_err-read : goal.returns-in_err-read
returns-in_err-read g c =
    let p = err_from_is_err_and c.from_residual.result c.from_residual.ensures.1 in
    rw (
      p.1,
      p.2,
    ) (ends c.in_err-read.field-0.0 (g.P.Part.field c.args.header.now) c.loop.parts.items c.args.count c.loop.counter
    c.loop.cursor (many c.args.count (g.P.Part.field c.args.header.now) c.args.cursor.now) c.loop-test.true
    c.in_err-read.ensures c.loop.invariant)

pub loop-preserved : goal.loop-preserved
loop-preserved g c =
    rw c.in_ok-push.ensures.items
    (goes_on (g.P.Part.field c.args.header.now) c.loop.parts.items c.args.count c.loop.counter c.loop.cursor
    c.in_ok-read.field-0 c.read.new.cursor _ c.loop-test.true c.in_ok-read.ensures c.loop.invariant)

pub returns : goal.returns
returns g c =
    rw c.new.ensures
    (is_done (g.P.Part.field c.args.header.now) c.loop.parts.items c.args.count c.loop.counter c.loop.cursor _
    c.loop-test.false c.loop.invariant)
