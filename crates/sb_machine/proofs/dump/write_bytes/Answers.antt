use Rattle.std.proofs.Common.{◌≡◌, ◌∙◌, arith}
use Rattle.std.proofs.lemmas.Result.{err_from_is_err_and}
use Rattle.sb_shows.specs.Dump.{bytes_line}
use Rattle.sb_machine.proofs.Writing.{wrote_no_text, wrote_next, wrote_stop}
use Rattle.sb_machine.proofs.dump.write_bytes.Goals as goal

pub loop-number-init : goal.loop-number-init
loop-number-init g c = record { wrote = wrote_no_text _ _ _ _; few = omega arith }

pub returns-in_err-written-clause-wrote : goal.returns-in_err-written-clause-wrote
returns-in_err-written-clause-wrote g c =
    let text : c.bytes.result.now ≡ bytes_line c.args.bytes.now c.loop-number.number =
    c.bytes.ensures.same ∙ c.bytes_line-line.ensures in
    let answer = err_from_is_err_and c.from_residual.result c.from_residual.ensures.1 in
    rw (answer.1, answer.2)
    (wrote_stop (bytes_line c.args.bytes.now) c.loop-number.number c.loop-number.invariant.wrote text 64 (omega arith)
    c.in_err-written.ensures.wrote)

pub loop-number-preserved : goal.loop-number-preserved
loop-number-preserved g c =
    let text : c.bytes.result.now ≡ bytes_line c.args.bytes.now c.loop-number.number =
    c.bytes.ensures.same ∙ c.bytes_line-line.ensures in
    record {
      wrote = wrote_next (bytes_line c.args.bytes.now) c.loop-number.number c.loop-number.invariant.wrote text
          c.in_ok-written.ensures.wrote;
      few = omega (arith, c.in_ok-written.ensures.few);
    }
