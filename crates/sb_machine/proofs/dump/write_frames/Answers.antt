use Rattle.std.proofs.Common.{refl, arith}
use Rattle.std.proofs.lemmas.Result.{err_from_is_err_and}
use Rattle.sb_memory.specs.Physical.{frame_count}
use Rattle.sb_machine.specs.Writing.{frame_part}
use Rattle.sb_machine.proofs.Writing.{wrote_no_text, wrote_next, wrote_stop}
use Rattle.sb_machine.proofs.dump.write_frames.Goals as goal

pub loop-number-init : goal.loop-number-init
loop-number-init g c = record { wrote = wrote_no_text _ _ _ _; few = omega arith }

pub returns-in_err-written-clause-wrote : goal.returns-in_err-written-clause-wrote
returns-in_err-written-clause-wrote g c =
    let answer = err_from_is_err_and c.from_residual.result c.from_residual.ensures.1 in
    rw (answer.1, answer.2)
    (wrote_stop (frame_part c.args.memory.now) c.loop-number.number c.loop-number.invariant.wrote refl
    (frame_count c.args.memory.now) (omega arith) c.in_err-written.ensures.wrote)

pub loop-number-preserved : goal.loop-number-preserved
loop-number-preserved g c = record {
  wrote = wrote_next (frame_part c.args.memory.now) c.loop-number.number c.loop-number.invariant.wrote refl
      c.in_ok-written.ensures.wrote;
  few = omega (arith, c.in_ok-written.ensures.few);
}
