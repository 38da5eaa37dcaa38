use Rattle.std.proofs.Common.{◌≡◌, ◌∙◌, ap, ◌++◌, length, arith, rules}
use Rattle.std.specs.Prelude.{codes}
use Rattle.std.specs.Fmt.{decimal}
use Rattle.std.proofs.lemmas.Result.{err_from_is_err_and}
use Rattle.sb_trace.specs.Report.{line_feed}
use Rattle.sb_shows.specs.Dump.{core_line, words_text}
use Rattle.sb_machine.specs.Machine.{core_words, words_of}
use Rattle.sb_machine.proofs.Writing.{wrote_no_text, wrote_next, wrote_stop}
use Rattle.sb_machine.proofs.dump.write_cores.Goals as goal

pub loop-number-init : goal.loop-number-init
loop-number-init g c = record { wrote = wrote_no_text _ _ _ _; few = omega arith }

pub returns-in_err-written-clause-wrote : goal.returns-in_err-written-clause-wrote
returns-in_err-written-clause-wrote g c =
    let number = c.loop-number.number in
    let text : c.bytes.result.now ≡ core_line (words_of c.args.parts.now) number =
    c.bytes.ensures.same
    ∙ (c.core_line-line.ensures
    ∙ ap (λ core. codes "core " ++ (decimal number ++ (words_text (core_words core.state) ++ line_feed))) c.core.ensures) in
    let answer = err_from_is_err_and c.from_residual.result c.from_residual.ensures.1 in
    rw (answer.1, answer.2)
    (wrote_stop (core_line (words_of c.args.parts.now)) number c.loop-number.invariant.wrote text
    (length c.args.parts.now.cores) (search rules) c.in_err-written.ensures.wrote)

pub loop-number-preserved : goal.loop-number-preserved
loop-number-preserved g c =
    let number = c.loop-number.number in
    let text : c.bytes.result.now ≡ core_line (words_of c.args.parts.now) number =
    c.bytes.ensures.same
    ∙ (c.core_line-line.ensures
    ∙ ap (λ core. codes "core " ++ (decimal number ++ (words_text (core_words core.state) ++ line_feed))) c.core.ensures) in
    record {
      wrote = wrote_next (core_line (words_of c.args.parts.now)) number c.loop-number.invariant.wrote text
          c.in_ok-written.ensures.wrote;
      few = omega (arith, c.in_ok-written.ensures.few);
    }
