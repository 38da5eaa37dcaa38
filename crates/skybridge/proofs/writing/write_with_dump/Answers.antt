use Rattle.std.proofs.Common.{List, ℕ, ◌<◌, ◌++◌, arith, length, refl, rules, subst, take}
use Rattle.sb_port.specs.Port.{Appended}
use Rattle.sb_input.proofs.Parts.{first_part, second_part}
use Rattle.sb_machine.specs.Dump.{machine_dump}
use Rattle.skybridge.proofs.writing.write_with_dump.Goals as goal

pub returns-in-Err-write_dump-clause-written : goal.returns-in-Err-write_dump-clause-written
returns-in-Err-write_dump-clause-written g c =
    let text = subst
    (λ (text : List ℕ). Appended (g.K.Sink.held c.args.sink.now) (g.K.Sink.held c.write_all.new.sink) text)
    c.as_bytes.ensures.value c.in-Ok.ensures.ok in (
      (
        c.args.report.now ++ machine_dump c.args.machine.now,
        refl,
        second_part (g.K.Sink.held c.args.sink.now) (g.K.Sink.held c.write_all.new.sink) (g.K.Sink.held c.write_dump.new.sink)
            c.args.report.now (machine_dump c.args.machine.now) c.in-Err-write_dump.field-0.written text
            c.in-Err-write_dump.ensures.err,
      ),
      search rules,
    )

pub returns-in-Err-clause-written : goal.returns-in-Err-clause-written
returns-in-Err-clause-written g c =
    let count = c.in-Err.field-0.written in
    let within = subst (λ (text : List ℕ). count < length text) c.as_bytes.ensures.value c.in-Err.ensures.part in
    let part = subst
    (λ (text : List ℕ). Appended (g.K.Sink.held c.args.sink.now) (g.K.Sink.held c.write_all.new.sink) (take count text))
    c.as_bytes.ensures.value c.in-Err.ensures.err in (
      (
        c.args.report.now ++ machine_dump c.args.machine.now,
        refl,
        first_part (g.K.Sink.held c.args.sink.now) (g.K.Sink.held c.write_all.new.sink) c.args.report.now
            (machine_dump c.args.machine.now) count (omega arith) part,
      ),
      search rules,
    )
