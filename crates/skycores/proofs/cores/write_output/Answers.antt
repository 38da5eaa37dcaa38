use Rattle.std.proofs.Common.{List, ℕ, ◌<◌, ◌≤◌, arith, length, subst, take}
use Rattle.sb_port.specs.Port.{Appended}
use Rattle.sb_input.proofs.Parts.{first_part, part_behind}
use Rattle.skycores.specs.Text.{dump_where}
use Rattle.skycores.proofs.cores.write_output.Goals as goal

pub returns-in-Ok-clause-write_fault_part : goal.returns-in-Ok-clause-write_fault_part
returns-in-Ok-clause-write_fault_part g c is =
    let text = subst
    (λ (text : List ℕ). Appended (g.K.Sink.held c.args.sink.now) (g.K.Sink.held c.write_all.new.sink) text)
    c.as_bytes.ensures.value c.in-Ok.ensures.ok in
    part_behind (g.K.Sink.held c.args.sink.now) (g.K.Sink.held c.write_all.new.sink)
    (g.K.Sink.held c.write_dump_where.new.sink) c.args.text.now (dump_where c.args.dump c.args.machine.now) text
    (c.write_dump_where.ensures.write_fault_part is)

pub returns-in-Err-clause-write_fault_part : goal.returns-in-Err-clause-write_fault_part
returns-in-Err-clause-write_fault_part g c is =
    let count = c.in-Err.field-0.written in
    let within = subst (λ (text : List ℕ). count < length text) c.as_bytes.ensures.value c.in-Err.ensures.part in
    let part = subst
    (λ (text : List ℕ). Appended (g.K.Sink.held c.args.sink.now) (g.K.Sink.held c.write_all.new.sink) (take count text))
    c.as_bytes.ensures.value c.in-Err.ensures.err in
    first_part (g.K.Sink.held c.args.sink.now) (g.K.Sink.held c.write_all.new.sink) c.args.text.now
    (dump_where c.args.dump c.args.machine.now) count (omega arith) part
