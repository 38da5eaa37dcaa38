use Rattle.std.proofs.Common.{◌∙◌, ap}
use Rattle.std.proofs.lemmas.Result.{err_from_is_err_and}
use Rattle.sb_machine.specs.Machine.{Machine}
use Rattle.sb_machine.proofs.DumpParts.{dump_whole}
use Rattle.sb_machine.proofs.Writing.{wrote_less, wrote_on, wrote_same}
use Rattle.sb_machine.proofs.dump.write_parts.Goals as goal

pub returns-in_err-written : goal.returns-in_err-written
returns-in_err-written g c =
    let memory = ap (λ (machine : Machine). machine.memory) c.parts.view_is in
    let whole = dump_whole c.args.parts.now c.parts.inside.memory c.bytes.result.now c.frames.result memory
    c.frames.ensures.count (c.bytes.ensures.same ∙ c.count_line-line.ensures) in
    let answer = err_from_is_err_and c.from_residual.result c.from_residual.ensures.1 in
    rw (answer.1, answer.2)
    (wrote_same whole (wrote_less _ c.in_err-written.ensures.wrote))

pub returns-in_err-written-2 : goal.returns-in_err-written-2
returns-in_err-written-2 g c =
    let memory = ap (λ (machine : Machine). machine.memory) c.parts.view_is in
    let whole = dump_whole c.args.parts.now c.parts.inside.memory c.bytes.result.now c.frames.result memory
    c.frames.ensures.count (c.bytes.ensures.same ∙ c.count_line-line.ensures) in
    let answer = err_from_is_err_and c.from_residual-in_err-written-2.result c.from_residual-in_err-written-2.ensures.1 in
    rw (answer.1, answer.2)
    (wrote_same whole (wrote_on c.in_ok-written.ensures.wrote (wrote_less _ c.in_err-written-2.ensures.wrote)))

pub returns-in_err-written-3 : goal.returns-in_err-written-3
returns-in_err-written-3 g c =
    let memory = ap (λ (machine : Machine). machine.memory) c.parts.view_is in
    let whole = dump_whole c.args.parts.now c.parts.inside.memory c.bytes.result.now c.frames.result memory
    c.frames.ensures.count (c.bytes.ensures.same ∙ c.count_line-line.ensures) in
    let answer = err_from_is_err_and c.from_residual-in_err-written-3.result c.from_residual-in_err-written-3.ensures.1 in
    rw (answer.1, answer.2)
    (wrote_same whole
    (wrote_on c.in_ok-written.ensures.wrote
    (wrote_on c.in_ok-written-2.ensures.wrote (wrote_less _ c.in_err-written-3.ensures.wrote))))

pub returns : goal.returns
returns g c =
    let memory = ap (λ (machine : Machine). machine.memory) c.parts.view_is in
    let whole = dump_whole c.args.parts.now c.parts.inside.memory c.bytes.result.now c.frames.result memory
    c.frames.ensures.count (c.bytes.ensures.same ∙ c.count_line-line.ensures) in
    wrote_same whole
    (wrote_on c.in_ok-written.ensures.wrote
    (wrote_on c.in_ok-written-2.ensures.wrote (wrote_on c.in_ok-written-3.ensures.wrote c.put-2.ensures.wrote)))
