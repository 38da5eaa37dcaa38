use Rattle.std.proofs.Common.{◌≡◌, ◌∙◌, sym, ◌+◌, ◌≤◌, arith}
use Rattle.std.proofs.lemmas.Result.{err_from_is_err_and, IfOk-weaker}
use Rattle.sb_shows.specs.Dump.{bytes_line}
use Rattle.sb_machine.specs.Writing.{texts}
use Rattle.sb_machine.proofs.DumpParts.{frame_head, frame_none, frame_some}
use Rattle.sb_machine.proofs.Writing.{wrote_less, wrote_none, wrote_on, wrote_same}
use Rattle.sb_machine.proofs.dump.write_frame.Goals as goal

pub returns-then-not-has_nonzero_byte-clause-wrote : goal.returns-then-not-has_nonzero_byte-clause-wrote
returns-then-not-has_nonzero_byte-clause-wrote g c =
    let none = frame_none c.args.memory.now c.args.frame.0 c.frame_bytes-bytes.result.now c.frame_bytes-bytes.ensures.bytes
    (sym c.has_nonzero_byte.ensures ∙ c.if-not-has_nonzero_byte.true) in
    wrote_same (sym none) (wrote_none _ _ _)

pub returns-in_err-written-clause-wrote : goal.returns-in_err-written-clause-wrote
returns-in_err-written-clause-wrote g c =
    let whole = frame_some c.args.memory.now c.args.frame.0 c.frame_bytes-bytes.result.now c.frame_bytes-bytes.ensures.bytes
    (sym c.has_nonzero_byte.ensures ∙ c.if-not-has_nonzero_byte.false) in
    let head : c.bytes.result.now ≡ frame_head c.args.frame.0 = c.bytes.ensures.same ∙ c.frame_line-line.ensures in
    let answer = err_from_is_err_and c.from_residual.result c.from_residual.ensures.1 in
    rw (answer.1, answer.2)
    (wrote_same whole
    (wrote_less (texts (bytes_line c.frame_bytes-bytes.result.now) 64) (wrote_same head c.in_err-written.ensures.wrote)))

pub returns-clause-wrote : goal.returns-clause-wrote
returns-clause-wrote g c =
    let whole = frame_some c.args.memory.now c.args.frame.0 c.frame_bytes-bytes.result.now c.frame_bytes-bytes.ensures.bytes
    (sym c.has_nonzero_byte.ensures ∙ c.if-not-has_nonzero_byte.false) in
    let head : c.bytes.result.now ≡ frame_head c.args.frame.0 = c.bytes.ensures.same ∙ c.frame_line-line.ensures in
    wrote_same whole (wrote_on (wrote_same head c.in_ok-written.ensures.wrote) c.write_bytes.ensures.wrote)

pub returns-clause-few : goal.returns-clause-few
returns-clause-few g c =
    IfOk-weaker c.write_bytes.result (λ total. total ≤ c.in_ok-written.written + 16384) (λ total. total ≤ c.args.first + 16640)
    (λ total below. let before = c.in_ok-written.ensures.few in omega arith) c.write_bytes.ensures.few
