use Rattle.std.proofs.Common.{◌≡◌, ◌+◌, ◌-◌, ◌*◌, arith, refl}
use Rattle.sb_memory.specs.Frames.{frame_bytes}
use Rattle.sb_machine.proofs.frame.frame_bytes.Goals as goal

pub returns-clause-bytes : goal.returns-clause-bytes
unfolding frame_bytes
returns-clause-bytes c =
    let start = c.base-start.ensures in
    let size : 4096 * c.args.frame.0 + 4096 - 4096 * c.args.frame.0 ≡ 4096 = omega arith in
    rw (c.bytes.ensures, start, size) refl
