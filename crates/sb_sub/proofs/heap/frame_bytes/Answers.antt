use Rattle.std.proofs.Common.{◌≡◌, ◌+◌, ◌-◌, ◌*◌, arith, refl}
use Rattle.sb_sub.proofs.heap.frame_bytes.Goals as goal

pub returns-in-Some-clause-bytes : goal.returns-in-Some-clause-bytes
returns-in-Some-clause-bytes c =
    let size : 4096 * c.in-Some.frame.0 + 4096 - 4096 * c.in-Some.frame.0 ≡ 4096 = omega arith in
    rw (c.in-Some.is, size, c.bytes.ensures) refl
