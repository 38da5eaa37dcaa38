use Rattle.std.proofs.Common.{◌<◌, ◌^◌, ◌-◌, arith}
use Rattle.sb_bus.proofs.Loads.{number_below}
use Rattle.sb_bus.proofs.byte_source.+load_bytes.Goals as goal

pub overflow_mul-result : goal.overflow_mul-result
overflow_mul-result g t c =
    let few : c.in_ok-others.others < 2 ^ 56 =
    number_below _ c.args.size (c.args.size - 1) (omega arith) c.requires.size c.in_ok-others.ensures.range in
    omega (arith, few)

pub overflow_add-result : goal.overflow_add-result
overflow_add-result g t c =
    let few : c.in_ok-others.others < 2 ^ 56 =
    number_below _ c.args.size (c.args.size - 1) (omega arith) c.requires.size c.in_ok-others.ensures.range in
    omega (arith, few)
