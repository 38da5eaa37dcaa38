use Rattle.std.proofs.Common.{arith}
use Rattle.sb_walk_tests.proofs.TestSet.{test_frames}
use Rattle.sb_walk_tests.proofs.paging.build_with_one_page.Goals as goal

pub build-set-requires : goal.build-set-requires
build-set-requires c = test_frames c.args.memory.now (omega arith)
