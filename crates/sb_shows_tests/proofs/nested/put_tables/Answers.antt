use Rattle.std.proofs.Common.{arith}
use Rattle.sb_shows_tests.proofs.TableFrames.{are_frames}
use Rattle.sb_shows_tests.proofs.nested.put_tables.Goals as goal

pub build-set-requires : goal.build-set-requires
build-set-requires c = are_frames c.args.memory.now c.args.root c.args.first (omega arith) (omega arith)
