use Rattle.std.proofs.Common.{rules}
use Rattle.sb_port.proofs.Told.{appended_more}
use Rattle.sb_port.proofs.transfer.write_all.Goals as goal

pub loop-written-preserved : goal.loop-written-preserved
loop-written-preserved g c = record {
  appended = appended_more _ _ _ _ _ _ c.loop-written.invariant.appended c.in-Ok.ensures.bytes;
  within = search rules;
  later = search rules;
  untouched = search rules;
}
