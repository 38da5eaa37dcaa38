use Rattle.sb_rewrite.proofs.Free.{made_free}
use Rattle.sb_rewrite.proofs.Length.{made_length}
use Rattle.sb_rewrite.proofs.Made.{made_ordered}
use Rattle.sb_rewrite.proofs.rewriting.rewrite.Goals as goal

pub finish-requires : goal.finish-requires
finish-requires c = made_ordered _ c.in-Ok.draft c.in-Ok.ensures

pub returns-in-Ok-clause-as_long : goal.returns-in-Ok-clause-as_long
returns-in-Ok-clause-as_long c = rw c.finish.ensures (made_length _ c.in-Ok.draft c.in-Ok.ensures)

pub returns-in-Ok-clause-text : goal.returns-in-Ok-clause-text
returns-in-Ok-clause-text c = rw c.finish.ensures (made_free _ c.in-Ok.draft c.requires c.in-Ok.ensures).0

pub returns-in-Ok-clause-area : goal.returns-in-Ok-clause-area
returns-in-Ok-clause-area c = rw c.finish.ensures (made_free _ c.in-Ok.draft c.requires c.in-Ok.ensures).1
