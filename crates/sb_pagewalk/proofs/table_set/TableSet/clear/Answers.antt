use Rattle.std.proofs.Common.{refl, arith}
use Rattle.sb_memory.proofs.Changes.{same_outside_self}
use Rattle.sb_pagewalk.specs.TableSet.{set_frames}
use Rattle.sb_pagewalk.proofs.Clearing.{cleared_none, cleared_more}
use Rattle.sb_pagewalk.proofs.table_set.TableSet.clear.Goals as goal

pub loop-table-init : goal.loop-table-init
loop-table-init c =
    let none = cleared_none c.args.self.now c.args.memory.now in
    let same = same_outside_self (set_frames c.args.self.now) c.args.memory.now in
    let written = c.clear_frame.ensures.written in
    let size = c.clear_frame.ensures.size in
    let root = cleared_more c.args.self.now _ _ _ 0 _ c.requires.eleven refl written size c.requires.frames same
    (omega arith) none in
    (root.0, size, root.1)

pub loop-table-preserved : goal.loop-table-preserved
loop-table-preserved c =
    let before = c.loop-table.invariant in
    let written = c.clear_frame-in-loop-table.ensures.written in
    let size = c.clear_frame-in-loop-table.ensures.size in
    let step = cleared_more c.args.self.now _ _ _ c.loop-table.table _ c.requires.eleven c.frame.ensures written size
    c.requires.frames before.2 c.loop-table-test.true before.0 in
    (step.0, size, step.1)
