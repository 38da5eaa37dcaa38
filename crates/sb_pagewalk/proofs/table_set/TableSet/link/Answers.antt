use Rattle.std.proofs.Common.{arith}
use Rattle.sb_memory.proofs.Changes.{same_outside_self}
use Rattle.sb_pagewalk.specs.TableSet.{set_frames}
use Rattle.sb_pagewalk.proofs.Standing.{word_place}
use Rattle.sb_pagewalk.proofs.Clearing.{frames_stay}
use Rattle.sb_pagewalk.proofs.Linking.{linked_none, linked_more}
use Rattle.sb_pagewalk.proofs.table_set.TableSet.link.Goals as goal

pub loop-table-init : goal.loop-table-init
loop-table-init c = (
  linked_none c.args.self.now c.args.memory.now c.requires.cleared,
  same_outside_self
      (set_frames c.args.self.now) c.args.memory.now,
)

pub set_word-requires : goal.set_word-requires
set_word-requires c =
    let frames = frames_stay c.args.self.now c.args.memory.now c.loop-table.memory c.loop-table.invariant.1 c.requires.frames in
    word_place c.args.self.now c.loop-table.memory c.entered_at-parent.result.0 c.entered_at-parent.result.1 _
    c.place.ensures frames (omega arith) c.entered_at-parent.ensures.within

pub loop-table-preserved : goal.loop-table-preserved
loop-table-preserved c =
    let entered = c.entered_at-parent.ensures in
    let place = rw (entered.parent, entered.slot) at c.place.ensures in
    let written = rw c.entry_to.ensures at c.set_word.ensures.written in
    let before = c.loop-table.invariant in
    linked_more c.args.self.now _ _ _ c.loop-table.table _ c.requires.eleven place written c.requires.size c.requires.frames
    before.1 (omega arith) c.loop-table-test.true before.0
