use Rattle.sb_machine.proofs.Begun.{list_word}
use Rattle.sb_machine.proofs.start.first_core.Goals as goal

pub word-requires-2 : goal.word-requires-2
word-requires-2 c =
    rw c.word.ensures (list_word c.args.root.now c.args.memory.now c.args.thread c.list_frame-list.result c.requires.stands
    c.list_frame-list.ensures)
