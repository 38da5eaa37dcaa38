-- What `run_block` answers is a block that can be committed.
use Rattle.std.proofs.Common.{◌≡◌, ℕ, List}
use Rattle.sb_memory.specs.Physical.{Physical}
use Rattle.sb_machine.specs.declared.processor.CoreState.{CoreState}
use Rattle.sb_machine.specs.declared.place.Seen.{Seen}
use Rattle.sb_machine.specs.Seens.{seen_words}
use Rattle.sb_block.specs.declared.fact.MadeStep.{MadeStep}
use Rattle.sb_block.specs.Answers.{IsRunOf}
use Rattle.sb_block.specs.Block.{BlockHolds}
use Rattle.sb_block.specs.Places.{AreReadsIn, AreWritesIn}
use Rattle.sb_book.specs.Commit.{IsBlockOf}

-- so many steps over copies, of which the law says that they hold, are a block
pub is_block_of : (frames number : ℕ) (start : CoreState) (limit : ℕ) (copies : Physical) (core : ℕ) (before after : CoreState)
    (steps : List MadeStep) (reads writes : List Seen)
    → IsRunOf number start limit copies core before after steps reads writes
    → BlockHolds frames number start steps after reads writes
    → AreReadsIn frames number reads → AreWritesIn frames writes → IsBlockOf frames core before after steps reads writes
is_block_of frames number start limit copies core before after steps reads writes run held inside written =
    rw (run.of, run.from)
    record {
      holds = held;
      words = seen_words copies run.noted.reads;
      count_first = run.saw;
      reads_in = inside;
      writes_in = written;
    }
