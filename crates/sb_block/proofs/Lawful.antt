-- Steps over copies are a block, and a block holds.
use Rattle.std.proofs.Common.{◌≡◌, ap, subst, ℕ, List}
use Rattle.sb_memory.specs.Physical.{Physical, IsPhysical, frame_count}
use Rattle.sb_partial.specs.Copies.{Copied, untouched}
use Rattle.sb_machine.specs.declared.processor.CoreState.{CoreState}
use Rattle.sb_machine.specs.declared.place.Seen.{Seen}
use Rattle.sb_block.specs.Answers.{IsRunOf}
use Rattle.sb_block.specs.Block.{BlockHolds, IsBlock}
use Rattle.sb_block.specs.declared.fact.MadeStep.{MadeStep}
use Rattle.sb_block.proofs.Blocks.{copies_give}
use Rattle.sb_block.proofs.Machines.{block_holds}

-- copies to which nothing was done are a physical memory
pub given_sound : (part : Copied) → part ≡ untouched part.given → IsPhysical part.memory → IsPhysical part.given
given_sound part same sound = subst IsPhysical (ap (λ (one : Copied). one.memory) same) sound

-- steps over copies are a block
pub block_by : {number limit core : ℕ} {start before last : CoreState} {copies : Physical} {steps : List MadeStep}
    {reads writes : List Seen} → IsPhysical copies → IsRunOf number start limit copies core before last steps reads writes
    → IsBlock (frame_count copies) number start steps last reads writes
block_by {number} {start} {last} {copies} {steps} sound run =
    rw (run.saw, run.wrote) (copies_give number start steps last copies run.ended run.noted sound run.runs)

-- and by the law it is a run of each machine that holds what was read
pub holds_by : {number limit core : ℕ} {start before last : CoreState} {copies : Physical} {steps : List MadeStep}
    {reads writes : List Seen} → IsPhysical copies → IsRunOf number start limit copies core before last steps reads writes
    → BlockHolds (frame_count copies) number start steps last reads writes
holds_by {number} {start} {last} {copies} {steps} {reads} {writes} sound run =
    block_holds (frame_count copies) number start steps last reads writes (block_by sound run)
