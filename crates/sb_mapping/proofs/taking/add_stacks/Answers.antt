use Rattle.std.proofs.Common.{arith}
use Rattle.sb_mapping.proofs.Stacks.{window_of_stack}
use Rattle.sb_mapping.proofs.taking.add_stacks.Goals as goal

pub add_page-requires-clause-window : goal.add_page-requires-clause-window
add_page-requires-clause-window c =
    let below = c.loop-page-test.true in
    let few = c.requires.few in
    rw c.stack_address.ensures (window_of_stack c.loop-page.page (omega arith))
