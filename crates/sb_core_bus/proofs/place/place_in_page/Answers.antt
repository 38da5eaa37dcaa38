use Rattle.std.proofs.Common.{◌+◌, ◌*◌, ◌<◌, ◌≤◌, ◌%◌, ◌≡◌, Ok, arith, rules}
use Rattle.sb_memory.specs.Physical.{frame_count}
use Rattle.sb_walks.specs.Nested.{memory_behind, translation}
use Rattle.sb_nested.specs.View.{view}
use Rattle.sb_core_bus.proofs.InPage.{lies_at}
use Rattle.sb_core_bus.proofs.place.place_in_page.Goals as goal

pub returns-in-Ok-clause-found : goal.returns-in-Ok-clause-found
returns-in-Ok-clause-found c =
    let within : c.args.at.0 % 4096 + c.args.size ≤ 4096 = omega arith in
    let inside : c.in-Ok.place.0 < 4096 * frame_count c.args.memory.now = search rules in
    let leads : translation (memory_behind c.args.memory.now c.args.eptp) c.args.cr3 c.args.at.0 c.args.access ≡ Ok c.in-Ok.place =
    search rules in
    lies_at (view c.args.memory.now c.args.eptp c.args.cr3) c.args.access c.args.at.0 c.args.size c.in-Ok.place
    c.frames-frames.ensures.all c.frames-frames.ensures.sound.size inside (search rules) within leads
