use Rattle.std.proofs.Common.{◌≡◌, ◌-◌}
use Rattle.sb_bundle.specs.Fields.{many}
use Rattle.sb_bundle.proofs.Loop.{with_prefix}
use Rattle.sb_bundle.proofs.reading.read_list.Given as goal

abbrev pub invariant-loop : goal.invariant-loop
invariant-loop g l =
    with_prefix l.parts.items (many (l.count - l.counter) (g.P.Part.field l.header) l.cursor)
    ≡ many l.count (g.P.Part.field l.header) l.initial.cursor
