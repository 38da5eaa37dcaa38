use Rattle.std.proofs.Common.{◌≡◌, map, take}
use Rattle.sb_sub.specs.Start.{start_seat}
use Rattle.sb_sub.proofs.start.start_seats.Given as goal

abbrev pub invariant-loop-core : goal.invariant-loop-core
invariant-loop-core l = l.seats.items ≡ map start_seat (take l.core-index l.cores)
