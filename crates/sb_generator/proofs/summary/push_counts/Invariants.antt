use Rattle.std.proofs.Common.{◌≡◌, ◌++◌, string_bytes, take}
use Rattle.std.specs.Prelude.{flat_map}
use Rattle.sb_generator.specs.Summary.{count_line}
use Rattle.sb_generator.proofs.summary.push_counts.Given as goal

abbrev pub invariant-loop-kind : goal.invariant-loop-kind
invariant-loop-kind l =
    string_bytes l.out ≡ string_bytes l.initial.out ++ flat_map (count_line l.lines) (take l.kind-index l.kinds)
