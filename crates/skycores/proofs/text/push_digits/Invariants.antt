use Rattle.std.specs.Prelude.{◌≡◌, ◌++◌, drop, string_bytes}
use Rattle.skycores.specs.Text.{digits_text}
use Rattle.skycores.proofs.text.push_digits.Given as goal

abbrev pub invariant-loop-at : goal.invariant-loop-at
invariant-loop-at l = string_bytes l.out ++ digits_text l.at (drop l.at l.journal) ≡ string_bytes l.initial.out ++ digits_text 0 l.journal
