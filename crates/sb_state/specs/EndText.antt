-- The text of whether a thread goes on, as the report has it.
use Rattle.std.specs.Prelude.{ℕ, List, ◌++◌, codes, false}
use Rattle.std.specs.Fmt.{digits, decimal}
use Rattle.sb_bus.specs.Stop.{fault_kind_text}
use Rattle.sb_state.specs.declared.end_kind.EndKind.{EndKind}
use Rattle.sb_state.specs.declared.end_kind.EndKind.TheVariants.{Running, Ended, Faulted}

-- hexadecimal, in lower case and without leading zeros
abbrev pub hex : ℕ → List ℕ
hex value = digits 16 false value

-- whether a thread goes on, or how it ended
abbrev pub state_text : EndKind → List ℕ
state_text Running = codes "running"
state_text (Ended status) = codes "ended " ++ decimal status
state_text (Faulted kind at) = codes "faulted " ++ (fault_kind_text kind ++ (codes " " ++ hex at))
