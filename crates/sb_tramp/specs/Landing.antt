-- The phases of a landing: a number for each instruction behind the switch, in their order, and the last for the switch.
use Rattle.std.specs.Prelude.{◌≡◌, ℕ, List, [], ◌∷◌, ◌++◌, length, slice_get, Option, Some}
use Rattle.std.specs.Option.{option_map}
use Rattle.sb_insn.specs.Spelling.{spelling}
use Rattle.sb_tramp.specs.declared.landing.LandingRow.{LandingRow}
use Rattle.sb_tramp.specs.Page.{PageRow, StandsIn}
use Rattle.sb_tramp.specs.Server.{switch_row, landed_rows, server_page}

-- the rows in the order of the phases, from COMPARE_KEY to GO_HOME
abbrev pub phase_rows : List PageRow
phase_rows = landed_rows ++ (switch_row ∷ [])

-- the row of a phase, if there is one
abbrev pub phase_row : ℕ → Option PageRow
phase_row phase = slice_get phase_rows phase

-- where an instruction stands, and how many bytes it has
abbrev pub place_of : PageRow → LandingRow
place_of row = record { offset = row.offset; length = length (spelling row.insn) }

-- where the instruction of a phase stands
unfoldable pub landing_at : ℕ → Option LandingRow
landing_at phase = option_map place_of (phase_row phase)

-- each phase's instruction stands in the server page
abbrev pub EachPhaseStands : Type 0
EachPhaseStands = (phase : ℕ) (row : PageRow) → phase_row phase ≡ Some row → StandsIn server_page row
