-- The phase of a landing at which a core stands, read off RIP.
use Rattle.std.specs.Prelude.{ℕ, ◌+◌, ◌==◌, List, [], ◌∷◌, Option, Some, None, if◌then◌else◌}
use Rattle.sb_abi.specs.declared.trampoline.TheConstants.{TRAMPOLINE_ADDRESS, ENTER}
use Rattle.sb_tramp.specs.Page.{PageRow}
use Rattle.sb_tramp.specs.Landing.{phase_rows}

-- the number of the first of these rows that stands at an address, counted from this number
abbrev pub phase_among : ℕ → List PageRow → ℕ → Option ℕ
phase_among number [] address = None
phase_among number (row ∷ rows) address =
    if address == TRAMPOLINE_ADDRESS + row.offset then Some number else phase_among (number + 1) rows address

-- the phase whose instruction stands at an address
unfoldable pub phase_at : ℕ → Option ℕ
phase_at address = phase_among 0 phase_rows address

-- The phase behind an instruction in flight is the one at RIP. The jump to the handler ends the flight.
abbrev pub phase_behind : Option ℕ → ℕ → Option ℕ
phase_behind None rip = None
phase_behind (Some phase) rip = if phase == ENTER then None else phase_at rip
