-- Whether a call of which the flight began among lines is not decided behind them.
use Rattle.std.specs.Prelude.{◌==◌, ◌&&◌, ◌||◌, Bool, true, false, not, List, [], ◌∷◌}
use Rattle.sb_abi.specs.declared.trampoline.TheConstants.{VMFUNC_PHASE}
use Rattle.sb_trace.specs.declared.event.Event.{Event}
use Rattle.sb_trace.specs.declared.event.Event.TheVariants as event

-- whether a flight begins with the line: the VMFUNC into a server
abbrev pub begins_flight : Event → Bool
begins_flight (event.Landing phase) = phase == VMFUNC_PHASE
begins_flight (event.Step rip) = false
begins_flight (event.Extra rip) = false
begins_flight (event.Stray rip) = false
begins_flight (event.Printed value) = false
begins_flight (event.Sys number answer) = false
begins_flight (event.Exit status) = false
begins_flight (event.Fault kind address) = false
begins_flight (event.ServerFault kind address) = false
begins_flight (event.ServerExit status) = false
begins_flight (event.Entered index slot) = false
begins_flight (event.WrongKey index) = false
begins_flight (event.PoolEmpty index) = false
begins_flight (event.Unbound index) = false
begins_flight (event.BadLeaf index) = false
begins_flight event.Return = false
begins_flight event.Turn = false
begins_flight event.Idle = false

-- whether a call is decided at the line: it is entered, or refused by its landing
abbrev pub decides_call : Event → Bool
decides_call (event.Entered index slot) = true
decides_call (event.WrongKey index) = true
decides_call (event.PoolEmpty index) = true
decides_call (event.Step rip) = false
decides_call (event.Extra rip) = false
decides_call (event.Stray rip) = false
decides_call (event.Printed value) = false
decides_call (event.Sys number answer) = false
decides_call (event.Exit status) = false
decides_call (event.Fault kind address) = false
decides_call (event.ServerFault kind address) = false
decides_call (event.ServerExit status) = false
decides_call (event.Unbound index) = false
decides_call (event.BadLeaf index) = false
decides_call event.Return = false
decides_call event.Turn = false
decides_call (event.Landing phase) = false
decides_call event.Idle = false

-- whether such a call is not decided behind the line, by whether one was not before it
abbrev pub undecided_behind : Bool → Event → Bool
undecided_behind undecided line = begins_flight line || (undecided && not (decides_call line))

-- whether such a call is not decided behind the lines, by whether one was not before them
abbrev pub undecided_after : Bool → List Event → Bool
undecided_after undecided [] = undecided
undecided_after undecided (line ∷ lines) = undecided_after (undecided_behind undecided line) lines
