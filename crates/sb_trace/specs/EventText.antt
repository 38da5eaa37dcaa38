-- The text of one line: the core, and what happened there.
use Rattle.std.specs.Prelude.{ℕ, ◌==◌, if◌then◌else◌, List, ◌++◌, codes}
use Rattle.std.specs.Fmt.{decimal}
use Rattle.sb_abi.specs.declared.trampoline.TheConstants.{VMFUNC_PHASE}
use Rattle.sb_bus.specs.declared.stop.FaultKind.{FaultKind}
use Rattle.sb_exec.specs.Stop.{fault_kind_text}
use Rattle.sb_state.specs.EndText.{hex}
use Rattle.sb_trace.specs.declared.event.Event.{Event}
use Rattle.sb_trace.specs.declared.event.Event.TheVariants.{Step, Extra, Stray, Printed, Sys, Exit, Fault, ServerFault, ServerExit, Entered, WrongKey, PoolEmpty, Unbound, BadLeaf, Return, Turn, Landing, Idle}
use Rattle.sb_trace.specs.declared.event.Line.{Line}

abbrev pub fault_text : FaultKind → ℕ → List ℕ
fault_text kind at = codes "fault " ++ (fault_kind_text kind ++ (codes " " ++ hex at))

-- what a call through a binding came to
abbrev pub call_text : ℕ → List ℕ → List ℕ
call_text index outcome = codes "call " ++ (decimal index ++ outcome)

-- the VMFUNC into the server has a letter
abbrev pub phase_text : ℕ → List ℕ
phase_text phase = if phase == VMFUNC_PHASE then codes "v" else decimal phase

abbrev pub event_text : Event → List ℕ
event_text (Step rip) = codes "step " ++ hex rip
event_text (Extra rip) = codes "extra " ++ hex rip
event_text (Stray rip) = codes "stray " ++ hex rip
event_text (Printed value) = codes "print " ++ decimal value
event_text (Sys number answer) = codes "sys " ++ (decimal number ++ (codes " " ++ decimal answer))
event_text (Exit status) = codes "exit " ++ decimal status
event_text (Fault kind at) = fault_text kind at
event_text (ServerFault kind at) = codes "server " ++ fault_text kind at
event_text (ServerExit status) = codes "server exit " ++ decimal status
event_text (Entered index slot) = call_text index (codes " entered " ++ decimal slot)
event_text (WrongKey index) = call_text index (codes " wrong key")
event_text (PoolEmpty index) = call_text index (codes " pool empty")
event_text (Unbound index) = call_text index (codes " unbound")
event_text (BadLeaf index) = call_text index (codes " bad leaf")
event_text Return = codes "return"
event_text Turn = codes "turn"
event_text (Landing phase) = codes "landing " ++ phase_text phase
event_text Idle = codes "idle"

abbrev pub line_text : Line → List ℕ
line_text line = decimal line.core ++ (codes " " ++ event_text line.event)
