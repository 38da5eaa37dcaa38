-- The numbers of system calls, of their refusals, and of the statuses of calls (docs/FORMATS.md, "System calls").
use Rattle.std.specs.Prelude.{ℕ}
use Rattle.sb_abi.specs.declared.call.Call.{Call}
use Rattle.sb_abi.specs.declared.call.Call.TheVariants.{Exit, Print, Register, Bind, Protect}
use Rattle.sb_abi.specs.declared.call.CallRefusal.{CallRefusal}
use Rattle.sb_abi.specs.declared.call.CallRefusal.TheVariants.{InServer, Already, BadHandler, BadCount, NoFrames, NoServer, ListFull, NoKeys, BadPage, BadMode, Pattern, NoCall}
use Rattle.sb_abi.specs.declared.call.CallStatus.{CallStatus}
use Rattle.sb_abi.specs.declared.call.CallStatus.TheVariants.{Served, WrongKey, PoolEmpty, Unbound, ServerFault, BadLeaf}

-- the number of a system call, in RAX
abbrev pub call_number : Call → ℕ
call_number Exit = 0
call_number Print = 1
call_number Register = 2
call_number Bind = 3
call_number Protect = 4

-- what a refused system call answers in RAX
abbrev pub refusal_number : CallRefusal → ℕ
refusal_number InServer = 10
refusal_number Already = 11
refusal_number BadHandler = 12
refusal_number BadCount = 13
refusal_number NoFrames = 14
refusal_number NoServer = 15
refusal_number ListFull = 16
refusal_number NoKeys = 17
refusal_number BadPage = 18
refusal_number BadMode = 19
refusal_number Pattern = 20
refusal_number NoCall = 21

-- the status of a call, in R9
abbrev pub status_number : CallStatus → ℕ
status_number Served = 0
status_number WrongKey = 1
status_number PoolEmpty = 2
status_number Unbound = 3
status_number ServerFault = 4
status_number BadLeaf = 5
