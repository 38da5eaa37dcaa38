-- Statuses.
use Rattle.std.specs.Prelude.{ℕ, ⊤}
use Rattle.sb_input.specs.declared.status.Status.{Status}
use Rattle.sb_input.specs.declared.status.Status.TheVariants.{Done, BadWords, ReadFault, WriteFault, BundleRefused, LoadRefused, NoMemory, TooLong}

-- a status that says nothing of an input
abbrev pub IsOwn : Status → Type 0
IsOwn Done = ⊤
IsOwn BadWords = ⊤
IsOwn ReadFault = ⊥
IsOwn WriteFault = ⊤
IsOwn BundleRefused = ⊥
IsOwn LoadRefused = ⊥
IsOwn NoMemory = ⊤
IsOwn TooLong = ⊥

-- the program's exit status
abbrev pub exit_status : Status → ℕ
exit_status Done = 0
exit_status BadWords = 2
exit_status ReadFault = 3
exit_status WriteFault = 4
exit_status BundleRefused = 5
exit_status LoadRefused = 6
exit_status NoMemory = 7
exit_status TooLong = 8
