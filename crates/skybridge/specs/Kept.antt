-- The machine that a command leaves.
use Rattle.std.specs.Prelude.{ℕ, ◌≡◌, List, ◌++◌, Option, None, Ok, ⊤}
use Rattle.sb_bundle.specs.declared.bundle.Bundle.{Bundle}
use Rattle.sb_generator.specs.Generator.{generated}
use Rattle.sb_load.specs.Loading.{Load, Loads}
use Rattle.sb_machine.specs.Dump.{machine_dump}
use Rattle.sb_machine.specs.Machine.{Machine}
use Rattle.sb_machine.specs.Ran.{HasRun}
use Rattle.sb_port.specs.Port.{Appended}
use Rattle.sb_state.specs.State.{State}
use Rattle.sb_trace.specs.declared.event.Line.{Line}
use Rattle.skybridge.specs.declared.words.Command.{Command}
use Rattle.skybridge.specs.declared.words.Command.TheVariants.{OfBundle, Generate, GenerateBundle, Help}
use Rattle.skybridge.specs.declared.words.BundleCommand.{BundleCommand}
use Rattle.skybridge.specs.declared.words.BundleCommand.TheVariants.{Replay, ReplayDump, Plain, Check, Rewrite}
use Rattle.skybridge.specs.Output.{IsReport, WasRead}
use Rattle.skybridge.specs.Words.{AreWordsOf}
use Rattle.skybridge.specs.Written.{Leaves}
use Rattle.sb_input.specs.declared.status.Status.{Status}

-- the command runs the machine with page tables
abbrev pub RunsMachine : Command → Type 0
RunsMachine (OfBundle Replay) = ⊤
RunsMachine (OfBundle ReplayDump) = ⊤
RunsMachine (OfBundle Plain) = ⊥
RunsMachine (OfBundle Check) = ⊥
RunsMachine (OfBundle Rewrite) = ⊥
RunsMachine (Generate number) = ⊤
RunsMachine (GenerateBundle number) = ⊥
RunsMachine Help = ⊥

-- the words are such a command
abbrev pub RunMachine : List (List ℕ) → Type 0
RunMachine words = (command : Command) × AreWordsOf command words × RunsMachine command

-- The machine has made the run of the bundle on its schedule: it stands for the last state, and each of its cores has made as many
-- lines as the schedule has entries of it.
abbrev pub HasRunOf : Machine → Bundle → Type 0
HasRunOf machine bundle =
    (load : Load) × Loads bundle (Ok load)
    × ((lines : List Line) × (end : State) × HasRun machine load load.bundle.schedule lines end)

-- the report of the bundle and the dump of the machine were appended
abbrev pub HasDumpOf : Machine → Bundle → Option (List ℕ) → Option (List ℕ) → Type 0
HasDumpOf machine bundle held held' =
    (report : List ℕ) × IsReport bundle report × Appended held held' (report ++ machine_dump machine)

-- what a command on a bundle leaves
abbrev pub LeavesOf : BundleCommand → Bundle → Status → Option Machine → Type 0
LeavesOf Replay bundle status kept = Leaves (λ machine. HasRunOf machine bundle) status kept
LeavesOf ReplayDump bundle status kept = Leaves (λ machine. HasRunOf machine bundle) status kept
LeavesOf Plain bundle status kept = kept ≡ None
LeavesOf Check bundle status kept = kept ≡ None
LeavesOf Rewrite bundle status kept = kept ≡ None

-- ---- of the words

-- the machine has made the run of the bundle that was read, or generated
abbrev pub HasRunFor : Command → Option (List ℕ) → Option (List ℕ) → Machine → Type 0
HasRunFor (OfBundle command) left left' machine = (bundle : Bundle) × WasRead bundle left left' × HasRunOf machine bundle
HasRunFor (Generate number) left left' machine = HasRunOf machine (generated number)
HasRunFor (GenerateBundle number) left left' machine = ⊥
HasRunFor Help left left' machine = ⊥

-- the words are a command that runs the machine, and this one has made its run
abbrev pub IsLeft : List (List ℕ) → Option (List ℕ) → Option (List ℕ) → Machine → Type 0
IsLeft words left left' machine =
    (command : Command) × AreWordsOf command words × RunsMachine command × HasRunFor command left left' machine

-- an accepted bundle was read, and its report and the dump of this machine were appended
abbrev pub ReportedWithDump : Option (List ℕ) → Option (List ℕ) → Option (List ℕ) → Option (List ℕ) → Machine → Type 0
ReportedWithDump left left' held held' machine =
    (bundle : Bundle) × WasRead bundle left left' × HasDumpOf machine bundle held held'
