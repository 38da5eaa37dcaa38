-- The machine that is left.
use Rattle.std.proofs.Common.{◌≡◌, ◌⊎◌, inl, inr, ℕ, List, ◌++◌, Option, Some, None, refl, ap, subst}
use Rattle.std.specs.Prelude.{IfSome}
use Rattle.std.specs.Option.{IsSome}
use Rattle.sb_bundle.specs.declared.bundle.Bundle.{Bundle}
use Rattle.sb_load.specs.Loading.{Load, IsLoadable}
use Rattle.sb_machine.specs.Dump.{machine_dump, DumpShows}
use Rattle.sb_machine.specs.Machine.{Machine}
use Rattle.sb_shows.specs.Dump.{IsDumpOf}
use Rattle.sb_trace.specs.Report.{report_text}
use Rattle.sb_trace.specs.declared.end.EndState.{EndState}
use Rattle.sb_trace.specs.declared.event.Line.{Line}
use Rattle.sb_input.specs.declared.status.Status.{Status}
use Rattle.sb_input.specs.declared.status.Status.TheVariants.{Done, BadWords, ReadFault, WriteFault, BundleRefused, LoadRefused, NoMemory, TooLong}
use Rattle.skybridge.specs.Words.{AreWordsOf}
use Rattle.skybridge.specs.declared.words.Command.{Command}
use Rattle.skybridge.specs.declared.words.Command.TheVariants.{OfBundle}
use Rattle.skybridge.specs.declared.words.BundleCommand.{BundleCommand}
use Rattle.skybridge.specs.declared.words.BundleCommand.TheVariants.{Replay, ReplayDump, Plain, Check, Rewrite}
use Rattle.skybridge.specs.Kept.{RunsMachine, HasRunOf, HasRunFor, LeavesOf, HasDumpOf, IsLeft, ReportedWithDump}
use Rattle.skybridge.specs.Output.{WasRead, IsReport, IsReportWithDump}
use Rattle.skybridge.specs.Runs.{IsTextOfMachineRun}
use Rattle.skybridge.specs.Written.{Leaves}

-- a text was written, whole or in part
abbrev pub IsWritten : Status → Type 0
IsWritten status = (status ≡ Done) ⊎ (status ≡ WriteFault)

-- ---- by the status

holds : (Holds : Machine → Type 0) (status : Status) (kept : Option Machine) → Leaves Holds status kept → IfSome kept Holds
holds Holds status None leaves = tt
holds Holds Done (Some machine) leaves = leaves
holds Holds WriteFault (Some machine) leaves = leaves
holds Holds NoMemory (Some machine) leaves = absurd cc
holds Holds BadWords (Some machine) leaves = absurd leaves
holds Holds ReadFault (Some machine) leaves = absurd leaves
holds Holds BundleRefused (Some machine) leaves = absurd leaves
holds Holds LoadRefused (Some machine) leaves = absurd leaves
holds Holds TooLong (Some machine) leaves = absurd leaves

some : (Holds : Machine → Type 0) (status : Status) (kept : Option Machine) → Leaves Holds status kept → IsWritten status
    → IsSome kept
some Holds status (Some machine) leaves written = refl
some Holds Done None leaves written = absurd leaves
some Holds WriteFault None leaves written = absurd leaves
some Holds NoMemory None leaves (inl is) = absurd cc
some Holds NoMemory None leaves (inr is) = absurd cc
some Holds BadWords None leaves written = absurd leaves
some Holds ReadFault None leaves written = absurd leaves
some Holds BundleRefused None leaves written = absurd leaves
some Holds LoadRefused None leaves written = absurd leaves
some Holds TooLong None leaves written = absurd leaves

only : (Holds : Machine → Type 0) (status : Status) (kept : Option Machine) → Leaves Holds status kept → IsSome kept
    → IsWritten status
only Holds status None leaves is = absurd cc
only Holds Done (Some machine) leaves is = inl refl
only Holds WriteFault (Some machine) leaves is = inr refl
only Holds NoMemory (Some machine) leaves is = absurd cc
only Holds BadWords (Some machine) leaves is = absurd leaves
only Holds ReadFault (Some machine) leaves is = absurd leaves
only Holds BundleRefused (Some machine) leaves is = absurd leaves
only Holds LoadRefused (Some machine) leaves is = absurd leaves
only Holds TooLong (Some machine) leaves is = absurd leaves

-- ---- by the command

-- the machine that is left has made the run of the bundle, and the command runs it
pub left : (command : BundleCommand) (bundle : Bundle) (status : Status) (kept : Option Machine)
    → LeavesOf command bundle status kept
    → IfSome kept (λ machine. RunsMachine (OfBundle command) × HasRunOf machine bundle)
left command bundle status None leaves = tt
left Replay bundle status (Some machine) leaves = (tt, holds (λ one. HasRunOf one bundle) status (Some machine) leaves)
left ReplayDump bundle status (Some machine) leaves = (tt, holds (λ one. HasRunOf one bundle) status (Some machine) leaves)
left Plain bundle status (Some machine) leaves = absurd cc
left Check bundle status (Some machine) leaves = absurd cc
left Rewrite bundle status (Some machine) leaves = absurd cc

-- of the bundle that was read
pub left_of_input : (command : BundleCommand) (bundle : Bundle) (status : Status) (kept : Option Machine)
    (tells tells' : Option (List ℕ))
    → WasRead bundle tells tells' → LeavesOf command bundle status kept
    → IfSome kept (λ machine. RunsMachine (OfBundle command) × HasRunFor (OfBundle command) tells tells' machine)
left_of_input command bundle status None tells tells' read leaves = tt
left_of_input command bundle status (Some machine) tells tells' read leaves =
    let (runs, ran) = left command bundle status (Some machine) leaves in
    (runs, (bundle, read, ran))

pub left_where : (command : BundleCommand) (bundle : Bundle) (status : Status) (kept : Option Machine)
    → LeavesOf command bundle status kept → RunsMachine (OfBundle command) → IsWritten status → IsSome kept
left_where Replay bundle status kept leaves runs written = some (λ one. HasRunOf one bundle) status kept leaves written
left_where ReplayDump bundle status kept leaves runs written = some (λ one. HasRunOf one bundle) status kept leaves written
left_where Plain bundle status kept leaves runs written = absurd runs
left_where Check bundle status kept leaves runs written = absurd runs
left_where Rewrite bundle status kept leaves runs written = absurd runs

pub left_only : (command : BundleCommand) (bundle : Bundle) (status : Status) (kept : Option Machine)
    → LeavesOf command bundle status kept → IsSome kept → IsWritten status
left_only Replay bundle status kept leaves is = only (λ one. HasRunOf one bundle) status kept leaves is
left_only ReplayDump bundle status kept leaves is = only (λ one. HasRunOf one bundle) status kept leaves is
left_only Plain bundle status None leaves is = absurd cc
left_only Plain bundle status (Some machine) leaves is = absurd cc
left_only Check bundle status None leaves is = absurd cc
left_only Check bundle status (Some machine) leaves is = absurd cc
left_only Rewrite bundle status None leaves is = absurd cc
left_only Rewrite bundle status (Some machine) leaves is = absurd cc

-- of the command that the words are
pub left_by_words : (words : List (List ℕ)) (command : Command) (kept : Option Machine) (tells tells' : Option (List ℕ))
    → AreWordsOf command words
    → IfSome kept (λ machine. RunsMachine command × HasRunFor command tells tells' machine)
    → IfSome kept (λ machine. IsLeft words tells tells' machine)
left_by_words words command None tells tells' are left = tt
left_by_words words command (Some machine) tells tells' are (runs, ran) = (command, are, runs, ran)

-- what was written is the report and the dump of the machine that is left
pub dumped : (bundle : Bundle) (kept : Option Machine) (tells tells' held held' : Option (List ℕ)) → WasRead bundle tells tells'
    → IfSome kept (λ machine. HasDumpOf machine bundle held held')
    → IfSome kept (λ machine. ReportedWithDump tells tells' held held' machine)
dumped bundle None tells tells' held held' read dump = tt
dumped bundle (Some machine) tells tells' held held' read dump = (bundle, read, dump)

-- ---- what is left of a run

-- a machine of which this holds is left where a text was written
pub leaves : (Holds : Machine → Type 0) (status : Status) (machine : Machine) → IsWritten status → Holds machine
    → Leaves Holds status (Some machine)
leaves Holds Done machine written is = is
leaves Holds WriteFault machine written is = is
leaves Holds NoMemory machine (inl same) is = absurd cc
leaves Holds NoMemory machine (inr same) is = absurd cc
leaves Holds BadWords machine (inl same) is = absurd cc
leaves Holds BadWords machine (inr same) is = absurd cc
leaves Holds ReadFault machine (inl same) is = absurd cc
leaves Holds ReadFault machine (inr same) is = absurd cc
leaves Holds BundleRefused machine (inl same) is = absurd cc
leaves Holds BundleRefused machine (inr same) is = absurd cc
leaves Holds LoadRefused machine (inl same) is = absurd cc
leaves Holds LoadRefused machine (inr same) is = absurd cc
leaves Holds TooLong machine (inl same) is = absurd cc
leaves Holds TooLong machine (inr same) is = absurd cc

-- a machine that made the run of which a text is written has the run of the bundle
pub ran_of : (text_of : List Line → EndState → List ℕ) (machine : Machine) (load : Load) (text : List ℕ) → IsLoadable load
    → IsTextOfMachineRun text_of machine load text → HasRunOf machine load.bundle
ran_of text_of machine load text loadable (lines, end, ran, is) = (load, (refl, loadable), (lines, end, ran))

-- the report of a machine's run is that of the bundle
pub report_of : (machine : Machine) (load : Load) (text : List ℕ) → IsLoadable load
    → IsTextOfMachineRun report_text machine load text → IsReport load.bundle text
report_of machine load text loadable (lines, end, ran, is) = (load, (refl, loadable), (lines, end, ran.runs, is))

-- with the dump of the machine behind it
pub report_with_dump : (machine : Machine) (load : Load) (text : List ℕ) → IsLoadable load → DumpShows machine
    → IsTextOfMachineRun report_text machine load text
    → IsReportWithDump load.bundle (text ++ machine_dump machine)
report_with_dump machine load text loadable shows (lines, end, ran, is) = record {
  load = load;
  loads = (refl, loadable);
  lines = lines;
  end = end;
  runs = ran.runs;
  dump = machine_dump machine;
  text_is = ap (λ (one : List ℕ). one ++ machine_dump machine) is;
  shows = subst (λ (frames : ℕ). IsDumpOf (machine_dump machine) end frames) ran.frames (shows end ran.stands);
}
