-- What holds of the run behind a text (docs/LAWS.md).
use Rattle.std.specs.Prelude.{ℕ, ◌≡◌, ◌%◌, ◌^◌, List, Option, Ok}
use Rattle.sb_abi.specs.declared.trampoline.TheConstants.{VMFUNC_ADDRESS}
use Rattle.sb_memory.specs.Physical.{Physical}
use Rattle.sb_shows.specs.Dump.{IsDump}
use Rattle.sb_shows.specs.Pattern.{FetchesPattern, LeadsToPattern}
use Rattle.sb_shows.specs.Shows.{CoreWords, IsView, seen_through}
use Rattle.sb_state.specs.State.{State}
use Rattle.sb_trace.specs.End.{end_of}
use Rattle.sb_trace.specs.Report.{report_text}
use Rattle.sb_bundle.specs.declared.bundle.Bundle.{Bundle}
use Rattle.sb_load.specs.Loading.{Load, Loads}
use Rattle.sb_load.specs.FirstState.{first_state}
use Rattle.sb_port.specs.Port.{Appended}
use Rattle.sb_trace.specs.Laws.{IsTextOfLawfulRun, IsReportOfLawfulRun}
use Rattle.skybridge.specs.declared.words.Command.{Command}
use Rattle.skybridge.specs.declared.words.Command.TheVariants.{OfBundle, Generate, GenerateBundle, Help}
use Rattle.skybridge.specs.declared.words.BundleCommand.{BundleCommand}
use Rattle.skybridge.specs.declared.words.BundleCommand.TheVariants.{Replay, ReplayDump, Plain, Check, Rewrite}
use Rattle.skybridge.specs.Words.{AreWordsOf}
use Rattle.sb_generator.specs.Generator.{generated}
use Rattle.sb_generator.specs.Summary.{summary_text}
use Rattle.skybridge.specs.Output.{IsReportWithDump, IsOutput, IsMade, ReportedAs}

-- The report of a run of the bundle of which the laws hold. Without its landing lines the run is one of the machine that calls
-- in one step, and the report, without its lines `landing` and `flight`, is the report of that run. And in each state of the
-- run VMFUNC's bytes may be fetched at one address alone.
abbrev pub IsLawfulReport : Bundle → List ℕ → Type 0
IsLawfulReport bundle text =
    (load : Load) × Loads bundle (Ok load)
    × IsReportOfLawfulRun (first_state load) load.bundle.schedule text

-- Whoever reads memory and words out of the dump finds VMFUNC's bytes for fetch at one address alone, in each view of each thread,
-- and there at one of two places.
abbrev pub SwitchesAtTwoPlaces : List ℕ → State → Type 0
SwitchesAtTwoPlaces dump end =
    (memory : Physical) (cores : ℕ → CoreWords) (core_count frames thread index address : ℕ)
    → IsDump dump memory cores core_count frames → IsView end thread index
    → FetchesPattern (seen_through memory (cores thread) index) address
    → (address % 2 ^ 64 ≡ VMFUNC_ADDRESS) × LeadsToPattern (seen_through memory (cores thread) index) index address

-- such a report, and behind it a dump of the same run
abbrev pub IsLawfulReportWithDump : Bundle → List ℕ → Type 0
IsLawfulReportWithDump bundle text =
    (both : IsReportWithDump bundle text) × IsLawfulReport bundle (report_text both.lines (end_of both.end))
    × SwitchesAtTwoPlaces both.dump both.end

-- what a command writes, where the laws hold of the run that a report is of
unfoldable pub IsLawfulOutput : BundleCommand → Bundle → List ℕ → Type 0
IsLawfulOutput Replay bundle text = IsLawfulReport bundle text
IsLawfulOutput ReplayDump bundle text = IsLawfulReportWithDump bundle text
IsLawfulOutput Plain bundle text = IsLawfulReport bundle text
IsLawfulOutput Check bundle text = IsOutput Check bundle text
IsLawfulOutput Rewrite bundle text = IsOutput Rewrite bundle text

-- the summary of a run of the generated bundle of which the laws hold
abbrev pub IsLawfulSummary : ℕ → List ℕ → Type 0
IsLawfulSummary number text =
    (load : Load) × Loads (generated number) (Ok load)
    × IsTextOfLawfulRun (summary_text number) (first_state load) load.bundle.schedule text

-- what the other commands write, where the laws hold of the run that a summary is of
abbrev pub IsLawfullyMade : Command → List ℕ → Type 0
IsLawfullyMade (Generate number) text = IsLawfulSummary number text
IsLawfullyMade (GenerateBundle number) text = IsMade (GenerateBundle number) text
IsLawfullyMade (OfBundle command) text = IsMade (OfBundle command) text
IsLawfullyMade Help text = IsMade Help text

-- an accepted bundle was read, if the command reads one, and the command's text was appended
abbrev pub WroteLawfullyOf : Command → Option (List ℕ) → Option (List ℕ) → Option (List ℕ) → Option (List ℕ) → Type 0
WroteLawfullyOf (OfBundle command) left left' held held' = ReportedAs (IsLawfulOutput command) left left' held held'
WroteLawfullyOf command left left' held held' = (text : List ℕ) × IsLawfullyMade command text × Appended held held' text

-- the words are a command, whose text was written
abbrev pub WroteLawfully : List (List ℕ) → Option (List ℕ) → Option (List ℕ) → Option (List ℕ) → Option (List ℕ) → Type 0
WroteLawfully words left left' held held' =
    (command : Command) × AreWordsOf command words × WroteLawfullyOf command left left' held held'
