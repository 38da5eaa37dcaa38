-- The laws hold of the run behind each report and each summary.
use Rattle.std.proofs.Common.{◌≡◌, ℕ, List, Option, refl}
use Rattle.sb_port.specs.Port.{Appended}
use Rattle.sb_bundle.specs.declared.bundle.Bundle.{Bundle}
use Rattle.sb_load.specs.FirstState.{first_state}
use Rattle.sb_shows.specs.Dump.{IsDumpOf}
use Rattle.sb_shows.proofs.Dumped.{dumps_show}
use Rattle.sb_shows.proofs.Fetched.{pattern_at_two_places}
use Rattle.sb_state.specs.State.{State}
use Rattle.sb_trace.specs.End.{end_of}
use Rattle.sb_trace.specs.Report.{report_text}
use Rattle.sb_trace.specs.Sound.{IsSound}
use Rattle.sb_trace.proofs.SoundRuns.{runs_keep_sound}
use Rattle.sb_trace.proofs.Texts.{texts_are_of_lawful_runs, reports_are_of_lawful_runs}
use Rattle.sb_plain.proofs.FirstSound.{first_sound}
use Rattle.skybridge.specs.declared.words.BundleCommand.{BundleCommand}
use Rattle.skybridge.specs.declared.words.BundleCommand.TheVariants.{Replay, ReplayDump, Plain, Check, Rewrite}
use Rattle.sb_generator.specs.Summary.{summary_text}
use Rattle.sb_input.specs.declared.status.Status.{Status}
use Rattle.sb_input.specs.declared.status.Status.TheVariants.{Done, BadWords, ReadFault, WriteFault, BundleRefused, LoadRefused, NoMemory, TooLong}
use Rattle.skybridge.specs.Written.{Writes}
use Rattle.skybridge.specs.Output.{IsReport, IsReportWithDump, IsSummary, IsOutput, WasRead, ReportedAs}
use Rattle.skybridge.specs.Lawful.{SwitchesAtTwoPlaces, IsLawfulReport, IsLawfulReportWithDump, IsLawfulOutput, IsLawfulSummary}

lawful_report : (bundle : Bundle) (text : List ℕ) → IsReport bundle text → IsLawfulReport bundle text
lawful_report bundle text (load, loads, is) = (
  load,
  loads,
  reports_are_of_lawful_runs (first_state load) load.bundle.schedule text (first_sound load loads.1) is,
)

-- a dump of a sound state has VMFUNC's bytes for fetch at two places alone, whoever reads it
two_places : (dump : List ℕ) (end : State) (frames : ℕ) → IsSound end → IsDumpOf dump end frames → SwitchesAtTwoPlaces dump end
two_places dump end frames sound shows memory cores core_count frames' thread index address is view fetches =
    pattern_at_two_places end memory cores thread index address sound
    (dumps_show dump end memory cores core_count frames frames' shows is) view fetches

lawful_report_with_dump : (bundle : Bundle) (text : List ℕ) → IsReportWithDump bundle text → IsLawfulReportWithDump bundle text
lawful_report_with_dump bundle text both =
    let first = first_sound both.load both.loads.1 in
    let sound = runs_keep_sound (first_state both.load) both.load.bundle.schedule both.lines both.end first both.runs in (
      both,
      lawful_report bundle (report_text both.lines (end_of both.end))
          (both.load, both.loads, (both.lines, both.end, both.runs, refl)),
      two_places both.dump both.end both.load.bundle.frames sound both.shows,
    )

pub lawful : (command : BundleCommand) (bundle : Bundle) (text : List ℕ) → IsOutput command bundle text
    → IsLawfulOutput command bundle text
unfolding IsLawfulOutput
lawful Replay bundle text report = lawful_report bundle text report
lawful ReplayDump bundle text both = lawful_report_with_dump bundle text both
lawful Plain bundle text report = lawful_report bundle text report
lawful Check bundle text listing = listing
lawful Rewrite bundle text listing = listing

pub lawful_summary : (number : ℕ) (text : List ℕ) → IsSummary number text → IsLawfulSummary number text
lawful_summary number text (load, loads, is) = (
  load,
  loads,
  texts_are_of_lawful_runs (summary_text number) (first_state load) load.bundle.schedule text (first_sound load loads.1) is,
)

-- ---- what was written

-- the laws hold of the run behind an output that was written whole
pub reported_lawfully : (command : BundleCommand) (bundle : Bundle) (status : Status) (tells tells' held held' : Option (List ℕ))
    (faults faults' : ℕ)
    → WasRead bundle tells tells' → Writes (IsOutput command bundle) status held held' faults faults' → status ≡ Done
    → ReportedAs (IsLawfulOutput command) tells tells' held held'
reported_lawfully command bundle Done tells tells' held held' faults faults' read (text, is, appended) done =
    (bundle, text, read, lawful command bundle text is, appended)
reported_lawfully command bundle WriteFault tells tells' held held' faults faults' read written done = absurd cc
reported_lawfully command bundle NoMemory tells tells' held held' faults faults' read written done = absurd cc
reported_lawfully command bundle BadWords tells tells' held held' faults faults' read written done = absurd written
reported_lawfully command bundle ReadFault tells tells' held held' faults faults' read written done = absurd written
reported_lawfully command bundle BundleRefused tells tells' held held' faults faults' read written done = absurd written
reported_lawfully command bundle LoadRefused tells tells' held held' faults faults' read written done = absurd written
reported_lawfully command bundle TooLong tells tells' held held' faults faults' read written done = absurd written

-- and of that behind a summary
pub summary_lawfully : (number : ℕ) (status : Status) (held held' : Option (List ℕ)) (faults faults' : ℕ)
    → Writes (IsSummary number) status held held' faults faults' → status ≡ Done
    → (text : List ℕ) × IsLawfulSummary number text × Appended held held' text
summary_lawfully number Done held held' faults faults' (text, is, appended) done =
    (text, lawful_summary number text is, appended)
summary_lawfully number WriteFault held held' faults faults' written done = absurd cc
summary_lawfully number NoMemory held held' faults faults' written done = absurd cc
summary_lawfully number BadWords held held' faults faults' written done = absurd written
summary_lawfully number ReadFault held held' faults faults' written done = absurd written
summary_lawfully number BundleRefused held held' faults faults' written done = absurd written
summary_lawfully number LoadRefused held held' faults faults' written done = absurd written
summary_lawfully number TooLong held held' faults faults' written done = absurd written
