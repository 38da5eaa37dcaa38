-- What the program writes.
use Rattle.std.specs.Prelude.{◌≡◌, ℕ, List, ◌++◌, Option, Ok, ⊤}
use Rattle.sb_port.specs.Port.{Appended}
use Rattle.sb_bundle.specs.declared.bundle.Bundle.{Bundle}
use Rattle.sb_bundle.specs.Spelling.{spelling}
use Rattle.sb_bundle.specs.declared.refusal.BundleRefusal.{BundleRefusal}
use Rattle.sb_load.specs.declared.refusal.LoadRefusal.{LoadRefusal}
use Rattle.sb_load.specs.Loading.{Load, Loads}
use Rattle.sb_load.specs.FirstState.{first_state}
use Rattle.sb_input.specs.Told.{WholeTold, PartlyAppended, WritesLine}
use Rattle.sb_input.specs.Input.{IsAccepted, IsNoBundle, IsNotLoadable}
use Rattle.sb_input.specs.Lines.{bundle_line, load_line}
use Rattle.sb_generator.specs.Generator.{generated}
use Rattle.sb_generator.specs.Summary.{summary_text}
use Rattle.sb_state.specs.State.{State}
use Rattle.sb_trace.specs.declared.event.Line.{Line}
use Rattle.sb_trace.specs.End.{end_of}
use Rattle.sb_trace.specs.Report.{report_text}
use Rattle.sb_trace.specs.Runs.{Runs}
use Rattle.sb_shows.specs.Dump.{IsDumpOf}
use Rattle.skybridge.specs.declared.words.Command.{Command}
use Rattle.skybridge.specs.declared.words.Command.TheVariants.{OfBundle, Generate, GenerateBundle, Help}
use Rattle.skybridge.specs.declared.words.BundleCommand.{BundleCommand}
use Rattle.skybridge.specs.declared.words.BundleCommand.TheVariants.{Replay, ReplayDump, Plain, Check, Rewrite}
use Rattle.skybridge.specs.Words.{AreWordsOf}
use Rattle.skybridge.specs.Runs.{IsTextOfBundleRun}
use Rattle.skybridge.specs.CommandText.{check_text, rewrite_text, IsCommandText}

-- The text is the report of the plain machine's run on the bundle's schedule.
abbrev pub IsReport : Bundle → List ℕ → Type 0
IsReport bundle text = IsTextOfBundleRun report_text bundle text

-- The text is that report, and behind it a dump of so many frames as the bundle has, which shows the last state of the run.
pub record IsReportWithDump (bundle : Bundle) (text : List ℕ) : Type 0 where
  pub load : Load
  pub loads : Loads bundle (Ok load)
  pub lines : List Line
  pub end : State
  pub runs : Runs (first_state load) load.bundle.schedule lines end
  pub dump : List ℕ
  pub text_is : text ≡ report_text lines (end_of end) ++ dump
  pub shows : IsDumpOf dump end load.bundle.frames

-- two such texts of a bundle have the same report, and their dumps show the same state
pub record HaveSameRun (bundle : Bundle) (text other : List ℕ) (one : IsReportWithDump bundle text)
    (two : IsReportWithDump bundle other) : Type 0 where
  pub lines : one.lines ≡ two.lines
  pub end : one.end ≡ two.end

-- The text is the summary of the plain machine's run of the generated bundle.
abbrev pub IsSummary : ℕ → List ℕ → Type 0
IsSummary number text = IsTextOfBundleRun (summary_text number) (generated number) text

-- ---- what each command writes

-- of a bundle
abbrev pub IsOutput : BundleCommand → Bundle → List ℕ → Type 0
IsOutput Replay bundle text = IsReport bundle text
IsOutput ReplayDump bundle text = IsReportWithDump bundle text
IsOutput Plain bundle text = IsReport bundle text
IsOutput Check bundle text = IsCommandText check_text bundle text
IsOutput Rewrite bundle text = IsCommandText rewrite_text bundle text

-- of no bundle that is read; the help text is free
abbrev pub IsMade : Command → List ℕ → Type 0
IsMade (OfBundle command) text = ⊥
IsMade (Generate number) text = IsSummary number text
IsMade (GenerateBundle number) text = text ≡ spelling (generated number)
IsMade Help text = ⊤

-- an accepted bundle was read to its end, if the source tells its bytes
abbrev pub WasRead : Bundle → Option (List ℕ) → Option (List ℕ) → Type 0
WasRead bundle left left' = WholeTold left left' (λ bytes. IsAccepted bytes bundle)

-- an accepted bundle was read, and a text of this kind was appended to what the sink held
abbrev pub ReportedAs : (Bundle → List ℕ → Type 0) → Option (List ℕ) → Option (List ℕ) → Option (List ℕ) → Option (List ℕ)
    → Type 0
ReportedAs IsText left left' held held' =
    (bundle : Bundle) × (text : List ℕ) × WasRead bundle left left' × IsText bundle text × Appended held held' text

-- An accepted bundle was read, if the command reads one, and the command's text was appended.
abbrev pub WroteOf : Command → Option (List ℕ) → Option (List ℕ) → Option (List ℕ) → Option (List ℕ) → Type 0
WroteOf (OfBundle command) left left' held held' = ReportedAs (IsOutput command) left left' held held'
WroteOf command left left' held held' = (text : List ℕ) × IsMade command text × Appended held held' text

-- the words are a command, whose text was written
abbrev pub Wrote : List (List ℕ) → Option (List ℕ) → Option (List ℕ) → Option (List ℕ) → Option (List ℕ) → Type 0
Wrote words left left' held held' = (command : Command) × AreWordsOf command words × WroteOf command left left' held held'

-- the same with a prefix of the text
abbrev pub PartlyReported : BundleCommand → Option (List ℕ) → Option (List ℕ) → Option (List ℕ) → Option (List ℕ) → Type 0
PartlyReported command left left' held held' =
    (bundle : Bundle) × (text : List ℕ) × WasRead bundle left left' × IsOutput command bundle text
    × PartlyAppended held held' text

abbrev pub PartlyWroteOf : Command → Option (List ℕ) → Option (List ℕ) → Option (List ℕ) → Option (List ℕ) → Type 0
PartlyWroteOf (OfBundle command) left left' held held' = PartlyReported command left left' held held'
PartlyWroteOf command left left' held held' = (text : List ℕ) × IsMade command text × PartlyAppended held held' text

abbrev pub PartlyWrote : List (List ℕ) → Option (List ℕ) → Option (List ℕ) → Option (List ℕ) → Option (List ℕ) → Type 0
PartlyWrote words left left' held held' =
    (command : Command) × AreWordsOf command words × PartlyWroteOf command left left' held held'

-- ---- the refusals that name a place

-- the input is no bundle, and the line of its refusal was written
abbrev pub RefusedBundle : Option (List ℕ) → Option (List ℕ) → Option (List ℕ) → Option (List ℕ) → ℕ → ℕ → Type 0
RefusedBundle left left' held held' faults faults' =
    (why : BundleRefusal) × WholeTold left left' (λ bytes. IsNoBundle bytes why)
    × WritesLine held held' faults faults' (bundle_line why)

-- the bundle cannot be loaded, and the line of its refusal was written
abbrev pub RefusedLoad : Option (List ℕ) → Option (List ℕ) → Option (List ℕ) → Option (List ℕ) → ℕ → ℕ → Type 0
RefusedLoad left left' held held' faults faults' =
    (why : LoadRefusal) × WholeTold left left' (λ bytes. IsNotLoadable bytes why)
    × WritesLine held held' faults faults' (load_line why)
