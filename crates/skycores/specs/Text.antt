-- What is written of a run: the journal, whether each thread has ended, the report of the run under exactly that journal, and the
-- dump if it was asked for.
use Rattle.std.specs.Prelude.{◌≡◌, ◌≢◌, ◌↔◌, ℕ, ◌+◌, ◌%◌, ◌<◌, ◌==◌, if◌then◌else◌, Bool, true, false, IsTrue, List, [], ◌∷◌, ◌++◌, length, codes}
use Rattle.std.specs.Fmt.{decimal}
use Rattle.sb_load.specs.Loading.{Load}
use Rattle.sb_load.specs.FirstState.{first_state}
use Rattle.sb_machine.specs.Dump.{machine_dump}
use Rattle.sb_machine.specs.Machine.{Machine}
use Rattle.sb_machine.specs.Ran.{HasRun}
use Rattle.sb_shows.specs.Dump.{IsDumpOf}
use Rattle.sb_state.specs.State.{State, thread_at}
use Rattle.sb_state.specs.declared.end_kind.EndKind.TheVariants.{Running}
use Rattle.sb_trace.specs.declared.event.Line.{Line}
use Rattle.sb_trace.specs.End.{end_of}
use Rattle.sb_trace.specs.Report.{report_text}
use Rattle.sb_trace.specs.Run.{RunBy}
use Rattle.sb_trace.specs.Marks.{StepsWithMark}
use Rattle.sb_book.specs.History.{NoneIdle}
use Rattle.skycores.specs.declared.words.Run.{Run}

abbrev pub line_feed : List ℕ
line_feed = 10 ∷ []

-- the cores as digits, of which the first is the journal's entry `at`: a line has 64 of them
abbrev pub digits_text : ℕ → List ℕ → List ℕ
digits_text at [] = if at % 64 == 0 then [] else line_feed
digits_text at (core ∷ cores) = decimal core ++ ((if (at + 1) % 64 == 0 then line_feed else []) ++ digits_text (at + 1) cores)

-- how many entries the journal has, and its cores
abbrev pub journal_text : List ℕ → List ℕ
journal_text journal = codes "journal " ++ (decimal (length journal) ++ (line_feed ++ digits_text 0 journal))

-- how the run ended
abbrev pub word_text : Bool → List ℕ
word_text true = codes "ended\n"
word_text false = codes "budget\n"

abbrev pub output_text : List ℕ → Bool → List Line → State → List ℕ
output_text journal ended lines end = journal_text journal ++ (word_text ended ++ report_text lines (end_of end))

-- each thread has ended
abbrev pub AllEnded : State → Type 0
AllEnded state = (core : ℕ) → core < length state.threads → (thread_at state core).state ≢ Running

-- where it was asked for, a dump that shows the state, with so many frames, else nothing
abbrev pub IsDumpWhere : Bool → List ℕ → State → ℕ → Type 0
IsDumpWhere true dump end frames = IsDumpOf dump end frames
IsDumpWhere false dump end frames = dump ≡ []

-- the dump of a machine, where it was asked for
abbrev pub dump_where : Bool → Machine → List ℕ
dump_where true machine = machine_dump machine
dump_where false machine = []

-- an output of what was loaded, with at most so many steps
pub record IsOutput (load : Load) (run : Run) (text : List ℕ) : Type 0 where
  pub journal : List ℕ
  pub lines : List Line
  pub end : State
  pub ended : Bool
  -- the run of what was loaded under the journal, and none of its lines is idle
  pub runs : RunBy StepsWithMark (first_state load) journal lines end
  pub busy : NoneIdle lines
  -- the word is `ended` exactly where each thread has ended, else the journal has every entry that was asked for
  pub ended_is : IsTrue ended ↔ AllEnded end
  pub budget : ended ≡ false → length journal ≡ run.steps
  pub dump : List ℕ
  pub shows : IsDumpWhere run.dump dump end load.bundle.frames
  pub text_is : text ≡ output_text journal ended lines end ++ dump

-- the text is an output without its dump, and this is the machine that made the run
pub record IsOutputFor (load : Load) (run : Run) (text : List ℕ) (machine : Machine) : Type 0 where
  pub journal : List ℕ
  pub lines : List Line
  pub end : State
  pub ended : Bool
  pub ran : HasRun machine load journal lines end
  pub busy : NoneIdle lines
  pub ended_is : IsTrue ended ↔ AllEnded end
  pub budget : ended ≡ false → length journal ≡ run.steps
  pub text_is : text ≡ output_text journal ended lines end
