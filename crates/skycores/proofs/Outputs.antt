-- The text of a history in which nothing is left to do is an output, with the dump of its machine behind it if it is asked for.
use Rattle.std.proofs.Common.{◌≡◌, ◌⊎◌, inl, inr, ◌↔◌, ℕ, ◌+◌, ◌++◌, Bool, true, false, IsTrue, List, length, arith, refl, sym, ap, subst, ◌∙◌}
use Rattle.std.proofs.lemmas.Bool.{false≢true}
use Rattle.sb_load.specs.Loading.{Load}
use Rattle.sb_memory.specs.Physical.{frame_count}
use Rattle.sb_state.specs.State.{State}
use Rattle.sb_trace.specs.declared.end.EndState.{EndState}
use Rattle.sb_trace.specs.End.{end_of}
use Rattle.sb_trace.specs.Report.{report_text}
use Rattle.sb_shows.specs.Dump.{IsDumpOf}
use Rattle.sb_machine.specs.Dump.{DumpShows, machine_dump}
use Rattle.sb_machine.specs.Machine.{Machine}
use Rattle.sb_machine.specs.StandsFor.{IsMachineOf}
use Rattle.sb_book.specs.History as book
use Rattle.sb_book.specs.History.{History, IsRun, IsDone}
use Rattle.skycores.specs.declared.words.Run.{Run}
use Rattle.skycores.specs.Text.{AllEnded, IsDumpWhere, dump_where, journal_text, word_text, IsOutput, IsOutputFor}

full : (ended : Bool) (every : Type 0) (room : ℕ) → (IsTrue ended ↔ every) → every ⊎ (room ≡ 0) → ended ≡ false → room ≡ 0
full ended every room is (inl all) not = absurd (false≢true (sym not ∙ is.1 all))
full ended every room is (inr none) not = none

-- the threads of a machine have ended exactly where those of the state have for which it stands
state_ended : (machine : Machine) (end : State) → IsMachineOf machine end → book.AllEnded machine → AllEnded end
state_ended machine end is all core inside running =
    let count = is.count in
    all core (omega arith) ((is.cores core).end ∙ running)

machine_ended : (machine : Machine) (end : State) → IsMachineOf machine end → AllEnded end → book.AllEnded machine
machine_ended machine end is all core inside running =
    let count = is.count in
    all core (omega arith) (sym (is.cores core).end ∙ running)

pub is_output : (history : History) (ended : Bool) (run : Run) (end : EndState) (text : List ℕ) → IsRun history → IsDone history
    → length history.journal + history.room ≡ run.steps → (IsTrue ended ↔ book.AllEnded history.machine)
    → ((state : State) → IsMachineOf history.machine state → end ≡ end_of state)
    → text ≡ journal_text history.journal ++ (word_text ended ++ report_text history.lines end)
    → IsOutputFor history.load run text history.machine
is_output history ended run end text known done limit is shown written =
    let stands = known.ran.stands in
    record {
      journal = history.journal;
      lines = history.lines;
      end = known.end;
      ended = ended;
      ran = known.ran;
      busy = known.busy;
      ended_is = (
        λ yes. state_ended history.machine known.end stands (is.0 yes),
        λ all. is.1 (machine_ended history.machine known.end stands all),
      );
      budget = λ not. let none = full ended (book.AllEnded history.machine) history.room is done not in omega arith;
      text_is = written
          ∙ ap (λ (one : EndState). journal_text history.journal ++ (word_text ended ++ report_text history.lines one))
          (shown known.end stands);
    }

-- the dump of the machine, where it was asked for, is a dump of the state for which it stands
dump_is : (dump : Bool) (machine : Machine) (end : State) (frames : ℕ) → IsMachineOf machine end
    → frame_count machine.memory ≡ frames → DumpShows machine → IsDumpWhere dump (dump_where dump machine) end frames
dump_is true machine end frames is count shows =
    subst (λ (frames : ℕ). IsDumpOf (machine_dump machine) end frames) count (shows end is)
dump_is false machine end frames is count shows = refl

-- with it the text is an output
pub with_dump : (load : Load) (run : Run) (text : List ℕ) (machine : Machine) → IsOutputFor load run text machine
    → DumpShows machine → IsOutput load run (text ++ dump_where run.dump machine)
with_dump load run text machine is shows = record {
  journal = is.journal;
  lines = is.lines;
  end = is.end;
  ended = is.ended;
  runs = is.ran.runs;
  busy = is.busy;
  ended_is = is.ended_is;
  budget = is.budget;
  dump = dump_where run.dump machine;
  shows = dump_is run.dump machine is.end load.bundle.frames is.ran.stands is.ran.frames shows;
  text_is = ap (λ (one : List ℕ). one ++ dump_where run.dump machine) is.text_is;
}
