-- A history goes on by one step.
use Rattle.std.proofs.Common.{◌≡◌, ◌≢◌, ℕ, suc, ◌+◌, ◌-◌, ◌^◌, ◌<◌, ◌++◌, List, [], ◌∷◌, length, ◌∙◌, refl, sym, ap, rules}
use Rattle.std.proofs.lemmas.List.Elements.{All-append}
use Rattle.sb_bundle.specs.declared.bundle.CoreStart.{CoreStart}
use Rattle.sb_load.specs.Loading.{Load}
use Rattle.sb_load.specs.FirstState.{first_state, entry_of}
use Rattle.sb_trace.specs.declared.event.Event.TheVariants.{Idle}
use Rattle.sb_trace.specs.declared.event.Line.{Line}
use Rattle.sb_memory.specs.Physical.{frame_count}
use Rattle.sb_machine.specs.Counts.{CountsLine}
use Rattle.sb_machine.specs.Laws.{FollowsWithMark}
use Rattle.sb_machine.specs.Machine.{Machine}
use Rattle.sb_machine.specs.StandsFor.{IsMachineOf}
use Rattle.sb_machine.proofs.Ran.{run_goes_on}
use Rattle.sb_state.specs.State.{State}
use Rattle.sb_state.specs.Start.{start_threads}
use Rattle.std.specs.Prelude.{map}
use Rattle.sb_book.specs.History.{History, IsRun, IsRunning, NoneIdle}
use Rattle.sb_book.proofs.Busy.{busy_with_mark}

pub busy_on : (lines : List Line) (line : Line) → NoneIdle lines → line.event ≢ Idle → NoneIdle (lines ++ line ∷ [])
busy_on lines line busy step = All-append (λ (one : Line). one.event ≢ Idle) lines (line ∷ []) busy (search rules)

threads_started : (number : ℕ) (cores : List CoreStart) → length (start_threads number (map entry_of cores)) ≡ length cores
threads_started number [] = refl
threads_started number (core ∷ cores) = ap (λ (count : ℕ). suc count) (threads_started (number + 1) cores)

-- a machine at the start has a core for each entry of the bundle
pub cores_started : (machine : Machine) (load : Load) → IsMachineOf machine (first_state load)
    → length machine.cores ≡ length load.bundle.cores
cores_started machine load is = is.count ∙ threads_started 0 load.bundle.cores

-- the line of a step of a thread that runs is not `idle`
pub busy_line : (old : History) (new : Machine) (core : ℕ) (line : Line) → IsRun old → IsRunning old.machine core
    → ((state : State) → IsMachineOf old.machine state → FollowsWithMark new state core line.event) → line.event ≢ Idle
busy_line old new core line run running plain =
    let follows = plain run.end run.ran.stands in
    busy_with_mark run.end core line.event follows.next (sym (run.ran.stands.cores core).end ∙ running) follows.steps

-- a history of a run, with one step of a thread that runs behind it, is that of the longer run
pub run_longer : (old new : History) (core : ℕ) (line : Line) → IsRun old → length old.journal < 2 ^ 64 - 1 → line.core ≡ core
    → IsRunning old.machine core
    → ((state : State) → IsMachineOf old.machine state → FollowsWithMark new.machine state core line.event)
    → CountsLine old.machine core new.machine → frame_count new.machine.memory ≡ frame_count old.machine.memory
    → length new.machine.cores ≡ length old.machine.cores → new.load ≡ old.load → new.journal ≡ old.journal ++ core ∷ []
    → new.lines ≡ old.lines ++ line ∷ [] → IsRun new
run_longer old new core line run few same running plain counts frames count load journal lines =
    let follows = plain run.end run.ran.stands in
    let ran = run_goes_on old.machine new.machine old.load old.journal old.lines run.end core line few same run.ran follows counts frames in
    record {
      end = follows.next;
      ran = rw (load, journal, lines) ran;
      busy = rw lines (busy_on old.lines line run.busy (busy_line old new.machine core line run running plain));
      cores = count ∙ (run.cores ∙ ap (λ (one : Load). length one.bundle.cores) (sym load));
    }
