-- A machine that makes one step after another along the schedule of a bundle.
use Rattle.std.proofs.Common.{◌≡◌, ℕ, zero, suc, ◌+◌, ◌<◌, ◌≤◌, List, [], ◌∷◌, ◌++◌, length, take, get_or, sym, subst, arith}
use Rattle.sb_bundle.specs.Limits.{AllBelow}
use Rattle.sb_load.specs.Loading.{Load, IsLoadable}
use Rattle.sb_machine.proofs.Ran.{run_goes_on_at, run_cores}
use Rattle.sb_machine.specs.Counts.{CountsLine}
use Rattle.sb_machine.specs.Laws.{FollowsWithMark}
use Rattle.sb_machine.specs.Machine.{Machine}
use Rattle.sb_machine.specs.Ran.{HasRun}
use Rattle.sb_memory.specs.Physical.{frame_count}
use Rattle.sb_state.specs.State.{State}
use Rattle.sb_trace.specs.declared.event.Line.{Line}

below_at : (numbers : List ℕ) (bound index : ℕ) → AllBelow bound numbers → index < length numbers
    → get_or numbers index 0 < bound
below_at [] bound index below inside = absurd (omega (arith, inside))
below_at (number ∷ numbers) bound zero (below, others) inside = below
below_at (number ∷ numbers) bound (suc index) (below, others) inside =
    below_at numbers bound index others (omega (arith, inside))

-- an entry of the schedule is a core of the machine
pub entry_is_core : (machine : Machine) (load : Load) (schedule : List ℕ) (index : ℕ) (lines : List Line) (end : State)
    → IsLoadable load → schedule ≡ load.bundle.schedule → HasRun machine load (take index schedule) lines end
    → index < length schedule
    → get_or schedule index 0 < length machine.cores
entry_is_core machine load schedule index lines end loadable is run inside =
    let below : AllBelow (length load.bundle.cores) schedule =
    subst (λ (numbers : List ℕ). AllBelow (length load.bundle.cores) numbers) (sym is) loadable.grammar.schedule in
    subst (λ (count : ℕ). get_or schedule index 0 < count) (sym (run_cores machine load (take index schedule) lines end run))
    (below_at schedule (length load.bundle.cores) index below inside)

-- the run with the next entry
pub one_more : (machine new : Machine) (load : Load) (schedule : List ℕ) (index : ℕ) (lines : List Line) (end : State) (line : Line)
    → IsLoadable load → schedule ≡ load.bundle.schedule → index < length schedule → line.core ≡ get_or schedule index 0
    → HasRun machine load (take index schedule) lines end
    → (follows : FollowsWithMark new end (get_or schedule index 0) line.event) → CountsLine machine (get_or schedule index 0) new
    → frame_count new.memory ≡ frame_count machine.memory
    → HasRun new load (take (index + 1) schedule) (lines ++ line ∷ []) follows.next
one_more machine new load schedule index lines end line loadable is inside same run follows counts frames =
    let short : length schedule ≤ 1048576 =
    subst (λ (numbers : List ℕ). length numbers ≤ 1048576) (sym is) loadable.grammar.schedule_length.1 in
    run_goes_on_at machine new load schedule index lines end line inside (omega (arith, short)) same run follows counts frames
