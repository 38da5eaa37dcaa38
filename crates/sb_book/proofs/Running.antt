-- Where a thread runs and room is left, something is left to do.
use Rattle.std.proofs.Common.{◌≡◌, inl, inr, ℕ, zero, suc, ◌+◌, ◌<◌, List, [], ◌∷◌, length, length-append, ap, ◌∙◌, arith}
use Rattle.std.specs.Prelude.{slice_get, unwrap_or}
use Rattle.sb_load.specs.Loading.{Load}
use Rattle.sb_state.specs.declared.end_kind.EndKind.TheVariants.{Running}
use Rattle.sb_machine.specs.Machine.{Machine, core_at, no_core}
use Rattle.sb_machine.specs.declared.processor.Core.{Core}
use Rattle.sb_book.specs.History.{History, IsRunning, IsOneStep, IsDone, IsOfTask}

-- a thread that runs is there
there : (cores : List Core) (core : ℕ) → (unwrap_or (slice_get cores core) no_core).end ≡ Running → core < length cores
unfolding no_core
there [] core running = absurd cc
there (first ∷ cores) zero running = omega arith
there (first ∷ cores) (suc core) running = omega (arith, there cores core running)

pub running_there : (machine : Machine) (core : ℕ) → IsRunning machine core → core < length machine.cores
unfolding core_at
running_there machine core running = there machine.cores core running

pub not_done : (history : History) (core : ℕ) → IsRunning history.machine core → 0 < history.room → ¬ IsDone history
not_done history core running room (inl ended) = ended core (running_there history.machine core running) running
not_done history core running room (inr none) = absurd (omega arith)

-- ---- what a step does to the counts

pub longer : (old new : History) (core : ℕ) → IsOneStep old core new → length new.journal ≡ length old.journal + 1
longer old new core step = ap (λ (list : List ℕ). length list) step.journal ∙ length-append old.journal (core ∷ [])

pub task_kept : (load : Load) (limit : ℕ) (old new : History) (core : ℕ) → IsOneStep old core new → IsOfTask load limit old
    → IsOfTask load limit new
task_kept load limit old new core step task =
    let more = longer old new core step in
    let less = step.room in
    let all = task.limit_is in
    record { load_is = step.load ∙ task.load_is; limit_is = omega arith }
