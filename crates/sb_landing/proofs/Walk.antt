-- A phase that decides nothing.
use Rattle.std.proofs.Common.{◌≡◌, ◌∙◌, ap, ℕ, zero, suc, ◌<◌, List, [], ◌∷◌, length, refl, slice_set, Ok, arith}
use Rattle.std.specs.Prelude.{Option, None, slice_get, unwrap_or}
use Rattle.sb_insn.specs.declared.registers.Regs.{Regs}
use Rattle.sb_exec.specs.declared.action.Effect.TheVariants.{Next}
use Rattle.sb_exec.specs.declared.action.Load.{Load}
use Rattle.sb_exec.specs.Execution.{Execution, execution_of}
use Rattle.sb_exec.specs.LoadThenStore.{row_load_answer}
use Rattle.sb_exec.proofs.Accesses.{row_without_store_runs}
use Rattle.sb_state.specs.declared.state.Flight.{Flight}
use Rattle.sb_trace.specs.State.{State, flight_at, with_flight}
use Rattle.sb_trace.specs.PlainMemory.{plain}
use Rattle.sb_trace.specs.Step.{execution_in_view}
use Rattle.sb_landing.specs.Moved.{landing_regs}
use Rattle.sb_landing.specs.Rows.{row_at}
use Rattle.sb_landing.specs.Stages.{Stage}
use Rattle.sb_landing.specs.Leads.{Leads}

-- the word that a load finds
abbrev pub Finds : State → ℕ → ℕ → Load → ℕ → Type 0
Finds state number view loads word = row_load_answer (plain number view) loads state ≡ Ok word

-- an execution that only changes registers
abbrev pub only_regs : State → Regs → Execution State (Unit {0})
only_regs state regs = record { answer = Ok Next; registers = regs; meaning = state; account = tt }

pub leads_on : (state : State) (number view : ℕ) (start : Regs) (from to : Stage) (loads : Load) (word : ℕ)
    → Leads start from to loads word
    → Finds state number view loads word
    → execution_in_view state number view (row_at from.phase).insn (landing_regs start from.moved)
    ≡ only_regs state (landing_regs start to.moved)
leads_on state number view start from to loads word leads finds =
    ap (λ row. execution_of (plain number view) row (landing_regs start from.moved) state tt) leads.meaning
    ∙ (row_without_store_runs (plain number view) loads leads.after (landing_regs start from.moved) state tt word finds
    ∙ ap (only_regs state) leads.regs)

set_within : {A : Type 0} (list : List (Option A)) (index : ℕ) (value : Option A) → index < length list
    → unwrap_or (slice_get (slice_set list index value) index) None ≡ value
set_within [] index value below = absurd (omega (arith, below))
set_within (first ∷ list) zero value below = refl
set_within (first ∷ list) (suc index) value below = set_within list index value (omega (arith, below))

-- where the list of flights has a place for the thread
pub flight_placed : (state : State) (number : ℕ) (next : Option Flight) → number < length state.flights
    → flight_at (with_flight state number next) number ≡ next
unfolding flight_at with_flight
flight_placed state number next below = set_within state.flights number next below
