-- A step whose instruction is not fetched.
use Rattle.std.proofs.Common.{◌≡◌, refl}
use Rattle.std.specs.Prelude.{Err}
use Rattle.sb_memory.specs.Physical.{Physical}
use Rattle.sb_bus.specs.declared.stop.BusStop.{BusStop}
use Rattle.sb_bus.specs.declared.stop.BusStop.TheVariants as bus
use Rattle.sb_exec.specs.Fetching.{FetchesOn}
use Rattle.sb_nested.specs.Store.{view_interface}
use Rattle.sb_machine.specs.Machine.{seen_by}
use Rattle.sb_machine.specs.declared.processor.CoreState.{CoreState}
use Rattle.sb_block.specs.Answers.{stop_of, outcome_of}
use Rattle.sb_block.specs.Run.{at}
use Rattle.sb_block.specs.Step.{Rule, CoreOutcome, CoreSteps, stop_outcome}
use Rattle.sb_block.specs.declared.one.StepStop.{StepStop}

-- a stop tells what the step comes to
outcome_of-stop_of : {Account : Type 0} (account : Account) (stop : BusStop)
    → Path (CoreOutcome Account) (outcome_of (stop_of stop)) (stop_outcome stop)
outcome_of-stop_of account (bus.Missing frame) = refl
outcome_of-stop_of account (bus.Fault kind address) = refl

-- the fetch stops
pub fetch_stops : {Account : Type 0} (rule : Rule Account) (core : CoreState) (memory after : Physical)
    (account fetched : Account) (stop : BusStop) (told : StepStop)
    → FetchesOn (view_interface rule) (seen_by memory core) core.regs.rip account fetched (Err stop) → told ≡ stop_of stop
    → after ≡ memory → CoreSteps rule (at core memory account) (outcome_of told) × (core ≡ core) × (after ≡ memory)
fetch_stops {Account} rule core memory after account fetched stop told fetches is same = (
  record { fetched = Err stop; account = fetched; fetches = fetches; comes = rw is (outcome_of-stop_of account stop) },
  refl,
  same,
)
