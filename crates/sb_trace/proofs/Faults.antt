-- What stops an instruction of the plain machine is a fault.
use Rattle.std.proofs.Common.{ℕ, ◌/◌, Bool, true, false, Result, Ok, Err}
use Rattle.std.specs.Prelude.{Option, Some, None, IfErr, if◌then◌else◌}
use Rattle.sb_memory.specs.declared.address.Access.{Access}
use Rattle.sb_insn.specs.declared.insn.Insn.{Insn}
use Rattle.sb_insn.specs.declared.registers.Regs.{Regs}
use Rattle.sb_bus.specs.declared.stop.FaultKind.{FaultKind}
use Rattle.sb_exec.specs.Row.{Row}
use Rattle.sb_exec.specs.Execution.{execution_of}
use Rattle.sb_exec.specs.Fetching.{FetchesOn}
use Rattle.sb_bus.proofs.Stops.{ByteStops}
use Rattle.sb_exec.proofs.Stops.{execution_stops, fetch_stops}
use Rattle.sb_bus.specs.declared.stop.BusStop.{BusStop}
use Rattle.sb_state.specs.declared.page.SeenPage.{SeenPage}
use Rattle.sb_state.specs.PageName.{permits}
use Rattle.sb_state.specs.State.{State}
use Rattle.sb_state.specs.Windows.{page_for}
use Rattle.sb_state.specs.PlainMemory.{plain, plain_byte, byte_seen, is_canonical, fault_at}
use Rattle.sb_trace.specs.Faults.{IsFault}

by_test : (test : Bool) (byte address : ℕ) (kind : FaultKind)
    → IfErr (if test then Ok byte else Err (fault_at kind address)) IsFault
by_test true byte address kind = tt
by_test false byte address kind = tt

seen_by : (state : State) (seen : Option SeenPage) (address : ℕ) (how : Access) → IfErr (byte_seen state seen address how) IsFault
seen_by state None address how = tt
seen_by state (Some page) address how = by_test (permits page.mode how) _ address _

canonical_by : (test : Bool) (state : State) (seen : Option SeenPage) (address : ℕ) (how : Access) (kind : FaultKind)
    → IfErr (if test then byte_seen state seen address how else Err (fault_at kind address)) IsFault
canonical_by true state seen address how kind = seen_by state seen address how
canonical_by false state seen address how kind = tt

byte_faults : (thread view : ℕ) → ByteStops State (Unit {0}) (plain thread view) IsFault
unfolding plain_byte
byte_faults thread view state address how =
    canonical_by (is_canonical address) state (page_for state thread view (address / 4096)) address how _

pub execution_faults : (thread view : ℕ) (row : Row) (regs : Regs) (state : State)
    → IfErr (execution_of (plain thread view) row regs state tt).answer IsFault
execution_faults thread view row regs state =
    execution_stops State (Unit {0}) (plain thread view) IsFault (byte_faults thread view) row regs state tt

pub fetch_faults : (thread view : ℕ) (state : State) (address : ℕ) (result : Result Insn BusStop)
    → FetchesOn (plain thread view) state address tt tt result → IfErr result IsFault
fetch_faults thread view state address (Ok insn) fetches = tt
fetch_faults thread view state address (Err stop) fetches =
    fetch_stops State (Unit {0}) (plain thread view) IsFault (byte_faults thread view) state address tt tt tt stop fetches
