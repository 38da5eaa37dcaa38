-- The machine at the start of a loaded bundle.
use Rattle.std.specs.Prelude.{ℕ, ◌+◌, ◌*◌, List, [], ◌∷◌, None, unwrap_or}
use Rattle.sb_abi.specs.declared.layout.TheConstants.{FIRST_ROOT}
use Rattle.sb_memory.specs.Physical.{Physical}
use Rattle.sb_memory.specs.Words.{word_at}
use Rattle.sb_memory.specs.declared.address.Frame.{Frame}
use Rattle.sb_memory.specs.declared.page.TheConstants.{PAGE_SIZE}
use Rattle.sb_bundle.specs.declared.bundle.CoreStart.{CoreStart}
use Rattle.sb_walks.specs.Entry.{entry_in}
use Rattle.sb_root.specs.declared.root_kernel.RootKernel.{RootKernel}
use Rattle.sb_root.specs.Root.{eptp_list_frame}
use Rattle.sb_state.specs.Start.{start_registers}
use Rattle.sb_state.specs.declared.end_kind.EndKind.TheVariants.{Running}
use Rattle.sb_machine.specs.declared.processor.Core.{Core}

-- the frame of a thread's list; frame 0 where it has none
abbrev pub list_of : RootKernel → ℕ → Frame
list_of root thread = unwrap_or (eptp_list_frame root thread) (record { 0 = 0 })

-- The core of a thread at its start: it is in its home view, with the registers of the start, CR3 of its home, and the first
-- entry of its list. It has made no line.
abbrev pub first_core : Physical → RootKernel → ℕ → CoreStart → Core
first_core memory root thread start = record {
  state = record {
    regs = start_registers thread start.entry;
    eptp = word_at memory.bytes (entry_in (list_of root thread).0 0);
    cr3 = PAGE_SIZE * (FIRST_ROOT + start.process);
    list = list_of root thread;
    view = 0;
    phase = None;
    made = 0;
  };
  end = Running;
  origin = None;
}

-- the cores of threads in order, of which the first has this number
abbrev pub first_cores : Physical → RootKernel → ℕ → List CoreStart → List Core
first_cores memory root thread [] = []
first_cores memory root thread (start ∷ starts) =
    first_core memory root thread start ∷ first_cores memory root (thread + 1) starts
