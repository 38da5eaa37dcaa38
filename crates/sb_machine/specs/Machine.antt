-- A machine with page tables: physical memory, what its two kernels keep, and its cores.
use Rattle.std.specs.Prelude.{ℕ, List, None, slice_get, slice_set, unwrap_or}
use Rattle.sb_memory.specs.Physical.{Physical}
use Rattle.sb_memory.specs.Accounts.{PhysCall}
use Rattle.sb_insn.specs.declared.registers.Regs.{Regs}
use Rattle.sb_frames.specs.Book.{Book}
use Rattle.sb_root.specs.declared.root_kernel.RootKernel.{RootKernel}
use Rattle.sb_nested.specs.View.{View, view}
use Rattle.sb_state.specs.declared.end_kind.EndKind.TheVariants.{Ended}
use Rattle.sb_trace.specs.State.{no_thread}
use Rattle.sb_shows.specs.Shows.{CoreWords}
use Rattle.sb_sub.specs.Kernel.{Kernel}
use Rattle.sb_machine.specs.declared.processor.CoreState.{CoreState}
use Rattle.sb_machine.specs.declared.processor.Core.{Core}

pub record Machine : Type 0 where
  pub memory : Physical
  pub book : Book
  pub root : RootKernel
  pub kernel : Kernel
  pub cores : List Core

-- in place of a core that is not there: one whose thread has ended
unfoldable pub no_core : Core
no_core = record {
  state = record {
    regs = no_thread.regs;
    eptp = 0;
    cr3 = 0;
    list = record { 0 = 0 };
    view = 0;
    phase = None;
    made = 0;
  };
  end = Ended 0;
  origin = None;
}

unfoldable pub core_at : Machine → ℕ → Core
core_at machine number = unwrap_or (slice_get machine.cores number) no_core

abbrev pub with_core : Machine → ℕ → Core → Machine
with_core machine number core = record machine { cores = slice_set machine.cores number core }

-- the state of a core of this number
abbrev pub state_at : Machine → ℕ → CoreState
state_at machine number = (core_at machine number).state

abbrev pub with_state : Machine → ℕ → CoreState → Machine
with_state machine number state = with_core machine number (record (core_at machine number) { state = state })

-- the registers of each core
abbrev pub regs_of : Machine → ℕ → Regs
regs_of machine number = (state_at machine number).regs

-- the words of a core, and of each
abbrev pub core_words : CoreState → CoreWords
core_words state = record { list = state.list.0; cr3 = state.cr3; eptp = state.eptp }

abbrev pub words_of : Machine → ℕ → CoreWords
words_of machine number = core_words (state_at machine number)

-- what a core sees of a memory
abbrev pub seen_by : Physical → CoreState → View
seen_by memory state = view memory state.eptp state.cr3

abbrev pub view_at : Machine → ℕ → View
view_at machine number = seen_by machine.memory (state_at machine number)

-- the memory keeps no account of its calls
abbrev pub no_account : PhysCall → Physical → Unit {0} → Unit {0}
no_account call memory account = account
