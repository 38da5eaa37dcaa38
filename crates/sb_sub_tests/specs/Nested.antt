-- A Subkernel over memory, with its root kernel and its frame book, and how many threads it serves.
use Rattle.std.specs.Prelude.{ℕ, ◌≤◌, length}
use Rattle.sb_memory.specs.Physical.{Physical}
use Rattle.sb_frames.specs.Book.{Book}
use Rattle.sb_root.specs.declared.root_kernel.RootKernel.{RootKernel}
use Rattle.sb_trace.specs.State.{State}
use Rattle.sb_sub.specs.Kernel.{Kernel}
use Rattle.sb_sub.specs.StandsFor.{StandsFor}

pub record Nested : Type 0 where
  pub kernel : Kernel
  pub root : RootKernel
  pub book : Book
  pub memory : Physical
  pub threads : ℕ

-- it stands for some state, and has a seat for each of them
abbrev pub IsServing : Nested → Type 0
IsServing nested = (state : State) × StandsFor nested.kernel nested.root nested.book nested.memory state
    × (nested.threads ≤ length nested.kernel.seats)
