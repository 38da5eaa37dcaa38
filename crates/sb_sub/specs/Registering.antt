-- What register does to bytes: the pool word is put, and the pages of the stacks are added.
use Rattle.std.specs.Prelude.{ℕ, ◌≡◌, ◌-◌, ◌*◌, ◌/◌, ◌^◌, ◌<◌, List, [], ◌∷◌, Option, Some, None, IfOk, slice_set}
use Rattle.sb_abi.specs.declared.space.TheConstants.{STACK_PAGES}
use Rattle.sb_abi.specs.declared.trampoline.TheConstants.{POOL_ADDRESS}
use Rattle.sb_memory.specs.Physical.{Physical, frame_count}
use Rattle.sb_memory.specs.Reading.{with_bytes}
use Rattle.sb_memory.specs.Words.{put_word}
use Rattle.sb_memory.specs.declared.address.Access.TheVariants.{Read}
use Rattle.sb_memory.specs.declared.address.Frame.{Frame}
use Rattle.sb_memory.specs.declared.page.TheConstants.{PAGE_SIZE}
use Rattle.sb_frames.specs.Book.{Book}
use Rattle.sb_pagewalk.specs.declared.table_set.TableSet.{TableSet}
use Rattle.sb_pagewalk.specs.TableSet.{walked_in}
use Rattle.sb_pagewalk.specs.Standing.{IsApart as IsSetApart}
use Rattle.sb_root.specs.declared.root_kernel.RootKernel.{RootKernel}
use Rattle.sb_root.specs.Standing.{IsApart as IsRootApart}
use Rattle.sb_trace.specs.State.{State}
use Rattle.sb_trace.specs.SyscallRegister.{with_server}
use Rattle.sb_shows.specs.Placement.{Placement}
use Rattle.sb_mapping.specs.Carries.{Carries, StaysPlaced, TakesStacks}
use Rattle.sb_sub.specs.Kernel.{Entry}
use Rattle.sb_sub.specs.Heap.{led_to}

-- the frame of the pool page
abbrev pub pool_found : Physical → TableSet → Option Frame
pool_found memory set = led_to (walked_in memory set POOL_ADDRESS Read)

-- The pool page is there, in a frame that holds no table.
pub record FindsPool (memory : Physical) (set : TableSet) (root : RootKernel) : Type 0 where
  pub small : frame_count memory < 2 ^ 32
  pub inside : IfOk (walked_in memory set POOL_ADDRESS Read) (λ at. at.0 / 4096 < frame_count memory)
  pub frame : Frame
  pub found : pool_found memory set ≡ Some frame
  pub set_apart : IsSetApart set (frame.0 ∷ [])
  pub root_apart : IsRootApart root (frame.0 ∷ [])

pub record RegistersPages (set : TableSet) (root : RootKernel) (book book' : Book) (old new : Physical)
    (owner stacks : ℕ) : Type 0 where
  pub frame : Frame
  pub found : pool_found old set ≡ Some frame
  pub mid : Physical
  pub written : mid ≡ with_bytes old (put_word old.bytes (PAGE_SIZE * frame.0) (2 ^ stacks - 1))
  pub stacks_taken : TakesStacks set root book book' mid new owner (STACK_PAGES * stacks)

-- what is carried after register: the state with the server, and each page and table where it was
pub record Registered (placement : Placement) (root : RootKernel) (book : Book) (memory : Physical) (state : State)
    (process handler stacks : ℕ) : Type 0 where
  pub after : Placement
  pub carries : Carries after root book memory (with_server state process handler stacks)
  pub stays : StaysPlaced placement after state

-- a process that has become a server
abbrev pub with_entry : Entry → ℕ → ℕ → Entry
with_entry entry handler stacks =
    record entry { process = record entry.process { registration = Some (record { handler = handler; stacks = stacks }) } }

-- the processes with the one of this number, which is there, as a server
abbrev pub with_server_entry : Option Entry → List Entry → ℕ → ℕ → ℕ → List Entry
with_server_entry None entries process handler stacks = entries
with_server_entry (Some entry) entries process handler stacks = slice_set entries process (with_entry entry handler stacks)
