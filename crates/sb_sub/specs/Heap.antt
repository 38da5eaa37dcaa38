-- Where the pages of a heap are, read off the tables of its process, and where the pattern stands in them.
use Rattle.std.specs.Prelude.{ℕ, ◌≡◌, ◌+◌, ◌*◌, ◌/◌, ◌-◌, ◌^◌, ◌<◌, ◌≤◌, ◌==◌, nat_lt, Bool, List, [], ◌++◌, length, take, drop, Option, Some, None, Result, Ok, Err, IfOk, if◌then◌else◌}
use Rattle.std.specs.Option.{option_map}
use Rattle.sb_abi.specs.declared.frames.TheConstants.{KEPT_FRAMES}
use Rattle.sb_abi.specs.declared.space.TheConstants.{WINDOW_PAGES}
use Rattle.sb_memory.specs.Physical.{Physical, frame_count}
use Rattle.sb_memory.specs.declared.address.Access.{Access}
use Rattle.sb_memory.specs.declared.address.Access.TheVariants.{Read, Fetch}
use Rattle.sb_memory.specs.declared.address.Frame.{Frame}
use Rattle.sb_memory.specs.declared.address.GuestPhys.{GuestPhys}
use Rattle.sb_memory.specs.declared.page.TheConstants.{PAGE_SIZE}
use Rattle.sb_walks.specs.declared.stop.WalkStop.{WalkStop}
use Rattle.sb_pagewalk.specs.declared.table_set.TableSet.{TableSet}
use Rattle.sb_pagewalk.specs.TableSet.{walked_in}
use Rattle.sb_root.specs.declared.root_kernel.RootKernel.{RootKernel}
use Rattle.sb_trace.specs.Pattern.{first_pattern, heap_address}
use Rattle.sb_state.specs.declared.page.Mode.{Mode}
use Rattle.sb_state.specs.declared.page.Mode.TheVariants as mode
use Rattle.sb_shows.specs.Placement.{leaf_for, rights_for}
use Rattle.sb_shows.specs.Calls.{SetsPage, ExposesFrame}
use Rattle.sb_mapping.specs.StartPages.{heap_at}

-- the frame to which a walk led
abbrev pub led_to : Result GuestPhys WalkStop → Option Frame
led_to (Err stop) = None
led_to (Ok at) = Some (record { 0 = at.0 / 4096 })

-- the frame of a heap page, where it may be accessed so
abbrev pub heap_frame : Physical → TableSet → ℕ → Access → Option Frame
heap_frame memory set page access = led_to (walked_in memory set (heap_at page) access)

-- the bytes of a frame; none of no frame
abbrev pub frame_bytes : Physical → Option Frame → List ℕ
frame_bytes memory None = []
frame_bytes memory (Some frame) = take PAGE_SIZE (drop (PAGE_SIZE * frame.0) memory.bytes)

-- the frame of the page before, where there is one and it is executable
abbrev pub frame_before : Physical → TableSet → ℕ → Option Frame
frame_before memory set page = if page == 0 then None else heap_frame memory set (page - 1) Fetch

-- the frame of the page behind, where there is one among so many and it is executable
abbrev pub frame_behind : Physical → TableSet → ℕ → ℕ → Option Frame
frame_behind memory set page count = if nat_lt (page + 1) count then heap_frame memory set (page + 1) Fetch else None

-- the lowest address of the pattern in the page in a frame, or across its borders with the pages in others
abbrev pub pattern_by : Physical → ℕ → Option Frame → Frame → Option Frame → Option ℕ
pattern_by memory page before found behind =
    option_map (heap_address page (length (drop (PAGE_SIZE - 2) (frame_bytes memory before))))
    (first_pattern
    (drop (PAGE_SIZE - 2) (frame_bytes memory before) ++ (frame_bytes memory (Some found) ++ take 2 (frame_bytes memory behind))))

abbrev pub pattern_where : Physical → ℕ → Option Frame → Option Frame → Option Frame → Option ℕ
pattern_where memory page before None behind = None
pattern_where memory page before (Some found) behind = pattern_by memory page before found behind

-- the lowest address at which the pattern stands in a heap page or across its border with an executable one
abbrev pub pattern_at : Physical → TableSet → ℕ → ℕ → Option ℕ
pattern_at memory set page count =
    pattern_where memory page (frame_before memory set page) (heap_frame memory set page Read)
    (frame_behind memory set page count)

-- Each page of a heap of so many pages is there, in a frame that the kernels do not keep.
pub record FindsHeap (memory : Physical) (set : TableSet) (count : ℕ) : Type 0 where
  pub few : count ≤ WINDOW_PAGES
  pub small : frame_count memory < 2 ^ 32
  pub size : length memory.bytes ≡ PAGE_SIZE * frame_count memory
  pub inside : (page : ℕ) (access : Access) → page < count
      → IfOk (walked_in memory set (heap_at page) access) (λ at. at.0 / 4096 < frame_count memory)
  pub above : (page : ℕ) (access : Access) → page < count
      → IfOk (walked_in memory set (heap_at page) access) (λ at. KEPT_FRAMES ≤ at.0 / 4096)
  pub there : (page : ℕ) → page < count → (frame : Frame) × (heap_frame memory set page Read ≡ Some frame)

-- how a heap page may be accessed in its two modes
abbrev pub heap_mode : Bool → Mode
heap_mode executable = if executable then mode.Fetch else mode.ReadWrite

-- A heap page gets a mode: its lowest entry is set, and then its frame is exposed with other rights.
pub record SetsMode (set : TableSet) (root : RootKernel) (old new : Physical) (page : ℕ) (executable : Bool) : Type 0 where
  pub frame : Frame
  pub found : heap_frame old set page Read ≡ Some frame
  pub mid : Physical
  pub set_page : SetsPage set old mid (heap_at page) (leaf_for frame.0 (heap_mode executable))
  pub exposed : ExposesFrame root mid new frame.0 (rights_for (heap_mode executable))
