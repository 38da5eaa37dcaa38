-- The laws of accesses: a bound on what is read, what a store writes, and that a whole memory misses nothing.
use Rattle.std.specs.Prelude.{ℕ, ◌≡◌, ◌≢◌, ◌+◌, ◌%◌, ◌^◌, ◌<◌, ◌≤◌, Err, List, Ok, get_or, length}
use Rattle.std.specs.List.{Contains}
use Rattle.sb_memory.specs.Changes.{SameOutside}
use Rattle.sb_memory.specs.Physical.{HasAllFrames, Physical, frame_count, frame_of}
use Rattle.sb_memory.specs.declared.address.Access.{Access}
use Rattle.sb_memory.specs.declared.address.Access.TheVariants.{Write}
use Rattle.sb_memory.specs.declared.address.Frame.{Frame}
use Rattle.sb_memory.specs.declared.address.PhysAddr.{PhysAddr}
use Rattle.sb_walks.specs.Entry.{frame_in}
use Rattle.sb_walks.specs.Ept.{ept_walk}
use Rattle.sb_walks.specs.Gaps.{NoGap, ept_gap, nested_gap}
use Rattle.sb_walks.specs.Nested.{MemoryBehindEpt, memory_behind, translation, translation_reads}
use Rattle.sb_bus.specs.declared.stop.BusStop.TheVariants.{Missing}
use Rattle.sb_nested.specs.View.{View, place_of, view_byte}
use Rattle.sb_nested.specs.Store.{bytes_stored, memory_stored}

-- a nested walk reads at most 24 words
abbrev pub ReadsAtMost24 : Type 0
ReadsAtMost24 = (memory : MemoryBehindEpt) (cr3 linear : ℕ) (access : Access)
    → length (translation_reads memory cr3 linear access) ≤ 24

-- ---- stores

-- each place to which an address of a store leads for a write is one of which this holds
abbrev pub EachStorePlace : View → ℕ → ℕ → (PhysAddr → Type 0) → Type 0
EachStorePlace core address size P = (k : ℕ) (at : PhysAddr) → k < size
    → place_of core Write ((address + k) % 2 ^ 64) ≡ Ok at → P at

-- a store of whatever size leaves what it leaves byte by byte, a whole word too
abbrev pub StoresAreOfBytes : Type 0
StoresAreOfBytes = (core : View) (address size value : ℕ) → address < 2 ^ 64
    → memory_stored core address size value ≡ bytes_stored core address size value

-- every byte to which no address leads stays
abbrev pub StoresLeaveOtherBytes : Type 0
StoresLeaveOtherBytes = (core : View) (address size value place : ℕ) → address < 2 ^ 64
    → EachStorePlace core address size (λ at. place ≢ at.0)
    → get_or (memory_stored core address size value).bytes place 0 ≡ get_or core.physical.bytes place 0

-- where all addresses lead into some frames, the others stay, and no frame comes or goes
abbrev pub StoresLeaveOtherFrames : Type 0
StoresLeaveOtherFrames = (core : View) (address size value : ℕ) (frames : List ℕ) → address < 2 ^ 64
    → EachStorePlace core address size (λ at. Contains frames (frame_of at.0))
    → SameOutside frames core.physical (memory_stored core address size value)

-- ---- memories that have all their frames, behind an EPT pointer to a table in them

-- no walk of the EPT is refused for a missing frame
abbrev pub EptMissesNothing : Type 0
EptMissesNothing = (memory : Physical) (eptp at : ℕ) (access : Access) → HasAllFrames memory
    → frame_in eptp < frame_count memory → NoGap ept_gap (ept_walk memory eptp at access)

-- nor is a nested walk
abbrev pub TranslationMissesNothing : Type 0
TranslationMissesNothing = (memory : Physical) (eptp cr3 linear : ℕ) (access : Access) → HasAllFrames memory
    → frame_in eptp < frame_count memory → NoGap nested_gap (translation (memory_behind memory eptp) cr3 linear access)

-- nor is a byte
abbrev pub BytesMissNothing : Type 0
BytesMissNothing = (core : View) (address : ℕ) (access : Access) (frame : Frame) → HasAllFrames core.physical
    → frame_in core.eptp < frame_count core.physical → view_byte core address access ≢ Err (Missing frame)
