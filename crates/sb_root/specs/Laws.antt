-- The laws of a root kernel that stands in a memory: what it answers, and what does not disturb it.
use Rattle.std.specs.Prelude.{ℕ, ◌≡◌, ◌≢◌, ◌<◌, ◌≤◌, false, Option, Some, Ok, List, IsTrue}
use Rattle.std.specs.List.{Contains}
use Rattle.sb_memory.specs.Physical.{Physical, frame_count, frame_of}
use Rattle.sb_memory.specs.Changes.{SameOutside}
use Rattle.sb_memory.specs.declared.address.Access.{Access}
use Rattle.sb_memory.specs.declared.address.Frame.{Frame}
use Rattle.sb_walks.specs.Entry.{frame_in}
use Rattle.sb_walks.specs.Ept.{ept_walk_reads, is_eptp}
use Rattle.sb_frames.specs.declared.kind.Kind.{Kind}
use Rattle.sb_frames.specs.Book.{Book, with_holder}
use Rattle.sb_root.specs.declared.switch_answer.Switch.TheVariants.{To, Unbound}
use Rattle.sb_root.specs.declared.root_kernel.RootKernel.{RootKernel}
use Rattle.sb_root.specs.declared.view.View.{View}
use Rattle.sb_root.specs.Root.{IsSet, Use, eptp_of_view, is_listed, list_entry, eptp_list_frame, used_frame, view_of}
use Rattle.sb_root.specs.Standing.{IsApart, IsBooked, IsTableFrame, Stands}
use Rattle.sb_root.specs.Tables.{base_eptp, base_frames}
use Rattle.sb_root.specs.Answers.{IsBase, IsViewOf, SameRights, SameViews}
use Rattle.sb_root.specs.Switch.{switch_result}

-- ---- changes that leave the frames of tables and lists alone

-- a root kernel stands as before
abbrev pub RootsStayStanding : Type 0
RootsStayStanding = (root : RootKernel) (frames : List ℕ) (old new : Physical) → Stands root old → SameOutside frames old new
    → IsApart root frames → Stands root new

-- the base and each view answer as before
abbrev pub ViewsStay : Type 0
ViewsStay = (root : RootKernel) (frames : List ℕ) (old new : Physical) → Stands root old → SameOutside frames old new
    → IsApart root frames → SameViews root old new

-- what is exposed stays where the base's frames do
abbrev pub RightsStay : Type 0
RightsStay = (frames : List ℕ) (old new : Physical) → SameOutside frames old new
    → ((frame : ℕ) → Contains base_frames frame → ¬ Contains frames frame) → SameRights old new

-- its frames are taken in the book as before
abbrev pub BookStays : Type 0
BookStays = (root : RootKernel) (frames : List ℕ) (old new : Physical) (book : Book) → SameOutside frames old new
    → IsBooked root book old → IsBooked root book new

-- frames that it does not use may be taken and given back
abbrev pub OtherFramesAreFree : Type 0
OtherFramesAreFree = (root : RootKernel) (memory : Physical) (book : Book) (frame : ℕ) (held : Option (Kind × ℕ))
    → Stands root memory → IsBooked root book memory → 512 ≤ frame → ((purpose : Use) → used_frame root purpose ≢ Some frame)
    → IsBooked root (with_holder book frame held) memory

-- ---- what guest-physical addresses answer

-- the base answers as it was built, but for what is exposed
abbrev pub BasesAnswer : Type 0
BasesAnswer = (root : RootKernel) (memory : Physical) → Stands root memory → IsBase memory

-- each view answers as the base but for its four pages
abbrev pub ViewsAnswer : Type 0
ViewsAnswer = (root : RootKernel) (memory : Physical) (thread index : ℕ) (view : View) → Stands root memory
    → view_of root thread index ≡ Some view → IsViewOf memory view (eptp_of_view view)

-- ---- switches by a thread's list

-- a switch to an index that is set leads to its view
abbrev pub SetIndicesLead : Type 0
SetIndicesLead = (root : RootKernel) (memory : Physical) (thread index : ℕ) (list : Frame) → Stands root memory
    → eptp_list_frame root thread ≡ Some list → IsSet root thread index → index < 512
    → switch_result memory list.0 0 index ≡ Ok (To (list_entry root thread index))

-- one to an index that is not set is refused
abbrev pub FreeIndicesAreUnbound : Type 0
FreeIndicesAreUnbound = (root : RootKernel) (memory : Physical) (thread index : ℕ) (list : Frame) → Stands root memory
    → eptp_list_frame root thread ≡ Some list → is_listed (view_of root thread index) ≡ false
    → switch_result memory list.0 0 index ≡ Ok Unbound

-- an entry that is set is an EPT pointer
abbrev pub SetEntriesArePointers : Type 0
SetEntriesArePointers = (root : RootKernel) (memory : Physical) (thread index : ℕ) → Stands root memory
    → IsSet root thread index → IsTrue (is_eptp (list_entry root thread index))

-- it leads to a table in the memory
abbrev pub SetEntriesLeadInside : Type 0
SetEntriesLeadInside = (root : RootKernel) (memory : Physical) (thread index : ℕ) → Stands root memory
    → IsSet root thread index → frame_in (list_entry root thread index) < frame_count memory

-- ---- the words that walks read

-- a walk from the base reads words of the base's frames alone
abbrev pub BaseWalksReadBase : Type 0
BaseWalksReadBase = (root : RootKernel) (memory : Physical) (at place : ℕ) (access : Access) → Stands root memory
    → Contains (ept_walk_reads memory base_eptp at access) place → Contains base_frames (frame_of place)

-- a walk from a view, listed or not, reads words of frames of tables alone
abbrev pub ViewWalksReadTables : Type 0
ViewWalksReadTables = (root : RootKernel) (memory : Physical) (thread index at place : ℕ) (access : Access) (view : View)
    → Stands root memory → view_of root thread index ≡ Some view
    → Contains (ept_walk_reads memory (eptp_of_view view) at access) place → IsTableFrame root (frame_of place)

-- and so does a walk from an entry that is set
abbrev pub SetWalksReadTables : Type 0
SetWalksReadTables = (root : RootKernel) (memory : Physical) (thread index at place : ℕ) (access : Access)
    → Stands root memory → IsSet root thread index
    → Contains (ept_walk_reads memory (list_entry root thread index) at access) place → IsTableFrame root (frame_of place)
