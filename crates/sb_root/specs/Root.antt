-- What a root kernel keeps: for each thread the frame of its list, and for each of its indices a view.
use Rattle.std.specs.Prelude.{ℕ, ◌≡◌, ◌≢◌, ◌<◌, ◌==◌, Bool, true, false, Option, None, Some, List, [], ◌∷◌, length, replicate, get_or, slice_set, if◌then◌else◌}
use Rattle.sb_abi.specs.declared.space.TheConstants.{WINDOW_THREADS, MAX_VIEWS}
use Rattle.sb_memory.specs.declared.address.Frame.{Frame}
use Rattle.sb_frames.specs.declared.kind.Kind.{Kind}
use Rattle.sb_frames.specs.declared.kind.Kind.TheVariants.{EptTable, EptpList, RecordPage, ScratchPage}
use Rattle.sb_root.specs.declared.root_kernel.RootKernel.{RootKernel}
use Rattle.sb_root.specs.declared.view.View.{View}
use Rattle.sb_root.specs.Entry.{eptp_to}

-- there are as many threads as the windows have room for, and an index for each view
pub record IsShaped (root : RootKernel) : Type 0 where
  pub lists : length root.lists ≡ WINDOW_THREADS
  pub threads : length root.views ≡ WINDOW_THREADS
  pub views : (thread : ℕ) → thread < WINDOW_THREADS → length (get_or root.views thread []) ≡ MAX_VIEWS

-- the frame of a thread's list
abbrev pub eptp_list_frame : RootKernel → ℕ → Option Frame
eptp_list_frame root thread = get_or root.lists thread None

-- what is kept of a thread's index: a view, also one whose list entry was cleared
abbrev pub view_of : RootKernel → ℕ → ℕ → Option View
view_of root thread index = get_or (get_or root.views thread []) index None

-- whether the entry of a list is set for a view
abbrev pub is_listed : Option View → Bool
is_listed None = false
is_listed (Some view) = view.listed

-- an index of a thread whose list entry is set
abbrev pub IsSet : RootKernel → ℕ → ℕ → Type 0
IsSet root thread index = is_listed (view_of root thread index) ≡ true

abbrev pub eptp_of_view : View → ℕ
eptp_of_view view = eptp_to view.tables.root.0

-- its entry in the thread's list: the EPT pointer, or 0 where it was cleared
abbrev pub entry_of_view : View → ℕ
entry_of_view view = if view.listed then eptp_of_view view else 0

abbrev pub entry_of_index : Option View → ℕ
entry_of_index None = 0
entry_of_index (Some view) = entry_of_view view

-- the entry of a thread's list at an index
abbrev pub list_entry : RootKernel → ℕ → ℕ → ℕ
list_entry root thread index = entry_of_index (view_of root thread index)

-- the lowest index of a thread that is not set
pub record IsLowestFree (root : RootKernel) (thread index : ℕ) : Type 0 where
  pub inside : index < MAX_VIEWS
  pub free : is_listed (view_of root thread index) ≡ false
  pub lowest : (lower : ℕ) → lower < index → IsSet root thread lower

-- a thread that has an index which is not set
abbrev pub HasFreeIndex : RootKernel → ℕ → Type 0
HasFreeIndex root thread = (index : ℕ) × (index < MAX_VIEWS) × (is_listed (view_of root thread index) ≡ false)

-- a root kernel without lists and views
abbrev pub no_threads : RootKernel
no_threads = record { lists = replicate WINDOW_THREADS None; views = replicate WINDOW_THREADS (replicate MAX_VIEWS None) }

-- with a list for a thread
abbrev pub with_list : RootKernel → ℕ → Frame → RootKernel
with_list root thread frame = record root { lists = slice_set root.lists thread (Some frame) }

-- with a view at an index of a thread
abbrev pub with_view : RootKernel → ℕ → ℕ → View → RootKernel
with_view root thread index view =
    record root { views = slice_set root.views thread (slice_set (get_or root.views thread []) index (Some view)) }

-- a view whose list entry was cleared
abbrev pub without_listing : View → View
without_listing view = record view { listed = false }

-- ---- the frames that were taken

-- the six frames of a view: its tables from level 4 to level 1, its record page, its scratch page
abbrev pub view_frames : View → List ℕ
view_frames view =
    view.tables.root.0 ∷ view.tables.pointers.0 ∷ view.tables.directory.0 ∷ view.tables.first.0
    ∷ view.record_page.0 ∷ view.scratch_page.0 ∷ []

-- no frame stands twice in a list
abbrev pub AreDifferent : List ℕ → Type 0
AreDifferent frames = (i j : ℕ) → i < length frames → j < length frames → i ≢ j → get_or frames i 0 ≢ get_or frames j 0

-- what a frame is used for: the list of a thread, or one of the six parts of a view
pub data Use : Type 0 where
  ListOf : (thread : ℕ) → Use
  PartOf : (thread index part : ℕ) → Use

abbrev pub list_frame_in : Option Frame → Option ℕ
list_frame_in None = None
list_frame_in (Some frame) = Some frame.0

abbrev pub part_in : Option View → ℕ → Option ℕ
part_in None part = None
part_in (Some view) part =
    get_or (Some view.tables.root.0 ∷ Some view.tables.pointers.0 ∷ Some view.tables.directory.0 ∷ Some view.tables.first.0 ∷ Some
    view.record_page.0 ∷ Some view.scratch_page.0 ∷ []) part None

-- the frame that is used so
abbrev pub used_frame : RootKernel → Use → Option ℕ
used_frame root (ListOf thread) = list_frame_in (eptp_list_frame root thread)
used_frame root (PartOf thread index part) = part_in (view_of root thread index) part

-- what it is taken for in the frame book
abbrev pub part_kind : ℕ → Kind
part_kind part = if part == 4 then RecordPage else if part == 5 then ScratchPage else EptTable

abbrev pub kind_for : Use → Kind
kind_for (ListOf thread) = EptpList
kind_for (PartOf thread index part) = part_kind part

-- by which thread
abbrev pub owner_for : Use → ℕ
owner_for (ListOf thread) = thread
owner_for (PartOf thread index part) = thread
