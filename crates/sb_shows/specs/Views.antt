-- What calls of the root kernel that add lists and views, and clear entries of lists, leave; the placement with what they take;
-- and the state with a view or a thread more, or a view less.
use Rattle.std.specs.Prelude.{ℕ, ◌≡◌, ◌+◌, ◌<◌, ◌==◌, not, List, [], ◌∷◌, ◌++◌, length, slice_set, Some, if◌then◌else◌}
use Rattle.std.specs.List.{Contains}
use Rattle.sb_abi.specs.declared.layout.TheConstants.{FIRST_ROOT}
use Rattle.sb_memory.specs.Physical.{Physical}
use Rattle.sb_memory.specs.Reading.{with_bytes}
use Rattle.sb_memory.specs.Words.{put_word}
use Rattle.sb_walks.specs.Entry.{entry_in}
use Rattle.sb_memory.specs.declared.address.Frame.{Frame}
use Rattle.sb_frames.specs.Book.{Book}
use Rattle.sb_tramp.specs.declared.record_words.RecordWords.{RecordWords}
use Rattle.sb_root.specs.declared.root_kernel.RootKernel.{RootKernel}
use Rattle.sb_root.specs.declared.view.View.{View}
use Rattle.sb_root.specs.Root.{ListOf, PartOf, IsSet, eptp_list_frame, view_of, with_view, without_listing, view_frames}
use Rattle.sb_root.specs.Standing.{Stands}
use Rattle.sb_root.specs.Answers.{SameViews}
use Rattle.sb_root.specs.Calls.{IsAddedList, IsAddedView}
use Rattle.sb_state.specs.declared.page.PageName.TheVariants.{Record, Scratch}
use Rattle.sb_state.specs.declared.state.Binding.{Binding}
use Rattle.sb_state.specs.declared.state.Thread.{Thread}
use Rattle.sb_trace.specs.PageName.{same_name}
use Rattle.sb_trace.specs.PageWords.{zeros}
use Rattle.sb_trace.specs.State.{State, page_with}
use Rattle.sb_trace.specs.Start.{record_bytes}
use Rattle.sb_shows.specs.Placement.{Placement, Purpose, Unused, RootTable, Holds}
use Rattle.sb_shows.specs.Calls.{without_pages}

-- ---- a list

-- a call of `RootKernel::add_list`, in a frame that was not used
pub record AddsList (placement : Placement) (root : RootKernel) (thread : ℕ) (old new : Physical) : Type 0 where
  pub before : Book
  pub after : Book
  pub frame : Frame
  pub added : IsAddedList placement.root root before after old new thread frame
  pub stands : Stands root new
  pub small : thread < 32
  pub unused : placement.purpose frame.0 ≡ Unused

-- the placement with the list
abbrev pub placed_list : Placement → RootKernel → ℕ → ℕ → Placement
placed_list placement root thread frame =
    record placement { root = root; purpose = λ one. if one == frame then RootTable (ListOf thread) else placement.purpose one }

-- ---- a view

-- A call of `RootKernel::add_view`, in frames that were not used: the view is of a thread of this home, and shows this process.
pub record AddsRootView (placement : Placement) (root : RootKernel) (thread index home process : ℕ) (words : RecordWords)
    (old new : Physical) : Type 0 where
  pub before : Book
  pub after : Book
  pub home_root : Frame
  pub target_root : Frame
  pub view : View
  pub added : IsAddedView placement.root root before after old new thread home_root target_root words (not (index == 0)) index
      view
  pub home_is : home_root.0 ≡ FIRST_ROOT + home
  pub target_is : target_root.0 ≡ FIRST_ROOT + process
  pub stands : Stands root new
  pub answers : SameViews placement.root old new
  pub list : Frame
  pub listed : eptp_list_frame placement.root thread ≡ Some list
  pub unused : (frame : ℕ) → Contains (view_frames view) frame → placement.purpose frame ≡ Unused

-- what the six frames of a view are for: its tables, its record page and its scratch page
abbrev pub part_purpose : ℕ → ℕ → ℕ → Purpose
part_purpose thread index part =
    if part == 4 then Holds (Record thread index) else if part == 5 then Holds (Scratch thread index) else RootTable
    (PartOf thread index part)

-- the frames of a list are for these parts, from a first one on
abbrev pub purposes_with : (ℕ → Purpose) → (ℕ → Purpose) → List ℕ → ℕ → ℕ → Purpose
purposes_with part old [] first one = old one
purposes_with part old (frame ∷ frames) first one =
    if one == frame then part first else purposes_with part old frames (first + 1) one

-- the placement with the view
abbrev pub placed_view : Placement → RootKernel → ℕ → ℕ → View → Placement
placed_view placement root thread index view = record {
  root = root;
  sets = placement.sets;
  frame = λ name. if same_name name (Record thread index) then view.record_page.0 else if same_name name
      (Scratch thread index) then view.scratch_page.0 else placement.frame name;
  purpose = purposes_with (part_purpose thread index) placement.purpose (view_frames view) 0;
}

-- ---- a thread

-- the state with one thread more and the record and the scratch page of its home view, and as yet without its save page and stack
abbrev pub with_new_thread : State → Thread → RecordWords → State
with_new_thread state thread words = record state {
  threads = state.threads ++ thread ∷ [];
  pages = (state.pages ++ page_with (Record (length state.threads) 0) (record_bytes words) ∷ []) ++ page_with
      (Scratch (length state.threads) 0) zeros ∷ [];
}

-- ---- a view that goes

-- a call of `RootKernel::clear_entry`
pub record ClearsEntry (placement : Placement) (root : RootKernel) (thread index : ℕ) (old new : Physical) : Type 0 where
  pub view : View
  pub was : view_of placement.root thread index ≡ Some view
  pub set : IsSet placement.root thread index
  pub cleared : root ≡ with_view placement.root thread index (without_listing view)
  pub list : Frame
  pub listed : eptp_list_frame placement.root thread ≡ Some list
  pub written : new ≡ with_bytes old (put_word old.bytes (entry_in list.0 index) 0)
  pub stands : Stands root new
  pub answers : SameViews placement.root old new

-- The placement then: the frames of the view's tables, record page and scratch page stay with the root kernel.
abbrev pub placed_on : Placement → RootKernel → Placement
placed_on placement root = record placement { root = root }

-- the bindings but those of an index
abbrev pub without_index : List Binding → ℕ → List Binding
without_index [] index = []
without_index (binding ∷ bindings) index =
    if binding.index == index then without_index bindings index else binding ∷ without_index bindings index

-- the state without the binding of a thread that has this index, and without the record and the scratch page of its view
abbrev pub without_view : State → ℕ → Thread → ℕ → State
without_view state number thread index = record state {
  threads = slice_set state.threads number (record thread { bindings = without_index thread.bindings index });
  pages = without_pages state.pages (Record number index ∷ Scratch number index ∷ []);
}
