-- What calls of a root kernel take and change.
use Rattle.std.specs.Prelude.{ℕ, ◌≡◌, ◌+◌, ◌<◌, ◌≤◌, ◌⊎◌, Bool, true, None, Some, List, [], ◌∷◌, length, get_or}
use Rattle.std.specs.List.{Contains}
use Rattle.sb_abi.specs.declared.frames.TheConstants.{VIEW_FRAMES}
use Rattle.sb_memory.specs.Physical.{Physical, HoldsBytes, frame_of}
use Rattle.sb_memory.specs.Changes.{SameOutside}
use Rattle.sb_memory.specs.Reading.{with_bytes}
use Rattle.sb_memory.specs.Words.{put_word}
use Rattle.sb_memory.specs.declared.address.Frame.{Frame}
use Rattle.sb_walks.specs.Entry.{entry_in}
use Rattle.sb_frames.specs.Book.{Book, IsInBook, holder, with_holder, free_count}
use Rattle.sb_frames.specs.declared.kind.Kind.TheVariants.{EptpList}
use Rattle.sb_tramp.specs.declared.record_words.RecordWords.{RecordWords}
use Rattle.sb_tramp.specs.Record.{words_of, record_bytes}
use Rattle.sb_root.specs.declared.root_kernel.NoFrames.{NoFrames}
use Rattle.sb_root.specs.declared.root_kernel.RootKernel.{RootKernel}
use Rattle.sb_root.specs.declared.view.View.{View}
use Rattle.sb_root.specs.Tables.{IsPage, from_start}
use Rattle.sb_root.specs.Root.{IsLowestFree, eptp_list_frame, with_list, with_view, view_frames, part_kind, eptp_of_view}
use Rattle.sb_root.specs.Answers.{IsViewOf, SameRights}

-- so many frames are needed, and so many are free
abbrev pub no_frames : ℕ → ℕ → NoFrames
no_frames need have = record { need = need; have = have }

-- a frame of the book that is free
abbrev pub IsFree : Book → ℕ → Type 0
IsFree book frame = IsInBook book frame × (holder book frame ≡ None)

-- the book after a thread took frames for the parts of a view, from a part on
abbrev pub with_parts : Book → ℕ → ℕ → List ℕ → Book
with_parts book thread part [] = book
with_parts book thread part (frame ∷ frames) =
    with_parts (with_holder book frame (Some (part_kind part, thread))) thread (part + 1) frames

-- only bytes of these frames and of the word at a place differ
pub record SameBeside (frames : List ℕ) (at : ℕ) (old new : Physical) : Type 0 where
  pub present : new.present ≡ old.present
  pub size : length new.bytes ≡ length old.bytes
  pub bytes : (place : ℕ) → ¬ Contains frames (frame_of place) → (place < at) ⊎ (at + 8 ≤ place)
      → get_or new.bytes place 0 ≡ get_or old.bytes place 0

-- the bytes of a frame are zero
abbrev pub IsZeroed : Physical → ℕ → Type 0
IsZeroed memory frame = (place : ℕ) → frame_of place ≡ frame → get_or memory.bytes place 0 ≡ 0

-- a thread got a list in a frame that was free
pub record IsAddedList (root root' : RootKernel) (book book' : Book) (old new : Physical) (thread : ℕ)
    (frame : Frame) : Type 0 where
  pub free : IsFree book frame.0
  pub taken : book' ≡ with_holder book frame.0 (Some (EptpList, thread))
  pub count : free_count book' + 1 ≡ free_count book
  pub kept : root' ≡ with_list root thread frame
  pub zeros : IsZeroed new frame.0
  pub same : SameOutside (frame.0 ∷ []) old new
  pub rights : SameRights old new

-- the entry of a thread's list at an index was set to a word, and no other byte was changed
abbrev pub SetsEntry : RootKernel → Physical → Physical → ℕ → ℕ → ℕ → Type 0
SetsEntry root old new thread index word = (list : Frame) → eptp_list_frame root thread ≡ Some list
    → new ≡ with_bytes old (put_word old.bytes (entry_in list.0 index) word)

-- a thread got a view at its lowest free index, in frames that were free
pub record IsAddedView (root root' : RootKernel) (book book' : Book) (old new : Physical) (thread : ℕ) (home target : Frame)
    (words : RecordWords) (server : Bool) (index : ℕ) (view : View) : Type 0 where
  pub lowest : IsLowestFree root thread index
  pub shows : (view.home_root ≡ home) × (view.target_root ≡ target) × (view.server ≡ server) × (view.listed ≡ true)
  pub free : (frame : ℕ) → Contains (view_frames view) frame → IsFree book frame
  pub taken : book' ≡ with_parts book thread 0 (view_frames view)
  pub count : free_count book' + VIEW_FRAMES ≡ free_count book
  pub kept : root' ≡ with_view root thread index view
  pub answers : IsViewOf new view (eptp_of_view view)
  pub record_page : IsPage new view.record_page.0 (from_start (words_of words))
  pub record_page_bytes : HoldsBytes new view.record_page.0 (record_bytes words)
  pub scratch : IsZeroed new view.scratch_page.0
  pub same : (list : Frame) → eptp_list_frame root thread ≡ Some list
      → SameBeside (view_frames view) (entry_in list.0 index) old new
  pub outside : (list : Frame) → eptp_list_frame root thread ≡ Some list → SameOutside (list.0 ∷ view_frames view) old new
  pub rights : SameRights old new
