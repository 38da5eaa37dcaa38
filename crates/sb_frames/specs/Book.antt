-- A frame book: for each frame from 512 on, in order, its kind and owner where it is taken.
use Rattle.std.specs.Prelude.{ℕ, ◌≡◌, ◌≢◌, ◌+◌, ◌-◌, ◌<◌, ◌≤◌, List, length, get_or, replicate, count_by, is_none, Option, None, Some, slice_set}
use Rattle.sb_abi.specs.declared.frames.TheConstants.{KEPT_FRAMES}
use Rattle.sb_memory.specs.declared.address.Frame.{Frame}
use Rattle.sb_frames.specs.declared.kind.Kind.{Kind}

abbrev pub Book : Type 0
Book = List (Option (Kind × ℕ))

-- the number of the first frame of a book
abbrev pub first_frame : ℕ
first_frame = KEPT_FRAMES

-- the book of a memory of so many frames in which no frame is taken
abbrev pub empty_book : ℕ → Book
empty_book frames = replicate (frames - first_frame) None

-- a frame that the book has
abbrev pub IsInBook : Book → ℕ → Type 0
IsInBook book frame = (first_frame ≤ frame) × (frame < first_frame + length book)

-- the kind and the owner of a frame of the book, or nothing where it is free
abbrev pub holder : Book → ℕ → Option (Kind × ℕ)
holder book frame = get_or book (frame - first_frame) None

-- a frame of the book that is taken
pub record IsTaken (book : Book) (frame : ℕ) : Type 0 where
  pub inside : IsInBook book frame
  pub held : holder book frame ≢ None

-- the free frame of the book below which no frame is free
pub record IsLowestFree (book : Book) (frame : ℕ) : Type 0 where
  pub inside : IsInBook book frame
  pub free : holder book frame ≡ None
  pub lowest : (lower : ℕ) → first_frame ≤ lower → lower < frame → holder book lower ≢ None

-- the number of free frames
abbrev pub free_count : Book → ℕ
free_count book = count_by is_none book

-- the book in which a frame has another holder
abbrev pub with_holder : Book → ℕ → Option (Kind × ℕ) → Book
with_holder book frame held = slice_set book (frame - first_frame) held

-- the book after a frame is taken, if one was found
abbrev pub after_take : Book → Option Frame → Kind → ℕ → Book
after_take book None kind owner = book
after_take book (Some frame) kind owner = with_holder book frame.0 (Some (kind, owner))
