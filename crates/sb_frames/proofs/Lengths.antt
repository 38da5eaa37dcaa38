-- A take leaves the number of frames of the book.
use Rattle.std.proofs.Common.{◌≡◌, ℕ, length, refl}
use Rattle.std.specs.Prelude.{Option, None, Some}
use Rattle.sb_memory.specs.declared.address.Frame.{Frame}
use Rattle.sb_frames.specs.declared.kind.Kind.{Kind}
use Rattle.sb_frames.specs.Book.{Book, after_take}
use Rattle.sb_frames.proofs.Taking.{length_with_holder}

-- whether or not there was a frame to take
pub length_after_take : (book : Book) (taken : Option Frame) (kind : Kind) (owner : ℕ)
    → length (after_take book taken kind owner) ≡ length book
length_after_take book None kind owner = refl
length_after_take book (Some frame) kind owner = length_with_holder book frame.0 (Some (kind, owner))
