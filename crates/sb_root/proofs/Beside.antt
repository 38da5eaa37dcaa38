-- A change of one entry of a list, as a change in the frame of the list.
use Rattle.std.proofs.Common.{◌≡◌, ℕ, zero, suc, ◌<◌, List, ◌∷◌, sym, ◌∙◌, arith}
use Rattle.std.specs.List.{Contains}
use Rattle.sb_memory.specs.Physical.{Physical, frame_of}
use Rattle.sb_memory.specs.Changes.{SameOutside}
use Rattle.sb_memory.proofs.Changes.{beside_word}
use Rattle.sb_walks.specs.Entry.{entry_in}
use Rattle.sb_root.specs.Calls.{SameBeside}

pub contains_cons : (first frame : ℕ) (frames : List ℕ) → Contains frames frame → Contains (first ∷ frames) frame
contains_cons first frame frames (k, within, is) = (suc k, omega arith, is)

-- only bytes of the list's frame and of these frames differ
pub outside_view : (list index : ℕ) (frames : List ℕ) (old new : Physical) → index < 512
    → SameBeside frames (entry_in list index) old new → SameOutside (list ∷ frames) old new
outside_view list index frames old new few same = record {
  present = same.present;
  size = same.size;
  bytes = λ place outside.
      let there : frame_of (entry_in list index) ≡ list = omega arith in
      same.bytes place (λ among. outside (contains_cons list (frame_of place) frames among))
      (beside_word (entry_in list index) place (omega arith) (λ is. outside (zero, omega arith, sym (is ∙ there))));
}
