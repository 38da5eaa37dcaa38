-- The tables that the base and all views share.
use Rattle.std.proofs.Common.{◌≡◌, ℕ, ◌+◌, ◌*◌, ◌<◌, ◌≤◌, sym, ◌∙◌, subst, inl, inr, arith}
use Rattle.std.proofs.lemmas.Bool.{cases_lt}
use Rattle.std.specs.List.{Contains}
use Rattle.sb_memory.specs.Physical.{Physical, HasSize, frame_count}
use Rattle.sb_memory.specs.Reading.{with_bytes}
use Rattle.sb_memory.specs.Words.{word_at, clear_frame}
use Rattle.sb_memory.specs.Changes.{SameOutside}
use Rattle.sb_memory.proofs.Changes.{same_outside_then, same_outside_cleared}
use Rattle.sb_memory.proofs.Words.{word_beside_frame, word_of_cleared}
use Rattle.sb_root.specs.Tables.{shared_frames, shared_place}
use Rattle.sb_root.proofs.Frames.{shared_among}
use Rattle.sb_memory.proofs.Changes.{size_before_clear}

-- the table of one more region is cleared
pub region_cleared : (old memory new : Physical) (region table : ℕ) → table ≡ 32 + region
    → new ≡ with_bytes memory (clear_frame memory.bytes table) → HasSize new → SameOutside shared_frames old memory
    → 513 ≤ frame_count old → 1 ≤ region → region < 16
    → ((page : ℕ) → 512 ≤ page → page < 512 * region → word_at memory.bytes (shared_place page) ≡ 0)
    → ((page : ℕ) → 512 ≤ page → page < 512 * (region + 1) → word_at new.bytes (shared_place page) ≡ 0) × HasSize new
    × SameOutside shared_frames old new
region_cleared old memory new region table here is size same least first within before =
    let size_now = size_before_clear memory new table is size in
    let whole = size_now.bytes in
    let present = same.present in
    let enough : 513 ≤ frame_count memory = rw present least in
    let among = subst (Contains shared_frames) (sym here) (shared_among region first within) in (
      (λ page from below. rw is (elim (cases_lt page (512 * region)) [
        | inl lower ↦ word_beside_frame memory.bytes table (shared_place page) (omega arith) (omega arith)
            ∙ before page from lower
        | inr upper ↦ word_of_cleared memory.bytes table (shared_place page) (omega arith) (omega arith) (omega arith)
      ])),
      size,
      subst (SameOutside shared_frames old) (sym is)
          (same_outside_then shared_frames old memory _ same (same_outside_cleared shared_frames memory table among)),
    )
