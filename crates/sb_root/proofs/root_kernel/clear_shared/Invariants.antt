use Rattle.std.proofs.Common.{◌≡◌, ℕ, ◌*◌, ◌<◌, ◌≤◌}
use Rattle.sb_memory.specs.Physical.{HasSize}
use Rattle.sb_memory.specs.Words.{word_at}
use Rattle.sb_memory.specs.Changes.{SameOutside}
use Rattle.sb_root.specs.Tables.{shared_frames, shared_place}
use Rattle.sb_root.proofs.root_kernel.clear_shared.Given as goal

abbrev pub invariant-loop-region : goal.invariant-loop-region
invariant-loop-region l =
    ((page : ℕ) → 512 ≤ page → page < 512 * l.region → word_at l.memory.bytes (shared_place page) ≡ 0)
    × HasSize l.memory × SameOutside shared_frames l.fn.memory l.memory
