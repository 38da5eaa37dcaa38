-- The bytes of a frame.
use Rattle.std.specs.Prelude.{ℕ, ◌*◌, List, drop, take}
use Rattle.sb_memory.specs.declared.page.TheConstants.{PAGE_SIZE}
use Rattle.sb_memory.specs.Physical.{Physical}

-- the bytes of a frame, in order
unfoldable pub frame_bytes : Physical → ℕ → List ℕ
frame_bytes memory frame = take PAGE_SIZE (drop (PAGE_SIZE * frame) memory.bytes)
