-- Bytes that lie one after another in memory, as the addresses from one on lead to them.
use Rattle.std.specs.Prelude.{ℕ, ◌≡◌, ◌+◌, ◌*◌, ◌%◌, ◌^◌, ◌<◌, ◌≤◌, true, Ok, length}
use Rattle.sb_memory.specs.declared.address.Access.{Access}
use Rattle.sb_memory.specs.declared.page.TheConstants.{PAGE_SIZE}
use Rattle.sb_memory.specs.Physical.{frame_count, frame_of, has_frame}
use Rattle.sb_nested.specs.View.{View, place_of}

-- The addresses from one on lead to the places from this one on, so many of each, and memory has them all.
pub record LiesAt (core : View) (access : Access) (address size place : ℕ) : Type 0 where
  pub leads : (index : ℕ) → index < size → place_of core access ((address + index) % 2 ^ 64) ≡ Ok (record { 0 = place + index })
  pub held : (index : ℕ) → index < size → has_frame core.physical (frame_of (place + index)) ≡ true
  pub fits : place + size ≤ PAGE_SIZE * frame_count core.physical
  pub whole : length core.physical.bytes ≡ PAGE_SIZE * frame_count core.physical
