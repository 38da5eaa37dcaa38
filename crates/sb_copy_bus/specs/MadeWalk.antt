-- Walks that were made over a memory that notes each word once.
use Rattle.std.specs.Prelude.{ℕ, ◌≡◌, ◌+◌, ◌-◌, ◌*◌, ◌/◌, ◌<◌, ◌≤◌, Option, Some, Ok}
use Rattle.sb_memory.specs.Physical.{frame_count}
use Rattle.sb_memory.specs.declared.address.Access.{Access}
use Rattle.sb_memory.specs.declared.page.TheConstants.{PAGE_SIZE}
use Rattle.sb_agree.specs.Noted.{Noted, noted_rule}
use Rattle.sb_nested.specs.View.{View, place_of}
use Rattle.sb_nested.specs.Store.{account_after_walk}
use Rattle.sb_copy_bus.specs.declared.walk.MadeWalk.{MadeWalk}

-- the walk leads there still, and made again it notes no more
pub record IsMade (core : View) (account : Noted) (walk : MadeWalk) : Type 0 where
  pub leads : place_of core walk.access walk.at.0 ≡ Ok walk.place
  pub inside : walk.place.0 < PAGE_SIZE * frame_count core.physical
  pub again : account_after_walk noted_rule core walk.access walk.at.0 account ≡ account

-- the last walk, where there is one, was made so
abbrev pub LastIsMade : View → Noted → Option MadeWalk → Type 0
LastIsMade core account made = (walk : MadeWalk) → made ≡ Some walk → IsMade core account walk

-- an address behind that of the walk in its page, for the same access, and the place as far behind that of the walk
pub record LiesBehind (walk : MadeWalk) (access : Access) (address place : ℕ) : Type 0 where
  pub access_same : walk.access ≡ access
  pub behind : walk.at.0 ≤ address
  pub page_same : walk.at.0 / PAGE_SIZE ≡ address / PAGE_SIZE
  pub place_is : place ≡ walk.place.0 + (address - walk.at.0)
