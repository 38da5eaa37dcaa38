use Rattle.std.proofs.Common.{List, ℕ, ap, ◌∙◌}
use Rattle.sb_slots.specs.StartBits.{addresses_of}
use Rattle.sb_slots.proofs.Addresses.{no_addresses}
use Rattle.sb_slots.proofs.starts.Starts.with_room.Goals as goal

pub returns : goal.returns
returns c = ap (λ (words : List ℕ). addresses_of words) c.in_ok-with_capacity.ensures.items ∙ no_addresses
