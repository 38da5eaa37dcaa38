-- Linear addresses (SDM volume 1, section 3.3.7.1).
use Rattle.std.specs.Prelude.{ℕ, ◌/◌, ◌^◌, ◌-◌, ◌==◌, ◌||◌, Bool}

-- a number of 64 bits whose bits 63 to 47 are all the same
abbrev pub is_canonical : ℕ → Bool
is_canonical address = (address / 2 ^ 47 == 0) || (address / 2 ^ 47 == 2 ^ 17 - 1)
