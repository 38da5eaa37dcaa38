-- Whether the bytes of VMFUNC stand in bytes, as tests.
use Rattle.std.specs.Prelude.{ℕ, Bool, true, false, ◌&&◌, ◌||◌, ◌==◌, List, [], ◌∷◌}
use Rattle.sb_scan.specs.Pattern.{pattern}

-- the second bytes begin with the first ones
abbrev pub begins_with : List ℕ → List ℕ → Bool
begins_with [] bytes = true
begins_with (first ∷ rest) [] = false
begins_with (first ∷ rest) (byte ∷ bytes) = (byte == first) && begins_with rest bytes

-- the bytes of VMFUNC stand somewhere in these
unfoldable pub holds_pattern : List ℕ → Bool
holds_pattern [] = false
holds_pattern (byte ∷ bytes) = begins_with pattern (byte ∷ bytes) || holds_pattern bytes
