-- Where the bytes of VMFUNC stand in a list of bytes.
use Rattle.std.specs.Prelude.{◌≡◌, ℕ, ◌+◌, ◌-◌, ◌<◌, ◌≤◌, List, [], ◌∷◌, ◌++◌, length, slice_index, Option, None, Some}
use Rattle.std.specs.List.{Contains}
use Rattle.std.specs.List.Sorted.{IsStrictlyIncreasing}

-- VMFUNC (SDM volume 3)
abbrev pub pattern : List ℕ
pattern = 0x0F ∷ 0x01 ∷ 0xD4 ∷ []

-- the pattern stands in the bytes from this place on
abbrev pub HasPatternAt : List ℕ → ℕ → Type 0
HasPatternAt bytes place =
    (slice_index bytes place ≡ 0x0F) × (slice_index bytes (place + 1) ≡ 0x01) × (slice_index bytes (place + 2) ≡ 0xD4)

abbrev pub HasNoPattern : List ℕ → Type 0
HasNoPattern bytes = (place : ℕ) → ¬ HasPatternAt bytes place

-- the pattern stands here, and nowhere before
abbrev pub HasFirstPatternAt : List ℕ → ℕ → Type 0
HasFirstPatternAt bytes place = HasPatternAt bytes place × ((earlier : ℕ) → earlier < place → ¬ HasPatternAt bytes earlier)

-- the first place of the pattern, None where there is none
abbrev pub IsFirstPattern : List ℕ → Option ℕ → Type 0
IsFirstPattern bytes (Some place) = HasFirstPatternAt bytes place
IsFirstPattern bytes None = HasNoPattern bytes

-- all places of the pattern, in order
pub record ArePatterns (bytes places : List ℕ) : Type 0 where
  pub rising : IsStrictlyIncreasing places
  pub only : (place : ℕ) → Contains places place → HasPatternAt bytes place
  pub all : (place : ℕ) → HasPatternAt bytes place → Contains places place

-- the pattern begins so many bytes before the end of `left`, and ends in `right`
pub record SpansBy (left right : List ℕ) (before : ℕ) : Type 0 where
  pub some : 0 < before
  pub ends_behind : before < length pattern
  pub within : before ≤ length left
  pub stands : HasPatternAt (left ++ right) (length left - before)

-- how many bytes of the pattern stand before the border, None where it does not stand across it
abbrev pub IsSpan : List ℕ → List ℕ → Option ℕ → Type 0
IsSpan left right (Some before) = SpansBy left right before
IsSpan left right None = (before : ℕ) → ¬ SpansBy left right before
