-- Where the places of a block lie.
use Rattle.std.specs.Prelude.{ℕ, ◌≡◌, ◌+◌, ◌*◌, ◌%◌, ◌≤◌, List, All}
use Rattle.sb_memory.specs.declared.page.TheConstants.{PAGE_SIZE}
use Rattle.sb_machine.specs.declared.place.Place.{Place}
use Rattle.sb_machine.specs.declared.place.Place.TheVariants.{Word, Core}
use Rattle.sb_machine.specs.declared.place.Seen.{Seen}

-- a word in one of so many frames
abbrev pub IsWordIn : ℕ → Place → Type 0
IsWordIn frames (Word place) = (place % 8 ≡ 0) × (place + 8 ≤ PAGE_SIZE * frames)
IsWordIn frames (Core number) = ⊥

-- such a word, or how many lines this core has made
abbrev pub IsPlaceIn : ℕ → ℕ → Place → Type 0
IsPlaceIn frames number (Word place) = IsWordIn frames (Word place)
IsPlaceIn frames number (Core other) = other ≡ number

-- what a block of this core reads, and what it writes
abbrev pub AreReadsIn : ℕ → ℕ → List Seen → Type 0
AreReadsIn frames number reads = All (λ (seen : Seen). IsPlaceIn frames number seen.place) reads

abbrev pub AreWritesIn : ℕ → List Seen → Type 0
AreWritesIn frames writes = All (λ (seen : Seen). IsWordIn frames seen.place) writes
