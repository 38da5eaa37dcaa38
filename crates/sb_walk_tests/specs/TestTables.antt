-- The tables of the tests: words from place 0 on, and the places of the first reads are noted.
use Rattle.std.specs.Prelude.{ℕ, ◌/◌, ◌++◌, List, [], ◌∷◌, length, nat_lt, Option, Some, None, slice_get, Result, Ok, Err, if◌then◌else◌}
use Rattle.sb_memory.specs.declared.address.EptStop.TheVariants.{TooWide}
use Rattle.sb_walks.specs.declared.stop.TableStop.{TableStop}
use Rattle.sb_walks.specs.declared.stop.TableStop.TheVariants.{Ept}

abbrev pub word_or_stop : Option ℕ → Result ℕ TableStop
word_or_stop None = Err (Ept TooWide)
word_or_stop (Some word) = Ok word

unfoldable pub word_of : List ℕ → ℕ → Result ℕ TableStop
word_of words place = word_or_stop (slice_get words (place / 8))

-- the places noted after one more, if they are fewer than eight
unfoldable pub noted : List ℕ → ℕ → List ℕ → List ℕ
noted words place places = if nat_lt (length places) 8 then places ++ place ∷ [] else places
