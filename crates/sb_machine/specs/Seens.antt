-- Places of a machine with the values that they hold: words of physical memory, and how many lines a core has made.
use Rattle.std.specs.Prelude.{ℕ, ◌≡◌, ◌*◌, ◌/◌, ◌==◌, Bool, false, List, [], ◌∷◌, get_or, length, map}
use Rattle.std.specs.List.{list_any}
use Rattle.sb_memory.specs.Physical.{Physical}
use Rattle.sb_memory.specs.Words.{word_at}
use Rattle.sb_machine.specs.declared.processor.CoreState.{CoreState}
use Rattle.sb_machine.specs.declared.place.Place.{Place}
use Rattle.sb_machine.specs.declared.place.Place.TheVariants.{Word, Core}
use Rattle.sb_machine.specs.declared.place.Seen.{Seen}

-- a word, by its number, as it stands in a memory
abbrev pub seen_word : Physical → ℕ → Seen
seen_word memory word = record { place = Word (8 * word); value = word_at memory.bytes (8 * word) }

abbrev pub seen_words : Physical → List ℕ → List Seen
seen_words memory words = map (seen_word memory) words

-- how many lines a core has made
abbrev pub seen_core : ℕ → CoreState → Seen
seen_core number state = record { place = Core number; value = state.made }

-- a place holds a value, in this memory and where the core of this number has this state
abbrev pub HoldsAt : ℕ → CoreState → Physical → Place → ℕ → Type 0
HoldsAt number state memory (Word place) value = word_at memory.bytes place ≡ value
HoldsAt number state memory (Core other) value = (other ≡ number) × (state.made ≡ value)

-- each place holds its value
abbrev pub Holds : ℕ → CoreState → Physical → List Seen → Type 0
Holds number state memory [] = Unit {0}
Holds number state memory (seen ∷ others) =
    HoldsAt number state memory seen.place seen.value × Holds number state memory others

-- these are words, and each stands in the memory
abbrev pub HoldsWord : Physical → Place → ℕ → Type 0
HoldsWord memory (Word place) value = word_at memory.bytes place ≡ value
HoldsWord memory (Core number) value = ⊥

abbrev pub HoldsWords : Physical → List Seen → Type 0
HoldsWords memory [] = Unit {0}
HoldsWords memory (seen ∷ others) = HoldsWord memory seen.place seen.value × HoldsWords memory others

-- whether a place is this word
abbrev pub is_word : ℕ → Place → Bool
is_word word (Word place) = place == 8 * word
is_word word (Core number) = false

-- whether this word is among these places
abbrev pub has_word_of : ℕ → List Seen → Bool
has_word_of word seens = list_any (λ seen. is_word word seen.place) seens

-- Each of these words stands in the new memory, and every byte of another word is as before; no frame comes or goes.
pub record ChangesWords (writes : List Seen) (old new : Physical) : Type 0 where
  pub present : new.present ≡ old.present
  pub size : length new.bytes ≡ length old.bytes
  pub written : HoldsWords new writes
  pub beside : (place : ℕ) → has_word_of (place / 8) writes ≡ false → get_or new.bytes place 0 ≡ get_or old.bytes place 0
