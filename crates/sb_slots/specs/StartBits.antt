-- A bit for each address of a text, in words of 64 bits, and the addresses whose bits are set.
use Rattle.std.specs.Prelude.{◌≡◌, ℕ, zero, suc, ◌+◌, ◌-◌, ◌*◌, ◌/◌, ◌%◌, Bool, ◌&&◌, ◌||◌, ◌==◌, nat_le, if◌then◌else◌, List, [], ◌∷◌, ◌++◌, length, slice_index}
use Rattle.std.specs.Int.{bit_at}
use Rattle.sb_abi.specs.declared.space.TheConstants.{TEXT_ADDRESS}

-- which word has the bit of an address
abbrev pub word_index : ℕ → ℕ
word_index at = (at - TEXT_ADDRESS) / 64

-- which bit of the word it is
abbrev pub bit_index : ℕ → ℕ
bit_index at = (at - TEXT_ADDRESS) % 64

-- the bit of the address is set; an address before the text has none, nor has one behind the words
abbrev pub has_bit : List ℕ → ℕ → Bool
has_bit words at = nat_le TEXT_ADDRESS at && (bit_at (slice_index words (word_index at)) (bit_index at) == 1)

-- the numbers below a limit for which a test is true, in order
unfoldable pub numbers_below : (ℕ → Bool) → ℕ → List ℕ
numbers_below test zero = []
numbers_below test (suc limit) =
    if test limit then numbers_below test limit ++ limit ∷ [] else numbers_below test limit

-- the addresses whose bits are set, in order
abbrev pub addresses_of : List ℕ → List ℕ
addresses_of words = numbers_below (has_bit words) (TEXT_ADDRESS + 64 * length words)

-- each bit is as it was
abbrev pub KeepsBits : List ℕ → List ℕ → Type 0
KeepsBits old new = (at : ℕ) → has_bit new at ≡ has_bit old at

-- the bit of the address is set, and each other one is as it was
abbrev pub SetsBit : ℕ → List ℕ → List ℕ → Type 0
SetsBit at old new = (other : ℕ) → has_bit new other ≡ (at == other) || has_bit old other
