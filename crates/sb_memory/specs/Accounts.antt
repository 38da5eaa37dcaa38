-- Calls of physical memory, and the account that a memory keeps of them.
use Rattle.std.specs.Prelude.{ℕ, List, [], ◌∷◌, map}
use Rattle.sb_memory.specs.Physical.{Physical}

-- a call that may change an account
pub data PhysCall : Type 0 where
  ReadByte : (place : ℕ) → PhysCall
  ReadWord : (place : ℕ) → PhysCall
  WriteByte : (place byte : ℕ) → PhysCall
  WriteWord : (place word : ℕ) → PhysCall

-- the place that a call is about
abbrev pub place_of : PhysCall → ℕ
place_of (ReadByte place) = place
place_of (ReadWord place) = place
place_of (WriteByte place byte) = place
place_of (WriteWord place word) = place

-- the account after words are read at these places, in order, by the rule of the memory
abbrev pub account_after_words : {Account : Type 0} → (PhysCall → Physical → Account → Account) → Physical → List ℕ → Account
    → Account
account_after_words rule memory [] account = account
account_after_words rule memory (place ∷ places) account =
    account_after_words rule memory places (rule (ReadWord place) memory account)

-- the account after calls that leave the memory as it is
abbrev pub account_after_reads : {Account : Type 0} → (PhysCall → Physical → Account → Account) → Physical → List PhysCall
    → Account
    → Account
account_after_reads rule memory [] account = account
account_after_reads rule memory (call ∷ calls) account = account_after_reads rule memory calls (rule call memory account)

-- the calls that read words at these places
abbrev pub word_calls : List ℕ → List PhysCall
word_calls places = map ReadWord places
