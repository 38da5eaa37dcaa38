-- What is kept of the words that are noted.
use Rattle.std.specs.Prelude.{ℕ, ◌≡◌, ◌*◌, ◌/◌, ◌≤◌, All, Bool, true, false, List, length, get_or, if◌then◌else◌}
use Rattle.sb_agree.specs.Noted.{has_word, with_word, word_of}
use Rattle.sb_partial.specs.CopiedFrames.{CopiedFrames, IsSound, true_count}
use Rattle.sb_partial.specs.declared.frame.TheConstants.{FRAME_WORDS}

-- the frame of each of these words is there
abbrev pub AllThere : List Bool → List ℕ → Type 0
AllThere present words = All (λ word. get_or present (word / FRAME_WORDS) false ≡ true) words

-- these flags say which words are among these
abbrev pub AreFlags : List Bool → List ℕ → Type 0
AreFlags flags words = (word : ℕ) → get_or flags word false ≡ has_word word words

-- words that are noted once each, and room for all the others of the frames that are there
pub record IsNoting (present flags : List Bool) (words : List ℕ) (capacity : ℕ) : Type 0 where
  pub there : AllThere present words
  pub tied : AreFlags flags words
  pub counted : true_count flags ≡ length words
  pub room : FRAME_WORDS * true_count present ≤ capacity

-- the words that are noted as read after one was read, which is noted where it was not written before
abbrev pub reads_after : Bool → ℕ → List ℕ → List ℕ
reads_after written word reads = if written then reads else with_word word reads

-- bytes of words that are not among these are as they were given
abbrev pub AreGivenBeside : List ℕ → List ℕ → List ℕ → Type 0
AreGivenBeside writes given bytes =
    (place : ℕ) → has_word (word_of place) writes ≡ false → get_or bytes place 0 ≡ get_or given place 0

-- copies, what was noted of them, and how much of it when the present step began
pub record AreNoted (copies : CopiedFrames) (reads writes : List ℕ) (read_mark write_mark read_room write_room : ℕ) : Type 0 where
  pub sound : IsSound copies
  pub read : IsNoting copies.present copies.read reads read_room
  pub written : IsNoting copies.present copies.written writes write_room
  pub read_before : read_mark ≤ length reads
  pub written_before : write_mark ≤ length writes
  pub beside : AreGivenBeside writes copies.given copies.bytes
