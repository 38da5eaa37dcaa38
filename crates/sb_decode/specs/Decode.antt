-- What decoding says of the bytes.
use Rattle.std.specs.Prelude.{◌≡◌, ℕ, List, ◌++◌, Result, Ok, Err, length}
use Rattle.sb_insn.specs.declared.insn.Insn.{Insn}
use Rattle.sb_insn.specs.Spelling.{spelling}
use Rattle.sb_insn.specs.Grammar.{IsValid, Spells, BeginsWith, IsShort, IsUndecoded}
use Rattle.sb_decode.specs.declared.fault.DecodeFault.{DecodeFault}
use Rattle.sb_decode.specs.declared.fault.DecodeFault.TheVariants.{Short, Undecoded}

-- The answer that the grammar gives. The three cases exclude each other, and only one instruction begins the bytes.
abbrev pub Decodes : List ℕ → Result (Insn × ℕ) DecodeFault → Type 0
Decodes bytes (Ok (insn, len)) = BeginsWith bytes insn × (len ≡ length (spelling insn))
Decodes bytes (Err Short) = IsShort bytes
Decodes bytes (Err Undecoded) = IsUndecoded bytes

-- ---- why the answer is the only one

-- no spelling begins another
abbrev pub NoneBeginsAnother : Type 0
NoneBeginsAnother = (first second : Insn) (rest : List ℕ) → IsValid first → IsValid second
    → spelling second ≡ spelling first ++ rest → first ≡ second

-- bytes begin with one instruction at most
abbrev pub OneBegins : Type 0
OneBegins = (bytes : List ℕ) (first second : Insn) → BeginsWith bytes first → BeginsWith bytes second → first ≡ second

-- different instructions have different spellings
abbrev pub SpelledApart : Type 0
SpelledApart = (bytes : List ℕ) (first second : Insn) → Spells bytes first → Spells bytes second → first ≡ second

-- the grammar gives one answer
abbrev pub OneAnswer : Type 0
OneAnswer = (bytes : List ℕ) (first second : Result (Insn × ℕ) DecodeFault) → Decodes bytes first → Decodes bytes second
    → first ≡ second
