-- The instructions of a text, one after another from its first byte to its last.
use Rattle.std.specs.Prelude.{◌≡◌, ℕ, ◌+◌, ◌<◌, List, [], ◌∷◌, ◌++◌, length, Result, Ok, Err}
use Rattle.std.specs.List.Sorted.{IsStrictlyIncreasing}
use Rattle.sb_abi.specs.declared.space.TheConstants.{TEXT_ADDRESS}
use Rattle.sb_insn.specs.declared.insn.Insn.{Insn}
use Rattle.sb_insn.specs.Spelling.{spelling}
use Rattle.sb_insn.specs.Grammar.{BeginsWith}
pub use Rattle.sb_forms.specs.Table.{spelled_bytes}
pub use Rattle.sb_forms.specs.Valid.{AllValid}
use Rattle.sb_rewrite.specs.declared.refusal.ListRefusal.{ListRefusal}
use Rattle.sb_rewrite.specs.declared.refusal.ListRefusal.TheVariants.{Undecoded, Memory}

-- where the text of a process stands
abbrev pub text_address : ℕ
text_address = TEXT_ADDRESS

-- where instructions start that stand one after another from an address on
unfoldable pub starts_from : ℕ → List Insn → List ℕ
starts_from at [] = []
starts_from at (insn ∷ insns) = at ∷ starts_from (at + length (spelling insn)) insns

-- instructions spell the text from its first byte to its last, and these are their starts
abbrev pub IsListing : List ℕ → List ℕ → Type 0
IsListing text starts =
    (insns : List Insn) × AllValid insns × (text ≡ spelled_bytes insns) × (starts ≡ starts_from text_address insns)

-- bytes are left, and no instruction begins them
abbrev pub IsStuck : List ℕ → Type 0
IsStuck rest = (0 < length rest) × ((insn : Insn) → ¬ BeginsWith rest insn)

-- instructions spell a beginning of the text, and behind it, at this address, no whole instruction stands
abbrev pub IsUndecodedAt : List ℕ → ℕ → Type 0
IsUndecodedAt text at =
    (insns : List Insn) × (rest : List ℕ) × AllValid insns × (text ≡ spelled_bytes insns ++ rest) × IsStuck rest
    × (at ≡ text_address + length (spelled_bytes insns))

-- The listing of the text, or where it has none; the cases exclude each other.
abbrev pub Lists : List ℕ → Result (List ℕ) ListRefusal → Type 0
Lists text (Ok starts) = IsListing text starts
Lists text (Err (Undecoded at)) = IsUndecodedAt text at
Lists text (Err Memory) = Unit {0}

-- ---- why the answer is the only one

-- a text has one listing at most
abbrev pub OneListing : Type 0
OneListing = (text first second : List ℕ) → IsListing text first → IsListing text second → first ≡ second

-- there is one address at most at which no whole instruction stands
abbrev pub OnePlace : Type 0
OnePlace = (text : List ℕ) (first second : ℕ) → IsUndecodedAt text first → IsUndecodedAt text second → first ≡ second

-- a text that has a listing has no such address
abbrev pub ListedApart : Type 0
ListedApart = (text starts : List ℕ) (at : ℕ) → IsListing text starts → ¬ IsUndecodedAt text at

-- starts come in order
abbrev pub StartsRise : Type 0
StartsRise = (text starts : List ℕ) → IsListing text starts → IsStrictlyIncreasing starts
