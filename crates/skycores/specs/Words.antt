-- The words of the command `run`.
use Rattle.std.specs.Prelude.{◌≡◌, ◌≤◌, ◌∷◌, [], List, ℕ, Bool, true, false, codes}
use Rattle.std.specs.Fmt.{decimal}
use Rattle.skycores.specs.declared.words.Run.{Run}
use Rattle.skycores.specs.declared.words.TheConstants.{MAX_STEPS, MAX_BLOCK}

-- from 1 to the most
abbrev pub IsUpTo : ℕ → ℕ → Type 0
IsUpTo most number = (1 ≤ number) × (number ≤ most)

-- the numbers of the command are within their limits
pub record IsWithin (run : Run) : Type 0 where
  pub steps : IsUpTo MAX_STEPS run.steps
  pub block : IsUpTo MAX_BLOCK run.block

-- the word that asks for a dump
abbrev pub dump_words : Bool → List (List ℕ)
dump_words true = codes "--dump" ∷ []
dump_words false = []

-- the words of a command with these two words for its numbers
abbrev pub run_words : List ℕ → List ℕ → Bool → List (List ℕ)
run_words steps block dump = codes "run" ∷ codes "--steps" ∷ steps ∷ codes "--block" ∷ block ∷ dump_words dump

-- a number is written in decimal digits, without a leading zero
abbrev pub words_of : Run → List (List ℕ)
words_of run = run_words (decimal run.steps) (decimal run.block) run.dump

-- the words are those of this command
abbrev pub AreWordsOf : Run → List (List ℕ) → Type 0
AreWordsOf run words = (words ≡ words_of run) × IsWithin run

-- the words are a command
abbrev pub IsCommand : List (List ℕ) → Type 0
IsCommand words = (run : Run) × AreWordsOf run words

-- ---- the refusal

-- the line where the words are no command
abbrev pub usage_line : List ℕ
usage_line = codes "usage: skycores run --steps N --block B [--dump]\n"
