-- The words of a command.
use Rattle.std.specs.Prelude.{◌≡◌, ◌<◌, ◌^◌, ◌∷◌, [], List, ℕ, ⊤, codes}
use Rattle.std.specs.Fmt.{decimal}
use Rattle.skybridge.specs.declared.words.Command.{Command}
use Rattle.skybridge.specs.declared.words.Command.TheVariants.{OfBundle, Generate, GenerateBundle, Help}
use Rattle.skybridge.specs.declared.words.BundleCommand.{BundleCommand}
use Rattle.skybridge.specs.declared.words.BundleCommand.TheVariants.{Replay, ReplayDump, Plain, Check, Rewrite}

-- the words of a command on a bundle
abbrev pub bundle_words : BundleCommand → List (List ℕ)
bundle_words Replay = codes "replay" ∷ []
bundle_words ReplayDump = codes "replay" ∷ codes "--dump" ∷ []
bundle_words Plain = codes "plain" ∷ []
bundle_words Check = codes "check" ∷ []
bundle_words Rewrite = codes "rewrite" ∷ []

-- the words of a command; a number is written in decimal digits, without a leading zero
abbrev pub words_of : Command → List (List ℕ)
words_of (OfBundle command) = bundle_words command
words_of (Generate number) = codes "gen" ∷ decimal number ∷ []
words_of (GenerateBundle number) = codes "gen" ∷ decimal number ∷ codes "--bundle" ∷ []
words_of Help = codes "--help" ∷ []

-- a number of a command has 64 bits
abbrev pub HasNumber : Command → Type 0
HasNumber (OfBundle command) = ⊤
HasNumber (Generate number) = number < 2 ^ 64
HasNumber (GenerateBundle number) = number < 2 ^ 64
HasNumber Help = ⊤

-- the words are those of this command
abbrev pub AreWordsOf : Command → List (List ℕ) → Type 0
AreWordsOf command words = (words ≡ words_of command) × HasNumber command

-- the words are a command
abbrev pub IsCommand : List (List ℕ) → Type 0
IsCommand words = (command : Command) × AreWordsOf command words

-- the words are a command that reads a bundle
abbrev pub ReadsBundle : List (List ℕ) → Type 0
ReadsBundle words = (command : BundleCommand) × AreWordsOf (OfBundle command) words

-- ---- the refusal

-- the line where the words are no command
abbrev pub usage_line : List ℕ
usage_line = codes "usage: skybridge --help\n"
