-- Reading fields from left to right, each checked as it is read, with the first refusal and its offset.
use Rattle.std.specs.Prelude.{◌≡◌, ◌≢◌, ℕ, zero, suc, ◌-◌, Bool, ◌&&◌, nat_lt, nat_le, if◌then◌else◌, List, [], ◌∷◌, length, take, drop, Result, Ok, Err}
use Rattle.byteorder.specs.Endian.{little_number}
use Rattle.sb_memory.specs.Outcome.{and_then}
use Rattle.sb_bundle.specs.declared.refusal.BundleRefusal.{BundleRefusal}
use Rattle.sb_bundle.specs.declared.refusal.BundleRefusal.TheVariants.{Short, Memory}
use Rattle.sb_bundle.specs.declared.limits.Limits.{Limits}

-- what is left of an input of so many bytes
pub record Input : Type 0 where
  pub total : ℕ
  pub rest : List ℕ

-- where the next field begins
abbrev pub offset : Input → ℕ
offset input = input.total - length input.rest

-- a field takes its bytes from the front of the input and gives its value, or refuses
abbrev pub Field : Type 0 → Type 0
Field A = Input → Result (A × Input) BundleRefusal

-- a field, and what stands behind it
infixl 10 ◌>>=◌
abbrev pub ◌>>=◌ : {A B : Type 0} → Field A → (A → Field B) → Field B
(field >>= next) input = and_then (field input) (λ read. next read.0 read.1)

-- takes no bytes
abbrev pub give : {A : Type 0} → A → Field A
give value input = Ok (value, input)

-- so many bytes: where the input does not hold them whole, it is short at their offset
unfoldable pub bytes_field : ℕ → Field (List ℕ)
bytes_field size input =
    if nat_lt (length input.rest) size then Err (Short (offset input))
    else Ok (take size input.rest, record { total = input.total; rest = drop size input.rest })

-- a number of so many bytes, the lowest first
unfoldable pub number : ℕ → Field ℕ
number size = do
  bytes ← bytes_field size
  give (little_number size bytes)

-- a field that is whole and fails the test is refused at its offset
abbrev pub judged_field : {A : Type 0} → (ℕ → BundleRefusal) → (A → Bool) → Field A → Field A
judged_field refusal is_good field input =
    and_then (field input) (λ read. if is_good read.0 then Ok read else Err (refusal (offset input)))

-- neither less than the least nor more than the most
abbrev pub is_within : Limits → ℕ → Bool
is_within limits n = nat_le limits.least n && nat_le n limits.most

-- so many fields of one kind
unfoldable pub many : {A : Type 0} → ℕ → Field A → Field (List A)
many zero field = give []
many (suc count) field = do
  first ← field
  others ← many count field
  give (first ∷ others)

-- What a function returned, seen by view, and what it left are what reading gives, unless memory ran out.
abbrev pub GivesBy : {X Y : Type 0} → (X → Y) → Result X BundleRefusal → Input → Result (Y × Input) BundleRefusal → Type 0
GivesBy view (Ok x) left read = read ≡ Ok (view x, left)
GivesBy view (Err refusal) left read = refusal ≢ Memory → read ≡ Err refusal

-- The same for a value that is seen as it is.
abbrev pub Gives : {X : Type 0} → Result X BundleRefusal → Input → Result (X × Input) BundleRefusal → Type 0
Gives result left read = GivesBy (λ value. value) result left read

-- The same for a function that reads all.
abbrev pub Answers : {X : Type 0} → Result X BundleRefusal → Result X BundleRefusal → Type 0
Answers (Ok x) read = read ≡ Ok x
Answers (Err refusal) read = refusal ≢ Memory → read ≡ Err refusal
