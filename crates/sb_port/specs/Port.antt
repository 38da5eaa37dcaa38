-- What sources and sinks say of their bytes, where they tell them, and of their faults.
use Rattle.std.specs.Prelude.{◌≡◌, ℕ, ◌+◌, ◌-◌, ◌^◌, ◌≤◌, ◌<◌, ◌++◌, List, [], Option, Some, None, Result, Ok, Err, OnErr, length, drop, min}

-- ---- counts

-- a count of 64 bits after one more, which stands still at its end
abbrev pub one_more : ℕ → ℕ
one_more count = min (count + 1) (2 ^ 64 - 1)

-- the count has risen, or stands at its end
abbrev pub Rose : ℕ → ℕ → Type 0
Rose before now = one_more before ≤ now

-- the count of faults never falls, and an `Err` comes only where it rose
pub record HasCause {T E : Type 0} (before now : ℕ) (result : Result T E) : Type 0 where
  pub later : before ≤ now
  pub failed : OnErr result (Rose before now)

-- the count of faults after an answer: an `Err` is one more
abbrev pub counted : {T E : Type 0} → ℕ → Result T E → ℕ
counted before (Ok value) = before
counted before (Err fault) = one_more before

-- ---- bytes that are told

-- a source that told its bytes had exactly these, and has none left
abbrev pub ReadWhole : Option (List ℕ) → Option (List ℕ) → List ℕ → Type 0
ReadWhole None now bytes = Unit {0}
ReadWhole (Some old) now bytes = (bytes ≡ old) × (now ≡ Some [])

-- a source that told its bytes had more than these many
abbrev pub HasMore : Option (List ℕ) → ℕ → Type 0
HasMore None limit = Unit {0}
HasMore (Some old) limit = limit < length old

-- a source that told its bytes has lost some first ones, and this is true of how many
abbrev pub TookFirst : Option (List ℕ) → Option (List ℕ) → (ℕ → Type 0) → Type 0
TookFirst None now claim = Unit {0}
TookFirst (Some old) now claim = (count : ℕ) × ((count ≤ length old) × (now ≡ Some (drop count old)) × claim count)

-- a sink that tells its bytes has these appended
abbrev pub Appended : Option (List ℕ) → Option (List ℕ) → List ℕ → Type 0
Appended None now bytes = Unit {0}
Appended (Some old) now bytes = now ≡ Some (old ++ bytes)
