-- Bytes that a source or a sink may tell.
use Rattle.std.specs.Prelude.{◌≡◌, ℕ, List, [], ◌++◌, Option, Some, None, take, ⊤}
use Rattle.sb_port.specs.Port.{Rose, Appended}

-- the bytes are told, and the claim holds of them
abbrev pub IsTold : Option (List ℕ) → (List ℕ → Type 0) → Type 0
IsTold None claim = ⊥
IsTold (Some bytes) claim = claim bytes

-- if the bytes are told, the claim holds of them
abbrev pub WhereTold : Option (List ℕ) → (List ℕ → Type 0) → Type 0
WhereTold None claim = ⊤
WhereTold (Some bytes) claim = claim bytes

-- the bytes were read to their end, and the claim holds of them, if they are told
abbrev pub WholeTold : Option (List ℕ) → Option (List ℕ) → (List ℕ → Type 0) → Type 0
WholeTold left left' claim = WhereTold left (λ bytes. claim bytes × (left' ≡ Some []))

-- a prefix of the text was appended
abbrev pub PartlyAppended : Option (List ℕ) → Option (List ℕ) → List ℕ → Type 0
PartlyAppended None held' text = ⊤
PartlyAppended (Some held) held' text = (count : ℕ) × (held' ≡ Some (held ++ take count text))

-- a line was written as far as the sink took it, and whole where it counted no fault
pub record WritesLine (held held' : Option (List ℕ)) (faults faults' : ℕ) (line : List ℕ) : Type 0 where
  pub part : PartlyAppended held held' line
  pub whole : ¬ Rose faults faults' → Appended held held' line
