-- The source and the sink in memory, as contracts see them.
use Rattle.std.specs.Prelude.{◌≡◌, ℕ, ◌-◌, List, length, min}

-- the bytes left, the most that a call gives, the numbers of the calls that fail, and the calls and faults so far
pub record SourceInMemory : Type 0 where
  pub left : List ℕ
  pub per_call : ℕ
  pub fails : List ℕ
  pub calls : ℕ
  pub faults : ℕ

-- how many bytes a call that asks for `wanted` is given
abbrev pub given_count : SourceInMemory → ℕ → ℕ
given_count source wanted = min (min wanted source.per_call) (length source.left)

-- the bytes held and the most that there is room for, the most that a call takes, the numbers of the calls that fail, and the
-- calls and faults so far
pub record SinkInMemory : Type 0 where
  pub held : List ℕ
  pub capacity : ℕ
  pub per_call : ℕ
  pub fails : List ℕ
  pub calls : ℕ
  pub faults : ℕ

-- there is no room for a further byte
abbrev pub IsFull : SinkInMemory → Type 0
IsFull sink = length sink.held ≡ sink.capacity

-- how many bytes of `offered` a call takes
abbrev pub taken_count : SinkInMemory → ℕ → ℕ
taken_count sink offered = min (min offered sink.per_call) (sink.capacity - length sink.held)
