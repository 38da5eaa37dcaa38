-- What a call that appends a text has done, by its answer, where so many bytes were written before it.
use Rattle.std.specs.Prelude.{◌≡◌, ℕ, ◌+◌, ◌<◌, List, [], Option, Result, IfOk, IfErr, cond, flat_map, length, take}
use Rattle.std.specs.List.{range_with_len}
use Rattle.sb_memory.specs.Physical.{Physical}
use Rattle.sb_port.specs.Port.{Appended, HasCause}
use Rattle.sb_port.specs.declared.transfer.WriteFault.{WriteFault}
use Rattle.sb_shows.specs.Dump.{frame_text, has_nonzero_byte}

-- all of it
pub record WroteAll (held held' : Option (List ℕ)) (before : ℕ) (text : List ℕ) (written : ℕ) : Type 0 where
  pub count : written ≡ before + length text
  pub appended : Appended held held' text

-- its first bytes, and not all
pub record WroteFirst (held held' : Option (List ℕ)) (before : ℕ) (text : List ℕ) (written : ℕ) : Type 0 where
  pub first : ℕ
  pub part : first < length text
  pub count : written ≡ before + first
  pub appended : Appended held held' (take first text)

-- It answers how many bytes are written now, with all of the text, or the fault with its first bytes; and that only where the
-- faults rose.
pub record Wrote (held held' : Option (List ℕ)) (faults faults' before : ℕ) (text : List ℕ) (result : Result ℕ WriteFault)
    : Type 0 where
  pub ok : IfOk result (λ written. WroteAll held held' before text written)
  pub err : IfErr result (λ fault. WroteFirst held held' before text fault.written)
  pub cause : HasCause faults faults' result

-- a text for each number below a count, one behind another
unfoldable pub texts : (ℕ → List ℕ) → ℕ → List ℕ
texts text count = flat_map text (range_with_len 0 count)

-- the text of a frame, where it has a byte other than 0
unfoldable pub frame_part : Physical → ℕ → List ℕ
frame_part memory frame = cond (has_nonzero_byte memory frame) (frame_text memory frame) []
