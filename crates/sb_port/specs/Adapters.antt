-- What an adapter holds: the reader or writer that it was made of, and its count of faults; and what it answers of theirs.
use Rattle.std.specs.Prelude.{◌≡◌, ℕ, zero, suc, Result, Ok, Err, IsErr}
use Rattle.sb_port.specs.Port.{one_more}
use Rattle.sb_port.specs.declared.adapters.ReadSource.{ReadSource}
use Rattle.sb_port.specs.declared.adapters.WriteSink.{WriteSink}

-- the reader as it stands
abbrev pub reader_of : {R : Type 0} → ReadSource R → R
reader_of source = source.reader

-- how often the reader has failed
abbrev pub read_faults : {R : Type 0} → ReadSource R → ℕ
read_faults source = source.faults

-- the writer as it stands
abbrev pub writer_of : {W : Type 0} → WriteSink W → W
writer_of sink = sink.writer

-- how often the writer has failed
abbrev pub write_faults : {W : Type 0} → WriteSink W → ℕ
write_faults sink = sink.faults

-- ---- the answer of one call of the reader or writer

-- a count of bytes stands, and an error is an error
abbrev pub PassesOn : {E F : Type 0} → Result ℕ E → Result ℕ F → Type 0
PassesOn (Ok count) result = result ≡ Ok count
PassesOn (Err error) result = IsErr result

-- the same of a writer, where no byte is an error too
abbrev pub PassesOnSome : {E F : Type 0} → Result ℕ E → Result ℕ F → Type 0
PassesOnSome (Ok zero) result = IsErr result
PassesOnSome (Ok (suc count)) result = result ≡ Ok (suc count)
PassesOnSome (Err error) result = IsErr result

-- the count of faults after it
abbrev pub counted_write : {E : Type 0} → ℕ → Result ℕ E → ℕ
counted_write before (Ok zero) = one_more before
counted_write before (Ok (suc count)) = before
counted_write before (Err error) = one_more before
