-- Page tables whose guest-physical addresses are physical ones.
use Rattle.std.specs.Prelude.{ℕ, ◌*◌, nat_lt, Result, Ok, Err, if◌then◌else◌}
use Rattle.sb_memory.specs.declared.page.TheConstants.{PAGE_SIZE}
use Rattle.sb_memory.specs.Physical.{Physical, frame_count}
use Rattle.sb_memory.specs.Words.{word_at}
use Rattle.sb_memory.specs.declared.address.EptStop.TheVariants.{Outside}
use Rattle.sb_walks.specs.declared.stop.TableStop.{TableStop}
use Rattle.sb_walks.specs.declared.stop.TableStop.TheVariants.{Ept}

-- the entry at a place of a memory that has all its frames
unfoldable pub direct_entry : Physical → ℕ → Result ℕ TableStop
direct_entry memory place =
    if nat_lt place (PAGE_SIZE * frame_count memory) then Ok (word_at memory.bytes place) else Err (Ept (Outside 1))

-- nothing is noted of the entries that are read
abbrev pub nothing_noted : Physical → ℕ → Unit {0} → Unit {0}
nothing_noted memory place account = account
