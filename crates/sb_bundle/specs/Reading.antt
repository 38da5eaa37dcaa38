-- The fields of a bundle, in their order.
use Rattle.std.specs.Prelude.{ℕ, nat_lt, ◌==◌, if◌then◌else◌, List, length, Result, Ok, Err}
use Rattle.byteorder.specs.Endian.{little_number}
use Rattle.sb_bundle.specs.declared.bundle.Bundle.{Bundle}
use Rattle.sb_bundle.specs.declared.bundle.Image.{Image}
use Rattle.sb_bundle.specs.declared.bundle.CoreStart.{CoreStart}
use Rattle.sb_bundle.specs.declared.header.Header.{Header}
use Rattle.sb_bundle.specs.declared.limits.Limits.{Limits}
use Rattle.sb_bundle.specs.declared.refusal.BundleRefusal.{BundleRefusal}
use Rattle.sb_bundle.specs.declared.refusal.BundleRefusal.TheVariants.{Magic, Version, Count, Range, Trailing}
use Rattle.sb_bundle.specs.Limits.{core_limits, process_limits, frame_limits, key_limits, schedule_limits, text_limits, initial_limits, heap_limits}
use Rattle.sb_bundle.specs.Spelling.{magic, version}
use Rattle.sb_memory.specs.Outcome.{and_then}
use Rattle.sb_bundle.specs.Fields.{◌>>=◌, Field, offset, give, number, bytes_field, judged_field, is_within, many}

-- a count of the header, of so many bytes
unfoldable pub count : Limits → ℕ → Field ℕ
count limits size = judged_field Count (is_within limits) (number size)

-- a length of an image, or how many pages its heap has
unfoldable pub length_field : Limits → Field ℕ
length_field limits = judged_field Range (is_within limits) (number 4)

-- the number of one of so many cores or processes
unfoldable pub index : ℕ → ℕ → Field ℕ
index bound size = judged_field Range (λ n. nat_lt n bound) (number size)

-- the first four bytes
unfoldable pub magic_field : Field ℕ
magic_field = judged_field Magic (λ n. n == little_number 4 magic) (number 4)

-- the only version that is read
unfoldable pub version_field : Field ℕ
version_field = judged_field Version (λ n. n == version) (number 2)

-- the counts, each judged before the next is read
unfoldable pub header : Field Header
header = do
  magic ← magic_field
  version ← version_field
  cores ← count core_limits 1
  processes ← count process_limits 1
  frames ← count frame_limits 4
  keys ← count key_limits 4
  schedule ← count schedule_limits 4
  give (record { cores = cores; processes = processes; frames = frames; keys = keys; schedule = schedule })

-- a process's three numbers, and then its text and its data, which are one field each
unfoldable pub image : Field Image
image = do
  text_length ← length_field text_limits
  initial_length ← length_field initial_limits
  heap_pages ← length_field heap_limits
  text ← bytes_field text_length
  initial ← bytes_field initial_length
  give (record { text = text; initial = initial; heap_pages = heap_pages })

-- where a core starts, in one of so many processes
unfoldable pub core_start : ℕ → Field CoreStart
core_start processes = do
  process ← index processes 4
  entry ← number 8
  give (record { process = process; entry = entry })

-- the header, and then the lists that it announces
unfoldable pub bundle : Field Bundle
bundle = do
  header ← header
  keys ← many header.keys (number 8)
  images ← many header.processes image
  cores ← many header.cores (core_start header.processes)
  schedule ← many header.schedule (index header.cores 1)
  give (record { frames = header.frames; keys = keys; images = images; cores = cores; schedule = schedule })

-- all of the bytes, as a bundle or the first refusal
unfoldable pub reading : List ℕ → Result Bundle BundleRefusal
reading bytes =
    and_then (bundle (record { total = length bytes; rest = bytes }))
    (λ read. if length read.1.rest == 0 then Ok read.0 else Err (Trailing (offset read.1)))
