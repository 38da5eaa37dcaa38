-- Which bundles there are: each field within its limits.
use Rattle.std.specs.Prelude.{ℕ, ◌≤◌, ◌<◌, ◌^◌, List, length}
use Rattle.std.specs.List.{AllByRecursion}
use Rattle.sb_abi.specs.declared.space.TheConstants.{MAX_THREADS, MAX_PROCESSES, WINDOW_BYTES, WINDOW_PAGES}
use Rattle.sb_abi.specs.declared.frames.TheConstants.{MIN_FRAMES, MAX_FRAMES}
use Rattle.sb_bundle.specs.declared.limits.Limits.{Limits}
use Rattle.sb_bundle.specs.declared.bundle.Bundle.{Bundle}
use Rattle.sb_bundle.specs.declared.bundle.Image.{Image}
use Rattle.sb_bundle.specs.declared.bundle.CoreStart.{CoreStart}

-- both ends are allowed
abbrev pub from_to : ℕ → ℕ → Limits
from_to least most = record { least = least; most = most }

-- cores, each with one thread: as many as the page tables serve
abbrev pub core_limits : Limits
core_limits = from_to 1 MAX_THREADS

-- processes
abbrev pub process_limits : Limits
process_limits = from_to 1 MAX_PROCESSES

-- frames of 4,096 bytes: more than the 512 that the machine keeps, at most 32 MiB
abbrev pub frame_limits : Limits
frame_limits = from_to MIN_FRAMES MAX_FRAMES

-- key words
abbrev pub key_limits : Limits
key_limits = from_to 0 128

-- entries of the schedule: 2^20
abbrev pub schedule_limits : Limits
schedule_limits = from_to 0 1048576

-- bytes of a text: 2 MiB
abbrev pub text_limits : Limits
text_limits = from_to 1 WINDOW_BYTES

-- bytes of initial data: 2 MiB
abbrev pub initial_limits : Limits
initial_limits = from_to 0 WINDOW_BYTES

-- heap pages of 4,096 bytes: 2 MiB
abbrev pub heap_limits : Limits
heap_limits = from_to 0 WINDOW_PAGES

-- the number is within the limits
abbrev pub IsWithin : Limits → ℕ → Type 0
IsWithin limits n = (limits.least ≤ n) × (n ≤ limits.most)

-- each number of the list is below the bound
abbrev pub AllBelow : ℕ → List ℕ → Type 0
AllBelow bound numbers = AllByRecursion (λ n. n < bound) numbers

-- the image of a process that has a spelling
pub record IsImage (image : Image) : Type 0 where
  pub text : IsWithin text_limits (length image.text)
  pub text_bytes : AllBelow 256 image.text
  pub initial : IsWithin initial_limits (length image.initial)
  pub initial_bytes : AllBelow 256 image.initial
  pub heap_pages : IsWithin heap_limits image.heap_pages

-- the core's process is one of so many
pub record IsCoreStart (processes : ℕ) (core : CoreStart) : Type 0 where
  pub process : core.process < processes
  pub entry : core.entry < 2 ^ 64

-- the bundles that have a spelling
pub record IsBundle (bundle : Bundle) : Type 0 where
  pub frames : IsWithin frame_limits bundle.frames
  pub key_count : IsWithin key_limits (length bundle.keys)
  pub keys : AllBelow (2 ^ 64) bundle.keys
  pub process_count : IsWithin process_limits (length bundle.images)
  pub images : AllByRecursion IsImage bundle.images
  pub core_count : IsWithin core_limits (length bundle.cores)
  pub cores : AllByRecursion (IsCoreStart (length bundle.images)) bundle.cores
  pub schedule_length : IsWithin schedule_limits (length bundle.schedule)
  pub schedule : AllBelow (length bundle.cores) bundle.schedule
