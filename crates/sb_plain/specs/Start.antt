-- The parts of a process that have bytes at the start, and what the start of a loaded bundle is made from.
use Rattle.std.specs.Prelude.{ℕ, ◌<◌, ◌≤◌, ◌^◌, length, map}
use Rattle.std.specs.List.{AllByRecursion}
use Rattle.sb_abi.specs.declared.space.TheConstants.{MAX_THREADS, MAX_PROCESSES}
use Rattle.sb_load.specs.Loading.{Load, IsLoadable}
pub use Rattle.sb_load.specs.FirstState.{image_of, images_of, images_loaded, entry_of, first_state}
use Rattle.sb_trace.specs.Laws.{IsImageSound, IsEntrySound}
use Rattle.sb_state.specs.declared.page.PageName.{PageName}
use Rattle.sb_state.specs.declared.page.PageName.TheVariants.{Text, Area, Data}
use Rattle.sb_plain.specs.declared.start.pages.ImagePart.{ImagePart}
use Rattle.sb_plain.specs.declared.start.pages.ImagePart.TheVariants as part

-- the name of a page of a part of a process
abbrev pub part_name : ImagePart → ℕ → ℕ → PageName
part_name part.Text process = Text process
part_name part.Area process = Area process
part_name part.Data process = Data process

-- what stands behind a part in its last page
abbrev pub part_filler : ImagePart → ℕ
part_filler part.Text = 0xCC
part_filler part.Area = 0xCC
part_filler part.Data = 0

-- ---- what the start is made from

-- sound images, entries in them, few of both, and key words: what a sound state starts from
pub record HasSoundStart (load : Load) : Type 0 where
  pub images : AllByRecursion IsImageSound (images_loaded load)
  pub image_count : length (images_loaded load) ≤ MAX_PROCESSES
  pub entries : AllByRecursion (IsEntrySound (length (images_loaded load))) (map entry_of load.bundle.cores)
  pub entry_count : length (map entry_of load.bundle.cores) ≤ MAX_THREADS
  pub keys : AllByRecursion (λ key. key < 2 ^ 64) load.bundle.keys

-- each bundle that may be loaded has that
abbrev pub LoadsHaveSoundStarts : Type 0
LoadsHaveSoundStarts = (load : Load) → IsLoadable load → HasSoundStart load
