-- The state that a loaded bundle starts is sound.
use Rattle.std.proofs.Common.{◌-◌, map, arith}
use Rattle.sb_state.specs.State.{State}
use Rattle.sb_trace.specs.Sound.{IsSound}
use Rattle.sb_trace.proofs.SoundRuns.{start_is_sound}
use Rattle.sb_load.specs.Loading.{Load, IsLoadable}
use Rattle.sb_load.specs.Need.{need_of, have_of}
use Rattle.sb_load.specs.FirstState.{images_loaded, entry_of, first_state}
use Rattle.sb_plain.specs.Start.{HasSoundStart}
use Rattle.sb_plain.proofs.SoundStart.{loaded_start, sound_start}

-- what is sound starts a sound state
from_start : (load : Load) → HasSoundStart load → IsSound (first_state load)
from_start load start =
    start_is_sound (images_loaded load) (map entry_of load.bundle.cores)
    (have_of load.bundle - need_of load.bundle load.rewritten) load.bundle.keys start.images start.image_count start.entries
    (omega (arith, start.entry_count)) start.keys

pub first_sound : (load : Load) → IsLoadable load → IsSound (first_state load)
first_sound load loadable = from_start load (sound_start load loadable)

-- the same of what only its type says to be loadable
pub loaded_sound : (load : Load) → ∥ IsLoadable load ∥₁ → IsSound (first_state load)
loaded_sound load loadable = from_start load (loaded_start load loadable)
