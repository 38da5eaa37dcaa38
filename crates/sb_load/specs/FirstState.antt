-- The state that a loaded bundle starts.
use Rattle.std.specs.Prelude.{◌-◌, List, [], ◌∷◌, map}
use Rattle.sb_state.specs.State.{State, HasFewThreads}
use Rattle.sb_state.specs.Start.{ProcessImage, ThreadEntry, start_state}
use Rattle.sb_bundle.specs.declared.bundle.Image.{Image}
use Rattle.sb_bundle.specs.declared.bundle.CoreStart.{CoreStart}
use Rattle.sb_rewrite.specs.RewrittenText.{RewrittenText, map_of}
use Rattle.sb_load.specs.Loading.{Load, IsLoadable}
use Rattle.sb_load.specs.Need.{need_of, have_of}

-- the image of a process: what its text becomes stands in place of the text
abbrev pub image_of : Image → RewrittenText → ProcessImage
image_of image made =
    record { text = made.text; area = made.area; map = map_of made; initial = image.initial; heap_pages = image.heap_pages }

abbrev pub images_of : List Image → List RewrittenText → List ProcessImage
images_of [] rewritten = []
images_of (image ∷ images) [] = []
images_of (image ∷ images) (made ∷ others) = image_of image made ∷ images_of images others

-- the images of the processes of what was loaded
abbrev pub images_loaded : Load → List ProcessImage
images_loaded load = images_of load.bundle.images load.rewritten

-- a core runs the thread of its number
abbrev pub entry_of : CoreStart → ThreadEntry
entry_of core = record { home = core.process; address = core.entry }

-- the frames that loading does not need are free
abbrev pub first_state : Load → State
first_state load =
    start_state (images_loaded load) (map entry_of load.bundle.cores)
    (have_of load.bundle - need_of load.bundle load.rewritten) load.bundle.keys

-- ---- its threads

-- each bundle that may be loaded starts with no more threads than the page tables serve
abbrev pub StartsHaveFewThreads : Type 0
StartsHaveFewThreads = (load : Load) → IsLoadable load → HasFewThreads (first_state load)
