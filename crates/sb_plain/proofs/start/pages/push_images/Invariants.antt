-- The pages so far and those of the images that are left make up the whole.
use Rattle.std.proofs.Common.{◌≡◌, ◌++◌, drop}
use Rattle.sb_state.specs.Start.{images_pages}
use Rattle.sb_plain.specs.Start.{images_of, images_loaded}
use Rattle.sb_plain.proofs.start.pages.push_images.Given as goal

abbrev pub invariant-loop-process : goal.invariant-loop-process
invariant-loop-process l =
    l.pages.pages ++ images_pages l.process
    (images_of (drop l.process l.loaded.bundle.images) (drop l.process l.loaded.rewritten))
    ≡ l.initial.pages.pages ++ images_pages 0 (images_loaded l.loaded)
