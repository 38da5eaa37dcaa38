use Rattle.std.proofs.Common.{◌≡◌, ◌++◌, take}
use Rattle.std.specs.List.{flat_map}
use Rattle.sb_bundle.specs.Spelling.{image_bytes}
use Rattle.sb_bundle.proofs.writing.put_images.Given as goal

abbrev pub invariant-loop-image : goal.invariant-loop-image
invariant-loop-image l = l.out.items ≡ l.initial.out.items ++ flat_map image_bytes (take l.image-index l.images)
