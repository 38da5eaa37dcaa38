use Rattle.std.proofs.Common.{◌≡◌, ◌∙◌, ap}
use Rattle.sb_bundle.specs.declared.bundle.Bundle.{Bundle}
use Rattle.sb_bundle.specs.declared.bundle.Image.{Image}
use Rattle.sb_rewrite.specs.RewrittenText.{RewrittenText}
use Rattle.sb_load.specs.Loading.{Load}
use Rattle.sb_plain.proofs.Starting.{IsReadAt, image_pushed}
use Rattle.sb_plain.proofs.start.pages.push_images.Goals as goal

pub loop-process-preserved : goal.loop-process-preserved
loop-process-preserved c =
    let load : Load = c.args.loaded.now in
    let image : Image = c.image-item.result in
    let becomes : RewrittenText = c.rewritten.result.now in
    let images : c.items-image-items.result.now ≡ load.bundle.images =
    c.items-image-items.ensures ∙ ap (λ (bundle : Bundle). bundle.images) c.bundle.ensures.same in
    let read : IsReadAt load c.loop-process.process image becomes =
    record {
      loadable = c.bundle.ensures.loadable;
      below = rw images at c.loop-process-test.true;
      of_bundle = rw images at c.image-item.is;
      of_text = c.rewritten.ensures.same;
    } in
    image_pushed load c.loop-process.process image becomes _ _ _ read c.in_ok-push_process.ensures c.loop-process.invariant
