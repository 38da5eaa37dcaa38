use Rattle.std.proofs.Common.{◌≡◌, ◌∙◌, ap, rules, map}
use Rattle.sb_bundle.specs.declared.bundle.Bundle.{Bundle}
use Rattle.sb_bundle.specs.declared.bundle.Image.{Image}
use Rattle.sb_rewrite.specs.RewrittenText.{RewrittenText}
use Rattle.sb_load.specs.Loading.{Load}
use Rattle.sb_plain.proofs.Starting.{IsReadAt, process_pushed}
use Rattle.sb_sub.specs.Kernel.{process_of}
use Rattle.sb_sub.proofs.StartImages.{mapped_snoc}
use Rattle.sb_sub.proofs.start.bare_processes.Goals as goal

pub loop-number-preserved : goal.loop-number-preserved
loop-number-preserved c =
    let load : Load = c.args.loaded.now in
    let image : Image = c.image-item.result in
    let becomes : RewrittenText = c.rewritten-made.result.now in
    let images : c.items-image-items.result.now ≡ load.bundle.images =
    c.items-image-items.ensures ∙ ap (λ (bundle : Bundle). bundle.images) c.bundle.ensures.same in
    let read : IsReadAt load c.loop-number.number image becomes =
    record {
      loadable = c.bundle.ensures.loadable;
      below = rw images at c.loop-number-test.true;
      of_bundle = rw images at c.image-item.is;
      of_text = c.rewritten-made.ensures.same;
    } in
    record {
      whole = process_pushed load c.loop-number.number image becomes _ _ _ _ read c.in_ok-bare_process.ensures
          (ap (map process_of) c.in_ok-push.ensures.items ∙ mapped_snoc _ _) c.loop-number.invariant.whole;
      count = search rules;
    }
