use Rattle.std.proofs.Common.{◌≡◌, ◌≤◌, ◌+◌, ◌∙◌, sym, ap, subst, length, map, refl, List, arith, rules}
use Rattle.std.specs.List.{AllByRecursion}
use Rattle.sb_bundle.specs.declared.bundle.Bundle.{Bundle}
use Rattle.sb_bundle.specs.declared.bundle.Image.{Image}
use Rattle.sb_rewrite.specs.RewrittenText.{RewrittenText}
use Rattle.sb_load.specs.Loading.{Load}
use Rattle.sb_load.specs.FirstState.{image_of}
use Rattle.sb_plain.proofs.Starting.{IsReadAt, images_from}
use Rattle.sb_shows.specs.StartLaws.{ImageFitsWindows}
use Rattle.sb_sub.specs.Kernel.{Entry, process_of}
use Rattle.sb_sub.specs.Start.{images_need}
use Rattle.sb_sub.proofs.StartImages.{ImagesLeft, ready, first_left, one_built, all_built, images_more, need_more, none_from, processes_same, length_same}
use Rattle.sb_sub.proofs.Started.{images_fit}
use Rattle.sb_sub.proofs.start.build_processes.Goals as goal

pub loop-number-init : goal.loop-number-init
loop-number-init c = record {
  root = refl;
  size = c.requires.count;
  same = refl;
  left = first_left c.args.loaded.now c.args.root.now c.args.book.now c.args.memory.now c.args.processes.now c.requires.begun;
  fits = images_fit c.args.loaded.now c.bundle.ensures.loadable;
  frames = refl;
  some = refl;
}

pub add_process-set-requires-clause-ready : goal.add_process-set-requires-clause-ready
add_process-set-requires-clause-ready c =
    let left = c.loop-number.invariant.left in (
      left.placement,
      left.state,
      ready c.args.loaded.now c.loop-number.number c.loop-number.root c.loop-number.book c.loop-number.memory
          c.loop-number.processes left,
    )

pub add_process-set-requires-clause-fits : goal.add_process-set-requires-clause-fits
add_process-set-requires-clause-fits c =
    let load : Load = c.args.loaded.now in
    let image : Image = c.image-item.result in
    let becomes : RewrittenText = c.rewritten-made.result.now in
    let images : c.items-image-items.result.now ≡ load.bundle.images =
    c.items-image-items.ensures ∙ ap (λ (bundle : Bundle). bundle.images) c.bundle.ensures.same in
    let read : IsReadAt load c.loop-number.number image becomes =
    record {
      loadable = c.bundle.ensures.loadable;
      below = rw images at c.loop-number-test.true;
      of_bundle = rw images at c.image-item.is;
      of_text = c.rewritten-made.ensures.same;
    } in
    (subst (AllByRecursion ImageFitsWindows) (images_more load c.loop-number.number image becomes read)
    c.loop-number.invariant.fits).0

pub add_process-set-requires-clause-some : goal.add_process-set-requires-clause-some
add_process-set-requires-clause-some c =
    let load : Load = c.args.loaded.now in
    let image : Image = c.image-item.result in
    let becomes : RewrittenText = c.rewritten-made.result.now in
    let images : c.items-image-items.result.now ≡ load.bundle.images =
    c.items-image-items.ensures ∙ ap (λ (bundle : Bundle). bundle.images) c.bundle.ensures.same in
    let read : IsReadAt load c.loop-number.number image becomes =
    record {
      loadable = c.bundle.ensures.loadable;
      below = rw images at c.loop-number-test.true;
      of_bundle = rw images at c.image-item.is;
      of_text = c.rewritten-made.ensures.same;
    } in
    let need = ap images_need (images_more load c.loop-number.number image becomes read)
    ∙ need_more (image_of image becomes) (images_from load (c.loop-number.number + 1)) in
    let some = c.loop-number.invariant.some in
    let enough = c.requires.some in
    omega (arith, need, some, enough)

pub loop-number-preserved : goal.loop-number-preserved
loop-number-preserved c =
    let load : Load = c.args.loaded.now in
    let image : Image = c.image-item.result in
    let becomes : RewrittenText = c.rewritten-made.result.now in
    let images : c.items-image-items.result.now ≡ load.bundle.images =
    c.items-image-items.ensures ∙ ap (λ (bundle : Bundle). bundle.images) c.bundle.ensures.same in
    let read : IsReadAt load c.loop-number.number image becomes =
    record {
      loadable = c.bundle.ensures.loadable;
      below = rw images at c.loop-number-test.true;
      of_bundle = rw images at c.image-item.is;
      of_text = c.rewritten-made.ensures.same;
    } in
    let left = c.loop-number.invariant.left in
    let size = c.loop-number.invariant.size in
    let under = read.below in
    let added = c.add_process-set.ensures.added left.placement left.state
    (ready load c.loop-number.number c.loop-number.root c.loop-number.book c.loop-number.memory c.loop-number.processes left) in
    let need = ap images_need (images_more load c.loop-number.number image becomes read)
    ∙ need_more (image_of image becomes) (images_from load (c.loop-number.number + 1)) in
    let some = c.loop-number.invariant.some in
    let fewer = c.add_process-set.ensures.fewer in
    record {
      root = c.add_process-set.ensures.root ∙ c.loop-number.invariant.root;
      size = ap (λ (all : List Entry). length all) c.keep_set.ensures
          ∙ (length_same c.loop-number.processes c.loop-number.number c.add_process-set.result (omega (arith, under, size))
          ∙ size);
      same = ap (map process_of) c.keep_set.ensures
          ∙ (processes_same c.loop-number.processes c.loop-number.number c.add_process-set.result (omega (arith, under, size))
          ∙ c.loop-number.invariant.same);
      left = subst (λ (all : List Entry). ImagesLeft c.args.loaded.now (c.loop-number.number + 1) c.add_process-set.new.root
          c.add_process-set.new.book c.add_process-set.new.memory all) (sym c.keep_set.ensures)
          (one_built load c.loop-number.number c.loop-number.root c.add_process-set.new.root c.loop-number.book
          c.add_process-set.new.book c.loop-number.memory c.add_process-set.new.memory c.loop-number.processes image becomes
          c.add_process-set.result read left (omega (arith, under, size)) added);
      fits = (subst (AllByRecursion ImageFitsWindows) (images_more load c.loop-number.number image becomes read)
          c.loop-number.invariant.fits).1;
      frames = c.add_process-set.ensures.frames ∙ c.loop-number.invariant.frames;
      some = omega (arith, need, some, fewer);
    }

pub returns-clause-built : goal.returns-clause-built
returns-clause-built c =
    let past : length c.args.loaded.now.bundle.images ≤ c.loop-number.number = search rules in
    let size = c.loop-number.invariant.size in
    all_built c.args.loaded.now c.loop-number.root c.loop-number.book c.loop-number.memory c.loop-number.processes
    c.loop-number.number (none_from c.args.loaded.now c.loop-number.number past) (omega (arith, size, past))
    c.loop-number.invariant.left
