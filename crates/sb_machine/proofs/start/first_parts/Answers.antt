use Rattle.std.proofs.Common.{◌≡◌, ◌∙◌, sym, ap, subst, ◌<◌, List, [], length, true}
use Rattle.std.proofs.lemmas.List.{length-replicate}
use Rattle.sb_memory.specs.Physical.{Physical, frame_count}
use Rattle.sb_bundle.specs.declared.bundle.CoreStart.{CoreStart}
use Rattle.sb_load.specs.FirstState.{first_state}
use Rattle.sb_plain.proofs.FirstSound.{loaded_sound}
use Rattle.sb_machine.specs.declared.processor.Core.{Core}
use Rattle.sb_machine.specs.Start.{first_cores}
use Rattle.sb_machine.specs.Ran.{HasRun}
use Rattle.sb_machine.proofs.Begun.{has_lists, first_run}
use Rattle.sb_machine.proofs.start.first_parts.Goals as goal

pub first_cores-requires-clause-lists : goal.first_cores-requires-clause-lists
first_cores-requires-clause-lists c =
    let load = c.args.loaded.now in
    let same : c.items.result.now ≡ load.bundle.cores =
    c.items.ensures ∙ ap (λ bundle. bundle.cores) c.bundle-bundle.ensures.same in
    λ thread small.
    has_lists load c.in_ok-kernel.kernel c.new-3.new.root c.new-3.new.book c.new-3.new.memory c.in_ok-kernel.ensures.stands
    (loaded_sound load c.bundle-bundle.ensures.loadable) thread
    (subst (λ (cores : List CoreStart). thread < length cores) same small)

pub returns : goal.returns
returns c =
    let load = c.args.loaded.now in
    let starts : c.items.result.now ≡ load.bundle.cores =
    c.items.ensures ∙ ap (λ bundle. bundle.cores) c.bundle-bundle.ensures.same in
    let same : c.in_ok-cores.cores.items ≡ first_cores c.new-3.new.memory c.new-3.new.root 0 load.bundle.cores =
    c.in_ok-cores.ensures ∙ ap (first_cores c.new-3.new.memory c.new-3.new.root 0) starts in
    let frames : frame_count c.new-3.new.memory ≡ load.bundle.frames =
    c.new-3.ensures.frames
    ∙ (ap length c.new-root.ensures.same.present
    ∙ (ap (λ (memory : Physical). frame_count memory) c.in_ok-memory.ensures
    ∙ (length-replicate c.bundle-bundle.result.now.frames true ∙ ap (λ bundle. bundle.frames) c.bundle-bundle.ensures.same))) in
    subst (λ (cores : List Core). HasRun (record {
      memory = c.new-3.new.memory;
      book = c.new-3.new.book;
      root = c.new-3.new.root;
      kernel = c.in_ok-kernel.kernel;
      cores = cores;
    }) load [] [] (first_state load)) (sym same)
    (first_run load c.in_ok-kernel.kernel c.new-3.new.root c.new-3.new.book c.new-3.new.memory c.in_ok-kernel.ensures.stands
    (loaded_sound load c.bundle-bundle.ensures.loadable) frames)
