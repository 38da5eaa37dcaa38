use Rattle.std.proofs.Common.{◌≡◌, ◌<◌, ◌≤◌, ◌∙◌, sym, ap, subst, ℕ, length, get_or, refl, List, arith, rules}
use Rattle.sb_bundle.specs.declared.bundle.Bundle.{Bundle}
use Rattle.sb_bundle.specs.declared.bundle.CoreStart.{CoreStart}
use Rattle.sb_load.specs.Loading.{Load}
use Rattle.sb_mapping.specs.StartThreads.{IsReadyForThread}
use Rattle.sb_sub.specs.Kernel.{Entry}
use Rattle.sb_sub.proofs.StartImages.{images_count}
use Rattle.sb_sub.proofs.StartEntries.{ready, first_left, one_built, all_built, none_from, entry_read, home_there}
use Rattle.sb_sub.proofs.start.build_threads.Goals as goal

pub loop-thread-init : goal.loop-thread-init
loop-thread-init c = record {
  left = first_left c.args.loaded.now c.args.root.now c.args.book.now c.args.memory.now c.args.processes.now c.requires.built;
  none = λ thread above. c.requires.none thread;
  frames = refl;
  fewer = omega arith;
}

pub add_thread-requires-clause-ready : goal.add_thread-requires-clause-ready
add_thread-requires-clause-ready c =
    let load : Load = c.args.loaded.now in
    let left = c.loop-thread.invariant.left in
    let core : CoreStart = get_or c.items-core-items.result.now c.loop-thread.thread (record { process = 0; entry = 0 }) in
    let cores : c.items-core-items.result.now ≡ load.bundle.cores =
    c.items-core-items.ensures ∙ ap (λ (bundle : Bundle). bundle.cores) c.bundle.ensures.same in
    let below = rw cores at c.loop-thread-test.true in
    let is = ap (λ (all : List CoreStart). get_or all c.loop-thread.thread (record { process = 0; entry = 0 })) cores in
    let grammar = rw c.bundle.ensures.same at c.bundle.ensures.grammar in
    let within = subst (λ (one : CoreStart). one.process < length c.args.processes.now) (sym is)
    (subst (λ (n : ℕ). (get_or load.bundle.cores c.loop-thread.thread (record { process = 0; entry = 0 })).process < n)
    (sym c.requires.count)
    (home_there load.bundle.cores (length load.bundle.images) c.loop-thread.thread (record { process = 0; entry = 0 })
    grammar.cores below)) in
    let found = entry_read c.args.processes.now core.process c.index-processes-core.result within c.index-processes-core.is in (
      left.placement,
      left.state,
      subst (λ (entry : Entry). IsReadyForThread left.placement c.loop-thread.root c.loop-thread.book c.loop-thread.memory
          left.state c.loop-thread.thread core.process entry.set) (sym c.home.view_is)
          (ready load c.loop-thread.thread c.loop-thread.root c.loop-thread.book c.loop-thread.memory c.args.processes.now
          core.process c.index-processes-core.result left found
          (c.requires.count ∙ sym (images_count load c.bundle.ensures.loadable))),
    )

pub loop-thread-preserved : goal.loop-thread-preserved
loop-thread-preserved c =
    let load : Load = c.args.loaded.now in
    let left = c.loop-thread.invariant.left in
    let core : CoreStart = get_or c.items-core-items.result.now c.loop-thread.thread (record { process = 0; entry = 0 }) in
    let cores : c.items-core-items.result.now ≡ load.bundle.cores =
    c.items-core-items.ensures ∙ ap (λ (bundle : Bundle). bundle.cores) c.bundle.ensures.same in
    let below = rw cores at c.loop-thread-test.true in
    let is = ap (λ (all : List CoreStart). get_or all c.loop-thread.thread (record { process = 0; entry = 0 })) cores in
    let grammar = rw c.bundle.ensures.same at c.bundle.ensures.grammar in
    let within = subst (λ (one : CoreStart). one.process < length c.args.processes.now) (sym is)
    (subst (λ (n : ℕ). (get_or load.bundle.cores c.loop-thread.thread (record { process = 0; entry = 0 })).process < n)
    (sym c.requires.count)
    (home_there load.bundle.cores (length load.bundle.images) c.loop-thread.thread (record { process = 0; entry = 0 })
    grammar.cores below)) in
    let found = entry_read c.args.processes.now core.process c.index-processes-core.result within c.index-processes-core.is in
    let prepared = subst (λ (entry : Entry). IsReadyForThread left.placement c.loop-thread.root c.loop-thread.book
    c.loop-thread.memory left.state c.loop-thread.thread core.process entry.set) (sym c.home.view_is)
    (ready load c.loop-thread.thread c.loop-thread.root c.loop-thread.book c.loop-thread.memory c.args.processes.now
    core.process c.index-processes-core.result left found
    (c.requires.count ∙ sym (images_count load c.bundle.ensures.loadable))) in
    let fewer = c.add_thread.ensures.fewer in
    let before = c.loop-thread.invariant.fewer in
    record {
      left = one_built load c.loop-thread.thread c.loop-thread.root c.add_thread.new.root c.loop-thread.book
          c.add_thread.new.book c.loop-thread.memory c.add_thread.new.memory c.args.processes.now core
          (record { process = 0; entry = 0 }) below is left
          (c.add_thread.ensures.added left.placement left.state core.entry prepared);
      none = λ other above. c.add_thread.ensures.others other (λ same. absurd (omega (arith, same, above)))
          (c.loop-thread.invariant.none other (omega (arith, above)));
      frames = c.add_thread.ensures.frames ∙ c.loop-thread.invariant.frames;
      fewer = omega (arith, fewer, before);
    }

pub returns-clause-started : goal.returns-clause-started
returns-clause-started c =
    let past : length c.args.loaded.now.bundle.cores ≤ c.loop-thread.thread = search rules in
    all_built c.args.loaded.now c.loop-thread.root c.loop-thread.book c.loop-thread.memory c.args.processes.now
    c.loop-thread.thread (none_from c.args.loaded.now c.loop-thread.thread past) c.loop-thread.invariant.left
