use Rattle.std.proofs.Common.{◌≡◌, ◌∙◌, ap, length, drop, map, arith, rules}
use Rattle.sb_load.proofs.Known.{takes_no_more}
use Rattle.sb_sub.specs.Kernel.{Kernel, process_of}
use Rattle.sb_sub.proofs.Begun.{begun, no_views}
use Rattle.sb_sub.proofs.Started.{images_take, started_stands, take_whole}
use Rattle.sb_sub.proofs.sub_kernel.SubKernel.new.Goals as goal

pub build_processes-requires-clause-begun : goal.build_processes-requires-clause-begun
build_processes-requires-clause-begun c =
    begun c.args.root.now c.args.book.now c.args.memory.now c.put_trampolines.new.memory c.args.loaded.now c.requires.root
    c.requires.stands c.requires.booked c.put_trampolines.ensures.same c.put_trampolines.ensures.home
    c.put_trampolines.ensures.server

pub build_processes-requires-clause-some : goal.build_processes-requires-clause-some
build_processes-requires-clause-some c =
    let loadable = c.bare_kernel.ensures.loadable in
    let take = images_take c.args.loaded.now loadable in
    let enough = takes_no_more c.args.loaded.now loadable in
    let free = c.requires.free in
    omega (arith, take, enough, free)

pub build_threads-requires-clause-none : goal.build_threads-requires-clause-none
build_threads-requires-clause-none c =
    no_views c.build_processes.new.root (c.build_processes.ensures.root ∙ c.requires.root)

pub build_threads-requires-clause-some : goal.build_threads-requires-clause-some
build_threads-requires-clause-some c =
    let loadable = c.bare_kernel.ensures.loadable in
    let take = images_take c.args.loaded.now loadable in
    let enough = takes_no_more c.args.loaded.now loadable in
    let free = c.requires.free in
    let fewer = c.build_processes.ensures.fewer in
    omega (arith, take, enough, free, fewer)

pub returns-clause-taken : goal.returns-clause-taken
returns-clause-taken c =
    let loadable = c.bare_kernel.ensures.loadable in
    let take = images_take c.args.loaded.now loadable in
    let free = c.requires.free in
    let fewer = c.build_processes.ensures.fewer in
    let rest = c.build_threads.ensures.fewer in
    omega (arith, take, free, fewer, rest)

pub returns-clause-stands : goal.returns-clause-stands
returns-clause-stands c =
    let loadable = c.bare_kernel.ensures.loadable in
    let take = images_take c.args.loaded.now loadable in
    let free = c.requires.free in
    let fewer = c.build_processes.ensures.fewer in
    let rest = c.build_threads.ensures.fewer in
    let size : c.kernel.inside.processes.len ≡ length c.build_processes.new.processes = search rules in
    let same = take_whole c.build_processes.new.processes
    (drop (length c.build_processes.new.processes) c.kernel.inside.processes.items) c.kernel.inside.processes.len size in
    started_stands _ c.build_threads.new.root c.build_threads.new.book c.build_threads.new.memory c.args.loaded.now loadable
    (rw c.deref.ensures.value at c.build_threads.ensures.started)
    (ap (map process_of) same ∙ c.build_processes.ensures.processes ∙ (ap (map process_of) c.deref_mut.ensures.value
    ∙ (ap (λ (kernel : Kernel). map process_of kernel.processes) c.kernel.view_is ∙ c.in_ok-kernel.ensures.processes)))
    (ap (λ (kernel : Kernel). kernel.seats) c.kernel.view_is ∙ c.in_ok-kernel.ensures.seats)
    (ap (λ (kernel : Kernel). kernel.keys) c.kernel.view_is ∙ c.in_ok-kernel.ensures.keys)
    (omega (arith, take, free, fewer, rest))
