use Rattle.std.proofs.Common.{ℕ, ◌≤◌, length, subst}
use Rattle.sb_sub.specs.Kernel.{Kernel, shown_in}
use Rattle.sb_sub.proofs.Marks.{none_shown}
use Rattle.sb_sub.proofs.sub_kernel.SubKernel.mark.Goals as goal

pub returns-in-None : goal.returns-in-None
returns-in-None c =
    let kernel : Kernel = c.args.self.now in
    let here = rw c.deref.ensures.value at c.in-None.ensures.lookup.3 in
    let there = subst (λ (one : Kernel). length one.processes ≤ c.shown-process.result) c.self.view_is here in
    none_shown kernel.processes (shown_in kernel c.args.thread c.args.view) c.args.rip c.args.next c.args.scratch
    c.mark_without_text.result (subst (λ (process : ℕ). length kernel.processes ≤ process) c.shown-process.ensures there)
    c.mark_without_text.ensures
