use Rattle.std.proofs.Common.{sym, subst}
use Rattle.sb_mapping.specs.Taking.{CanTake}
use Rattle.sb_sub.specs.Kernel.{Entry}
use Rattle.sb_sub.specs.Registering.{FindsPool}
use Rattle.sb_sub.proofs.Accepting.{finds_entry_pool, can_take_entry}
use Rattle.sb_sub.proofs.Frames.{registered_frames}
use Rattle.sb_sub.proofs.sub_kernel.SubKernel.make_server.Goals as goal

pub register_pages-requires-clause-pool : goal.register_pages-requires-clause-pool
register_pages-requires-clause-pool c =
    subst (λ (entry : Entry). FindsPool c.args.memory.now entry.set c.args.root.now) (sym c.behind-self.view_is)
    (finds_entry_pool _ _ _ _ _ c.requires.stands.1 c.args.process c.process.result.now c.process.ensures)

pub register_pages-requires-clause-can : goal.register_pages-requires-clause-can
register_pages-requires-clause-can c =
    subst (λ (entry : Entry). CanTake entry.set c.args.root.now c.args.book.now c.args.memory.now) (sym c.behind-self.view_is)
    (can_take_entry _ _ _ _ _ c.requires.stands.1 c.args.process c.process.result.now c.process.ensures)

pub returns-clause-frames : goal.returns-clause-frames
returns-clause-frames c = registered_frames _ _ _ _ _ _ _ _ c.register_pages.ensures.pages
