use Rattle.std.proofs.Common.{sym, subst}
use Rattle.sb_sub.specs.Kernel.{Kernel}
use Rattle.sb_sub.specs.StandsFor.{StandsFor}
use Rattle.sb_sub.proofs.sub_kernel.SubKernel.make_binding.Goals as goal

pub add_server_view-index-requires-clause-stands : goal.add_server_view-index-requires-clause-stands
add_server_view-index-requires-clause-stands c = (
  c.args.self.now.keys,
  c.requires.stands.0,
  subst (λ (now : Kernel). StandsFor (record now { keys = c.args.self.now.keys }) c.args.root.now c.args.book.now
      c.args.memory.now c.requires.stands.0) (sym c.draw_key-key.ensures.left) c.requires.stands.1,
)
