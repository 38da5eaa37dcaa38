use Rattle.std.proofs.Common.{◌<◌, ap, arith, rules}
use Rattle.sb_trace.specs.SyscallRegister.{server_stack_page}
use Rattle.sb_state.specs.Store.{Store}
use Rattle.sb_plain.proofs.Starting.{pages_more}
use Rattle.sb_plain.proofs.system_call.register.add_stacks.Goals as goal

pub loop-page-preserved : goal.loop-page-preserved
loop-page-preserved c =
    let below : c.loop-page.page < c.args.count = search rules in
    let room = ap (λ (store : Store). store.room) c.add_stack_page.ensures in record {
      pages =
          pages_more (server_stack_page c.args.process) c.loop-page.page c.args.count c.loop-page.pages.pages _ _ below
          (ap (λ (store : Store). store.pages) c.add_stack_page.ensures) c.loop-page.invariant.pages;
      room = omega (arith, c.loop-page.invariant.room);
    }
