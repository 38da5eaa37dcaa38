-- The pages so far and those that are left make up the whole.
use Rattle.std.proofs.Common.{◌≡◌, ◌++◌, ◌-◌, ◌+◌}
use Rattle.sb_trace.specs.SyscallRegister.{server_stack_page}
use Rattle.sb_state.specs.Start.{pages_from}
use Rattle.sb_plain.proofs.system_call.register.add_stacks.Given as goal

abbrev pub invariant-loop-page : goal.invariant-loop-page
invariant-loop-page l = record {
  pages : l.pages.pages ++ pages_from (server_stack_page l.process) l.page (l.count - l.page)
      ≡ l.initial.pages.pages ++ pages_from (server_stack_page l.process) 0 l.count;
  room : l.pages.room + l.page ≡ l.initial.pages.room;
}
