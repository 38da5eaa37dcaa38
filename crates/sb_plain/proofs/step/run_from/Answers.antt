use Rattle.std.proofs.Common.{ℕ, Ok, Err, subst}
use Rattle.sb_exec.specs.Fetching.{FetchesOn}
use Rattle.sb_state.specs.State.{State}
use Rattle.sb_state.specs.PlainMemory.{plain}
use Rattle.sb_trace.specs.Flight.{vmfunc_outcome}
use Rattle.sb_trace.specs.Step.{Performs}
use Rattle.sb_plain.proofs.Scratch.{fetched, not_fetched}
use Rattle.sb_plain.proofs.step.run_from.Goals as goal

pub returns-in-Ok-clause-runs : goal.returns-in-Ok-clause-runs
returns-in-Ok-clause-runs c = (
  Ok c.in-Ok.insn,
  subst (λ (thread : ℕ). FetchesOn (plain thread c.args.view) c.args.state.now c.args.regs.now.rip tt tt (Ok c.in-Ok.insn))
      c.from.ensures c.in-Ok.ensures.fetched,
  subst (λ (state : State). Performs vmfunc_outcome state c.args.core c.args.view c.in-Ok.insn c.args.regs.now
      (c.execute_next-event.result, c.execute_next-event.new.state))
      c.in-Ok.ensures.same c.execute_next-event.ensures,
)

pub returns-in-Ok-clause-scratch : goal.returns-in-Ok-clause-scratch
returns-in-Ok-clause-scratch c =
    fetched c.args.state.now c.args.core c.args.view c.args.regs.now c.in-Ok.insn c.touches_scratch-scratch.result
    (subst (λ (thread : ℕ). FetchesOn (plain thread c.args.view) c.args.state.now c.args.regs.now.rip tt tt (Ok c.in-Ok.insn))
    c.from.ensures c.in-Ok.ensures.fetched) c.touches_scratch-scratch.ensures

pub returns-in-Err-clause-scratch : goal.returns-in-Err-clause-scratch
returns-in-Err-clause-scratch c =
    not_fetched c.args.state.now c.args.core c.args.view c.args.regs.now c.in-Err.stop c.of.result.scratch
    (subst (λ (thread : ℕ). FetchesOn (plain thread c.args.view) c.args.state.now c.args.regs.now.rip tt tt (Err c.in-Err.stop))
    c.from.ensures c.in-Err.ensures.fetched)
