use Rattle.std.proofs.Common.{rules}
use Rattle.sb_exec.specs.Fetching.{FetchesOn}
use Rattle.sb_state.specs.PlainMemory.{plain}
use Rattle.sb_trace.proofs.Faults.{fetch_faults}
use Rattle.sb_plain.proofs.instruction.fetch_next.Goals as goal

pub returns-clause-fault : goal.returns-clause-fault
returns-clause-fault c =
    let fetched : FetchesOn (plain c.args.thread c.args.view) c.args.state.now c.args.rip tt tt c.fetch_insn.result =
    search rules in
    fetch_faults c.args.thread c.args.view c.args.state.now c.args.rip c.fetch_insn.result fetched
