use Rattle.std.proofs.Common.{List, ℕ, ◌++◌, subst, sym}
use Rattle.skycores.specs.Text.{IsOutputFor, dump_where}
use Rattle.skycores.proofs.Outputs.{with_dump}
use Rattle.skycores.proofs.cores.run_loaded.Goals as goal

pub returns-in-Ok-clause-done : goal.returns-in-Ok-clause-done
returns-in-Ok-clause-done g c is =
    let made = subst (λ (text : List ℕ). IsOutputFor c.args.loaded c.args.run text c.in-Ok.machine) (sym c.as_str.ensures.value)
    c.in-Ok.ensures in (
      c.as_str.result.now ++ dump_where c.args.run.dump c.in-Ok.machine,
      with_dump c.args.loaded c.args.run c.as_str.result.now c.in-Ok.machine made c.write_output.ensures.shows,
      c.write_output.ensures.done is,
    )

pub returns-in-Ok-clause-write_fault_part : goal.returns-in-Ok-clause-write_fault_part
returns-in-Ok-clause-write_fault_part g c is =
    let made = subst (λ (text : List ℕ). IsOutputFor c.args.loaded c.args.run text c.in-Ok.machine) (sym c.as_str.ensures.value)
    c.in-Ok.ensures in (
      c.as_str.result.now ++ dump_where c.args.run.dump c.in-Ok.machine,
      with_dump c.args.loaded c.args.run c.as_str.result.now c.in-Ok.machine made c.write_output.ensures.shows,
      c.write_output.ensures.write_fault_part is,
    )
