use Rattle.std.proofs.Common.{◌≡◌, ◌-◌, ◌≤◌, take}
use Rattle.sb_exec.specs.Fetching.{Stands, HasShortPrefixes, fetch_of, after_fetches}
use Rattle.sb_exec.proofs.fetch.fetch_insn.Given as goal

abbrev pub invariant-loop-insn : goal.invariant-loop-insn
invariant-loop-insn g l = record {
  stands : Stands (fetch_of g.B.Bus.interface (g.B.Bus.meaning l.fn.bus)) l.rip (take l.len l.bytes);
  prefixes : HasShortPrefixes (take l.len l.bytes);
  within : l.len ≤ 13;
  same : g.B.Bus.meaning l.bus ≡ g.B.Bus.meaning l.fn.bus;
  kept : g.B.Bus.kept l.bus ≡ g.B.Bus.kept l.fn.bus;
  account : g.B.Bus.account l.bus
      ≡ after_fetches g.B.Bus.interface (g.B.Bus.meaning l.fn.bus) l.rip l.len (g.B.Bus.account l.fn.bus);
}

abbrev pub decreases-loop-insn : goal.decreases-loop-insn
decreases-loop-insn g l = 13 - l.len
