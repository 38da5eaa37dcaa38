use Rattle.std.proofs.Common.{◌≡◌, ◌∙◌, sym, ap, subst, ℕ, suc, ◌+◌, ◌-◌, ◌<◌, ◌≤◌, arith, rules}
use Rattle.sb_memory.specs.Physical.{frame_count}
use Rattle.sb_mapping.proofs.StartTables.{index_frame, one_exposed, exposes_more, exposes_none}
use Rattle.sb_mapping.proofs.tables.expose_tables.Goals as goal

pub expose-requires-clause-from : goal.expose-requires-clause-from
expose-requires-clause-from c =
    let below = c.loop-table-test.true in
    subst (λ (n : ℕ). 512 ≤ n) (sym (index_frame c.args.set.now c.loop-table.table c.requires.eleven (omega (arith, below))))
    (c.requires.above (suc c.loop-table.table) (omega arith) (omega (arith, below)))

pub expose-requires-clause-inside : goal.expose-requires-clause-inside
expose-requires-clause-inside c =
    let below = c.loop-table-test.true in
    let size = c.loop-table.invariant.size in
    let inside = c.requires.inside (suc c.loop-table.table) (omega (arith, below)) in
    subst (λ (n : ℕ). n < frame_count c.loop-table.memory)
    (sym (index_frame c.args.set.now c.loop-table.table c.requires.eleven (omega (arith, below))))
    (omega (arith, inside, size))

pub loop-table-preserved : goal.loop-table-preserved
loop-table-preserved c =
    let below = c.loop-table-test.true in
    let one = one_exposed c.args.root.now c.loop-table.root c.expose.new.self c.args.set.now c.loop-table.table
    c.loop-table.memory c.expose.new.memory c.loop-table.invariant.root c.expose.ensures.root c.requires.eleven
    (omega (arith, below)) c.expose.ensures.entry c.expose.ensures.stands c.expose.ensures.exposes in
    record {
      root = c.expose.ensures.root ∙ c.loop-table.invariant.root;
      stands = c.expose.ensures.stands;
      size = ap frame_count c.expose.ensures.entry ∙ c.loop-table.invariant.size;
      exposed = λ new rest. c.loop-table.invariant.exposed new
          (exposes_more c.args.root.now c.args.set.now (1 + c.loop-table.table) (11 - c.loop-table.table)
          (1 + (c.loop-table.table + 1)) (11 - (c.loop-table.table + 1)) c.loop-table.memory c.expose.new.memory new
          (omega (arith, below)) (omega arith) one rest);
      booked = λ book before. c.expose.ensures.booked book (c.loop-table.invariant.booked book before);
    }

pub returns-clause-exposed : goal.returns-clause-exposed
returns-clause-exposed c =
    let none : 11 - c.loop-table.table ≡ 0 = search rules in
    c.loop-table.invariant.exposed c.loop-table.memory
    (exposes_none c.args.root.now c.args.set.now (1 + c.loop-table.table) (11 - c.loop-table.table) c.loop-table.memory none)
