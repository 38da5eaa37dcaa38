use Rattle.sb_mapping.proofs.StartTables.{set_stands, set_booked, set_added}
use Rattle.sb_mapping.proofs.tables.add_tables.Goals as goal

pub expose_tables-requires-clause-stands : goal.expose_tables-requires-clause-stands
expose_tables-requires-clause-stands c =
    set_stands c.args.book.now c.take_tables-tables.new.book c.take_tables-tables.result c.args.process c.args.root.now
    c.args.memory.now c.build-set.new.memory c.map_own_pages.new.memory c.build-set.result c.build-set.ensures.set
    c.take_tables-tables.ensures.taken c.take_tables-tables.ensures.eleven c.requires.few c.requires.stands c.requires.booked
    c.build-set.ensures.same c.map_own_pages.ensures.same

pub returns-clause-booked : goal.returns-clause-booked
returns-clause-booked c =
    c.expose_tables.ensures.booked c.take_tables-tables.new.book
    (set_booked c.args.book.now c.take_tables-tables.new.book c.take_tables-tables.result c.args.root.now c.args.memory.now
    c.build-set.new.memory c.map_own_pages.new.memory c.build-set.result c.take_tables-tables.ensures.taken c.requires.stands
    c.requires.booked c.build-set.ensures.same c.map_own_pages.ensures.same)

pub returns-clause-tables : goal.returns-clause-tables
returns-clause-tables c =
    set_added c.args.book.now c.take_tables-tables.new.book c.take_tables-tables.result c.args.process c.args.root.now
    c.args.memory.now c.build-set.new.memory c.map_own_pages.new.memory c.expose_tables.new.memory c.build-set.result
    c.build-set.ensures.set c.take_tables-tables.ensures.taken c.take_tables-tables.ensures.eleven c.requires.few
    c.build-set.ensures.tables c.build-set.ensures.maps c.build-set.ensures.same c.map_own_pages.ensures.mapped
    c.expose_tables.ensures.exposed
