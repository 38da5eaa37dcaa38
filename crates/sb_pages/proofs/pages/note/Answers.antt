use Rattle.std.proofs.Common.{rules}
use Rattle.std.specs.HashMap.{get}
use Rattle.sb_pages.specs.Places.{equal_names}
use Rattle.sb_pages.proofs.Places.{noted_there, noted_put, on_ok}
use Rattle.sb_pages.proofs.pages.note.Goals as goal

pub returns-then-not-contains_key-clause-noted : goal.returns-then-not-contains_key-clause-noted
returns-then-not-contains_key-clause-noted c =
    noted_put (get equal_names c.args.places.now) (get equal_names c.insert.new.self) c.args.name c.args.place (search rules)
    (on_ok c.insert.result (c.insert.ensures.succeeds c.requires) c.insert.ensures.updates).0

pub returns-else-not-contains_key-clause-noted : goal.returns-else-not-contains_key-clause-noted
returns-else-not-contains_key-clause-noted c =
    noted_there (get equal_names c.args.places.now) c.args.name c.args.place (search rules)
