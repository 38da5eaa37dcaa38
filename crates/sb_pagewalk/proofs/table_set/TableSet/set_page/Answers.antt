-- What is set is the lowest entry for the address; the rest is what that does to a walk.
use Rattle.std.proofs.Common.{◌/◌, ◌%◌, arith}
use Rattle.sb_pagewalk.specs.Windows.{region_of, page_table_of}
use Rattle.sb_pagewalk.proofs.Regions.{page_table_small}
use Rattle.sb_pagewalk.proofs.Standing.{word_place}
use Rattle.sb_pagewalk.proofs.OnePage.{maps_after, one_page_set}
use Rattle.sb_pagewalk.proofs.table_set.TableSet.set_page.Goals as goal

pub set_word-requires : goal.set_word-requires
set_word-requires c =
    word_place c.args.self.now c.args.memory.now (page_table_of (region_of c.args.at.0)) (c.args.at.0 / 4096 % 512) _
    c.page_place.ensures
    c.requires.tables.frames (page_table_small (region_of c.args.at.0)) (omega arith)

pub returns-clause-tables : goal.returns-clause-tables
returns-clause-tables c =
    (one_page_set _ _ _ _ _ _ c.set_word.ensures.written c.page_place.ensures c.set_word.ensures.size c.requires.window
    c.requires.tables (omega arith)).tables

pub returns-clause-page : goal.returns-clause-page
returns-clause-page c =
    (one_page_set _ _ _ _ _ _ c.set_word.ensures.written c.page_place.ensures c.set_word.ensures.size c.requires.window
    c.requires.tables (omega arith)).page

pub returns-clause-others : goal.returns-clause-others
returns-clause-others c =
    (one_page_set _ _ _ _ _ _ c.set_word.ensures.written c.page_place.ensures c.set_word.ensures.size c.requires.window
    c.requires.tables (omega arith)).others

pub returns-clause-maps : goal.returns-clause-maps
returns-clause-maps c =
    maps_after _ _ _ _ _ c.requires.window
    (one_page_set _ _ _ _ _ _ c.set_word.ensures.written c.page_place.ensures c.set_word.ensures.size c.requires.window
    c.requires.tables (omega arith))
