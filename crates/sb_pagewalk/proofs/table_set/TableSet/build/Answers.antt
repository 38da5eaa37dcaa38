use Rattle.sb_pagewalk.proofs.Clearing.{frames_stay}
use Rattle.sb_pagewalk.proofs.Empty.{linked_is_empty}
use Rattle.sb_pagewalk.proofs.table_set.TableSet.build.Goals as goal

pub link-requires-clause-frames : goal.link-requires-clause-frames
link-requires-clause-frames c = frames_stay _ _ _ c.clear.ensures.same c.requires

pub returns-clause-tables : goal.returns-clause-tables
returns-clause-tables c =
    let frames = frames_stay _ _ _ c.link.ensures.same (frames_stay _ _ _ c.clear.ensures.same c.requires) in
    (linked_is_empty _ _ frames c.link.ensures.size c.link.ensures.linked).tables

pub returns-clause-empty : goal.returns-clause-empty
returns-clause-empty c =
    let frames = frames_stay _ _ _ c.link.ensures.same (frames_stay _ _ _ c.clear.ensures.same c.requires) in
    (linked_is_empty _ _ frames c.link.ensures.size c.link.ensures.linked).empty

pub returns-clause-maps : goal.returns-clause-maps
returns-clause-maps c =
    let frames = frames_stay _ _ _ c.link.ensures.same (frames_stay _ _ _ c.clear.ensures.same c.requires) in
    (linked_is_empty _ _ frames c.link.ensures.size c.link.ensures.linked).maps
