use Rattle.std.proofs.Common.{◌≡◌, ◌<◌}
use Rattle.std.specs.Prelude.{Some}
use Rattle.sb_root.specs.Root.{view_of, ListOf}
use Rattle.sb_root.proofs.AddingView.{list_found}
use Rattle.sb_root.proofs.ClearingEntry.{set_few, stands_without, booked_without, rights_without, views_without}
use Rattle.sb_root.proofs.Uses.{used_list}
use Rattle.sb_root.proofs.root_kernel.RootKernel.clear_entry.Goals as goal

pub put_view-requires-clause-inside : goal.put_view-requires-clause-inside
put_view-requires-clause-inside c =
    λ list is. (c.requires.stands.inside (ListOf c.args.thread) list.0 (used_list c.args.self.now c.args.thread list is)).1

few : (c : goal.After-put_view) → c.args.index < 16
few c = set_few c.args.self.now c.args.thread c.args.index c.requires.stands.shape c.requires.thread c.requires.set

kept : (c : goal.After-put_view) → view_of c.args.self.now c.args.thread c.args.index ≡ Some c.in-Some.view
kept c = rw (c.from.ensures, c.from-2.ensures) at c.in-Some.is

pub returns-in-Some-clause-stands : goal.returns-in-Some-clause-stands
returns-in-Some-clause-stands c =
    let list = list_found _ c.requires.list in
    let entry = c.put_view.ensures.entry list.0 list.1 in
    rw (
      c.put_view.ensures.root,
      entry,
    ) (stands_without c.args.self.now c.args.memory.now c.args.thread c.args.index list.0 c.in-Some.view
    c.requires.stands c.requires.thread (few c) list.1 (kept c))

pub returns-in-Some-clause-booked : goal.returns-in-Some-clause-booked
returns-in-Some-clause-booked c =
    let list = list_found _ c.requires.list in
    let entry = c.put_view.ensures.entry list.0 list.1 in
    rw (
      c.put_view.ensures.root,
      entry,
    ) (booked_without c.args.self.now c.args.memory.now c.args.thread c.args.index list.0 c.in-Some.view
    c.requires.stands c.requires.thread (few c) list.1 (kept c))

pub returns-in-Some-clause-views : goal.returns-in-Some-clause-views
returns-in-Some-clause-views c =
    let list = list_found _ c.requires.list in
    let entry = c.put_view.ensures.entry list.0 list.1 in
    rw entry
    (views_without c.args.self.now c.args.memory.now c.args.thread c.args.index list.0 c.in-Some.view c.requires.stands
    c.requires.thread (few c) list.1 (kept c))

pub returns-in-Some-clause-rights : goal.returns-in-Some-clause-rights
returns-in-Some-clause-rights c =
    let list = list_found _ c.requires.list in
    let entry = c.put_view.ensures.entry list.0 list.1 in
    rw entry
    (rights_without c.args.self.now c.args.memory.now c.args.thread c.args.index list.0 c.in-Some.view c.requires.stands
    c.requires.thread (few c) list.1 (kept c))
