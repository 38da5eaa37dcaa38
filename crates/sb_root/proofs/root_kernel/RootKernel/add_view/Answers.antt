use Rattle.std.proofs.Common.{◌≡◌}
use Rattle.std.specs.Prelude.{Some}
use Rattle.sb_memory.specs.declared.address.Frame.{Frame}
use Rattle.sb_root.specs.Root.{eptp_list_frame, ListOf}
use Rattle.sb_root.proofs.AddingView.{Adding, ViewAdded, list_found, part_inside, view_added}
use Rattle.sb_root.proofs.Uses.{used_list}
use Rattle.sb_root.proofs.root_kernel.RootKernel.add_view.Goals as goal

pub put-requires-clause-inside : goal.put-requires-clause-inside
put-requires-clause-inside c =
    λ part few.
    (part_inside c.args.book.now c.args.memory.now c.args.self.now c.take_view-view.result c.requires.booked
    c.take_view-view.ensures.free part few).1

pub put_view-requires-clause-inside : goal.put_view-requires-clause-inside
put_view-requires-clause-inside c = λ list is.
    let present = c.put.ensures.same.present in
    rw present (c.requires.stands.inside (ListOf c.args.thread) list.0 (used_list c.args.self.now c.args.thread list is)).1

list : (c : goal.After-put_view) → (list : Frame) × (eptp_list_frame c.args.self.now c.args.thread ≡ Some list)
list c = list_found _ c.requires.list

adding : (c : goal.After-put_view)
    → Adding c.args.self.now c.args.book.now c.args.memory.now c.put.new.memory c.args.thread c.free_index-index.result
    (list c).0 c.take_view-view.result
adding c =
    let home = c.take_view-view.ensures.home in
    let target = c.take_view-view.ensures.target in
    record {
      stands = c.requires.stands;
      booked = c.requires.booked;
      small = c.requires.thread;
      list_is = (list c).1;
      lowest = c.free_index-index.ensures;
      home = rw home c.requires.home;
      target = rw target c.requires.target;
      different = c.take_view-view.ensures.different;
      free = c.take_view-view.ensures.free;
      tables = c.put.ensures.tables;
      same = c.put.ensures.same;
    }

done : (c : goal.After-put_view)
    → ViewAdded c.args.self.now c.put_view.new.self c.args.book.now c.take_view-view.new.book c.args.memory.now
    c.put_view.new.memory c.args.thread c.args.home_root c.args.target_root c.args.words.now c.args.server
    c.free_index-index.result c.take_view-view.result
done c =
    let taken = c.take_view-view.ensures in
    view_added _ _ _ _ _ _ _ _ _ _ _ _ _ _ (list c)
    (adding c) taken.home taken.target taken.server taken.listed c.put.ensures.words c.put.ensures.record_bytes
    c.put.ensures.scratch taken.count taken.taken c.put_view.ensures.root c.put_view.ensures.entry

pub returns-clause-added : goal.returns-clause-added
returns-clause-added c = (c.take_view-view.result, (done c).added)

pub returns-clause-stands : goal.returns-clause-stands
returns-clause-stands c = (done c).stands

pub returns-clause-booked : goal.returns-clause-booked
returns-clause-booked c = (done c).booked

pub returns-clause-others : goal.returns-clause-others
returns-clause-others c = (done c).others
