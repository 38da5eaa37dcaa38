use Rattle.std.proofs.Common.{ℕ, ap}
use Rattle.sb_root.specs.Root.{with_list}
use Rattle.sb_root.proofs.AddingList.{ListAdded, list_added}
use Rattle.sb_root.proofs.root_kernel.RootKernel.add_list.Goals as goal

done : (c : goal.After-way_told-1)
    → ListAdded c.args.self.now (with_list c.args.self.now c.from.result c.take_free-frame.result) c.args.book.now
    c.take_free-frame.new.self c.args.memory.now c.clear_frame.new.self c.args.thread c.take_free-frame.result
done c =
    list_added _ _ _ _ _ _ _ _ c.requires.stands c.requires.booked c.requires.thread c.requires.none
    c.take_free-frame.ensures.lowest
    (rw c.from-owner.ensures at c.take_free-frame.ensures.taken) c.take_free-frame.ensures.fewer c.clear_frame.ensures.written
    (ap (λ (thread : ℕ). with_list c.args.self.now thread c.take_free-frame.result) c.from.ensures)

pub returns-clause-added : goal.returns-clause-added
returns-clause-added c = (c.take_free-frame.result, (done c).added)

pub returns-clause-stands : goal.returns-clause-stands
returns-clause-stands c = (done c).stands

pub returns-clause-booked : goal.returns-clause-booked
returns-clause-booked c = (done c).booked

pub returns-clause-others : goal.returns-clause-others
returns-clause-others c = (done c).others
