use Rattle.std.proofs.Common.{ℕ, ◌%◌, ap}
use Rattle.sb_root.proofs.NewBase.{IsBuilt, built, booked_empty}
use Rattle.sb_root.proofs.Reaches.{first_base}
use Rattle.sb_root.proofs.root_kernel.RootKernel.new.Goals as goal

finished : (c : goal.After-has_all_frames) → IsBuilt c.args.memory.now c.clear_shared.new.memory
finished c =
    built c.args.memory.now c.put_upper.new.memory c.put_page.new.memory c.clear_shared.new.memory c.base_entries.result
    c.requires.least c.requires.most
    c.put_upper.ensures.root c.put_upper.ensures.pointers c.put_upper.ensures.directory c.put_upper.ensures.same
    c.base_entries.ensures c.put_page.ensures.page c.put_page.ensures.same
    c.clear_shared.ensures.zeros c.clear_shared.ensures.size c.clear_shared.ensures.same c.has_all_frames.ensures

pub returns-clause-stands : goal.returns-clause-stands
returns-clause-stands c = (finished c).stands

pub returns-clause-booked : goal.returns-clause-booked
returns-clause-booked c = λ book size. booked_empty book c.clear_shared.new.memory size

pub returns-clause-base : goal.returns-clause-base
returns-clause-base c = first_base c.clear_shared.new.memory (finished c).whole (finished c).tables c.clear_shared.ensures.zeros

pub returns-clause-same : goal.returns-clause-same
returns-clause-same c = (finished c).same

pub returns-clause-rights : goal.returns-clause-rights
returns-clause-rights c = λ page from below. ap (λ (entry : ℕ). entry % 8) (c.clear_shared.ensures.zeros page from below)
