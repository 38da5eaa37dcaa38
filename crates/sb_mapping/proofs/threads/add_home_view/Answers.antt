use Rattle.std.proofs.Common.{refl}
use Rattle.sb_mapping.specs.StartThreads.{root_frame}
use Rattle.sb_mapping.proofs.StartThreads.{home_view_added, others_stay, list_there, no_view_listed}
use Rattle.sb_mapping.proofs.threads.add_home_view.Goals as goal

pub add_view-requires-clause-list : goal.add_view-requires-clause-list
add_view-requires-clause-list c =
    list_there c.args.root.now c.add_list.new.root _ _ _ _ c.args.thread c.add_list.ensures.added.0 c.add_list.ensures.added.1
    c.requires.stands c.requires.thread

pub add_view-requires-clause-none : goal.add_view-requires-clause-none
add_view-requires-clause-none c =
    no_view_listed c.args.root.now c.add_list.new.root _ _ _ _ c.args.thread c.add_list.ensures.added.0
    c.add_list.ensures.added.1 c.requires.none

pub returns-clause-added : goal.returns-clause-added
returns-clause-added c =
    home_view_added c.args.root.now c.add_list.new.root c.add_view.new.root c.args.book.now c.add_list.new.book
    c.add_view.new.book c.args.memory.now c.add_list.new.memory c.add_view.new.memory c.args.thread c.args.home
    c.add_list.ensures.added.0 c.add_list.ensures.added.1 c.requires.stands c.add_list.ensures.stands c.requires.thread
    (root_frame c.args.home) refl c.add_view.ensures.added.0 c.add_view.ensures.added.1 c.add_view.ensures.stands
    c.add_view.ensures.others

pub returns-clause-others : goal.returns-clause-others
returns-clause-others c =
    others_stay c.args.root.now c.add_list.new.root c.add_view.new.root c.args.book.now c.add_list.new.book
    c.add_view.new.book c.args.memory.now c.add_list.new.memory c.add_view.new.memory c.args.thread c.args.home
    c.add_list.ensures.added.0 c.add_list.ensures.added.1 c.requires.stands c.add_list.ensures.stands c.requires.thread
    (root_frame c.args.home) refl c.add_view.ensures.added.0 c.add_view.ensures.added.1 c.add_view.ensures.stands
    c.add_view.ensures.others
