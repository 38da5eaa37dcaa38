use Rattle.sb_mapping.specs.StartThreads.{root_frame}
use Rattle.sb_state.specs.Start.{home_words}
use Rattle.sb_mapping.proofs.StartThreads.{view_first}
use Rattle.sb_mapping.proofs.threads.add_view.Goals as goal

pub returns-clause-added : goal.returns-clause-added
returns-clause-added c = (
  c.in-Ok.ensures.added.0,
  view_first c.args.root.now c.add_view.new.self c.args.book.now c.add_view.new.book c.args.memory.now c.add_view.new.memory
      c.args.thread c.in-Ok.field-0 (root_frame c.args.home) c.home_words-words.result (home_words c.args.thread c.args.home)
      c.in-Ok.ensures.added.0 c.requires.none c.home_words-words.ensures c.in-Ok.ensures.added.1,
)
