use Rattle.std.proofs.Common.{ap, rules, ◌∙◌}
use Rattle.sb_memory.specs.Physical.{Physical}
use Rattle.sb_memory.specs.Reading.{write_answer}
use Rattle.sb_nested.specs.View.{view, word_answer}
use Rattle.sb_copy_bus.proofs.Stores.{word_told}
use Rattle.sb_copy_bus.proofs.store_word.store_word.Goals as goal

pub returns-in-Ok-clause-answer : goal.returns-in-Ok-clause-answer
returns-in-Ok-clause-answer c =
    ap word_answer c.in-Ok.ensures.answer
    ∙ ap (λ (memory : Physical). word_answer (write_answer memory c.in-Some.place.0)) c.place.ensures.same
    ∙ word_told (view c.args.part.now.memory c.args.eptp c.args.cr3) c.args.at.0 c.in-Some.place c.requires.aligned (search rules)
    c.in-Some.ensures.found

pub returns-in-Err-clause-answer : goal.returns-in-Err-clause-answer
returns-in-Err-clause-answer c =
    ap word_answer c.in-Err.ensures.answer
    ∙ ap (λ (memory : Physical). word_answer (write_answer memory c.in-Some.place.0)) c.place.ensures.same
    ∙ word_told (view c.args.part.now.memory c.args.eptp c.args.cr3) c.args.at.0 c.in-Some.place c.requires.aligned (search rules)
    c.in-Some.ensures.found
