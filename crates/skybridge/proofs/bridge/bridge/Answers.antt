use Rattle.std.proofs.Common.{subst}
use Rattle.sb_words.specs.Words.{word_texts}
use Rattle.skybridge.specs.Words.{AreWordsOf}
use Rattle.skybridge.specs.declared.words.Command.{Command}
use Rattle.skybridge.specs.declared.words.Command.TheVariants.{OfBundle, Generate}
use Rattle.skybridge.proofs.Keeping.{left_by_words}
use Rattle.skybridge.proofs.Lawful.{summary_lawfully}
use Rattle.skybridge.proofs.bridge.bridge.Goals as goal

pub returns-in-None-clause-taken : goal.returns-in-None-clause-taken
returns-in-None-clause-taken g c (command, are) = absurd (c.in-None.ensures.none (OfBundle command, are))

pub returns-in-None-clause-long : goal.returns-in-None-clause-long
returns-in-None-clause-long g c (command, are) told quiet = absurd (c.in-None.ensures.none (OfBundle command, are))

pub returns-in-None-clause-no_bundle : goal.returns-in-None-clause-no_bundle
returns-in-None-clause-no_bundle g c (command, are) told quiet = absurd (c.in-None.ensures.none (OfBundle command, are))

pub returns-in-None-clause-not_loadable : goal.returns-in-None-clause-not_loadable
returns-in-None-clause-not_loadable g c (command, are) told quiet = absurd (c.in-None.ensures.none (OfBundle command, are))

pub returns-in-None-clause-complete : goal.returns-in-None-clause-complete
returns-in-None-clause-complete g c (command, are) told quiet silent = absurd (c.in-None.ensures.none (OfBundle command, are))

pub returns-in-Some-OfBundle-clause-left : goal.returns-in-Some-OfBundle-clause-left
returns-in-Some-OfBundle-clause-left g c =
    left_by_words (word_texts c.args.words.now.items) (OfBundle c.in-Some-OfBundle.command) _ _ _
    (subst (λ (one : Command). AreWordsOf one (word_texts c.args.words.now.items)) c.in-Some-OfBundle.field-0-is
    c.in-Some-OfBundle.ensures.some)
    c.run_on_bundle.ensures.left

pub returns-in-Some-Generate-clause-lawful : goal.returns-in-Some-Generate-clause-lawful
returns-in-Some-Generate-clause-lawful g c done = (
  Generate c.in-Some-Generate.number,
  subst (λ (one : Command). AreWordsOf one (word_texts c.args.words.now.items)) c.in-Some-Generate.field-0-is
      c.in-Some-Generate.ensures.some,
  summary_lawfully c.in-Some-Generate.number c.summarize.result _ _ _ _ c.summarize.ensures.written done,
)
