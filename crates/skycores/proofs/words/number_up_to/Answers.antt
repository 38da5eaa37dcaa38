use Rattle.std.proofs.Common.{rules, string_bytes}
use Rattle.skycores.proofs.Numbers.{not_up_to}
use Rattle.skycores.proofs.words.number_up_to.Goals as goal

pub returns-then-not-is_up_to-clause-none : goal.returns-then-not-is_up_to-clause-none
returns-then-not-is_up_to-clause-none c = λ number within is.
    not_up_to c.args.most c.in_ok-number.number (string_bytes c.args.word.now) (search rules) (search rules)
    c.in_ok-number.ensures.some (λ up. let yes = c.is_up_to.ensures.1 up in search rules) number within is
