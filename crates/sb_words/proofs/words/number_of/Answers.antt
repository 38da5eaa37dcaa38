use Rattle.std.proofs.Common.{◌∙◌, sym, ap}
use Rattle.std.proofs.lemmas.Bool.{false≢true}
use Rattle.sb_words.specs.Words.{is_plain}
use Rattle.sb_words.proofs.Numbers.{plain_number, number_plain, number_read}
use Rattle.sb_words.proofs.words.number_of.Goals as goal

pub returns-in-Ok-clause-some : goal.returns-in-Ok-clause-some
returns-in-Ok-clause-some c =
    sym c.as_str.ensures.value ∙ plain_number c.as_str.result.now c.in-Ok.number c.in-Ok.ensures.value.0
    (ap is_plain (c.as_str.ensures.value ∙ sym c.as_bytes.ensures.value) ∙ sym c.is_plain.ensures ∙ c.if-is_plain.true)

pub returns-in_default-clause-none : goal.returns-in_default-clause-none
returns-in_default-clause-none c = λ number small is.
    false≢true (sym c.if-is_plain.false ∙ c.is_plain.ensures
    ∙ number_plain c.as_bytes.result.now number small (c.as_bytes.ensures.value ∙ is))

pub returns-in_default-2-clause-none : goal.returns-in_default-2-clause-none
returns-in_default-2-clause-none c = λ number small is.
    number_read _ c.as_str.result.now number c.in_default.field-0 small (c.as_str.ensures.value ∙ is) c.in_default.ensures.value.0
