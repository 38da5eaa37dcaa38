use Rattle.sb_trace.proofs.LandingTexts.{reports_drop}
use Rattle.sb_trace.proofs.Texts.{one_text, texts_are_of_lawful_runs, reports_are_of_lawful_runs}
use Rattle.sb_trace.proofs.laws.runs_have_one_text.Goals as goal

pub returns-clause-one : goal.returns-clause-one
returns-clause-one c = one_text

pub returns-clause-lawful : goal.returns-clause-lawful
returns-clause-lawful c = texts_are_of_lawful_runs

pub returns-clause-dropped : goal.returns-clause-dropped
returns-clause-dropped c = reports_drop

pub returns-clause-report : goal.returns-clause-report
returns-clause-report c = reports_are_of_lawful_runs
