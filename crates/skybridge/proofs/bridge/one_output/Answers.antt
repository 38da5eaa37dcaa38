use Rattle.skybridge.proofs.Determined.{one_output, one_dumped_run, one_summary}
use Rattle.skybridge.proofs.bridge.one_output.Goals as goal

pub returns-clause-of_bundle : goal.returns-clause-of_bundle
returns-clause-of_bundle c = λ command bundle text other apart first second. one_output command bundle text other apart first second

pub returns-clause-of_dump : goal.returns-clause-of_dump
returns-clause-of_dump c = λ bundle text other one two. one_dumped_run bundle text other one two

pub returns-clause-made : goal.returns-clause-made
returns-clause-made c = λ number text other first second. one_summary number text other first second
