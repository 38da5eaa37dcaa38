use Rattle.sb_origin_process.proofs.Fetched.{process_texts}
use Rattle.sb_origin_process.proofs.laws.process_texts.Goals as goal

pub returns : goal.returns
returns c = process_texts
