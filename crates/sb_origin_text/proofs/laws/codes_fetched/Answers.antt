use Rattle.sb_origin_text.proofs.Fetched.{fetched_bytes, same_fetches}
use Rattle.sb_origin_text.proofs.Coded.{codes_are_fetched}
use Rattle.sb_origin_text.proofs.laws.codes_fetched.Goals as goal

pub returns-clause-bytes : goal.returns-clause-bytes
returns-clause-bytes c = fetched_bytes

pub returns-clause-beside : goal.returns-clause-beside
returns-clause-beside c = same_fetches

pub returns-clause-codes : goal.returns-clause-codes
returns-clause-codes c = codes_are_fetched
