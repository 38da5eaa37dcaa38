use Rattle.std.proofs.Common.{rules}
use Rattle.sb_encode.proofs.RoundTrip.{decodes_back}
use Rattle.sb_encode.proofs.encode.Goals as goal

pub returns-clause-back : goal.returns-clause-back
returns-clause-back c = decodes_back c.args.insn.now c.spell_into.new.sink.bytes.items c.requires (search rules)
