use Rattle.std.proofs.Common.{arith}
use Rattle.sb_insn.proofs.Tables.{two_byte_at}
use Rattle.sb_insn.proofs.opcodes.two_byte.Goals as goal

pub returns : goal.returns
returns c = two_byte_at _ _ (omega arith)
