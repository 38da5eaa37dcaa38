use Rattle.std.proofs.Common.{arith}
use Rattle.sb_insn.proofs.Tables.{one_byte_at}
use Rattle.sb_insn.proofs.opcodes.one_byte.Goals as goal

pub returns : goal.returns
returns c = one_byte_at _ _ (omega arith)
