use Rattle.std.proofs.Common.{arith, refl}
use Rattle.byteorder.specs.Endian.{little_bytes}
use Rattle.sb_memory.specs.Words.{put_word}
use Rattle.sb_memory.proofs.Parts.{put_mid-sets}
use Rattle.sb_memory.proofs.bytes.put_word.Goals as goal

pub returns : goal.returns
unfolding put_word
returns c = put_mid-sets _ _ (little_bytes 8 c.args.word) _ 8 _ c.requires (omega arith) refl c.write_u64.ensures
