-- Each row is an instruction of the subset.
use Rattle.std.proofs.lemmas.Bool.{ltb-true}
use Rattle.std.proofs.Math.Facts.{sfits_lit}
use Rattle.sb_insn.specs.OpcodeMap.{one_byte, two_byte}
use Rattle.sb_insn.specs.Groups.{group_operand}
use Rattle.sb_insn.specs.Fields.{modrm_opcode_permits, has_sib, modrm_disp}
use Rattle.sb_tramp.specs.Home.{home_rows}
use Rattle.sb_tramp.specs.Server.{server_rows}
use Rattle.sb_tramp.proofs.Order.{EachValid}

pub home_valid : EachValid home_rows
unfolding one_byte two_byte group_operand modrm_opcode_permits has_sib modrm_disp
home_valid = search (ltb-true, sfits_lit)

pub server_valid : EachValid server_rows
unfolding one_byte two_byte group_operand modrm_opcode_permits has_sib modrm_disp
server_valid = search (ltb-true, sfits_lit)
