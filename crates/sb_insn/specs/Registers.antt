-- RFLAGS as a number (SDM volume 1, section 3.4.3).
use Rattle.std.specs.Prelude.{ℕ, ◌+◌, ◌*◌, Bool, true, false}
use Rattle.sb_insn.specs.declared.registers.Flags.{Flags}

abbrev pub bit : Bool → ℕ
bit true = 1
bit false = 0

-- CF is bit 0, PF bit 2, ZF bit 6, SF bit 7, OF bit 11
abbrev pub flags_image : Flags → ℕ
flags_image flags = bit flags.cf + 4 * bit flags.pf + 64 * bit flags.zf + 128 * bit flags.sf + 2048 * bit flags.of
