use Rattle.std.proofs.Common.{◌≡◌, ◌*◌, length, take}
use Rattle.std.specs.Prelude.{flat_map}
use Rattle.sb_shows.specs.Dump.{byte_text}
use Rattle.sb_machine.proofs.dump_lines.bytes_line.Given as goal

abbrev pub invariant-loop-byte : goal.invariant-loop-byte
invariant-loop-byte l = record {
  text : l.line ≡ flat_map byte_text (take l.byte-index l.bytes);
  size : length l.line ≡ 2 * l.byte-index;
}
