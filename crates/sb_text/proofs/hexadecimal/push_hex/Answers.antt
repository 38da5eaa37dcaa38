use Rattle.std.proofs.Common.{◌-◌, drop, arith, take_all, length-drop}
use Rattle.std.proofs.lemmas.Str.{IsUtf8-from_ascii}
use Rattle.sb_text.proofs.Digits.{hex_ascii}
use Rattle.sb_text.proofs.hexadecimal.push_hex.Goals as goal

pub from_utf8_unchecked-requires : goal.from_utf8_unchecked-requires
from_utf8_unchecked-requires c =
    let w = c.write_digits-start in
    let whole = take_all (64 - w.result) (drop w.result w.new.buffer) (omega (arith, length-drop w.result w.new.buffer, w.array_long)) in
    IsUtf8-from_ascii _ (rw (whole, w.ensures.written) (hex_ascii c.args.value))
