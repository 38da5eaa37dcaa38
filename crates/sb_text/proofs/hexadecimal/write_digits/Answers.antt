use Rattle.std.proofs.Common.{false, ap, ◌∙◌, arith}
use Rattle.std.proofs.lemmas.List.{drop_all}
use Rattle.std.specs.Fmt.{digits_onto}
use Rattle.sb_text.proofs.Digits.{none_written}
use Rattle.sb_text.proofs.hexadecimal.write_digits.Goals as goal

pub loop-start-init : goal.loop-start-init
loop-start-init c = record {
  within = omega arith;
  written =
      ap (digits_onto 64 16 false c.args.value) (drop_all 64 c.args.buffer.now (omega (arith, c.told-buffer)))
      ∙ none_written c.args.value;
}
