use Rattle.std.proofs.Common.{◌≤◌, ◌<◌, length, sym, rules, arith}
use Rattle.sb_slots.specs.StartBits.{word_index}
use Rattle.sb_slots.proofs.StartBits.{before_text, behind_words}
use Rattle.sb_slots.proofs.starts.has_bit.Goals as goal

pub returns-then-at-lt-TEXT_ADDRESS : goal.returns-then-at-lt-TEXT_ADDRESS
returns-then-at-lt-TEXT_ADDRESS c =
    let before : c.args.at < 0x400000 = omega arith in
    sym (before_text c.args.words.now c.args.at before)

pub returns-in-None : goal.returns-in-None
returns-in-None c =
    let behind : length c.args.words.now ≤ word_index c.args.at = search rules in
    sym (behind_words c.args.words.now c.args.at behind)
