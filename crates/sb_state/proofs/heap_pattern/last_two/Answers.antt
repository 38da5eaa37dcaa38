use Rattle.std.proofs.Common.{◌≡◌, ◌∙◌, ◌-◌, ℕ, List, length, take, drop, min, arith}
use Rattle.std.proofs.lemmas.List.{take_all, drop_min, length-drop}
use Rattle.sb_state.proofs.heap_pattern.last_two.Goals as goal

-- what is left behind a place, which is no further than the end
behind : (place : ℕ) (bytes : List ℕ)
    → take (length bytes - min place (length bytes)) (drop (min place (length bytes)) bytes) ≡ drop place bytes
behind place bytes =
    let start = min place (length bytes) in
    let size = length-drop start bytes in
    take_all (length bytes - start) (drop start bytes) (omega arith) ∙ drop_min place bytes

pub returns-clause-bytes : goal.returns-clause-bytes
returns-clause-bytes c = rw c.min-start.ensures (behind 4094 c.args.bytes.now)
