-- REX prefixes with other bits (SDM volume 2, section 2.2.1).
use Rattle.std.specs.Prelude.{ℕ, ◌+◌, ◌*◌, Option, Some, None}
use Rattle.sb_insn.specs.Fields.{rex_w, rex_r, rex_x, rex_b}

-- a REX byte with the W of another
abbrev pub rex_byte : ℕ → ℕ → ℕ → ℕ → ℕ
rex_byte rex r x b = 0x40 + 8 * rex_w (Some rex) + 4 * r + 2 * x + b

-- A prefix stands where it stood, with its W; R and B are set anew, and X is clear.
abbrev pub with_r_b : Option ℕ → ℕ → ℕ → Option ℕ
with_r_b None r b = None
with_r_b (Some rex) r b = Some (rex_byte rex r 0 b)

-- X and B exchanged
abbrev pub with_x_b_exchanged : Option ℕ → Option ℕ
with_x_b_exchanged None = None
with_x_b_exchanged (Some rex) = Some (rex_byte rex (rex_r (Some rex)) (rex_b (Some rex)) (rex_x (Some rex)))
