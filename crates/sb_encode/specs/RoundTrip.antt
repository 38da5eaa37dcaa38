-- Encoding and decoding undo each other.
use Rattle.std.specs.Prelude.{◌≡◌, ℕ, List, ◌++◌, length, take, Result, Ok}
use Rattle.sb_insn.specs.declared.insn.Insn.{Insn}
use Rattle.sb_insn.specs.Spelling.{spelling}
use Rattle.sb_decode.specs.declared.fault.DecodeFault.{DecodeFault}
use Rattle.sb_decode.specs.Decode.{Decodes}

-- decoding these bytes, whatever stands behind them, has one answer: this instruction, and their length
abbrev pub DecodesBack : Insn → List ℕ → Type 0
DecodesBack insn bytes = (behind : List ℕ) (answer : Result (Insn × ℕ) DecodeFault) → Decodes (bytes ++ behind) answer
    → answer ≡ Ok (insn, length bytes)

-- what is decoded from bytes is spelled as those that were read
abbrev pub EncodesBack : Type 0
EncodesBack = (bytes : List ℕ) (insn : Insn) (len : ℕ) → Decodes bytes (Ok (insn, len)) → spelling insn ≡ take len bytes
