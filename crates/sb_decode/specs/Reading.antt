-- Reading from left to right: a reader gives a field and the bytes behind it, or says why it cannot.
use Rattle.std.specs.Prelude.{◌≡◌, List, ℕ, Option, Result, Ok, Err}
use Rattle.std.specs.Borrow.{Bor}
use Rattle.sb_insn.specs.declared.opcode_map.Cell.{Cell}
use Rattle.sb_insn.specs.declared.opcode_map.ImmRule.{ImmRule}
use Rattle.sb_insn.specs.OpcodeMap.{cell_of}
use Rattle.sb_insn.specs.Fields.{rule_of}
use Rattle.sb_decode.specs.declared.lead.Lead.{Lead}
use Rattle.sb_decode.specs.declared.fault.DecodeFault.{DecodeFault}

-- What reading gives: a field and the bytes behind it.
abbrev pub Read : Type 0 → Type 0
Read Field = Result (Field × List ℕ) DecodeFault

-- a function that returned a field and a slice gave what is read
abbrev pub Gives : {Field : Type 0} → Result (Field × Bor (List ℕ)) DecodeFault → Read Field → Type 0
Gives (Ok got) read = read ≡ Ok (got.0, got.1.now)
Gives (Err fault) read = read ≡ Err fault

-- a function that returned the lead of an instruction, with what the opcode maps say of it, and a slice gave what is read
abbrev pub GivesLead : Result ((Lead × Cell) × Bor (List ℕ)) DecodeFault → Read Lead → Type 0
GivesLead (Ok got) read = (read ≡ Ok (got.0.0, got.1.now)) × (got.0.1 ≡ cell_of got.0.0.op)
GivesLead (Err fault) read = read ≡ Err fault

-- a function that returned a ModRM field behind an opcode, with the immediate that the opcode wants behind it, and a slice
-- gave what is read
abbrev pub GivesModRm : Cell → Result ((Option ℕ × ImmRule) × Bor (List ℕ)) DecodeFault → Read (Option ℕ) → Type 0
GivesModRm cell (Ok got) read = (read ≡ Ok (got.0.0, got.1.now)) × (got.0.1 ≡ rule_of cell got.0.0)
GivesModRm cell (Err fault) read = read ≡ Err fault

-- go on with what was read
infixl 10 ◌>>=◌
abbrev pub ◌>>=◌ : {First Second : Type 0} → Result First DecodeFault → (First → Result Second DecodeFault)
    → Result Second DecodeFault
(Ok got) >>= next = next got
(Err fault) >>= next = Err fault

-- one field, and behind it one that the first decides
abbrev pub field_pair : {First Second : Type 0} → (List ℕ → Read First) → (First → List ℕ → Read Second) → List ℕ
    → Read (First × Second)
field_pair read next bytes = read bytes >>= λ first. next first.0 first.1 >>= λ second. Ok ((first.0, second.0), second.1)
