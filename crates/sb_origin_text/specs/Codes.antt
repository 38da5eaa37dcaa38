-- Codes that have what bytes spell.
use Rattle.std.specs.Prelude.{◌≡◌, ℕ, ◌+◌, ◌≤◌, false, List, length, drop, Some, Ok}
use Rattle.sb_insn.specs.declared.insn.Insn.{Insn}
use Rattle.sb_insn.specs.declared.registers.Regs.{Regs}
use Rattle.sb_insn.specs.Grammar.{BeginsWith}
use Rattle.sb_exec.specs.Row.{Row}
use Rattle.sb_exec.specs.Rows.{row_of}
use Rattle.sb_rewrite.specs.Listing.{text_address, spelled_bytes, AllValid}
use Rattle.sb_rewrite.specs.Placing.{area_address, places}
use Rattle.sb_rewrite.specs.RewrittenText.{RewrittenText, rewritten_text}
use Rattle.sb_rewrite.specs.Rewriting.{FitsArea, Rewrites}
use Rattle.sb_original.specs.Going.{original_row}
use Rattle.sb_origin_run.specs.Machine.{Code}
use Rattle.sb_origin_run.specs.Text.{IsMadeOf}
use Rattle.sb_origin_text.specs.Positions.{is_in_text, is_in_area, position}

-- where an instruction begins the bytes that stand from an address on, the code has its row
abbrev pub HasBytes : (Insn → Regs → Row) → ℕ → List ℕ → Code → Type 0
HasBytes row_for base bytes code =
    (offset : ℕ) (insn : Insn) → BeginsWith (drop offset bytes) insn → code (base + offset) ≡ Some (λ regs. row_for insn regs)

-- The one code has the rewritten text and its area; the other has the original text, in which VMFUNC goes on. Outside of text
-- and area both have the same.
pub record AreCodes (text : List ℕ) (made : RewrittenText) (target source : Code) : Type 0 where
  pub text_bytes : HasBytes row_of text_address made.text target
  pub area_bytes : HasBytes row_of area_address made.area target
  pub original : HasBytes original_row text_address text source
  pub elsewhere : (address : ℕ) → is_in_text text address ≡ false → is_in_area address ≡ false → source address ≡ target address

-- instructions spell a text, and have places in it and in the area
pub record IsListed (text : List ℕ) (insns : List Insn) : Type 0 where
  pub size : length text ≤ 2097152
  pub valid : AllValid insns
  pub whole : text ≡ spelled_bytes insns
  pub fits : FitsArea (places text insns)

-- What the rewriter made of a text is made of the original code, by these positions.
abbrev pub TextIsMade : Type 0
TextIsMade =
    (text : List ℕ) (insns : List Insn) (target source : Code) → IsListed text insns
    → AreCodes text (rewritten_text (places text insns)) target source → IsMadeOf target source (position text insns)

-- and it has them of the instructions of which it was made
abbrev pub RewritingListed : Type 0
RewritingListed =
    (text : List ℕ) (made : RewrittenText) → length text ≤ 2097152 → Rewrites text (Ok made)
    → (insns : List Insn) × IsListed text insns × (made ≡ rewritten_text (places text insns))
