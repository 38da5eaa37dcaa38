-- Codes that have what bytes spell, where the bytes are of several parts.
use Rattle.std.proofs.Common.{◌≡◌, ◌∙◌, sym, ap, subst, ℕ, ◌+◌, List, ◌++◌, length, drop, Some, refl, arith}
use Rattle.std.proofs.Math.Seq.{drop-append-add}
use Rattle.sb_insn.specs.declared.insn.Insn.{Insn}
use Rattle.sb_insn.specs.declared.registers.Regs.{Regs}
use Rattle.sb_insn.specs.Spelling.{spelling}
use Rattle.sb_insn.specs.Grammar.{IsValid, BeginsWith}
use Rattle.sb_exec.specs.Row.{Row}
use Rattle.sb_origin_run.specs.Machine.{Code}
use Rattle.sb_origin_text.specs.Codes.{HasBytes}

-- the code has the instruction with which the bytes begin
pub first_code : (row_for : Insn → Regs → Row) (base : ℕ) (insn : Insn) (rest : List ℕ) (code : Code) → IsValid insn
    → HasBytes row_for base (spelling insn ++ rest) code → code base ≡ Some (λ regs. row_for insn regs)
first_code row_for base insn rest code valid has =
    let here : base + 0 ≡ base = omega arith in
    ap code (sym here) ∙ has 0 insn (valid, (rest, refl))

-- bytes behind others stand further on
pub code_behind : (row_for : Insn → Regs → Row) (base : ℕ) (first rest : List ℕ) (code : Code)
    → HasBytes row_for base (first ++ rest) code → HasBytes row_for (base + length first) rest code
code_behind row_for base first rest code has offset insn begins =
    let there : base + length first + offset ≡ base + (length first + offset) = omega arith in
    let same : drop (length first + offset) (first ++ rest) ≡ drop offset rest = drop-append-add first rest offset in
    ap code there ∙ has (length first + offset) insn (subst (λ (bytes : List ℕ). BeginsWith bytes insn) (sym same) begins)
