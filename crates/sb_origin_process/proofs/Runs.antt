-- A run of a rewritten process.
use Rattle.std.proofs.Common.{◌≡◌, sym, ℕ, ◌^◌, Bool, true, false, Option, Some, None}
use Rattle.std.specs.Prelude.{nat_lt, if◌then◌else◌}
use Rattle.sb_insn.specs.declared.insn.Insn.{Insn}
use Rattle.sb_insn.specs.declared.registers.Regs.{Regs}
use Rattle.sb_exec.specs.Fetching.{fetch_of}
use Rattle.sb_exec.specs.Row.{Row}
use Rattle.sb_exec.specs.Rows.{row_of}
use Rattle.sb_rewrite.specs.Placing.{places}
use Rattle.sb_rewrite.specs.RewrittenText.{rewritten_text}
use Rattle.sb_state.specs.PlainMemory.{plain}
use Rattle.sb_origin_run.specs.Registers.{AreInstructions}
use Rattle.sb_origin_plain.proofs.Bytes.{sound_bytes}
use Rattle.sb_origin_plain.proofs.Runs.{sound_related, plain_runs}
use Rattle.sb_origin_plain.specs.Laws.{on_memory}
use Rattle.sb_origin_text.specs.Fetched.{fetched_insn, row_at, target_row}
use Rattle.sb_origin_text.specs.Positions.{position}
use Rattle.sb_origin_text.proofs.Made.{text_is_made}
use Rattle.sb_origin_text.proofs.Codes.{texts_give_codes}
use Rattle.sb_origin_process.specs.Process.{target_of, source_of, ProcessRuns}
use Rattle.sb_origin_process.proofs.Fetched.{process_texts}

row_found : (address : ℕ) (found : Option Insn) (row : Regs → Row) → row_at target_row address found ≡ Some row
    → (insn : Insn) × (row ≡ (λ regs. row_of insn regs))
row_found address None row is = absurd cc
row_found address (Some insn) row is =
    let same : target_row address insn ≡ row = cc in (insn, sym same)

row_by : (test : Bool) (address : ℕ) (found : Option Insn) (row : Regs → Row)
    → (if test then row_at target_row address found else None) ≡ Some row → (insn : Insn) × (row ≡ (λ regs. row_of insn regs))
row_by true address found row is = row_found address found row is
row_by false address found row is = absurd cc

-- rewritten code has instructions
target_instructions : (thread view : ℕ) (state : _) → AreInstructions (target_of thread view state)
target_instructions thread view state address row is =
    row_by (nat_lt address (2 ^ 64)) address (fetched_insn (fetch_of (plain thread view) state) address) row is

pub process_runs : ProcessRuns
process_runs thread view process text insns state other regs count sound shows beside listed is bytes other_bytes words open_there
    stays =
    let made = rewritten_text (places text insns) in
    let target = target_of thread view state in
    let source = source_of text thread view other in
    let codes = texts_give_codes text made (fetch_of (plain thread view) state) (fetch_of (plain thread view) other)
    (process_texts thread view process text made state other shows beside is bytes other_bytes) in
    plain_runs thread view target source (position text insns) (text_is_made text insns target source listed codes)
    (target_instructions thread view state) count (on_memory regs state) (on_memory regs other)
    (sound_related thread view process state other regs (position text insns) sound shows beside open_there)
    (record { regs = words; bytes = sound_bytes state sound }) stays
