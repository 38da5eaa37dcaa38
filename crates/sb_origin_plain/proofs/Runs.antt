-- Runs on plain memory.
use Rattle.std.proofs.Common.{◌≡◌, ℕ, true, refl, length}
use Rattle.std.specs.Prelude.{Some}
use Rattle.sb_insn.specs.declared.registers.Regs.{Regs}
use Rattle.sb_state.specs.State.{State}
use Rattle.sb_state.specs.Windows.{process_shown}
use Rattle.sb_state.specs.PlainMemory.{plain}
use Rattle.sb_trace.specs.Sound.{IsSound}
use Rattle.sb_origin_run.specs.Machine.{Code, Thread, run}
use Rattle.sb_origin_run.specs.Position.{Position, is_open, original_lines}
use Rattle.sb_origin_run.specs.Text.{IsMadeOf}
use Rattle.sb_origin_run.specs.Related.{Related, AreNotStray, RunAlike}
use Rattle.sb_origin_run.specs.Registers.{AreInstructions, IsOfWords}
use Rattle.sb_origin_run.proofs.Steps.{open_at}
use Rattle.sb_origin_run.proofs.Text.{made_stands}
use Rattle.sb_origin_run.proofs.Runs.{run_alike}
use Rattle.sb_origin_run.proofs.Registers.{words_straight}
use Rattle.sb_origin_plain.specs.Memory.{scratch_words, AreBesideScratch, HoldsBeside, HaveBytes, IsOutside, same_stop}
use Rattle.sb_origin_plain.specs.Laws.{on_memory}
use Rattle.sb_origin_plain.proofs.Plain.{has_words, are_beside, sound_holds}
use Rattle.sb_origin_plain.proofs.Bytes.{keeps_bytes}

pub sound_related : (thread view process : ℕ) (state other : State) (regs : Regs) (place : ℕ → Position) → IsSound state
    → process_shown state.threads thread view ≡ Some process → AreBesideScratch state other → is_open (place regs.rip) ≡ true
    → Related (plain thread view) (HoldsBeside thread view) place (on_memory regs state) (on_memory regs other)
sound_related thread view process state other regs place sound shows beside open_there = record {
  words = scratch_words state thread view;
  holds = sound_holds thread view process state other sound shows beside;
  at = open_at (plain thread view) (HoldsBeside thread view) (place regs.rip)
      (record { regs = regs; words = scratch_words state thread view }) regs open_there refl;
}

pub plain_runs : (thread view : ℕ) (target source : Code) (place : ℕ → Position) → IsMadeOf target source place
    → AreInstructions target → (count : ℕ) (left right : Thread State (Unit {0}))
    → Related (plain thread view) (HoldsBeside thread view) place left right → IsOfWords HaveBytes left
    → AreNotStray (plain thread view) (HoldsBeside thread view) IsOutside target source place count left
    → RunAlike (plain thread view) (HoldsBeside thread view) same_stop place (run (plain thread view) target count left)
    (run (plain thread view) source
    (length (original_lines place same_stop (run (plain thread view) target count left).lines)) right)
plain_runs thread view target source place made instructions count left right related of stays =
    run_alike (plain thread view) (plain thread view) (HoldsBeside thread view) IsOutside same_stop target source place
    (are_beside thread view)
    (made_stands (plain thread view) (HoldsBeside thread view) target source place (has_words thread view) made) count left right
    related
    (words_straight (plain thread view) (HoldsBeside thread view) IsOutside HaveBytes target source place
    (keeps_bytes thread view) instructions count left of stays)
