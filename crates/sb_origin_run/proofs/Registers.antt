-- Registers of 64 bits over a run.
use Rattle.std.proofs.Common.{◌≡◌, ◌⊎◌, inl, inr, sym, subst, ℕ, zero, suc, List, [], ◌∷◌, Option, Some, None, refl}
use Rattle.std.specs.List.{AllByRecursion}
use Rattle.std.proofs.lemmas.Bool.{cases_eq}
use Rattle.sb_origin_run.specs.Many.{with_at, Threads, thread_of, with_thread, threads_step, AreOfWords, ThreadsStraight, ThreadsNotStray}
use Rattle.sb_origin_run.proofs.Many.{at_same, at_other}
use Rattle.sb_insn.specs.declared.insn.Insn.{Insn}
use Rattle.sb_insn.specs.declared.registers.Regs.{Regs}
use Rattle.sb_exec.specs.Interface.{Interface}
use Rattle.sb_exec.specs.Row.{Row}
use Rattle.sb_exec.specs.Rows.{row_of}
use Rattle.sb_exec.specs.Words.{AreWords}
use Rattle.sb_exec.proofs.Simulation.{rows_keep}
use Rattle.sb_exec.proofs.RowWords.{executions_keep_words}
use Rattle.sb_original.specs.Words.{Words}
use Rattle.sb_original.specs.Original.{IsRegs}
use Rattle.sb_origin_run.specs.Machine.{Code, Thread, executed, step}
use Rattle.sb_origin_run.specs.Position.{Position}
use Rattle.sb_origin_run.specs.Related.{AreStraight, AreNotStray}
use Rattle.sb_origin_run.specs.Registers.{AreInstructions, KeepsBytes, IsOfWords}
use Rattle.sb_origin_run.proofs.Runs.{where_map}

pub words_are_regs : (regs : Regs) → AreWords regs → IsRegs regs
words_are_regs regs are = record { count = are.sixteen; fit = are.words }

instruction_keeps : {M A : Type 0} (bus : Interface M A) (HasBytes : M
    → Type 0) (insn : Insn) (left : Thread M A) → KeepsBytes bus HasBytes → IsOfWords HasBytes left
    → IsOfWords HasBytes (executed bus (Some (λ regs. row_of insn regs)) left).thread
instruction_keeps bus HasBytes insn left keeps of = record {
  regs = executions_keep_words bus insn left.regs left.meaning left.account (keeps.gives left.meaning of.bytes) of.regs;
  bytes = rows_keep HasBytes bus keeps.stored (row_of insn left.regs) left.regs left.meaning left.account of.bytes;
}

found_keeps : {M A : Type 0} (bus : Interface M A) (HasBytes : M
    → Type 0) (target : Code) (left : Thread M A) (found : Option (Regs → Row)) → KeepsBytes bus HasBytes
    → AreInstructions target → target left.regs.rip ≡ found → IsOfWords HasBytes left
    → IsOfWords HasBytes (executed bus found left).thread
found_keeps bus HasBytes target left None keeps are is of = of
found_keeps bus HasBytes target left (Some row) keeps are is of =
    let one = are left.regs.rip row is in
    subst (λ (r : Regs → Row). IsOfWords HasBytes (executed bus (Some r) left).thread) (sym one.1)
    (instruction_keeps bus HasBytes one.0 left keeps of)

pub step_keeps : {M A : Type 0} (bus : Interface M A) (HasBytes : M → Type 0) (target : Code) → KeepsBytes bus HasBytes
    → AreInstructions target → (left : Thread M A) → IsOfWords HasBytes left
    → IsOfWords HasBytes (step bus target left).thread
step_keeps bus HasBytes target keeps are left of =
    found_keeps bus HasBytes target left (target left.regs.rip) keeps are refl of

pub words_straight : {M A N : Type 0} (bus : Interface M A) (Holds : Words → M → N → Type 0) (IsOutside : ℕ → ℕ
    → Type 0) (HasBytes : M → Type 0) (target source : Code) (place : ℕ → Position) → KeepsBytes bus HasBytes
    → AreInstructions target → (count : ℕ) (left : Thread M A) → IsOfWords HasBytes left
    → AreNotStray bus Holds IsOutside target source place count left
    → AreStraight bus Holds IsOutside target source place count left
words_straight bus Holds IsOutside HasBytes target source place keeps are zero left of stays = tt
words_straight bus Holds IsOutside HasBytes target source place keeps are (suc count) left of (now, later) = (
  record { regs = words_are_regs left.regs of.regs; stays = now },
  where_map (step bus target left).event (AreNotStray bus Holds IsOutside target source place count (step bus target left).thread)
      (AreStraight bus Holds IsOutside target source place count (step bus target left).thread)
      (words_straight bus Holds IsOutside HasBytes target source place keeps are count (step bus target left).thread
      (step_keeps bus HasBytes target keeps are left of)) later,
)

-- ---- several threads

threads_keep : {M A : Type 0} (IsThread : ℕ → Type 0) (bus : Interface M A) (HasBytes : M
    → Type 0) (target : Code) (number : ℕ) (left : Threads M A) → KeepsBytes bus HasBytes → AreInstructions target
    → IsThread number → AreOfWords IsThread HasBytes left
    → AreOfWords IsThread HasBytes (with_thread number (step bus target (thread_of number left)).thread left)
threads_keep {M} {A} IsThread bus HasBytes target number left keeps are is_thread of = record {
  regs = λ other other_is. by_number other other_is (cases_eq other number);
  bytes = now.bytes;
}
  where
    now : IsOfWords HasBytes (step bus target (thread_of number left)).thread
    now =
        step_keeps bus HasBytes target keeps are (thread_of number left)
        (record { regs = of.regs number is_thread; bytes = of.bytes })

    by_number : (other : ℕ) → IsThread other → (other ≡ number) ⊎ (other ≡ number → ⊥)
        → AreWords (with_at number (step bus target (thread_of number left)).thread.regs left.regs other)
    by_number other other_is (inl same) =
        subst (λ (n : ℕ). AreWords (with_at number (step bus target (thread_of number left)).thread.regs left.regs n)) (sym same)
        (subst AreWords (sym (at_same number (step bus target (thread_of number left)).thread.regs left.regs)) now.regs)
    by_number other other_is (inr apart) =
        subst AreWords (sym (at_other number (step bus target (thread_of number left)).thread.regs left.regs other apart))
        (of.regs other other_is)

pub threads_straight : {M A N : Type 0} (IsThread : ℕ → Type 0) (buses : ℕ → Interface M A) (HoldsAll : (ℕ → Words) → M → N
    → Type 0) (IsOutside : ℕ → ℕ → ℕ → Type 0) (HasBytes : M → Type 0) (targets sources : ℕ → Code) (places : ℕ → ℕ → Position)
    → ((number : ℕ) → IsThread number → KeepsBytes (buses number) HasBytes)
    → ((number : ℕ) → IsThread number → AreInstructions (targets number))
    → (schedule : List ℕ) (left : Threads M A) → AllByRecursion IsThread schedule → AreOfWords IsThread HasBytes left
    → ThreadsNotStray buses HoldsAll IsOutside targets sources places schedule left
    → ThreadsStraight buses HoldsAll IsOutside targets sources places schedule left
threads_straight IsThread buses HoldsAll IsOutside HasBytes targets sources places keeps are [] left all of stays = tt
threads_straight IsThread buses HoldsAll IsOutside HasBytes targets sources places keeps are (number ∷ schedule) left all of
    (now, later) =
    let made = threads_step buses targets number left in
    let next = with_thread number made.thread left in (
      record { regs = words_are_regs (left.regs number) (of.regs number all.0); stays = now },
      where_map made.event (ThreadsNotStray buses HoldsAll IsOutside targets sources places schedule next)
          (ThreadsStraight buses HoldsAll IsOutside targets sources places schedule next)
          (threads_straight IsThread buses HoldsAll IsOutside HasBytes targets sources places keeps are schedule next all.1
          (threads_keep IsThread (buses number) HasBytes (targets number) number left (keeps number all.0) (are number all.0)
          all.0
          of)) later,
    )
