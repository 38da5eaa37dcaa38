-- Registers of 64 bits over a run: where a code has instructions and its memory gives bytes, they stay so.
use Rattle.std.specs.Prelude.{◌≡◌, ℕ, Some, Ok}
use Rattle.sb_memory.specs.declared.address.Access.TheVariants.{Write}
use Rattle.sb_insn.specs.declared.insn.Insn.{Insn}
use Rattle.sb_insn.specs.declared.registers.Regs.{Regs}
use Rattle.sb_exec.specs.Interface.{Interface}
use Rattle.sb_exec.specs.Access.{store_answer, byte_for}
use Rattle.sb_exec.specs.Row.{Row}
use Rattle.sb_exec.specs.Rows.{row_of}
use Rattle.sb_exec.specs.Words.{AreWords, GivesBytes}
use Rattle.sb_origin_run.specs.Machine.{Code, Thread}

-- what a code has at an address is the row of an instruction
abbrev pub AreInstructions : Code → Type 0
AreInstructions code =
    (address : ℕ) (row : Regs → Row) → code address ≡ Some row → (insn : Insn) × (row ≡ (λ regs. row_of insn regs))

-- Of a memory this says that loads give bytes, and each store that it permits keeps it so.
pub record KeepsBytes {M A : Type 0} (bus : Interface M A) (HasBytes : M → Type 0) : Type 0 where
  pub gives : (meaning : M) → HasBytes meaning → GivesBytes bus meaning
  pub stored : (meaning : M) → HasBytes meaning → (address size value : ℕ)
      → store_answer (byte_for (bus.byte meaning) Write) address size ≡ Ok tt → HasBytes (bus.stored meaning address size value)

-- the registers of the thread are words, and its memory gives bytes
pub record IsOfWords {M A : Type 0} (HasBytes : M → Type 0) (thread : Thread M A) : Type 0 where
  pub regs : AreWords thread.regs
  pub bytes : HasBytes thread.meaning
