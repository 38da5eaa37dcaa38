-- Registers of 64 bits: an instruction leaves them so.
use Rattle.std.specs.Prelude.{◌≡◌, ℕ, ◌^◌, ◌<◌, length, slice_index, Ok}
use Rattle.sb_memory.specs.declared.address.Access.TheVariants.{Read}
use Rattle.sb_insn.specs.declared.insn.Insn.{Insn}
use Rattle.sb_insn.specs.declared.registers.Regs.{Regs}
use Rattle.sb_bus.specs.Interface.{Interface}
use Rattle.sb_exec.specs.Execution.{execution_of}
use Rattle.sb_exec.specs.Rows.{row_of}

-- sixteen registers and RIP, each a number of 64 bits
pub record AreWords (regs : Regs) : Type 0 where
  pub sixteen : length regs.general ≡ 16
  pub words : (number : ℕ) → slice_index regs.general number < 2 ^ 64
  pub rip : regs.rip < 2 ^ 64

-- Whatever word is loaded, the row of each instruction leaves words in the registers.
abbrev pub RowsKeepWords : Type 0
RowsKeepWords =
    (insn : Insn) (regs : Regs) (loaded : ℕ) → AreWords regs → loaded < 2 ^ 64
    → AreWords ((row_of insn regs).after loaded).regs

-- what a load gives is a byte
abbrev pub GivesBytes : {M A : Type 0} → Interface M A → M → Type 0
GivesBytes bus meaning = (address byte : ℕ) → bus.byte meaning address Read ≡ Ok byte → byte < 256

-- On a memory that gives bytes, each instruction leaves words in the registers, where it stops too.
abbrev pub ExecutionsKeepWords : {M A : Type 0} → Interface M A → Type 0
ExecutionsKeepWords {M} {A} bus =
    (insn : Insn) (regs : Regs) (meaning : M) (account : A) → GivesBytes bus meaning → AreWords regs
    → AreWords (execution_of bus (row_of insn regs) regs meaning account).registers
