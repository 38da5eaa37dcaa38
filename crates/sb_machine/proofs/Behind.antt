-- What follows an instruction, where memory is already as it left it.
use Rattle.std.proofs.Common.{◌≡◌, ℕ, refl}
use Rattle.sb_memory.specs.Physical.{Physical}
use Rattle.sb_insn.specs.declared.registers.Regs.{Regs}
use Rattle.sb_machine.specs.Machine.{Machine, core_at}
use Rattle.sb_machine.specs.Outcomes.{next_outcome}

-- it is as from the memory before
pub next_same : (machine : Machine) (number : ℕ) (regs : Regs) (memory : Physical)
    → next_outcome (record machine { memory = memory }) number regs memory ≡ next_outcome machine number regs memory
unfolding core_at
next_same machine number regs memory = refl
