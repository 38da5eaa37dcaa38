-- The number that a row stores, by the place that it is written to.
use Rattle.std.proofs.Common.{◌≡◌, ℕ, ◌==◌, Bool, true, false, refl}
use Rattle.std.specs.Prelude.{Option, Some, None, unwrap_or, if◌then◌else◌}
use Rattle.sb_insn.specs.declared.registers.Regs.{Regs}
use Rattle.sb_insn.specs.declared.registers.TheConstants.{RAX}
use Rattle.sb_alu.specs.declared.size.Size.{Size}
use Rattle.sb_alu.specs.Arithmetic.{difference_outcome}
use Rattle.sb_exec.specs.declared.action.Exchange.{Exchange}
use Rattle.sb_exec.specs.declared.action.Exchange.TheVariants as exchange
use Rattle.sb_exec.specs.declared.action.Location.{Location}
use Rattle.sb_exec.specs.declared.action.Location.TheVariants.{Register, Memory}
use Rattle.sb_exec.specs.Operand.{register_value, with_register}
use Rattle.sb_exec.specs.WriteBack.{with_flags, write_result, result_or_nothing, stored_in}
use Rattle.sb_exec.specs.Exchange.{cmpxchg_unequal, number_for_rm, exchange_of}

-- of a result that is written back, if there is one
pub result_stored : (size : Size) (place : Location) (value : Option ℕ) (regs : Regs)
    → (result_or_nothing size place value regs).stored ≡ stored_in place (unwrap_or value 0)
unfolding result_or_nothing write_result
result_stored size (Register number) None regs = refl
result_stored size (Register number) (Some value) regs = refl
result_stored size (Memory address) None regs = refl
result_stored size (Memory address) (Some value) regs = refl

-- CMPXCHG of unequal numbers leaves the same registers wherever rm is
pub unequal_regs : (size : Size) (place : Location) (old : ℕ) (regs : Regs)
    → (cmpxchg_unequal size place old regs).regs ≡ with_register size RAX old regs
unequal_regs size (Register number) old regs = refl
unequal_regs size (Memory address) old regs = refl

equal_by : (test : Bool) (size : Size) (place : Location) (old source : ℕ) (regs : Regs)
    → (if test then write_result size place source regs else cmpxchg_unequal size place old regs).stored
    ≡ stored_in place (if test then source else old)
unfolding write_result
equal_by true size (Register number) old source regs = refl
equal_by true size (Memory address) old source regs = refl
equal_by false size (Register number) old source regs = refl
equal_by false size (Memory address) old source regs = refl

-- of an exchange
pub exchange_stored : (kind : Exchange) (size : Size) (number : ℕ) (place : Location) (old source : ℕ) (regs : Regs)
    → (exchange_of kind size number place old source regs).stored
    ≡ stored_in place (number_for_rm kind size old source (register_value size RAX regs))
unfolding exchange_of write_result
exchange_stored exchange.Xchg size number (Register other) old source regs = refl
exchange_stored exchange.Xchg size number (Memory address) old source regs = refl
exchange_stored exchange.Xadd size number (Register other) old source regs = refl
exchange_stored exchange.Xadd size number (Memory address) old source regs = refl
exchange_stored exchange.Cmpxchg size number place old source regs =
    equal_by (register_value size RAX regs == old) size place old source
    (with_flags (difference_outcome size (register_value size RAX regs) old).flags regs)
