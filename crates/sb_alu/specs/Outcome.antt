-- What each operation gives on two numbers of a size.
use Rattle.std.specs.Prelude.{ℕ, ◌-◌, ◌==◌, if◌then◌else◌, Some, None, bit_and, bit_or, bit_xor}
use Rattle.std.specs.Int.{w64, trailing_zeros}
use Rattle.sb_insn.specs.declared.registers.Flags.{Flags}
use Rattle.sb_alu.specs.declared.size.Size.{Size}
use Rattle.sb_alu.specs.declared.operation.Operation.{Operation}
use Rattle.sb_alu.specs.declared.operation.Operation.TheVariants as operation
use Rattle.sb_alu.specs.declared.operation.OperationOutcome.{OperationOutcome}
use Rattle.sb_alu.specs.Size.{modulus}
use Rattle.sb_alu.specs.Arithmetic.{sum_outcome, difference_outcome, logic_outcome, product_outcome}
use Rattle.sb_alu.specs.Shift.{shift_count, shl_outcome, shr_outcome, sar_outcome, unless_zero}

-- nothing is written
abbrev pub without_value : OperationOutcome → OperationOutcome
without_value outcome = record outcome { value = None }

-- CF stays
abbrev pub keeping_carry : Flags → OperationOutcome → OperationOutcome
keeping_carry flags outcome = record outcome { flags = record (outcome.flags) { cf = flags.cf } }

-- The place of the lowest bit that is set. ZF says that there is none: then nothing is written. The other flags stay.
unfoldable pub bsf_outcome : ℕ → Flags → OperationOutcome
bsf_outcome value flags = record {
  value = if value == 0 then None else Some (trailing_zeros w64 value);
  flags = record flags { zf = value == 0 };
}

-- what an operation gives on two numbers, from these flags; of the shifts the second is the count
unfoldable pub operation_outcome : Operation → Size → ℕ → ℕ → Flags → OperationOutcome
operation_outcome operation.Add size first second flags = sum_outcome size first second
operation_outcome operation.Or size first second flags = logic_outcome size (bit_or first second)
operation_outcome operation.And size first second flags = logic_outcome size (bit_and first second)
operation_outcome operation.Sub size first second flags = difference_outcome size first second
operation_outcome operation.Xor size first second flags = logic_outcome size (bit_xor first second)
operation_outcome operation.Compare size first second flags = without_value (difference_outcome size first second)
operation_outcome operation.Test size first second flags = without_value (logic_outcome size (bit_and first second))
operation_outcome operation.Move size first second flags = record { value = Some second; flags = flags }
operation_outcome operation.Not size first second flags = record { value = Some (modulus size - 1 - first); flags = flags }
operation_outcome operation.Negate size first second flags = difference_outcome size 0 first
operation_outcome operation.Increment size first second flags = keeping_carry flags (sum_outcome size first 1)
operation_outcome operation.Decrement size first second flags = keeping_carry flags (difference_outcome size first 1)
operation_outcome operation.Multiply size first second flags = product_outcome size first second flags
operation_outcome operation.ShiftLeft size first second flags =
    unless_zero (shift_count size second) first flags (shl_outcome size first (shift_count size second))
operation_outcome operation.ShiftRight size first second flags =
    unless_zero (shift_count size second) first flags (shr_outcome size first (shift_count size second))
operation_outcome operation.ShiftArithmetic size first second flags =
    unless_zero (shift_count size second) first flags (sar_outcome size first (shift_count size second))
operation_outcome operation.ScanForward size first second flags = bsf_outcome second flags
