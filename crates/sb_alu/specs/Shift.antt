-- Shifts over numbers, each at a size, by a count that is not 0, with the flags that they give (SDM volume 2, SAL/SAR/SHL/SHR).
use Rattle.std.specs.Prelude.{ℕ, ◌-◌, ◌*◌, ◌/◌, ◌%◌, ◌^◌, ◌==◌, ◌&&◌, not, Bool, false, if◌then◌else◌, Some}
use Rattle.std.specs.Bool.{beq}
use Rattle.std.specs.Int.{cast_unsigned, int_shr}
use Rattle.sb_insn.specs.declared.registers.Flags.{Flags}
use Rattle.sb_alu.specs.declared.size.Size.{Size}
use Rattle.sb_alu.specs.declared.operation.OperationOutcome.{OperationOutcome}
use Rattle.sb_alu.specs.Size.{size_bits, modulus, width}
use Rattle.sb_alu.specs.Arithmetic.{is_negative, signed_value, result_flags}

-- whether two tests differ
abbrev pub differ : Bool → Bool → Bool
differ first second = not (beq first second)

-- the count modulo the number of bits
abbrev pub shift_count : Size → ℕ → ℕ
shift_count size count = count % size_bits size

abbrev pub is_bit_set : ℕ → ℕ → Bool
is_bit_set value place = value / 2 ^ place % 2 == 1

-- ---- to the left

abbrev pub shl : Size → ℕ → ℕ → ℕ
shl size value count = value * 2 ^ count % modulus size

-- CF is the last bit that is shifted out; by 1, OF says that the top bit of the result differs from it
unfoldable pub shl_outcome : Size → ℕ → ℕ → OperationOutcome
shl_outcome size value count =
    let last = is_bit_set value (size_bits size - count) in
    record {
      value = Some (shl size value count);
      flags = result_flags size (shl size value count) last
          ((count == 1) && differ (is_negative size (shl size value count)) last);
    }

-- ---- to the right

-- CF is the last bit that is shifted out; by 1, OF is the top bit of the operand
unfoldable pub shr_outcome : Size → ℕ → ℕ → OperationOutcome
shr_outcome size value count = record {
  value = Some (value / 2 ^ count);
  flags = result_flags size (value / 2 ^ count) (is_bit_set value (count - 1)) ((count == 1) && is_negative size value);
}

-- the signed number, shifted
abbrev pub sar : Size → ℕ → ℕ → ℕ
sar size value count = cast_unsigned (width size) (int_shr (signed_value size value) count)

-- CF is the last bit that is shifted out; OF is clear
unfoldable pub sar_outcome : Size → ℕ → ℕ → OperationOutcome
sar_outcome size value count = record {
  value = Some (sar size value count);
  flags = result_flags size (sar size value count) (is_bit_set value (count - 1)) false;
}

-- ---- by 0

-- a shift by 0 gives its operand and leaves the flags
abbrev pub unless_zero : ℕ → ℕ → Flags → OperationOutcome → OperationOutcome
unless_zero count value flags outcome = if count == 0 then record { value = Some value; flags = flags } else outcome
