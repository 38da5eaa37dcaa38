-- Sums, differences, products and logic over numbers, each at a size, with the flags that they give (SDM volume 1, section
-- 3.4.3.1). A number of a size is below its modulus.
use Rattle.std.specs.Prelude.{ℕ, ◌+◌, ◌-◌, ◌*◌, ◌%◌, ◌==◌, not, nat_le, nat_lt, Bool, false, Some, count_ones, ℤ, ◌+ℤ◌, ◌-ℤ◌, ◌*ℤ◌}
use lib.Signed.{mag}
use Rattle.std.specs.Int.{cast_signed}
use Rattle.sb_insn.specs.declared.registers.Flags.{Flags}
use Rattle.sb_alu.specs.declared.size.Size.{Size}
use Rattle.sb_alu.specs.declared.operation.OperationOutcome.{OperationOutcome}
use Rattle.sb_alu.specs.Size.{modulus, half, width}

-- ---- flags

-- whether the top bit is set
abbrev pub is_negative : Size → ℕ → Bool
is_negative size value = nat_le (half size) value

-- the flags of a result: PF says whether the lowest byte has an even number of ones
unfoldable pub result_flags : Size → ℕ → Bool → Bool → Flags
result_flags size value carry overflow = record {
  cf = carry;
  pf = count_ones (value % 256) % 2 == 0;
  zf = value == 0;
  sf = is_negative size value;
  of = overflow;
}

-- ---- signed numbers

-- the number as a signed one
abbrev pub signed_value : Size → ℕ → ℤ
signed_value size value = cast_signed (width size) value

-- whether it is a signed number of this size: mag n and mag (-(n + 1)) are n
abbrev pub fits : Size → ℤ → Bool
fits size value = nat_lt (mag value) (half size)

-- ---- sums

abbrev pub sum_of : Size → ℕ → ℕ → ℕ
sum_of size first second = (first + second) % modulus size

-- whether the sum of the signed numbers is none of this size
abbrev pub sum_overflows : Size → ℕ → ℕ → Bool
sum_overflows size first second = not (fits size (signed_value size first +ℤ signed_value size second))

-- a sum: CF is the carry
unfoldable pub sum_outcome : Size → ℕ → ℕ → OperationOutcome
sum_outcome size first second = record {
  value = Some (sum_of size first second);
  flags = result_flags size (sum_of size first second) (nat_le (modulus size) (first + second)) (sum_overflows size first second);
}

-- ---- differences

abbrev pub difference_of : Size → ℕ → ℕ → ℕ
difference_of size first second = (first + (modulus size - second)) % modulus size

-- whether the difference of the signed numbers is none of this size
abbrev pub difference_overflows : Size → ℕ → ℕ → Bool
difference_overflows size first second = not (fits size (signed_value size first -ℤ signed_value size second))

-- a difference: CF is the borrow
unfoldable pub difference_outcome : Size → ℕ → ℕ → OperationOutcome
difference_outcome size first second = record {
  value = Some (difference_of size first second);
  flags = result_flags size (difference_of size first second) (nat_lt first second) (difference_overflows size first second);
}

-- ---- logic

-- a logical operation clears CF and OF
unfoldable pub logic_outcome : Size → ℕ → OperationOutcome
logic_outcome size value = record { value = Some value; flags = result_flags size value false false }

-- ---- products

-- whether the product of the signed numbers is none of this size
abbrev pub product_overflows : Size → ℕ → ℕ → Bool
product_overflows size first second = not (fits size (signed_value size first *ℤ signed_value size second))

-- a signed product: CF and OF say that it does not fit, SF is its top bit, ZF and PF stay
unfoldable pub product_outcome : Size → ℕ → ℕ → Flags → OperationOutcome
product_outcome size first second flags =
    let lost = product_overflows size first second in
    record {
      value = Some (first * second % modulus size);
      flags = record flags { cf = lost; of = lost; sf = is_negative size (first * second % modulus size) };
    }
