-- What an operation gives is below 2 ^ 64.
use Rattle.std.proofs.Common.{ℕ, ◌+◌, ◌-◌, ◌*◌, ◌/◌, ◌%◌, ◌^◌, ◌<◌, ◌==◌, Bool, true, false, arith}
use Rattle.std.specs.Prelude.{Option, Some, None, ℤ, pos, negsuc, if◌then◌else◌}
use Rattle.std.specs.Int.{w64, cast_unsigned, int_shr, trailing_zeros}
use Rattle.std.proofs.lemmas.Nat.{shr_le, and_le_l, or_lt, xor_lt, trailing_le}
use Rattle.sb_insn.specs.declared.registers.Flags.{Flags}
use Rattle.sb_alu.specs.declared.size.Size.{Size}
use Rattle.sb_alu.specs.declared.size.Size.TheVariants.{Byte, Doubleword, Quadword}
use Rattle.sb_alu.specs.declared.operation.Operation.{Operation}
use Rattle.sb_alu.specs.declared.operation.Operation.TheVariants as operation
use Rattle.sb_alu.specs.declared.operation.OperationOutcome.{OperationOutcome}
use Rattle.sb_alu.specs.Size.{modulus, width, low}
use Rattle.sb_alu.specs.Arithmetic.{signed_value, sum_outcome, difference_outcome, logic_outcome, product_outcome}
use Rattle.sb_alu.specs.Shift.{shift_count, sar, shl_outcome, shr_outcome, sar_outcome}
use Rattle.sb_alu.specs.Outcome.{bsf_outcome, operation_outcome}

-- ---- numbers of a size

-- what is left of a number at a size is a word
pub rest_word : (size : Size) (value : ℕ) → value % modulus size < 2 ^ 64
rest_word Byte value = omega arith
rest_word Doubleword value = omega arith
rest_word Quadword value = omega arith

-- the lowest bits of a number are a word
pub low_word : (size : Size) (value : ℕ) → low size value < 2 ^ 64
unfolding low
low_word size value = rest_word size value

complement_word : (size : Size) (value : ℕ) → modulus size - 1 - value < 2 ^ 64
complement_word Byte value = omega arith
complement_word Doubleword value = omega arith
complement_word Quadword value = omega arith

-- ---- shifts of signed numbers

-- a number that is not negative is a word
abbrev IsSignedWord : ℤ → Type 0
IsSignedWord (pos value) = value < 2 ^ 64
IsSignedWord (negsuc value) = Unit {0}

negative_word : (size : Size) (value : ℕ) → cast_unsigned (width size) (negsuc value) < 2 ^ 64
negative_word Byte value = omega arith
negative_word Doubleword value = omega arith
negative_word Quadword value = omega arith

shifted_word : (size : Size) (value : ℤ) (count : ℕ) → IsSignedWord value
    → cast_unsigned (width size) (int_shr value count) < 2 ^ 64
shifted_word size (pos value) count word = let less = shr_le value count in omega (arith, less, word)
shifted_word size (negsuc value) count word = negative_word size (value / 2 ^ count)

chosen_signed : (test : Bool) (value other : ℕ) → value < 2 ^ 64
    → IsSignedWord (if test then pos value else negsuc other)
chosen_signed true value other word = word
chosen_signed false value other word = tt

sar_word : (size : Size) (value count : ℕ) → value < 2 ^ 64 → sar size value count < 2 ^ 64
sar_word size value count word =
    shifted_word size (signed_value size value) count (chosen_signed _ value _ word)

-- ---- outcomes

-- a number that is written is a word
abbrev pub IsWordIfAny : Option ℕ → Type 0
IsWordIfAny None = Unit {0}
IsWordIfAny (Some value) = value < 2 ^ 64

either_word : (test : Bool) (first second : OperationOutcome) → IsWordIfAny first.value → IsWordIfAny second.value
    → IsWordIfAny (if test then first else second).value
either_word true first second one two = one
either_word false first second one two = two

some_or_none : (test : Bool) (value : ℕ) → value < 2 ^ 64 → IsWordIfAny (if test then None else Some value)
some_or_none true value word = tt
some_or_none false value word = word

shl_word : (size : Size) (value count : ℕ) → IsWordIfAny (shl_outcome size value count).value
unfolding shl_outcome
shl_word size value count = rest_word size (value * 2 ^ count)

shr_word : (size : Size) (value count : ℕ) → value < 2 ^ 64 → IsWordIfAny (shr_outcome size value count).value
unfolding shr_outcome
shr_word size value count word = let less = shr_le value count in omega (arith, less, word)

sar_outcome_word : (size : Size) (value count : ℕ) → value < 2 ^ 64 → IsWordIfAny (sar_outcome size value count).value
unfolding sar_outcome
sar_outcome_word size value count word = sar_word size value count word

bsf_word : (value : ℕ) (flags : Flags) → IsWordIfAny (bsf_outcome value flags).value
unfolding bsf_outcome
bsf_word value flags =
    let few = trailing_le 64 value in some_or_none (value == 0) (trailing_zeros w64 value) (omega (arith, few))

shift_word : (count value : ℕ) (flags : Flags) (outcome : OperationOutcome) → value < 2 ^ 64 → IsWordIfAny outcome.value
    → IsWordIfAny (if count == 0 then record { value = Some value; flags = flags } else outcome).value
shift_word count value flags outcome word shifted =
    either_word (count == 0) (record { value = Some value; flags = flags }) outcome word shifted

-- what an operation gives on two words is a word, if it gives any
pub outcome_word : (which : Operation) (size : Size) (first second : ℕ) (flags : Flags) → first < 2 ^ 64 → second < 2 ^ 64
    → IsWordIfAny (operation_outcome which size first second flags).value
unfolding operation_outcome sum_outcome difference_outcome logic_outcome product_outcome
outcome_word operation.Add size first second flags one two = rest_word size (first + second)
outcome_word operation.Or size first second flags one two = or_lt 64 first second one two
outcome_word operation.And size first second flags one two = let less = and_le_l first second in omega (arith, less, one)
outcome_word operation.Sub size first second flags one two = rest_word size (first + (modulus size - second))
outcome_word operation.Xor size first second flags one two = xor_lt 64 first second one two
outcome_word operation.Compare size first second flags one two = tt
outcome_word operation.Test size first second flags one two = tt
outcome_word operation.Move size first second flags one two = two
outcome_word operation.Not size first second flags one two = complement_word size first
outcome_word operation.Negate size first second flags one two = rest_word size (0 + (modulus size - first))
outcome_word operation.Increment size first second flags one two = rest_word size (first + 1)
outcome_word operation.Decrement size first second flags one two = rest_word size (first + (modulus size - 1))
outcome_word operation.Multiply size first second flags one two = rest_word size (first * second)
outcome_word operation.ShiftLeft size first second flags one two =
    let count = shift_count size second in
    shift_word count first flags (shl_outcome size first count) one (shl_word size first count)
outcome_word operation.ShiftRight size first second flags one two =
    let count = shift_count size second in
    shift_word count first flags (shr_outcome size first count) one (shr_word size first count one)
outcome_word operation.ShiftArithmetic size first second flags one two =
    let count = shift_count size second in
    shift_word count first flags (sar_outcome size first count) one (sar_outcome_word size first count one)
outcome_word operation.ScanForward size first second flags one two = bsf_word second flags
