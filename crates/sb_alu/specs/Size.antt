-- The sizes of operands.
use Rattle.std.specs.Prelude.{ℕ, ◌%◌, ◌^◌}
use Rattle.std.specs.Int.{Width, w8, w32, w64}
use Rattle.sb_alu.specs.declared.size.Size.{Size}
use Rattle.sb_alu.specs.declared.size.Size.TheVariants.{Byte, Doubleword, Quadword}

-- how many bytes a number of a size has
abbrev pub size_bytes : Size → ℕ
size_bytes Byte = 1
size_bytes Doubleword = 4
size_bytes Quadword = 8

-- how many bits it has
abbrev pub size_bits : Size → ℕ
size_bits Byte = 8
size_bits Doubleword = 32
size_bits Quadword = 64

-- the width of the integers that have this size
abbrev pub width : Size → Width
width Byte = w8
width Doubleword = w32
width Quadword = w64

-- how many numbers there are of a size
abbrev pub modulus : Size → ℕ
modulus Byte = 2 ^ 8
modulus Doubleword = 2 ^ 32
modulus Quadword = 2 ^ 64

-- the number of which only the top bit is set
abbrev pub half : Size → ℕ
half Byte = 2 ^ 7
half Doubleword = 2 ^ 31
half Quadword = 2 ^ 63

-- the lowest bits of a number
unfoldable pub low : Size → ℕ → ℕ
low size value = value % modulus size
