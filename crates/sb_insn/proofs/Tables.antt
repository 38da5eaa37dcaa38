-- The tables of cells are the opcode maps, at each of the 256 opcodes by computing.
use Rattle.std.proofs.Common.{◌≡◌, ℕ, ◌<◌, List, get_or, map, refl, ap, ◌∙◌, arith}
use Rattle.std.specs.List.{range_with_len}
use Rattle.std.proofs.lemmas.List.FromFn.{get_or-map-range_with_len}
use Rattle.sb_insn.specs.declared.opcode_map.Cell.{Cell}
use Rattle.sb_insn.specs.declared.cells.TheConstants.{ONE_BYTE, TWO_BYTE}
use Rattle.sb_insn.specs.OpcodeMap.{one_byte, two_byte}

-- a table that has the cell of each opcode in its place
cell_at : (cell_of : ℕ → Cell) (table : List Cell) → table ≡ map cell_of (range_with_len 0 256)
    → (opcode : ℕ) (absent : Cell) → opcode < 256 → get_or table opcode absent ≡ cell_of opcode
cell_at cell_of table is opcode absent below =
    ap (λ (cells : List Cell). get_or cells opcode absent) is
    ∙ get_or-map-range_with_len cell_of 0 256 opcode opcode absent below (omega arith)

pub one_byte_at : (opcode : ℕ) (absent : Cell) → opcode < 256 → get_or ONE_BYTE opcode absent ≡ one_byte opcode
unfolding one_byte
one_byte_at = cell_at one_byte ONE_BYTE refl

pub two_byte_at : (opcode : ℕ) (absent : Cell) → opcode < 256 → get_or TWO_BYTE opcode absent ≡ two_byte opcode
unfolding two_byte
two_byte_at = cell_at two_byte TWO_BYTE refl
