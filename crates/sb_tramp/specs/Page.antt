-- A page of instructions: each stands at its offset, and every other byte is CC.
use Rattle.std.specs.Prelude.{◌≡◌, ℕ, ◌+◌, ◌-◌, ◌<◌, ◌≤◌, List, [], ◌∷◌, ◌++◌, length, drop, get_or, replicate}
use Rattle.std.specs.List.{Contains}
use Rattle.sb_memory.specs.declared.page.TheConstants.{PAGE_SIZE}
use Rattle.sb_insn.specs.declared.insn.Insn.{Insn}
use Rattle.sb_insn.specs.Spelling.{spelling}
use Rattle.sb_insn.specs.Grammar.{BeginsWith}
use Rattle.sb_scan.specs.Pattern.{HasPatternAt}

-- bytes in a page
abbrev pub page_size : ℕ
page_size = PAGE_SIZE

-- an instruction at an offset of the page
pub record PageRow : Type 0 where
  pub offset : ℕ
  pub insn : Insn

abbrev pub row : ℕ → Insn → PageRow
row offset insn = record { offset = offset; insn = insn }

-- the offset behind a row
abbrev pub row_end : PageRow → ℕ
row_end row = row.offset + length (spelling row.insn)

-- so many bytes CC
unfoldable pub filler : ℕ → List ℕ
filler count = replicate count 0xCC

-- a page from an offset on, in which rows follow: each is spelled at its own offset, and before, between and behind
-- them stands CC
abbrev pub page_from : ℕ → List PageRow → List ℕ
page_from offset [] = filler (page_size - offset)
page_from offset (row ∷ rows) = filler (row.offset - offset) ++ (spelling row.insn ++ page_from (row_end row) rows)

-- the page of rows that stand in the order of their offsets
unfoldable pub page_of_rows : List PageRow → List ℕ
page_of_rows rows = page_from 0 rows

-- ---- what is said of the two pages

-- the bytes of the page from the row's offset on begin with the row's instruction, which ends inside the page
pub record StandsIn (page : List ℕ) (row : PageRow) : Type 0 where
  pub begins : BeginsWith (drop row.offset page) row.insn
  pub inside : row_end row ≤ page_size

-- each row stands in the page
abbrev pub EachStands : List PageRow → Type 0
EachStands rows = (row : PageRow) → Contains rows row → StandsIn (page_of_rows rows) row

-- the offset is one of the row's bytes
abbrev pub Covers : PageRow → ℕ → Type 0
Covers row offset = (row.offset ≤ offset) × (offset < row_end row)

-- each byte that belongs to no row is CC
abbrev pub FilledElsewhere : List PageRow → Type 0
FilledElsewhere rows =
    (offset : ℕ) → offset < page_size → ((row : PageRow) → Contains rows row → ¬ Covers row offset)
    → get_or (page_of_rows rows) offset 0 ≡ 0xCC

-- the page has the size of a page
abbrev pub HasPageSize : List PageRow → Type 0
HasPageSize rows = length (page_of_rows rows) ≡ page_size

-- the bytes of VMFUNC stand in the page at offset 40, and nowhere else
abbrev pub SwitchesAlone : List ℕ → Type 0
SwitchesAlone page = HasPatternAt page 0x40 × ((place : ℕ) → HasPatternAt page place → place ≡ 0x40)
