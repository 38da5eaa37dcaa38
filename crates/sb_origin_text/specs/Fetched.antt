-- Codes that have what is fetched from a memory.
use Rattle.std.specs.Prelude.{◌≡◌, ℕ, zero, suc, ◌+◌, ◌-◌, ◌^◌, ◌<◌, ◌≤◌, nat_lt, false, if◌then◌else◌, List, [], ◌∷◌, ◌++◌, length, drop, Option, Some, None, Result, Ok, Err}
use Rattle.sb_insn.specs.declared.insn.Insn.{Insn}
use Rattle.sb_insn.specs.declared.registers.Regs.{Regs}
use Rattle.sb_insn.specs.Grammar.{BeginsWith}
use Rattle.sb_decode.specs.declared.fault.DecodeFault.TheVariants.{Short, Undecoded}
use Rattle.sb_decode.specs.Reading.{Read}
use Rattle.sb_decode.specs.InsnReader.{parts_at, from_parts}
use Rattle.sb_bus.specs.declared.stop.BusStop.{BusStop}
use Rattle.sb_exec.specs.Fetching.{bytes_from_fetch, Stands, Fetches}
use Rattle.sb_exec.specs.Row.{Row}
use Rattle.sb_exec.specs.Rows.{row_of}
use Rattle.sb_forms.specs.Answers.{area_end}
use Rattle.sb_rewrite.specs.RewrittenText.{RewrittenText}
use Rattle.sb_original.specs.Going.{original_row}
use Rattle.sb_origin_text.specs.Codes.{AreCodes}
use Rattle.sb_rewrite.specs.Listing.{text_address}
use Rattle.sb_rewrite.specs.Placing.{area_address}
use Rattle.sb_origin_run.specs.Machine.{Code}
use Rattle.sb_origin_text.specs.Positions.{is_in_text, is_in_area}

-- The code has the row of the instruction that is fetched at an address, and nothing where none is; an address has 64 bits.
pub record IsFetched (fetch : ℕ → Result ℕ BusStop) (row_for : ℕ → Insn → Regs → Row) (code : Code) : Type 0 where
  pub some : (address : ℕ) (insn : Insn) (asked : ℕ) → address < 2 ^ 64 → Fetches fetch address (Ok insn) asked
      → code address ≡ Some (λ regs. row_for address insn regs)
  pub none : (address : ℕ) (stop : BusStop) (asked : ℕ) → address < 2 ^ 64 → Fetches fetch address (Err stop) asked
      → code address ≡ None
  pub beyond : (address : ℕ) → 2 ^ 64 ≤ address → code address ≡ None

-- Where bytes stand in the memory, the code has what they spell.
abbrev pub FetchedBytes : Type 0
FetchedBytes =
    (fetch : ℕ → Result ℕ BusStop) (row_for : ℕ → Insn → Regs → Row) (code : Code) (base : ℕ) (bytes : List ℕ)
    → IsFetched fetch row_for code → Stands fetch base bytes → base + length bytes ≤ 2 ^ 64
    → (offset : ℕ) (insn : Insn) → BeginsWith (drop offset bytes) insn
    → code (base + offset) ≡ Some (λ regs. row_for (base + offset) insn regs)

-- the address is neither one of the text's bytes nor in the rewrite area
abbrev pub IsBeside : List ℕ → ℕ → Type 0
IsBeside text address = (is_in_text text address ≡ false) × (is_in_area address ≡ false)

-- Two memories give the same bytes to fetches beside a text and its area, and nothing right before these.
pub record FetchAlike (text : List ℕ) (fetch other : ℕ → Result ℕ BusStop) : Type 0 where
  pub same : (address : ℕ) → address < 2 ^ 64 → IsBeside text address → other address ≡ fetch address
  pub before_text : (byte : ℕ) → fetch (text_address - 1) ≡ Ok byte → ⊥
  pub before_area : (byte : ℕ) → fetch (area_address - 1) ≡ Ok byte → ⊥

-- So beside them the same instructions are fetched.
abbrev pub SameFetches : Type 0
SameFetches =
    (text : List ℕ) (fetch other : ℕ → Result ℕ BusStop) → FetchAlike text fetch other → (address : ℕ) → address < 2 ^ 64
    → IsBeside text address → (result : Result Insn BusStop) (asked : ℕ) → Fetches fetch address result asked
    → Fetches other address result asked

-- ---- the code of a memory

-- with the next byte, if there is one
abbrev pub with_next : (List ℕ → Option Insn) → List ℕ → Result ℕ BusStop → Option Insn
with_next more bytes (Ok byte) = more (bytes ++ byte ∷ [])
with_next more bytes (Err stop) = None

-- the instruction that begins the bytes, or what is fetched with one more
abbrev pub by_decoded : (List ℕ → Option Insn) → List ℕ → Result ℕ BusStop → Read Insn → Option Insn
by_decoded more bytes next (Ok read) = Some read.0
by_decoded more bytes next (Err Short) = with_next more bytes next
by_decoded more bytes next (Err Undecoded) = None

-- The instruction at an address, of which these bytes were fetched, and so many more may be.
unfoldable pub fetched_from : (ℕ → Result ℕ BusStop) → ℕ → ℕ → List ℕ → Option Insn
fetched_from fetch address zero bytes = None
fetched_from fetch address (suc left) bytes =
    by_decoded (fetched_from fetch address left) bytes (fetch (bytes_from_fetch address (length bytes)))
    (from_parts (parts_at bytes))

-- an instruction has 13 bytes at most
unfoldable pub fetched_insn : (ℕ → Result ℕ BusStop) → ℕ → Option Insn
fetched_insn fetch address = fetched_from fetch address 14 []

abbrev pub row_at : (ℕ → Insn → Regs → Row) → ℕ → Option Insn → Option (Regs → Row)
row_at row_for address None = None
row_at row_for address (Some insn) = Some (λ regs. row_for address insn regs)

-- what a memory has as its code
abbrev pub code_in : (ℕ → Result ℕ BusStop) → (ℕ → Insn → Regs → Row) → Code
code_in fetch row_for address = if nat_lt address (2 ^ 64) then row_at row_for address (fetched_insn fetch address) else None

-- what is fetched is a byte
abbrev pub GivesFetched : (ℕ → Result ℕ BusStop) → Type 0
GivesFetched fetch = (address byte : ℕ) → fetch address ≡ Ok byte → byte < 256

abbrev pub CodesAreFetched : Type 0
CodesAreFetched =
    (fetch : ℕ → Result ℕ BusStop) (row_for : ℕ → Insn → Regs → Row) → GivesFetched fetch
    → IsFetched fetch row_for (code_in fetch row_for)

-- ---- the two codes

-- an instruction of rewritten code, at any address
abbrev pub target_row : ℕ → Insn → Regs → Row
target_row address insn regs = row_of insn regs

-- an instruction of the original code: VMFUNC of the text goes on
abbrev pub source_row : List ℕ → ℕ → Insn → Regs → Row
source_row text address insn regs = if is_in_text text address then original_row insn regs else row_of insn regs

-- Where a text and its area stand in one memory and the original text in another, and beside them both give the same, their
-- codes are such a pair.
pub record HaveTexts (text : List ℕ) (made : RewrittenText) (fetch other : ℕ → Result ℕ BusStop) : Type 0 where
  pub size : length text ≤ 2097152
  pub same_size : length made.text ≡ length text
  pub area_size : area_address + length made.area ≤ area_end
  pub bytes : GivesFetched fetch
  pub other_bytes : GivesFetched other
  pub rewritten : Stands fetch text_address made.text
  pub area : Stands fetch area_address made.area
  pub original : Stands other text_address text
  pub alike : FetchAlike text fetch other

abbrev pub TextsGiveCodes : Type 0
TextsGiveCodes =
    (text : List ℕ) (made : RewrittenText) (fetch other : ℕ → Result ℕ BusStop) → HaveTexts text made fetch other
    → AreCodes text made (code_in fetch target_row) (code_in other (source_row text))
