-- The bytes that may be fetched, by place in pages that lie one behind another, and where VMFUNC's stand among them.
use Rattle.std.specs.Prelude.{◌≡◌, ℕ, ◌+◌, ◌/◌, ◌%◌, List, Option, Some, None, slice_index, if◌then◌else◌}
use Rattle.sb_memory.specs.declared.address.Access.TheVariants.{Fetch}
use Rattle.sb_state.specs.declared.page.PageName.{PageName}
use Rattle.sb_state.specs.declared.page.Page.{Page}
use Rattle.sb_state.specs.PageName.{mode_of, permits}
use Rattle.sb_state.specs.State.{find_page}

-- the byte at an offset of a page, where the page is there and may be fetched
abbrev pub fetched_byte : PageName → Option Page → ℕ → Option ℕ
fetched_byte name None offset = None
fetched_byte name (Some page) offset =
    if permits (mode_of name page.executable) Fetch then Some (slice_index page.bytes offset) else None

-- The byte at a place of the pages with these names, one behind another.
unfoldable pub code_byte : List Page → (ℕ → PageName) → ℕ → Option ℕ
code_byte pages name place = fetched_byte (name (place / 4096)) (find_page pages (name (place / 4096))) (place % 4096)

-- VMFUNC's bytes stand at this place and may be fetched
abbrev pub HasCodePatternAt : (ℕ → Option ℕ) → ℕ → Type 0
HasCodePatternAt byte place = (byte place ≡ Some 0x0F) × (byte (place + 1) ≡ Some 0x01) × (byte (place + 2) ≡ Some 0xD4)

-- they stand at none, in no page and across no border
abbrev pub HasNoCodePattern : (ℕ → Option ℕ) → Type 0
HasNoCodePattern byte = (place : ℕ) → ¬ HasCodePatternAt byte place
