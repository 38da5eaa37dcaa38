-- The bytes of VMFUNC, `0F 01 D4`, in a heap page and across its borders.
use Rattle.std.specs.Prelude.{ℕ, suc, ◌+◌, ◌-◌, ◌*◌, ◌==◌, ◌&&◌, Bool, List, [], ◌∷◌, ◌++◌, length, take, drop, get_or, Option, Some, None, if◌then◌else◌}
use Rattle.std.specs.Option.{option_map}
use Rattle.sb_abi.specs.declared.space.TheConstants.{HEAP_ADDRESS}
use Rattle.sb_memory.specs.declared.page.TheConstants.{PAGE_SIZE}
use Rattle.sb_pages.specs.declared.page.Page.{Page}
use Rattle.sb_pages.specs.declared.page.PageName.TheVariants.{Heap}
use Rattle.sb_pages.specs.PageLists.{find_page}
use Rattle.sb_state.specs.State.{State}

-- ---- in bytes

abbrev pub begins_pattern : List ℕ → Bool
begins_pattern bytes = (get_or bytes 0 0 == 0x0F) && ((get_or bytes 1 0 == 0x01) && (get_or bytes 2 0 == 0xD4))

-- the first place from which the pattern stands, None where there is none
abbrev pub first_pattern : List ℕ → Option ℕ
first_pattern [] = None
first_pattern (byte ∷ bytes) = if begins_pattern (byte ∷ bytes) then Some 0 else option_map suc (first_pattern bytes)

-- ---- in the heap

-- the bytes of a page that is executable; none of another
abbrev pub executable_bytes : Option Page → List ℕ
executable_bytes None = []
executable_bytes (Some page) = if page.executable then page.bytes else []

-- the last two bytes of the page before, if there is one and it is executable
abbrev pub bytes_before : State → ℕ → ℕ → List ℕ
bytes_before state process page =
    if page == 0 then []
    else drop (PAGE_SIZE - 2) (executable_bytes (find_page state.pages (Heap process (page - 1))))

-- the first two bytes of the page behind, if there is one and it is executable
abbrev pub bytes_behind : State → ℕ → ℕ → List ℕ
bytes_behind state process page = take 2 (executable_bytes (find_page state.pages (Heap process (page + 1))))

-- the address of a place in a page's bytes that so many others stand before
abbrev pub heap_address : ℕ → ℕ → ℕ → ℕ
heap_address page before place = HEAP_ADDRESS + PAGE_SIZE * page + place - before

-- the first place of the pattern in a page that is there, or across its borders with the bytes before and behind it
abbrev pub pattern_around : List ℕ → List ℕ → Option Page → Option ℕ
pattern_around before behind None = None
pattern_around before behind (Some page) = first_pattern (before ++ (page.bytes ++ behind))

-- the lowest address at which the pattern stands in a heap page or across its border with an executable one
unfoldable pub heap_pattern : State → ℕ → ℕ → Option ℕ
heap_pattern state process page =
    option_map (heap_address page (length (bytes_before state process page)))
    (pattern_around (bytes_before state process page) (bytes_behind state process page)
    (find_page state.pages (Heap process page)))
