-- The laws of stores: what a store does to the pages of a state.
use Rattle.std.specs.Prelude.{ℕ, ◌≡◌, ◌≢◌, ◌+◌, ◌/◌, ◌%◌, ◌^◌, ◌<◌, Some, length}
use Rattle.sb_pages.specs.declared.page.PageName.{PageName}
use Rattle.sb_pages.specs.declared.page.SeenPage.{SeenPage}
use Rattle.sb_state.specs.PlainMemory.{byte_in, plain_stored}
use Rattle.sb_state.specs.State.{State, contents}
use Rattle.sb_state.specs.Windows.{page_for}

-- the address of a byte of a store; the lowest is byte 0
abbrev pub address_of_byte : ℕ → ℕ → ℕ
address_of_byte address k = (address + k) % 2 ^ 64

-- where it stands in the page that is seen there
abbrev pub offset_of_byte : ℕ → ℕ → ℕ
offset_of_byte address k = address_of_byte address k % 4096

-- that page
abbrev pub ByteLeadsTo : ℕ → ℕ → State → ℕ → ℕ → SeenPage → Type 0
ByteLeadsTo thread view state address k page = page_for state thread view (address_of_byte address k / 4096) ≡ Some page

-- each byte of a store is there afterwards, unless a later one led to the same place
abbrev pub StoredBytesStand : Type 0
StoredBytesStand = (thread view : ℕ) (state : State) (address size value k : ℕ) (page : SeenPage) → address < 2 ^ 64 → k < size
    → ByteLeadsTo thread view state address k page
    → offset_of_byte address k < length (contents state page.name)
    → ((j : ℕ) (other : SeenPage) → k < j → j < size → ByteLeadsTo thread view state address j other → other.name ≡ page.name
    → offset_of_byte address j ≢ offset_of_byte address k)
    → byte_in (plain_stored thread view state address size value) page.name (offset_of_byte address k) ≡ value / 256 ^ k % 256

-- a byte of a page to which none of the store's leads stays
abbrev pub StoresLeaveOtherBytes : Type 0
StoresLeaveOtherBytes =
    (thread view : ℕ) (state : State) (address size value : ℕ) (name : PageName) (offset : ℕ) → address < 2 ^ 64
    → ((k : ℕ) (page : SeenPage) → k < size → ByteLeadsTo thread view state address k page → page.name ≡ name
    → offset_of_byte address k ≢ offset)
    → byte_in (plain_stored thread view state address size value) name offset ≡ byte_in state name offset
