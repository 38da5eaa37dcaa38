-- Stores through the nested walk, and the account of every access.
use Rattle.std.specs.Prelude.{ℕ, ◌/◌, ◌%◌, ◌==◌, ◌&&◌, ◌≡◌, true, Bool, List, [], ◌∷◌, Result, Ok, Err, if◌then◌else◌}
use Rattle.sb_memory.specs.Physical.{Physical, IsPlace, has_frame, frame_of}
use Rattle.sb_memory.specs.Accounts.{PhysCall, WriteByte, WriteWord, account_after_reads}
use Rattle.sb_memory.specs.Reading.{byte_written, word_written}
use Rattle.sb_memory.specs.declared.address.Access.{Access}
use Rattle.sb_memory.specs.declared.address.Access.TheVariants.{Read, Write, Fetch}
use Rattle.sb_memory.specs.declared.address.PhysAddr.{PhysAddr}
use Rattle.sb_walks.specs.declared.stop.NestedStop.{NestedStop}
use Rattle.sb_bus.specs.declared.stop.BusStop.{BusStop}
use Rattle.sb_bus.specs.Access.{bytes_from, byte_for}
use Rattle.sb_bus.specs.Interface.{BusCall, FetchByte, LoadBytes, LoadForWrite, StoreBytes, Interface}
use Rattle.sb_nested.specs.View.{View, with_memory, place_of, place_answer, walk_place, view_byte, walk_calls, byte_calls, calls_from}

-- the place of a byte that can be read
abbrev pub where_there : Result ℕ BusStop → Result PhysAddr BusStop → Result PhysAddr BusStop
where_there (Ok byte) place = place
where_there (Err stop) place = Err stop

-- where the byte at an address is written
unfoldable pub store_place : View → ℕ → Result PhysAddr BusStop
store_place core address = where_there (view_byte core address Write) (place_answer address (place_of core Write address))

-- the calls that load bytes from an address upwards
unfoldable pub load_calls : View → Access → ℕ → ℕ → List PhysCall
load_calls core access address size = calls_from (byte_calls core access) (byte_for (view_byte core) access) address size

-- the calls that look up bytes from an address upwards
unfoldable pub look_calls : View → ℕ → ℕ → List PhysCall
look_calls core address size = calls_from (walk_calls core Write) (walk_place core Write) address size

-- the account after an address is looked up
abbrev pub account_after_walk : {Account : Type 0} → (PhysCall → Physical → Account → Account) → View → Access → ℕ → Account
    → Account
account_after_walk rule core access address account =
    account_after_reads rule core.physical (walk_calls core access address) account

-- after its byte is read
abbrev pub account_after_byte : {Account : Type 0} → (PhysCall → Physical → Account → Account) → View → Access → ℕ → Account
    → Account
account_after_byte rule core access address account =
    account_after_reads rule core.physical (byte_calls core access address) account

-- after bytes from an address upwards are loaded
abbrev pub account_after_load : {Account : Type 0} → (PhysCall → Physical → Account → Account) → View → Access → ℕ → ℕ → Account
    → Account
account_after_load rule core access address size account =
    account_after_reads rule core.physical (load_calls core access address size) account

-- after bytes from an address upwards are looked up
abbrev pub account_after_look : {Account : Type 0} → (PhysCall → Physical → Account → Account) → View → ℕ → ℕ → Account
    → Account
account_after_look rule core address size account =
    account_after_reads rule core.physical (look_calls core address size) account

-- the memory after the lowest bytes of a value are put at these places, the lowest first
abbrev pub put_value : Physical → List PhysAddr → ℕ → Physical
put_value memory [] value = memory
put_value memory (place ∷ places) value = put_value (byte_written memory place.0 (value % 256)) places (value / 256)

-- the account after that
abbrev pub after_writes : {Account : Type 0} → (PhysCall → Physical → Account → Account) → Physical → List PhysAddr → ℕ
    → Account → Account
after_writes rule memory [] value account = account
after_writes rule memory (place ∷ places) value account =
    after_writes rule (byte_written memory place.0 (value % 256)) places (value / 256)
    (rule (WriteByte place.0 (value % 256)) memory account)

-- the same where the places are known
abbrev pub put_answer : Physical → Result (List PhysAddr) BusStop → ℕ → Physical
put_answer memory (Ok places) value = put_value memory places value
put_answer memory (Err stop) value = memory

abbrev pub after_answer : {Account : Type 0} → (PhysCall → Physical → Account → Account) → Physical
    → Result (List PhysAddr) BusStop → ℕ → Account → Account
after_answer rule memory (Ok places) value account = after_writes rule memory places value account
after_answer rule memory (Err stop) value account = account

-- the memory after a word is put where an address leads
abbrev pub put_word_at : Physical → Result PhysAddr NestedStop → ℕ → Physical
put_word_at memory (Ok place) word = word_written memory place.0 word
put_word_at memory (Err stop) word = memory

-- the account after that
abbrev pub after_word : {Account : Type 0} → (PhysCall → Physical → Account → Account) → Physical → Result PhysAddr NestedStop
    → ℕ → Account → Account
after_word rule memory (Ok place) word account = rule (WriteWord place.0 word) memory account
after_word rule memory (Err stop) word account = account

-- the memory after the lowest bytes of a value are put from an address upwards, if each of them leads somewhere
abbrev pub bytes_stored : View → ℕ → ℕ → ℕ → Physical
bytes_stored core address size value = put_answer core.physical (bytes_from (store_place core) address size) value

-- the account after that: each byte is read before the first is written
abbrev pub after_bytes_stored : {Account : Type 0} → (PhysCall → Physical → Account → Account) → View → ℕ → ℕ → ℕ
    → Account → Account
after_bytes_stored rule core address size value account =
    after_answer rule core.physical (bytes_from (store_place core) address size) value
    (account_after_load rule core Write address size account)

-- the memory after a word is put at its address, if that leads somewhere
abbrev pub word_stored : View → ℕ → ℕ → Physical
word_stored core address word = put_word_at core.physical (place_of core Write address) word

-- the account after that: each byte of the word is looked up, and none is read
abbrev pub after_word_stored : {Account : Type 0} → (PhysCall → Physical → Account → Account) → View → ℕ → ℕ
    → Account → Account
after_word_stored rule core address word account =
    after_word rule core.physical (place_of core Write address) word
    (account_after_look rule core address 8 account)

-- the bytes are all those of one word of memory
abbrev pub is_whole : ℕ → ℕ → Bool
is_whole address size = (size == 8) && (address % 8 == 0)

-- the memory after a store: a whole word is written as one, and others byte by byte
unfoldable pub memory_stored : View → ℕ → ℕ → ℕ → Physical
memory_stored core address size value =
    if is_whole address size then word_stored core address value else bytes_stored core address size value

-- the view after a store
abbrev pub view_stored : View → ℕ → ℕ → ℕ → View
view_stored core address size value = with_memory core (memory_stored core address size value)

-- the account after a store: a whole word is not read before
unfoldable pub store_rule : {Account : Type 0} → (PhysCall → Physical → Account → Account) → View → ℕ → ℕ → ℕ → Account → Account
store_rule rule core address size value account =
    if is_whole address size
    then after_word_stored rule core address value account
    else after_bytes_stored rule core address size value account

-- the account after a call
unfoldable pub view_rule : {Account : Type 0} → (PhysCall → Physical → Account → Account) → BusCall → View → Account → Account
view_rule rule (FetchByte address) core account = account_after_byte rule core Fetch address account
view_rule rule (LoadBytes address size) core account = account_after_load rule core Read address size account
view_rule rule (LoadForWrite address size) core account = account_after_load rule core Write address size account
view_rule rule (StoreBytes address size value) core account = store_rule rule core address size value account

-- what the bus of a core is to an instruction
abbrev pub view_interface : {Account : Type 0} → (PhysCall → Physical → Account → Account) → Interface View Account
view_interface rule = record { byte = view_byte; stored = view_stored; rule = view_rule rule }

-- these places lie in frames that are there
abbrev pub AllHeld : Physical → List PhysAddr → Type 0
AllHeld memory [] = Unit {0}
AllHeld memory (place ∷ places) = (IsPlace memory place.0 × (has_frame memory (frame_of place.0) ≡ true)) × AllHeld memory places
