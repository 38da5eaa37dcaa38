-- The guest walk in which each address first goes through the extended page tables.
use Rattle.std.specs.Prelude.{ℕ, List, [], ◌∷◌, ◌++◌, Result, Ok, Err}
use Rattle.sb_memory.specs.Physical.{Physical}
use Rattle.sb_memory.specs.Accounts.{PhysCall, account_after_words}
use Rattle.sb_memory.specs.Reading.{word_read}
use Rattle.sb_memory.specs.declared.address.Missing.{Missing}
use Rattle.sb_memory.specs.declared.address.Access.{Access}
use Rattle.sb_memory.specs.declared.address.Access.TheVariants.{Read}
use Rattle.sb_memory.specs.declared.address.PhysAddr.{PhysAddr}
use Rattle.sb_memory.specs.declared.address.GuestPhys.{GuestPhys}
use Rattle.sb_memory.specs.declared.address.EptStop.{EptStop}
use Rattle.sb_walks.specs.declared.stop.TableStop.{TableStop}
use Rattle.sb_walks.specs.declared.stop.TableStop.TheVariants as table
use Rattle.sb_walks.specs.declared.stop.WalkStop.{WalkStop}
use Rattle.sb_walks.specs.declared.stop.NestedStop.{NestedStop}
use Rattle.sb_walks.specs.declared.stop.NestedStop.TheVariants as nested
use Rattle.sb_walks.specs.Ept.{ept_walk, ept_walk_reads}
use Rattle.sb_walks.specs.Guest.{guest_walk, walk_reads}
use Rattle.sb_walks.specs.Reads.{where_ok}

-- physical memory behind an EPT pointer
pub record MemoryBehindEpt : Type 0 where
  pub physical : Physical
  pub eptp : ℕ

abbrev pub memory_behind : Physical → ℕ → MemoryBehindEpt
memory_behind memory eptp = record { physical = memory; eptp = eptp }

-- the answer of a read of an entry
abbrev pub entry_answer : Result ℕ Missing → Result ℕ TableStop
entry_answer (Ok word) = Ok word
entry_answer (Err gap) = Err (table.Missing gap.frame)

-- what is read where the walk led
abbrev pub entry_behind : Physical → Result PhysAddr EptStop → Result ℕ TableStop
entry_behind memory (Ok place) = entry_answer (word_read memory place.0)
entry_behind memory (Err stop) = Err (table.Ept stop)

-- the entry at a guest-physical place
unfoldable pub guest_entry : MemoryBehindEpt → ℕ → Result ℕ TableStop
guest_entry memory at = entry_behind memory.physical (ept_walk memory.physical memory.eptp at Read)

-- the words that are read for it
unfoldable pub guest_entry_reads : MemoryBehindEpt → ℕ → List ℕ
guest_entry_reads memory at =
    ept_walk_reads memory.physical memory.eptp at Read
    ++ where_ok (ept_walk memory.physical memory.eptp at Read) (λ place. place.0 ∷ [])

-- the account after the entry at a guest-physical place is read
unfoldable pub entry_rule : {Account : Type 0} → (PhysCall → Physical → Account → Account) → MemoryBehindEpt → ℕ → Account
    → Account
entry_rule rule memory at account = account_after_words rule memory.physical (guest_entry_reads memory at) account

-- the last address goes through for the access
abbrev pub page_answer : Result PhysAddr EptStop → Result PhysAddr NestedStop
page_answer (Ok place) = Ok place
page_answer (Err stop) = Err (nested.Page stop)

abbrev pub page_behind : MemoryBehindEpt → Access → Result GuestPhys WalkStop → Result PhysAddr NestedStop
page_behind memory access (Ok at) = page_answer (ept_walk memory.physical memory.eptp at.0 access)
page_behind memory access (Err stop) = Err (nested.Walk stop)

-- the nested walk
unfoldable pub translation : MemoryBehindEpt → ℕ → ℕ → Access → Result PhysAddr NestedStop
translation memory cr3 linear access = page_behind memory access (guest_walk (guest_entry memory) cr3 linear access)

-- the words that are read for the entries at these places
abbrev pub entries_reads : MemoryBehindEpt → List ℕ → List ℕ
entries_reads memory [] = []
entries_reads memory (place ∷ places) = guest_entry_reads memory place ++ entries_reads memory places

-- the words that the nested walk reads
unfoldable pub translation_reads : MemoryBehindEpt → ℕ → ℕ → Access → List ℕ
translation_reads memory cr3 linear access =
    entries_reads memory (walk_reads (guest_entry memory) cr3 linear access)
    ++ where_ok (guest_walk (guest_entry memory) cr3 linear access) (λ at. ept_walk_reads memory.physical memory.eptp at.0 access)
