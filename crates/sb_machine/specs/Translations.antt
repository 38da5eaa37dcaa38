-- Which translations a step of a machine leaves as they were.
use Rattle.std.specs.Prelude.{ℕ, ◌≡◌, ◌≢◌, ◌<◌, Ok, Result, IsTrue, length}
use Rattle.sb_abi.specs.Numbers.{call_number}
use Rattle.sb_abi.specs.declared.call.Call.TheVariants.{Protect}
use Rattle.sb_memory.specs.declared.address.Access.{Access}
use Rattle.sb_memory.specs.declared.address.PhysAddr.{PhysAddr}
use Rattle.sb_walks.specs.declared.stop.NestedStop.{NestedStop}
use Rattle.sb_walks.specs.Ept.{is_eptp}
use Rattle.sb_walks.specs.Nested.{memory_behind, translation}
use Rattle.sb_trace.specs.declared.event.Event.{Event}
use Rattle.sb_trace.specs.declared.event.Event.TheVariants.{Sys}
use Rattle.sb_shows.specs.Shows.{entry_at}
use Rattle.sb_machine.specs.Machine.{Machine, words_of}

-- the entry of a core's list at an index
abbrev pub list_word : Machine → ℕ → ℕ → ℕ
list_word machine core index = entry_at machine.memory (words_of machine core) index

-- it is an EPT pointer
pub record IsPointer (machine : Machine) (core index : ℕ) : Type 0 where
  pub core_is : core < length machine.cores
  pub index_is : index < 512
  pub pointer : IsTrue (is_eptp (list_word machine core index))

-- where a linear address leads through that entry and the core's CR3
abbrev pub translation_through : Machine → ℕ → ℕ → ℕ → Access → Result PhysAddr NestedStop
translation_through machine core index linear access =
    translation (memory_behind machine.memory (list_word machine core index)) (words_of machine core).cr3 linear access

-- each translation through a pointer gives the same address, or the same refusal
abbrev pub SameTranslations : Machine → Machine → Type 0
SameTranslations old new =
    (core index linear : ℕ) (access : Access) → IsPointer old core index
    → translation_through new core index linear access ≡ translation_through old core index linear access

-- each that gave an address gives it
abbrev pub SameAddresses : Machine → Machine → Type 0
SameAddresses old new =
    (core index linear : ℕ) (access : Access) (place : PhysAddr) → IsPointer old core index
    → translation_through old core index linear access ≡ Ok place → translation_through new core index linear access ≡ Ok place

-- a refused call keeps all translations, and one that does not protect keeps those that give an address
pub record CallKeeps (number answer : ℕ) (old new : Machine) : Type 0 where
  pub refused : answer ≢ 0 → SameTranslations old new
  pub served : number ≢ call_number Protect → SameAddresses old new

-- A step that is no call but `exit` or `print` keeps all translations.
abbrev pub KeepsTranslations : Event → Machine → Machine → Type 0
KeepsTranslations (Sys number answer) old new = CallKeeps number answer old new
KeepsTranslations _ old new = SameTranslations old new
