-- Translations through the lists of a machine, by the words of its cores and a memory; and those that an instruction leaves.
use Rattle.std.proofs.Common.{◌≡◌, ◌∙◌, sym, ap, subst, ℕ, ◌<◌, length, refl, Result, Ok}
use Rattle.std.specs.Prelude.{IsTrue, Option, Some, None}
use Rattle.sb_memory.specs.Physical.{Physical}
use Rattle.sb_memory.specs.Words.{word_at}
use Rattle.sb_memory.specs.declared.address.Access.{Access}
use Rattle.sb_memory.specs.declared.address.PhysAddr.{PhysAddr}
use Rattle.sb_insn.specs.declared.insn.Insn.{Insn}
use Rattle.sb_exec.specs.Rows.{row_of}
use Rattle.sb_walks.specs.declared.stop.NestedStop.{NestedStop}
use Rattle.sb_walks.specs.Entry.{entry_in}
use Rattle.sb_walks.specs.Ept.{is_eptp}
use Rattle.sb_walks.specs.Nested.{memory_behind, translation}
use Rattle.sb_root.specs.Root.{list_entry}
use Rattle.sb_trace.specs.declared.event.Event.{Event}
use Rattle.sb_trace.specs.declared.event.Event.TheVariants.{Sys}
use Rattle.sb_trace.specs.State.{State}
use Rattle.sb_trace.specs.Windows.{process_shown}
use Rattle.sb_shows.specs.Placement.{Placement}
use Rattle.sb_shows.specs.Related.{cr3_of}
use Rattle.sb_shows.specs.Shows.{IsEntryFor, IsView, entry_at, present_index}
use Rattle.sb_shows.proofs.Shown.{core_sees}
use Rattle.sb_shows.proofs.Translating.{translations_stay_on}
use Rattle.sb_machine.specs.Machine.{Machine, state_at, view_at, words_of, no_account}
use Rattle.sb_machine.specs.StandsFor.{IsMachineOf}
use Rattle.sb_machine.specs.Translations.{IsPointer, list_word, translation_through, SameTranslations, SameAddresses, KeepsTranslations}
use Rattle.sb_machine.specs.Written.{execution_on}
use Rattle.sb_machine.proofs.Seeing.{small, sees, executed}
use Rattle.sb_machine.proofs.Shown.{machines_show}
use Rattle.sb_machine.proofs.Words.{Leaves, SameWords}

-- where an address leads through another memory, by the words of a machine
abbrev pub through : Machine → Physical → ℕ → ℕ → ℕ → Access → Result PhysAddr NestedStop
through machine memory core index linear access =
    translation (memory_behind memory (entry_at memory (words_of machine core) index)) (words_of machine core).cr3 linear access

-- each translation through a pointer is the same in that memory
abbrev pub SameThrough : Machine → Physical → Type 0
SameThrough machine memory =
    (core index linear : ℕ) (access : Access) → IsPointer machine core index
    → through machine memory core index linear access ≡ translation_through machine core index linear access

-- each that gave an address gives it there
abbrev pub AddressesThrough : Machine → Physical → Type 0
AddressesThrough machine memory =
    (core index linear : ℕ) (access : Access) (place : PhysAddr) → IsPointer machine core index
    → translation_through machine core index linear access ≡ Ok place → through machine memory core index linear access ≡ Ok place

-- ---- from words and memory to translations

-- the words that stay are those by which the new memory is walked
pub through_is : (old new : Machine) → SameWords old new → (core index linear : ℕ) (access : Access)
    → translation_through new core index linear access ≡ through old new.memory core index linear access
through_is old new same core index linear access =
    ap (λ (list : ℕ). translation (memory_behind new.memory (word_at new.memory.bytes (entry_in list index)))
    (words_of new core).cr3 linear access) (same.list core)
    ∙ ap (λ (cr3 : ℕ). translation (memory_behind new.memory (entry_at new.memory (words_of old core) index)) cr3 linear access)
    (same.cr3 core)

pub same_by : (old new : Machine) → SameWords old new → SameThrough old new.memory → SameTranslations old new
same_by old new words stay core index linear access pointer =
    through_is old new words core index linear access ∙ stay core index linear access pointer

pub addresses_by : (old new : Machine) → SameWords old new → AddressesThrough old new.memory → SameAddresses old new
addresses_by old new words stay core index linear access place pointer leads =
    through_is old new words core index linear access ∙ stay core index linear access place pointer leads

pub same_memory : (machine : Machine) (memory : Physical) → memory ≡ machine.memory → SameThrough machine memory
same_memory machine memory is core index linear access pointer =
    ap (λ (one : Physical). through machine one core index linear access) is

pub same_left : (old new : Machine) → Leaves old new → SameTranslations old new
same_left old new leaves = same_by old new leaves.words (same_memory old new.memory leaves.memory)

-- what keeps all keeps what each line asks
pub keeps_all : (event : Event) (old new : Machine) → SameTranslations old new → KeepsTranslations event old new
keeps_all (Sys number answer) old new same = record {
  refused = λ bad. same;
  served = λ other core index linear access place pointer leads. same core index linear access pointer ∙ leads;
}
keeps_all _ old new same = same

-- and it is kept by a machine with the same translations
pub keeps_on : (event : Event) (old mid new : Machine)
    → ((core index linear : ℕ) (access : Access)
    → translation_through new core index linear access ≡ translation_through mid core index linear access)
    → KeepsTranslations event old mid → KeepsTranslations event old new
keeps_on (Sys number answer) old mid new same keeps = record {
  refused = λ bad core index linear access pointer.
      same core index linear access ∙ keeps.refused bad core index linear access pointer;
  served = λ other core index linear access place pointer leads.
      same core index linear access ∙ keeps.served other core index linear access place pointer leads;
}
keeps_on _ old mid new same keeps =
    λ core index linear access pointer. same core index linear access ∙ keeps core index linear access pointer

-- an entry that is a pointer has a view
entry_shows : (found : Option ℕ) (entry : ℕ) → IsEntryFor found entry → IsTrue (is_eptp entry)
    → (process : ℕ) × (found ≡ Some process)
entry_shows None entry zero pointer = absurd (let none = subst (λ (word : ℕ). IsTrue (is_eptp word)) zero pointer in cc)
entry_shows (Some process) entry is pointer = (process, refl)

module _ (machine : Machine) (state : State) (is : IsMachineOf machine state) where
  pub shows : (core index : ℕ) → IsPointer machine core index → IsView state core index
  shows core index pointer =
      entry_shows (process_shown state.threads core index) (list_word machine core index)
      ((machines_show machine state is).entries core index (small machine state is core pointer.core_is) pointer.index_is)
      pointer.pointer

  module _ (number : ℕ) (there : number < length machine.cores) where
    abbrev placement : Placement
    placement = is.stands.placement

    abbrev after : Insn → Physical
    after insn = (execution_on machine number insn).meaning.physical

    -- the entry of a list behind an instruction is that of the root kernel
    entry_after : (insn : Insn) (core index : ℕ) → IsPointer machine core index
        → entry_at (after insn) (words_of machine core) index ≡ list_entry placement.root core index
    entry_after insn core index pointer =
        let list = is.words.list core (small machine state is core pointer.core_is) in
        let keeps = (executed machine state is number there insn).related.keeps in
        ap (λ (frame : ℕ). word_at (after insn).bytes (entry_in frame index)) list.2
        ∙ (keeps.leads.stands.lists core list.0 list.1).entry index pointer.index_is

    -- a translation by the words of a core is one by those of the root kernel
    by_root : (memory : Physical) (core index linear : ℕ) (access : Access)
        → entry_at memory (words_of machine core) index ≡ list_entry placement.root core index
        → (words_of machine core).cr3 ≡ cr3_of state core
        → through machine memory core index linear access
        ≡ translation (memory_behind memory (list_entry placement.root core index)) (cr3_of state core) linear access
    by_root memory core index linear access entry cr3 =
        ap (λ (eptp : ℕ). translation (memory_behind memory eptp) (words_of machine core).cr3 linear access) entry
        ∙ ap (λ (root : ℕ). translation (memory_behind memory (list_entry placement.root core index)) root linear access) cr3

    -- so an instruction leaves each translation
    pub executed_stays : (insn : Insn) → SameThrough machine (after insn)
    executed_stays insn core index linear access pointer =
        let view = shows core index pointer in
        let seen =
        core_sees placement state machine.memory (words_of machine) is.stands.keeps is.words core index view in
        let stays =
        translations_stay_on no_account placement number (present_index state number) (row_of insn (state_at machine number).regs)
        (state_at machine number).regs state (view_at machine number) tt (sees machine state is number there) in
        by_root (after insn) core index linear access (entry_after insn core index pointer) seen.cr3
        ∙ (stays core index view linear access
        ∙ sym (by_root machine.memory core index linear access seen.eptp seen.cr3))
