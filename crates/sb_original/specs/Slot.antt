-- A thread in a slot: its registers, the words of its scratch page, and what each piece makes of them.
use Rattle.std.specs.Prelude.{◌≡◌, ℕ, ◌+◌, ◌%◌, ◌^◌, ◌≤◌, ◌==◌, if◌then◌else◌, List, [], ◌∷◌, Ok, ℤ, slice_set}
use Rattle.std.specs.Int.{w64, cast_unsigned}
use Rattle.std.specs.List.{AllByRecursion}
use Rattle.sb_abi.specs.declared.trampoline.TheConstants.{SCRATCH_ADDRESS}
use Rattle.sb_memory.specs.declared.page.TheConstants.{PAGE_SIZE}
use Rattle.sb_insn.specs.declared.insn.Insn.{Insn}
use Rattle.sb_insn.specs.declared.registers.Regs.{Regs}
use Rattle.sb_alu.specs.declared.size.Size.{Size}
use Rattle.sb_alu.specs.declared.size.Size.TheVariants.{Byte, Doubleword, Quadword}
use Rattle.sb_exec.specs.declared.action.Effect.TheVariants.{Next}
use Rattle.sb_exec.specs.declared.action.Load.{Load}
use Rattle.sb_exec.specs.declared.action.Load.TheVariants as load
use Rattle.sb_exec.specs.declared.action.Store.{Store}
use Rattle.sb_exec.specs.declared.action.Store.TheVariants as store
use Rattle.sb_exec.specs.Interface.{Interface}
use Rattle.sb_exec.specs.Operand.{general}
use Rattle.sb_exec.specs.WriteBack.{regs_at_next}
use Rattle.sb_exec.specs.Row.{Row, MemoryAccess, Loads, LoadsForWrite, Stores, accesses}
use Rattle.sb_exec.specs.Rows.{row_of}
use Rattle.sb_exec.specs.Execution.{execution_of}
use Rattle.sb_forms.specs.declared.helper.Helper.{Helper}
use Rattle.sb_forms.specs.Registers.{number_of}
use Rattle.sb_forms.specs.Pieces.{first_saved, second_saved, scratch_word, upper_half, save, restore, save_half, load_number, add_number}
use Rattle.sb_original.specs.Words.{ScratchWord, FirstSaved, SecondSaved, Third, Words, place_of, upper_place, word_of, with_word, with_lower, with_upper}

-- registers, and what the scratch page holds
pub record Slotted : Type 0 where
  pub regs : Regs
  pub words : Words

-- a register with another value
abbrev pub with_general : ℕ → ℕ → Regs → Regs
with_general number value regs = record regs { general = slice_set regs.general number value }

-- the same at the next instruction
abbrev pub set_and_step : Insn → ℕ → ℕ → Slotted → Slotted
set_and_step insn number value state =
    record { regs = with_general number value (regs_at_next insn state.regs); words = state.words }

-- ---- an instruction over the registers and the words alone, which change as its row says

abbrev pub word_at : ℕ → Words → ℕ
word_at address words =
    if address == place_of FirstSaved then words.first
    else if address == place_of SecondSaved then words.second
    else words.third

abbrev pub loaded_word : Load → Words → ℕ
loaded_word load.Nothing words = 0
loaded_word (load.Read address size) words = word_at address.0 words
loaded_word (load.ReadForWrite address size) words = word_at address.0 words

-- the third word is stored whole or by halves
abbrev pub third_stored : Size → ℕ → Words → Words
third_stored Doubleword value words = with_lower value words
third_stored Quadword value words = with_word Third value words
third_stored Byte value words = with_word Third value words

abbrev pub word_stored : ℕ → Size → ℕ → Words → Words
word_stored address size value words =
    if address == place_of FirstSaved then with_word FirstSaved value words
    else if address == place_of SecondSaved then with_word SecondSaved value words
    else if address == upper_place then with_upper value words
    else third_stored size value words

abbrev pub stored_words : Store → ℕ → Words → Words
stored_words store.Nothing value words = words
stored_words (store.At address size) value words = word_stored address.0 size value words

abbrev pub worked_by : Row → Words → Slotted
worked_by row words = record {
  regs = (row.after (loaded_word row.load words)).regs;
  words = stored_words row.store (row.after (loaded_word row.load words)).stored words;
}

-- what the instruction makes of registers and words
abbrev pub worked : Insn → Slotted → Slotted
worked insn state = worked_by (row_of insn state.regs) state.words

-- what some make of them, one after another
abbrev pub worked_through : List Insn → Slotted → Slotted
worked_through [] state = state
worked_through (insn ∷ insns) state = worked_through insns (worked insn state)

-- ---- one instruction

-- the access is to the scratch page alone
abbrev pub IsScratch : MemoryAccess → Type 0
IsScratch (Loads address size) = (SCRATCH_ADDRESS ≤ address) × (address + size ≤ SCRATCH_ADDRESS + PAGE_SIZE)
IsScratch (LoadsForWrite address size) = (SCRATCH_ADDRESS ≤ address) × (address + size ≤ SCRATCH_ADDRESS + PAGE_SIZE)
IsScratch (Stores address size value) = (SCRATCH_ADDRESS ≤ address) × (address + size ≤ SCRATCH_ADDRESS + PAGE_SIZE)

-- The law of a piece: it goes on, changes registers and scratch words so, and accesses nothing but the scratch page.
pub record Does {M A N : Type 0} (bus : Interface M A) (Holds : Words → M → N
    → Type 0) (insn : Insn) (old new : Slotted) : Type 0 where
  pub answer : (meaning : M) (other : N) (account : A) → Holds old.words meaning other
      → (execution_of bus (row_of insn old.regs) old.regs meaning account).answer ≡ Ok Next
  pub registers : (meaning : M) (other : N) (account : A) → Holds old.words meaning other
      → (execution_of bus (row_of insn old.regs) old.regs meaning account).registers ≡ new.regs
  pub words : (meaning : M) (other : N) (account : A) → Holds old.words meaning other
      → Holds new.words (execution_of bus (row_of insn old.regs) old.regs meaning account).meaning other
  pub inside : AllByRecursion IsScratch (accesses (row_of insn old.regs))
  pub flags : new.regs.flags ≡ old.regs.flags
  pub made : worked insn old ≡ new

-- ---- what each piece leaves

-- the address of a word, as the pieces spell it
abbrev pub address_of : ScratchWord → ℤ
address_of FirstSaved = first_saved
address_of SecondSaved = second_saved
address_of Third = scratch_word

abbrev pub saved : Helper → ScratchWord → Slotted → Slotted
saved helper which state = record {
  regs = regs_at_next (save helper (address_of which)) state.regs;
  words = with_word which (general state.regs (number_of helper) % 2 ^ 64) state.words;
}

abbrev pub restored : Helper → ScratchWord → Slotted → Slotted
restored helper which state =
    set_and_step (restore helper (address_of which)) (number_of helper) (word_of which state.words % 2 ^ 64) state

abbrev pub number_loaded : Helper → ℤ → Slotted → Slotted
number_loaded helper value state =
    set_and_step (load_number helper value) (number_of helper) (cast_unsigned w64 value % 2 ^ 64) state

abbrev pub number_added : Helper → ℤ → Slotted → Slotted
number_added helper amount state =
    set_and_step (add_number helper amount) (number_of helper)
    ((general state.regs (number_of helper) + cast_unsigned w64 amount) % 2 ^ 64) state

abbrev pub low_saved : Helper → Slotted → Slotted
low_saved helper state = record {
  regs = regs_at_next (save_half helper scratch_word) state.regs;
  words = with_lower (general state.regs (number_of helper) % 2 ^ 32) state.words;
}

abbrev pub high_saved : Helper → Slotted → Slotted
high_saved helper state = record {
  regs = regs_at_next (save_half helper upper_half) state.regs;
  words = with_upper (general state.regs (number_of helper) % 2 ^ 32) state.words;
}

abbrev pub jumped : ℕ → Slotted → Slotted
jumped to state = record { regs = record (state.regs) { rip = to }; words = state.words }
