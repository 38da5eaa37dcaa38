-- The original state of a thread in a slot, and the law of a slot.
use Rattle.std.specs.Prelude.{◌≡◌, ◌⊎◌, ℕ, ◌<◌, ◌/◌, ◌^◌, ◌==◌, ◌&&◌, if◌then◌else◌, List, [], ◌∷◌, ◌++◌, map, flat_map, length, slice_set, pos}
use Rattle.sb_insn.specs.declared.insn.Insn.{Insn}
use Rattle.sb_insn.specs.declared.insn.Disp.{Disp}
use Rattle.sb_insn.specs.declared.insn.Disp.TheVariants as disp
use Rattle.sb_insn.specs.declared.registers.Regs.{Regs}
use Rattle.sb_exec.specs.declared.action.Effect.TheVariants.{Next}
use Rattle.sb_exec.specs.declared.action.Load.TheVariants as load
use Rattle.sb_exec.specs.declared.action.Store.TheVariants as store
use Rattle.sb_exec.specs.Interface.{Interface}
use Rattle.sb_exec.specs.Operand.{general, next_rip}
use Rattle.sb_exec.specs.Row.{Row}
use Rattle.sb_exec.specs.Rows.{row_of}
use Rattle.sb_forms.specs.declared.helper.Helper.{Helper}
use Rattle.sb_insn.specs.RegisterNumbers.{modrm_of}
use Rattle.sb_forms.specs.Registers.{number_of}
use Rattle.sb_forms.specs.Table.{Replacement, Keep, Moved, InPlace, Unmovable, is_one_byte, is_modrm}
use Rattle.sb_original.specs.Words.{ScratchWord, FirstSaved, SecondSaved, Words, place_of, word_of}
use Rattle.sb_original.specs.Kept.{AgreeBut}
use Rattle.sb_original.specs.Alike.{hides}
use Rattle.sb_original.specs.Slot.{Slotted, Does}

-- ---- at or before main

-- the number of a register, and the word in which it is saved
pub record Save : Type 0 where
  pub number : ℕ
  pub which : ScratchWord

-- the registers with the helpers that were saved
abbrev pub unsaved : List Save → Words → List ℕ → List ℕ
unsaved [] words registers = registers
unsaved (save ∷ saves) words registers = unsaved saves words (slice_set registers save.number (word_of save.which words))

-- At or before main the original state has RIP at the listed start, and the helpers as they were saved.
abbrev pub original : List Save → ℕ → Slotted → Regs
original saves start state = record (state.regs) { general = unsaved saves state.words state.regs.general; rip = start }

-- what is saved at an address
abbrev pub save_at : Disp → ℕ → List Save
save_at (disp.D32 (pos address)) number =
    if address == place_of FirstSaved then record { number = number; which = FirstSaved } ∷ []
    else if address == place_of SecondSaved then record { number = number; which = SecondSaved } ∷ []
    else []
save_at (disp.D32 distance) number = []
save_at (disp.D8 distance) number = []
save_at disp.None number = []

-- what an instruction saves: it is MOV of a register to one of the first two words
abbrev pub saved_by : Insn → List Save
saved_by insn =
    if is_one_byte 0x89 insn.op && (is_modrm 0x48 insn.rex && is_modrm 0x25 insn.sib) then save_at insn.disp
    (modrm_of insn / 8) else []

-- what is saved once these instructions are done
abbrev pub saves_done : List Insn → List Save
saves_done insns = flat_map saved_by insns

-- an instruction before main, and what is saved once it is done
pub record Stage : Type 0 where
  pub insn : Insn
  pub saves : List Save

abbrev pub insns_of : List Stage → List Insn
insns_of stages = map (λ stage. stage.insn) stages

-- each saves what it says, behind those that are saved already
abbrev pub AreDone : List Save → List Stage → Type 0
AreDone saves [] = Unit {0}
AreDone saves (stage ∷ stages) = (stage.saves ≡ saves ++ saved_by stage.insn) × AreDone stage.saves stages

-- they go on one to the next, and leave the original state
abbrev pub Before : {M A N : Type 0} → Interface M A → (Words → M → N → Type 0) → ℕ → Regs → List Stage → Slotted → Slotted
    → Type 0
Before bus Holds start regs [] old new = new ≡ old
Before bus Holds start regs (stage ∷ stages) old new =
    (mid : Slotted) × Does bus Holds stage.insn old mid × (mid.regs.rip ≡ next_rip stage.insn old.regs)
    × (original stage.saves start mid ≡ regs)
    × Before bus Holds start regs stages mid new

-- ---- behind main

-- it goes on to the next instruction of the slot, if one is left
abbrev pub GoesOn : Insn → List Insn → Slotted → Slotted → Type 0
GoesOn insn [] old new = Unit {0}
GoesOn insn (next ∷ insns) old new = new.regs.rip ≡ next_rip insn old.regs

-- Behind main the original state is what the rest of the slot gives: the rest goes on to it.
abbrev pub Behind : {M A N : Type 0} → Interface M A → (Words → M → N → Type 0) → Regs → List Insn → Slotted → Type 0
Behind bus Holds regs [] state = state.regs ≡ regs
Behind bus Holds regs (insn ∷ insns) state =
    (mid : Slotted) × Does bus Holds insn state mid × GoesOn insn insns state mid × Behind bus Holds regs insns mid

-- ---- main

-- the same accesses, stored numbers and effect
pub record SameAccesses (row other : Row) : Type 0 where
  pub load : other.load ≡ row.load
  pub store : other.store ≡ row.store
  pub effect : other.effect ≡ row.effect
  pub stored : (loaded : ℕ) → (other.after loaded).stored ≡ (row.after loaded).stored

-- registers of a machine
pub record IsRegs (regs : Regs) : Type 0 where
  pub count : length regs.general ≡ 16
  pub fit : (number : ℕ) → general regs number < 2 ^ 64

-- Main makes the original's accesses with the original's numbers, and the rest of the slot gives the original's registers.
pub record ByAccesses {M A N : Type 0} (bus : Interface M A) (Holds : Words → M → N
    → Type 0) (row other : Row) (next : ℕ) (post : List Insn) (words : Words) : Type 0 where
  pub accesses : SameAccesses row other
  pub goes : (loaded : ℕ) → (other.after loaded).regs.rip ≡ next
  pub behind : (loaded : ℕ)
      → Behind bus Holds (row.after loaded).regs post (record { regs = (other.after loaded).regs; words = words })

-- The original accesses nothing; main accesses the scratch page alone, and the rest of the slot gives the original's registers.
pub record FromScratch {M A N : Type 0} (bus : Interface M A) (Holds : Words → M → N
    → Type 0) (row : Row) (main : Insn) (post : List Insn) (ready : Slotted) : Type 0 where
  pub load : row.load ≡ load.Nothing
  pub store : row.store ≡ store.Nothing
  pub effect : row.effect ≡ Next
  pub after : Slotted
  pub does : Does bus Holds main ready after
  pub goes : after.regs.rip ≡ next_rip main ready.regs
  pub behind : Behind bus Holds (row.after 0).regs post after

-- The law of a slot, from a state at its start: the instructions before main leave the original state, and main makes the
-- original's step.
pub record SlotLaw {M A N : Type 0} (bus : Interface M A) (Holds : Words → M → N
    → Type 0) (insn : Insn) (start : ℕ) (pre : List Insn) (main : Insn)
    (post : List Insn) (state : Slotted) : Type 0 where
  pub stages : List Stage
  pub staged : insns_of stages ≡ pre
  pub done : AreDone [] stages
  pub ready : Slotted
  pub before : Before bus Holds start (record (state.regs) { rip = start }) stages state ready
  pub work : ByAccesses bus Holds (row_of insn (record (state.regs) { rip = start })) (row_of main ready.regs)
      (next_rip main ready.regs) post ready.words
      ⊎ FromScratch bus Holds (row_of insn (record (state.regs) { rip = start })) main post ready

-- with the same saves behind each instruction
abbrev pub staged : List Save → List Insn → List Stage
staged saves [] = []
staged saves (insn ∷ insns) = record { insn = insn; saves = saves } ∷ staged saves insns

-- where the registers agree but for the helpers, and the words are these, the original state is this one
abbrev pub IsKept : List Save → ℕ → Regs → List ℕ → Regs → Words → Type 0
IsKept saves start regs numbers old words = (state : Slotted) → AgreeBut (hides numbers) old state.regs → state.words ≡ words
    → original saves start state ≡ regs

-- the instructions before main go on to a state in which the registers agree but for the helpers, and one helper has a value
pub record Loads {M A N : Type 0} (bus : Interface M A) (Holds : Words → M → N
    → Type 0) (saves : List Save) (start : ℕ) (regs : Regs) (numbers : List ℕ) (old : Regs)
    (helper : Helper) (value : ℕ) (insns : List Insn) (state : Slotted) : Type 0 where
  pub new : Slotted
  pub before : Before bus Holds start regs (staged saves insns) state new
  pub agree : AgreeBut (hides numbers) old new.regs
  pub words : new.words ≡ state.words
  pub loaded : general new.regs (number_of helper) ≡ value
  pub others : (number : ℕ) → (number ≡ number_of helper → ⊥) → general new.regs number ≡ general state.regs number

-- ---- what stands in place of an instruction

-- In place one instruction makes the original's accesses and leaves the original's registers.
pub record InPlaceLaw (row : Row) (main : Insn) (regs : Regs) : Type 0 where
  pub accesses : SameAccesses row (row_of main regs)
  pub registers : (loaded : ℕ) → ((row_of main regs).after loaded).regs ≡ (row.after loaded).regs

-- The law of a form whose slot is entered with these registers and words, in place of the instruction at `start`.
abbrev pub FormLaw : {M A N : Type 0} → Interface M A → (Words → M → N → Type 0) → Insn → ℕ → Slotted → Replacement → Type 0
FormLaw bus Holds insn start state (Moved pre main post) = SlotLaw bus Holds insn start pre main post state
FormLaw bus Holds insn start state (InPlace (main ∷ [])) =
    InPlaceLaw (row_of insn (record (state.regs) { rip = start })) main (record (state.regs) { rip = start })
FormLaw bus Holds insn start state (InPlace mains) = Unit {0}
FormLaw bus Holds insn start state Keep = Unit {0}
FormLaw bus Holds insn start state Unmovable = Unit {0}
