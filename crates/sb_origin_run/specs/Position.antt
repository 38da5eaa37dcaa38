-- Where an address lies in rewritten code, and what that says of a thread there.
use Rattle.std.specs.Prelude.{◌≡◌, ℕ, ◌+◌, ◌%◌, ◌^◌, Bool, true, false, not, ◌&&◌, if◌then◌else◌, List, [], ◌∷◌, ◌++◌, Some, length}
use Rattle.sb_insn.specs.declared.insn.Insn.{Insn}
use Rattle.sb_insn.specs.declared.registers.Regs.{Regs}
use Rattle.sb_insn.specs.Spelling.{spelling}
use Rattle.sb_bus.specs.declared.stop.BusStop.{BusStop}
use Rattle.sb_exec.specs.Interface.{Interface}
use Rattle.sb_exec.specs.Row.{Row}
use Rattle.sb_exec.specs.Rows.{row_of}
use Rattle.sb_original.specs.Words.{Words}
use Rattle.sb_original.specs.Slot.{Slotted, worked}
use Rattle.sb_original.specs.Original.{IsRegs, InPlaceLaw}
use Rattle.sb_original.specs.Going.{original_before, original_behind, Works, MainWorks, SlotGoes}
use Rattle.sb_origin_run.specs.Machine.{Code, Event, Ran, Stopped, NotFetched, Line}

-- ---- positions

-- a slot: the instruction for which it stands, by its address and its row in the original code, where the slot begins, and
-- its instructions
pub record Slot : Type 0 where
  pub start : ℕ
  pub row : Regs → Row
  pub at : ℕ
  pub pre : List Insn
  pub main : Insn
  pub post : List Insn

-- where an address lies: both codes have the same there, or one instruction in place of one, or the jump to a slot, or
-- several instructions in place, of which the first is main; or it is an instruction of a slot, with those done before it and
-- those left behind it; or nowhere among these
pub data Position : Type 0 where
  Same : Position
  Changed : Position
  Entry : Slot → Position
  AtOnce : Slot → Position
  InPre : Slot → List Insn → Insn → List Insn → Position
  AtMain : Slot → Position
  InPost : Slot → Insn → List Insn → Position
  Nowhere : Position

-- a thread may come here from anywhere
abbrev pub is_open : Position → Bool
is_open Same = true
is_open Changed = true
is_open (Entry slot) = true
is_open (AtOnce slot) = true
is_open (InPre slot done insn left) = false
is_open (AtMain slot) = false
is_open (InPost slot insn left) = false
is_open Nowhere = false

-- the position after some instructions of pre
abbrev pub in_pre : Slot → List Insn → List Insn → Position
in_pre slot done [] = AtMain slot
in_pre slot done (insn ∷ left) = InPre slot done insn left

-- ---- marks

-- the step is none of the original code
abbrev pub is_extra : Position → Bool
is_extra Same = false
is_extra Changed = false
is_extra (Entry slot) = true
is_extra (AtOnce slot) = false
is_extra (InPre slot done insn left) = true
is_extra (AtMain slot) = false
is_extra (InPost slot insn left) = true
is_extra Nowhere = false

-- the step goes into a slot, or on inside it
abbrev pub goes_inside : Position → Bool
goes_inside Same = false
goes_inside Changed = false
goes_inside (Entry slot) = true
goes_inside (AtOnce slot) = true
goes_inside (InPre slot done insn left) = true
goes_inside (AtMain slot) = true
goes_inside (InPost slot insn []) = false
goes_inside (InPost slot insn (next ∷ left)) = true
goes_inside Nowhere = false

-- the step leads where no thread may come from there
abbrev pub leads_astray : Position → Position → Bool
leads_astray from to = not (is_open to) && not (goes_inside from)

-- ---- the original state

abbrev pub original_at : Position → Slotted → Regs
original_at (InPre slot done insn left) state = original_before slot.start done state
original_at (AtMain slot) state = original_before slot.start slot.pre state
original_at (InPost slot insn left) state = original_behind (insn ∷ left) state
original_at Same state = state.regs
original_at Changed state = state.regs
original_at (Entry slot) state = state.regs
original_at (AtOnce slot) state = state.regs
original_at Nowhere state = state.regs

abbrev pub original_rip : Position → ℕ → ℕ
original_rip (AtMain slot) rip = slot.start
original_rip Same rip = rip
original_rip Changed rip = rip
original_rip (Entry slot) rip = rip
original_rip (AtOnce slot) rip = rip
original_rip (InPre slot done insn left) rip = rip
original_rip (InPost slot insn left) rip = rip
original_rip Nowhere rip = rip

abbrev pub told_event : (BusStop → BusStop) → Event → Event
told_event naming (Ran effect) = Ran effect
told_event naming (Stopped stop) = Stopped (naming stop)
told_event naming NotFetched = NotFetched

-- the lines without the extra ones, with the original addresses
abbrev pub original_lines : (ℕ → Position) → (BusStop → BusStop) → List Line → List Line
original_lines place naming [] = []
original_lines place naming (line ∷ lines) =
    if is_extra (place line.rip) then original_lines place naming lines
    else record {
      rip = original_rip (place line.rip) line.rip;
      event = told_event naming line.event;
    } ∷ original_lines place naming lines

-- ---- rewritten code

-- what stands behind an instruction of post
abbrev pub IsNext : (ℕ → Position) → Slot → List Insn → ℕ → Type 0
IsNext place slot [] address = Unit {0}
IsNext place slot (insn ∷ left) address = place address ≡ InPost slot insn left

-- main has an instruction behind it
abbrev pub HasNext : (ℕ → Position) → Slot → List Insn → ℕ → Type 0
HasNext place slot [] address = ⊥
HasNext place slot (insn ∷ left) address = place address ≡ InPost slot insn left

abbrev pub behind : ℕ → Insn → ℕ
behind address insn = (address + length (spelling insn)) % 2 ^ 64

-- A code stands for another at an address, by its position: what both have there, and where the next instruction lies.
abbrev pub Stands : {M A N : Type 0} → Interface M A → (Words → M → N → Type 0) → Code → Code → (ℕ → Position) → ℕ → Position
    → Type 0
Stands bus Holds target source place address Same = source address ≡ target address
Stands bus Holds target source place address Changed =
    (row : Regs → Row) × (main : Insn) × (source address ≡ Some row) × (target address ≡ Some (λ regs. row_of main regs))
    × ((regs : Regs) → regs.rip ≡ address → IsRegs regs → InPlaceLaw (row regs) main regs)
Stands bus Holds target source place address (Entry slot) =
    (insn : Insn) × (target address ≡ Some (λ regs. row_of insn regs)) × (slot.start ≡ address)
    × (place slot.at ≡ in_pre slot [] slot.pre)
    × ((state : Slotted) → state.regs.rip ≡ address
    → Works bus Holds insn state
    × (worked insn state ≡ record { regs = record (state.regs) { rip = slot.at }; words = state.words }))
    × ((state : Slotted) → state.regs.rip ≡ slot.at → IsRegs state.regs
    → SlotGoes bus Holds (slot.row (record (state.regs) { rip = slot.start })) slot.start slot.pre slot.main slot.post state)
Stands bus Holds target source place address (AtOnce slot) =
    (source address ≡ Some slot.row) × (target address ≡ Some (λ regs. row_of slot.main regs))
    × HasNext place slot slot.post (behind address slot.main)
    × ((state : Slotted) → state.regs.rip ≡ address → IsRegs state.regs
    → MainWorks bus Holds (slot.row state.regs) slot.main slot.post state)
Stands bus Holds target source place address (InPre slot done insn left) =
    (target address ≡ Some (λ regs. row_of insn regs)) × (done ++ insn ∷ left ≡ slot.pre)
    × (place (behind address insn) ≡ in_pre slot (done ++ insn ∷ []) left)
Stands bus Holds target source place address (AtMain slot) =
    (source slot.start ≡ Some slot.row) × (target address ≡ Some (λ regs. row_of slot.main regs))
    × HasNext place slot slot.post (behind address slot.main)
Stands bus Holds target source place address (InPost slot insn left) =
    (target address ≡ Some (λ regs. row_of insn regs)) × IsNext place slot left (behind address insn)
Stands bus Holds target source place address Nowhere = Unit {0}
