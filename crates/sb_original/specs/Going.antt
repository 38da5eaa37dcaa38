-- The original state of a thread in a slot as a function, and the laws by it.
use Rattle.std.specs.Prelude.{◌≡◌, ◌⊎◌, ℕ, false, if◌then◌else◌, List, [], ◌∷◌, ◌++◌}
use Rattle.sb_insn.specs.declared.insn.Insn.{Insn}
use Rattle.sb_insn.specs.declared.registers.Regs.{Regs}
use Rattle.sb_exec.specs.declared.action.Effect.TheVariants.{Next}
use Rattle.sb_exec.specs.declared.action.Load.TheVariants as load
use Rattle.sb_exec.specs.declared.action.Store.TheVariants as store
use Rattle.sb_exec.specs.Interface.{Interface}
use Rattle.sb_exec.specs.Operand.{next_rip}
use Rattle.sb_exec.specs.WriteBack.{regs_at_next, without_store}
use Rattle.sb_exec.specs.Row.{Row}
use Rattle.sb_exec.specs.Rows.{row_of}
use Rattle.sb_forms.specs.Table.{Replacement, Keep, Moved, InPlace, Unmovable, is_vmfunc}
use Rattle.sb_original.specs.Words.{Words}
use Rattle.sb_original.specs.Slot.{Slotted, Does, worked, worked_through}
use Rattle.sb_original.specs.Original.{original, saves_done, GoesOn, SameAccesses, InPlaceLaw}

-- ---- the original state

-- at or before main, where these instructions before main are done
abbrev pub original_before : ℕ → List Insn → Slotted → Regs
original_before start done state = original (saves_done done) start state

-- behind main, where these instructions of the slot are left
abbrev pub original_behind : List Insn → Slotted → Regs
original_behind left state = (worked_through left state).regs

-- ---- laws

-- an instruction of a slot makes what it makes of registers and words, on each memory that holds the words
abbrev pub Works : {M A N : Type 0} → Interface M A → (Words → M → N → Type 0) → Insn → Slotted → Type 0
Works bus Holds insn state = Does bus Holds insn state (worked insn state)

-- before main the original state stays the same, and each instruction goes on to the next
abbrev pub Ahead : {M A N : Type 0} → Interface M A → (Words → M → N → Type 0) → ℕ → Regs → List Insn → List Insn → Slotted
    → Type 0
Ahead bus Holds start regs done [] state = original_before start done state ≡ regs
Ahead bus Holds start regs done (insn ∷ left) state =
    (original_before start done state ≡ regs) × Works bus Holds insn state
    × ((worked insn state).regs.rip ≡ next_rip insn state.regs)
    × Ahead bus Holds start regs (done ++ insn ∷ []) left (worked insn state)

-- behind main each instruction works, and goes on where one is left
abbrev pub Left : {M A N : Type 0} → Interface M A → (Words → M → N → Type 0) → Regs → List Insn → Slotted → Type 0
Left bus Holds regs [] state = state.regs ≡ regs
Left bus Holds regs (insn ∷ left) state =
    Works bus Holds insn state × GoesOn insn left state (worked insn state) × Left bus Holds regs left (worked insn state)

-- main makes the accesses of the original's row, and the rest of the slot gives its registers
pub record MakesAccesses {M A N : Type 0} (bus : Interface M A) (Holds : Words → M → N
    → Type 0) (row : Row) (main : Insn) (post : List Insn) (ready : Slotted) : Type 0 where
  pub accesses : SameAccesses row (row_of main ready.regs)
  pub goes : (loaded : ℕ) → ((row_of main ready.regs).after loaded).regs.rip ≡ next_rip main ready.regs
  pub left : (loaded : ℕ)
      → Left bus Holds (row.after loaded).regs post
      (record { regs = ((row_of main ready.regs).after loaded).regs; words = ready.words })

-- the original's row accesses nothing; main is itself one that works on the scratch page
pub record AccessesNothing {M A N : Type 0} (bus : Interface M A) (Holds : Words → M → N
    → Type 0) (row : Row) (main : Insn) (post : List Insn) (ready : Slotted) : Type 0 where
  pub load : row.load ≡ load.Nothing
  pub store : row.store ≡ store.Nothing
  pub effect : row.effect ≡ Next
  pub works : Works bus Holds main ready
  pub goes : (worked main ready).regs.rip ≡ next_rip main ready.regs
  pub left : Left bus Holds (row.after 0).regs post (worked main ready)

abbrev pub MainWorks : {M A N : Type 0} → Interface M A → (Words → M → N → Type 0) → Row → Insn → List Insn → Slotted → Type 0
MainWorks bus Holds row main post ready =
    MakesAccesses bus Holds row main post ready ⊎ AccessesNothing bus Holds row main post ready

-- The law of a slot that is entered in a state, in place of an instruction with this row at `start`.
pub record SlotGoes {M A N : Type 0} (bus : Interface M A) (Holds : Words → M → N
    → Type 0) (row : Row) (start : ℕ) (pre : List Insn) (main : Insn) (post : List Insn) (state : Slotted) : Type 0 where
  pub ahead : Ahead bus Holds start (record (state.regs) { rip = start }) [] pre state
  pub work : MainWorks bus Holds row main post (worked_through pre state)

-- ---- what the original code does

-- VMFUNC of the original code goes on at the next instruction
abbrev pub passing_row : Insn → Regs → Row
passing_row insn regs =
    record { load = load.Nothing; store = store.Nothing; after = λ loaded. without_store (regs_at_next insn regs); effect = Next }

abbrev pub original_row : Insn → Regs → Row
original_row insn regs = if is_vmfunc insn.op then passing_row insn regs else row_of insn regs

-- What stands in place of an instruction at `start` does what the instruction does. Several instructions in place are a
-- slot whose first is main. A thread at `start` has these registers but for RIP.
abbrev pub Goes : {M A N : Type 0} → Interface M A → (Words → M → N → Type 0) → Insn → ℕ → Slotted → Replacement → Type 0
Goes bus Holds insn start state Keep = is_vmfunc insn.op ≡ false
Goes bus Holds insn start state (InPlace []) = ⊥
Goes bus Holds insn start state (InPlace (main ∷ [])) =
    InPlaceLaw (original_row insn (record (state.regs) { rip = start })) main (record (state.regs) { rip = start })
Goes bus Holds insn start state (InPlace (main ∷ next ∷ left)) =
    SlotGoes bus Holds (original_row insn (record (state.regs) { rip = start })) start [] main (next ∷ left)
    (record { regs = record (state.regs) { rip = start }; words = state.words })
Goes bus Holds insn start state (Moved pre main post) =
    SlotGoes bus Holds (original_row insn (record (state.regs) { rip = start })) start pre main post state
Goes bus Holds insn start state Unmovable = ⊥

-- ---- the premise of the law of all of them

abbrev pub IsMovable : Replacement → Type 0
IsMovable Keep = Unit {0}
IsMovable (InPlace mains) = Unit {0}
IsMovable (Moved pre main post) = Unit {0}
IsMovable Unmovable = ⊥
