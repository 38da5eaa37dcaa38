-- How the writing of a text ends, and what is left of the machine that made it.
use Rattle.std.specs.Prelude.{◌≡◌, ℕ, List, Option, None}
use Rattle.std.specs.Option.{IsSomeAnd}
use Rattle.sb_port.specs.Port.{Rose, Appended}
use Rattle.sb_input.specs.Told.{PartlyAppended}
use Rattle.sb_machine.specs.Machine.{Machine}
use Rattle.sb_input.specs.declared.status.Status.{Status}
use Rattle.sb_input.specs.declared.status.Status.TheVariants.{Done, BadWords, ReadFault, WriteFault, BundleRefused, LoadRefused, NoMemory, TooLong}

-- A text of this kind was written whole, or a part of it before the sink failed, or there was no memory for one.
abbrev pub Writes : (List ℕ → Type 0) → Status → Option (List ℕ) → Option (List ℕ) → ℕ → ℕ → Type 0
Writes IsText Done held held' faults faults' = (text : List ℕ) × IsText text × Appended held held' text
Writes IsText WriteFault held held' faults faults' =
    ((text : List ℕ) × IsText text × PartlyAppended held held' text) × Rose faults faults'
Writes IsText NoMemory held held' faults faults' = held' ≡ held
Writes IsText BadWords held held' faults faults' = ⊥
Writes IsText ReadFault held held' faults faults' = ⊥
Writes IsText BundleRefused held held' faults faults' = ⊥
Writes IsText LoadRefused held held' faults faults' = ⊥
Writes IsText TooLong held held' faults faults' = ⊥

-- The machine that made the text is left, and this holds of it, where the text was written, whole or in part.
abbrev pub Leaves : (Machine → Type 0) → Status → Option Machine → Type 0
Leaves Holds Done kept = IsSomeAnd kept Holds
Leaves Holds WriteFault kept = IsSomeAnd kept Holds
Leaves Holds NoMemory kept = kept ≡ None
Leaves Holds BadWords kept = ⊥
Leaves Holds ReadFault kept = ⊥
Leaves Holds BundleRefused kept = ⊥
Leaves Holds LoadRefused kept = ⊥
Leaves Holds TooLong kept = ⊥
