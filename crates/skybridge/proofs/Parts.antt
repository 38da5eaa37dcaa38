-- Texts of which a part was written.
use Rattle.std.proofs.Common.{◌≡◌, ℕ, List, String, Option, Result, Ok, Err, sym, subst}
use Rattle.std.specs.Prelude.{IfOk, MatchResult, string_bytes}
use Rattle.sb_input.specs.declared.status.Status.{Status}
use Rattle.sb_input.specs.declared.status.Status.TheVariants.{Done, BadWords, ReadFault, WriteFault, BundleRefused, LoadRefused, NoMemory, TooLong}
use Rattle.skybridge.specs.Written.{Writes}

-- what is written of one kind is written of each kind to which it belongs
pub writes_as : (Is Kind : List ℕ → Type 0) (status : Status) (held held' : Option (List ℕ)) (faults faults' : ℕ)
    → ((text : List ℕ) → Is text → Kind text) → Writes Is status held held' faults faults'
    → Writes Kind status held held' faults faults'
writes_as Is Kind Done held held' faults faults' belongs (text, is, appended) = (text, belongs text is, appended)
writes_as Is Kind WriteFault held held' faults faults' belongs ((text, is, partly), rose) = ((text, belongs text is, partly), rose)
writes_as Is Kind NoMemory held held' faults faults' belongs same = same
writes_as Is Kind BadWords held held' faults faults' belongs none = none
writes_as Is Kind ReadFault held held' faults faults' belongs none = none
writes_as Is Kind BundleRefused held held' faults faults' belongs none = none
writes_as Is Kind LoadRefused held held' faults faults' belongs none = none
writes_as Is Kind TooLong held held' faults faults' belongs none = none

-- a text that was made, where there was memory for it
pub text_written : {A E : Type 0} (Kind : List ℕ → Type 0) (status : Status) (held held' : Option (List ℕ)) (faults faults' : ℕ)
    (made : Result (String A) E)
    → IfOk made (λ text. Kind (string_bytes text))
    → MatchResult made (λ text. Writes (λ one. one ≡ string_bytes text) status held held' faults faults')
    (λ _. (status ≡ NoMemory) × (held' ≡ held))
    → Writes Kind status held held' faults faults'
text_written Kind status held held' faults faults' (Ok text) is written =
    writes_as (λ one. one ≡ string_bytes text) Kind status held held' faults faults' (λ one same. subst Kind (sym same) is) written
text_written Kind status held held' faults faults' (Err lack) is (same, kept) =
    subst (λ (one : Status). Writes Kind one held held' faults faults') (sym same) kept
