-- Where what was loaded is run, no byte past the limit was taken.
use Rattle.std.proofs.Common.{◌≡◌, ◌⊎◌, inl, inr, ◌↔◌, ℕ, ◌<◌, List, Option, Some, None, Ok, IsErrOf}
use Rattle.sb_port.specs.Port.{TookFirst}
use Rattle.sb_input.specs.Input.{input_limit}
use Rattle.sb_input.specs.declared.status.Status.{Status}
use Rattle.sb_input.specs.declared.status.Status.TheVariants.{Done, WriteFault, NoMemory, TooLong}

not_long : (status : Status) → (status ≡ Done) ⊎ ((status ≡ WriteFault) ⊎ (status ≡ NoMemory)) → ¬ (status ≡ TooLong)
not_long status (inl is) long = cc
not_long status (inr (inl is)) long = cc
not_long status (inr (inr is)) long = cc

-- the status of a run is not that of an input that is too long
pub taken : {A E : Type 0} (left left' : Option (List ℕ)) (value : A) (fault : E) (status : Status)
    → (status ≡ Done) ⊎ ((status ≡ WriteFault) ⊎ (status ≡ NoMemory))
    → TookFirst left left' (λ count. IsErrOf (Ok value) fault ↔ (input_limit < count))
    → TookFirst left left' (λ count. (status ≡ TooLong) ↔ (input_limit < count))
taken None left' value fault status kinds none = tt
taken (Some old) left' value fault status kinds (count, (within, is, short)) =
    (count, (within, is, (λ long. absurd (not_long status kinds long), λ more. let other = short.1 more in cc)))
