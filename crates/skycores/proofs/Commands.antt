-- Words of which one is no number within its limits are no command.
use Rattle.std.proofs.Common.{◌≡◌, ℕ, Bool, List, [], get_or, ap}
use Rattle.std.specs.Fmt.{decimal}
use Rattle.skycores.specs.declared.words.TheConstants.{MAX_STEPS, MAX_BLOCK}
use Rattle.skycores.specs.Words.{IsUpTo, IsCommand, run_words}

pub no_steps : (steps block : List ℕ) (dump : Bool) → ((number : ℕ) → IsUpTo MAX_STEPS number → ¬ (steps ≡ decimal number))
    → ¬ IsCommand (run_words steps block dump)
no_steps steps block dump none (run, (is, within)) = none run.steps within.steps (ap (λ (list : List (List ℕ)). get_or list 2 []) is)

pub no_block : (steps block : List ℕ) (dump : Bool) → ((number : ℕ) → IsUpTo MAX_BLOCK number → ¬ (block ≡ decimal number))
    → ¬ IsCommand (run_words steps block dump)
no_block steps block dump none (run, (is, within)) = none run.block within.block (ap (λ (list : List (List ℕ)). get_or list 4 []) is)
