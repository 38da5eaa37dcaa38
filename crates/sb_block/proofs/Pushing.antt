-- A run of a core goes on by one step.
use Rattle.std.proofs.Common.{◌≡◌, ap, sym, subst, ◌∙◌, ℕ, ◌+◌, List, [], ◌∷◌, ◌++◌, length, length-append, refl}
use Rattle.sb_block.specs.declared.fact.MadeStep.{MadeStep}
use Rattle.sb_block.specs.Run.{CoreRuns, MakesStep}
use Rattle.sb_block.specs.Step.{Rule, At}

-- no step is made yet
pub runs_none : {Account : Type 0} (rule : Rule Account) (before : At Account) (steps : List MadeStep) → steps ≡ []
    → CoreRuns rule before steps before
unfolding CoreRuns
runs_none {Account} rule before steps none =
    subst (λ (list : List MadeStep). CoreRuns rule before list before) (sym none) refl

-- one more step behind those that were made
run_on : {Account : Type 0} (rule : Rule Account) (steps : List MadeStep) (before mid after : At Account) (step : MadeStep)
    → CoreRuns rule before steps mid → MakesStep rule mid step after → CoreRuns rule before (steps ++ step ∷ []) after
unfolding CoreRuns
run_on {Account} rule [] before mid after step runs makes =
    (after, subst (λ (n : At Account). MakesStep rule n step after) runs makes, refl)
run_on rule (one ∷ steps) before mid after step runs makes =
    (runs.0, runs.1, run_on rule steps runs.0 mid after step runs.2 makes)

-- where that step is added
pub run_pushed : {Account : Type 0} (rule : Rule Account) (before mid after : At Account) (steps more : List MadeStep)
    (step : MadeStep) → CoreRuns rule before steps mid → MakesStep rule mid step after → more ≡ steps ++ step ∷ []
    → CoreRuns rule before more after
run_pushed rule before mid after steps more step runs makes same =
    subst (λ (list : List MadeStep). CoreRuns rule before list after) (sym same)
    (run_on rule steps before mid after step runs makes)

-- there is one more of them
pub pushed_length : (steps more : List MadeStep) (step : MadeStep) (count : ℕ) → more ≡ steps ++ step ∷ []
    → length steps ≡ count → length more ≡ count + 1
pushed_length steps more step count same e = ap length same ∙ length-append steps (step ∷ []) ∙ ap (λ n. n + 1) e
