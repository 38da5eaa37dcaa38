-- A run: a step for each entry of a list of cores, with its line. It is the same for every machine.
use Rattle.std.specs.Prelude.{◌≡◌, ℕ, List, [], ◌∷◌}
use Rattle.sb_trace.specs.declared.event.Event.{Event}
use Rattle.sb_trace.specs.declared.event.Line.{Line}

-- from the old state the cores step in order, with these lines, to the new state; `step old core event new` is one step
abbrev pub RunBy : {S : Type 0} → (S → ℕ → Event → S → Type 0) → S → List ℕ → List Line → S → Type 0
RunBy step old [] [] new = new ≡ old
RunBy {S = S} step old (core ∷ cores) (line ∷ lines) new =
    (line.core ≡ core) × ((next : S) × step old core line.event next × RunBy step next cores lines new)
RunBy step old [] (line ∷ lines) new = ⊥
RunBy step old (core ∷ cores) [] new = ⊥
