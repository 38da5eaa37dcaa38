-- Bytes CC around others do not make the bytes of VMFUNC.
use Rattle.std.proofs.Common.{ℕ, zero, suc, List, [], ◌∷◌, ◌++◌, replicate, subst, arith}
use Rattle.std.proofs.lemmas.List.{append-nil}
use Rattle.sb_scan.specs.Pattern.{HasNoPattern}
use Rattle.sb_forms.specs.Answers.{IsClean}
use Rattle.sb_forms.proofs.Held.{behind, before}

none_alone : HasNoPattern []
none_alone place stands = omega (arith, stands.0)

-- before them
none_behind : (count : ℕ) (bytes : List ℕ) → HasNoPattern bytes → HasNoPattern (replicate count 0xCC ++ bytes)
none_behind zero bytes none place stands = none place stands
none_behind (suc count) bytes none zero stands = omega (arith, stands.0)
none_behind (suc count) bytes none (suc place) stands =
    none_behind count bytes none place (before 0xCC (replicate count 0xCC ++ bytes) place stands)

filler_alone : (count : ℕ) → HasNoPattern (replicate count 0xCC)
filler_alone count =
    subst (λ (bytes : List ℕ). HasNoPattern bytes) (append-nil (replicate count 0xCC)) (none_behind count [] none_alone)

-- behind them
none_before : (count : ℕ) (bytes : List ℕ) → HasNoPattern bytes → HasNoPattern (bytes ++ replicate count 0xCC)
none_before count [] none place stands = filler_alone count place stands
none_before count (first ∷ rest) none (suc place) stands =
    none_before count rest (λ place stands. none (suc place) (behind first rest place stands)) place
    (before first (rest ++ replicate count 0xCC) place stands)
none_before zero (first ∷ []) none zero stands = omega (arith, stands.1)
none_before (suc count) (first ∷ []) none zero stands = omega (arith, stands.1)
none_before zero (first ∷ second ∷ []) none zero stands = omega (arith, stands.2)
none_before (suc count) (first ∷ second ∷ []) none zero stands = omega (arith, stands.2)
none_before count (first ∷ second ∷ third ∷ rest) none zero stands = none zero stands

pub clean_around : (bytes : List ℕ) → HasNoPattern bytes → IsClean bytes
clean_around bytes none before_it behind_it =
    none_behind before_it (bytes ++ replicate behind_it 0xCC) (none_before behind_it bytes none)
