-- Reading fields of one kind one after the other, as a loop does.
use Rattle.std.proofs.Common.{◌≡◌, ◌≢◌, ℕ, suc, ◌-◌, ◌+◌, ◌≤◌, ◌<◌, List, [], ◌∷◌, ◌++◌, Result, Ok, Err, refl, sym, ap, ◌∙◌, append_assoc, arith}
use Rattle.std.proofs.lemmas.List.{append-nil}
use Rattle.sb_bundle.specs.declared.refusal.BundleRefusal.{BundleRefusal}
use Rattle.sb_bundle.specs.declared.refusal.BundleRefusal.TheVariants.{Memory}
use Rattle.sb_memory.specs.Outcome.{and_then}
use Rattle.sb_bundle.specs.Fields.{Input, Field, many}

-- what was read before, and what is still read
abbrev pub with_prefix : {A : Type 0} → List A → Result (List A × Input) BundleRefusal → Result (List A × Input) BundleRefusal
with_prefix prefix read = and_then read (λ x. Ok (prefix ++ x.0, x.1))

regroup : {A : Type 0} (prefix : List A) (value : A) (read : Result (List A × Input) BundleRefusal)
    → with_prefix prefix (and_then read (λ x. Ok (value ∷ x.0, x.1))) ≡ with_prefix (prefix ++ value ∷ []) read
regroup prefix value (Ok x) = ap (λ (values : List _). Ok (values, x.1)) (simp append_assoc)
regroup prefix value (Err refusal) = refl

pub goes_on : {A : Type 0} (field : Field A) (prefix : List A) (count i : ℕ) (input : Input) (value : A) (after : Input)
    (total : Result (List A × Input) BundleRefusal)
    → i < count → field input ≡ Ok (value, after) → with_prefix prefix (many (count - i) field input) ≡ total
    → with_prefix (prefix ++ value ∷ []) (many (count - (i + 1)) field after) ≡ total
unfolding many
goes_on field prefix count i input value after total lt read so_far =
    let k : count - i ≡ suc (count - (i + 1)) = omega arith in
    let one : with_prefix prefix (many (count - i) field input)
    ≡ with_prefix (prefix ++ value ∷ []) (many (count - (i + 1)) field after) =
    rw (k, read) (regroup prefix value (many (count - (i + 1)) field after)) in
    sym one ∙ so_far

pub ends : {A : Type 0} (refusal : BundleRefusal) (field : Field A) (prefix : List A) (count i : ℕ) (input : Input)
    (total : Result (List A × Input) BundleRefusal)
    → i < count → (refusal ≢ Memory → field input ≡ Err refusal) → with_prefix prefix (many (count - i) field input) ≡ total
    → refusal ≢ Memory → total ≡ Err refusal
unfolding many
ends refusal field prefix count i input total lt read so_far not_memory =
    let refused = read not_memory in
    let k : count - i ≡ suc (count - (i + 1)) = omega arith in
    let one : with_prefix prefix (many (count - i) field input) ≡ Err refusal = rw (k, refused) refl in
    sym so_far ∙ one

pub is_done : {A : Type 0} (field : Field A) (prefix : List A) (count i : ℕ) (input : Input)
    (total : Result (List A × Input) BundleRefusal)
    → count ≤ i → with_prefix prefix (many (count - i) field input) ≡ total → total ≡ Ok (prefix, input)
unfolding many
is_done field prefix count i input total le so_far =
    let k : count - i ≡ 0 = omega arith in
    let one : with_prefix prefix (many (count - i) field input) ≡ Ok (prefix, input) =
    rw k (ap (λ (values : List _). Ok (values, input)) (append-nil prefix)) in
    sym so_far ∙ one
