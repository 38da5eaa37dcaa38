-- The numbers below a limit for which a test is true.
use Rattle.std.proofs.Common.{◌≡◌, ℕ, zero, suc, ◌<◌, ◌≤◌, Bool, true, false, ◌&&◌, ◌||◌, [], ◌∷◌, ◌++◌, cond, refl, ap, sym, ◌∙◌, arith, ⊎_elim}
use Rattle.std.specs.Prelude.{◌==◌, nat_lt}
use Rattle.std.proofs.lemmas.Bool.{cases_Bool, cases_eq, cond-true, cond-false, lt-ltb, eq-eqb, ne_eqb, and_left, and_right, and_from, or_left, or_right}
use Rattle.std.proofs.lemmas.List.Folds.{list_any-append}
use Rattle.sb_list.specs.Lists.{is_listed}
use Rattle.sb_slots.specs.StartBits.{numbers_below}

-- tests that agree below the limit give the same numbers
pub same_below : (f g : ℕ → Bool) (limit : ℕ) → ((n : ℕ) → n < limit → f n ≡ g n) → numbers_below f limit ≡ numbers_below g limit
unfolding numbers_below
same_below f g zero same = refl
same_below f g (suc limit) same =
    let below = same_below f g limit (λ n within. same n (omega arith)) in
    ap (λ (test : Bool). cond test (numbers_below f limit ++ limit ∷ []) (numbers_below f limit)) (same limit (omega arith))
    ∙ ap (λ numbers. cond (g limit) (numbers ++ limit ∷ []) numbers) below

-- where the test is false from a number on, a higher limit gives no more
pub none_above : (f : ℕ → Bool) (low high : ℕ) → low ≤ high → ((n : ℕ) → low ≤ n → n < high → f n ≡ false)
    → numbers_below f high ≡ numbers_below f low
unfolding numbers_below
none_above f low zero least none = ap (λ n. numbers_below f n) (let is : zero ≡ low = omega arith in is)
none_above f low (suc high) least none =
    ⊎_elim (λ same. ap (λ n. numbers_below f n) (sym same))
    (λ other.
    let within : low ≤ high = omega (arith, other) in
    cond-false _ _ _ (none high within (omega arith)) ∙ none_above f low high within (λ n from below. none n from (omega arith)))
    (cases_eq low (suc high))

-- the last number, where its test is true
pub with_last : (f : ℕ → Bool) (limit : ℕ) → f limit ≡ true → numbers_below f (suc limit) ≡ numbers_below f limit ++ limit ∷ []
unfolding numbers_below
with_last f limit is = cond-true _ _ _ is

-- which numbers they are
pub listed_below : (f : ℕ → Bool) (limit n : ℕ) → is_listed (numbers_below f limit) n ≡ nat_lt n limit && f n
unfolding numbers_below
listed_below f zero n = sym (and_left (nat_lt n zero) (f n) (let never : nat_lt n zero ≡ false = grind arith in never))
listed_below f (suc limit) n =
    let below = listed_below f limit n in
    ⊎_elim
    (λ is. ap (λ numbers. is_listed numbers n) (cond-true _ _ _ is)
    ∙ list_any-append (λ one. one == n) (numbers_below f limit) (limit ∷ [])
    ∙ ap (λ (test : Bool). test || ((limit == n) || false)) below
    ∙ last_listed is)
    (λ not_listed. ap (λ numbers. is_listed numbers n) (cond-false _ _ _ not_listed) ∙ below ∙ last_missing not_listed)
    (cases_Bool (f limit))
  where
    last_listed : f limit ≡ true → (nat_lt n limit && f n || ((limit == n) || false)) ≡ nat_lt n (suc limit) && f n
    last_listed is =
        ⊎_elim
        (λ same.
        or_right (nat_lt n limit && f n) ((limit == n) || false) (or_left (limit == n) false (eq-eqb limit n same))
        ∙ sym (and_from (nat_lt n (suc limit)) (f n) (lt-ltb n (suc limit) (omega (arith, same))) (ap f (sym same) ∙ is)))
        (λ other. apart other)
        (cases_eq limit n)
      where
        apart : (limit ≡ n → ⊥) → (nat_lt n limit && f n || ((limit == n) || false)) ≡ nat_lt n (suc limit) && f n
        apart other =
            ap (λ (test : Bool). nat_lt n limit && f n || (test || false)) (ne_eqb limit n other)
            ∙ without (nat_lt n limit && f n)
            ∙ ap (λ (test : Bool). test && f n) (let same : nat_lt n limit ≡ nat_lt n (suc limit) = grind (arith, other) in same)
          where
            without : (test : Bool) → (test || (false || false)) ≡ test
            without true = refl
            without false = refl

    last_missing : f limit ≡ false → nat_lt n limit && f n ≡ nat_lt n (suc limit) && f n
    last_missing is =
        ⊎_elim
        (λ same.
        and_right (nat_lt n limit) (f n) (ap f (sym same) ∙ is)
        ∙ sym (and_right (nat_lt n (suc limit)) (f n) (ap f (sym same) ∙ is)))
        (λ other. ap (λ (test : Bool). test && f n) (let same : nat_lt n limit ≡ nat_lt n (suc limit) = grind (arith, other) in same))
        (cases_eq limit n)
