-- Books in which no frame is free.
use Rattle.std.proofs.Common.{◌≡◌, ◌≢◌, ℕ, suc, ◌<◌, ◌≤◌, [], ◌∷◌, length, get_or, inl, inr, refl, arith}
use Rattle.std.specs.Prelude.{Some, None}
use Rattle.std.proofs.lemmas.Bool.{cases_lt}
use Rattle.sb_frames.specs.Book.{Book, free_count}

-- where every frame is taken, none is counted
all_taken : (book : Book) → ((index : ℕ) → index < length book → get_or book index None ≢ None) → free_count book ≡ 0
all_taken [] taken = refl
all_taken (None ∷ book) taken = absurd (taken 0 (omega arith) refl)
all_taken (Some held ∷ book) taken = all_taken book (λ index below. taken (suc index) (omega arith))

-- every frame before an index is taken, and every frame from it on
pub none_free : (book : Book) (first : ℕ) → ((index : ℕ) → index < first → get_or book index None ≢ None)
    → ((index : ℕ) → first ≤ index → index < length book → get_or book index None ≢ None) → free_count book ≡ 0
none_free book first before after =
    all_taken book
    (λ index below. elim (cases_lt index first) [ inl lower ↦ before index lower | inr higher ↦ after index higher below ])
