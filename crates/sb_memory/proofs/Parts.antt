-- Parts of a list of bytes that are written.
use Rattle.std.proofs.Common.{◌≡◌, ℕ, ◌+◌, ◌≤◌, List, [], ◌++◌, length, drop, arith}
use Rattle.std.proofs.lemmas.Grind.{common_steps}
use Rattle.std.proofs.lemmas.List.{append-nil, drop_all, append_assoc}
use Rattle.std.proofs.lemmas.List.Edits.{sets, sets-eq}
use borrow.Rule.Slice.PartMut.{put_mid, mid_of}

-- the part of n places holds these n bytes, put one after another
pub put_mid-sets : (xs ys bs : List ℕ) (place n k : ℕ) → place + n ≤ length xs → k ≡ n → length bs ≡ n
    → ys ≡ bs ++ drop n (mid_of place k xs)
    → put_mid place k xs ys ≡ sets xs place bs
put_mid-sets xs ys bs place n k fits e len is =
    let whole = sets-eq bs xs place (omega arith) in
    let none : drop n (mid_of place k xs) ≡ [] = grind (arith, common_steps, drop_all) in
    grind (arith, common_steps, whole, none, append_assoc, append-nil)

-- the part is replaced whole
pub put_mid_whole : (xs ys : List ℕ) (place k : ℕ) → place + k ≤ length xs → k ≡ length ys
    → put_mid place k xs ys ≡ sets xs place ys
put_mid_whole xs ys place k fits e =
    let whole = sets-eq ys xs place (omega arith) in
    grind (arith, common_steps, whole, append_assoc)
