-- Lists of the same length, one behind another.
use Rattle.std.proofs.Common.{◌≡◌, ℕ, zero, suc, ◌+◌, ◌-◌, ◌*◌, ◌<◌, ◌≤◌, Bool, cond, List, [], ◌∷◌, ◌++◌, length, length-append, map, take, get_or, set, length-set, refl, sym, ap, ◌∙◌, arith}
use Rattle.std.specs.Prelude.{All, flat_map, replicate}
use Rattle.std.proofs.lemmas.List.{length-take-le, set-append_left, set-append_right, replicate-append-replicate}
use Rattle.std.proofs.lemmas.List.Concat.{get_or-flat_map}
use Rattle.std.proofs.lemmas.List.Edits.{sets}
use Rattle.std.proofs.lemmas.List.Elements.{All-head, All-tail, All-take}
use Rattle.std.proofs.lemmas.List.Sums.{sum_by-append, sum_by-cons}
use Rattle.sb_partial.specs.CopiedFrames.{true_count}

-- each block has so many elements
abbrev pub HaveSize : {X A : Type 0} → (X → List A) → ℕ → List X → Type 0
HaveSize block size xs = All (λ x. length (block x) ≡ size) xs

-- how many elements there are
pub length_blocks : {X A : Type 0} (block : X → List A) (size : ℕ) (xs : List X) → HaveSize block size xs
    → length (flat_map block xs) ≡ size * length xs
length_blocks block size [] sizes = omega arith
length_blocks block size (x ∷ xs) sizes =
    let first = All-head (λ one. length (block one) ≡ size) x xs sizes in
    let rest = length_blocks block size xs (All-tail (λ one. length (block one) ≡ size) x xs sizes) in
    let whole = length-append (block x) (flat_map block xs) in
    omega arith

-- an element of a block
pub get_or_block : {X A : Type 0} (block : X → List A) (size : ℕ) (xs : List X) (index place : ℕ) (x : X) (default : A)
    → HaveSize block size xs → index < length xs → place < size
    → get_or (flat_map block xs) (size * index + place) default ≡ get_or (block (get_or xs index x)) place default
get_or_block block size xs index place x default sizes within inside =
    let before : length (flat_map block (take index xs)) ≡ size * index =
    length_blocks block size (take index xs) (All-take (λ one. length (block one) ≡ size) index xs sizes)
    ∙ ap (λ (n : ℕ). size * n) (length-take-le index xs (omega arith)) in
    let fits : length (block (get_or xs index x)) ≡ size = sizes index x within in
    ap (λ (n : ℕ). get_or (flat_map block xs) (n + place) default) (sym before)
    ∙ get_or-flat_map block xs index place x default within (omega arith)

sets_left : {A : Type 0} (new left right : List A) (place : ℕ) → place + length new ≤ length left
    → sets (left ++ right) place new ≡ sets left place new ++ right
sets_left [] left right place fits = refl
sets_left (a ∷ new) left right place fits =
    let same = length-set left place a in
    ap (λ all. sets all (suc place) new) (set-append_left left right place a (omega arith))
    ∙ sets_left new (set left place a) right (suc place) (omega arith)

sets_right : {A : Type 0} (new left right : List A) (size place : ℕ) → length left ≡ size
    → sets (left ++ right) (size + place) new ≡ left ++ sets right place new
sets_right [] left right size place count = refl
sets_right (a ∷ new) left right size place count =
    let here : size + place - size ≡ place = omega arith in
    let next : suc (size + place) ≡ size + suc place = omega arith in
    ap (λ all. sets all (suc (size + place)) new) (set-append_right left right size (size + place) a count (omega arith))
    ∙ (rw (here, next) (sets_right new left (set right place a) size (suc place) count))

-- what is put into a block
pub sets_block : {X A : Type 0} (block : X → List A) (size : ℕ) (xs : List X) (index place : ℕ) (new : List A) (x changed : X)
    → HaveSize block size xs → index < length xs → place + length new ≤ size
    → block changed ≡ sets (block (get_or xs index x)) place new
    → sets (flat_map block xs) (size * index + place) new ≡ flat_map block (set xs index changed)
sets_block block size [] index place new x changed sizes within fits is = absurd (omega arith)
sets_block block size (y ∷ ys) zero place new x changed sizes within fits is =
    let first = All-head (λ one. length (block one) ≡ size) y ys sizes in
    let here : size * 0 + place ≡ place = omega arith in
    rw (here, is) (sets_left new (block y) (flat_map block ys) place (omega arith))
sets_block block size (y ∷ ys) (suc index) place new x changed sizes within fits is =
    let first = All-head (λ one. length (block one) ≡ size) y ys sizes in
    let there : size * suc index + place ≡ size + (size * index + place) = omega arith in
    rw there (sets_right new (block y) (flat_map block ys) size (size * index + place) first
    ∙ ap (λ rest. block y ++ rest) (sets_block block size ys index place new x changed
    (All-tail (λ one. length (block one) ≡ size) y ys sizes) (omega arith) fits is))

-- a block that stays
pub same_blocks : {X A : Type 0} (block : X → List A) (xs : List X) (index : ℕ) (x changed : X)
    → block changed ≡ block (get_or xs index x) → flat_map block (set xs index changed) ≡ flat_map block xs
same_blocks block [] index x changed is = refl
same_blocks block (y ∷ ys) zero x changed is = rw is refl
same_blocks block (y ∷ ys) (suc index) x changed is = ap (λ rest. block y ++ rest) (same_blocks block ys index x changed is)

-- blocks that are all the same
pub blocks_of_one : {X A : Type 0} (block : X → List A) (size count : ℕ) (x : X) (a : A) → block x ≡ replicate size a
    → flat_map block (replicate count x) ≡ replicate (size * count) a
blocks_of_one block size zero x a is = let none : size * 0 ≡ 0 = omega arith in rw none refl
blocks_of_one block size (suc count) x a is =
    let more : size * suc count ≡ size + size * count = omega arith in
    rw (is, blocks_of_one block size count x a is, more) (replicate-append-replicate size (size * count) a)

-- how many elements of the blocks are true, where those of some blocks are all false
pub true_in_blocks : {X : Type 0} (block : X → List Bool) (size : ℕ) (test : X → Bool) (xs : List X)
    → All (λ x. true_count (block x) ≤ size * cond (test x) 1 0) xs
    → true_count (flat_map block xs) ≤ size * true_count (map test xs)
true_in_blocks block size test [] few = omega arith
true_in_blocks block size test (x ∷ xs) few =
    let first = All-head (λ one. true_count (block one) ≤ size * cond (test one) 1 0) x xs few in
    let few_rest = All-tail (λ one. true_count (block one) ≤ size * cond (test one) 1 0) x xs few in
    let rest = true_in_blocks block size test xs few_rest in
    let flags = sum_by-append (λ flag. cond flag 1 0) (block x) (flat_map block xs) in
    let tests = sum_by-cons (λ flag. cond flag 1 0) (test x) (map test xs) in
    rw (flags, tests) (omega (arith, first, rest))
