-- Rows in the order of their offsets stand in the page that is laid out of them.
use Rattle.std.proofs.Common.{◌≡◌, ℕ, zero, suc, ◌+◌, ◌-◌, ◌<◌, ◌≤◌, Bool, true, false, ◌&&◌, leb, List, [], ◌∷◌, ◌++◌, length, drop, refl, sym, ap, subst, ◌∙◌, arith, length-append, append_assoc}
use Rattle.std.specs.Prelude.{slice_index_or}
use Rattle.std.proofs.lemmas.Bool.{leb-true}
use Rattle.std.proofs.Math.Seq.{drop-append_seam, drop-append-add}
use Rattle.std.proofs.lemmas.List.{length-replicate}
use Rattle.sb_insn.specs.Spelling.{spelling}
use Rattle.sb_insn.specs.Grammar.{IsValid}
use Rattle.sb_tramp.specs.Page.{PageRow, row_end, page_size, filler, page_from, page_of_rows, EachStands, HasPageSize}

-- each row begins at the end of the one before or behind it, and the last one ends inside the page
abbrev pub in_order : ℕ → List PageRow → Bool
in_order offset [] = leb offset page_size
in_order offset (row ∷ rows) = leb offset row.offset && in_order (row_end row) rows

abbrev pub EachValid : List PageRow → Type 0
EachValid [] = Unit {0}
EachValid (row ∷ rows) = IsValid row.insn × EachValid rows

pub and_parts : (a b : Bool) → (a && b) ≡ true → (a ≡ true) × (b ≡ true)
and_parts true b e = (refl, e)
and_parts false b e = absurd cc

pub in_order_parts : (offset : ℕ) (row : PageRow) (rows : List PageRow) → in_order offset (row ∷ rows) ≡ true
    → (offset ≤ row.offset) × (in_order (row_end row) rows ≡ true)
in_order_parts offset row rows e =
    let parts = and_parts (leb offset row.offset) (in_order (row_end row) rows) e in
    (leb-true offset row.offset parts.0, parts.1)

pub length_filler : (count : ℕ) → length (filler count) ≡ count
unfolding filler
length_filler count = length-replicate count 0xCC

-- behind filler and a spelling
past : (gap at : ℕ) (bytes rest : List ℕ) → drop (gap + (length bytes + at)) (filler gap ++ (bytes ++ rest)) ≡ drop at rest
past gap at bytes rest =
    subst (λ (n : ℕ). drop (n + (length bytes + at)) (filler gap ++ (bytes ++ rest)) ≡ drop (length bytes + at) (bytes ++ rest))
    (length_filler gap)
    (drop-append-add (filler gap) (bytes ++ rest) (length bytes + at))
    ∙ drop-append-add bytes rest at

at_seam : (gap : ℕ) (bytes : List ℕ) → drop gap (filler gap ++ bytes) ≡ bytes
at_seam gap bytes =
    subst (λ (n : ℕ). drop n (filler gap ++ bytes) ≡ bytes) (length_filler gap) (drop-append_seam (filler gap) bytes)

ends_inside : (offset : ℕ) (rows : List PageRow) → in_order offset rows ≡ true → offset ≤ page_size
ends_inside offset [] e = leb-true offset page_size e
ends_inside offset (row ∷ rows) e =
    let parts = in_order_parts offset row rows e in
    let inside = ends_inside (row_end row) rows parts.1 in
    omega (arith, parts.0, inside)

-- where a row stands in a page from an offset on
record Placed (offset : ℕ) (bytes : List ℕ) (row : PageRow) : Type 0 where
  rest : List ℕ
  stands : drop (row.offset - offset) bytes ≡ spelling row.insn ++ rest
  behind : offset ≤ row.offset
  inside : row_end row ≤ page_size
  valid : IsValid row.insn

placed_first : (offset : ℕ) (row : PageRow) (rows : List PageRow) → in_order offset (row ∷ rows) ≡ true → IsValid row.insn
    → Placed offset (page_from offset (row ∷ rows)) row
placed_first offset row rows e valid =
    let parts = in_order_parts offset row rows e in
    record {
      rest = page_from (row_end row) rows;
      stands = at_seam (row.offset - offset) (spelling row.insn ++ page_from (row_end row) rows);
      behind = parts.0;
      inside = ends_inside (row_end row) rows parts.1;
      valid = valid;
    }

placed_later : (offset : ℕ) (first row : PageRow) (rest : List ℕ) → offset ≤ first.offset → Placed (row_end first) rest row
    → Placed offset (filler (first.offset - offset) ++ (spelling first.insn ++ rest)) row
placed_later offset first row rest e placed =
    let far : row.offset - offset ≡ (first.offset - offset) + (length (spelling first.insn) + (row.offset - row_end first)) =
    omega (arith, e, placed.behind) in
    record {
      rest = placed.rest;
      stands = ap (λ (n : ℕ). drop n (filler (first.offset - offset) ++ (spelling first.insn ++ rest))) far
          ∙ (past (first.offset - offset) (row.offset - row_end first) (spelling first.insn) rest ∙ placed.stands);
      behind = omega (arith, e, placed.behind);
      inside = placed.inside;
      valid = placed.valid;
    }

placed : (rows : List PageRow) (offset k : ℕ) (row : PageRow) → in_order offset rows ≡ true → EachValid rows → k < length rows
    → slice_index_or rows k row ≡ row → Placed offset (page_from offset rows) row
placed [] offset k row e valid within is = absurd (omega (arith, within))
placed (first ∷ rows) offset zero row e valid within is =
    subst (λ (t : PageRow). Placed offset (page_from offset (first ∷ rows)) t) is (placed_first offset first rows e valid.0)
placed (first ∷ rows) offset (suc k) row e valid within is =
    let parts = in_order_parts offset first rows e in
    placed_later offset first row (page_from (row_end first) rows) parts.0
    (placed rows (row_end first) k row parts.1 valid.1 (omega (arith, within)) is)

pub each_stands : (rows : List PageRow) → in_order 0 rows ≡ true → EachValid rows → EachStands rows
unfolding page_of_rows
each_stands rows e valid row found =
    let at = placed rows 0 found.0 row e valid found.1 found.2 in
    record {
      begins = (
        at.valid,
        (at.rest, subst (λ (n : ℕ). drop n (page_from 0 rows) ≡ spelling row.insn ++ at.rest) (omega arith) at.stands),
      );
      inside = at.inside;
    }

-- ---- the last filler, apart

-- the end of the last row
abbrev pub last_end : ℕ → List PageRow → ℕ
last_end offset [] = offset
last_end offset (row ∷ rows) = last_end (row_end row) rows

-- the rows without the filler behind the last one
abbrev pub code_from : ℕ → List PageRow → List ℕ
code_from offset [] = []
code_from offset (row ∷ rows) = filler (row.offset - offset) ++ (spelling row.insn ++ code_from (row_end row) rows)

pub code_and_filler : (offset : ℕ) (rows : List PageRow)
    → page_from offset rows ≡ code_from offset rows ++ filler (page_size - last_end offset rows)
code_and_filler offset [] = refl
code_and_filler offset (row ∷ rows) =
    ap (λ (rest : List ℕ). filler (row.offset - offset) ++ (spelling row.insn ++ rest)) (code_and_filler (row_end row) rows)
    ∙ (ap (λ (rest : List ℕ). filler (row.offset - offset) ++ rest)
    (sym (append_assoc (spelling row.insn) (code_from (row_end row) rows) (filler (page_size - last_end (row_end row) rows))))
    ∙ sym (append_assoc (filler (row.offset - offset)) (spelling row.insn ++ code_from (row_end row) rows)
    (filler (page_size - last_end (row_end row) rows))))

page_length : (rows : List PageRow) (offset : ℕ) → in_order offset rows ≡ true
    → offset + length (page_from offset rows) ≡ page_size
page_length [] offset e = omega (arith, leb-true offset page_size e, length_filler (page_size - offset))
page_length (row ∷ rows) offset e =
    let parts = in_order_parts offset row rows e in
    let rest = page_length rows (row_end row) parts.1 in
    let a = length-append (filler (row.offset - offset)) (spelling row.insn ++ page_from (row_end row) rows) in
    let b = length-append (spelling row.insn) (page_from (row_end row) rows) in
    omega (arith, parts.0, rest, a, b, length_filler (row.offset - offset))

pub page_size_of : (rows : List PageRow) → in_order 0 rows ≡ true → HasPageSize rows
unfolding page_of_rows
page_size_of rows e = let all = page_length rows 0 e in omega (arith, all)
