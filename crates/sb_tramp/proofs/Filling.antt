-- What belongs to no row is CC.
use Rattle.std.proofs.Common.{◌≡◌, ℕ, suc, ◌+◌, ◌-◌, ◌<◌, ◌≤◌, true, List, [], ◌∷◌, ◌++◌, length, get_or, refl, sym, ap, subst, ◌∙◌, arith, inl, inr}
use Rattle.std.specs.List.{Contains}
use Rattle.std.proofs.Math.ListN.{get_or-append}
use Rattle.std.proofs.lemmas.List.{get_or-replicate, get_or-append-add}
use Rattle.std.proofs.lemmas.Bool.Decides.{leb_tells}
use Rattle.sb_insn.specs.Spelling.{spelling}
use Rattle.sb_tramp.specs.Page.{PageRow, row_end, page_size, filler, page_from, page_of_rows, Covers, FilledElsewhere}
use Rattle.sb_tramp.proofs.Order.{in_order, in_order_parts, length_filler}

pub in_filler : (count index : ℕ) → index < count → get_or (filler count) index 0 ≡ 0xCC
unfolding filler
in_filler count index within = get_or-replicate count index 0xCC 0 within

before_row : (gap index : ℕ) (bytes : List ℕ) → index < gap → get_or (filler gap ++ bytes) index 0 ≡ 0xCC
before_row gap index bytes within =
    get_or-append (filler gap) bytes 0 index (subst (λ (n : ℕ). index < n) (sym (length_filler gap)) within)
    ∙ in_filler gap index within

behind_row : (gap index : ℕ) (bytes rest : List ℕ)
    → get_or (filler gap ++ (bytes ++ rest)) (gap + (length bytes + index)) 0 ≡ get_or rest index 0
behind_row gap index bytes rest =
    subst (λ (n : ℕ). get_or (filler gap ++ (bytes ++ rest)) (n + (length bytes + index)) 0
    ≡ get_or (bytes ++ rest) (length bytes + index) 0) (length_filler gap)
    (get_or-append-add (filler gap) (bytes ++ rest) (length bytes + index) 0)
    ∙ get_or-append-add bytes rest index 0

abbrev NoneCovers : List PageRow → ℕ → Type 0
NoneCovers rows offset = (row : PageRow) → Contains rows row → ¬ Covers row offset

first_of_rows : (row : PageRow) (rows : List PageRow) → Contains (row ∷ rows) row
first_of_rows row rows = (0, omega arith, refl)

later_in_rows : (first row : PageRow) (rows : List PageRow) → Contains rows row → Contains (first ∷ rows) row
later_in_rows first row rows found = (suc found.0, omega (arith, found.1), found.2)

filled_from : (rows : List PageRow) (from offset : ℕ) → in_order from rows ≡ true → from ≤ offset → offset < page_size
    → NoneCovers rows offset → get_or (page_from from rows) (offset - from) 0 ≡ 0xCC
filled_from [] from offset e low high none = in_filler (page_size - from) (offset - from) (omega (arith, low, high))
filled_from (row ∷ rows) from offset e low high none =
    let parts = in_order_parts from row rows e in
    elim (leb_tells row.offset offset) [
      | inl at ↦
          let behind : row_end row ≤ offset =
          omega (arith, at.1, λ (within : offset < row_end row). none row (first_of_rows row rows) (at.1, within)) in
          let far : offset - from ≡ (row.offset - from) + (length (spelling row.insn) + (offset - row_end row)) =
          omega (arith, parts.0, behind) in
          ap (λ (n : ℕ). get_or (filler (row.offset - from) ++ (spelling row.insn ++ page_from (row_end row) rows)) n 0) far
          ∙ (behind_row (row.offset - from) (offset - row_end row) (spelling row.insn) (page_from (row_end row) rows)
          ∙ filled_from rows (row_end row) offset parts.1 behind high
          (λ other found. none other (later_in_rows row other rows found)))
      | inr before ↦ before_row (row.offset - from) (offset - from) (spelling row.insn ++ page_from (row_end row) rows)
          (omega (arith, before.1, low))
    ]

pub filled_elsewhere : (rows : List PageRow) → in_order 0 rows ≡ true → FilledElsewhere rows
unfolding page_of_rows
filled_elsewhere rows e offset high none =
    subst (λ (n : ℕ). get_or (page_from 0 rows) n 0 ≡ 0xCC) (omega arith) (filled_from rows 0 offset e (omega arith) high none)
