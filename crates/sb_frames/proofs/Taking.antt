-- Frames that are taken: the lowest free one, and one after another.
use Rattle.std.proofs.Common.{◌≡◌, ◌≢◌, ℕ, ◌+◌, ◌-◌, ◌<◌, ◌≤◌, length, length-set, get_or, get_or-set_other, get_or-set_same, refl, sym, ap, ◌∙◌, add-zero, subst, inl, inr, arith}
use Rattle.std.specs.Prelude.{Option, None, Some, slice_set, count_by, is_none, if◌then◌else◌}
use Rattle.std.proofs.lemmas.List.Sums.{sum_by-set}
use Rattle.std.proofs.lemmas.Bool.{cases_lt}
use Rattle.sb_frames.specs.declared.kind.Kind.{Kind}
use Rattle.sb_frames.specs.Book.{Book, IsInBook, IsLowestFree, holder, with_holder, free_count}

-- the holder of another frame stays
pub holder_other : (book : Book) (frame other : ℕ) (held : Option (Kind × ℕ)) → 512 ≤ frame → 512 ≤ other → other ≢ frame
    → holder (with_holder book frame held) other ≡ holder book other
holder_other book frame other held first second differ =
    let apart : other - 512 ≢ frame - 512 = omega arith in
    rw get_or-set_other refl

pub holder_same : (book : Book) (frame : ℕ) (held : Option (Kind × ℕ)) → IsInBook book frame
    → holder (with_holder book frame held) frame ≡ held
holder_same book frame held inside =
    let within : frame - 512 < length book = omega arith in
    rw get_or-set_same refl

pub length_with_holder : (book : Book) (frame : ℕ) (held : Option (Kind × ℕ)) → length (with_holder book frame held) ≡ length book
length_with_holder book frame held = length-set book (frame - 512) held

-- one frame fewer is free
abbrev counted : Option (Kind × ℕ) → ℕ
counted held = if is_none held then 1 else 0

fewer_at : (book : Book) (index : ℕ) (held : Kind × ℕ) → index < length book → get_or book index None ≡ None
    → count_by is_none (slice_set book index (Some held)) + 1 ≡ count_by is_none book
fewer_at book index held within free =
    let changed : count_by is_none (slice_set book index (Some held)) + counted (get_or book index None)
    ≡ count_by is_none book + 0 =
    sum_by-set counted book index (Some held) None within in
    let one : counted (get_or book index None) ≡ 1 = ap counted free in
    let now : count_by is_none (slice_set book index (Some held)) + 1 ≡ count_by is_none book + 0 =
    ap (λ (n : ℕ). count_by is_none (slice_set book index (Some held)) + n) (sym one) ∙ changed in
    now ∙ add-zero (count_by is_none book)

-- a free frame is taken, the lowest
pub record Takes (book new : Book) (frame : ℕ) : Type 0 where
  pub held : Kind × ℕ
  pub lowest : IsLowestFree book frame
  pub taken : new ≡ with_holder book frame (Some held)

pub takes_fewer : (book new : Book) (frame : ℕ) → Takes book new frame → free_count new + 1 ≡ free_count book
takes_fewer book new frame takes =
    let inside = takes.lowest.inside in
    let written = takes.taken in
    rw written (fewer_at book (frame - 512) takes.held (omega arith) takes.lowest.free)

-- the next frame lies above
pub takes_rise : (book mid new : Book) (frame next : ℕ) → Takes book mid frame → Takes mid new next → frame < next
takes_rise book mid new frame next first second = elim (cases_lt frame next) [
  | inl above ↦ above
  | inr below ↦
      let inside = first.lowest.inside in
      let next_inside = second.lowest.inside in
      elim (cases_lt next frame) [
        | inl lower ↦
            let stays : holder mid next ≡ holder book next =
            rw (first.taken) (holder_other book frame next (Some first.held) inside.0 next_inside.0 (omega arith)) in
            absurd (first.lowest.lowest next next_inside.0 lower (sym stays ∙ second.lowest.free))
        | inr same ↦
            let here : next ≡ frame = omega arith in
            let held : holder mid frame ≡ Some first.held = rw (first.taken) (holder_same book frame (Some first.held) inside) in
            let free : holder mid frame ≡ None = subst (λ (f : ℕ). holder mid f ≡ None) here second.lowest.free in
            cc
      ]
]

pub takes_by : (book new : Book) (frame : ℕ) (kind : Kind) (owner : ℕ) → IsLowestFree book frame
    → new ≡ with_holder book frame (Some (kind, owner)) → Takes book new frame
takes_by book new frame kind owner lowest taken = record { held = (kind, owner); lowest = lowest; taken = taken }
