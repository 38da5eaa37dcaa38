-- Frames that are taken one after another.
use Rattle.std.proofs.Common.{◌≡◌, ◌≢◌, ℕ, zero, suc, ◌+◌, ◌<◌, ◌≤◌, List, [], ◌∷◌, length, get_or, refl, sym, ap, ◌∙◌, subst, arith}
use Rattle.std.specs.Prelude.{Some}
use Rattle.std.specs.List.{Contains}
use Rattle.sb_frames.specs.Book.{Book, IsInBook, holder, with_holder, free_count}
use Rattle.sb_frames.proofs.Taking.{Takes, holder_other, holder_same, length_with_holder, takes_fewer, takes_rise}
use Rattle.sb_root.specs.Root.{AreDifferent, part_kind}
use Rattle.sb_root.specs.Calls.{IsFree, with_parts}
use Rattle.sb_root.proofs.Frames.{Rises, rises_at, contains_index}

-- a frame that is free after another was taken was free before
pub takes_free : (book mid : Book) (frame next : ℕ) → Takes book mid frame → frame < next → IsFree mid next → IsFree book next
takes_free book mid frame next takes above free =
    let inside = takes.lowest.inside in
    let next_inside = free.0 in
    let size : length mid ≡ length book = rw (takes.taken) (length_with_holder book frame (Some takes.held)) in
    let stays : holder mid next ≡ holder book next =
    rw (takes.taken) (holder_other book frame next (Some takes.held) inside.0 next_inside.0 (omega arith)) in
    ((next_inside.0, omega arith), sym stays ∙ free.1)

-- ---- frames that are taken one after another

abbrev pub TakesAll : Book → List ℕ → Book → Type 0
TakesAll book [] new = new ≡ book
TakesAll book (frame ∷ frames) new = (mid : Book) × Takes book mid frame × TakesAll mid frames new

pub all_rise : (book mid new : Book) (frame : ℕ) (frames : List ℕ) → Takes book mid frame → TakesAll mid frames new
    → Rises frame frames
all_rise book mid new frame [] first rest = tt
all_rise book mid new frame (next ∷ frames) first (after, second, rest) =
    (takes_rise book mid after frame next first second, all_rise mid after new next frames second rest)

free_at : (book new : Book) (frames : List ℕ) → TakesAll book frames new → (k : ℕ) → k < length frames
    → IsFree book (get_or frames k 0)
free_at book new [] all k within = absurd (omega arith)
free_at book new (frame ∷ frames) (mid, first, rest) zero within = (first.lowest.inside, first.lowest.free)
free_at book new (frame ∷ frames) (mid, first, rest) (suc k) within =
    takes_free book mid frame (get_or frames k 0) first
    (rises_at frame frames (all_rise book mid new frame frames first rest) k (omega arith))
    (free_at mid new frames rest k (omega arith))

-- each was free
pub all_free : (book new : Book) (frames : List ℕ) → TakesAll book frames new → (frame : ℕ) → Contains frames frame
    → IsFree book frame
all_free book new frames all frame among =
    let index = contains_index frames frame among in
    subst (IsFree book) index.2 (free_at book new frames all index.0 index.1)

-- so many fewer are free
pub all_fewer : (book new : Book) (frames : List ℕ) → TakesAll book frames new → free_count new + length frames ≡ free_count book
all_fewer book new [] all = rw all (omega arith)
all_fewer book new (frame ∷ frames) (mid, first, rest) =
    let one = takes_fewer book mid frame first in
    let more = all_fewer mid new frames rest in
    omega arith

-- ---- the parts of a view in the book

pub different_behind : (first : ℕ) (frames : List ℕ) → AreDifferent (first ∷ frames) → AreDifferent frames
different_behind first frames different =
    λ i j within within' differ. different (suc i) (suc j) (omega arith) (omega arith) (omega arith)

pub length_with_parts : (book : Book) (thread part : ℕ) (frames : List ℕ)
    → length (with_parts book thread part frames) ≡ length book
length_with_parts book thread part [] = refl
length_with_parts book thread part (frame ∷ frames) =
    length_with_parts (with_holder book frame (Some (part_kind part, thread))) thread (part + 1) frames
    ∙ length_with_holder book frame (Some (part_kind part, thread))

-- frames from 512 on
abbrev pub FromFirst : List ℕ → Type 0
FromFirst frames = (k : ℕ) → k < length frames → 512 ≤ get_or frames k 0

-- another frame has its holder as before
pub parts_other : (book : Book) (thread part : ℕ) (frames : List ℕ) (other : ℕ) → FromFirst frames → 512 ≤ other
    → ((k : ℕ) → k < length frames → other ≢ get_or frames k 0)
    → holder (with_parts book thread part frames) other ≡ holder book other
parts_other book thread part [] other from above apart = refl
parts_other book thread part (frame ∷ frames) other from above apart =
    parts_other (with_holder book frame (Some (part_kind part, thread))) thread (part + 1) frames other
    (λ k within. from (suc k) (omega arith)) above (λ k within. apart (suc k) (omega arith))
    ∙ holder_other book frame other (Some (part_kind part, thread)) (from 0 (omega arith)) above (apart 0 (omega arith))

-- each part is held for what it is
pub parts_same : (book : Book) (thread part : ℕ) (frames : List ℕ) (k : ℕ)
    → ((k : ℕ) → k < length frames → IsInBook book (get_or frames k 0)) → AreDifferent frames → k < length frames
    → holder (with_parts book thread part frames) (get_or frames k 0) ≡ Some (part_kind (part + k), thread)
parts_same book thread part [] k inside different within = absurd (omega arith)
parts_same book thread part (frame ∷ frames) zero inside different within =
    let same : part + 0 ≡ part = omega arith in
    parts_other (with_holder book frame (Some (part_kind part, thread))) thread (part + 1) frames frame
    (λ k within. (inside (suc k) (omega arith)).0) (inside 0 (omega arith)).0
    (λ k within. different 0 (suc k) (omega arith) (omega arith) (omega arith))
    ∙ holder_same book frame (Some (part_kind part, thread)) (inside 0 (omega arith)) ∙ rw same refl
parts_same book thread part (frame ∷ frames) (suc k) inside different within =
    let size = length_with_holder book frame (Some (part_kind part, thread)) in
    let same : part + 1 + k ≡ part + suc k = omega arith in
    parts_same (with_holder book frame (Some (part_kind part, thread))) thread (part + 1) frames k
    (λ j few. let before = inside (suc j) (omega arith) in
    (before.0, omega arith)) (different_behind frame frames different) (omega arith)
    ∙ ap (λ (n : ℕ). Some (part_kind n, thread)) same
