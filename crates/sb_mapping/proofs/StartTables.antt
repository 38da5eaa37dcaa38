-- The tables of a process at a start.
use Rattle.std.proofs.Common.{◌≡◌, ◌≢◌, ◌∙◌, sym, ap, subst, ℕ, zero, suc, ◌+◌, ◌<◌, ◌≤◌, ◌==◌, ◌⊎◌, inl, inr, Bool, true, false, List, [], ◌∷◌, length, get_or, refl, arith}
use Rattle.std.specs.Prelude.{Some, map, slice_set}
use Rattle.std.specs.List.{Contains}
use Rattle.std.proofs.lemmas.Bool.{eqb-true, eqb-false}
use Rattle.std.proofs.lemmas.List.{get_or-set_same, get_or-set_other, get_or-map, length-map}
use Rattle.sb_memory.specs.Physical.{Physical}
use Rattle.sb_memory.specs.Changes.{SameOutside}
use Rattle.sb_memory.specs.Reading.{with_bytes}
use Rattle.sb_memory.specs.Words.{put_word}
use Rattle.sb_memory.specs.declared.address.Frame.{Frame}
use Rattle.sb_memory.proofs.Changes.{same_outside_then}
use Rattle.sb_frames.specs.Book.{Book, free_count, with_holder}
use Rattle.sb_frames.specs.declared.kind.Kind.{Kind}
use Rattle.sb_pagewalk.specs.declared.table_set.TableSet.{TableSet}
use Rattle.sb_pagewalk.specs.TableSet.{set_frames, table_frame, page_place, Maps, no_pages}
use Rattle.sb_pagewalk.specs.Standing.{HasTables}
use Rattle.sb_pagewalk.specs.Windows.{region_of, page_table_of}
use Rattle.sb_pagewalk.proofs.Clearing.{table_among}
use Rattle.sb_pagewalk.proofs.Regions.{page_table_small}
use Rattle.sb_root.specs.declared.root_kernel.RootKernel.{RootKernel}
use Rattle.sb_root.specs.Root.{Use, used_frame}
use Rattle.sb_root.specs.Tables.{base_frames, shared_frames, shared_place}
use Rattle.sb_root.specs.Standing.{IsApart as IsRootApart, IsBooked, Stands}
use Rattle.sb_root.specs.Answers.{Exposes}
use Rattle.sb_root.specs.Calls.{IsFree}
use Rattle.sb_root.specs.Entry.{leaf_to}
use Rattle.sb_root.proofs.Frames.{among_cases, contains_index, same_within_one, shared_small}
use Rattle.sb_root.proofs.Between.{booked_beside, booked_kept}
use Rattle.sb_root.proofs.Kept.{stands_kept}
use Rattle.sb_shows.specs.Placement.{Placement, Unused, GuestTable}
use Rattle.sb_shows.specs.Calls.{ExposesFrame}
use Rattle.sb_shows.specs.Starts.{AddsTables, ExposesTables, placed_tables}
use Rattle.sb_shows.proofs.Placing.{others_kept}
use Rattle.sb_mapping.specs.StartPages.{IsOver}
use Rattle.sb_mapping.specs.StartTables.{frame_at, TakesFrames, MapsOwnPages, HasFreeRoots, AddedTables}
use Rattle.sb_mapping.proofs.Taken.{free_before, set_word}

-- ---- frames that are taken

map_set : (frames : List Frame) (index : ℕ) (frame : Frame)
    → map (λ (one : Frame). one.0) (slice_set frames index frame) ≡ slice_set (map (λ (one : Frame). one.0) frames) index frame.0
map_set [] index frame = refl
map_set (first ∷ frames) zero frame = refl
map_set (first ∷ frames) (suc index) frame = ap (λ (rest : List ℕ). first.0 ∷ rest) (map_set frames index frame)

at_set : (frames : List Frame) (index : ℕ) (frame : Frame) → index < length frames
    → frame_at (slice_set frames index frame) index ≡ frame.0
at_set frames index frame below =
    let size = length-map frames (λ (one : Frame). one.0) in
    ap (λ (all : List ℕ). get_or all index 0) (map_set frames index frame)
    ∙ get_or-set_same (map (λ (one : Frame). one.0) frames) index frame.0 0 (omega (arith, size, below))

at_other : (frames : List Frame) (index other : ℕ) (frame : Frame) → other ≢ index
    → frame_at (slice_set frames index frame) other ≡ frame_at frames other
at_other frames index other frame differ =
    ap (λ (all : List ℕ). get_or all other 0) (map_set frames index frame)
    ∙ get_or-set_other (map (λ (one : Frame). one.0) frames) index other frame.0 0 differ

module _ (old between new : Book) (frames : List Frame) (count : ℕ) (frame : Frame) (held : Kind × ℕ)
    (before : TakesFrames old between frames count) (free : IsFree between frame.0)
    (taken : new ≡ with_holder between frame.0 (Some held)) (one_fewer : free_count new + 1 ≡ free_count between)
    (room : count < length frames) where
  here : frame_at (slice_set frames count frame) count ≡ frame.0
  here = at_set frames count frame room

  there : (index : ℕ) → index ≢ count → frame_at (slice_set frames count frame) index ≡ frame_at frames index
  there index differ = at_other frames count index frame differ

  was_free : IsFree old frame.0
  was_free = (before.others frame.0 free).0

  each_by : (same : Bool) (index : ℕ) → (index == count) ≡ same → index < count + 1
      → IsFree old (frame_at (slice_set frames count frame) index)
  each_by true index is below =
      subst (IsFree old) (sym (ap (frame_at (slice_set frames count frame)) (eqb-true index count is) ∙ here)) was_free
  each_by false index is below =
      let differ = eqb-false index count is in
      subst (IsFree old) (sym (there index differ)) (before.each index (omega (arith, below, differ)))

  apart_from : (index : ℕ) → index < count → frame.0 ≢ frame_at frames index
  apart_from index below = (before.others frame.0 free).1 index below

  different_by : (first second : Bool) (index other : ℕ) → (index == count) ≡ first → (other == count) ≡ second
      → index < count + 1 → other < count + 1 → index ≢ other
      → frame_at (slice_set frames count frame) index ≢ frame_at (slice_set frames count frame) other
  different_by true true index other is same below low differ =
      absurd (differ (eqb-true index count is ∙ sym (eqb-true other count same)))
  different_by true false index other is same below low differ = λ equal.
      let apart = eqb-false other count same in
      apart_from other (omega (arith, low, apart))
      (sym here ∙ (ap (frame_at (slice_set frames count frame)) (sym (eqb-true index count is)) ∙ (equal ∙ there other apart)))
  different_by false true index other is same below low differ = λ equal.
      let apart = eqb-false index count is in
      apart_from index (omega (arith, below, apart))
      (sym here
      ∙ (ap (frame_at (slice_set frames count frame)) (sym (eqb-true other count same)) ∙ (sym equal ∙ there index apart)))
  different_by false false index other is same below low differ = λ equal.
      let first = eqb-false index count is in
      let second = eqb-false other count same in
      before.different index other (omega (arith, below, first)) (omega (arith, low, second)) differ
      (sym (there index first) ∙ (equal ∙ there other second))

  others_by : (same : Bool) (one index : ℕ) → (index == count) ≡ same → IsFree between one → one ≢ frame.0 → index < count + 1
      → one ≢ frame_at (slice_set frames count frame) index
  others_by true one index is free differ below = λ equal.
      differ (equal ∙ (ap (frame_at (slice_set frames count frame)) (eqb-true index count is) ∙ here))
  others_by false one index is free differ below = λ equal.
      let apart = eqb-false index count is in
      (before.others one free).1 index (omega (arith, below, apart)) (equal ∙ there index apart)

  others_now : (one : ℕ) → IsFree new one
      → IsFree old one × ((index : ℕ) → index < count + 1 → one ≢ frame_at (slice_set frames count frame) index)
  others_now one is =
      let known = free_before between frame.0 one held free.0 (subst (λ (book : Book). IsFree book one) taken is) in
      ((before.others one known.0).0, λ index below. others_by (index == count) one index refl known.0 known.1 below)

  booked_now : (root : RootKernel) (memory : Physical) → Stands root memory → IsBooked root old memory → IsBooked root new memory
  booked_now root memory stands booked =
      let held_between = before.booked root memory stands booked in
      subst (λ (book : Book). IsBooked root book memory) (sym taken)
      (booked_beside root memory between frame.0 (Some held) stands held_between free.0.0
      (λ part used. let e = sym free.1 ∙ held_between.held part frame.0 used in cc))

  -- one frame more
  pub one_taken : TakesFrames old new (slice_set frames count frame) (count + 1)
  one_taken = record {
    each = λ index below. each_by (index == count) index refl below;
    different = λ index other below low differ. different_by (index == count) (other == count) index other refl refl below low
        differ;
    others = others_now;
    fewer = (let was = before.fewer in omega (arith, was, one_fewer));
    booked = booked_now;
  }

-- ---- the tables in twelve frames

pub base_range : (frame : ℕ) → Contains base_frames frame → ((5 ≤ frame) × (frame < 8)) ⊎ ((32 ≤ frame) × (frame < 48))
base_range frame among = elim (among_cases 5 frame (6 ∷ 7 ∷ 32 ∷ shared_frames) among) [
  | inl here ↦ inl (omega (arith, here), omega (arith, here))
  | inr rest ↦ elim (among_cases 6 frame (7 ∷ 32 ∷ shared_frames) rest) [
    | inl here ↦ inl (omega (arith, here), omega (arith, here))
    | inr rest ↦ elim (among_cases 7 frame (32 ∷ shared_frames) rest) [
      | inl here ↦ inl (omega (arith, here), omega (arith, here))
      | inr rest ↦ elim (among_cases 32 frame shared_frames rest) [
        | inl here ↦ inr (omega (arith, here), omega (arith, here))
        | inr rest ↦ let range = shared_small frame rest in inr (omega (arith, range.0), range.1)
      ]
    ]
  ]
]

module _ (old new : Book) (frames : List Frame) (process : ℕ) (taken : TakesFrames old new frames 11)
    (eleven : length frames ≡ 11) (few : process < 16) where
  abbrev set : TableSet
  set = record { root = record { 0 = 16 + process }; tables = frames }

  pub above : (table : ℕ) → 1 ≤ table → table < 12 → 512 ≤ table_frame set table
  above zero first below = absurd (omega (arith, first))
  above (suc table) first below = (taken.each table (omega (arith, below))).0.0

  -- a frame of the set is the root, or one that was free
  frame_by : (frame table : ℕ) → table < length (set_frames set) → get_or (set_frames set) table 0 ≡ frame
      → (frame ≡ 16 + process) ⊎ IsFree old frame
  frame_by frame zero below is = inl (sym is)
  frame_by frame (suc table) below is =
      let size = length-map frames (λ (one : Frame). one.0) in
      inr (subst (IsFree old) is (taken.each table (omega (arith, below, size, eleven))))

  frame_of_set : (frame : ℕ) → Contains (set_frames set) frame → (frame ≡ 16 + process) ⊎ IsFree old frame
  frame_of_set frame among =
      let at = contains_index (set_frames set) frame among in frame_by frame at.0 at.1 at.2

  module _ (root : RootKernel) (memory : Physical) (stands : Stands root memory) (booked : IsBooked root old memory) where
    base_apart : (frame : ℕ) → Contains base_frames frame → ¬ Contains (set_frames set) frame
    base_apart frame among changed = elim (base_range frame among) [
      | inl range ↦ let low = range.1 in elim (frame_of_set frame changed) [
        | inl here ↦ absurd (omega (arith, low, here))
        | inr free ↦ let high = free.0.0 in absurd (omega (arith, low, high))
      ]
      | inr range ↦ let first = range.0 in let last = range.1 in elim (frame_of_set frame changed) [
        | inl here ↦ absurd (omega (arith, first, last, here, few))
        | inr free ↦ let high = free.0.0 in absurd (omega (arith, last, high))
      ]
    ]

    used_apart : (part : Use) (frame : ℕ) → used_frame root part ≡ Some frame → ¬ Contains (set_frames set) frame
    used_apart part frame used changed = elim (frame_of_set frame changed) [
      | inl here ↦ let high = (stands.inside part frame used).0 in absurd (omega (arith, high, here, few))
      | inr free ↦ absurd (let e = sym free.1 ∙ booked.held part frame used in cc)
    ]

    root_apart : IsRootApart root (set_frames set)
    root_apart = record { base = base_apart; tables = λ part frame table used. used_apart part frame used }

    -- the root kernel's tables stand where only frames of the set changed
    pub stands_beside : (new : Physical) → SameOutside (set_frames set) memory new → Stands root new
    stands_beside new same = stands_kept root (set_frames set) memory new stands same root_apart

-- ---- the pages that each view has of its own

own_word : (set : TableSet) (memory new : Physical) (at entry : ℕ) → length set.tables ≡ 11
    → new ≡ with_bytes memory (put_word memory.bytes (page_place set at) entry) → SameOutside (set_frames set) memory new
own_word set memory new at entry eleven written =
    same_within_one (table_frame set (page_table_of (region_of at))) (set_frames set) memory new
    (table_among set (page_table_of (region_of at)) eleven (page_table_small (region_of at)))
    (set_word set memory new at entry written)

-- what three entries change lies in the frames of the set
pub own_pages_same : (set : TableSet) (memory first second new : Physical) (at at' at'' entry entry' entry'' : ℕ)
    → length set.tables ≡ 11 → first ≡ with_bytes memory (put_word memory.bytes (page_place set at) entry)
    → second ≡ with_bytes first (put_word first.bytes (page_place set at') entry')
    → new ≡ with_bytes second (put_word second.bytes (page_place set at'') entry'') → SameOutside (set_frames set) memory new
own_pages_same set memory first second new at at' at'' entry entry' entry'' eleven one two three =
    same_outside_then (set_frames set) memory first new (own_word set memory first at entry eleven one)
    (same_outside_then (set_frames set) first second new (own_word set first second at' entry' eleven two)
    (own_word set second new at'' entry'' eleven three))

-- ---- the tables are exposed

-- one table more, of those that are left
pub exposes_more : (root : RootKernel) (set : TableSet) (first left table count : ℕ) (memory mid new : Physical)
    → left ≡ suc count → table ≡ first + 1
    → ExposesFrame root memory mid (table_frame set first) 1 → ExposesTables root set table count mid new
    → ExposesTables root set first left memory new
exposes_more root set first left table count memory mid new size next one rest =
    subst (λ (n : ℕ). ExposesTables root set first n memory new) (sym size)
    (mid, one, subst (λ (n : ℕ). ExposesTables root set n count mid new) next rest)

-- the frame of a table but the root, as it stands in the list of these
pub index_frame : (set : TableSet) (table : ℕ) → length set.tables ≡ 11 → table < 11
    → (get_or set.tables table (record { 0 = 0 })).0 ≡ table_frame set (suc table)
index_frame set table eleven below =
    sym (get_or-map (λ (frame : Frame). frame.0) set.tables table (record { 0 = 0 }) 0 (omega (arith, eleven, below)))

-- a table is exposed
pub one_exposed : (first root after : RootKernel) (set : TableSet) (table : ℕ) (memory new : Physical) → root ≡ first
    → after ≡ root → length set.tables ≡ 11 → table < 11
    → new ≡ with_bytes memory (put_word memory.bytes (shared_place (get_or set.tables table (record { 0 = 0 })).0)
    (leaf_to (get_or set.tables table (record { 0 = 0 })).0 1))
    → Stands after new → Exposes root memory new (get_or set.tables table (record { 0 = 0 })).0 1
    → ExposesFrame first memory new (table_frame set (1 + table)) 1
one_exposed first root after set table memory new is same eleven below written stands exposes =
    let next : suc table ≡ 1 + table = omega arith in
    let frame = index_frame set table eleven below ∙ ap (table_frame set) next in
    subst (λ (n : ℕ). ExposesFrame first memory new n 1) frame
    (subst (λ (one : RootKernel). ExposesFrame one memory new (get_or set.tables table (record { 0 = 0 })).0 1) is
    (record { written = written; stands = subst (λ (one : RootKernel). Stands one new) same stands; exposes = exposes }))

-- no table is left
pub exposes_none : (root : RootKernel) (set : TableSet) (first left : ℕ) (memory : Physical) → left ≡ 0
    → ExposesTables root set first left memory memory
exposes_none root set first left memory none =
    subst (λ (n : ℕ). ExposesTables root set first n memory memory) (sym none) refl

-- ---- the whole

module _ (old book : Book) (frames : List Frame) (process : ℕ) (root : RootKernel) (memory built mapped new : Physical)
    (taken : TakesFrames old book frames 11) (eleven : length frames ≡ 11) (few : process < 16)
    (tables : HasTables (record { root = record { 0 = 16 + process }; tables = frames }) built)
    (maps : Maps built (record { root = record { 0 = 16 + process }; tables = frames }) no_pages)
    (same : SameOutside (set_frames (record { root = record { 0 = 16 + process }; tables = frames })) memory built)
    (own : MapsOwnPages (record { root = record { 0 = 16 + process }; tables = frames }) built mapped)
    (exposed : ExposesTables root (record { root = record { 0 = 16 + process }; tables = frames }) 1 11 mapped new)
    (placement : Placement) (over : IsOver placement root old) (roots : HasFreeRoots placement process) where
  abbrev made : TableSet
  made = record { root = record { 0 = 16 + process }; tables = frames }

  unused_table : (table : ℕ) → table < 12 → placement.purpose (table_frame made table) ≡ Unused
  unused_table zero below = roots process (omega arith) few
  unused_table (suc table) below = over.unused _ (taken.each table (omega (arith, below)))

  adds : AddsTables placement process memory new
  adds = record {
    set = made;
    eleven = eleven;
    root = refl;
    few = few;
    unused = unused_table;
    above = above old book frames process taken eleven few;
    built = built;
    same = same;
    tables = tables;
    maps = maps;
    first = own.first;
    scratch = own.scratch;
    second = own.second;
    words = own.words;
    mapped = mapped;
    trampoline = own.trampoline;
    exposed = subst (λ (one : RootKernel). ExposesTables one made 1 11 mapped new) (sym over.rooted) exposed;
  }

  kept : (frame : ℕ) → ¬ Contains (set_frames made) frame
      → (placed_tables placement process made).purpose frame ≡ placement.purpose frame
  kept frame outside = others_kept (GuestTable process) placement.purpose (set_frames made) 0 frame outside

  outside_by : (frame table : ℕ) → frame ≢ 16 + process → ((index : ℕ) → index < 11 → frame ≢ frame_at frames index)
      → table < length (set_frames made) → get_or (set_frames made) table 0 ≡ frame → ⊥
  outside_by frame zero low apart below is = low (sym is)
  outside_by frame (suc table) low apart below is =
      let size = length-map frames (λ (one : Frame). one.0) in
      apart table (omega (arith, below, size, eleven)) (sym is)

  outside : (frame : ℕ) → frame ≢ 16 + process → ((index : ℕ) → index < 11 → frame ≢ frame_at frames index)
      → ¬ Contains (set_frames made) frame
  outside frame low apart among =
      let at = contains_index (set_frames made) frame among in outside_by frame at.0 low apart at.1 at.2

  unused_now : (frame : ℕ) → IsFree book frame → (placed_tables placement process made).purpose frame ≡ Unused
  unused_now frame free =
      let known = taken.others frame free in
      kept frame (outside frame (λ same. let high = known.0.0.0 in absurd (omega (arith, same, high, few))) known.1)
      ∙ over.unused frame known.0

  roots_now : HasFreeRoots (placed_tables placement process made) (process + 1)
  roots_now one first below =
      kept (16 + one) (outside (16 + one) (λ same. absurd (omega (arith, same, first)))
      (λ index within equal. let high = (taken.each index within).0.0 in absurd (omega (arith, equal, high, below))))
      ∙ roots one (omega (arith, first)) below

  -- the tables are added over each placement in which the frames were not used
  pub tables_added : AddedTables placement process root book memory new made
  unfolding adds
  tables_added = record {
    adds = adds;
    is = refl;
    over = record { rooted = over.rooted; unused = unused_now };
    roots = roots_now;
  }

-- ---- of a set that is what was built

pub set_stands : (old book : Book) (frames : List Frame) (process : ℕ) (root : RootKernel) (memory built new : Physical)
    (set : TableSet) → set ≡ record { root = record { 0 = 16 + process }; tables = frames } → TakesFrames old book frames 11
    → length frames ≡ 11 → process < 16 → Stands root memory → IsBooked root old memory
    → SameOutside (set_frames set) memory built → SameOutside (set_frames set) built new → Stands root new
set_stands old book frames process root memory built new set is taken eleven few stands booked first second =
    stands_beside old book frames process taken eleven few root memory stands booked new
    (subst (λ (one : TableSet). SameOutside (set_frames one) memory new) is
    (same_outside_then (set_frames set) memory built new first second))

pub set_booked : (old book : Book) (frames : List Frame) (root : RootKernel) (memory built new : Physical) (set : TableSet)
    → TakesFrames old book frames 11 → Stands root memory → IsBooked root old memory
    → SameOutside (set_frames set) memory built → SameOutside (set_frames set) built new → IsBooked root book new
set_booked old book frames root memory built new set taken stands booked first second =
    booked_kept root (set_frames set) memory new book (same_outside_then (set_frames set) memory built new first second)
    (taken.booked root memory stands booked)

pub set_added : (old book : Book) (frames : List Frame) (process : ℕ) (root : RootKernel) (memory built mapped new : Physical)
    (set : TableSet) → set ≡ record { root = record { 0 = 16 + process }; tables = frames } → TakesFrames old book frames 11
    → length frames ≡ 11 → process < 16 → HasTables set built → Maps built set no_pages
    → SameOutside (set_frames set) memory built → MapsOwnPages set built mapped → ExposesTables root set 1 11 mapped new
    → (placement : Placement) → IsOver placement root old → HasFreeRoots placement process
    → AddedTables placement process root book memory new set
set_added old book frames process root memory built mapped new set is taken eleven few =
    subst (λ (one : TableSet). HasTables one built → Maps built one no_pages → SameOutside (set_frames one) memory built
    → MapsOwnPages one built mapped → ExposesTables root one 1 11 mapped new
    → (placement : Placement) → IsOver placement root old → HasFreeRoots placement process
    → AddedTables placement process root book memory new one) (sym is)
    (λ tables maps same own exposed placement over roots.
    tables_added old book frames process root memory built mapped new taken eleven few tables maps same own exposed placement
    over roots)
