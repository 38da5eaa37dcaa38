-- A walk that meets no missing frame is the same, and reads the same words, in each memory that holds the words which it reads.
use Rattle.std.proofs.Common.{◌≡◌, ap, ℕ, Bool, true, false, List, [], ◌∷◌, ◌++◌, refl, arith}
use Rattle.std.specs.Prelude.{Result, Ok, Err, if◌then◌else◌, nat_le, ◌^◌, ◌*◌, ◌+◌, ◌%◌}
use Rattle.sb_memory.specs.Physical.{Physical, frame_count, has_frame, frame_of}
use Rattle.sb_memory.specs.Reading.{word_read, missing}
use Rattle.sb_memory.specs.Words.{word_at}
use Rattle.sb_memory.specs.declared.address.Access.{Access}
use Rattle.sb_memory.specs.declared.address.Access.TheVariants.{Read}
use Rattle.sb_memory.specs.declared.address.Missing.{Missing}
use Rattle.sb_memory.specs.declared.address.EptStop.{EptStop}
use Rattle.sb_memory.specs.declared.address.EptStop.TheVariants as stop
use Rattle.sb_memory.specs.declared.address.PhysAddr.{PhysAddr}
use Rattle.sb_memory.specs.declared.address.GuestPhys.{GuestPhys}
use Rattle.sb_walks.specs.declared.stop.TableStop.{TableStop}
use Rattle.sb_walks.specs.declared.stop.WalkStop.{WalkStop}
use Rattle.sb_walks.specs.declared.stop.WalkStop.TheVariants as walk
use Rattle.sb_walks.specs.Entry.{frame_in, entry_place, index_at, four_levels}
use Rattle.sb_memory.specs.Outcome.{and_then}
use Rattle.sb_walks.specs.Gaps.{NoGap, ept_gap, table_gap, walk_gap, nested_gap}
use Rattle.sb_walks.specs.Reads.{where_ok}
use Rattle.sb_walks.specs.Ept.{ept_entry, ept_step, ept_levels, ept_reads, ept_walk, ept_walk_reads, phys_in}
use Rattle.sb_walks.specs.Guest.{is_canonical, guest_read_answer, walk_step, walk_levels, level_reads, guest_walk, walk_reads, address_in}
use Rattle.sb_walks.specs.Nested.{memory_behind, entry_answer, entry_behind, guest_entry, guest_entry_reads, page_behind, page_answer, translation, entries_reads, translation_reads}
use Rattle.sb_walks.proofs.Page.{ept_offset}

-- ---- stops that are missing frames

pub first_no_gap : {A B E : Type 0} (gap : E → Bool) (answer : Result A E) (next : A → Result B E)
    → NoGap gap (and_then answer next) → NoGap gap answer
first_no_gap gap (Ok value) next h = tt
first_no_gap gap (Err e) next h = h

-- ---- lists

-- what holds at each place of a list
abbrev pub Each : {X : Type 0} → (X → Type 0) → List X → Type 0
Each P [] = Unit {0}
Each P (x ∷ xs) = P x × Each P xs

pub each_left : {X : Type 0} (P : X → Type 0) (xs ys : List X) → Each P (xs ++ ys) → Each P xs
each_left P [] ys h = tt
each_left P (x ∷ xs) ys h = (h.0, each_left P xs ys h.1)

pub each_right : {X : Type 0} (P : X → Type 0) (xs ys : List X) → Each P (xs ++ ys) → Each P ys
each_right P [] ys h = h
each_right P (x ∷ xs) ys h = each_right P xs ys h.1

pub each_joined : {X : Type 0} (P : X → Type 0) (xs ys : List X) → Each P xs → Each P ys → Each P (xs ++ ys)
each_joined P [] ys h k = k
each_joined P (x ∷ xs) ys h k = (h.0, each_joined P xs ys h.1 k)

-- ---- one answer, one list of what is read, and all of it is there

pub record Same {X A E : Type 0} (There : X → Type 0) (one two : Result A E) (first second : List X) : Type 0 where
  pub answer : two ≡ one
  pub reads : second ≡ first
  pub there : Each There first

pub goes_on : {X A B E : Type 0} (Holds There : X → Type 0) (gap : E → Bool) (answer : Result A E)
    (next next' : A → Result B E) (reads reads' : A → List X)
    → ((a : A) → Each Holds (reads a) → NoGap gap (next a) → Same There (next a) (next' a) (reads a) (reads' a))
    → Each Holds (where_ok answer reads) → NoGap gap (and_then answer next)
    → Same There (and_then answer next) (and_then answer next') (where_ok answer reads) (where_ok answer reads')
goes_on Holds There gap (Ok a) next next' reads reads' same h g = same a h g
goes_on Holds There gap (Err e) next next' reads reads' same h g = record { answer = refl; reads = refl; there = tt }

-- ---- the walk through the extended page tables

module _ (memory changed : Physical) (frames : frame_count changed ≡ frame_count memory) where
  -- a word that is there is the same
  abbrev pub Holds : ℕ → Type 0
  Holds place = place % 8 ≡ 0 → (word : ℕ) → word_read memory place ≡ Ok word → word_read changed place ≡ Ok word

  abbrev pub There : ℕ → Type 0
  There place = has_frame memory (frame_of place) ≡ true

  there_by : (test : Bool) (word place : ℕ) → (value : ℕ) → (if test then Ok word else Err (missing place)) ≡ Ok value
      → test ≡ true
  there_by true word place value e = refl
  there_by false word place value e = cc

  pub is_there : (place value : ℕ) → word_read memory place ≡ Ok value → There place
  is_there place value e = there_by (has_frame memory (frame_of place)) (word_at memory.bytes place) (frame_of place) value e

  entry_by : (count : ℕ) (access : Access) (level : ℕ) (place : ℕ) (answer other : Result ℕ Missing)
      → ((word : ℕ) → answer ≡ Ok word → other ≡ Ok word) → NoGap ept_gap (ept_entry count access level answer)
      → (ept_entry count access level other ≡ ept_entry count access level answer) × ((word : ℕ) × (answer ≡ Ok word))
  entry_by count access level place (Ok word) other h g = (ap (λ r. ept_entry count access level r) (h word refl), (word, refl))
  entry_by count access level place (Err gone) other h g = cc

  aligned : (frame index : ℕ) → (4096 * frame + 8 * index) % 8 ≡ 0
  aligned frame index = omega arith

  step_same : (at : ℕ) (access : Access) (level frame : ℕ) → Holds (entry_place frame level at)
      → NoGap ept_gap (ept_step memory at access level frame)
      → (ept_step changed at access level frame ≡ ept_step memory at access level frame) × There (entry_place frame level at)
  unfolding ept_step
  step_same at access level frame h g =
      let both = entry_by (frame_count memory) access level frame (word_read memory (entry_place frame level at))
      (word_read changed (entry_place frame level at)) (h (aligned frame (index_at level at))) g in
      (rw frames both.0, is_there (entry_place frame level at) both.1.0 both.1.1)

  levels_same : (at : ℕ) (access : Access) (levels : List ℕ) (frame : ℕ) → Each Holds (ept_reads memory at access levels frame)
      → NoGap ept_gap (ept_levels memory at access levels frame)
      → Same There (ept_levels memory at access levels frame) (ept_levels changed at access levels frame)
      (ept_reads memory at access levels frame) (ept_reads changed at access levels frame)
  levels_same at access [] frame h g = record { answer = refl; reads = refl; there = tt }
  levels_same at access (level ∷ levels) frame h g =
      let here = step_same at access level frame h.0 (first_no_gap ept_gap (ept_step memory at access level frame) _ g) in
      let rest = goes_on Holds There ept_gap (ept_step memory at access level frame) (ept_levels memory at access levels)
      (ept_levels changed at access levels) (ept_reads memory at access levels) (ept_reads changed at access levels)
      (λ next. levels_same at access levels next) h.1 g in
      record {
        answer = rw here.0 rest.answer;
        reads = rw here.0 (ap (λ others. entry_place frame level at ∷ others) rest.reads);
        there = (here.1, rest.there);
      }

  ends_same : {A B : Type 0} (E : Type 0) (to : A → B) (gap : E → Bool) (answer other : Result A E) (reads others : List ℕ)
      → Same There answer other reads others
      → Same There (and_then answer (λ a. Ok (to a))) (and_then other (λ a. Ok (to a))) reads others
  ends_same E to gap answer other reads others same =
      record { answer = ap (λ r. and_then r (λ a. Ok (to a))) same.answer; reads = same.reads; there = same.there }

  end_no_gap : {A B E : Type 0} (gap : E → Bool) (to : A → B) (answer : Result A E)
      → NoGap gap (and_then answer (λ a. Ok (to a))) → NoGap gap answer
  end_no_gap gap to (Ok a) g = tt
  end_no_gap gap to (Err e) g = g

  wide : (test : Bool) (eptp at : ℕ) (access : Access)
      → Each Holds (if test then [] else ept_reads memory at access four_levels (frame_in eptp))
      → NoGap ept_gap (if test then Err stop.TooWide
      else and_then (ept_levels memory at access four_levels (frame_in eptp)) (λ frame. Ok (phys_in at frame)))
      → Same There (if test then Err stop.TooWide
      else and_then (ept_levels memory at access four_levels (frame_in eptp)) (λ frame. Ok (phys_in at frame)))
      (if test then Err stop.TooWide else and_then (ept_levels changed at access four_levels (frame_in eptp))
      (λ frame. Ok (phys_in at frame)))
      (if test then [] else ept_reads memory at access four_levels (frame_in eptp))
      (if test then [] else ept_reads changed at access four_levels (frame_in eptp))
  wide true eptp at access h g = record { answer = refl; reads = refl; there = tt }
  wide false eptp at access h g =
      ends_same EptStop (phys_in at) ept_gap _ _ _ _
      (levels_same at access four_levels (frame_in eptp) h
      (end_no_gap ept_gap (phys_in at) (ept_levels memory at access four_levels (frame_in eptp)) g))

  pub ept_same : (eptp at : ℕ) (access : Access) → Each Holds (ept_walk_reads memory eptp at access)
      → NoGap ept_gap (ept_walk memory eptp at access)
      → Same There (ept_walk memory eptp at access) (ept_walk changed eptp at access)
      (ept_walk_reads memory eptp at access) (ept_walk_reads changed eptp at access)
  unfolding ept_walk ept_walk_reads
  ept_same eptp at access h g = wide (nat_le (2 ^ 48) at) eptp at access h g

  -- ---- an entry of the guest

  read_by : (place : ℕ) (answer other : Result ℕ Missing) → ((word : ℕ) → answer ≡ Ok word → other ≡ Ok word)
      → NoGap table_gap (entry_answer answer)
      → (entry_answer other ≡ entry_answer answer) × ((word : ℕ) × (answer ≡ Ok word))
  read_by place (Ok word) other h g = (ap entry_answer (h word refl), (word, refl))
  read_by place (Err gone) other h g = cc

  behind_same : (answer : Result PhysAddr EptStop) → ((place : PhysAddr) → answer ≡ Ok place → place.0 % 8 ≡ 0)
      → Each Holds (where_ok answer (λ place. place.0 ∷ [])) → NoGap table_gap (entry_behind memory answer)
      → (entry_behind changed answer ≡ entry_behind memory answer) × Each There (where_ok answer (λ place. place.0 ∷ []))
  behind_same (Ok place) even h g =
      let both = read_by place.0 (word_read memory place.0) (word_read changed place.0) (h.0 (even place refl)) g in
      (both.0, (is_there place.0 both.1.0 both.1.1, tt))
  behind_same (Err e) even h g = (refl, tt)

  behind_no_gap : (answer : Result PhysAddr EptStop) → NoGap table_gap (entry_behind memory answer) → NoGap ept_gap answer
  behind_no_gap (Ok place) g = tt
  behind_no_gap (Err e) g = g

  pub entry_same : (eptp at : ℕ) → at % 8 ≡ 0 → Each Holds (guest_entry_reads (memory_behind memory eptp) at)
      → NoGap table_gap (guest_entry (memory_behind memory eptp) at)
      → Same There (guest_entry (memory_behind memory eptp) at) (guest_entry (memory_behind changed eptp) at)
      (guest_entry_reads (memory_behind memory eptp) at) (guest_entry_reads (memory_behind changed eptp) at)
  unfolding guest_entry guest_entry_reads
  entry_same eptp at even h g =
      let first = ept_same eptp at Read (each_left Holds (ept_walk_reads memory eptp at Read) _ h)
      (behind_no_gap (ept_walk memory eptp at Read) g) in
      let last = behind_same (ept_walk memory eptp at Read)
      (λ place led. let offset = (ept_offset memory eptp at Read place led).1 in omega arith)
      (each_right Holds (ept_walk_reads memory eptp at Read) _ h) g in
      record {
        answer = rw first.answer last.0;
        reads = rw (first.answer, first.reads) refl;
        there = each_joined There _ _ first.there last.1;
      }

-- ---- the guest's walk, over entries that it reads

module _ (memory changed : Physical) (frames : frame_count changed ≡ frame_count memory) (eptp : ℕ) where
  abbrev old : ℕ → Result ℕ TableStop
  old = guest_entry (memory_behind memory eptp)

  abbrev new : ℕ → Result ℕ TableStop
  new = guest_entry (memory_behind changed eptp)

  abbrev HeldWord : ℕ → Type 0
  HeldWord = Holds memory changed frames

  abbrev ThereWord : ℕ → Type 0
  ThereWord = There memory changed frames

  -- an entry that is read is the same
  abbrev HeldEntry : ℕ → Type 0
  HeldEntry place = Each HeldWord (guest_entry_reads (memory_behind memory eptp) place)

  abbrev ThereEntry : ℕ → Type 0
  ThereEntry place = (guest_entry_reads (memory_behind changed eptp) place ≡ guest_entry_reads (memory_behind memory eptp) place)
      × Each ThereWord (guest_entry_reads (memory_behind memory eptp) place)

  judged_gap : (access : Access) (level : ℕ) (answer : Result ℕ TableStop)
      → NoGap walk_gap (guest_read_answer access level answer)
      → NoGap table_gap answer
  judged_gap access level (Ok entry) g = tt
  judged_gap access level (Err unread) g = g

  even_place : (frame index : ℕ) → (4096 * frame + 8 * index) % 8 ≡ 0
  even_place frame index = omega arith

  guest_step_same : (linear : ℕ) (access : Access) (level frame : ℕ) → HeldEntry (entry_place frame level linear)
      → NoGap walk_gap (walk_step old linear access level frame)
      → (walk_step new linear access level frame ≡ walk_step old linear access level frame)
      × ThereEntry (entry_place frame level linear)
  unfolding walk_step
  guest_step_same linear access level frame h g =
      let same = entry_same memory changed frames eptp (entry_place frame level linear)
      (even_place frame (index_at level linear)) h (judged_gap access level (old (entry_place frame level linear)) g) in
      (ap (λ r. guest_read_answer access level r) same.answer, (same.reads, same.there))

  guest_levels_same : (linear : ℕ) (access : Access) (levels : List ℕ) (frame : ℕ)
      → Each HeldEntry (level_reads old linear access levels frame)
      → NoGap walk_gap (walk_levels old linear access levels frame)
      → Same ThereEntry (walk_levels old linear access levels frame) (walk_levels new linear access levels frame)
      (level_reads old linear access levels frame) (level_reads new linear access levels frame)
  guest_levels_same linear access [] frame h g = record { answer = refl; reads = refl; there = tt }
  guest_levels_same linear access (level ∷ levels) frame h g =
      let here = guest_step_same linear access level frame h.0
      (first_no_gap walk_gap (walk_step old linear access level frame) _ g) in
      let rest = goes_on HeldEntry ThereEntry walk_gap (walk_step old linear access level frame)
      (walk_levels old linear access levels) (walk_levels new linear access levels)
      (level_reads old linear access levels) (level_reads new linear access levels)
      (λ next. guest_levels_same linear access levels next) h.1 g in
      record {
        answer = rw here.0 rest.answer;
        reads = rw here.0 (ap (λ others. entry_place frame level linear ∷ others) rest.reads);
        there = (here.1, rest.there);
      }

  canon : (test : Bool) (cr3 linear : ℕ) (access : Access)
      → Each HeldEntry (if test then level_reads old linear access four_levels (frame_in cr3) else [])
      → NoGap walk_gap (if test then and_then (walk_levels old linear access four_levels (frame_in cr3))
      (λ frame. Ok (address_in linear frame)) else Err walk.NonCanonical)
      → Same ThereEntry (if test then and_then (walk_levels old linear access four_levels (frame_in cr3))
      (λ frame. Ok (address_in linear frame)) else Err walk.NonCanonical)
      (if test then and_then (walk_levels new linear access four_levels (frame_in cr3))
      (λ frame. Ok (address_in linear frame)) else Err walk.NonCanonical)
      (if test then level_reads old linear access four_levels (frame_in cr3) else [])
      (if test then level_reads new linear access four_levels (frame_in cr3) else [])
  canon true cr3 linear access h g =
      let same = guest_levels_same linear access four_levels (frame_in cr3) h
      (end_no_gap memory changed frames walk_gap (address_in linear)
      (walk_levels old linear access four_levels (frame_in cr3)) g) in
      record {
        answer = ap (λ r. and_then r (λ frame. Ok (address_in linear frame))) same.answer;
        reads = same.reads;
        there =
            same.there;
      }
  canon false cr3 linear access h g = record { answer = refl; reads = refl; there = tt }

  guest_same : (cr3 linear : ℕ) (access : Access) → Each HeldEntry (walk_reads old cr3 linear access)
      → NoGap walk_gap (guest_walk old cr3 linear access)
      → Same ThereEntry (guest_walk old cr3 linear access) (guest_walk new cr3 linear access) (walk_reads old cr3 linear access)
      (walk_reads new cr3 linear access)
  unfolding guest_walk walk_reads
  guest_same cr3 linear access h g = canon (is_canonical linear) cr3 linear access h g

  -- ---- both

  entries_held : (places : List ℕ) → Each HeldWord (entries_reads (memory_behind memory eptp) places) → Each HeldEntry places
  entries_held [] h = tt
  entries_held (place ∷ places) h = (
    each_left HeldWord (guest_entry_reads (memory_behind memory eptp) place) _ h,
    entries_held places
        (each_right HeldWord (guest_entry_reads (memory_behind memory eptp) place) _ h),
  )

  entries_there : (places : List ℕ) → Each ThereEntry places
      → (entries_reads (memory_behind changed eptp) places ≡ entries_reads (memory_behind memory eptp) places)
      × Each ThereWord (entries_reads (memory_behind memory eptp) places)
  entries_there [] h = (refl, tt)
  entries_there (place ∷ places) h =
      let rest = entries_there places h.1 in
      (rw (h.0.0, rest.0) refl, each_joined ThereWord _ _ h.0.1 rest.1)

  page_no_gap : (access : Access) (answer : Result GuestPhys WalkStop)
      → NoGap nested_gap (page_behind (memory_behind memory eptp) access answer) → NoGap walk_gap answer
  page_no_gap access (Ok at) g = tt
  page_no_gap access (Err e) g = g

  answer_no_gap : (answer : Result PhysAddr EptStop) → NoGap nested_gap (page_answer answer) → NoGap ept_gap answer
  answer_no_gap (Ok at) g = tt
  answer_no_gap (Err e) g = g

  page_same : (access : Access) (answer : Result GuestPhys WalkStop)
      → Each HeldWord (where_ok answer (λ at. ept_walk_reads memory eptp at.0 access))
      → NoGap nested_gap (page_behind (memory_behind memory eptp) access answer)
      → Same ThereWord (page_behind (memory_behind memory eptp) access answer)
      (page_behind (memory_behind changed eptp) access answer)
      (where_ok answer (λ at. ept_walk_reads memory eptp at.0 access))
      (where_ok answer (λ at. ept_walk_reads changed eptp at.0 access))
  page_same access (Ok at) h g =
      let same = ept_same memory changed frames eptp at.0 access h (answer_no_gap (ept_walk memory eptp at.0 access) g) in
      record { answer = ap page_answer same.answer; reads = same.reads; there = same.there }
  page_same access (Err e) h g = record { answer = refl; reads = refl; there = tt }

  -- the nested walk depends on the words that it reads alone
  pub walk_same : (cr3 linear : ℕ) (access : Access)
      → Each HeldWord (translation_reads (memory_behind memory eptp) cr3 linear access)
      → NoGap nested_gap (translation (memory_behind memory eptp) cr3 linear access)
      → Same ThereWord (translation (memory_behind memory eptp) cr3 linear access)
      (translation (memory_behind changed eptp) cr3 linear access)
      (translation_reads (memory_behind memory eptp) cr3 linear access)
      (translation_reads (memory_behind changed eptp) cr3 linear access)
  unfolding translation translation_reads
  walk_same cr3 linear access h g =
      let held = entries_held (walk_reads old cr3 linear access)
      (each_left HeldWord (entries_reads (memory_behind memory eptp) (walk_reads old cr3 linear access)) _ h) in
      let first = guest_same cr3 linear access held (page_no_gap access (guest_walk old cr3 linear access) g) in
      let entries = entries_there (walk_reads old cr3 linear access) first.there in
      let last = page_same access (guest_walk old cr3 linear access)
      (each_right HeldWord (entries_reads (memory_behind memory eptp) (walk_reads old cr3 linear access)) _ h) g in
      record {
        answer = rw first.answer last.answer;
        reads = rw (first.answer, first.reads, entries.0, last.reads) refl;
        there = each_joined ThereWord _ _ entries.1 last.there;
      }
