-- Memory that shows a state: one process, and one thread at home there, of which each view's own pages are there and no other.
use Rattle.std.proofs.Common.{◌≡◌, ◌≢◌, ◌∙◌, sym, ap, subst, ℕ, zero, suc, ◌+◌, ◌-◌, ◌*◌, ◌/◌, ◌%◌, ◌^◌, ◌<◌, ◌≤◌, ◌==◌, ◌⊎◌, inl, inr, Bool, true, false, nat_lt, List, [], ◌∷◌, length, get_or, refl, arith}
use Rattle.std.specs.Prelude.{Option, Some, None, replicate, IsTrue, if◌then◌else◌}
use Rattle.std.specs.List.{Contains}
use Rattle.std.proofs.lemmas.Bool.{cases_lt, eqb-true, eqb-false, ne_eqb, lt-ltb, le-ltb, ltb-true, ltb-false}
use Rattle.std.proofs.lemmas.List.{length-replicate, get_or-replicate}
use Rattle.std.proofs.Math.ListN.{get_or-eq_default}
use Rattle.byteorder.specs.Endian.{little_bytes}
use Rattle.sb_memory.specs.Physical.{Physical, HasSize, frame_count}
use Rattle.sb_memory.specs.Words.{word_at, put_word, zeros as so_many_zeros}
use Rattle.sb_memory.specs.declared.address.Frame.{Frame}
use Rattle.sb_memory.proofs.Words.{word_read_back, byte_in_word, word_of_same_bytes, zero_in_zeros}
use Rattle.sb_slots.specs.TextMap.{no_map}
use Rattle.sb_exec.proofs.RowWords.{either_number}
use Rattle.sb_walks.specs.Entry.{entry_in}
use Rattle.sb_pagewalk.specs.declared.table_set.TableSet.{TableSet}
use Rattle.sb_pagewalk.specs.Windows.{IsInWindow, region_of, page_table_of, next_table}
use Rattle.sb_pagewalk.specs.TableSet.{table_frame, place_in, entry_to, page_entry, Maps}
use Rattle.sb_pagewalk.specs.Standing.{HasTables as HasGuestTables}
use Rattle.sb_pagewalk.proofs.Standing.{stands_maps}
use Rattle.sb_pagewalk.proofs.OnePage.{set_walked_same}
use Rattle.sb_root.specs.declared.root_kernel.RootKernel.{RootKernel}
use Rattle.sb_root.specs.declared.view.View.{View}
use Rattle.sb_root.specs.Entry.{eptp_to, is_rights, leaf_to, entry_reached}
use Rattle.sb_root.specs.Tables.{IsPage, HasTables, IsRootMemory, IsExposed as IsExposedPage, base_frames, base_tables, base_entries, is_root_frame, upper_entries, directory_entries, view_entries, shared_frames, rights_in}
use Rattle.sb_root.specs.Root.{IsShaped, IsSet, is_listed, Use, ListOf, PartOf, eptp_list_frame, view_of, list_entry, used_frame, part_in, view_frames}
use Rattle.sb_root.specs.Standing.{HasView as HasViewTables, Stands, IsTable}
use Rattle.sb_root.proofs.BaseAnswers.{base_answers}
use Rattle.sb_root.proofs.Frames.{among_cases, shared_small}
use Rattle.sb_root.proofs.Leaves.{exposed_by}
use Rattle.sb_root.proofs.NewBase.{repeated}
use Rattle.sb_root.proofs.Uses.{part_few, part_is}
use Rattle.sb_state.specs.declared.page.PageName.{PageName}
use Rattle.sb_state.specs.declared.page.PageName.TheVariants.{Record, Scratch, HomeTrampoline, ServerTrampoline}
use Rattle.sb_state.specs.declared.page.Page.{Page}
use Rattle.sb_state.specs.declared.page.Mode.TheVariants as mode
use Rattle.sb_state.specs.declared.state.Thread.{Thread}
use Rattle.sb_state.proofs.Names.{name_same}
use Rattle.sb_state.proofs.Start.{zeros_size}
use Rattle.sb_trace.specs.PageName.{same_name, mode_of}
use Rattle.sb_trace.specs.PageWords.{zeros}
use Rattle.sb_trace.specs.State.{State, Process, find_page, page_with, thread_at, flight_at}
use Rattle.sb_trace.specs.Start.{start_thread}
use Rattle.sb_trace.specs.Windows.{name_at, process_shown, server_of}
use Rattle.sb_shows.specs.Placement.{Placement, Purpose, BaseTable, RootTable, GuestTable, Holds, IsThere, IsOneToOne, is_own, guest_page, leaf_for, leaf_if, entry_of, entries_of}
use Rattle.sb_shows.specs.Keeping.{IsExposed, HasGuest, HasView, HoldsPage, Keeps}
use Rattle.sb_shows.specs.Related.{cr3_of, HasCores}
use Rattle.sb_shows.specs.Windows.{page_number}
use Rattle.sb_shows.specs.Shows.{CoreWords, IsView, present_index}
use Rattle.sb_shows.specs.Existence.{SomeMemoryShows}
use Rattle.sb_shows.proofs.Joining.{own_entries}
use Rattle.sb_shows.proofs.Numbers.{name_number}
use Rattle.sb_shows.proofs.Shown.{keeps_shows}

-- ---- numbers by their places

-- what a function gives at so many places, from a first one on
tabulated : (ℕ → ℕ) → ℕ → ℕ → List ℕ
tabulated value first zero = []
tabulated value first (suc count) = value first ∷ tabulated value (first + 1) count

length_tabulated : (value : ℕ → ℕ) (first count : ℕ) → length (tabulated value first count) ≡ count
unfolding tabulated
length_tabulated value first zero = refl
length_tabulated value first (suc count) = ap suc (length_tabulated value (first + 1) count)

at_tabulated : (value : ℕ → ℕ) (first count place : ℕ) → place < count
    → get_or (tabulated value first count) place 0 ≡ value (first + place)
unfolding tabulated
at_tabulated value first zero place few = absurd (omega arith)
at_tabulated value first (suc count) zero few = ap value (omega arith)
at_tabulated value first (suc count) (suc place) few =
    at_tabulated value (first + 1) count place (omega arith) ∙ ap value (omega arith)

-- ---- the tables

abbrev numbered : ℕ → Frame
numbered number = record { 0 = number }

-- the page tables of the process, in frames 16 and 512 to 522
abbrev set : TableSet
set = record {
  root = numbered 16;
  tables = numbered 512 ∷ numbered 513 ∷ numbered 514 ∷ numbered 515 ∷ numbered 516 ∷ numbered 517 ∷ numbered 518 ∷ numbered 519
      ∷ numbered 520 ∷ numbered 521 ∷ numbered 522 ∷ [];
}

-- the home view, in frames 524 to 529
abbrev kept : View
kept = record {
  tables = record { root = numbered 524; pointers = numbered 525; directory = numbered 526; first = numbered 527 };
  record_page = numbered 528;
  scratch_page = numbered 529;
  home_root = numbered 16;
  target_root = numbered 16;
  server = false;
  listed = true;
}

abbrev nothing : Option View
nothing = None

abbrev no_frame : Option Frame
no_frame = None

-- the root kernel with that view, and the list in frame 523
abbrev root : RootKernel
root = record {
  lists = Some (numbered 523) ∷ replicate 31 no_frame;
  views = (Some kept ∷ replicate 15 nothing) ∷ replicate 31 (replicate 16 nothing);
}

-- the eleven tables can be read
abbrev exposed_entry : ℕ → ℕ
exposed_entry index = if nat_lt index 11 then leaf_to (512 + index) 1 else 0

-- the words of the tables in the first 512 frames
low_word : ℕ → ℕ → ℕ
low_word frame index =
    if frame == 5 then upper_entries 6 index
    else if frame == 6 then upper_entries 7 index
    else if frame == 7 then directory_entries 32 index
    else if frame == 16 then entry_to set (next_table 0 index)
    else if frame == 32 then base_entries index
    else if frame == 33 then exposed_entry index
    else 0

-- and in the others
high_word : ℕ → ℕ → ℕ
high_word frame index =
    if frame == 512 then entry_to set (next_table 1 index)
    else if frame == 513 then entry_to set (next_table 2 index)
    else if frame == 514 then entry_to set (next_table 3 index)
    else if frame == 522 then own_entries (0x70000 + index)
    else if frame == 523 then list_entry root 0 index
    else if frame == 524 then upper_entries 525 index
    else if frame == 525 then upper_entries 526 index
    else if frame == 526 then directory_entries 527 index
    else if frame == 527 then view_entries kept index
    else 0

-- the word at an index of a frame
word : ℕ → ℕ → ℕ
word frame index = if nat_lt frame 512 then low_word frame index else high_word frame index

word_byte : ℕ → ℕ → ℕ
word_byte frame offset = get_or (little_bytes 8 (word frame (offset / 8))) (offset % 8) 0

byte_at : ℕ → ℕ
byte_at place = word_byte (place / 4096) (place % 4096)

-- ---- the words fit

table_small : (table : ℕ) → table_frame set table < 523
table_small zero = omega arith
table_small (suc zero) = omega arith
table_small (suc (suc zero)) = omega arith
table_small (suc (suc (suc zero))) = omega arith
table_small (suc (suc (suc (suc zero)))) = omega arith
table_small (suc (suc (suc (suc (suc zero))))) = omega arith
table_small (suc (suc (suc (suc (suc (suc zero)))))) = omega arith
table_small (suc (suc (suc (suc (suc (suc (suc zero))))))) = omega arith
table_small (suc (suc (suc (suc (suc (suc (suc (suc zero)))))))) = omega arith
table_small (suc (suc (suc (suc (suc (suc (suc (suc (suc zero))))))))) = omega arith
table_small (suc (suc (suc (suc (suc (suc (suc (suc (suc (suc zero)))))))))) = omega arith
table_small (suc (suc (suc (suc (suc (suc (suc (suc (suc (suc (suc zero))))))))))) = omega arith
table_small (suc (suc (suc (suc (suc (suc (suc (suc (suc (suc (suc (suc table)))))))))))) = omega arith

link_small : (table : ℕ) → entry_to set table < 2 ^ 64
link_small table = let few = table_small table in either_number (table == 0) 0 _ (omega arith) (omega arith)

upper_small : (next index : ℕ) → next < 1000 → upper_entries next index < 2 ^ 64
upper_small next index few = either_number (index == 0) _ _ (omega arith) (omega arith)

directory_small : (first index : ℕ) → first < 1000 → index < 512 → directory_entries first index < 2 ^ 64
directory_small first index few within =
    either_number (index == 0) _ _ (omega arith) (either_number (nat_lt index 16) _ _ (omega arith) (omega arith))

base_small : (index : ℕ) → index < 512 → base_entries index < 2 ^ 64
unfolding base_entries
base_small index within =
    either_number (index == 1) _ _ (omega arith)
    (either_number (is_root_frame index) (leaf_to index 1) 0 (omega arith) (omega arith))

view_small : (index : ℕ) → index < 512 → view_entries kept index < 2 ^ 64
unfolding view_entries
view_small index within =
    either_number (index == 16) _ _ (omega arith)
    (either_number (index == 1) _ _ (omega arith)
    (either_number (index == 2) _ _ (omega arith) (either_number (index == 3) _ _ (omega arith) (base_small index within))))

own_small : (page : ℕ) → own_entries page < 2 ^ 64
unfolding leaf_for
own_small page =
    either_number (page == 0x70000) _ _ (omega arith)
    (either_number (page == 0x70002) _ _ (omega arith) (either_number (page == 0x70004) _ _ (omega arith) (omega arith)))

list_small : (index : ℕ) → list_entry root 0 index < 2 ^ 64
list_small zero = omega arith
list_small (suc index) = rw (repeated 15 index nothing) (omega arith)

word_small : (frame index : ℕ) → index < 512 → word frame index < 2 ^ 64
unfolding word low_word high_word
word_small frame index within =
    either_number (nat_lt frame 512) _ _
    (either_number (frame == 5) _ _ (upper_small 6 index (omega arith))
    (either_number (frame == 6) _ _ (upper_small 7 index (omega arith))
    (either_number (frame == 7) _ _ (directory_small 32 index (omega arith) within)
    (either_number (frame == 16) _ _ (link_small (next_table 0 index))
    (either_number (frame == 32) _ _ (base_small index within)
    (either_number (frame == 33) _ _ (either_number (nat_lt index 11) _ _ (omega arith) (omega arith)) (omega arith)))))))
    (either_number (frame == 512) _ _ (link_small (next_table 1 index))
    (either_number (frame == 513) _ _ (link_small (next_table 2 index))
    (either_number (frame == 514) _ _ (link_small (next_table 3 index))
    (either_number (frame == 522) _ _ (own_small (0x70000 + index))
    (either_number (frame == 523) _ _ (list_small index)
    (either_number (frame == 524) _ _ (upper_small 525 index (omega arith))
    (either_number (frame == 525) _ _ (upper_small 526 index (omega arith))
    (either_number (frame == 526) _ _ (directory_small 527 index (omega arith) within)
    (either_number (frame == 527) _ _ (view_small index within) (omega arith))))))))))

-- ---- the root kernel's lists and views

list_only : (thread : ℕ) (frame : Frame) → eptp_list_frame root thread ≡ Some frame → (thread ≡ 0) × (numbered 523 ≡ frame)
list_only zero frame is = (refl, cc)
list_only (suc thread) frame is = absurd (let none = repeated 31 thread no_frame in cc)

row_of : (thread index : ℕ) → view_of root (suc thread) index ≡ None
row_of thread index = elim (cases_lt thread 31) [
  | inl within ↦
      ap (λ (views : List (Option View)). get_or views index None) (get_or-replicate 31 thread (replicate 16 nothing) [] within)
      ∙ repeated 16 index nothing
  | inr beyond ↦
      let size = length-replicate 31 (replicate 16 nothing) in
      ap (λ (views : List (Option View)). get_or views index None)
      (get_or-eq_default (replicate 31 (replicate 16 nothing)) [] {n = thread} (omega arith))
]

view_only : (thread index : ℕ) (view : View) → view_of root thread index ≡ Some view
    → (thread ≡ 0) × (index ≡ 0) × (kept ≡ view)
view_only zero zero view is = (refl, refl, cc)
view_only zero (suc index) view is = absurd (let none = repeated 15 index nothing in cc)
view_only (suc thread) index view is = absurd (let none = row_of thread index in cc)

row_length : (thread : ℕ) → thread < 32 → length (get_or root.views thread []) ≡ 16
row_length zero within = ap suc (length-replicate 15 nothing)
row_length (suc thread) within =
    ap length (get_or-replicate 31 thread (replicate 16 nothing) [] (omega arith)) ∙ length-replicate 16 nothing

-- ---- what the frames are used for

abbrev IsListUse : Use → ℕ → Type 0
IsListUse part frame = (part ≡ ListOf 0) × (frame ≡ 523)

record IsPartUse (part : Use) (frame : ℕ) : Type 0 where
  number : ℕ
  few : number < 6
  use_is : part ≡ PartOf 0 0 number
  frame_is : frame ≡ 524 + number

part_at : (number : ℕ) → number < 6 → get_or (view_frames kept) number 0 ≡ 524 + number
part_at zero few = refl
part_at (suc zero) few = refl
part_at (suc (suc zero)) few = refl
part_at (suc (suc (suc zero))) few = refl
part_at (suc (suc (suc (suc zero)))) few = refl
part_at (suc (suc (suc (suc (suc zero))))) few = refl
part_at (suc (suc (suc (suc (suc (suc number)))))) few = absurd (omega arith)

used_only : (part : Use) (frame : ℕ) → used_frame root part ≡ Some frame → IsListUse part frame ⊎ IsPartUse part frame
used_only (ListOf zero) frame is = inl (refl, cc)
used_only (ListOf (suc thread)) frame is = absurd (let none = repeated 31 thread no_frame in cc)
used_only (PartOf zero zero part) frame is =
    inr (record {
      number = part;
      few = part_few kept part frame is;
      use_is = refl;
      frame_is = sym (part_is kept part frame is) ∙ part_at part (part_few kept part frame is);
    })
used_only (PartOf zero (suc index) part) frame is =
    absurd (let none = ap (λ (view : Option View). part_in view part) (repeated 15 index nothing) in cc)
used_only (PartOf (suc thread) index part) frame is =
    absurd (let none = ap (λ (view : Option View). part_in view part) (row_of thread index) in cc)

same_use : (first second : Use) (frame : ℕ) → IsListUse first frame ⊎ IsPartUse first frame
    → IsListUse second frame ⊎ IsPartUse second frame → first ≡ second
same_use first second frame (inl one) (inl two) = one.0 ∙ sym two.0
same_use first second frame (inl one) (inr two) = absurd (let a = one.1 in let b = two.frame_is in omega arith)
same_use first second frame (inr one) (inl two) = absurd (let a = one.frame_is in let b = two.1 in omega arith)
same_use first second frame (inr one) (inr two) =
    let a = one.frame_is in
    let b = two.frame_is in
    let number : one.number ≡ two.number = omega arith in one.use_is ∙ (ap (PartOf 0 0) number ∙ sym two.use_is)

-- ---- the frames of the page tables

later_frame : (table : ℕ) → table < 11 → table_frame set (suc table) ≡ 512 + table
later_frame zero within = refl
later_frame (suc zero) within = refl
later_frame (suc (suc zero)) within = refl
later_frame (suc (suc (suc zero))) within = refl
later_frame (suc (suc (suc (suc zero)))) within = refl
later_frame (suc (suc (suc (suc (suc zero))))) within = refl
later_frame (suc (suc (suc (suc (suc (suc zero)))))) within = refl
later_frame (suc (suc (suc (suc (suc (suc (suc zero))))))) within = refl
later_frame (suc (suc (suc (suc (suc (suc (suc (suc zero)))))))) within = refl
later_frame (suc (suc (suc (suc (suc (suc (suc (suc (suc zero))))))))) within = refl
later_frame (suc (suc (suc (suc (suc (suc (suc (suc (suc (suc zero)))))))))) within = refl
later_frame (suc (suc (suc (suc (suc (suc (suc (suc (suc (suc (suc table))))))))))) within = absurd (omega arith)

tables_differ : (table other : ℕ) → table < 12 → other < 12 → table ≢ other → table_frame set table ≢ table_frame set other
tables_differ zero zero first second differ = λ same. differ refl
tables_differ zero (suc other) first second differ = let frame = later_frame other (omega arith) in rw frame (omega arith)
tables_differ (suc table) zero first second differ = let frame = later_frame table (omega arith) in rw frame (omega arith)
tables_differ (suc table) (suc other) first second differ =
    let frame = later_frame table (omega arith) in
    let another = later_frame other (omega arith) in
    rw (frame, another) (omega arith)

-- ---- the state

own_pages : List Page
own_pages = page_with HomeTrampoline zeros ∷ page_with ServerTrampoline zeros ∷ page_with (Record 0 0) zeros ∷ page_with
    (Scratch 0 0) zeros ∷ []

home_thread : Thread
home_thread = start_thread 0 (record { home = 0; address = 0x400000 })

one_process : Process
one_process = record { map = no_map; heap_pages = 0; registration = None }

abbrev state : State
state =
    record {
      pages = own_pages;
      processes = one_process ∷ [];
      threads = home_thread ∷ [];
      flights = None ∷ [];
      free = 0;
      keys = [];
    }

-- the frame of each page
frame_for : PageName → ℕ
frame_for HomeTrampoline = 1
frame_for ServerTrampoline = 4
frame_for (Record thread view) = 528
frame_for (Scratch thread view) = 529
frame_for _ = 0

low_purpose : ℕ → Purpose
low_purpose frame =
    if frame == 1 then Holds HomeTrampoline
    else if frame == 4 then Holds ServerTrampoline
    else if frame == 16 then GuestTable 0 0
    else BaseTable

high_purpose : ℕ → Purpose
high_purpose frame =
    if nat_lt frame 523 then GuestTable 0 (frame - 511)
    else if frame == 523 then RootTable (ListOf 0)
    else if frame == 528 then Holds (Record 0 0)
    else if frame == 529 then Holds (Scratch 0 0)
    else RootTable (PartOf 0 0 (frame - 524))

purpose : ℕ → Purpose
purpose frame = if nat_lt frame 512 then low_purpose frame else high_purpose frame

abbrev placement : Placement
placement = record { root = root; sets = λ process. set; frame = frame_for; purpose = purpose }

-- what is shown: the process, in the home view of the thread
view_by : (test : Bool) (view process : ℕ) → (view == 0) ≡ test
    → (if test then Some home_thread.home else server_of home_thread.bindings view) ≡ Some process → (view ≡ 0) × (process ≡ 0)
unfolding home_thread
view_by true view process is shows = (eqb-true view 0 is, cc)
view_by false view process is shows = absurd cc

shown_only : (number view process : ℕ) → process_shown (home_thread ∷ []) number view ≡ Some process
    → (number ≡ 0) × (view ≡ 0) × (process ≡ 0)
unfolding process_shown
shown_only zero view process shows = let parts = view_by (view == 0) view process refl shows in (refl, parts.0, parts.1)
shown_only (suc number) view process shows = absurd cc

shown_home : process_shown (home_thread ∷ []) 0 0 ≡ Some 0
unfolding process_shown home_thread
shown_home = refl

-- a page that is there is one of the four, and holds zeros
record IsFour (name : PageName) (page : Page) : Type 0 where
  bytes : page.bytes ≡ zeros
  frame : purpose (frame_for name) ≡ Holds name
  low : frame_for name < 530
  empty : (index : ℕ) → word (frame_for name) index ≡ 0
  own : is_own name ≡ true

is_home : IsFour HomeTrampoline (page_with HomeTrampoline zeros)
unfolding frame_for purpose low_purpose word low_word is_own
is_home = record { bytes = refl; frame = refl; low = omega arith; empty = λ index. refl; own = refl }

is_server : IsFour ServerTrampoline (page_with ServerTrampoline zeros)
unfolding frame_for purpose low_purpose word low_word is_own
is_server = record { bytes = refl; frame = refl; low = omega arith; empty = λ index. refl; own = refl }

is_record : IsFour (Record 0 0) (page_with (Record 0 0) zeros)
unfolding frame_for purpose high_purpose word high_word is_own
is_record = record { bytes = refl; frame = refl; low = omega arith; empty = λ index. refl; own = refl }

is_scratch : IsFour (Scratch 0 0) (page_with (Scratch 0 0) zeros)
unfolding frame_for purpose high_purpose word high_word is_own
is_scratch = record { bytes = refl; frame = refl; low = omega arith; empty = λ index. refl; own = refl }

four_by : (name : PageName) (found : Page) (one : PageName) (test : Bool) (rest : Option Page) → same_name one name ≡ test
    → IsFour one (page_with one zeros) → (rest ≡ Some found → IsFour name found)
    → (if test then Some (page_with one zeros) else rest) ≡ Some found → IsFour name found
four_by name found one true rest same four other is =
    subst (λ n. IsFour n found) (name_same one name same)
    (let page_is : page_with one zeros ≡ found = cc in subst (IsFour one) page_is four)
four_by name found one false rest same four other is = other is

is_four : (name : PageName) (found : Page) → find_page own_pages name ≡ Some found → IsFour name found
unfolding own_pages
is_four name found is =
    four_by name found HomeTrampoline (same_name HomeTrampoline name) _ refl is_home
    (four_by name found ServerTrampoline (same_name ServerTrampoline name) _ refl is_server
    (four_by name found (Record 0 0) (same_name (Record 0 0) name) _ refl is_record
    (four_by name found (Scratch 0 0) (same_name (Scratch 0 0) name) _ refl is_scratch (λ none. absurd cc)))) is

home_there : IsThere own_pages HomeTrampoline
unfolding own_pages same_name
home_there = (page_with HomeTrampoline zeros, refl)

server_there : IsThere own_pages ServerTrampoline
unfolding own_pages same_name
server_there = (page_with ServerTrampoline zeros, refl)

record_there : IsThere own_pages (Record 0 0)
unfolding own_pages same_name
record_there = (page_with (Record 0 0) zeros, refl)

scratch_there : IsThere own_pages (Scratch 0 0)
unfolding own_pages same_name
scratch_there = (page_with (Scratch 0 0) zeros, refl)

-- ---- the lowest entries

-- a page that is no view's own is not there
absent : (name : PageName) (found : Option Page) → find_page own_pages name ≡ found → is_own name ≡ false
    → leaf_if frame_for name found ≡ 0
absent name None is own = refl
absent name (Some found) is own = absurd (let four = (is_four name found is).own in cc)

-- where no view's own page is seen there is no entry
own_number : (name : PageName) → is_own name ≡ true → (page : ℕ) → page ≢ 0x70000 → page ≢ 0x70002 → page ≢ 0x70004
    → page ≡ page_number name → ⊥
unfolding is_own page_number
own_number HomeTrampoline own page first second third is = first is
own_number ServerTrampoline own page first second third is = first is
own_number (Record thread view) own page first second third is = second is
own_number (Scratch thread view) own page first second third is = third is
own_number _ own page first second third is = absurd cc

other_by : (own : Bool) (name : PageName) (page : ℕ) → is_own name ≡ own → page ≢ 0x70000 → page ≢ 0x70002 → page ≢ 0x70004
    → page ≡ page_number name
    → (if own then leaf_for (guest_page frame_for name) (mode_of name false) else
    leaf_if frame_for name (find_page own_pages name))
    ≡ 0
other_by true name page own first second third is = absurd (own_number name own page first second third is)
other_by false name page own first second third is = absent name (find_page own_pages name) refl own

other_entry : (name : Option PageName) (page : ℕ) → page ≢ 0x70000 → page ≢ 0x70002 → page ≢ 0x70004
    → ((one : PageName) → name ≡ Some one → page ≡ page_number one) → entry_of frame_for own_pages name ≡ 0
other_entry None page first second third at = refl
other_entry (Some name) page first second third at =
    other_by (is_own name) name page refl first second third (at name refl)

trampoline_entry : (test : Bool) → entry_of frame_for own_pages (Some (if test then HomeTrampoline else ServerTrampoline))
    ≡ leaf_for 1 mode.Fetch
unfolding is_own guest_page mode_of
trampoline_entry true = refl
trampoline_entry false = refl

-- by the page's number
entry_by : (first second third : Bool) (threads : List Thread) (thread view page : ℕ) → (page == 0x70000) ≡ first
    → (page == 0x70002) ≡ second → (page == 0x70004) ≡ third
    → entry_of frame_for own_pages (name_at threads thread view page 0)
    ≡ (if first then leaf_for 1 mode.Fetch else if second then leaf_for 2 mode.Read else if third then leaf_for 3 mode.ReadWrite
    else 0)
unfolding name_at is_own guest_page mode_of
entry_by true second third threads thread view page one two three =
    subst (λ n. entry_of frame_for own_pages (name_at threads thread view n 0) ≡ leaf_for 1 mode.Fetch)
    (sym (eqb-true page 0x70000 one)) (trampoline_entry (view == 0))
entry_by false true third threads thread view page one two three =
    subst (λ n. entry_of frame_for own_pages (name_at threads thread view n 0) ≡ leaf_for 2 mode.Read)
    (sym (eqb-true page 0x70002 two)) refl
entry_by false false true threads thread view page one two three =
    subst (λ n. entry_of frame_for own_pages (name_at threads thread view n 0) ≡ leaf_for 3 mode.ReadWrite)
    (sym (eqb-true page 0x70004 three)) refl
entry_by false false false threads thread view page one two three =
    other_entry (name_at threads thread view page 0) page (eqb-false page 0x70000 one) (eqb-false page 0x70002 two)
    (eqb-false page 0x70004 three) (λ name is. (name_number threads thread view page 0 name is).0)

entries_are : (threads : List Thread) (thread view page : ℕ)
    → entry_of frame_for own_pages (name_at threads thread view page 0) ≡ own_entries page
entries_are threads thread view page =
    entry_by (page == 0x70000) (page == 0x70002) (page == 0x70004) threads thread view page refl refl refl

-- ---- what the frames are for

base_purpose : (frame : ℕ) → Contains base_frames frame → purpose frame ≡ BaseTable
unfolding purpose low_purpose
base_purpose frame among = elim (among_cases 5 frame (6 ∷ 7 ∷ 32 ∷ shared_frames) among) [
  | inl is ↦ ap purpose is
  | inr among ↦ elim (among_cases 6 frame (7 ∷ 32 ∷ shared_frames) among) [
    | inl is ↦ ap purpose is
    | inr among ↦ elim (among_cases 7 frame (32 ∷ shared_frames) among) [
      | inl is ↦ ap purpose is
      | inr among ↦ elim (among_cases 32 frame shared_frames among) [
        | inl is ↦ ap purpose is
        | inr among ↦
            let range = shared_small frame among in
            let from = range.0 in
            let below = range.1 in
            rw (
              lt-ltb frame 512 (omega arith),
              ne_eqb frame 1 (omega arith),
              ne_eqb frame 4 (omega arith),
              ne_eqb frame 16 (omega arith),
            ) refl
      ]
    ]
  ]
]

part_purpose : (part : ℕ) → part < 4 → purpose (524 + part) ≡ RootTable (PartOf 0 0 part)
unfolding purpose high_purpose
part_purpose zero few = refl
part_purpose (suc zero) few = refl
part_purpose (suc (suc zero)) few = refl
part_purpose (suc (suc (suc zero))) few = refl
part_purpose (suc (suc (suc (suc part)))) few = absurd (omega arith)

list_purpose : purpose 523 ≡ RootTable (ListOf 0)
unfolding purpose high_purpose
list_purpose = refl

part_table : (part : Use) (number : ℕ) → IsTable part → part ≡ PartOf 0 0 number → number < 4
part_table part number table is = subst IsTable is table

use_purpose : (part : Use) (frame : ℕ) → IsTable part → IsListUse part frame ⊎ IsPartUse part frame
    → purpose frame ≡ RootTable part
use_purpose part frame table (inl one) = ap purpose one.1 ∙ (list_purpose ∙ ap RootTable (sym one.0))
use_purpose part frame table (inr one) =
    ap purpose one.frame_is
    ∙ (part_purpose one.number (part_table part one.number table one.use_is) ∙ ap RootTable (sym one.use_is))

later_purpose : (table : ℕ) → table < 11 → purpose (512 + table) ≡ GuestTable 0 (suc table)
unfolding purpose high_purpose
later_purpose table few =
    let high : nat_lt (512 + table) 512 ≡ false = le-ltb (512 + table) 512 (omega arith) in
    let low : nat_lt (512 + table) 523 ≡ true = lt-ltb (512 + table) 523 (omega arith) in
    rw (high, low) (ap (GuestTable 0) (omega arith))

first_purpose : purpose 16 ≡ GuestTable 0 0
unfolding purpose low_purpose
first_purpose = refl

set_purpose : (table : ℕ) → table < 12 → purpose (table_frame set table) ≡ GuestTable 0 table
set_purpose zero few = first_purpose
set_purpose (suc table) few =
    ap purpose (later_frame table (omega arith)) ∙ later_purpose table (omega arith)

guest_purpose : (process table : ℕ) → process ≡ 0 → table < 12 → purpose (table_frame set table) ≡ GuestTable process table
guest_purpose process table none few = set_purpose table few ∙ ap (λ (n : ℕ). GuestTable n table) (sym none)

-- the bytes of 0 are zeros
zero_byte : (k : ℕ) → get_or (little_bytes 8 0) k 0 ≡ 0
unfolding so_many_zeros
zero_byte k = zero_in_zeros 8 k

-- ---- the memory

module _ (frames : ℕ) (enough : 530 ≤ frames) (most : frames ≤ 8192) where
  abbrev memory : Physical
  memory = record { bytes = tabulated byte_at 0 (4096 * frames); present = replicate frames true }

  counted : frame_count memory ≡ frames
  counted = length-replicate frames true

  there : (frame : ℕ) → frame < 530 → frame < frame_count memory
  there frame few = subst (λ count. frame < count) (sym counted) (omega arith)

  size : HasSize memory
  size = record {
    count = subst (λ count. count < 2 ^ 32) (sym counted) (omega arith);
    bytes = length_tabulated byte_at 0 (4096 * frames) ∙ ap (λ (count : ℕ). 4096 * count) (sym counted);
  }

  whole : IsRootMemory memory
  whole = record {
    size = size;
    all = λ frame within. get_or-replicate frames frame true false (subst (λ count. frame < count) counted within);
    least = subst (λ count. 513 ≤ count) (sym counted) (omega arith);
    most = subst (λ count. count ≤ 8192) (sym counted) most;
  }

  -- a byte of a word
  byte_is : (frame index k : ℕ) → frame < frames → index < 512 → k < 8
      → get_or memory.bytes (entry_in frame index + k) 0 ≡ get_or (little_bytes 8 (word frame index)) k 0
  unfolding byte_at word_byte
  byte_is frame index k within few below =
      let place : 0 + (entry_in frame index + k) ≡ entry_in frame index + k = omega arith in
      let number : (entry_in frame index + k) / 4096 ≡ frame = omega arith in
      let at : (entry_in frame index + k) % 4096 / 8 ≡ index = omega arith in
      let offset : (entry_in frame index + k) % 4096 % 8 ≡ k = omega arith in
      at_tabulated byte_at 0 (4096 * frames) (entry_in frame index + k) (omega arith)
      ∙ (ap byte_at place ∙ (rw (number, at, offset) refl))

  word_is : (frame index : ℕ) → frame < frames → index < 512 → word_at memory.bytes (entry_in frame index) ≡ word frame index
  word_is frame index within few =
      let long = length_tabulated byte_at 0 (4096 * frames) in
      let fits : entry_in frame index + 8 ≤ length memory.bytes = omega arith in
      word_of_same_bytes memory.bytes (put_word memory.bytes (entry_in frame index) (word frame index)) (entry_in frame index)
      (λ k below. byte_is frame index k within few below
      ∙ sym (byte_in_word memory.bytes (entry_in frame index) (word frame index) k below fits))
      ∙ word_read_back memory.bytes (entry_in frame index) (word frame index) fits (word_small frame index few)

  -- ---- the root kernel stands

  shape : IsShaped root
  shape = record {
    lists = ap suc (length-replicate 31 no_frame);
    threads = ap suc (length-replicate 31 (replicate 16 nothing));
    views = row_length;
  }

  base_table : HasTables memory base_tables base_entries
  unfolding word low_word
  base_table = record {
    root = record { entry = λ index few. word_is 5 index (omega arith) few };
    pointers = record { entry = λ index few. word_is 6 index (omega arith) few };
    directory = record { entry = λ index few. word_is 7 index (omega arith) few };
    first = record { entry = λ index few. word_is 32 index (omega arith) few };
    inside = (there 5 (omega arith), there 6 (omega arith), there 7 (omega arith), there 32 (omega arith));
  }

  view_table : HasTables memory kept.tables (view_entries kept)
  unfolding word high_word
  view_table = record {
    root = record { entry = λ index few. word_is 524 index (omega arith) few };
    pointers = record { entry = λ index few. word_is 525 index (omega arith) few };
    directory = record { entry = λ index few. word_is 526 index (omega arith) few };
    first = record { entry = λ index few. word_is 527 index (omega arith) few };
    inside = (there 524 (omega arith), there 525 (omega arith), there 526 (omega arith), there 527 (omega arith));
  }

  -- of the shared pages the eleven tables are exposed, for reading
  abbrev rights_by : Bool → ℕ
  rights_by table = if table then 1 else 0

  abbrev shared_rights : ℕ → ℕ
  shared_rights page = rights_by (nat_lt page 523)

  second_region : (table : Bool) (page : ℕ) → nat_lt page 523 ≡ table → 512 ≤ page → page < 1024
      → exposed_entry (page % 512) ≡ leaf_to page (rights_by table)
  second_region true page is from below =
      let few = ltb-true page 523 is in
      let low : nat_lt (page % 512) 11 ≡ true = lt-ltb (page % 512) 11 (omega arith) in
      rw low (ap (λ (one : ℕ). leaf_to one 1) (omega arith))
  second_region false page is from below =
      let far = ltb-false page 523 is in
      let high : nat_lt (page % 512) 11 ≡ false = le-ltb (page % 512) 11 (omega arith) in
      rw high refl

  shared_word : (page : ℕ) → 512 ≤ page → page < 8192 → word (32 + page / 512) (page % 512) ≡ leaf_to page (shared_rights page)
  unfolding word low_word
  shared_word page from below = elim (cases_lt page 1024) [
    | inl second ↦
        let region : 32 + page / 512 ≡ 33 = omega arith in
        ap (λ frame. word frame (page % 512)) region ∙ second_region (nat_lt page 523) page refl from second
    | inr later ↦
        let low : nat_lt (32 + page / 512) 512 ≡ true = lt-ltb (32 + page / 512) 512 (omega arith) in
        let none : nat_lt page 523 ≡ false = le-ltb page 523 (omega arith) in
        rw (
          low,
          ne_eqb (32 + page / 512) 5 (omega arith),
          ne_eqb (32 + page / 512) 6 (omega arith),
          ne_eqb (32 + page / 512) 7 (omega arith),
          ne_eqb (32 + page / 512) 16 (omega arith),
          ne_eqb (32 + page / 512) 32 (omega arith),
          ne_eqb (32 + page / 512) 33 (omega arith),
          none,
        ) refl
  ]

  rights_possible : (table : Bool) → IsTrue (is_rights (rights_by table))
  rights_possible true = refl
  rights_possible false = refl

  exposed_inside : (table : Bool) (page : ℕ) → nat_lt page 523 ≡ table → rights_by table ≢ 0 → page < frame_count memory
  exposed_inside true page is some = let few = ltb-true page 523 is in there page (omega arith)
  exposed_inside false page is some = absurd (some refl)

  shared_page : (page : ℕ) → 512 ≤ page → page < 8192 → IsExposedPage memory page
  shared_page page from below =
      exposed_by memory page (shared_rights page)
      (word_is (32 + page / 512) (page % 512) (omega arith) (omega arith) ∙ shared_word page from below)
      (rights_possible (nat_lt page 523)) (exposed_inside (nat_lt page 523) page refl)

  list_page : IsPage memory 523 (list_entry root 0)
  unfolding word high_word
  list_page = record { entry = λ index few. word_is 523 index (omega arith) few }

  lists : (number : ℕ) (frame : Frame) → eptp_list_frame root number ≡ Some frame
      → IsPage memory frame.0 (list_entry root number)
  lists number frame is =
      let only = list_only number frame is in
      subst (λ n. IsPage memory frame.0 (list_entry root n)) (sym only.0)
      (subst (λ (one : Frame). IsPage memory one.0 (list_entry root 0)) only.1 list_page)

  views : (number index : ℕ) (view : View) → view_of root number index ≡ Some view → HasViewTables memory view
  views number index view is =
      subst (HasViewTables memory) (view_only number index view is).2
      (record { tables = view_table; home = (omega arith, omega arith); target = (omega arith, omega arith) })

  listed : (number index : ℕ) (view : View) → view_of root number index ≡ Some view → eptp_list_frame root number ≢ None
  listed number index view is =
      subst (λ n. eptp_list_frame root n ≢ None) (sym (view_only number index view is).0) (λ none. absurd cc)

  inside_by : (part : Use) (frame : ℕ) → IsListUse part frame ⊎ IsPartUse part frame
      → (512 ≤ frame) × (frame < frame_count memory)
  inside_by part frame (inl one) = let here = one.1 in (omega arith, there frame (omega arith))
  inside_by part frame (inr one) =
      let here = one.frame_is in
      let few = one.few in (omega arith, there frame (omega arith))

  stands : Stands root memory
  stands = record {
    shape = shape;
    whole = whole;
    base = record { tables = base_table; shared = shared_page };
    lists = lists;
    views = views;
    listed = listed;
    inside = λ part frame used. inside_by part frame (used_only part frame used);
    apart = λ first second frame one two. same_use first second frame (used_only first frame one) (used_only second frame two);
  }

  -- ---- the page tables stand, and lead to the own pages

  inside : (table : ℕ) → table < 12 → table_frame set table < frame_count memory
  inside table few = let small = table_small table in there (table_frame set table) (omega arith)

  upper : (table index : ℕ) → table < 4 → index < 512
      → word_at memory.bytes (place_in set table index) ≡ entry_to set (next_table table index)
  unfolding word low_word high_word
  upper zero index number few = word_is 16 index (omega arith) few
  upper (suc zero) index number few = word_is 512 index (omega arith) few
  upper (suc (suc zero)) index number few = word_is 513 index (omega arith) few
  upper (suc (suc (suc zero))) index number few = word_is 514 index (omega arith) few
  upper (suc (suc (suc (suc table)))) index number few = absurd (omega arith)

  tables : HasGuestTables set memory
  tables = record { frames = record { inside = inside; different = tables_differ }; upper = upper }

  low_entries : (page : ℕ) → page < 0x70000 → own_entries page ≡ 0
  low_entries page low =
      rw (ne_eqb page 0x70000 (omega arith), ne_eqb page 0x70002 (omega arith), ne_eqb page 0x70004 (omega arith)) refl

  -- the word of the page table with this number, at the index of a page
  record IsEntered (page table : ℕ) : Type 0 where
    is : table ≢ 0 → (table < 12) × (word (table_frame set table) (page % 512) ≡ own_entries page)

  entered_if : (test : Bool) (page one other : ℕ) → (test ≡ true → IsEntered page one)
      → (test ≡ false → IsEntered page other) → IsEntered page (if test then one else other)
  entered_if true page one other first second = first refl
  entered_if false page one other first second = second refl

  low_region : (page region : ℕ) → (page / 512 == region) ≡ true → region < 896 → page < 0x70000
  low_region page region is low = let same = eqb-true (page / 512) region is in omega arith

  last_region : (page : ℕ) → (page / 512 == 896) ≡ true → 0x70000 + page % 512 ≡ page
  last_region page is = let same = eqb-true (page / 512) 896 is in omega arith

  -- a page below the last window has no entry
  low_entered : (page region table : ℕ) → (page / 512 == region) ≡ true → region < 896 → table < 12
      → word (table_frame set table) (page % 512) ≡ 0 → IsEntered page table
  low_entered page region table is low few none =
      record { is = λ some. (few, none ∙ sym (low_entries page (low_region page region is low))) }

  entered : (page : ℕ) → IsEntered page (page_table_of (page / 512))
  unfolding page_table_of word high_word
  entered page =
      entered_if (page / 512 == 0) page _ _ (λ is. low_entered page 0 4 is (omega arith) (omega arith) refl)
      (λ _. entered_if (page / 512 == 2) page _ _ (λ is. low_entered page 2 5 is (omega arith) (omega arith) refl)
      (λ _. entered_if (page / 512 == 4) page _ _ (λ is. low_entered page 4 6 is (omega arith) (omega arith) refl)
      (λ _. entered_if (page / 512 == 6) page _ _ (λ is. low_entered page 6 7 is (omega arith) (omega arith) refl)
      (λ _. entered_if (page / 512 == 16) page _ _ (λ is. low_entered page 16 8 is (omega arith) (omega arith) refl)
      (λ _. entered_if (page / 512 == 24) page _ _ (λ is. low_entered page 24 9 is (omega arith) (omega arith) refl)
      (λ _. entered_if (page / 512 == 32) page _ _ (λ is. low_entered page 32 10 is (omega arith) (omega arith) refl)
      (λ _. entered_if (page / 512 == 896) page _ _
      (λ is. record { is = λ some. (omega arith, ap own_entries (last_region page is)) })
      (λ _. record { is = λ some. absurd (some refl) }))))))))

  page_is : (linear : ℕ) → IsInWindow linear → page_entry memory set (linear / 4096) ≡ own_entries (linear / 4096)
  page_is linear window =
      let here : region_of (4096 * (linear / 4096)) ≡ linear / 4096 / 512 = omega arith in
      let number : 4096 * (linear / 4096) / 4096 ≡ linear / 4096 = omega arith in
      let there : region_of linear ≡ linear / 4096 / 512 = omega arith in
      let some : page_table_of (linear / 4096 / 512) ≢ 0 = subst (λ region. page_table_of region ≢ 0) there window in
      let one = (entered (linear / 4096)).is some in
      let small = table_small (page_table_of (linear / 4096 / 512)) in
      rw (here, number)
      (word_is (table_frame set (page_table_of (linear / 4096 / 512))) (linear / 4096 % 512) (omega arith) (omega arith) ∙ one.1)

  maps : (number view : ℕ) → Maps memory set (entries_of frame_for state number view 0)
  maps number view linear access =
      stands_maps set memory tables size linear access
      ∙ set_walked_same (page_entry memory set) (entries_of frame_for state number view 0) linear access
      (λ window. page_is linear window ∙ sym (entries_are (home_thread ∷ []) number view (linear / 4096)))

  far : (table : ℕ) → 1 ≤ table → table < 12 → 512 ≤ table_frame set table
  far zero first few = absurd (omega arith)
  far (suc table) first few = let frame = later_frame table (omega arith) in omega arith

  read_rights : (table : ℕ) → 1 ≤ table → table < 12 → rights_in memory (table_frame set table) ≡ 1
  read_rights table first few =
      let from = far table first few in
      let small = table_small table in
      let exposed : nat_lt (table_frame set table) 523 ≡ true = lt-ltb (table_frame set table) 523 small in
      let leaf : leaf_to (table_frame set table) (shared_rights (table_frame set table)) ≡ 4096 * table_frame set table + 49 =
      rw exposed refl in
      let is = word_is (32 + table_frame set table / 512) (table_frame set table % 512) (omega arith) (omega arith)
      ∙ (shared_word (table_frame set table) from (omega arith) ∙ leaf) in
      ap (λ (entry : ℕ). entry % 8) is ∙ omega arith

  readable : (table : ℕ) → 1 ≤ table → table < 12 → IsExposed memory (table_frame set table) 1
  readable table first few =
      let from = far table first few in
      let small = table_small table in
      record {
        answer = λ at access here.
            (base_answers root memory stands).shared at access (omega arith) (omega arith)
            ∙ (ap (λ (frame : ℕ). entry_reached frame (rights_in memory frame) at access) here
            ∙ ap (λ (rights : ℕ). entry_reached (table_frame set table) rights at access) (read_rights table first few));
      }

  -- ---- the state is kept

  no_process : (number : ℕ) → number < 1 → number ≡ 0
  no_process number few = omega arith

  guest : (number : ℕ) → number < 1 → HasGuest placement state memory number
  guest number few =
      let none = no_process number few in
      subst (HasGuest placement state memory) (sym none)
      (record {
        tables = tables;
        root = refl;
        few = omega arith;
        maps = maps;
        above = far;
        readable = readable;
      })

  home_at : (thread_at state 0).home ≡ 0
  unfolding thread_at home_thread
  home_at = refl

  home_view : HasView placement state 0 0 0
  unfolding frame_for thread_at home_thread
  home_view = record {
    served = omega arith;
    few = omega arith;
    process_there = omega arith;
    home_there = omega arith;
    kept = kept;
    is = refl;
    listed = refl;
    home = refl;
    target = refl;
    server = refl;
    words = refl;
    scratch = refl;
    words_there = record_there;
    scratch_there = scratch_there;
  }

  view_kept : (number view process : ℕ) → process_shown (home_thread ∷ []) number view ≡ Some process
      → HasView placement state number view process
  view_kept number view process shows =
      let only = shown_only number view process shows in
      subst (λ n. HasView placement state n view process) (sym only.0)
      (subst (λ n. HasView placement state 0 n process) (sym only.1)
      (subst (λ n. HasView placement state 0 0 n) (sym only.2) home_view))

  set_only : (number view : ℕ) → IsSet root number view
      → (process : ℕ) × (process_shown (home_thread ∷ []) number view ≡ Some process)
  set_only zero zero set = (0, shown_home)
  set_only zero (suc view) set = absurd (let none = repeated 15 view nothing in let e = sym (ap is_listed none) ∙ set in cc)
  set_only (suc number) view set = absurd (let e = sym (ap is_listed (row_of number view)) ∙ set in cc)

  held_zeros : (frame offset : ℕ) → frame < 530 → offset < 4096 → ((index : ℕ) → word frame index ≡ 0)
      → get_or memory.bytes (4096 * frame + offset) 0 ≡ get_or zeros offset 0
  unfolding zeros
  held_zeros frame offset low within empty =
      let place : entry_in frame (offset / 8) + offset % 8 ≡ 4096 * frame + offset = omega arith in
      ap (λ (at : ℕ). get_or memory.bytes at 0) (sym place)
      ∙ (byte_is frame (offset / 8) (offset % 8) (omega arith) (omega arith) (omega arith)
      ∙ (ap (λ (word : ℕ). get_or (little_bytes 8 word) (offset % 8) 0) (empty (offset / 8))
      ∙ (zero_byte (offset % 8) ∙ sym (repeated 4096 offset 0))))

  holds : (name : PageName) (found : Page) → IsFour name found → HoldsPage placement memory name found.bytes
  holds name found four =
      let low = four.low in
      subst (HoldsPage placement memory name) (sym four.bytes)
      (record {
        inside = there (frame_for name) low;
        size = zeros_size;
        byte = λ offset within. held_zeros (frame_for name) offset low within four.empty;
      })

  frames_apart : IsOneToOne placement state
  frames_apart = record {
    base = base_purpose;
    root = λ part frame table used. use_purpose part frame table (used_only part frame used);
    guest = λ process table there few. guest_purpose process table (no_process process there) few;
    pages = λ name there. (is_four name there.0 there.1).frame;
  }

  keeps : Keeps placement state memory
  unfolding frame_for
  keeps = record {
    leads = record {
      stands = stands;
      guests = guest;
      pages = λ name found is own. absurd (let four = (is_four name found is).own in cc);
      views = view_kept;
      only = set_only;
      home = (refl, home_there);
      server = (refl, server_there);
    };
    apart = frames_apart;
    contents = record { page = λ name found is. holds name found (is_four name found is) };
  }

  -- ---- the words of the core

  abbrev cores : ℕ → CoreWords
  cores number = record { list = 523; cr3 = 65536; eptp = eptp_to 524 }

  has_cores : HasCores placement state cores
  unfolding thread_at flight_at home_thread
  has_cores = record {
    list = λ number few. subst
        (λ n. (frame : Frame) × (eptp_list_frame root n ≡ Some frame) × (523 ≡ frame.0)) (sym (no_process number few))
        (numbered 523, refl, refl);
    cr3 = λ number few. subst (λ n. 65536 ≡ cr3_of state n) (sym (no_process number few)) refl;
    eptp = λ number few. subst (λ n. eptp_to 524 ≡ list_entry root n (present_index state n)) (sym (no_process number few)) refl;
    present = λ number few. subst (λ n. IsView state n (present_index state n)) (sym (no_process number few)) (0, shown_home);
  }

pub some_memory_shows : SomeMemoryShows
some_memory_shows frames enough most = (
  state,
  memory frames enough most,
  cores frames enough most,
  refl,
  refl,
  counted frames enough most,
  keeps_shows placement state (memory frames enough most) (cores frames enough most) (keeps frames enough most)
      (has_cores frames enough most),
)
