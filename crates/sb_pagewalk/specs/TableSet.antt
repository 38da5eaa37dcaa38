-- A set of page tables: where its entries stand, what they say, and what a walk through them answers.
use Rattle.std.specs.Prelude.{ℕ, ◌≡◌, ◌+◌, ◌*◌, ◌/◌, ◌%◌, ◌^◌, ◌==◌, List, ◌∷◌, map, get_or, not, nat_lt, Result, Ok, Err, if◌then◌else◌}
use Rattle.sb_memory.specs.declared.page.TheConstants.{PAGE_SIZE}
use Rattle.sb_memory.specs.Outcome.{and_then}
use Rattle.sb_memory.specs.Physical.{Physical}
use Rattle.sb_memory.specs.Words.{word_at}
use Rattle.sb_memory.specs.declared.address.Access.{Access}
use Rattle.sb_memory.specs.declared.address.Frame.{Frame}
use Rattle.sb_memory.specs.declared.address.GuestPhys.{GuestPhys}
use Rattle.sb_walks.specs.declared.stop.WalkStop.{WalkStop}
use Rattle.sb_walks.specs.declared.stop.WalkStop.TheVariants.{NonCanonical, NotPresent}
use Rattle.sb_walks.specs.Entry.{entry_in}
use Rattle.sb_walks.specs.Guest.{is_canonical, guest_entry_answer, address_in, guest_walk}
use Rattle.sb_pagewalk.specs.declared.table_set.TableSet.{TableSet}
use Rattle.sb_pagewalk.specs.Direct.{direct_entry}
use Rattle.sb_pagewalk.specs.Windows.{region_of, page_table_of}

-- the numbers of the frames of a set: the root, then the tables in order
abbrev pub set_frames : TableSet → List ℕ
set_frames set = set.root.0 ∷ map (λ (frame : Frame). frame.0) set.tables

-- the number of the frame of a table; table 0 is the root
abbrev pub table_frame : TableSet → ℕ → ℕ
table_frame set table = get_or (set_frames set) table 0

-- the place of an entry of a table
abbrev pub place_in : TableSet → ℕ → ℕ → ℕ
place_in set table index = entry_in (table_frame set table) index

-- the place of the lowest entry for an address of a window
abbrev pub page_place : TableSet → ℕ → ℕ
page_place set address = place_in set (page_table_of (region_of address)) (address / PAGE_SIZE % 512)

-- an entry that leads to a table with all rights, or to none
abbrev pub entry_to : TableSet → ℕ → ℕ
entry_to set table = if table == 0 then 0 else PAGE_SIZE * table_frame set table + 7

-- the value of CR3 that leads to the root
abbrev pub cr3_of : TableSet → ℕ
cr3_of set = PAGE_SIZE * set.root.0

-- what the lowest entry for an address answers
abbrev pub page_walked : ℕ → ℕ → Access → Result GuestPhys WalkStop
page_walked entry linear access = and_then (guest_entry_answer access 1 entry) (λ frame. Ok (address_in linear frame))

-- what a walk answers through a set whose lowest entries are these, by the number of the page
unfoldable pub set_walked : (ℕ → ℕ) → ℕ → Access → Result GuestPhys WalkStop
set_walked entries linear access =
    if not (is_canonical linear) then Err NonCanonical
    else if not (nat_lt linear (2 ^ 39)) then Err (NotPresent 4)
    else if not (nat_lt linear (2 ^ 31)) then Err (NotPresent 3)
    else if page_table_of (region_of linear) == 0 then Err (NotPresent 2)
    else page_walked (entries (linear / PAGE_SIZE)) linear access

-- what a walk from the root of the set answers in a memory
abbrev pub walked_in : Physical → TableSet → ℕ → Access → Result GuestPhys WalkStop
walked_in memory set linear access = guest_walk (direct_entry memory) (cr3_of set) linear access

-- the lowest entries of a set that translates nothing
abbrev pub no_pages : ℕ → ℕ
no_pages page = 0

-- the set translates each page of a window by its entry, and nothing else
abbrev pub Maps : Physical → TableSet → (ℕ → ℕ) → Type 0
Maps memory set entries = (linear : ℕ) (access : Access) → walked_in memory set linear access ≡ set_walked entries linear access

-- these lowest entries, but for one page
abbrev pub with_entry : (ℕ → ℕ) → ℕ → ℕ → ℕ → ℕ
with_entry entries page entry other = if other == page then entry else entries other

-- the lowest entry of each page of a window
abbrev pub page_entry : Physical → TableSet → ℕ → ℕ
page_entry memory set page = word_at memory.bytes (page_place set (PAGE_SIZE * page))
