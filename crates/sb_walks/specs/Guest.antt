-- The walk through the guest's page tables, over what is read at the places of their entries.
use Rattle.std.specs.Prelude.{ℕ, ◌+◌, ◌*◌, ◌%◌, ◌==◌, ◌&&◌, ◌||◌, not, Bool, List, [], ◌∷◌, Result, Ok, Err, if◌then◌else◌}
use Rattle.sb_memory.specs.declared.page.TheConstants.{PAGE_SIZE}
pub use Rattle.sb_memory.specs.Address.{is_canonical}
use Rattle.sb_memory.specs.Outcome.{and_then}
use Rattle.sb_memory.specs.declared.address.Access.{Access}
use Rattle.sb_memory.specs.declared.address.Access.TheVariants.{Read, Write, Fetch}
use Rattle.sb_memory.specs.declared.address.GuestPhys.{GuestPhys}
use Rattle.sb_walks.specs.declared.stop.TableStop.{TableStop}
use Rattle.sb_walks.specs.declared.stop.WalkStop.{WalkStop}
use Rattle.sb_walks.specs.declared.stop.WalkStop.TheVariants as stop
use Rattle.sb_walks.specs.Entry.{is_present, is_writable, is_user, maps_large_page, is_execute_disabled, frame_in, entry_place, four_levels}
use Rattle.sb_walks.specs.Reads.{where_ok}

-- whether an entry permits an access in user mode
abbrev pub guest_permits : Access → ℕ → Bool
guest_permits Read entry = is_user entry
guest_permits Write entry = is_user entry && is_writable entry
guest_permits Fetch entry = is_user entry && not (is_execute_disabled entry)

-- what an entry leads to: the next frame, or the first refusal that applies
unfoldable pub guest_entry_answer : Access → ℕ → ℕ → Result ℕ WalkStop
guest_entry_answer access level entry =
    if not (is_present entry) then Err (stop.NotPresent level)
    else if ((level == 3) || (level == 2)) && maps_large_page entry then Err (stop.Large level)
    else if not (guest_permits access entry) then Err (stop.Denied level)
    else Ok (frame_in entry)

-- the same of what was read at the entry's place
abbrev pub guest_read_answer : Access → ℕ → Result ℕ TableStop → Result ℕ WalkStop
guest_read_answer access level (Ok entry) = guest_entry_answer access level entry
guest_read_answer access level (Err unread) = Err (stop.Table unread)

-- one level: from the frame of a table to the frame to which the entry for the address leads
unfoldable pub walk_step : (ℕ → Result ℕ TableStop) → ℕ → Access → ℕ → ℕ → Result ℕ WalkStop
walk_step entries linear access level frame = guest_read_answer access level (entries (entry_place frame level linear))

-- these levels, from the frame of the first one's table on: the frame to which the last leads, or the first refusal
abbrev pub walk_levels : (ℕ → Result ℕ TableStop) → ℕ → Access → List ℕ → ℕ → Result ℕ WalkStop
walk_levels entries linear access [] frame = Ok frame
walk_levels entries linear access (level ∷ levels) frame =
    and_then (walk_step entries linear access level frame) (walk_levels entries linear access levels)

-- the places of the entries that are read, up to and with that of the refusal
abbrev pub level_reads : (ℕ → Result ℕ TableStop) → ℕ → Access → List ℕ → ℕ → List ℕ
level_reads entries linear access [] frame = []
level_reads entries linear access (level ∷ levels) frame =
    entry_place frame level linear ∷ where_ok (walk_step entries linear access level frame)
    (level_reads entries linear access levels)

-- the address in a frame that stands where a linear address stands in its page
abbrev pub address_in : ℕ → ℕ → GuestPhys
address_in linear frame = record { 0 = PAGE_SIZE * frame + linear % PAGE_SIZE }

-- the walk from the table to which CR3 leads
unfoldable pub guest_walk : (ℕ → Result ℕ TableStop) → ℕ → ℕ → Access → Result GuestPhys WalkStop
guest_walk entries cr3 linear access =
    if is_canonical linear
    then and_then (walk_levels entries linear access four_levels (frame_in cr3)) (λ frame. Ok (address_in linear frame))
    else Err stop.NonCanonical

-- the places of the entries that it reads
unfoldable pub walk_reads : (ℕ → Result ℕ TableStop) → ℕ → ℕ → Access → List ℕ
walk_reads entries cr3 linear access =
    if is_canonical linear then level_reads entries linear access four_levels (frame_in cr3) else []
