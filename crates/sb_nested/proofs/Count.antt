-- How many words are read.
use Rattle.std.proofs.Common.{ℕ, ◌*◌, ◌^◌, ◌≤◌, Bool, true, false, cond, nat_le, List, [], ◌∷◌, length, Result, Ok, Err, arith, length-append}
use Rattle.sb_memory.specs.Physical.{Physical}
use Rattle.sb_memory.specs.declared.address.Access.{Access}
use Rattle.sb_memory.specs.declared.address.Access.TheVariants.{Read}
use Rattle.sb_walks.specs.declared.stop.TableStop.{TableStop}
use Rattle.sb_walks.specs.Entry.{frame_in, four_levels}
use Rattle.sb_walks.specs.Reads.{where_ok}
use Rattle.sb_walks.specs.Ept.{ept_step, ept_reads, ept_walk, ept_walk_reads}
use Rattle.sb_walks.specs.Guest.{is_canonical, level_reads, walk_step, guest_walk, walk_reads}
use Rattle.sb_walks.specs.Nested.{MemoryBehindEpt, guest_entry, guest_entry_reads, entries_reads, translation_reads}

-- after an answer, if there is one
where_ok_few : {Answer Stop Place : Type 0} (result : Result Answer Stop) (reads : Answer → List Place) (most : ℕ)
    → ((answer : Answer) → length (reads answer) ≤ most) → length (where_ok result reads) ≤ most
where_ok_few (Ok answer) reads most few = few answer
where_ok_few (Err stop) reads most few = omega arith

-- by a test
where_few : {Place : Type 0} (test : Bool) (first second : List Place) (most : ℕ) → length first ≤ most → length second ≤ most
    → length (cond test first second) ≤ most
where_few true first second most few other = few
where_few false first second most few other = other

-- one a level
ept_reads_few : (memory : Physical) (at : ℕ) (access : Access) (levels : List ℕ) (frame : ℕ)
    → length (ept_reads memory at access levels frame) ≤ length levels
ept_reads_few memory at access [] frame = omega arith
ept_reads_few memory at access (level ∷ levels) frame =
    let rest =
    where_ok_few (ept_step memory at access level frame) (ept_reads memory at access levels) (length levels)
    (ept_reads_few memory at access levels) in
    omega (arith, rest)

level_reads_few : (entries : ℕ → Result ℕ TableStop) (at : ℕ) (access : Access) (levels : List ℕ) (frame : ℕ)
    → length (level_reads entries at access levels frame) ≤ length levels
level_reads_few entries at access [] frame = omega arith
level_reads_few entries at access (level ∷ levels) frame =
    let rest =
    where_ok_few (walk_step entries at access level frame) (level_reads entries at access levels) (length levels)
    (level_reads_few entries at access levels) in
    omega (arith, rest)

-- the walks have four levels
ept_walk_few : (memory : Physical) (eptp at : ℕ) (access : Access) → length (ept_walk_reads memory eptp at access) ≤ 4
unfolding ept_walk_reads
ept_walk_few memory eptp at access =
    where_few (nat_le (2 ^ 48) at) [] _ 4 (omega arith) (ept_reads_few memory at access four_levels (frame_in eptp))

walk_few : (entries : ℕ → Result ℕ TableStop) (cr3 at : ℕ) (access : Access) → length (walk_reads entries cr3 at access) ≤ 4
unfolding walk_reads
walk_few entries cr3 at access =
    where_few (is_canonical at) _ [] 4 (level_reads_few entries at access four_levels (frame_in cr3)) (omega arith)

-- a walk for each entry, and the entry
entry_few : (memory : MemoryBehindEpt) (at : ℕ) → length (guest_entry_reads memory at) ≤ 5
unfolding guest_entry_reads
entry_few memory at =
    let walk = ept_walk_few memory.physical memory.eptp at Read in
    let last = where_ok_few (ept_walk memory.physical memory.eptp at Read) (λ place. place.0 ∷ []) 1 (λ place. omega arith) in
    simp length-append (omega (arith, walk, last))

entries_few : (memory : MemoryBehindEpt) (places : List ℕ) → length (entries_reads memory places) ≤ 5 * length places
entries_few memory [] = omega arith
entries_few memory (place ∷ places) =
    let one = entry_few memory place in
    let rest = entries_few memory places in
    simp length-append (omega (arith, one, rest))

pub reads_at_most_24 : (memory : MemoryBehindEpt) (cr3 at : ℕ) (access : Access)
    → length (translation_reads memory cr3 at access) ≤ 24
unfolding translation_reads
reads_at_most_24 memory cr3 at access =
    let entries = entries_few memory (walk_reads (guest_entry memory) cr3 at access) in
    let places = walk_few (guest_entry memory) cr3 at access in
    let page =
    where_ok_few (guest_walk (guest_entry memory) cr3 at access)
    (λ page. ept_walk_reads memory.physical memory.eptp page.0 access) 4
    (λ page. ept_walk_few memory.physical memory.eptp page.0 access) in
    simp length-append (omega (arith, entries, places, page))
