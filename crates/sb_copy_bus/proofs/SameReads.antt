-- The walk of an address reads the words that the walk of another address in its page reads.
use Rattle.std.proofs.Common.{◌≡◌, ℕ, ◌+◌, ◌*◌, ◌/◌, ◌%◌, ◌^◌, ◌<◌, Bool, true, false, cond, nat_le, List, [], ◌∷◌, Result, Ok, Err, refl, ap, arith}
use Rattle.std.proofs.lemmas.Bool.{leb-false, lt-leb}
use Rattle.sb_memory.specs.Physical.{Physical, frame_count}
use Rattle.sb_memory.specs.Reading.{word_read}
use Rattle.sb_memory.specs.declared.address.Access.{Access}
use Rattle.sb_memory.specs.declared.address.PhysAddr.{PhysAddr}
use Rattle.sb_memory.specs.declared.address.GuestPhys.{GuestPhys}
use Rattle.sb_memory.specs.declared.address.EptStop.{EptStop}
use Rattle.sb_walks.specs.declared.stop.TableStop.{TableStop}
use Rattle.sb_walks.specs.declared.stop.WalkStop.{WalkStop}
use Rattle.sb_walks.specs.declared.stop.WalkStop.TheVariants.{NonCanonical}
use Rattle.sb_walks.specs.Entry.{index_at, frame_in, four_levels}
use Rattle.sb_walks.specs.Reads.{where_ok}
use Rattle.sb_walks.specs.Ept.{ept_entry, ept_step, ept_reads, ept_walk_reads}
use Rattle.sb_walks.specs.Guest.{is_canonical, guest_read_answer, walk_step, guest_walk, level_reads, walk_reads}
use Rattle.sb_walks.specs.Nested.{MemoryBehindEpt, guest_entry, page_answer, page_behind, translation, translation_reads}
use Rattle.sb_walks.proofs.SamePage.{SameIndices, guest_address, walked-page}
use Rattle.sb_walks.proofs.Page.{ept_offset, place_offset}

-- ---- walks by the indices of an address

page_indices : (a b : ℕ) → a / 4096 ≡ b / 4096 → SameIndices a b four_levels
page_indices a b e = (omega arith, (omega arith, (omega arith, (omega arith, tt))))

-- what is read after one answer
where_same : {A X E : Type 0} (r s : Result A E) (f g : A → List X) → r ≡ s → ((a : A) → f a ≡ g a) → where_ok r f ≡ where_ok s g
where_same (Ok a) s f g e h = rw (← e) (h a)
where_same (Err stop) s f g e h = rw (← e) refl

ept_step_same : (memory : Physical) (a b : ℕ) (access : Access) (level frame : ℕ) → index_at level a ≡ index_at level b
    → ept_step memory a access level frame ≡ ept_step memory b access level frame
unfolding ept_step
ept_step_same memory a b access level frame e =
    ap (λ (i : ℕ). ept_entry (frame_count memory) access level (word_read memory (4096 * frame + 8 * i))) e

ept_reads_same : (memory : Physical) (a b : ℕ) (access : Access) (levels : List ℕ) (frame : ℕ) → SameIndices a b levels
    → ept_reads memory a access levels frame ≡ ept_reads memory b access levels frame
ept_reads_same memory a b access [] frame h = refl
ept_reads_same memory a b access (level ∷ levels) frame h =
    let rest = where_same _ _ (ept_reads memory a access levels) (ept_reads memory b access levels)
    (ept_step_same memory a b access level frame h.0)
    (λ next. ept_reads_same memory a b access levels next h.1) in
    rw rest (ap (λ (i : ℕ). (4096 * frame + 8 * i)
    ∷ where_ok (ept_step memory b access level frame) (ept_reads memory b access levels)) h.0)

walk_step_same : (entries : ℕ → Result ℕ TableStop) (a b : ℕ) (access : Access) (level frame : ℕ)
    → index_at level a ≡ index_at level b → walk_step entries a access level frame ≡ walk_step entries b access level frame
unfolding walk_step
walk_step_same entries a b access level frame e =
    ap (λ (i : ℕ). guest_read_answer access level (entries (4096 * frame + 8 * i))) e

level_reads_same : (entries : ℕ → Result ℕ TableStop) (a b : ℕ) (access : Access) (levels : List ℕ) (frame : ℕ)
    → SameIndices a b levels → level_reads entries a access levels frame ≡ level_reads entries b access levels frame
level_reads_same entries a b access [] frame h = refl
level_reads_same entries a b access (level ∷ levels) frame h =
    let rest = where_same _ _ (level_reads entries a access levels) (level_reads entries b access levels)
    (walk_step_same entries a b access level frame h.0)
    (λ next. level_reads_same entries a b access levels next h.1) in
    rw rest (ap (λ (i : ℕ). (4096 * frame + 8 * i)
    ∷ where_ok (walk_step entries b access level frame) (level_reads entries b access levels)) h.0)

-- ---- addresses in one page

-- an address behind another one in its page is canonical as that is
canonical_on : (at k : ℕ) → at % 4096 + k < 4096 → is_canonical at ≡ true → is_canonical (at + k) ≡ true
canonical_on at k within e =
    let same : (at + k) / 2 ^ 47 ≡ at / 2 ^ 47 = omega arith in
    rw same e

-- and has at most 48 bits as that has
narrow_on : (at k : ℕ) → at % 4096 + k < 4096 → nat_le (2 ^ 48) at ≡ false → nat_le (2 ^ 48) (at + k) ≡ false
narrow_on at k within e =
    let below : at < 2 ^ 48 = leb-false (2 ^ 48) at e in
    lt-leb (2 ^ 48) (at + k) (omega (arith, below, within))

-- through the extended page tables
ept_walk_on : (memory : Physical) (eptp at k : ℕ) (access : Access) → at % 4096 + k < 4096 → nat_le (2 ^ 48) at ≡ false
    → ept_walk_reads memory eptp (at + k) access ≡ ept_walk_reads memory eptp at access
unfolding ept_walk_reads
ept_walk_on memory eptp at k access within narrow =
    rw (narrow, narrow_on at k within narrow)
    (ept_reads_same memory (at + k) at access four_levels (frame_in eptp) (page_indices (at + k) at (omega arith)))

-- through the guest's page tables
walk_on : (entries : ℕ → Result ℕ TableStop) (cr3 at k : ℕ) (access : Access) → at % 4096 + k < 4096
    → is_canonical at ≡ true → walk_reads entries cr3 (at + k) access ≡ walk_reads entries cr3 at access
unfolding walk_reads
walk_on entries cr3 at k access within canonical =
    rw (canonical, canonical_on at k within canonical)
    (level_reads_same entries (at + k) at access four_levels (frame_in cr3) (page_indices (at + k) at (omega arith)))

-- ---- the nested walk

canonical_by : (memory : MemoryBehindEpt) (access : Access) (place : PhysAddr) (test : Bool) (r : Result GuestPhys WalkStop)
    → page_behind memory access (cond test r (Err NonCanonical)) ≡ Ok place → test ≡ true
canonical_by memory access place true r e = refl
canonical_by memory access place false r e = cc

-- an address that leads somewhere is canonical
canonical_led : (memory : MemoryBehindEpt) (cr3 at : ℕ) (access : Access) (place : PhysAddr)
    → translation memory cr3 at access ≡ Ok place → is_canonical at ≡ true
unfolding translation guest_walk
canonical_led memory cr3 at access place e = canonical_by memory access place (is_canonical at) _ e

answered : (r : Result PhysAddr EptStop) (place : PhysAddr) → page_answer r ≡ Ok place → r ≡ Ok place
answered (Ok other) place e = cc
answered (Err stop) place e = cc

-- the last address goes through the extended page tables
page_reads_on : (memory : MemoryBehindEpt) (at k : ℕ) (access : Access) (place : PhysAddr) (r s : Result GuestPhys WalkStop)
    → at % 4096 + k < 4096 → page_behind memory access r ≡ Ok place → place.0 % 4096 ≡ at % 4096
    → ((page : GuestPhys) → r ≡ Ok page → s ≡ Ok (guest_address (page.0 + k)))
    → where_ok s (λ page. ept_walk_reads memory.physical memory.eptp page.0 access)
    ≡ where_ok r (λ page. ept_walk_reads memory.physical memory.eptp page.0 access)
page_reads_on memory at k access place (Ok page) s within e offset on =
    let both = ept_offset memory.physical memory.eptp page.0 access place (answered _ place e) in
    let page_offset = both.1 in
    rw (on page refl)
    (ept_walk_on memory.physical memory.eptp page.0 k access (omega (arith, page_offset, offset, within)) both.0)
page_reads_on memory at k access place (Err stop) s within e offset on = cc

-- an address behind another one in its page, which leads somewhere, is looked up by the same words
pub reads_on : (memory : MemoryBehindEpt) (cr3 at k : ℕ) (access : Access) (place : PhysAddr) → at % 4096 + k < 4096
    → translation memory cr3 at access ≡ Ok place
    → translation_reads memory cr3 (at + k) access ≡ translation_reads memory cr3 at access
unfolding translation_reads translation
reads_on memory cr3 at k access place within e =
    let canonical = canonical_led memory cr3 at access place e in
    let entries = walk_on (guest_entry memory) cr3 at k access within canonical in
    let offset = place_offset memory cr3 at access place e in
    let page = page_reads_on memory at k access place (guest_walk (guest_entry memory) cr3 at access)
    (guest_walk (guest_entry memory) cr3 (at + k) access) within e offset
    (λ page led.
    walked-page (guest_entry memory) cr3 at k access page within canonical (canonical_on at k within canonical) led) in
    rw (entries, page) refl
