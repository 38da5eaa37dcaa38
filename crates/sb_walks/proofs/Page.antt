-- Addresses in one page lead to one page.
use Rattle.std.proofs.Common.{◌≡◌, ℕ, ◌+◌, ◌*◌, ◌/◌, ◌%◌, ◌^◌, ◌<◌, Bool, true, false, cond, nat_le, Result, Ok, Err, refl, ap, arith, ◌∙◌}
use Rattle.std.proofs.lemmas.Bool.{leb-false, lt-leb}
use Rattle.sb_memory.specs.Outcome.{and_then}
use Rattle.sb_memory.specs.Physical.{Physical}
use Rattle.sb_memory.specs.declared.address.Access.{Access}
use Rattle.sb_memory.specs.declared.address.PhysAddr.{PhysAddr}
use Rattle.sb_memory.specs.declared.address.GuestPhys.{GuestPhys}
use Rattle.sb_memory.specs.declared.address.EptStop.{EptStop}
use Rattle.sb_walks.specs.declared.stop.TableStop.{TableStop}
use Rattle.sb_walks.specs.declared.stop.WalkStop.{WalkStop}
use Rattle.sb_walks.specs.Entry.{frame_in, four_levels}
use Rattle.sb_walks.specs.Ept.{ept_levels, ept_walk}
use Rattle.sb_walks.specs.Guest.{is_canonical, walk_levels, guest_walk}
use Rattle.sb_walks.specs.Nested.{MemoryBehindEpt, guest_entry, page_answer, page_behind, translation}
use Rattle.sb_walks.proofs.SamePage.{address, guest_address, unwrapped, ept_walked-page, walked-page}

-- a walk that leads somewhere passed its first test
pub passed : {A E : Type 0} (test : Bool) (r : Result A E) (stop : E) (a : A) → cond test r (Err stop) ≡ Ok a
    → (test ≡ true) × (r ≡ Ok a)
passed true r stop a e = (refl, e)
passed false r stop a e = cc

pub passed_not : {A E : Type 0} (test : Bool) (r : Result A E) (stop : E) (a : A) → cond test (Err stop) r ≡ Ok a
    → (test ≡ false) × (r ≡ Ok a)
passed_not true r stop a e = cc
passed_not false r stop a e = (refl, e)

guest_offset : (r : Result ℕ WalkStop) (x : ℕ) (page : GuestPhys) → x < 4096
    → and_then r (λ frame. Ok (guest_address (4096 * frame + x))) ≡ Ok page → page.0 % 4096 ≡ x
guest_offset (Ok frame) x page below e =
    let same : 4096 * frame + x ≡ page.0 = ap (λ (p : GuestPhys). p.0) (unwrapped e) in
    omega arith
guest_offset (Err stop) x page below e = cc

walked_offset : (entries : ℕ → Result ℕ TableStop) (cr3 at : ℕ) (access : Access) (page : GuestPhys)
    → guest_walk entries cr3 at access ≡ Ok page → (is_canonical at ≡ true) × (page.0 % 4096 ≡ at % 4096)
unfolding guest_walk
walked_offset entries cr3 at access page e =
    let both = passed (is_canonical at) _ _ page e in
    (both.0, guest_offset (walk_levels entries at access four_levels (frame_in cr3)) (at % 4096) page (omega arith) both.1)

ept_offset_of : (r : Result ℕ EptStop) (x : ℕ) (place : PhysAddr) → x < 4096
    → and_then r (λ frame. Ok (address (4096 * frame + x))) ≡ Ok place → place.0 % 4096 ≡ x
ept_offset_of (Ok frame) x place below e =
    let same : 4096 * frame + x ≡ place.0 = ap (λ (p : PhysAddr). p.0) (unwrapped e) in
    omega arith
ept_offset_of (Err stop) x place below e = cc

-- a walk that leads somewhere keeps where the address lies in its page, and the address has at most 48 bits
pub ept_offset : (memory : Physical) (eptp at : ℕ) (access : Access) (place : PhysAddr)
    → ept_walk memory eptp at access ≡ Ok place → (nat_le (2 ^ 48) at ≡ false) × (place.0 % 4096 ≡ at % 4096)
unfolding ept_walk
ept_offset memory eptp at access place e =
    let both = passed_not (nat_le (2 ^ 48) at) _ _ place e in
    (both.0, ept_offset_of (ept_levels memory at access four_levels (frame_in eptp)) (at % 4096) place (omega arith) both.1)

answered : (r : Result PhysAddr EptStop) (place : PhysAddr) → page_answer r ≡ Ok place → r ≡ Ok place
answered (Ok p) place e = cc
answered (Err stop) place e = cc

canonical_on : (at k : ℕ) → at % 4096 + k < 4096 → is_canonical at ≡ true → is_canonical (at + k) ≡ true
canonical_on at k h e =
    let same : (at + k) / 2 ^ 47 ≡ at / 2 ^ 47 = omega arith in
    rw same e

narrow_on : (at k : ℕ) → at % 4096 + k < 4096 → nat_le (2 ^ 48) at ≡ false → nat_le (2 ^ 48) (at + k) ≡ false
narrow_on at k h e =
    let below : at < 2 ^ 48 = leb-false (2 ^ 48) at e in
    lt-leb (2 ^ 48) (at + k) (omega (arith, below, h))

page_on : (memory : MemoryBehindEpt) (access : Access) (at k : ℕ) (place : PhysAddr) → at % 4096 + k < 4096
    → page_answer (ept_walk memory.physical memory.eptp at access) ≡ Ok place
    → page_answer (ept_walk memory.physical memory.eptp (at + k) access) ≡ Ok (address (place.0 + k))
page_on memory access at k place h e =
    let led = answered _ place e in
    let narrow = (ept_offset memory.physical memory.eptp at access place led).0 in
    rw (ept_walked-page memory.physical memory.eptp at k access place h narrow (narrow_on at k h narrow) led) refl

behind_on : (memory : MemoryBehindEpt) (access : Access) (at k : ℕ) (place : PhysAddr) (r s : Result GuestPhys WalkStop)
    → ((page : GuestPhys) → r ≡ Ok page → (page.0 % 4096 + k < 4096) × (s ≡ Ok (guest_address (page.0 + k))))
    → page_behind memory access r ≡ Ok place → page_behind memory access s ≡ Ok (address (place.0 + k))
behind_on memory access at k place (Ok page) s h e = rw ((h page refl).1) (page_on memory access page.0 k place (h page refl).0 e)
behind_on memory access at k place (Err stop) s h e = cc

guest_on : (entries : ℕ → Result ℕ TableStop) (cr3 at k : ℕ) (access : Access) (page : GuestPhys) → at % 4096 + k < 4096
    → guest_walk entries cr3 at access ≡ Ok page
    → (page.0 % 4096 + k < 4096) × (guest_walk entries cr3 (at + k) access ≡ Ok (guest_address (page.0 + k)))
guest_on entries cr3 at k access page h e =
    let both = walked_offset entries cr3 at access page e in
    let offset = both.1 in
    (omega (arith, offset, h), walked-page entries cr3 at k access page h both.0 (canonical_on at k h both.0) e)

-- an address in the page of another one leads as far from where the other leads
pub translated-page : (memory : MemoryBehindEpt) (cr3 at k : ℕ) (access : Access) (place : PhysAddr) → at % 4096 + k < 4096
    → translation memory cr3 at access ≡ Ok place → translation memory cr3 (at + k) access ≡ Ok (address (place.0 + k))
unfolding translation
translated-page memory cr3 at k access place h e =
    behind_on memory access at k place _ _ (λ page led. guest_on (guest_entry memory) cr3 at k access page h led) e

behind_offset : (memory : MemoryBehindEpt) (access : Access) (at : ℕ) (place : PhysAddr) (r : Result GuestPhys WalkStop)
    → ((page : GuestPhys) → r ≡ Ok page → page.0 % 4096 ≡ at % 4096)
    → page_behind memory access r ≡ Ok place → place.0 % 4096 ≡ at % 4096
behind_offset memory access at place (Ok page) h e =
    (ept_offset memory.physical memory.eptp page.0 access place (answered _ place e)).1 ∙ h page refl
behind_offset memory access at place (Err stop) h e = cc

-- an address leads to a place that stands where it stands in its page
pub place_offset : (memory : MemoryBehindEpt) (cr3 at : ℕ) (access : Access) (place : PhysAddr)
    → translation memory cr3 at access ≡ Ok place → place.0 % 4096 ≡ at % 4096
unfolding translation
place_offset memory cr3 at access place e =
    behind_offset memory access at place _ (λ page led. (walked_offset (guest_entry memory) cr3 at access page led).1) e
