-- Addresses in one page have one translation.
use Rattle.std.proofs.Common.{◌≡◌, ℕ, ◌+◌, ◌*◌, ◌/◌, ◌%◌, ◌^◌, ◌<◌, true, false, nat_le, List, [], ◌∷◌, Result, Ok, Err, refl, ap, arith}
use Rattle.sb_memory.specs.Physical.{Physical, frame_count}
use Rattle.sb_memory.specs.Reading.{word_read}
use Rattle.sb_memory.specs.declared.address.Access.{Access}
use Rattle.sb_memory.specs.declared.address.PhysAddr.{PhysAddr}
use Rattle.sb_memory.specs.declared.address.EptStop.{EptStop}
use Rattle.sb_walks.specs.Entry.{index_at, frame_in, four_levels}
use Rattle.sb_memory.specs.declared.address.GuestPhys.{GuestPhys}
use Rattle.sb_walks.specs.declared.stop.TableStop.{TableStop}
use Rattle.sb_walks.specs.declared.stop.WalkStop.{WalkStop}
use Rattle.sb_walks.specs.Guest.{is_canonical, guest_read_answer, walk_step, walk_levels, guest_walk}
use Rattle.sb_memory.specs.Outcome.{and_then}
use Rattle.sb_walks.specs.Ept.{ept_entry, ept_step, ept_levels, ept_walk}

-- the indices of two addresses agree at these levels
abbrev pub SameIndices : ℕ → ℕ → List ℕ → Type 0
SameIndices a b [] = Unit {0}
SameIndices a b (level ∷ levels) = (index_at level a ≡ index_at level b) × SameIndices a b levels

page_indices : (a b : ℕ) → a / 4096 ≡ b / 4096 → SameIndices a b four_levels
page_indices a b e = (omega arith, (omega arith, (omega arith, (omega arith, tt))))

and_then_same : {A B E : Type 0} (r s : Result A E) (f g : A → Result B E) → r ≡ s → ((a : A) → f a ≡ g a)
    → and_then r f ≡ and_then s g
and_then_same (Ok a) s f g e h = rw (← e) (h a)
and_then_same (Err stop) s f g e h = rw (← e) refl

ept_step-page : (memory : Physical) (a b : ℕ) (access : Access) (level frame : ℕ) → index_at level a ≡ index_at level b
    → ept_step memory a access level frame ≡ ept_step memory b access level frame
unfolding ept_step
ept_step-page memory a b access level frame e =
    ap (λ (i : ℕ). ept_entry (frame_count memory) access level (word_read memory (4096 * frame + 8 * i))) e

ept_levels-page : (memory : Physical) (a b : ℕ) (access : Access) (levels : List ℕ) (frame : ℕ) → SameIndices a b levels
    → ept_levels memory a access levels frame ≡ ept_levels memory b access levels frame
ept_levels-page memory a b access [] frame h = refl
ept_levels-page memory a b access (level ∷ levels) frame h =
    and_then_same _ _ _ _ (ept_step-page memory a b access level frame h.0)
    (λ next. ept_levels-page memory a b access levels next h.1)

abbrev pub address : ℕ → PhysAddr
address n = record { 0 = n }

-- equal answers have equal values
pub unwrapped : {A E : Type 0} {p q : A} → Path (Result A E) (Ok p) (Ok q) → p ≡ q
unwrapped e = cc

led_on : (r s : Result ℕ EptStop) (x y k : ℕ) (place : PhysAddr) → r ≡ s → y ≡ x + k
    → and_then r (λ frame. Ok (address (4096 * frame + x))) ≡ Ok place
    → and_then s (λ frame. Ok (address (4096 * frame + y))) ≡ Ok (address (place.0 + k))
led_on (Ok frame) s x y k place e o h =
    let here : 4096 * frame + x ≡ place.0 = ap (λ (p : PhysAddr). p.0) (unwrapped h) in
    let there : 4096 * frame + y ≡ place.0 + k = omega arith in
    rw (← e) (ap (λ (n : ℕ). Ok (address n)) there)
led_on (Err stop) s x y k place e o h = cc

-- an address in the page of another one leads as far from where the other leads
pub ept_walked-page : (memory : Physical) (eptp at k : ℕ) (access : Access) (place : PhysAddr) → at % 4096 + k < 4096
    → nat_le (2 ^ 48) at ≡ false → nat_le (2 ^ 48) (at + k) ≡ false → ept_walk memory eptp at access ≡ Ok place
    → ept_walk memory eptp (at + k) access ≡ Ok (address (place.0 + k))
unfolding ept_walk
ept_walked-page memory eptp at k access place h below here e =
    rw here (led_on _ _ (at % 4096) ((at + k) % 4096) k place
    (ept_levels-page memory at (at + k) access four_levels (frame_in eptp) (page_indices at (at + k) (omega arith)))
    (omega arith) (rw below at e))

walk_step-page : (entries : ℕ → Result ℕ TableStop) (a b : ℕ) (access : Access) (level frame : ℕ)
    → index_at level a ≡ index_at level b → walk_step entries a access level frame ≡ walk_step entries b access level frame
unfolding walk_step
walk_step-page entries a b access level frame e =
    ap (λ (i : ℕ). guest_read_answer access level (entries (4096 * frame + 8 * i))) e

walk_levels-page : (entries : ℕ → Result ℕ TableStop) (a b : ℕ) (access : Access) (levels : List ℕ) (frame : ℕ)
    → SameIndices a b levels → walk_levels entries a access levels frame ≡ walk_levels entries b access levels frame
walk_levels-page entries a b access [] frame h = refl
walk_levels-page entries a b access (level ∷ levels) frame h =
    and_then_same _ _ _ _ (walk_step-page entries a b access level frame h.0)
    (λ next. walk_levels-page entries a b access levels next h.1)

abbrev pub guest_address : ℕ → GuestPhys
guest_address n = record { 0 = n }

guest_led_on : (r s : Result ℕ WalkStop) (x y k : ℕ) (place : GuestPhys) → r ≡ s → y ≡ x + k
    → and_then r (λ frame. Ok (guest_address (4096 * frame + x))) ≡ Ok place
    → and_then s (λ frame. Ok (guest_address (4096 * frame + y))) ≡ Ok (guest_address (place.0 + k))
guest_led_on (Ok frame) s x y k place e o h =
    let here : 4096 * frame + x ≡ place.0 = ap (λ (p : GuestPhys). p.0) (unwrapped h) in
    let there : 4096 * frame + y ≡ place.0 + k = omega arith in
    rw (← e) (ap (λ (n : ℕ). Ok (guest_address n)) there)
guest_led_on (Err stop) s x y k place e o h = cc

pub walked-page : (entries : ℕ → Result ℕ TableStop) (cr3 at k : ℕ) (access : Access) (place : GuestPhys)
    → at % 4096 + k < 4096 → is_canonical at ≡ true → is_canonical (at + k) ≡ true → guest_walk entries cr3 at access ≡ Ok place
    → guest_walk entries cr3 (at + k) access ≡ Ok (guest_address (place.0 + k))
unfolding guest_walk
walked-page entries cr3 at k access place h here there e =
    rw there (guest_led_on _ _ (at % 4096) ((at + k) % 4096) k place
    (walk_levels-page entries at (at + k) access four_levels (frame_in cr3) (page_indices at (at + k) (omega arith)))
    (omega arith) (rw here at e))
