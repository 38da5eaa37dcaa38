-- Where a write leads, a read leads too.
use Rattle.std.proofs.Common.{◌≡◌, ℕ, ◌^◌, Bool, true, false, cond, nat_le, List, [], ◌∷◌, Result, Ok, Err, refl, arith}
use Rattle.std.proofs.lemmas.Grind.{common_steps}
use Rattle.sb_memory.specs.Physical.{Physical, frame_count}
use Rattle.sb_memory.specs.Reading.{word_read}
use Rattle.sb_memory.specs.declared.address.Missing.{Missing}
use Rattle.sb_memory.specs.declared.address.PhysAddr.{PhysAddr}
use Rattle.sb_memory.specs.declared.address.GuestPhys.{GuestPhys}
use Rattle.sb_memory.specs.declared.address.EptStop.{EptStop}
use Rattle.sb_memory.specs.declared.address.Access.TheVariants.{Read, Write}
use Rattle.sb_walks.specs.declared.stop.TableStop.{TableStop}
use Rattle.sb_walks.specs.declared.stop.WalkStop.{WalkStop}
use Rattle.sb_walks.specs.Entry.{entry_place, frame_in, four_levels}
use Rattle.sb_memory.specs.Outcome.{and_then}
use Rattle.sb_walks.specs.Ept.{ept_entry_answer, ept_entry, ept_step, ept_levels, ept_walk}
use Rattle.sb_walks.specs.Guest.{is_canonical, guest_entry_answer, guest_read_answer, walk_step, walk_levels, guest_walk}
use Rattle.sb_walks.specs.Nested.{MemoryBehindEpt, guest_entry, page_answer, page_behind, translation}

pub ept_judged-read : (frames level entry next : ℕ) → ept_entry_answer frames Write level entry ≡ Ok next
    → ept_entry_answer frames Read level entry ≡ Ok next
unfolding ept_entry_answer
ept_judged-read frames level entry next e = grind (arith, common_steps)

pub entry_judged-read : (level entry next : ℕ) → guest_entry_answer Write level entry ≡ Ok next
    → guest_entry_answer Read level entry ≡ Ok next
unfolding guest_entry_answer
entry_judged-read level entry next e = grind (arith, common_steps)

ept_entry-read : (frames level next : ℕ) (word : Result ℕ Missing) → ept_entry frames Write level word ≡ Ok next
    → ept_entry frames Read level word ≡ Ok next
ept_entry-read frames level next (Ok entry) e = ept_judged-read frames level entry next e
ept_entry-read frames level next (Err gap) e = e

read_judged-read : (level next : ℕ) (word : Result ℕ TableStop) → guest_read_answer Write level word ≡ Ok next
    → guest_read_answer Read level word ≡ Ok next
read_judged-read level next (Ok entry) e = entry_judged-read level entry next e
read_judged-read level next (Err stop) e = e

ept_step-read : (memory : Physical) (at level frame next : ℕ) → ept_step memory at Write level frame ≡ Ok next
    → ept_step memory at Read level frame ≡ Ok next
unfolding ept_step
ept_step-read memory at level frame next e =
    ept_entry-read (frame_count memory) level next (word_read memory (entry_place frame level at)) e

walk_step-read : (entries : ℕ → Result ℕ TableStop) (at level frame next : ℕ)
    → walk_step entries at Write level frame ≡ Ok next → walk_step entries at Read level frame ≡ Ok next
unfolding walk_step
walk_step-read entries at level frame next e = read_judged-read level next (entries (entry_place frame level at)) e

-- an answer that is there
and_then_ok : {A B E : Type 0} (r s : Result A E) (f g : A → Result B E) (b : B) → ((a : A) → r ≡ Ok a → s ≡ Ok a)
    → ((a : A) → f a ≡ Ok b → g a ≡ Ok b) → and_then r f ≡ Ok b → and_then s g ≡ Ok b
and_then_ok (Ok a) s f g b first later e = rw (first a refl) (later a e)
and_then_ok (Err stop) s f g b first later e = cc

ept_levels-read : (memory : Physical) (at next : ℕ) (levels : List ℕ) (frame : ℕ)
    → ept_levels memory at Write levels frame ≡ Ok next → ept_levels memory at Read levels frame ≡ Ok next
ept_levels-read memory at next [] frame e = e
ept_levels-read memory at next (level ∷ levels) frame e =
    and_then_ok _ _ _ _ next (ept_step-read memory at level frame) (ept_levels-read memory at next levels) e

walk_levels-read : (entries : ℕ → Result ℕ TableStop) (at next : ℕ) (levels : List ℕ) (frame : ℕ)
    → walk_levels entries at Write levels frame ≡ Ok next → walk_levels entries at Read levels frame ≡ Ok next
walk_levels-read entries at next [] frame e = e
walk_levels-read entries at next (level ∷ levels) frame e =
    and_then_ok _ _ _ _ next (walk_step-read entries at level frame) (walk_levels-read entries at next levels) e

-- below the same test
below_test : {A E : Type 0} (b : Bool) (r s t u : Result A E) (x : A) → (r ≡ Ok x → t ≡ Ok x) → (s ≡ Ok x → u ≡ Ok x)
    → cond b r s ≡ Ok x → cond b t u ≡ Ok x
below_test true r s t u x h k e = h e
below_test false r s t u x h k e = k e

pub ept_walked-read : (memory : Physical) (eptp at : ℕ) (place : PhysAddr) → ept_walk memory eptp at Write ≡ Ok place
    → ept_walk memory eptp at Read ≡ Ok place
unfolding ept_walk
ept_walked-read memory eptp at place e =
    below_test (nat_le (2 ^ 48) at) _ _ _ _ place (λ h. h)
    (and_then_ok _ _ _ _ place (λ frame. ept_levels-read memory at frame four_levels (frame_in eptp)) (λ frame h. h)) e

pub walked-read : (entries : ℕ → Result ℕ TableStop) (cr3 at : ℕ) (place : GuestPhys)
    → guest_walk entries cr3 at Write ≡ Ok place → guest_walk entries cr3 at Read ≡ Ok place
unfolding guest_walk
walked-read entries cr3 at place e =
    below_test (is_canonical at) _ _ _ _ place
    (and_then_ok _ _ _ _ place (λ frame. walk_levels-read entries at frame four_levels (frame_in cr3)) (λ frame h. h))
    (λ h. h) e

answered : (r s : Result PhysAddr EptStop) (place : PhysAddr) → ((p : PhysAddr) → r ≡ Ok p → s ≡ Ok p)
    → page_answer r ≡ Ok place → page_answer s ≡ Ok place
answered (Ok p) s place h e = rw (h p refl) e
answered (Err stop) s place h e = cc

page_behind-read : (memory : MemoryBehindEpt) (place : PhysAddr) (page : GuestPhys)
    → page_answer (ept_walk memory.physical memory.eptp page.0 Write) ≡ Ok place
    → page_answer (ept_walk memory.physical memory.eptp page.0 Read) ≡ Ok place
page_behind-read memory place page e = answered _ _ place (ept_walked-read memory.physical memory.eptp page.0) e

led : (memory : MemoryBehindEpt) (place : PhysAddr) (r s : Result GuestPhys WalkStop) → ((p : GuestPhys) → r ≡ Ok p → s ≡ Ok p)
    → page_behind memory Write r ≡ Ok place → page_behind memory Read s ≡ Ok place
led memory place (Ok page) s h e = rw (h page refl) (page_behind-read memory place page e)
led memory place (Err stop) s h e = cc

pub translated-read : (memory : MemoryBehindEpt) (cr3 at : ℕ) (place : PhysAddr) → translation memory cr3 at Write ≡ Ok place
    → translation memory cr3 at Read ≡ Ok place
unfolding translation
translated-read memory cr3 at place e = led memory place _ _ (walked-read (guest_entry memory) cr3 at) e
