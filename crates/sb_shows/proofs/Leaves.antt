-- What the guest's lowest entries and the rights in the EPT permit together.
use Rattle.std.proofs.Common.{◌≡◌, ◌∙◌, sym, ap, subst, ℕ, ◌+◌, ◌*◌, ◌/◌, ◌%◌, ◌^◌, ◌<◌, Bool, true, false, Result, Ok, Err, refl, arith}
use Rattle.std.specs.Prelude.{if◌then◌else◌}
use Rattle.std.proofs.lemmas.Grind.{common_steps}
use Rattle.sb_memory.specs.Outcome.{and_then}
use Rattle.sb_memory.specs.Physical.{Physical}
use Rattle.sb_memory.specs.declared.address.Access.{Access}
use Rattle.sb_memory.specs.declared.address.Access.TheVariants as access
use Rattle.sb_memory.specs.declared.address.PhysAddr.{PhysAddr}
use Rattle.sb_memory.specs.declared.address.GuestPhys.{GuestPhys}
use Rattle.sb_memory.specs.declared.address.EptStop.TheVariants as ept
use Rattle.sb_walks.specs.declared.stop.WalkStop.{WalkStop}
use Rattle.sb_walks.specs.declared.stop.WalkStop.TheVariants as guest
use Rattle.sb_walks.specs.declared.stop.NestedStop.{NestedStop}
use Rattle.sb_walks.specs.declared.stop.NestedStop.TheVariants as nested
use Rattle.sb_walks.specs.Ept.{ept_walk, phys_in}
use Rattle.sb_walks.specs.Guest.{guest_entry_answer, address_in}
use Rattle.sb_walks.specs.Nested.{memory_behind, page_behind, page_answer}
use Rattle.sb_pagewalk.specs.TableSet.{page_walked}
use Rattle.sb_nested.specs.Stop.{stop_at, memory_fault}
use Rattle.sb_root.specs.Entry.{entry_reached}
use Rattle.sb_state.specs.declared.page.Mode.{Mode}
use Rattle.sb_state.specs.declared.page.Mode.TheVariants as mode
use Rattle.sb_trace.specs.PageName.{permits}
use Rattle.sb_shows.specs.Placement.{leaf_for, rights_for}

-- ---- answers

-- a refusal that an instruction meets as a memory fault
pub record IsRefused (linear : ℕ) (answer : Result PhysAddr NestedStop) : Type 0 where
  pub stop : NestedStop
  pub is : answer ≡ Err stop
  pub fault : stop_at linear stop ≡ memory_fault linear

-- the byte of a frame where the access is permitted
abbrev pub IsLedIf : ℕ → Bool → ℕ → Result PhysAddr NestedStop → Type 0
IsLedIf frame true linear answer = answer ≡ Ok (phys_in linear frame)
IsLedIf frame false linear answer = IsRefused linear answer

-- ---- the guest's entry

unfoldable pub guest_permits : Mode → Access → Bool
guest_permits mode.Fetch access.Write = false
guest_permits mode.Fetch _ = true
guest_permits mode.Read access.Read = true
guest_permits mode.Read _ = false
guest_permits mode.ReadWrite access.Fetch = false
guest_permits mode.ReadWrite _ = true

pub leaf_judged : (how : Mode) (one : Access) (page : ℕ) → page < 2 ^ 32
    → guest_entry_answer one 1 (leaf_for page how) ≡ (if guest_permits how one then Ok page else Err (guest.Denied 1))
unfolding guest_entry_answer leaf_for guest_permits
leaf_judged mode.Fetch access.Read page small = grind (arith, common_steps)
leaf_judged mode.Fetch access.Write page small = grind (arith, common_steps)
leaf_judged mode.Fetch access.Fetch page small = grind (arith, common_steps)
leaf_judged mode.Read access.Read page small = grind (arith, common_steps)
leaf_judged mode.Read access.Write page small = grind (arith, common_steps)
leaf_judged mode.Read access.Fetch page small = grind (arith, common_steps)
leaf_judged mode.ReadWrite access.Read page small = grind (arith, common_steps)
leaf_judged mode.ReadWrite access.Write page small = grind (arith, common_steps)
leaf_judged mode.ReadWrite access.Fetch page small = grind (arith, common_steps)

-- ---- both

-- a guest-physical page leads to a frame in the mode
pub record IsBehind (memory : Physical) (eptp page frame : ℕ) (how : Mode) : Type 0 where
  pub answer : (at : ℕ) (one : Access) → at / 4096 ≡ page
      → ept_walk memory eptp at one ≡ entry_reached frame (rights_for how) at one

module _ (memory : Physical) (eptp page frame linear : ℕ) where
  abbrev after : Access → Result GuestPhys WalkStop → Result PhysAddr NestedStop
  after one answer = page_behind (memory_behind memory eptp) one answer

  same_offset : phys_in (4096 * page + linear % 4096) frame ≡ phys_in linear frame
  same_offset = ap (λ (offset : ℕ). record { 0 = 4096 * frame + offset }) (omega arith)

  here : (4096 * page + linear % 4096) / 4096 ≡ page
  here = omega arith

  by_rights : (how : Mode) (one : Access) → guest_permits how one ≡ true → IsBehind memory eptp page frame how
      → IsLedIf frame (permits how one) linear (after one (Ok (address_in linear page)))
  unfolding entry_reached guest_permits
  by_rights mode.Fetch access.Read may behind =
      record {
        stop = nested.Page (ept.Denied 1);
        is = rw (behind.answer (4096 * page + linear % 4096) access.Read here) refl;
        fault = refl;
      }
  by_rights mode.Fetch access.Write may behind = cc
  by_rights mode.Fetch access.Fetch may behind =
      rw (behind.answer (4096 * page + linear % 4096) access.Fetch here) (ap Ok same_offset)
  by_rights mode.Read access.Read may behind =
      rw (behind.answer (4096 * page + linear % 4096) access.Read here) (ap Ok same_offset)
  by_rights mode.Read access.Write may behind = cc
  by_rights mode.Read access.Fetch may behind = cc
  by_rights mode.ReadWrite access.Read may behind =
      rw (behind.answer (4096 * page + linear % 4096) access.Read here) (ap Ok same_offset)
  by_rights mode.ReadWrite access.Write may behind =
      rw (behind.answer (4096 * page + linear % 4096) access.Write here) (ap Ok same_offset)
  by_rights mode.ReadWrite access.Fetch may behind = cc

  -- what the guest refuses, the mode does not permit
  by_refusal : (how : Mode) (one : Access) → guest_permits how one ≡ false
      → IsLedIf frame (permits how one) linear (after one (Err (guest.Denied 1)))
  unfolding guest_permits
  by_refusal mode.Fetch access.Read may = cc
  by_refusal mode.Fetch access.Write may = record { stop = nested.Walk (guest.Denied 1); is = refl; fault = refl }
  by_refusal mode.Fetch access.Fetch may = cc
  by_refusal mode.Read access.Read may = cc
  by_refusal mode.Read access.Write may = record { stop = nested.Walk (guest.Denied 1); is = refl; fault = refl }
  by_refusal mode.Read access.Fetch may = record { stop = nested.Walk (guest.Denied 1); is = refl; fault = refl }
  by_refusal mode.ReadWrite access.Read may = cc
  by_refusal mode.ReadWrite access.Write may = cc
  by_refusal mode.ReadWrite access.Fetch may = record { stop = nested.Walk (guest.Denied 1); is = refl; fault = refl }

  led_by : (may : Bool) (how : Mode) (one : Access) → guest_permits how one ≡ may → IsBehind memory eptp page frame how
      → IsLedIf frame (permits how one) linear (after one (if may then Ok (address_in linear page) else Err (guest.Denied 1)))
  led_by true how one is behind = by_rights how one is behind
  led_by false how one is behind = by_refusal how one is

  on_judged : (may : Bool)
      → and_then (if may then Ok page else Err (guest.Denied 1)) (λ (led : ℕ). Ok (address_in linear led))
      ≡ (if may then Ok (address_in linear page) else Err (guest.Denied 1))
  on_judged true = refl
  on_judged false = refl

  -- a leaf leads to the frame where its mode permits the access
  pub leaf_led : (how : Mode) (one : Access) → page < 2 ^ 32 → IsBehind memory eptp page frame how
      → IsLedIf frame (permits how one) linear (after one (page_walked (leaf_for page how) linear one))
  leaf_led how one small behind =
      subst (λ (answer : Result GuestPhys WalkStop). IsLedIf frame (permits how one) linear (after one answer))
      (sym (ap (λ (judged : Result ℕ WalkStop). and_then judged (λ (led : ℕ). Ok (address_in linear led)))
      (leaf_judged how one page small) ∙ on_judged (guest_permits how one)))
      (led_by (guest_permits how one) how one refl behind)

  -- the answer for a leaf: what the guest's entry refuses, or what the EPT answers of the frame
  abbrev pub leaf_answer : Bool → Mode → Access → Result PhysAddr NestedStop
  leaf_answer may how one =
      if may then page_answer (entry_reached frame (rights_for how) (4096 * page + linear % 4096) one) else Err
      (nested.Walk (guest.Denied 1))

  answer_by : (may : Bool) (how : Mode) (one : Access) → IsBehind memory eptp page frame how
      → after one (if may then Ok (address_in linear page) else Err (guest.Denied 1)) ≡ leaf_answer may how one
  answer_by true how one behind = ap page_answer (behind.answer (4096 * page + linear % 4096) one here)
  answer_by false how one behind = refl

  -- a leaf has this one answer
  pub leaf_answered : (how : Mode) (one : Access) → page < 2 ^ 32 → IsBehind memory eptp page frame how
      → after one (page_walked (leaf_for page how) linear one) ≡ leaf_answer (guest_permits how one) how one
  leaf_answered how one small behind =
      ap (after one)
      (ap (λ (judged : Result ℕ WalkStop). and_then judged (λ (led : ℕ). Ok (address_in linear led)))
      (leaf_judged how one page small) ∙ on_judged (guest_permits how one))
      ∙ answer_by (guest_permits how one) how one behind
