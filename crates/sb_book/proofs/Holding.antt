-- Where all that a block read still holds, its steps lead from the machine as it is now.
use Rattle.std.proofs.Common.{◌≡◌, ◌∙◌, sym, ap, subst, ℕ, ◌+◌, ◌<◌, List, [], ◌∷◌, ◌++◌, length, get_or, drop, take, refl, add-one, drop-cons}
use Rattle.std.proofs.lemmas.List.{take-append-drop}
use Rattle.std.proofs.lemmas.List.Elements.{All-head, All-tail}
use Rattle.sb_memory.specs.Physical.{IsPhysical, HasAllFrames, frame_count}
use Rattle.sb_machine.specs.declared.processor.CoreState.{CoreState}
use Rattle.sb_machine.specs.declared.place.Place.{Place}
use Rattle.sb_machine.specs.declared.place.Place.TheVariants.{Word, Core}
use Rattle.sb_machine.specs.declared.place.Seen.{Seen}
use Rattle.sb_machine.specs.Counts.{made_by}
use Rattle.sb_machine.specs.Machine.{Machine, state_at}
use Rattle.sb_machine.specs.Seens.{Holds, HoldsAt}
use Rattle.sb_block.specs.declared.fact.MadeStep.{MadeStep}
use Rattle.sb_block.specs.Places.{AreReadsIn, IsPlaceIn}
use Rattle.sb_book.specs.Commit.{AllHoldNow, HoldsNow, IsBlockOf, LeadsBehind, value_now}
use Rattle.sb_book.specs.History.{IsRunning}

-- ---- the places that were read

module _ (machine : Machine) (frames core : ℕ) (before : CoreState) (same : made_by machine core ≡ before.made) where
  place_holds : (place : Place) (value : ℕ) → IsPlaceIn frames core place → value_now machine place ≡ value
      → HoldsAt core before machine.memory place value
  place_holds (Word place) value inside held = held
  place_holds (Core other) value inside held =
      (inside, sym same ∙ (ap (λ (number : ℕ). made_by machine number) (sym inside) ∙ held))

  places_hold : (reads : List Seen) → AreReadsIn frames core reads → AllHoldNow machine reads
      → Holds core before machine.memory reads
  places_hold [] inside held = tt
  places_hold (seen ∷ others) inside held = (
    place_holds seen.place seen.value (All-head (λ (one : Seen). IsPlaceIn frames core one.place) seen others inside)
        (All-head (HoldsNow machine) seen others held),
    places_hold others (All-tail (λ (one : Seen). IsPlaceIn frames core one.place) seen others inside)
        (All-tail (HoldsNow machine) seen others held),
  )

-- ---- the steps

-- the block's steps lead from this machine to the core and the words behind them
pub leads_behind : (machine : Machine) (core : ℕ) (before after : CoreState) (steps : List MadeStep) (reads writes : List Seen)
    → IsBlockOf (frame_count machine.memory) core before after steps reads writes → core < length machine.cores
    → IsRunning machine core → (made_by machine core ≡ before.made → state_at machine core ≡ before)
    → IsPhysical machine.memory → HasAllFrames machine.memory → AllHoldNow machine reads
    → LeadsBehind machine core steps after writes
leads_behind machine core before after steps reads writes block there running state sound all held =
    let first = subst (λ (seens : List Seen). AllHoldNow machine seens) block.count_first held in
    let same : made_by machine core ≡ before.made = All-head (HoldsNow machine) _ block.words first in
    let found =
    block.holds machine (record { count = refl; sound = sound; all = all }) (record { there = there; running = running })
    (state same)
    (places_hold machine (frame_count machine.memory) core before same reads block.reads_in held) in
    record {
      new = found.0;
      own = found.1;
      marked = found.2;
      leaves = found.3;
    }

-- ---- the first that does not hold

-- the place of an element in a list
pub around : {X : Type 0} (list : List X) (index : ℕ) (none : X) → index < length list
    → list ≡ take index list ++ get_or list index none ∷ drop (index + 1) list
around list index none inside =
    rw (add-one index)
    (sym (take-append-drop index list) ∙ ap (λ rest. take index list ++ rest) (drop-cons list index none inside))
