-- The machine behind steps that a core has made elsewhere is the one to which the steps lead.
use Rattle.std.proofs.Common.{◌≡◌, ◌∙◌, sym, ap, subst, ℕ, ◌<◌, List, length, slice_set}
use Rattle.std.specs.Prelude.{Option}
use Rattle.sb_memory.specs.Physical.{Physical, IsPhysical, frame_count}
use Rattle.sb_trace.specs.State.{State}
use Rattle.sb_trace.specs.declared.event.Event.{Event}
use Rattle.sb_machine.specs.declared.place.Seen.{Seen}
use Rattle.sb_machine.specs.declared.processor.Core.{Core}
use Rattle.sb_machine.specs.declared.processor.CoreState.{CoreState}
use Rattle.sb_machine.specs.declared.processor.Origin.{Origin}
use Rattle.sb_machine.specs.Applied.{machine_behind, origin_kept, with_seens}
use Rattle.sb_machine.specs.Counts.{made_by}
use Rattle.sb_machine.specs.Laws.{OwnStepsArePlain, FollowsRun}
use Rattle.sb_machine.specs.Machine.{Machine, core_at, with_core}
use Rattle.sb_machine.specs.OwnSteps.{AreSteps}
use Rattle.sb_machine.specs.StandsFor.{IsMachineOf}
use Rattle.sb_machine.specs.Translations.{SameTranslations}
use Rattle.sb_machine.proofs.BytesKept.{each_byte}
use Rattle.sb_machine.proofs.Cores.{own_core}
use Rattle.sb_machine.proofs.OwnRuns.{own_bytes}
use Rattle.sb_machine.proofs.Undecided.{origin_is}
use Rattle.sb_machine.proofs.WordsPut.{words_put}

-- what holds of the machine behind steps of a core, which has this state there
pub record IsBehind (old : Machine) (number : ℕ) (after : CoreState) (new : Machine) : Type 0 where
  pub stands : (state : State) × IsMachineOf new state
  pub translations : SameTranslations old new
  pub counts : made_by new number ≡ after.made
  pub frames : frame_count new.memory ≡ frame_count old.memory
  pub cores : length new.cores ≡ length old.cores

module _ (law : OwnStepsArePlain) (old : Machine) (some : (state : State) × IsMachineOf old state)
    (physical : IsPhysical old.memory) (number : ℕ) (there : number < length old.cores) (after : CoreState) (writes : List Seen)
    (events : List Event) (new : Machine) (made : AreSteps old number events after writes new) where
  run : FollowsRun old some.0 number events new
  run = law old number events new some.0 there some.1 made.steps

  -- the core that the steps leave, with this place of its thread
  abbrev core_left : Option Origin → Core
  core_left origin = record (core_at old number) { state = after; origin = origin }

  abbrev left : Option Origin → Physical → Machine
  left origin memory = record (with_core old number (core_left origin)) { memory = memory }

  cores_are : new.cores ≡ slice_set old.cores number (core_left made.leaves.origin)
  cores_are = ap (λ (machine : Machine). machine.cores) made.leaves.rest

  core_is : core_at new number ≡ core_left made.leaves.origin
  core_is = own_core old new number (core_left made.leaves.origin) there cores_are

  place_is : made.leaves.origin ≡ origin_kept after (core_at old number).origin
  place_is =
      let before : Option Origin = (core_at old number).origin in
      sym (ap (λ (core : Core). core.origin) core_is)
      ∙ (origin_is new run.end run.stands number before made.origin
      ∙ ap (λ (core : Core). origin_kept core.state before) core_is)

  memory_is : with_seens old.memory writes ≡ new.memory
  memory_is =
      let bytes = each_byte old.memory.bytes physical.bytes in
      words_put new.memory (own_bytes old number events new made.steps bytes) writes old.memory
      (record { are = bytes; whole = physical.size.bytes }) made.leaves.memory

  -- the machine behind them is the one to which they lead
  pub behind_is : machine_behind old number after writes ≡ new
  behind_is =
      ap (λ (origin : Option Origin). left origin (with_seens old.memory writes)) (sym place_is)
      ∙ (ap (λ (memory : Physical). left made.leaves.origin memory) memory_is ∙ sym made.leaves.rest)

  pub is_behind : IsBehind old number after (machine_behind old number after writes)
  is_behind = subst (IsBehind old number after) (sym behind_is) (record {
    stands = (run.end, run.stands);
    translations = run.translations;
    counts = ap (λ (core : Core). core.state.made) core_is;
    frames = run.frames;
    cores = run.cores;
  })
