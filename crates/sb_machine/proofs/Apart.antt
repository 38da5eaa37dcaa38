-- What a step leaves of all other cores.
use Rattle.std.proofs.Common.{ℕ, ◌<◌, length}
use Rattle.sb_trace.specs.State.{State}
use Rattle.sb_trace.specs.declared.event.Event.{Event}
use Rattle.sb_machine.specs.Landing.{LeavesCores}
use Rattle.sb_machine.specs.Laws.{Follows}
use Rattle.sb_machine.specs.Machine.{Machine}
use Rattle.sb_machine.specs.StandsFor.{IsMachineOf}
use Rattle.sb_machine.specs.Written.{Steps}
use Rattle.sb_machine.proofs.OtherCores.{others_kept}
use Rattle.sb_machine.proofs.OtherPages.{list_stays, trampoline_stays, words_stay}
use Rattle.sb_machine.proofs.OtherPools.{pool_after}
use Rattle.sb_machine.proofs.Through.{shows}

-- A step of a machine that stands for a state leaves each other core.
pub leaves_cores : (old : Machine) (core : ℕ) (event : Event) (new : Machine) (state : State) → core < length old.cores
    → IsMachineOf old state → Steps old core event new → Follows new state core event → LeavesCores event core old new
leaves_cores old core event new state core_there is steps follows other apart there =
    let kept = others_kept old core event new steps in
    let next = follows.next in
    record {
      same = kept.cores other apart;
      list = list_stays old new state next is follows.stands core event follows.changes kept other apart there;
      trampoline = λ index pointer.
          trampoline_stays old new state next is follows.stands core event follows.changes kept other apart there index
          (shows old state is other index pointer);
      words = λ index pointer.
          words_stay old new state next is follows.stands core event follows.changes kept other apart there index
          (shows old state is other index pointer);
      pool = λ index pointer away.
          pool_after old new state next is follows.stands core event follows.steps follows.changes kept core_there other apart
          there index (shows old state is other index pointer) away;
    }
