-- What stands for the state after an instruction: memory as the instruction left it, and the kernels as they were.
use Rattle.std.proofs.Common.{◌≡◌, ◌∙◌, sym, ap, subst, ℕ, ◌<◌, ◌≤◌, length, inl, inr}
use Rattle.std.proofs.lemmas.Bool.{cases_eq}
use Rattle.std.specs.Prelude.{map}
use Rattle.sb_insn.specs.declared.insn.Insn.{Insn}
use Rattle.sb_exec.specs.Rows.{row_of}
use Rattle.sb_trace.specs.declared.event.Event.{Event}
use Rattle.sb_trace.specs.State.{State, HasFewThreads, thread_at}
use Rattle.sb_trace.specs.Changes.{BindingsStay, OnlyThread}
use Rattle.sb_trace.specs.Step.{Steps, execution_in_view}
use Rattle.sb_trace.proofs.SoundRuns.{steps_keep_sound}
use Rattle.sb_trace.proofs.Steps.{steps_change}
use Rattle.sb_trace.proofs.Stores.{Written, execution_written}
use Rattle.sb_trace.proofs.Threads.{thread_other}
use Rattle.sb_shows.proofs.Threads.{keeps_moved}
use Rattle.sb_shows.specs.Shows.{present_index}
use Rattle.sb_sub.specs.Kernel.{seat_of}
use Rattle.sb_sub.specs.StandsFor.{StandsFor}
use Rattle.sb_sub.proofs.Moves.{IsMoved, same_sight}
use Rattle.sb_sub.proofs.Servable.{sound_servable}
use Rattle.sb_machine.specs.Machine.{Machine, state_at}
use Rattle.sb_machine.specs.StandsFor.{IsMachineOf}
use Rattle.sb_machine.specs.Written.{execution_on}
use Rattle.sb_machine.proofs.Frames.{frames_kept}
use Rattle.sb_machine.proofs.Seats.{seats_stay}
use Rattle.sb_machine.proofs.Seeing.{executed}

-- a step that changes pages and its own thread, but no binding, process, free frame or key word
pub record IsQuiet (old new : State) : Type 0 where
  pub bindings : BindingsStay old new
  pub processes : new.processes ≡ old.processes
  pub free : new.free ≡ old.free
  pub keys : new.keys ≡ old.keys

module _ (machine : Machine) (state next : State) (number : ℕ) (event : Event) (insn : Insn) (is : IsMachineOf machine state)
    (there : number < length machine.cores) (steps : Steps state number event next) (quiet : IsQuiet state next) where
  -- the pages after the instruction, on the plain machine
  abbrev mid : State
  mid = (execution_in_view state number (present_index state number) insn (state_at machine number).regs).meaning

  module _ (pages : next.pages ≡ mid.pages) where
    written : Written state number (present_index state number) mid
    written = execution_written number (present_index state number) (row_of insn (state_at machine number).regs)
        (state_at machine number).regs state

    only : OnlyThread state number next
    only = (steps_change state number event next steps).thread

    home_stays : (n : ℕ) → (thread_at next n).home ≡ (thread_at state n).home
    home_stays n = elim (cases_eq n number) [
      | inl same ↦ subst (λ (n : ℕ). (thread_at next n).home ≡ (thread_at state n).home) (sym same) only.home
      | inr apart ↦ ap (λ thread. thread.home) (thread_other state number next n only apart)
    ]

    seats : map seat_of next.threads ≡ map seat_of state.threads
    seats = seats_stay state next only.count home_stays quiet.bindings

    moved : IsMoved mid next
    moved = record {
      pages = pages;
      processes = quiet.processes ∙ sym written.keeps.processes;
      seats = seats ∙ sym (ap (map seat_of) written.keeps.threads);
      flights = only.places ∙ sym (ap length written.keeps.flights);
      free = quiet.free ∙ sym written.keeps.free;
      keys = quiet.keys ∙ sym written.keeps.keys;
    }

    few : HasFewThreads next
    few = subst (λ count. count ≤ 8) (sym only.count) is.stands.servable.few

    pub instruction_stands : StandsFor machine.kernel machine.root machine.book (execution_on machine number
        insn).meaning.physical next
    instruction_stands = record {
      placement = is.stands.placement;
      keeps = keeps_moved is.stands.placement mid next (execution_on machine number insn).meaning.physical
          (same_sight mid next moved) (executed machine state is number there insn).related.keeps;
      rooted = is.stands.rooted;
      sets = is.stands.sets;
      processes = is.stands.processes ∙ sym quiet.processes;
      seats = seats ∙ is.stands.seats;
      keys = is.stands.keys ∙ sym quiet.keys;
      servable = sound_servable next (steps_keep_sound state number event next is.sound steps) few;
      booked = record {
        size = is.stands.booked.size ∙ sym (frames_kept machine number insn);
        held = is.stands.booked.held;
      };
      unused = is.stands.unused;
      count = is.stands.count ∙ sym quiet.free;
    }
