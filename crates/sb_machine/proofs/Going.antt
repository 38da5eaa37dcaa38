-- An instruction that goes on, of a thread out of flight.
use Rattle.std.proofs.Common.{◌≡◌, ◌∙◌, sym, ap, subst, ℕ, ◌<◌, List, length, refl}
use Rattle.std.specs.Prelude.{Option, None, slice_get, unwrap_or}
use Rattle.sb_insn.specs.declared.insn.Insn.{Insn}
use Rattle.sb_insn.specs.declared.registers.Regs.{Regs}
use Rattle.sb_exec.specs.Rows.{row_of}
use Rattle.sb_root.specs.Root.{list_entry}
use Rattle.sb_state.specs.declared.state.Thread.{Thread}
use Rattle.sb_state.proofs.Threads.{set_within}
use Rattle.sb_trace.specs.declared.event.Event.{Event}
use Rattle.sb_trace.specs.declared.event.Event.TheVariants.{Step as StepLine}
use Rattle.sb_trace.specs.State.{State, no_thread, thread_at, flight_at, with_regs}
use Rattle.sb_trace.specs.Step.{Steps, execution_in_view}
use Rattle.sb_trace.proofs.Steps.{steps_change}
use Rattle.sb_trace.proofs.Stores.{Written, execution_written}
use Rattle.sb_landing.specs.Related.{IsBeside}
use Rattle.sb_shows.specs.Shows.{index_of, present_index}
use Rattle.sb_machine.specs.declared.processor.Core.{Core}
use Rattle.sb_machine.specs.Machine.{Machine, core_at, state_at, with_core}
use Rattle.sb_machine.specs.Outcomes.{line_by, origin_behind, core_behind, next_outcome}
use Rattle.sb_machine.specs.Phase.{phase_behind}
use Rattle.sb_machine.specs.StandsFor.{IsCoreOf, IsMachineOf}
use Rattle.sb_machine.specs.Written.{execution_on}
use Rattle.sb_machine.specs.Laws.{Follows}
use Rattle.sb_machine.proofs.Afterwards.{afterwards}
use Rattle.sb_machine.proofs.Following.{follows_by}
use Rattle.sb_machine.proofs.Grounded.{core_is, eptp_now}
use Rattle.sb_machine.proofs.Executed.{IsQuiet, instruction_stands}
use Rattle.sb_machine.proofs.Seeing.{small, executed}

module _ (machine : Machine) (state : State) (is : IsMachineOf machine state) (number : ℕ) (there : number < length machine.cores)
    (grounded : flight_at state number ≡ None) (insn : Insn) where
  abbrev index : ℕ
  index = present_index state number

  abbrev rip : ℕ
  rip = (state_at machine number).regs.rip

  abbrev mid : State
  mid = (execution_in_view state number index insn (state_at machine number).regs).meaning

  abbrev regs : Regs
  regs = (execution_in_view state number index insn (state_at machine number).regs).registers

  abbrev next : State
  next = with_regs mid number regs

  written : Written state number index mid
  written = execution_written number index (row_of insn (state_at machine number).regs) (state_at machine number).regs state

  -- ---- the thread behind the instruction

  inside : number < length mid.threads
  inside = subst (λ (threads : List Thread). number < length threads) (sym written.keeps.threads)
      (small machine state is number there)

  mid_thread : thread_at mid number ≡ thread_at state number
  unfolding thread_at
  mid_thread = ap (λ (threads : List Thread). unwrap_or (slice_get threads number) no_thread) written.keeps.threads

  next_thread : thread_at next number ≡ record (thread_at state number) { regs = regs }
  unfolding thread_at with_regs
  next_thread =
      set_within mid.threads number (record (thread_at mid number) { regs = regs }) no_thread inside
      ∙ ap (λ (one : Thread). record one { regs = regs }) mid_thread

  next_flight : flight_at next number ≡ None
  unfolding flight_at with_regs
  next_flight = ap (λ flights. unwrap_or (slice_get flights number) None) written.keeps.flights ∙ grounded

  next_index : present_index next number ≡ (thread_at state number).view
  next_index =
      ap (λ found. index_of found (thread_at next number).view) next_flight ∙ ap (λ (one : Thread). one.view) next_thread

  -- ---- the core

  line_is : (phase : Option ℕ) (view : ℕ) (left : Regs) → phase ≡ None → line_by phase view rip left ≡ StepLine rip
  line_is phase view left at = ap (λ found. line_by found view rip left) at

  abbrev core : Core
  core = core_behind (core_at machine number) (execution_on machine number insn).registers

  core_next : IsCoreOf (thread_at next number) (flight_at next number) core
  core_next =
      let own = core_is machine state is number there grounded in
      let line = line_is (state_at machine number).phase (state_at machine number).view
      (execution_on machine number insn).registers own.phase in
      subst (λ found. IsCoreOf (thread_at next number) found core) (sym next_flight)
      (subst (λ thread. IsCoreOf thread None core) (sym next_thread) (record {
        view = own.view;
        phase = ap (λ phase. phase_behind phase (execution_on machine number insn).registers.rip) own.phase;
        end = own.end;
        origin = ap (λ line. origin_behind line (core_at machine number).origin) line;
      }))

  pub next_follows : Steps state number (StepLine rip) next
      → Follows
      (next_outcome machine number (execution_on machine number insn).registers (execution_on machine number
      insn).meaning.physical).1
      state number
      (next_outcome machine number (execution_on machine number insn).registers (execution_on machine number
      insn).meaning.physical).0
  unfolding with_regs
  next_follows steps =
      let open_pages = (steps_change state number (StepLine rip) next steps).rest in
      let quiet : IsQuiet state next = record {
        bindings = open_pages.bindings;
        processes = open_pages.processes;
        free = open_pages.free;
        keys = open_pages.keys;
      } in
      let alike = executed machine state is number there insn in
      let own = core_is machine state is number there grounded in
      let new : Machine = record (with_core machine number core) {
        memory = (execution_on machine number insn).meaning.physical;
      } in
      subst (λ (line : Event). Follows new state number line)
      (sym (line_is (state_at machine number).phase (state_at machine number).view
      (execution_on machine number insn).registers own.phase))
      (follows_by new state number (StepLine rip) next is.sound steps
      (afterwards machine new state next number (StepLine rip) core (is.begun number) is there steps
      (instruction_stands machine state next number (StepLine rip) insn is there steps quiet refl)
      (record { lists = λ n. refl; views = λ n view set. refl })
      (record {
        cr3 = refl;
        list = refl;
        eptp = eptp_now machine state is number there grounded ∙ ap (list_entry machine.root number) (sym next_index);
        beside = subst (λ found. IsBeside next number found (is.begun number) core.state.regs) (sym next_flight)
            (alike.registers ∙ sym (ap (λ (one : Thread). one.regs) next_thread));
        own = core_next;
      }) refl))
