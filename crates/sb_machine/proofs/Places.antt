-- What a step asks of a machine that stands for some state.
use Rattle.std.proofs.Common.{◌≡◌, ◌∙◌, sym, ap, subst, ℕ, ◌<◌, length, Result}
use Rattle.std.specs.Prelude.{IsTrue, IfErr}
use Rattle.std.proofs.lemmas.List.{length-map}
use Rattle.sb_memory.specs.Physical.{frame_count, IsWordPlace}
use Rattle.sb_insn.specs.declared.insn.Insn.{Insn}
use Rattle.sb_bus.specs.declared.stop.BusStop.{BusStop}
use Rattle.sb_exec.specs.Rows.{row_of}
use Rattle.sb_exec.specs.declared.action.Effect.{Effect}
use Rattle.sb_walks.specs.Entry.{entry_in, frame_in}
use Rattle.sb_walks.specs.Ept.{is_eptp}
use Rattle.sb_trace.specs.Faults.{IsFault}
use Rattle.sb_trace.specs.State.{State}
use Rattle.sb_trace.proofs.Faults.{execution_faults, fetch_faults}
use Rattle.sb_shows.specs.Shows.{present_index}
use Rattle.sb_sub.specs.Kernel.{seat_of}
use Rattle.sb_sub.specs.StandsFor.{StandsFor}
use Rattle.sb_machine.specs.Machine.{Machine, state_at}
use Rattle.sb_machine.specs.OwnSteps.{HasWalks}
use Rattle.sb_machine.specs.StandsFor.{IsMachineOf}
use Rattle.sb_machine.specs.Written.{FetchesNext, execution_on}
use Rattle.sb_machine.proofs.Seeing.{small, pointer, pointer_inside, list_inside, entry_is_word, fetched, executed}

module _ (machine : Machine) (number : ℕ) (some : (state : State) × IsMachineOf machine state)
    (there : number < length machine.cores) where
  -- the EPT pointer of a core is one
  pub is_pointer : IsTrue (is_eptp (state_at machine number).eptp)
  is_pointer = pointer machine some.0 some.1 number there

  -- and leads to a table in memory
  pub root_inside : frame_in (state_at machine number).eptp < frame_count machine.memory
  root_inside = pointer_inside machine some.0 some.1 number there

  -- the frame of its list is there
  pub list_frame : (state_at machine number).list.0 < frame_count machine.memory
  list_frame = list_inside machine some.0 some.1 number there

  -- so the core has what its walks and its VMFUNC need
  pub has_walks : HasWalks (frame_count machine.memory) (state_at machine number)
  has_walks = record { pointer = is_pointer; root = root_inside; list = list_frame }

  -- the entry of its home view is there too
  pub home_word : IsWordPlace machine.memory (entry_in (state_at machine number).list.0 0)
  home_word = entry_is_word machine some.0 some.1 number there

  -- the kernels stand for a state
  pub kernel_stands : (state : State) × StandsFor machine.kernel machine.root machine.book machine.memory state
  kernel_stands = (some.0, some.1.stands)

  -- the Subkernel has a seat for the thread
  pub seat_there : number < length machine.kernel.seats
  seat_there =
      let seats : length machine.kernel.seats ≡ length some.0.threads =
      sym (ap length some.1.stands.seats) ∙ length-map some.0.threads seat_of in
      let inside = small machine some.0 some.1 number there in
      rw seats inside

  -- what stops an instruction is a fault
  pub execution_is_fault : (insn : Insn) → IfErr (execution_on machine number insn).answer IsFault
  execution_is_fault insn =
      subst (λ (answer : Result Effect BusStop). IfErr answer IsFault)
      (sym (executed machine some.0 some.1 number there insn).answer)
      (execution_faults number (present_index some.0 number) (row_of insn (state_at machine number).regs)
      (state_at machine number).regs some.0)

  pub fetch_is_fault : (result : Result Insn BusStop) → FetchesNext machine number result → IfErr result IsFault
  fetch_is_fault result fetches =
      fetch_faults number (present_index some.0 number) some.0 (state_at machine number).regs.rip result
      (fetched machine some.0 some.1 number there result fetches)
