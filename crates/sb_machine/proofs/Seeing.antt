-- What a core of a machine sees, and the words that it goes by.
use Rattle.std.proofs.Common.{◌≡◌, ◌∙◌, sym, ap, subst, ℕ, ◌<◌, true, length, refl, arith, Result, lit<}
use Rattle.std.specs.Prelude.{Some}
use Rattle.sb_memory.specs.Physical.{frame_count, IsWordPlace}
use Rattle.sb_memory.specs.Words.{word_at}
use Rattle.sb_insn.specs.declared.insn.Insn.{Insn}
use Rattle.sb_bus.specs.declared.stop.BusStop.{BusStop}
use Rattle.sb_exec.specs.Fetching.{Fetches, FetchesOn}
use Rattle.sb_exec.specs.Rows.{row_of}
use Rattle.sb_exec.specs.Simulation.{Alike}
use Rattle.sb_walks.specs.Entry.{entry_in, frame_in}
use Rattle.sb_walks.specs.Ept.{is_eptp}
use Rattle.sb_root.specs.declared.root_kernel.RootKernel.{RootKernel}
use Rattle.sb_root.specs.Root.{ListOf, IsSet, is_listed, eptp_list_frame, list_entry}
use Rattle.sb_root.specs.Standing.{Stands}
use Rattle.sb_root.proofs.Between.{set_pointer, set_inside}
use Rattle.sb_root.proofs.Uses.{used_list}
use Rattle.sb_state.specs.PlainMemory.{plain}
use Rattle.sb_trace.specs.State.{State}
use Rattle.sb_trace.specs.Step.{execution_in_view}
use Rattle.sb_shows.specs.Related.{Sees}
use Rattle.sb_shows.specs.Shows.{IsView, present_index}
use Rattle.sb_shows.proofs.Steps.{steps_alike, fetches_alike}
use Rattle.sb_machine.specs.Machine.{Machine, state_at, view_at, no_account}
use Rattle.sb_machine.specs.StandsFor.{IsMachineOf}
use Rattle.sb_machine.specs.Written.{FetchesNext, execution_on}

module _ (machine : Machine) (state : State) (is : IsMachineOf machine state) (number : ℕ)
    (there : number < length machine.cores) where
  -- the core's thread is one of the state's
  pub small : number < length state.threads
  small = subst (λ count. number < count) is.count there

  abbrev index : ℕ
  index = present_index state number

  -- ---- the walks

  pub sees : Sees is.stands.placement number index state (view_at machine number)
  sees = record {
    keeps = is.stands.keeps;
    shows = is.words.present number small;
    eptp = is.words.eptp number small;
    cr3 = is.words.cr3 number small;
  }

  pub root_stands : Stands machine.root machine.memory
  root_stands = subst (λ (root : RootKernel). Stands root machine.memory) is.stands.rooted is.stands.keeps.leads.stands

  -- a view of a thread is set in the root kernel
  pub set_view : (view : ℕ) → IsView state number view → IsSet machine.root number view
  set_view view shows =
      let kept = is.stands.keeps.leads.views number view shows.0 shows.1 in
      subst (λ (root : RootKernel). IsSet root number view) is.stands.rooted (ap is_listed kept.is ∙ kept.listed)

  pub eptp_is : (state_at machine number).eptp ≡ list_entry machine.root number index
  eptp_is = is.words.eptp number small ∙ ap (λ root. list_entry root number index) is.stands.rooted

  pub pointer : is_eptp (state_at machine number).eptp ≡ true
  pointer = ap is_eptp eptp_is ∙ set_pointer machine.root machine.memory number index root_stands
      (set_view index (is.words.present number small))

  pub pointer_inside : frame_in (state_at machine number).eptp < frame_count machine.memory
  pointer_inside =
      let inside = set_inside machine.root machine.memory number index root_stands
      (set_view index (is.words.present number small)) in
      rw eptp_is inside

  -- ---- the list

  pub list_is : eptp_list_frame machine.root number ≡ Some (state_at machine number).list
  list_is =
      let list = is.words.list number small in
      let same : list.0 ≡ (state_at machine number).list = ap (λ (n : ℕ). record { 0 = n }) (sym list.2) in
      sym (ap (λ root. eptp_list_frame root number) is.stands.rooted) ∙ (list.1 ∙ ap Some same)

  pub list_inside : (state_at machine number).list.0 < frame_count machine.memory
  list_inside =
      (root_stands.inside (ListOf number) (state_at machine number).list.0
      (used_list machine.root number (state_at machine number).list list_is)).1

  pub entry_is_word : IsWordPlace machine.memory (entry_in (state_at machine number).list.0 0)
  entry_is_word =
      let inside = list_inside in
      record { inside = omega (arith, inside); aligned = omega arith }

  -- an entry of the list is that of the root kernel
  pub entry_is : (index : ℕ) → index < 512
      → word_at machine.memory.bytes (entry_in (state_at machine number).list.0 index) ≡ list_entry machine.root number index
  entry_is index few = (root_stands.lists number (state_at machine number).list list_is).entry index few

  -- that of the home view too
  pub home_entry : word_at machine.memory.bytes (entry_in (state_at machine number).list.0 0) ≡ list_entry machine.root number 0
  home_entry = entry_is 0 (lit< tt)

  -- ---- an instruction

  pub fetched : (result : Result Insn BusStop) → FetchesNext machine number result
      → FetchesOn (plain number index) state (state_at machine number).regs.rip tt tt result
  fetched result fetches = record {
    asked = fetches.asked;
    fetched = subst (λ fetch. Fetches fetch (state_at machine number).regs.rip result fetches.asked)
        (fetches_alike no_account is.stands.placement number index state (view_at machine number) sees) fetches.fetched;
    account = refl;
  }

  pub executed : (insn : Insn)
      → Alike (Sees is.stands.placement number index)
      (execution_in_view state number index insn (state_at machine number).regs) (execution_on machine number insn)
  executed insn =
      steps_alike no_account is.stands.placement number index (row_of insn (state_at machine number).regs)
      (state_at machine number).regs state (view_at machine number) tt sees
