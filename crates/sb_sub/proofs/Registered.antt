-- A state that is stood for, after register.
use Rattle.std.proofs.Common.{◌≡◌, ◌∙◌, sym, ap, subst, ℕ, zero, suc, ◌+◌, ◌-◌, ◌*◌, ◌<◌, ◌≤◌, ◌==◌, Bool, true, false, List, [], ◌∷◌, length, refl, arith}
use Rattle.std.specs.Prelude.{Option, Some, None, map, slice_get, slice_set}
use Rattle.std.proofs.lemmas.Bool.{eqb-true, eqb-false}
use Rattle.std.proofs.lemmas.Option.{slice_get_within}
use Rattle.sb_memory.specs.Physical.{Physical}
use Rattle.sb_frames.specs.Book.{Book, free_count}
use Rattle.sb_pagewalk.specs.declared.table_set.TableSet.{TableSet}
use Rattle.sb_root.specs.declared.root_kernel.RootKernel.{RootKernel}
use Rattle.sb_state.specs.declared.page.PageName.TheVariants.{Pool, ServerStack}
use Rattle.sb_trace.specs.PageWords.{with_word}
use Rattle.sb_trace.specs.State.{State, Process, find_page, with_contents, process_at, registration_of, registration_at}
use Rattle.sb_trace.specs.SyscallRegister.{with_registration, with_server}
use Rattle.sb_shows.specs.Placement.{IsThere}
use Rattle.sb_trace.proofs.TablePages.{pool_there, stack_absent}
use Rattle.sb_mapping.specs.Carries.{Carries}
use Rattle.sb_sub.specs.Kernel.{Entry, Kernel, process_of, seat_of}
use Rattle.sb_sub.specs.StandsFor.{StandsFor}
use Rattle.sb_sub.specs.Registering.{RegistersPages, Registered, with_entry}
use Rattle.sb_sub.proofs.Finding.{process_found, process_there, set_is}
use Rattle.sb_sub.proofs.Pooled.{registered_carried}
use Rattle.sb_sub.proofs.Servable.{set_here, server_servable}
use Rattle.sb_state.proofs.Threads.{set_other}

map_set : (list : List Entry) (index : ℕ) (entry : Entry)
    → map process_of (slice_set list index entry) ≡ slice_set (map process_of list) index (process_of entry)
map_set [] index entry = refl
map_set (first ∷ list) zero entry = refl
map_set (first ∷ list) (suc index) entry = ap (λ (rest : List Process). process_of first ∷ rest) (map_set list index entry)

module _ (kernel : Kernel) (root : RootKernel) (book : Book) (memory : Physical) (state : State)
    (stands : StandsFor kernel root book memory state)
    (process : ℕ) (entry : Entry) (kept : slice_get kernel.processes process ≡ Some entry)
    (unregistered : entry.process.registration ≡ None)
    (handler stacks : ℕ) (book' : Book) (new : Physical) (few : stacks ≤ 16)
    (registers : RegistersPages entry.set root book book' memory new process stacks)
    (fewer : free_count book' + 4 * stacks ≡ free_count book) where
  there : process < length state.processes
  there = process_there kernel root book memory state stands process entry kept

  is_found : slice_get state.processes process ≡ Some entry.process
  is_found = process_found kernel root book memory state stands process entry kept

  set_same : stands.placement.sets process ≡ entry.set
  set_same = set_is kernel root book memory state stands process entry kept

  pool : IsThere state.pages (Pool process)
  pool = pool_there state stands.servable.table process there

  no_stack : (page : ℕ) → find_page state.pages (ServerStack process page) ≡ None
  unfolding registration_at process_at
  no_stack page = stack_absent state stands.servable.table process page (ap registration_of is_found ∙ unregistered)

  carries : Carries stands.placement root book memory state
  carries = record { keeps = stands.keeps; rooted = stands.rooted; booked = stands.booked; unused = stands.unused }

  pub done : Registered stands.placement root book' new state process handler stacks
  done = registered_carried stands.placement root book memory state carries process pool.0 there pool.1 handler stacks book' new
      few no_stack
      (subst (λ (set : TableSet). RegistersPages set root book book' memory new process stacks) (sym set_same) registers)

  abbrev after : Entry
  after = with_entry entry handler stacks

  some_entry : (first second : Entry) → Some first ≡ Some second → first.set ≡ second.set
  some_entry first second same = cc

  sets_by : (same : Bool) (other : ℕ) (one : Entry) → (other == process) ≡ same
      → slice_get (slice_set kernel.processes process after) other ≡ Some one → done.after.sets other ≡ one.set
  sets_by true other one is found =
      let at = eqb-true other process is in
      let here = set_here kernel.processes process after (slice_get_within kernel.processes process entry kept) in
      let same = some_entry after one (sym here ∙ (ap (slice_get (slice_set kernel.processes process after)) (sym at) ∙ found)) in
      ap done.after.sets at ∙ (done.stays.sets process ∙ (set_same ∙ same))
  sets_by false other one is found =
      done.stays.sets other
      ∙ stands.sets other one (sym (set_other kernel.processes process other after (eqb-false other process is)) ∙ found)

  processes_now : map process_of (slice_set kernel.processes process after) ≡ (with_server state process handler stacks).processes
  unfolding with_server with_word with_contents process_at
  processes_now =
      map_set kernel.processes process after
      ∙ (ap (λ (list : List Process). slice_set list process (process_of after)) stands.processes
      ∙ sym (ap
      (λ (p : Option Process). with_registration p state.processes process (record { handler = handler; stacks = stacks }))
      is_found))

  threads_now : (with_server state process handler stacks).threads ≡ state.threads
  unfolding with_server with_word with_contents
  threads_now = refl

  keys_now : (with_server state process handler stacks).keys ≡ state.keys
  unfolding with_server with_word with_contents
  keys_now = refl

  free_now : (with_server state process handler stacks).free ≡ state.free - 4 * stacks
  unfolding with_server with_word with_contents
  free_now = refl

  found_at : process_at state process ≡ Some entry.process
  unfolding process_at
  found_at = is_found

  pub registered_stands : StandsFor (record kernel { processes = slice_set kernel.processes process after }) root book' new
      (with_server state process handler stacks)
  registered_stands = record {
    placement = done.after;
    keeps = done.carries.keeps;
    rooted = done.carries.rooted;
    sets = λ other one found. sets_by (other == process) other one refl found;
    processes = processes_now;
    seats = ap (map seat_of) threads_now ∙ stands.seats;
    keys = stands.keys ∙ sym keys_now;
    servable = (server_servable state process handler stacks entry.process found_at unregistered stands.servable).0;
    booked = done.carries.booked;
    unused = done.carries.unused;
    count = (let was = stands.count in let now = free_now in omega (arith, was, now, fewer));
  }
