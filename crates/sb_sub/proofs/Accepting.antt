-- Register by its refusal: who is accepted, and what stands afterwards.
use Rattle.std.proofs.Common.{◌≡◌, ◌∙◌, sym, ap, subst, ℕ, ◌+◌, ◌*◌, ◌≤◌, ◌==◌, ◌||◌, Bool, true, false, not, nat_lt, List, refl}
use Rattle.std.specs.Prelude.{Option, Some, None, IfSome, if◌then◌else◌, slice_get}
use Rattle.std.specs.Option.{option_map}
use Rattle.std.proofs.lemmas.Option.{slice_get-map}
use Rattle.sb_abi.specs.declared.call.CallRefusal.{CallRefusal}
use Rattle.sb_abi.specs.declared.call.CallRefusal.TheVariants.{InServer, Already, BadHandler, BadCount, NoFrames}
use Rattle.sb_calls.specs.Refusals.{register_refusal}
use Rattle.sb_memory.specs.Physical.{Physical}
use Rattle.sb_frames.specs.Book.{Book, free_count}
use Rattle.sb_pagewalk.specs.declared.table_set.TableSet.{TableSet}
use Rattle.sb_root.specs.declared.root_kernel.RootKernel.{RootKernel}
use Rattle.sb_root.specs.Root.{eptp_list_frame, list_entry}
use Rattle.sb_memory.specs.declared.address.Frame.{Frame}
use Rattle.sb_trace.specs.PageWords.{with_word}
use Rattle.sb_trace.specs.State.{State, Process, with_contents, process_at, registration_of, registration_at, thread_at, flight_at}
use Rattle.sb_trace.specs.SyscallRegister.{is_registered, is_start, refusal_of_register, with_server}
use Rattle.sb_trace.proofs.Accepted.{no_registration}
use Rattle.sb_trace.proofs.TablePages.{pool_there}
use Rattle.sb_shows.specs.Related.{HasCores}
use Rattle.sb_shows.specs.Shows.{CoreWords, present_index}
use Rattle.sb_shows.proofs.Steps.{cores_see}
use Rattle.sb_mapping.specs.Carries.{Carries}
use Rattle.sb_mapping.specs.Taking.{CanTake}
use Rattle.sb_mapping.proofs.Carried.{can_take}
use Rattle.sb_sub.specs.Kernel.{Entry, Kernel, process_of}
use Rattle.sb_sub.specs.Outcomes.{RegistersBy}
use Rattle.sb_sub.specs.Refusals.{process_in, server_refusal}
use Rattle.sb_sub.specs.Registering.{FindsPool, RegistersPages, with_server_entry}
use Rattle.sb_sub.specs.StandsFor.{StandsFor}
use Rattle.sb_sub.specs.Translations.{PlacesStay}
use Rattle.sb_sub.proofs.Finding.{process_there, set_is}
use Rattle.sb_sub.proofs.Pooled.{finds_pool}
use Rattle.sb_sub.proofs.Registered.{done, registered_stands}
use Rattle.sb_sub.proofs.SeenAfter.{register_stays}
use Rattle.sb_sub.proofs.Translated.{translations_kept}

-- ---- who is accepted

accepted_by : (home registered start : Bool) (rest : Option CallRefusal)
    → (if not home then Some InServer else if registered then Some Already else if not start then Some BadHandler else rest)
    ≡ None
    → (registered ≡ false) × (start ≡ true)
accepted_by true false true rest is = (refl, refl)
accepted_by true false false rest is = absurd (let e = is in cc)
accepted_by true true start rest is = absurd (let e = is in cc)
accepted_by false registered start rest is = absurd (let e = is in cc)

accepted : (view : ℕ) (registered start : Bool) (stacks free : ℕ) → register_refusal view registered start stacks free ≡ None
    → (registered ≡ false) × (start ≡ true)
unfolding register_refusal
accepted view registered start stacks free is =
    accepted_by (view == 0) registered start
    (if (stacks == 0) || nat_lt 16 stacks then Some BadCount else if nat_lt free (4 * stacks) then Some NoFrames else None) is

found_by : (found : Option Entry) (handler : ℕ) → is_registered (registration_of (option_map process_of found)) ≡ false
    → is_start (option_map process_of found) handler ≡ true
    → (entry : Entry) × (found ≡ Some entry) × (entry.process.registration ≡ None)
found_by None handler un start = absurd (let e = start in cc)
found_by (Some entry) handler un start = (entry, refl, no_registration entry.process.registration un)

-- a process that is accepted is there, and no server yet
pub accepted_entry : (kernel : Kernel) (free view process handler stacks : ℕ)
    → server_refusal kernel free view process handler stacks ≡ None
    → (entry : Entry) × (slice_get kernel.processes process ≡ Some entry) × (entry.process.registration ≡ None)
accepted_entry kernel free view process handler stacks is =
    let tests =
    accepted view (is_registered (registration_of (process_in kernel process))) (is_start (process_in kernel process) handler)
    stacks free is in
    found_by (slice_get kernel.processes process) handler tests.0 tests.1

module _ (kernel : Kernel) (root : RootKernel) (book : Book) (memory : Physical) (state : State)
    (stands : StandsFor kernel root book memory state) (process : ℕ) where
  pub found_same : process_in kernel process ≡ process_at state process
  unfolding process_at
  found_same =
      sym (slice_get-map process_of kernel.processes process)
      ∙ ap (λ (list : List Process). slice_get list process) stands.processes

  -- the refusal is that of the definitions
  pub refusal_same : (view handler stacks : ℕ) → server_refusal kernel (free_count book) view process handler stacks
      ≡ refusal_of_register state view process handler stacks
  unfolding registration_at
  refusal_same view handler stacks =
      ap (λ (found : Option Process). register_refusal view (is_registered (registration_of found)) (is_start found handler)
      stacks (free_count book)) found_same
      ∙ ap (λ (free : ℕ). register_refusal view (is_registered (registration_of (process_at state process)))
      (is_start (process_at state process) handler) stacks free) stands.count

  carries : Carries stands.placement root book memory state
  carries = record { keeps = stands.keeps; rooted = stands.rooted; booked = stands.booked; unused = stands.unused }

  module _ (entry : Entry) (kept : slice_get kernel.processes process ≡ Some entry) where
    -- what the code that adds the pages asks
    pub finds_entry_pool : FindsPool memory entry.set root
    finds_entry_pool =
        let there = process_there kernel root book memory state stands process entry kept in
        let pool = pool_there state stands.servable.table process there in
        subst (λ (set : TableSet). FindsPool memory set root)
        (set_is kernel root book memory state stands process entry kept)
        (finds_pool stands.placement root book memory state carries process pool.0 there pool.1)

    pub can_take_entry : CanTake entry.set root book memory
    can_take_entry =
        subst (λ (set : TableSet). CanTake set root book memory)
        (set_is kernel root book memory state stands process entry kept)
        (can_take stands.placement root book memory state carries process
        (process_there kernel root book memory state stands process entry kept))

  -- ---- what stands afterwards

  module _ (view handler stacks : ℕ) (book' : Book) (new : Physical) (few : stacks ≤ 16)
      (accepts : server_refusal kernel (free_count book) view process handler stacks ≡ None)
      (pages : IfSome (slice_get kernel.processes process)
      (λ entry. RegistersPages entry.set root book book' memory new process stacks))
      (fewer : free_count book' + 4 * stacks ≡ free_count book) where
    one : (entry : Entry) × (slice_get kernel.processes process ≡ Some entry) × (entry.process.registration ≡ None)
    one = accepted_entry kernel (free_count book) view process handler stacks accepts

    taken : RegistersPages one.0.set root book book' memory new process stacks
    taken = subst (λ (found : Option Entry). IfSome found (λ entry. RegistersPages entry.set root book book' memory new process
        stacks)) one.1 pages

    pub registers_by : (kernel' : Kernel)
        → kernel' ≡ record kernel {
          processes = with_server_entry (slice_get kernel.processes process) kernel.processes process handler stacks;
        }
        → RegistersBy kernel' root book' new state view process handler stacks None
    registers_by kernel' noted = record {
      is = sym accepts ∙ refusal_same view handler stacks;
      stands = subst (λ (now : Kernel). StandsFor now root book' new (with_server state process handler stacks))
          (sym (noted ∙ ap (λ (found : Option Entry). record kernel {
            processes = with_server_entry found kernel.processes process handler stacks;
          }) one.1))
          (registered_stands kernel root book memory state stands process one.0 one.1 one.2 handler stacks book' new few taken
          fewer);
    }

-- the list of a thread is in the frame that its core has
abbrev HasList : RootKernel → (ℕ → CoreWords) → ℕ → Type 0
HasList root cores thread = (frame : Frame) × (eptp_list_frame root thread ≡ Some frame) × ((cores thread).list ≡ frame.0)

-- after register each address that led to a place leads there
pub places_after_register : (kernel : Kernel) (root : RootKernel) (book : Book) (memory : Physical)
    (process view handler stacks : ℕ) (book' : Book) (new : Physical) → stacks ≤ 16
    → server_refusal kernel (free_count book) view process handler stacks ≡ None
    → IfSome (slice_get kernel.processes process) (λ entry. RegistersPages entry.set root book book' memory new process stacks)
    → free_count book' + 4 * stacks ≡ free_count book
    → PlacesStay kernel root book memory new
unfolding with_server with_word with_contents thread_at flight_at
places_after_register kernel root book memory process view handler stacks book' new few accepts pages fewer state cores stands has
    thread index shows access linear place leads =
    let one = accepted_entry kernel (free_count book) view process handler stacks accepts in
    let taken =
    subst (λ (found : Option Entry). IfSome found (λ entry. RegistersPages entry.set root book book' memory new process stacks))
    one.1 pages in
    let after = done kernel root book memory state stands process one.0 one.1 one.2 handler stacks book' new few taken fewer in
    let root_same = stands.rooted ∙ sym after.carries.rooted in
    let has_after : HasCores after.after (with_server state process handler stacks) cores =
    record {
      list = λ number there. subst (λ (kernel : RootKernel). HasList kernel cores number) root_same (has.list number there);
      cr3 = has.cr3;
      eptp = λ number there. has.eptp number there
          ∙ ap (λ (kernel : RootKernel). list_entry kernel number (present_index state number)) root_same;
      present = has.present;
    } in
    translations_kept stands.placement after.after thread index state (with_server state process handler stacks) _ _
    (cores_see stands.placement state memory cores stands.keeps has thread index shows)
    (cores_see after.after (with_server state process handler stacks) new cores after.carries.keeps has_after thread index shows)
    (register_stays stands.placement after.after state process handler stacks thread index after.stays)
    access linear place leads
