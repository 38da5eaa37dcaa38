-- What the calls ask of the pages of a state, where the state is sound.
use Rattle.std.proofs.Common.{◌≡◌, ◌≢◌, ◌∙◌, ap, ℕ, ◌<◌, ◌≤◌, Bool, length, refl, lit≤, arith}
use Rattle.std.specs.Prelude.{Option, Some, None, slice_get, if◌then◌else◌}
use Rattle.std.specs.Option.{option_and_then}
use Rattle.std.proofs.lemmas.Bool.{ne_eqb}
use Rattle.std.proofs.lemmas.Option.{slice_get_within}
use Rattle.sb_state.specs.declared.page.PageName.TheVariants.{Heap}
use Rattle.sb_state.specs.declared.state.Thread.{Thread}
use Rattle.sb_trace.specs.State.{State, with_mode, Process, process_at}
use Rattle.sb_trace.specs.Windows.{process_shown, process_of_view, server_of}
use Rattle.sb_trace.specs.SyscallProtect.{heap_count, with_heap_mode}
use Rattle.sb_trace.specs.Sound.{IsProcessSound, IsSound}
use Rattle.sb_trace.proofs.ProcessFacts.{all_at}
use Rattle.sb_trace.proofs.TablePages as table
use Rattle.sb_shows.specs.Placement.{IsThere}
use Rattle.sb_shows.proofs.Binding.{free_away, free_fresh, bound_keeps}
use Rattle.sb_shows.specs.CallLaws.{ProtectsKeep, SoundProtectsKeep, SoundRegistersKeep, SoundBindsKeep}
use Rattle.sb_shows.proofs.Protecting.{protected_keeps}
use Rattle.sb_shows.proofs.Unseen.{kept_frames}
use Rattle.sb_shows.proofs.Registering.{registered_keeps}

-- ---- protect

few_by : (state : State) (process : ℕ) (found : Option Process) → IsSound state → slice_get state.processes process ≡ found
    → heap_count found ≤ 512
few_by state process None sound is = lit≤ tt
few_by state process (Some one) sound is = (all_at IsProcessSound state.processes process one sound.processes is).heap

-- a heap is within its window
pub heap_few : (state : State) (process : ℕ) → IsSound state → heap_count (process_at state process) ≤ 512
unfolding process_at
heap_few state process sound = few_by state process (slice_get state.processes process) sound refl

within_by : (state : State) (process page : ℕ) (found : Option Process) → slice_get state.processes process ≡ found
    → page < heap_count found → process < length state.processes
within_by state process page None is below = absurd (omega (arith, below))
within_by state process page (Some one) is below = slice_get_within state.processes process one is

-- a page of a heap is there, in its window
pub heap_there : (state : State) (process page : ℕ) → IsSound state → page < heap_count (process_at state process)
    → (process < length state.processes) × (page < 512) × IsThere state.pages (Heap process page)
unfolding process_at
heap_there state process page sound below =
    let few = heap_few state process sound in (
      within_by state process page (slice_get state.processes process) refl below,
      omega (arith, few, below),
      table.heap_there state sound.table process page below,
    )

-- protect of a page of a heap keeps all frames
pub protected_frames : ProtectsKeep
unfolding with_heap_mode
protected_frames placement state memory mid new process page executable keeps there few found set exposed =
    kept_frames placement state (with_mode state.pages (Heap process page) executable) memory new keeps
    (protected_keeps placement state memory mid new process page executable keeps there few found set exposed)

-- protect of a heap page of a sound state
pub sound_protected_frames : SoundProtectsKeep
sound_protected_frames placement state memory mid new process page executable sound keeps below set exposed =
    let there = heap_there state process page sound below in
    protected_frames placement state memory mid new process page executable keeps there.0 there.1 there.2 set exposed

-- ---- register

-- register of a process of a sound state that is no server
pub sound_registered_keeps : SoundRegistersKeep
sound_registered_keeps placement state memory mid new process handler stacks sound keeps there none few written adds =
    let pool = table.pool_there state sound.table process there in
    registered_keeps placement state memory mid new process handler stacks pool.0 keeps there few pool.1
    (λ page. table.stack_absent state sound.table process page none) written adds

-- ---- bind

-- an index of no binding shows nothing
unshown : (state : State) (number index : ℕ) (thread : Thread) → slice_get state.threads number ≡ Some thread → index ≢ 0
    → server_of thread.bindings index ≡ None → process_shown state.threads number index ≡ None
unfolding process_shown
unshown state number index thread there away fresh =
    ap (option_and_then (process_of_view index)) there
    ∙ (ap (λ (test : Bool). if test then Some thread.home else server_of thread.bindings index) (ne_eqb index 0 away) ∙ fresh)

-- bind of a thread of a sound state
pub sound_bound_keeps : SoundBindsKeep
sound_bound_keeps placement state memory mid new root number thread binding sound keeps there server_there view adds =
    let free = view.added.lowest.free in
    let none = table.view_absent state sound.table number binding.index
    (unshown state number binding.index thread there
    (free_away placement state memory keeps number binding.index thread there free)
    (free_fresh placement state memory keeps number binding.index thread there free)) in
    bound_keeps placement state memory mid new root number thread binding keeps there server_there none.0 none.1 none.2 view adds
