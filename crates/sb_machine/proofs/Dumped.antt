-- The dump of a machine shows each state for which it stands.
use Rattle.std.proofs.Common.{◌≡◌, sym, ap, subst, ℕ, ◌^◌, ◌<◌, length, refl, arith}
use Rattle.std.specs.Prelude.{get_or}
use Rattle.std.proofs.lemmas.Option.{slice_get-get_or}
use Rattle.sb_memory.specs.Physical.{Physical, IsPhysical, HasAllFrames, frame_count}
use Rattle.sb_root.specs.Root.{PartOf, IsSet, list_entry}
use Rattle.sb_root.specs.Standing.{Stands}
use Rattle.sb_root.specs.declared.root_kernel.RootKernel.{RootKernel}
use Rattle.sb_root.proofs.Uses.{used_part, set_view}
use Rattle.sb_trace.specs.State.{State, no_thread}
use Rattle.sb_trace.proofs.ThreadFacts.{thread_sound}
use Rattle.sb_shows.specs.Dump.{AreCoreWords, dump_text}
use Rattle.sb_shows.specs.Related.{cr3_of}
use Rattle.sb_shows.specs.Shows.{present_index}
use Rattle.sb_machine.specs.Dump.{DumpShows, machine_dump}
use Rattle.sb_machine.specs.Machine.{Machine, words_of}
use Rattle.sb_machine.specs.StandsFor.{IsMachineOf}
use Rattle.sb_machine.proofs.Seeing as seen
use Rattle.sb_machine.proofs.Shown.{machines_show}

-- an EPT pointer that a root kernel keeps is a word
pointer_small : (root : RootKernel) (memory : Physical) (thread index : ℕ) → Stands root memory → IsSet root thread index
    → list_entry root thread index < 2 ^ 64
pointer_small root memory thread index stands set =
    let view = set_view root thread index set in
    let inside = (stands.inside (PartOf thread index 0) view.0.tables.root.0
    (used_part root thread index 0 view.0 view.1 (omega arith))).1 in
    let most = stands.whole.most in
    let same = view.2 in
    omega (arith, inside, most, same)

-- so is the root of the page tables of a thread's home
cr3_small : (machine : Machine) (state : State) → IsMachineOf machine state → (number : ℕ) → number < length state.threads
    → cr3_of state number < 2 ^ 64
cr3_small machine state is number there =
    let sound = thread_sound state number (get_or state.threads number no_thread) is.sound.threads
    (slice_get-get_or state.threads number no_thread there) in
    let home = sound.home in
    let most = is.sound.process_count in
    omega (arith, home, most)

-- the words of the cores are words of the processor
words_small : (machine : Machine) (state : State) → IsMachineOf machine state → frame_count machine.memory < 2 ^ 32
    → (number : ℕ) → number < length state.threads → AreCoreWords (words_of machine number)
words_small machine state is few number inside =
    let there : number < length machine.cores = rw is.count inside in
    let list = seen.list_inside machine state is number there in
    let pointer = pointer_small machine.root machine.memory number (present_index state number)
    (seen.root_stands machine state is number there)
    (seen.set_view machine state is number there (present_index state number) (is.words.present number inside)) in
    let eptp = seen.eptp_is machine state is number there in
    let cr3 = cr3_small machine state is number inside in
    record {
      list = omega (arith, list, few);
      cr3 = subst (λ word. word < 2 ^ 64) (sym (is.words.cr3 number inside)) cr3;
      eptp = subst (λ word. word < 2 ^ 64) (sym eptp) pointer;
    }

pub dump_shows : (machine : Machine) → IsPhysical machine.memory → HasAllFrames machine.memory → DumpShows machine
dump_shows machine physical all state is = record {
  memory = machine.memory;
  cores = words_of machine;
  is = record {
    physical = physical;
    whole = all;
    count = refl;
    words = words_small machine state is physical.size.count;
    is = is_dump machine (length state.threads) is.count;
  };
  shows = machines_show machine state is;
}
  where
    is_dump : (machine : Machine) (count : ℕ) → length machine.cores ≡ count
        → machine_dump machine ≡ dump_text machine.memory (words_of machine) count (frame_count machine.memory)
    is_dump machine count same =
        ap (λ count. dump_text machine.memory (words_of machine) count (frame_count machine.memory)) same
