-- A machine at the start stands for the start of the plain machine, and has made a run of no line.
use Rattle.std.proofs.Common.{◌≡◌, ◌≢◌, ◌∙◌, sym, ap, subst, ℕ, zero, suc, ◌+◌, ◌*◌, ◌<◌, ◌≤◌, List, [], ◌∷◌, length, map, false, refl, arith, inl, inr, lit<, replicate}
use Rattle.std.specs.Prelude.{Option, Some, None, slice_get, unwrap_or}
use Rattle.std.specs.Option.{option_map}
use Rattle.std.proofs.lemmas.Option.{slice_get-map, slice_get_past, slice_get_within}
use Rattle.std.proofs.lemmas.Bool.{cases_lt}
use Rattle.sb_memory.specs.Physical.{Physical, IsWordPlace, frame_count}
use Rattle.sb_memory.specs.Words.{word_at}
use Rattle.sb_memory.specs.declared.address.Frame.{Frame}
use Rattle.sb_bundle.specs.declared.bundle.CoreStart.{CoreStart}
use Rattle.sb_walks.specs.Entry.{entry_in}
use Rattle.sb_frames.specs.Book.{Book}
use Rattle.sb_root.specs.declared.root_kernel.RootKernel.{RootKernel}
use Rattle.sb_root.specs.Root.{ListOf, eptp_list_frame, list_entry}
use Rattle.sb_root.specs.Standing.{Stands}
use Rattle.sb_root.proofs.Uses.{used_list}
use Rattle.sb_state.specs.Start.{ThreadEntry, start_thread, start_threads}
use Rattle.sb_state.specs.declared.state.Flight.{Flight}
use Rattle.sb_state.specs.declared.state.Thread.{Thread}
use Rattle.sb_trace.specs.State.{State, thread_at, flight_at, no_thread}
use Rattle.sb_trace.specs.Sound.{IsSound}
use Rattle.sb_load.specs.Loading.{Load}
use Rattle.sb_load.specs.FirstState.{entry_of, first_state}
use Rattle.sb_load.proofs.FirstState.{first_threads}
use Rattle.sb_landing.specs.Related.{Begun, IsBeside}
use Rattle.sb_shows.specs.Related.{HasCores}
use Rattle.sb_shows.specs.Shows.{index_of, present_index}
use Rattle.sb_sub.specs.Kernel.{Kernel}
use Rattle.sb_sub.specs.StandsFor.{StandsFor}
use Rattle.sb_machine.specs.declared.processor.Core.{Core}
use Rattle.sb_machine.specs.Counts.{made_by}
use Rattle.sb_machine.specs.Machine.{Machine, no_core, core_at, regs_of, words_of}
use Rattle.sb_machine.specs.Ran.{HasRun}
use Rattle.sb_machine.specs.Start.{list_of, first_core, first_cores}
use Rattle.sb_machine.specs.StandsFor.{IsCoreOf, IsMachineOf}
use Rattle.sb_machine.proofs.Present.{present_there, home_shown}

-- ---- a list that is there

list_by : (found : Option Frame) → found ≢ None → found ≡ Some (unwrap_or found (record { 0 = 0 }))
list_by None some = absurd (some refl)
list_by (Some frame) some = refl

pub list_there : (root : RootKernel) (thread : ℕ) → eptp_list_frame root thread ≢ None
    → eptp_list_frame root thread ≡ Some (list_of root thread)
list_there root thread some = list_by (eptp_list_frame root thread) some

-- the frame that is found is that of the definition
pub list_is : (root : RootKernel) (thread : ℕ) (list : Frame) → eptp_list_frame root thread ≡ Some list
    → list ≡ list_of root thread
list_is root thread list is = sym (ap (λ found. unwrap_or found (record { 0 = 0 })) is)

-- the first entry of a list is a word of memory
pub list_word : (root : RootKernel) (memory : Physical) (thread : ℕ) (list : Frame) → Stands root memory
    → eptp_list_frame root thread ≡ Some list → IsWordPlace memory (entry_in list.0 0)
list_word root memory thread list stands is =
    let inside = (stands.inside (ListOf thread) list.0 (used_list root thread list is)).1 in
    record { inside = omega (arith, inside); aligned = omega arith }

-- ---- threads and cores by number

thread_found : (first : ℕ) (entries : List ThreadEntry) (n : ℕ) (entry : ThreadEntry) → slice_get entries n ≡ Some entry
    → slice_get (start_threads first entries) n ≡ Some (start_thread (first + n) entry)
thread_found first [] n entry is = absurd cc
thread_found first (one ∷ entries) zero entry is =
    ap (λ (found : Option ThreadEntry). option_map (start_thread first) found) is
    ∙ ap (λ (number : ℕ). Some (start_thread number entry)) (omega arith)
thread_found first (one ∷ entries) (suc n) entry is =
    thread_found (first + 1) entries n entry is
    ∙ ap (λ (number : ℕ). Some (start_thread number entry)) (omega arith)

core_found : (memory : Physical) (root : RootKernel) (first : ℕ) (starts : List CoreStart) (n : ℕ) (start : CoreStart)
    → slice_get starts n ≡ Some start
    → slice_get (first_cores memory root first starts) n ≡ Some (first_core memory root (first + n) start)
core_found memory root first [] n start is = absurd cc
core_found memory root first (one ∷ starts) zero start is =
    ap (λ (found : Option CoreStart). option_map (first_core memory root first) found) is
    ∙ ap (λ (number : ℕ). Some (first_core memory root number start)) (omega arith)
core_found memory root first (one ∷ starts) (suc n) start is =
    core_found memory root (first + 1) starts n start is
    ∙ ap (λ (number : ℕ). Some (first_core memory root number start)) (omega arith)

pub count_cores : (memory : Physical) (root : RootKernel) (first : ℕ) (starts : List CoreStart)
    → length (first_cores memory root first starts) ≡ length starts
count_cores memory root first [] = refl
count_cores memory root first (start ∷ starts) = ap suc (count_cores memory root (first + 1) starts)

found_below : {A : Type 0} (list : List A) (n : ℕ) → n < length list → (one : A) × (slice_get list n ≡ Some one)
found_below [] n small = absurd (omega (arith, small))
found_below (first ∷ list) zero small = (first, refl)
found_below (first ∷ list) (suc n) small = found_below list n (omega arith)

none_of : (count n : ℕ) → unwrap_or (slice_get (replicate {A = Option Flight} count None) n) None ≡ None
none_of zero n = refl
none_of (suc count) zero = refl
none_of (suc count) (suc n) = none_of count n

module _ (load : Load) (kernel : Kernel) (root : RootKernel) (book : Book) (memory : Physical)
    (stands : StandsFor kernel root book memory (first_state load)) (sound : IsSound (first_state load)) where
  abbrev state : State
  state = first_state load

  abbrev machine : Machine
  machine = record {
    memory = memory;
    book = book;
    root = root;
    kernel = kernel;
    cores = first_cores memory root 0 load.bundle.cores;
  }

  root_stands : Stands root memory
  root_stands = subst (λ (one : RootKernel). Stands one memory) stands.rooted stands.keeps.leads.stands

  -- ---- of one thread

  grounded : (n : ℕ) → flight_at state n ≡ None
  unfolding flight_at
  grounded n = none_of (length (map entry_of load.bundle.cores)) n

  module _ (n : ℕ) (start : CoreStart) (found : slice_get load.bundle.cores n ≡ Some start) where
    thread_is : thread_at state n ≡ start_thread n (entry_of start)
    unfolding thread_at
    thread_is =
        let number : 0 + n ≡ n = omega arith in
        ap (λ found. unwrap_or found no_thread)
        (thread_found 0 (map entry_of load.bundle.cores) n (entry_of start)
        (slice_get-map entry_of load.bundle.cores n ∙ ap (option_map entry_of) found))
        ∙ ap (λ (one : ℕ). start_thread one (entry_of start)) number

    core_is : core_at machine n ≡ first_core memory root n start
    unfolding core_at
    core_is =
        let number : 0 + n ≡ n = omega arith in
        ap (λ found. unwrap_or found no_core) (core_found memory root 0 load.bundle.cores n start found)
        ∙ ap (λ (one : ℕ). first_core memory root one start) number

    index_is : present_index state n ≡ 0
    index_is =
        ap (λ found. index_of found (thread_at state n).view) (grounded n) ∙ ap (λ (one : Thread). one.view) thread_is

    small : n < length state.threads
    small =
        let inside = slice_get_within load.bundle.cores n start found in
        rw (first_threads load) inside

    -- the thread has a list in which its home view is
    listed : eptp_list_frame root n ≡ Some (list_of root n)
    listed =
        let view = stands.keeps.leads.views n 0 (home_shown state n small).0 (home_shown state n small).1 in
        let some = stands.keeps.leads.stands.listed n 0 view.kept view.is in
        list_there root n (subst (λ (one : RootKernel). eptp_list_frame one n ≢ None) stands.rooted some)

    entry_is : word_at memory.bytes (entry_in (list_of root n).0 0) ≡ list_entry root n 0
    entry_is = (root_stands.lists n (list_of root n) listed).entry 0 (lit< tt)

    own_core : IsCoreOf (thread_at state n) (flight_at state n) (core_at machine n)
    own_core =
        subst (λ found. IsCoreOf (thread_at state n) found (core_at machine n)) (sym (grounded n))
        (subst (λ thread. IsCoreOf thread None (core_at machine n)) (sym thread_is)
        (subst (λ (core : Core). IsCoreOf (start_thread n (entry_of start)) None core) (sym core_is)
        (record { view = refl; phase = refl; end = refl; origin = refl })))

    own_regs : regs_of machine n ≡ (thread_at state n).regs
    own_regs = ap (λ (core : Core). core.state.regs) core_is ∙ sym (ap (λ (one : Thread). one.regs) thread_is)

    own_made : made_by machine n ≡ 0
    own_made = ap (λ (core : Core). core.state.made) core_is

    own_list : (frame : Frame) × (eptp_list_frame stands.placement.root n ≡ Some frame) × ((words_of machine n).list ≡ frame.0)
    own_list = (
      list_of root n,
      ap (λ (one : RootKernel). eptp_list_frame one n) stands.rooted ∙ listed,
      ap (λ (core : Core). core.state.list.0) core_is,
    )

    own_cr3 : (words_of machine n).cr3 ≡ 4096 * (16 + (thread_at state n).home)
    own_cr3 =
        ap (λ (core : Core). core.state.cr3) core_is ∙ sym (ap (λ (one : Thread). 4096 * (16 + one.home)) thread_is)

    own_eptp : (words_of machine n).eptp ≡ list_entry stands.placement.root n (present_index state n)
    own_eptp =
        ap (λ (core : Core). core.state.eptp) core_is
        ∙ (entry_is
        ∙ (sym (ap (λ (one : RootKernel). list_entry one n 0) stands.rooted)
        ∙ ap (list_entry stands.placement.root n) (sym index_is)))

  -- ---- where there is none

  module _ (n : ℕ) (past : length load.bundle.cores ≤ n) where
    no_thread_is : thread_at state n ≡ no_thread
    unfolding thread_at
    no_thread_is =
        ap (λ found. unwrap_or found no_thread)
        (slice_get_past state.threads n (let count = first_threads load in omega (arith, count, past)))

    no_core_is : core_at machine n ≡ no_core
    unfolding core_at
    no_core_is =
        ap (λ found. unwrap_or found no_core)
        (slice_get_past machine.cores n
        (let count = count_cores memory root 0 load.bundle.cores in omega (arith, count, past)))

    none_core : IsCoreOf (thread_at state n) (flight_at state n) (core_at machine n)
    unfolding no_core no_thread
    none_core =
        subst (λ found. IsCoreOf (thread_at state n) found (core_at machine n)) (sym (grounded n))
        (subst (λ thread. IsCoreOf thread None (core_at machine n)) (sym no_thread_is)
        (subst (λ (core : Core). IsCoreOf no_thread None core) (sym no_core_is)
        (record { view = refl; phase = refl; end = refl; origin = refl })))

    none_regs : regs_of machine n ≡ (thread_at state n).regs
    unfolding no_core
    none_regs = ap (λ (core : Core). core.state.regs) no_core_is ∙ sym (ap (λ (one : Thread). one.regs) no_thread_is)

    none_made : made_by machine n ≡ 0
    unfolding no_core
    none_made = ap (λ (core : Core). core.state.made) no_core_is

  -- ---- of all

  some_start : (n : ℕ) → n < length load.bundle.cores → (start : CoreStart) × (slice_get load.bundle.cores n ≡ Some start)
  some_start n small = found_below load.bundle.cores n small

  -- each thread has a list
  pub has_lists : (n : ℕ) → n < length load.bundle.cores → eptp_list_frame root n ≢ None
  has_lists n small none = let start = some_start n small in let is = listed n start.0 start.1 in cc

  each_core : (n : ℕ) → IsCoreOf (thread_at state n) (flight_at state n) (core_at machine n)
  each_core n = elim (cases_lt n (length load.bundle.cores)) [
    | inl small ↦ let start = some_start n small in own_core n start.0 start.1
    | inr past ↦ none_core n past
  ]

  each_regs : (n : ℕ) → regs_of machine n ≡ (thread_at state n).regs
  each_regs n = elim (cases_lt n (length load.bundle.cores)) [
    | inl small ↦ let start = some_start n small in own_regs n start.0 start.1
    | inr past ↦ none_regs n past
  ]

  each_made : (n : ℕ) → made_by machine n ≡ 0
  each_made n = elim (cases_lt n (length load.bundle.cores)) [
    | inl small ↦ let start = some_start n small in own_made n start.0 start.1
    | inr past ↦ none_made n past
  ]

  below : (n : ℕ) → n < length state.threads → n < length load.bundle.cores
  below n small = subst (λ count. n < count) (first_threads load) small

  words : HasCores stands.placement state (words_of machine)
  words = record {
    list = λ n small. let start = some_start n (below n small) in own_list n start.0 start.1;
    cr3 = λ n small. let start = some_start n (below n small) in own_cr3 n start.0 start.1;
    eptp = λ n small. let start = some_start n (below n small) in own_eptp n start.0 start.1;
    present = λ n small. present_there state n sound small;
  }

  begun : ℕ → Begun
  begun n = record { start = (thread_at state n).regs; failed = false }

  first_machine : IsMachineOf machine state
  first_machine = record {
    stands = stands;
    sound = sound;
    count = count_cores memory root 0 load.bundle.cores ∙ sym (first_threads load);
    words = words;
    begun = begun;
    beside = λ n. subst (λ found. IsBeside state n found (begun n) (regs_of machine n)) (sym (grounded n)) (each_regs n);
    cores = each_core;
  }

  -- with the bundle's frames, it has made the run of no entry
  pub first_run : frame_count memory ≡ load.bundle.frames → HasRun machine load [] [] state
  first_run frames = record { runs = refl; stands = first_machine; made = each_made; frames = frames }
