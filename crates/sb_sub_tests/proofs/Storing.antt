-- A Subkernel stands for some state after a store by a thread in one of its views.
use Rattle.std.proofs.Common.{◌≡◌, ◌∙◌, sym, ap, subst, ℕ, ◌+◌, ◌*◌, ◌/◌, ◌%◌, ◌<◌, ◌≤◌, Bool, true, false, List, [], ◌∷◌, length, map, refl, Result, Ok, Err}
use Rattle.std.proofs.Math.Path.{fun_ext}
use Rattle.std.specs.Prelude.{Some, if◌then◌else◌, slice_get, slice_set, unwrap_or}
use Rattle.sb_abi.specs.declared.layout.TheConstants.{FIRST_ROOT}
use Rattle.sb_memory.specs.Physical.{Physical, frame_count}
use Rattle.sb_memory.specs.Reading.{byte_written}
use Rattle.sb_memory.specs.Words.{word_at}
use Rattle.sb_memory.specs.declared.address.Access.TheVariants.{Write}
use Rattle.sb_memory.specs.declared.address.Frame.{Frame}
use Rattle.sb_memory.specs.declared.address.PhysAddr.{PhysAddr}
use Rattle.sb_memory.specs.declared.page.TheConstants.{PAGE_SIZE}
use Rattle.sb_bus.specs.declared.stop.BusStop.{BusStop}
use Rattle.sb_bus.specs.Access.{bytes_from, byte_for, store_answer, where_stored}
use Rattle.sb_frames.specs.Book.{Book}
use Rattle.sb_walks.specs.Entry.{entry_in}
use Rattle.sb_walks.specs.declared.stop.NestedStop.{NestedStop}
use Rattle.sb_nested.specs.View.{View, place_of, view, view_byte}
use Rattle.sb_nested.specs.Store.{put_value, put_answer, put_word_at, memory_stored, is_whole, store_place, view_stored}
use Rattle.sb_nested.proofs.Stores.{frames_after, frames_after_word}
use Rattle.sb_root.specs.declared.root_kernel.RootKernel.{RootKernel}
use Rattle.sb_root.specs.Root.{IsSet, eptp_list_frame, list_entry}
use Rattle.sb_root.specs.Standing.{Stands}
use Rattle.sb_state.specs.declared.page.PageName.{PageName}
use Rattle.sb_state.specs.declared.state.Thread.{Thread}
use Rattle.sb_trace.specs.State.{State, Process, contents, process_at, thread_at, no_thread, with_contents}
use Rattle.sb_trace.specs.Windows.{process_shown}
use Rattle.sb_trace.specs.PlainMemory.{ByteToPut, bytes_to_put, plain_byte, plain_stored, put_all, put_byte}
use Rattle.sb_trace.specs.SyscallProtect.{heap_count}
use Rattle.sb_trace.specs.Changes.{page_name}
use Rattle.sb_trace.proofs.Stores.{names_stay}
use Rattle.sb_trace.proofs.TablePages.{one_table}
use Rattle.sb_shows.specs.Related.{Sees}
use Rattle.sb_shows.proofs.Bytes.{bytes_same}
use Rattle.sb_shows.proofs.Storing.{sees_stored}
use Rattle.sb_sub.specs.Kernel.{Kernel, Seat, seat_of, seat_in, shown_in}
use Rattle.sb_sub.specs.StandsFor.{IsServable, StandsFor}
use Rattle.sb_sub.proofs.Moves.{seat_at}

-- ---- a store makes no frame come or go

value_frames : (memory : Physical) (places : List PhysAddr) (value : ℕ)
    → frame_count (put_value memory places value) ≡ frame_count memory
value_frames memory [] value = refl
value_frames memory (place ∷ places) value =
    value_frames (byte_written memory place.0 (value % 256)) places (value / 256) ∙ frames_after memory place.0 (value % 256)

answer_frames : (memory : Physical) (answer : Result (List PhysAddr) BusStop) (value : ℕ)
    → frame_count (put_answer memory answer value) ≡ frame_count memory
answer_frames memory (Ok places) value = value_frames memory places value
answer_frames memory (Err stop) value = refl

word_frames : (memory : Physical) (place : Result PhysAddr NestedStop) (word : ℕ)
    → frame_count (put_word_at memory place word) ≡ frame_count memory
word_frames memory (Ok place) word = frames_after_word memory place.0 word
word_frames memory (Err stop) word = refl

by_test : (test : Bool) (first second : Physical) (count : ℕ) → frame_count first ≡ count → frame_count second ≡ count
    → frame_count (if test then first else second) ≡ count
by_test true first second count one other = one
by_test false first second count one other = other

stored_frames : (core : View) (address size value : ℕ)
    → frame_count (memory_stored core address size value) ≡ frame_count core.physical
unfolding memory_stored
stored_frames core address size value =
    by_test (is_whole address size) _ _ (frame_count core.physical)
    (word_frames core.physical (place_of core Write address) value)
    (answer_frames core.physical (bytes_from (store_place core) address size) value)

-- ---- a store of plain memory changes bytes of pages alone

record IsStored (old new : State) : Type 0 where
  names : map page_name new.pages ≡ map page_name old.pages
  processes : new.processes ≡ old.processes
  threads : new.threads ≡ old.threads
  flights : new.flights ≡ old.flights
  free : new.free ≡ old.free
  keys : new.keys ≡ old.keys

byte_stored : (state : State) (name : PageName) (offset value : ℕ) → IsStored state (put_byte state name offset value)
unfolding put_byte with_contents
byte_stored state name offset value = record {
  names = names_stay state.pages name (slice_set (contents state name) offset value);
  processes = refl;
  threads = refl;
  flights = refl;
  free = refl;
  keys = refl;
}

both_stored : (first second third : State) → IsStored first second → IsStored second third → IsStored first third
both_stored first second third one other = record {
  names = other.names ∙ one.names;
  processes = other.processes ∙ one.processes;
  threads = other.threads ∙ one.threads;
  flights = other.flights ∙ one.flights;
  free = other.free ∙ one.free;
  keys = other.keys ∙ one.keys;
}

all_stored : (state : State) (bytes : List ByteToPut) → IsStored state (put_all state bytes)
all_stored state [] = record {
  names = refl;
  processes = refl;
  threads = refl;
  flights = refl;
  free = refl;
  keys = refl;
}
all_stored state (byte ∷ others) =
    let first = put_byte state byte.name byte.offset byte.value in
    both_stored state first (put_all first others) (byte_stored state byte.name byte.offset byte.value) (all_stored first others)

-- ---- the words of a view

module _ (kernel : Kernel) (root : RootKernel) (book : Book) (memory : Physical)
    (some : (state : State) × StandsFor kernel root book memory state) (thread index : ℕ) (set : IsSet root thread index)
    (list : Frame) (listed : eptp_list_frame root thread ≡ Some list) (small : index < 512) where
  abbrev state : State
  state = some.0

  abbrev core : View
  core = view memory (word_at memory.bytes (entry_in list.0 index)) (PAGE_SIZE * (FIRST_ROOT + shown_in kernel thread 0))

  stands_root : Stands root memory
  stands_root = subst (λ (root : RootKernel). Stands root memory) some.1.rooted some.1.keeps.leads.stands

  entry_is : word_at memory.bytes (entry_in list.0 index) ≡ list_entry root thread index
  entry_is = (stands_root.lists thread list listed).entry index small

  home_is : (seat_in kernel thread).home ≡ (thread_at state thread).home
  home_is = ap (λ (seat : Seat). seat.home)
      (ap (λ (seats : List Seat). unwrap_or (slice_get seats thread) (seat_of no_thread)) (sym some.1.seats)
      ∙ sym (seat_at state thread))

  sees : Sees some.1.placement thread index state core
  sees = record {
    keeps = some.1.keeps;
    shows = some.1.keeps.leads.only thread index
        (subst (λ (root : RootKernel). IsSet root thread index) (sym some.1.rooted) set);
    eptp = entry_is ∙ ap (λ (root : RootKernel). list_entry root thread index) (sym some.1.rooted);
    cr3 = ap (λ (home : ℕ). PAGE_SIZE * (FIRST_ROOT + home)) home_is;
  }

  bytes_are : view_byte core ≡ plain_byte thread index state
  bytes_are = fun_ext (λ address. fun_ext (λ access. bytes_same some.1.placement thread index state core sees address access))

  module _ (address value : ℕ) where
    abbrev next : State
    next = plain_stored thread index state address 8 value

    shapes : IsStored state next
    unfolding plain_stored
    shapes = all_stored state (bytes_to_put state thread index address 8 value)

    servable : IsServable next
    unfolding process_at
    servable = record {
      table = one_table state next shapes.processes (ap length shapes.threads)
          (λ thread view. ap (λ (threads : List Thread). process_shown threads thread view) shapes.threads) shapes.names
          some.1.servable.table;
      heaps = λ process. subst (λ (processes : List Process). heap_count (slice_get processes process) ≤ 512)
          (sym shapes.processes) (some.1.servable.heaps process);
      few = subst (λ (n : ℕ). n ≤ 8) (ap length (sym shapes.threads)) some.1.servable.few;
      places = ap length shapes.flights ∙ (some.1.servable.places ∙ ap length (sym shapes.threads));
    }

    stored : store_answer (byte_for (view_byte core) Write) address 8 ≡ Ok tt
        → StandsFor kernel root book (memory_stored core address 8 value) next
    stored permitted = record {
      placement = some.1.placement;
      keeps = (sees_stored some.1.placement thread index state core sees address 8 value
          (ap (λ byte. store_answer (byte_for byte Write) address 8) (sym bytes_are) ∙ permitted)).keeps;
      rooted = some.1.rooted;
      sets = some.1.sets;
      processes = some.1.processes ∙ sym shapes.processes;
      seats = ap (map seat_of) shapes.threads ∙ some.1.seats;
      keys = some.1.keys ∙ sym shapes.keys;
      servable = servable;
      booked = record {
        size = some.1.booked.size ∙ sym (stored_frames core address 8 value);
        held = some.1.booked.held;
      };
      unused = some.1.unused;
      count = some.1.count ∙ sym shapes.free;
    }

    stands_stored : (answer : Result (Unit {0}) BusStop) (new : Physical)
        → answer ≡ store_answer (byte_for (view_byte core) Write) address 8
        → new ≡ (where_stored answer (view_stored core address 8 value) core).physical
        → (state : State) × StandsFor kernel root book new state
    stands_stored (Ok done) new is are =
        subst (λ (memory : Physical). (state : State) × StandsFor kernel root book memory state) (sym are) (next, stored (sym is))
    stands_stored (Err stop) new is are =
        subst (λ (memory : Physical). (state : State) × StandsFor kernel root book memory state) (sym are) some

    -- after a store through these words, or after one that is refused, it stands for a state
    pub stands_through : (physical : Physical) (eptp cr3 : ℕ) → physical ≡ memory
        → eptp ≡ word_at memory.bytes (entry_in list.0 index) → cr3 ≡ PAGE_SIZE * (FIRST_ROOT + shown_in kernel thread 0)
        → (answer : Result (Unit {0}) BusStop) (new : View)
        → answer ≡ store_answer (byte_for (view_byte (view physical eptp cr3)) Write) address 8
        → new ≡ where_stored answer (view_stored (view physical eptp cr3) address 8 value) (view physical eptp cr3)
        → (state : State) × StandsFor kernel root book new.physical state
    stands_through physical eptp cr3 same pointer table answer new is are =
        let through : view physical eptp cr3 ≡ core = rw (same, pointer, table) refl in
        stands_stored answer new.physical
        (is ∙ ap (λ (core : View). store_answer (byte_for (view_byte core) Write) address 8) through)
        (ap (λ (core : View). core.physical) are
        ∙ ap (λ (core : View). (where_stored answer (view_stored core address 8 value) core).physical) through)
