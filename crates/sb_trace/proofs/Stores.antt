-- What an instruction may change: only bytes of pages that its thread may write in its view.
use Rattle.std.proofs.Common.{◌≡◌, ◌≢◌, ◌∙◌, sym, ap, subst, ℕ, zero, suc, ◌+◌, ◌/◌, ◌%◌, ◌^◌, ◌<◌, Bool, true, false, List, [], ◌∷◌, refl, slice_set, arith, Result, Ok, Err}
use Rattle.std.specs.Prelude.{Option, Some, None, map, if◌then◌else◌}
use Rattle.std.specs.List.{AllByRecursion}
use Rattle.std.specs.Option.{option_map, option_and_then}
use Rattle.std.proofs.lemmas.List.{length-set}
use Rattle.sb_memory.specs.declared.address.Access.TheVariants.{Write}
use Rattle.sb_memory.specs.Outcome.{and_then, done}
use Rattle.sb_insn.specs.declared.registers.Regs.{Regs}
use Rattle.sb_bus.specs.declared.stop.BusStop.{BusStop}
use Rattle.sb_bus.specs.declared.stop.FaultKind.TheVariants.{Canon}
use Rattle.sb_exec.specs.Access.{bytes_from, store_answer, byte_for}
use Rattle.sb_exec.specs.Row.{Row}
use Rattle.sb_exec.specs.Execution.{execution_of}
use Rattle.sb_exec.proofs.Simulation.{rows_keep}
use Rattle.sb_state.specs.declared.page.PageName.{PageName}
use Rattle.sb_state.specs.declared.page.Page.{Page}
use Rattle.sb_state.specs.declared.page.SeenPage.{SeenPage}
use Rattle.sb_state.specs.PageName.{same_name, mode_of, permits}
use Rattle.sb_state.specs.State.{State, find_page, with_page_bytes, contents, with_contents, bytes_of}
use Rattle.sb_state.specs.Windows.{page_for, page_by_name, page_and_mode, name_at, process_shown}
use Rattle.sb_state.specs.PlainMemory.{ByteToPut, bytes_to_put, with_byte_to_put, put_byte, put_all, plain_stored, plain, plain_byte, byte_seen, is_canonical, fault_at}
use Rattle.sb_trace.specs.Changes.{IsClosed, Shape, shape_of, page_name, AreBytes}
use Rattle.sb_state.proofs.Names.{name_same, name_other}
use Rattle.sb_state.proofs.PageLists.{with_bytes, found_other, found_same}

-- ---- one byte

put_other : (state : State) (name other : PageName) (offset value : ℕ) → same_name name other ≡ false
    → find_page (put_byte state name offset value).pages other ≡ find_page state.pages other
unfolding put_byte with_contents contents
put_other state name other offset value apart =
    found_other state.pages name other (slice_set (bytes_of (find_page state.pages name)) offset value) apart

shape_by : (found : Option Page) (offset value : ℕ)
    → option_map shape_of (option_map (with_bytes (slice_set (bytes_of found) offset value)) found) ≡ option_map shape_of found
shape_by None offset value = refl
shape_by (Some page) offset value =
    ap (λ (size : ℕ). Some (record { executable = page.executable; size = size })) (length-set page.bytes offset value)

shape_if : (test : Bool) (state : State) (name other : PageName) (offset value : ℕ) → same_name name other ≡ test
    → option_map shape_of (find_page (put_byte state name offset value).pages other)
    ≡ option_map shape_of (find_page state.pages other)
unfolding put_byte with_contents contents
shape_if true state name other offset value is =
    subst (λ (n : PageName). option_map shape_of (find_page (put_byte state name offset value).pages n)
    ≡ option_map shape_of (find_page state.pages n))
    (name_same name other is)
    (ap (option_map shape_of) (found_same state.pages name (slice_set (bytes_of (find_page state.pages name)) offset value))
    ∙ shape_by (find_page state.pages name) offset value)
shape_if false state name other offset value is = ap (option_map shape_of) (put_other state name other offset value is)

-- ---- names

names_by : (test : Bool) (page : Page) (pages pages' : List Page) (bytes : List ℕ)
    → map page_name pages' ≡ map page_name pages
    → map page_name (if test then record page { bytes = bytes } ∷ pages else page ∷ pages') ≡ map page_name (page ∷ pages)
names_by true page pages pages' bytes more = refl
names_by false page pages pages' bytes more = ap (λ (names : List PageName). page.name ∷ names) more

-- pages whose bytes change keep their names, in their order
pub names_stay : (pages : List Page) (name : PageName) (bytes : List ℕ)
    → map page_name (with_page_bytes pages name bytes) ≡ map page_name pages
names_stay [] name bytes = refl
names_stay (page ∷ pages) name bytes =
    names_by (same_name page.name name) page pages (with_page_bytes pages name bytes) bytes (names_stay pages name bytes)

-- ---- bytes stay bytes

set_byte : (bytes : List ℕ) (offset value : ℕ) → value < 256 → AreBytes bytes → AreBytes (slice_set bytes offset value)
set_byte [] offset value below all = tt
set_byte (byte ∷ bytes) zero value below all = (below, all.1)
set_byte (byte ∷ bytes) (suc offset) value below all = (all.0, set_byte bytes offset value below all.1)

bytes_by : (found : Option Page) (offset value : ℕ) → value < 256 → AreBytes (bytes_of found)
    → AreBytes (bytes_of (option_map (with_bytes (slice_set (bytes_of found) offset value)) found))
bytes_by None offset value below all = tt
bytes_by (Some page) offset value below all = set_byte page.bytes offset value below all

bytes_if : (test : Bool) (state : State) (name other : PageName) (offset value : ℕ) → same_name name other ≡ test → value < 256
    → AreBytes (contents state other) → AreBytes (contents (put_byte state name offset value) other)
unfolding put_byte with_contents contents
bytes_if true state name other offset value is below all =
    let same : name ≡ other = name_same name other is in
    subst (λ (n : PageName). AreBytes (bytes_of (find_page (put_byte state name offset value).pages n))) same
    (subst (λ (found : Option Page). AreBytes (bytes_of found))
    (sym (found_same state.pages name (slice_set (bytes_of (find_page state.pages name)) offset value)))
    (bytes_by (find_page state.pages name) offset value below
    (subst (λ (n : PageName). AreBytes (bytes_of (find_page state.pages n))) (sym same) all)))
bytes_if false state name other offset value is below all =
    subst (λ (found : Option Page). AreBytes (bytes_of found)) (sym (put_other state name other offset value is)) all

-- ---- what a store leaves beside bytes

-- pages keep their shapes, and all but pages stays
pub record KeepsShapes (first state : State) : Type 0 where
  pub shapes : (name : PageName)
      → option_map shape_of (find_page state.pages name) ≡ option_map shape_of (find_page first.pages name)
  pub names : map page_name state.pages ≡ map page_name first.pages
  pub bytes : (name : PageName) → AreBytes (contents first name) → AreBytes (contents state name)
  pub processes : state.processes ≡ first.processes
  pub threads : state.threads ≡ first.threads
  pub flights : state.flights ≡ first.flights
  pub free : state.free ≡ first.free
  pub keys : state.keys ≡ first.keys

put_keeps : (state : State) (name : PageName) (offset value : ℕ) → value < 256
    → KeepsShapes state (put_byte state name offset value)
unfolding put_byte with_contents
put_keeps state name offset value below = record {
  shapes = λ other. shape_if (same_name name other) state name other offset value refl;
  names = names_stay state.pages name (slice_set (contents state name) offset value);
  bytes = λ other. bytes_if (same_name name other) state name other offset value refl below;
  processes = refl;
  threads = refl;
  flights = refl;
  free = refl;
  keys = refl;
}

pub keeps_both : (first second third : State) → KeepsShapes first second → KeepsShapes second third → KeepsShapes first third
keeps_both first second third one other = record {
  shapes = λ name. other.shapes name ∙ one.shapes name;
  names = other.names ∙ one.names;
  bytes = λ name all. other.bytes name (one.bytes name all);
  processes = other.processes ∙ one.processes;
  threads = other.threads ∙ one.threads;
  flights = other.flights ∙ one.flights;
  free = other.free ∙ one.free;
  keys = other.keys ∙ one.keys;
}

-- the values that are put are bytes
abbrev PutBytes : List ByteToPut → Type 0
PutBytes bytes = AllByRecursion (λ (byte : ByteToPut). byte.value < 256) bytes

all_keep : (state : State) (bytes : List ByteToPut) → PutBytes bytes → KeepsShapes state (put_all state bytes)
all_keep state [] small = record {
  shapes = λ name. refl;
  names = refl;
  bytes = λ name all. all;
  processes = refl;
  threads = refl;
  flights = refl;
  free = refl;
  keys = refl;
}
all_keep state (byte ∷ others) small =
    keeps_both state (put_byte state byte.name byte.offset byte.value)
    (put_all (put_byte state byte.name byte.offset byte.value) others)
    (put_keeps state byte.name byte.offset byte.value small.0)
    (all_keep (put_byte state byte.name byte.offset byte.value) others small.1)

placed_small : (page : Option SeenPage) (address value : ℕ) (others : List ByteToPut) → value < 256 → PutBytes others
    → PutBytes (with_byte_to_put page address value others)
placed_small None address value others below small = small
placed_small (Some page) address value others below small = (below, small)

all_small : (state : State) (thread view address size value : ℕ)
    → PutBytes (bytes_to_put state thread view address size value)
unfolding bytes_to_put
all_small state thread view address zero value = tt
all_small state thread view address (suc count) value =
    placed_small (page_for state thread view (address / 4096)) address (value % 256)
    (bytes_to_put state thread view ((address + 1) % 2 ^ 64) count (value / 256)) (omega arith)
    (all_small state thread view ((address + 1) % 2 ^ 64) count (value / 256))

store_keeps : (thread view : ℕ) (state : State) (address size value : ℕ)
    → KeepsShapes state (plain_stored thread view state address size value)
unfolding plain_stored
store_keeps thread view state address size value =
    all_keep state (bytes_to_put state thread view address size value) (all_small state thread view address size value)

-- ---- what is seen

seen_by : (name : PageName) (found found' : Option Page) → option_map shape_of found' ≡ option_map shape_of found
    → option_map (page_and_mode name) found' ≡ option_map (page_and_mode name) found
seen_by name None None same = refl
seen_by name (Some page) None same = absurd cc
seen_by name None (Some page') same = absurd cc
seen_by name (Some page) (Some page') same =
    let shapes : shape_of page' ≡ shape_of page = cc in
    let equal : page'.executable ≡ page.executable = ap (λ (shape : Shape). shape.executable) shapes in
    ap (λ (executable : Bool). Some (record { name = name; mode = mode_of name executable })) equal

seen_named : (first state : State) (name : Option PageName) → KeepsShapes first state
    → option_and_then (page_by_name state.pages) name ≡ option_and_then (page_by_name first.pages) name
seen_named first state None keeps = refl
seen_named first state (Some name) keeps =
    seen_by name (find_page first.pages name) (find_page state.pages name) (keeps.shapes name)

pub seen_kept : (first state : State) (thread view page : ℕ) → KeepsShapes first state
    → page_for state thread view page ≡ page_for first thread view page
unfolding page_for
seen_kept first state thread view page keeps =
    rw keeps.threads
    (seen_named first state
    (option_and_then (name_at first.threads thread view page) (process_shown first.threads thread view)) keeps)

-- ---- the pages of a store

abbrev IsDone : {A : Type 0} → Result A BusStop → Type 0
IsDone (Ok value) = Unit {0}
IsDone (Err stop) = ⊥

pub done_first : {A B : Type 0} (answer : Result A BusStop) (next : A → Result B BusStop) → IsDone (and_then answer next)
    → IsDone answer
done_first (Ok value) next given = tt
done_first (Err stop) next given = given

pub done_rest : (byte : Result ℕ BusStop) (rest : Result (List ℕ) BusStop)
    → IsDone (and_then byte (λ lowest. and_then rest (λ others. Ok (lowest ∷ others)))) → IsDone rest
done_rest (Ok lowest) rest given = done_first rest _ given
done_rest (Err stop) rest given = absurd given

pub done_bytes : (bytes : Result (List ℕ) BusStop) → done bytes ≡ Ok tt → IsDone bytes
done_bytes (Ok list) given = tt
done_bytes (Err stop) given = cc

if_done : {A : Type 0} (test : Bool) (byte : ℕ) (stop : BusStop) → (test ≡ true → A)
    → IsDone (if test then Ok byte else Err stop) → A
if_done true byte stop all given = all refl
if_done false byte stop all given = absurd given

-- a page with another name, or none
abbrev IsOther : Option SeenPage → PageName → Type 0
IsOther None name = Unit {0}
IsOther (Some page) name = page.name ≢ name

other_seen : (state : State) (name : PageName) (address : ℕ) (page : Option SeenPage) (canonical : Bool)
    → ((found : SeenPage) → page ≡ Some found → permits found.mode Write ≡ true → found.name ≢ name)
    → IsDone (if canonical then byte_seen state page address Write else Err (fault_at Canon address)) → IsOther page name
other_seen state name address None canonical closed given = tt
other_seen state name address (Some found) true closed given = if_done (permits found.mode Write) _ _ (closed found refl) given
other_seen state name address (Some found) false closed given = absurd given

other_at : (state : State) (thread view address : ℕ) (name : PageName) → IsClosed state thread view name
    → IsDone (plain_byte thread view state address Write) → IsOther (page_for state thread view (address / 4096)) name
unfolding plain_byte
other_at state thread view address name closed given =
    other_seen state name address (page_for state thread view (address / 4096)) (is_canonical address)
    (λ found. closed (address / 4096) found) given

-- bytes that are put into other pages
abbrev AllOther : List ByteToPut → PageName → Type 0
AllOther [] name = Unit {0}
AllOther (byte ∷ bytes) name = (byte.name ≢ name) × AllOther bytes name

other_placed : (page : Option SeenPage) (address value : ℕ) (others : List ByteToPut) (name : PageName) → IsOther page name
    → AllOther others name
    → AllOther (with_byte_to_put page address value others) name
other_placed None address value others name one all = all
other_placed (Some page) address value others name one all = (one, all)

all_other : (state : State) (thread view address size value : ℕ) (name : PageName) → IsClosed state thread view name
    → IsDone (bytes_from (byte_for (plain_byte thread view state) Write) address size)
    → AllOther (bytes_to_put state thread view address size value) name
unfolding bytes_from bytes_to_put
all_other state thread view address zero value name closed given = tt
all_other state thread view address (suc count) value name closed given =
    other_placed (page_for state thread view (address / 4096)) address (value % 256)
    (bytes_to_put state thread view ((address + 1) % 2 ^ 64) count (value / 256)) name
    (other_at state thread view address name closed (done_first (plain_byte thread view state address Write) _ given))
    (all_other state thread view ((address + 1) % 2 ^ 64) count (value / 256) name closed
    (done_rest (plain_byte thread view state address Write) _ given))

others_found : (state : State) (bytes : List ByteToPut) (name : PageName) → AllOther bytes name
    → find_page (put_all state bytes).pages name ≡ find_page state.pages name
others_found state [] name others = refl
others_found state (byte ∷ bytes) name others =
    others_found (put_byte state byte.name byte.offset byte.value) bytes name others.1
    ∙ put_other state byte.name name byte.offset byte.value (name_other byte.name name others.0)

store_closed : (state : State) (thread view address size value : ℕ) (name : PageName) → IsClosed state thread view name
    → store_answer (byte_for (plain_byte thread view state) Write) address size ≡ Ok tt
    → find_page (plain_stored thread view state address size value).pages name ≡ find_page state.pages name
unfolding store_answer plain_stored
store_closed state thread view address size value name closed permitted =
    others_found state (bytes_to_put state thread view address size value) name
    (all_other state thread view address size value name closed (done_bytes _ permitted))

-- ---- an instruction

-- closed pages are as at first
pub record Written (first : State) (thread view : ℕ) (state : State) : Type 0 where
  pub keeps : KeepsShapes first state
  pub closed : (name : PageName) → IsClosed first thread view name → find_page state.pages name ≡ find_page first.pages name

store_written : (first : State) (thread view : ℕ) (state : State) → Written first thread view state → (address size value : ℕ)
    → store_answer (byte_for (plain_byte thread view state) Write) address size ≡ Ok tt
    → Written first thread view (plain_stored thread view state address size value)
store_written first thread view state written address size value permitted = record {
  keeps = keeps_both first state (plain_stored thread view state address size value) written.keeps
      (store_keeps thread view state address size value);
  closed = λ name closed.
      store_closed state thread view address size value name
      (λ page found is. closed page found (sym (seen_kept first state thread view page written.keeps) ∙ is)) permitted
      ∙ written.closed name closed;
}

not_written : (first : State) (thread view : ℕ) → Written first thread view first
not_written first thread view = record { keeps = all_keep first [] tt; closed = λ name closed. refl }

pub execution_written : (thread view : ℕ) (row : Row) (regs : Regs) (state : State)
    → Written state thread view (execution_of (plain thread view) row regs state tt).meaning
execution_written thread view row regs state =
    rows_keep (Written state thread view) (plain thread view) (store_written state thread view) row regs state tt
    (not_written state thread view)
