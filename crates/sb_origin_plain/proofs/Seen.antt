-- What two machines see at a page, where the one is beside the other.
use Rattle.std.proofs.Common.{◌≡◌, ◌≢◌, ◌∙◌, ◌⊎◌, sym, ap, subst, inl, inr, ℕ, ◌-◌, ◌/◌, ◌%◌, ◌==◌, ◌&&◌, Bool, true, false, refl, Result, Ok, Err}
use Rattle.std.specs.Prelude.{slice_index, Option, Some, None, is_some, nat_le, nat_lt, if◌then◌else◌, List}
use Rattle.std.specs.Option.{option_map, option_and_then}
use Rattle.sb_memory.specs.declared.address.Access.{Access}
use Rattle.sb_memory.specs.declared.address.Access.TheVariants as access
use Rattle.sb_memory.specs.Outcome.{done}
use Rattle.sb_bus.specs.declared.stop.BusStop.{BusStop}
use Rattle.sb_bus.specs.declared.stop.FaultKind.TheVariants.{Memory}
use Rattle.sb_pages.specs.declared.page.PageName.{PageName}
use Rattle.sb_pages.specs.declared.page.PageName.TheVariants.{Pool, Save, Stack, Buffer, Scratch, HomeTrampoline, ServerTrampoline}
use Rattle.sb_pages.specs.declared.page.Page.{Page}
use Rattle.sb_pages.specs.declared.page.SeenPage.{SeenPage}
use Rattle.sb_pages.specs.declared.page.Mode.{Mode}
use Rattle.sb_pages.specs.declared.page.Mode.TheVariants as mode
use Rattle.sb_pages.specs.PageName.{mode_of, permits}
use Rattle.sb_state.specs.declared.state.Thread.{Thread}
use Rattle.sb_state.specs.State.{State, find_page, contents, bytes_of}
use Rattle.sb_state.specs.Windows.{name_if, is_within, is_in_buffers, stack_name, buffer_name, special_name, name_at, process_shown, page_by_name, page_and_mode, page_for}
use Rattle.sb_state.specs.PlainMemory.{plain_byte, byte_seen, byte_in, is_canonical, fault_at}
use Rattle.sb_exec.specs.Simulation.{IsData}
use Rattle.sb_state.proofs.Names.{number}
use Rattle.sb_origin_plain.specs.Memory.{is_shared, AreBesideScratch}

-- ---- names

-- no page of this name is loaded or stored
abbrev IsCode : PageName → Type 0
IsCode name = (executable : Bool) → mode_of name executable ≡ mode.Fetch

-- the name at a page: a page that both share, one of code, or the scratch page
abbrev Names : ℕ → Option PageName → Type 0
Names page None = Unit {0}
Names page (Some name) =
    (is_shared name ≡ true) ⊎ IsCode name ⊎ ((page ≡ 0x70004) × ((thread : ℕ) × (view : ℕ) × (name ≡ Scratch thread view)))

shared_if : (page : ℕ) (test : Bool) (name : PageName) → is_shared name ≡ true → Names page (name_if test name)
shared_if page true name shared = inl shared
shared_if page false name shared = tt

names_test : (page : ℕ) (test : Bool) (one other : Option PageName) → (test ≡ true → Names page one) → Names page other
    → Names page (if test then one else other)
names_test page true one other first second = first refl
names_test page false one other first second = second

trampoline_code : (test : Bool) → IsCode (if test then HomeTrampoline else ServerTrampoline)
unfolding mode_of
trampoline_code true executable = refl
trampoline_code false executable = refl

specials : (thread view page process : ℕ) → Names page (special_name thread view process page)
unfolding is_shared
specials thread view page process =
    names_test page (page == 0x70000) _ _ (λ is. inr (inl (trampoline_code (view == 0))))
    (names_test page (page == 0x70002) _ _ (λ is. inl refl)
    (names_test page (page == 0x70004) _ _ (λ is. inr (inr (number page 0x70004 is, (thread, view, refl))))
    (shared_if page (page == 0x70006) (Pool process) refl)))

stacks : (threads : List Thread) (page process other : ℕ) → Names page (stack_name threads process other)
unfolding is_shared
stacks threads page process other =
    names_test page (other % 8 == 0) _ _ (λ is. shared_if page _ (Save (other / 8)) refl)
    (shared_if page _ (Stack (other / 8) (other % 8 - 4)) refl)

buffers : (threads : List Thread) (page process other : ℕ) → Names page (buffer_name threads process other)
unfolding is_shared
buffers threads page process other = shared_if page _ (Buffer (other / 64) (other / 4 % 16) (other % 4)) refl

all_names : (threads : List Thread) (thread view page process : ℕ) → Names page (name_at threads thread view page process)
unfolding name_at mode_of is_shared
all_names threads thread view page process =
    names_test page (nat_le 1 page && nat_lt page 17) _ _ (λ is. inr (inl (λ executable. refl)))
    (names_test page (is_within 0x400 page) _ _ (λ is. inr (inl (λ executable. refl)))
    (names_test page (is_within 0x800 page) _ _ (λ is. inl refl)
    (names_test page (is_within 0xC00 page) _ _ (λ is. inl refl)
    (names_test page (is_in_buffers page) _ _ (λ is. buffers threads page process (page - 0x2000))
    (names_test page (is_within 0x3000 page) _ _ (λ is. stacks threads page process (page - 0x3000))
    (names_test page (is_within 0x4000 page) _ _ (λ is. inl refl) (specials thread view page process)))))))

-- ---- the same names

-- threads whose views show the same processes
abbrev ShowAlike : List Thread → List Thread → Type 0
ShowAlike threads others = (thread view : ℕ) → process_shown others thread view ≡ process_shown threads thread view

stack_same : (threads others : List Thread) (process page : ℕ) → ShowAlike threads others
    → stack_name others process page ≡ stack_name threads process page
stack_same threads others process page same = rw (same (page / 8) 0) refl

buffer_same : (threads others : List Thread) (process page : ℕ) → ShowAlike threads others
    → buffer_name others process page ≡ buffer_name threads process page
buffer_same threads others process page same = rw (same (page / 64) 0, same (page / 64) (page / 4 % 16)) refl

pub name_same : (threads others : List Thread) (thread view page process : ℕ) → ShowAlike threads others
    → name_at others thread view page process ≡ name_at threads thread view page process
unfolding name_at
name_same threads others thread view page process same =
    rw (buffer_same threads others process (page - 0x2000) same, stack_same threads others process (page - 0x3000) same) refl

-- ---- what is seen

-- nothing that is seen here is loaded or stored
abbrev IsNoData : Option SeenPage → Type 0
IsNoData None = Unit {0}
IsNoData (Some page) = page.mode ≡ mode.Fetch

-- a shared page, which is the same in both, the scratch page, or no data
abbrev SeenAlike : State → State → ℕ → Option SeenPage → Option SeenPage → Type 0
SeenAlike state other page found found' =
    ((one : SeenPage) × (found ≡ Some one) × (found' ≡ Some one) × (is_shared one.name ≡ true)
    × (find_page other.pages one.name ≡ find_page state.pages one.name))
    ⊎ ((page ≡ 0x70004) × (found' ≡ found)) ⊎ (IsNoData found × IsNoData found')

shared_seen : (state other : State) (page : ℕ) (name : PageName) (found : Option Page) → is_shared name ≡ true
    → find_page other.pages name ≡ find_page state.pages name → find_page state.pages name ≡ found
    → SeenAlike state other page (option_map (page_and_mode name) found) (option_map (page_and_mode name) found)
shared_seen state other page name None shared same is = inr (inr (tt, tt))
shared_seen state other page name (Some one) shared same is = inl (page_and_mode name one, refl, refl, shared, same)

code_seen : (name : PageName) (found : Option Page) → IsCode name → IsNoData (option_map (page_and_mode name) found)
code_seen name None code = tt
code_seen name (Some page) code = code page.executable

scratch_seen : (thread view : ℕ) (found found' : Option Page) → is_some found' ≡ is_some found
    → option_map (page_and_mode (Scratch thread view)) found' ≡ option_map (page_and_mode (Scratch thread view)) found
unfolding mode_of
scratch_seen thread view None None same = refl
scratch_seen thread view None (Some page') same = absurd cc
scratch_seen thread view (Some page) None same = absurd cc
scratch_seen thread view (Some page) (Some page') same = refl

named_seen : (state other : State) (page : ℕ) (name : Option PageName) → AreBesideScratch state other → Names page name
    → SeenAlike state other page (option_and_then (page_by_name state.pages) name)
    (option_and_then (page_by_name other.pages) name)
named_seen state other page None beside names = inr (inr (tt, tt))
named_seen state other page (Some name) beside (inl shared) =
    subst (λ (found : Option Page). SeenAlike state other page (option_map (page_and_mode name) (find_page state.pages name))
    (option_map (page_and_mode name) found)) (sym (beside.pages name shared))
    (shared_seen state other page name (find_page state.pages name) shared (beside.pages name shared) refl)
named_seen state other page (Some name) beside (inr (inl code)) =
    inr (inr (code_seen name (find_page state.pages name) code, code_seen name (find_page other.pages name) code))
named_seen state other page (Some name) beside (inr (inr (at, (thread, view, is)))) =
    inr (inl (
      at,
      subst (λ (n : PageName). option_map (page_and_mode n) (find_page other.pages n)
          ≡ option_map (page_and_mode n) (find_page state.pages n)) (sym is)
          (scratch_seen thread view (find_page state.pages (Scratch thread view)) (find_page other.pages (Scratch thread view))
          (beside.scratch thread view)),
    ))

shown_names : (state : State) (thread view page : ℕ) (process : Option ℕ)
    → Names page (option_and_then (name_at state.threads thread view page) process)
shown_names state thread view page None = tt
shown_names state thread view page (Some process) = all_names state.threads thread view page process

shown_same : (state other : State) (thread view page : ℕ) (process : Option ℕ) → AreBesideScratch state other
    → option_and_then (name_at other.threads thread view page) process
    ≡ option_and_then (name_at state.threads thread view page) process
shown_same state other thread view page None beside = refl
shown_same state other thread view page (Some process) beside =
    name_same state.threads other.threads thread view page process beside.shown

-- at each page both see the same, but for code
pub seen_alike : (state other : State) (thread view page : ℕ) → AreBesideScratch state other
    → SeenAlike state other page (page_for state thread view page) (page_for other thread view page)
unfolding page_for
seen_alike state other thread view page beside =
    let process = process_shown state.threads thread view in
    let name = option_and_then (name_at state.threads thread view page) process in
    let same : option_and_then (name_at other.threads thread view page) (process_shown other.threads thread view) ≡ name =
    ap (λ found. option_and_then (name_at other.threads thread view page) found) (beside.shown thread view)
    ∙ shown_same state other thread view page process beside in
    subst (λ (found : Option PageName). SeenAlike state other page (option_and_then (page_by_name state.pages) name)
    (option_and_then (page_by_name other.pages) found)) (sym same)
    (named_seen state other page name beside (shown_names state thread view page process))

-- ---- bytes

no_data : (state : State) (found : Option SeenPage) (address : ℕ) (how : Access) → IsData how → IsNoData found
    → byte_seen state found address how ≡ Err (fault_at Memory address)
no_data state None address how is_data none = refl
no_data state (Some page) address access.Fetch is_data none = absurd is_data
no_data state (Some page) address access.Read is_data none =
    ap (λ (m : Mode). if permits m access.Read then Ok (byte_in state page.name (address % 4096)) else Err (fault_at Memory
    address))
    none
no_data state (Some page) address access.Write is_data none =
    ap (λ (m : Mode). if permits m access.Write then Ok (byte_in state page.name (address % 4096)) else Err (fault_at Memory
    address))
    none

pub same_in : (state other : State) (name : PageName) (offset : ℕ) → find_page other.pages name ≡ find_page state.pages name
    → byte_in other name offset ≡ byte_in state name offset
unfolding contents
same_in state other name offset same = ap (λ found. slice_index (bytes_of found) offset) same

shared_byte : (state other : State) (one : SeenPage) (address : ℕ) (how : Access)
    → find_page other.pages one.name ≡ find_page state.pages one.name
    → byte_seen other (Some one) address how ≡ byte_seen state (Some one) address how
shared_byte state other one address how same =
    ap (λ (byte : ℕ). if permits one.mode how then Ok byte else Err (fault_at Memory address))
    (same_in state other one.name (address % 4096) same)

by_canonical : (test : Bool) (one other stop : Result ℕ BusStop) → one ≡ other
    → (if test then one else stop) ≡ (if test then other else stop)
by_canonical true one other stop same = same
by_canonical false one other stop same = refl

seen_byte : (state other : State) (page : ℕ) (found found' : Option SeenPage) (address : ℕ) (how : Access) → IsData how
    → page ≢ 0x70004 → SeenAlike state other page found found'
    → byte_seen other found' address how ≡ byte_seen state found address how
seen_byte state other page found found' address how is_data apart (inl (one, is, is', shared, same)) =
    ap (λ f. byte_seen other f address how) is'
    ∙ (shared_byte state other one address how same ∙ ap (λ f. byte_seen state f address how) (sym is))
seen_byte state other page found found' address how is_data apart (inr (inl (at, same))) = absurd (apart at)
seen_byte state other page found found' address how is_data apart (inr (inr none)) =
    no_data other found' address how is_data none.1 ∙ sym (no_data state found address how is_data none.0)

-- outside the scratch page both give the same byte for an access to data
pub byte_alike : (state other : State) (thread view address : ℕ) (how : Access) → AreBesideScratch state other → IsData how
    → address / 4096 ≢ 0x70004 → plain_byte thread view other address how ≡ plain_byte thread view state address how
unfolding plain_byte
byte_alike state other thread view address how beside is_data apart =
    by_canonical (is_canonical address) _ _ _
    (seen_byte state other (address / 4096) (page_for state thread view (address / 4096))
    (page_for other thread view (address / 4096)) address how is_data apart
    (seen_alike state other thread view (address / 4096) beside))

done_by : (test : Bool) (one other stop : Result ℕ BusStop) → done one ≡ done other
    → done (if test then one else stop) ≡ done (if test then other else stop)
done_by true one other stop same = same
done_by false one other stop same = refl

permitted_done : (test : Bool) (one other : ℕ) (stop : BusStop)
    → done (if test then Ok one else Err stop) ≡ done (if test then Ok other else Err stop)
permitted_done true one other stop = refl
permitted_done false one other stop = refl

same_page_done : (state other : State) (found : Option SeenPage) (address : ℕ) (how : Access)
    → done (byte_seen other found address how) ≡ done (byte_seen state found address how)
same_page_done state other None address how = refl
same_page_done state other (Some page) address how =
    permitted_done (permits page.mode how) (byte_in other page.name (address % 4096)) (byte_in state page.name (address % 4096)) _

seen_done : (state other : State) (page : ℕ) (found found' : Option SeenPage) (address : ℕ) (how : Access) → IsData how
    → SeenAlike state other page found found'
    → done (byte_seen other found' address how) ≡ done (byte_seen state found address how)
seen_done state other page found found' address how is_data (inl (one, is, is', shared, same)) =
    ap (λ f. done (byte_seen other f address how)) (is' ∙ sym is) ∙ same_page_done state other found address how
seen_done state other page found found' address how is_data (inr (inl (at, same))) =
    ap (λ f. done (byte_seen other f address how)) same ∙ same_page_done state other found address how
seen_done state other page found found' address how is_data (inr (inr none)) =
    ap (λ r. done r) (no_data other found' address how is_data none.1)
    ∙ ap (λ r. done r) (sym (no_data state found address how is_data none.0))

-- at each address both permit an access to data, or both stop it alike
pub stop_alike : (state other : State) (thread view address : ℕ) (how : Access) → AreBesideScratch state other → IsData how
    → done (plain_byte thread view other address how) ≡ done (plain_byte thread view state address how)
unfolding plain_byte
stop_alike state other thread view address how beside is_data =
    done_by (is_canonical address) _ _ _
    (seen_done state other (address / 4096) (page_for state thread view (address / 4096))
    (page_for other thread view (address / 4096)) address how is_data
    (seen_alike state other thread view (address / 4096) beside))

-- ---- what may be written

done_ok : (test : Bool) (byte : ℕ) (stop : BusStop) → done (if test then Ok byte else Err stop) ≡ Ok tt → test ≡ true
done_ok true byte stop is = refl
done_ok false byte stop is = absurd cc

-- a page that both share
abbrev pub BothSee : State → State → Option SeenPage → Option SeenPage → Type 0
BothSee state other found found' =
    (one : SeenPage) × (found ≡ Some one) × (found' ≡ Some one) × (is_shared one.name ≡ true)
    × (find_page other.pages one.name ≡ find_page state.pages one.name)

none_written : (state : State) (found : Option SeenPage) (address : ℕ) → IsNoData found
    → done (byte_seen state found address access.Write) ≡ Ok tt → ⊥
none_written state found address none is =
    let stopped : done (byte_seen state found address access.Write) ≡ Err (fault_at Memory address) =
    ap (λ r. done r) (no_data state found address access.Write tt none) in cc

written_seen : (state other : State) (page : ℕ) (found found' : Option SeenPage) (address : ℕ) → page ≢ 0x70004
    → done (byte_seen state found address access.Write) ≡ Ok tt → SeenAlike state other page found found'
    → BothSee state other found found'
written_seen state other page found found' address apart is (inl both) = both
written_seen state other page found found' address apart is (inr (inl (at, same))) = absurd (apart at)
written_seen state other page found found' address apart is (inr (inr none)) =
    absurd (none_written state found address none.0 is)

if_done : (test : Bool) (byte : Result ℕ BusStop) (stop : BusStop) → done (if test then byte else Err stop) ≡ Ok tt
    → done byte ≡ Ok tt
if_done true byte stop is = is
if_done false byte stop is = absurd cc

-- where a byte outside the scratch page may be written, both see one page that they share
pub written_alike : (state other : State) (thread view address : ℕ) → AreBesideScratch state other → address / 4096 ≢ 0x70004
    → done (plain_byte thread view state address access.Write) ≡ Ok tt
    → BothSee state other (page_for state thread view (address / 4096)) (page_for other thread view (address / 4096))
unfolding plain_byte
written_alike state other thread view address beside apart is =
    written_seen state other (address / 4096) (page_for state thread view (address / 4096))
    (page_for other thread view (address / 4096)) address apart (if_done (is_canonical address) _ _ is)
    (seen_alike state other thread view (address / 4096) beside)
