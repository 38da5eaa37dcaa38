-- Where a byte may be fetched, and where VMFUNC's bytes stand among these.
use Rattle.std.proofs.Common.{◌≡◌, ◌∙◌, sym, ap, subst, ℕ, ◌+◌, ◌-◌, ◌*◌, ◌/◌, ◌%◌, ◌^◌, ◌<◌, ◌≤◌, Bool, true, false, List, ◌==◌, ◌&&◌, get_or, refl, arith, inl, inr, ◌⊎◌, Result, Ok, Err}
use Rattle.std.specs.Prelude.{Option, Some, None, if◌then◌else◌, nat_lt, nat_le}
use Rattle.std.specs.Option.{option_map, option_and_then}
use Rattle.std.proofs.lemmas.Bool.{ltb-true, leb-true, and_parts}
use Rattle.sb_abi.specs.declared.trampoline.TheConstants.{VMFUNC_ADDRESS}
use Rattle.sb_memory.specs.declared.address.Access.TheVariants.{Fetch}
use Rattle.sb_bus.specs.declared.stop.BusStop.{BusStop}
use Rattle.sb_bus.specs.declared.stop.FaultKind.TheVariants.{Canon, Memory}
use Rattle.sb_exec.specs.Fetching.{bytes_from_fetch, Stands, fetch_of}
use Rattle.sb_scan.specs.Pattern.{pattern}
use Rattle.sb_tramp.specs.Home.{home_page}
use Rattle.sb_tramp.specs.Server.{server_page}
use Rattle.sb_tramp.proofs.Switches.{home_switches, server_switches}
use Rattle.sb_state.specs.declared.page.PageName.{PageName}
use Rattle.sb_state.specs.declared.page.PageName.TheVariants.{Text, Area, Heap, Pool, Save, Stack, Buffer, HomeTrampoline, ServerTrampoline}
use Rattle.sb_state.specs.declared.page.Page.{Page}
use Rattle.sb_state.specs.declared.page.SeenPage.{SeenPage}
use Rattle.sb_state.specs.declared.state.Thread.{Thread}
use Rattle.sb_state.specs.PageName.{mode_of, permits}
use Rattle.sb_state.specs.State.{State, find_page, contents, bytes_of}
use Rattle.sb_state.specs.Windows.{name_if, is_within, is_in_buffers, stack_name, buffer_name, special_name, name_at, process_shown, page_by_name, page_and_mode, page_for}
use Rattle.sb_state.specs.PlainMemory.{plain, plain_byte, byte_seen, byte_in, is_canonical, fault_at}
use Rattle.sb_trace.specs.Code.{fetched_byte, code_byte, HasNoCodePattern}
use Rattle.sb_trace.specs.Sound.{HasPage, ArePagesSound}
use Rattle.sb_state.proofs.Cases.{clash, same_found}
use Rattle.sb_state.proofs.Names.{number}

-- ---- the windows of code

-- a byte at an address from a first one to a last one, by its place behind the first
pub record IsInWindow (low high : ℕ) (byte : ℕ → Option ℕ) (address value : ℕ) : Type 0 where
  pub above : low ≤ address
  pub below : address < high
  pub has : byte (address - low) ≡ Some value

-- the trampoline page of a view
abbrev pub trampoline_name : ℕ → PageName
trampoline_name view = if view == 0 then HomeTrampoline else ServerTrampoline

abbrev pub trampoline_bytes : ℕ → List ℕ
trampoline_bytes view = if view == 0 then home_page else server_page

abbrev trampoline_byte : ℕ → ℕ → Option ℕ
trampoline_byte view place = Some (get_or (trampoline_bytes view) place 0)

abbrev InArea : List Page → ℕ → ℕ → ℕ → Type 0
InArea pages process address value = IsInWindow 0x1000 0x11000 (code_byte pages (Area process)) address value

abbrev InText : List Page → ℕ → ℕ → ℕ → Type 0
InText pages process address value = IsInWindow 0x400000 0x600000 (code_byte pages (Text process)) address value

abbrev InHeap : List Page → ℕ → ℕ → ℕ → Type 0
InHeap pages process address value = IsInWindow 0xC00000 0xE00000 (code_byte pages (Heap process)) address value

abbrev InTrampoline : ℕ → ℕ → ℕ → Type 0
InTrampoline view address value = IsInWindow 0x70000000 0x70001000 (trampoline_byte view) address value

-- a byte that may be fetched is in one of them
abbrev IsCode : List Page → ℕ → ℕ → ℕ → ℕ → Type 0
IsCode pages process view address value =
    InArea pages process address value ⊎ InText pages process address value ⊎ InHeap pages process address value
    ⊎ InTrampoline view address value

-- ---- which names may be fetched

-- a page of this name is never fetched
abbrev IsNeverFetched : PageName → Type 0
IsNeverFetched name = (executable : Bool) → permits (mode_of name executable) Fetch ≡ false

-- at a page number: the names of code by their windows
abbrev IsNamedCode : ℕ → ℕ → ℕ → PageName → Type 0
IsNamedCode view page process name =
    ((1 ≤ page) × (page < 17) × (name ≡ Area process (page - 1)))
    ⊎ ((0x400 ≤ page) × (page < 0x600) × (name ≡ Text process (page - 0x400)))
    ⊎ ((0xC00 ≤ page) × (page < 0xE00) × (name ≡ Heap process (page - 0xC00)))
    ⊎ ((page ≡ 0x70000) × (name ≡ trampoline_name view))

abbrev Names : ℕ → ℕ → ℕ → Option PageName → Type 0
Names view page process None = Unit {0}
Names view page process (Some name) = IsNeverFetched name ⊎ IsNamedCode view page process name

names_if : (view page process : ℕ) (test : Bool) (name : PageName) → IsNeverFetched name
    → Names view page process (name_if test name)
names_if view page process true name never = inl never
names_if view page process false name never = tt

names_test : (view page process : ℕ) (test : Bool) (one other : Option PageName) → (test ≡ true → Names view page process one)
    → Names view page process other
    → Names view page process (if test then one else other)
names_test view page process true one other first second = first refl
names_test view page process false one other first second = second

range_is : (low page high : ℕ) → (nat_le low page && nat_lt page high) ≡ true → (low ≤ page) × (page < high)
range_is low page high is = let parts = and_parts (nat_le low page) (nat_lt page high) is in
    (leb-true low page parts.0, ltb-true page high parts.1)

buffers : (threads : List Thread) (view page process other : ℕ) → Names view page process (buffer_name threads process other)
unfolding mode_of
buffers threads view page process other =
    names_if view page process _ (Buffer (other / 64) (other / 4 % 16) (other % 4)) (λ executable. refl)

stacks : (threads : List Thread) (view page process other : ℕ) → Names view page process (stack_name threads process other)
unfolding mode_of
stacks threads view page process other =
    names_test view page process (other % 8 == 0) _ _ (λ is. names_if view page process _ (Save (other / 8)) (λ executable. refl))
    (names_if view page process _ (Stack (other / 8) (other % 8 - 4)) (λ executable. refl))

specials : (thread view page process : ℕ) → Names view page process (special_name thread view process page)
unfolding mode_of
specials thread view page process =
    names_test view page process (page == 0x70000) _ _ (λ is. inr (inr (inr (inr (number page 0x70000 is, refl)))))
    (names_test view page process (page == 0x70002) _ _ (λ is. inl (λ executable. refl))
    (names_test view page process (page == 0x70004) _ _ (λ is. inl (λ executable. refl))
    (names_if view page process (page == 0x70006) (Pool process) (λ executable. refl))))

all_names : (threads : List Thread) (thread view page process : ℕ)
    → Names view page process (name_at threads thread view page process)
unfolding name_at mode_of
all_names threads thread view page process =
    names_test view page process (nat_le 1 page && nat_lt page 17) _ _ (λ is. let range = range_is 1 page 17 is in
    inr (inl (range.0, range.1, refl)))
    (names_test view page process (is_within 0x400 page) _ _ (λ is. let range = range_is 0x400 page 0x600 is in
    inr (inr (inl (range.0, range.1, refl))))
    (names_test view page process (is_within 0x800 page) _ _ (λ is. inl (λ executable. refl))
    (names_test view page process (is_within 0xC00 page) _ _ (λ is. let range = range_is 0xC00 page 0xE00 is in
    inr (inr (inr (inl (range.0, range.1, refl)))))
    (names_test view page process (is_in_buffers page) _ _ (λ is. buffers threads view page process (page - 0x2000))
    (names_test view page process (is_within 0x3000 page) _ _ (λ is. stacks threads view page process (page - 0x3000))
    (names_test view page process (is_within 0x4000 page) _ _ (λ is. inl (λ executable. refl))
    (specials thread view page process)))))))

-- ---- a byte that is fetched

ok_by : (test : Bool) (found : Result ℕ BusStop) (stop : BusStop) (value : ℕ) → (if test then found else Err stop) ≡ Ok value
    → (test ≡ true) × (found ≡ Ok value)
ok_by true found stop value is = (refl, is)
ok_by false found stop value is = absurd cc

-- a page that is seen, may be fetched, and has this byte
record IsFetched (state : State) (found : Option SeenPage) (offset value : ℕ) : Type 0 where
  one : SeenPage
  there : found ≡ Some one
  permitted : permits one.mode Fetch ≡ true
  has : byte_in state one.name offset ≡ value

same_ok : (one other : ℕ) (first second : Result ℕ BusStop) → first ≡ Ok one → second ≡ Ok other → first ≡ second → one ≡ other
same_ok one other first second is also same = cc

fetched_seen : (state : State) (found : Option SeenPage) (address value : ℕ) → byte_seen state found address Fetch ≡ Ok value
    → IsFetched state found (address % 4096) value
fetched_seen state None address value is = absurd cc
fetched_seen state (Some one) address value is =
    let parts =
    ok_by (permits one.mode Fetch) (Ok (byte_in state one.name (address % 4096))) (fault_at Memory address) value is in
    record {
      one = one;
      there = refl;
      permitted = parts.0;
      has = same_ok (byte_in state one.name (address % 4096)) value _ _ refl refl parts.1;
    }

fetched_at : (state : State) (thread view address value : ℕ) → plain_byte thread view state address Fetch ≡ Ok value
    → IsFetched state (page_for state thread view (address / 4096)) (address % 4096) value
unfolding plain_byte
fetched_at state thread view address value is =
    fetched_seen state (page_for state thread view (address / 4096)) address value
    (ok_by (is_canonical address) (byte_seen state (page_for state thread view (address / 4096)) address Fetch)
    (fault_at Canon address) value is).1

-- ---- its page, by name

-- the name at the page number, and the page
record IsNamed (pages : List Page) (found : Option PageName) (one : SeenPage) : Type 0 where
  name : PageName
  page : Page
  named : found ≡ Some name
  there : find_page pages name ≡ Some page
  called : one.name ≡ name
  mode : one.mode ≡ mode_of name page.executable

named_by : (pages : List Page) (name : PageName) (found : Option Page) (one : SeenPage) → find_page pages name ≡ found
    → option_map (page_and_mode name) found ≡ Some one
    → IsNamed pages (Some name) one
named_by pages name None one there is = absurd cc
named_by pages name (Some page) one there is =
    let same : page_and_mode name page ≡ one = cc in
    record {
      name = name;
      page = page;
      named = refl;
      there = there;
      called = ap (λ (seen : SeenPage). seen.name) (sym same);
      mode = ap (λ (seen : SeenPage). seen.mode) (sym same);
    }

named_seen : (pages : List Page) (name : Option PageName) (one : SeenPage) → option_and_then (page_by_name pages) name ≡ Some one
    → IsNamed pages name one
named_seen pages None one is = absurd cc
named_seen pages (Some name) one is = named_by pages name (find_page pages name) one refl is

-- where the view of the thread shows this process
named_at : (state : State) (thread view page process : ℕ) (one : SeenPage)
    → process_shown state.threads thread view ≡ Some process → page_for state thread view page ≡ Some one
    → IsNamed state.pages (name_at state.threads thread view page process) one
unfolding page_for
named_at state thread view page process one shows is =
    named_seen state.pages (name_at state.threads thread view page process) one
    (ap (λ found. option_and_then (page_by_name state.pages) (option_and_then (name_at state.threads thread view page) found))
    (sym shows) ∙ is)

-- ---- its window

fetched_some : (test : Bool) (value byte : ℕ) → test ≡ true → value ≡ byte → (if test then Some value else None) ≡ Some byte
fetched_some true value byte is same = ap (λ n. Some n) same
fetched_some false value byte is same = absurd cc

fetched_page : (name : PageName) (found : Option Page) (page : Page) (offset byte : ℕ) → found ≡ Some page
    → permits (mode_of name page.executable) Fetch ≡ true
    → get_or page.bytes offset 0 ≡ byte → fetched_byte name found offset ≡ Some byte
fetched_page name found page offset byte there permitted has =
    rw there (fetched_some (permits (mode_of name page.executable) Fetch) (get_or page.bytes offset 0) byte permitted has)

window_byte : (pages : List Page) (name : ℕ → PageName) (first low address byte : ℕ) (page : Page) → low ≡ 4096 * first
    → first ≤ address / 4096
    → find_page pages (name (address / 4096 - first)) ≡ Some page
    → permits (mode_of (name (address / 4096 - first)) page.executable) Fetch ≡ true
    → get_or page.bytes (address % 4096) 0 ≡ byte → code_byte pages name (address - low) ≡ Some byte
unfolding code_byte
window_byte pages name first low address byte page begins above there permitted has =
    let number : (address - low) / 4096 ≡ address / 4096 - first = omega arith in
    let offset : (address - low) % 4096 ≡ address % 4096 = omega arith in
    rw (
      number,
      offset,
    ) (fetched_page (name (address / 4096 - first)) (find_page pages (name (address / 4096 - first))) page
    (address % 4096) byte there permitted has)

pub trampoline_there : (test : Bool) (pages : List Page) → ArePagesSound pages
    → HasPage pages (if test then HomeTrampoline else ServerTrampoline) (if test then home_page else server_page)
trampoline_there true pages sound = sound.home
trampoline_there false pages sound = sound.server

code_named : (state : State) (process view address value : ℕ) (name : PageName) (page : Page) → ArePagesSound state.pages
    → find_page state.pages name ≡ Some page
    → permits (mode_of name page.executable) Fetch ≡ true → get_or page.bytes (address % 4096) 0 ≡ value
    → IsNeverFetched name ⊎ IsNamedCode view (address / 4096) process name → IsCode state.pages process view address value
code_named state process view address value name page sound there permitted has (inl never) =
    absurd (clash (permits (mode_of name page.executable) Fetch) permitted (never page.executable))
code_named state process view address value name page sound there permitted has (inr (inl (above, below, is))) =
    inl (record {
      above = omega arith;
      below = omega arith;
      has = window_byte state.pages (Area process) 1 0x1000 address value page refl above
          (subst (λ n. find_page state.pages n ≡ Some page) is there)
          (subst (λ n. permits (mode_of n page.executable) Fetch ≡ true) is permitted) has;
    })
code_named state process view address value name page sound there permitted has (inr (inr (inl (above, below, is)))) =
    inr (inl (record {
      above = omega arith;
      below = omega arith;
      has = window_byte state.pages (Text process) 0x400 0x400000 address value page refl above
          (subst (λ n. find_page state.pages n ≡ Some page) is there)
          (subst (λ n. permits (mode_of n page.executable) Fetch ≡ true) is permitted) has;
    }))
code_named state process view address value name page sound there permitted has (inr (inr (inr (inl (above, below, is))))) =
    inr (inr (inl (record {
      above = omega arith;
      below = omega arith;
      has = window_byte state.pages (Heap process) 0xC00 0xC00000 address value page refl above
          (subst (λ n. find_page state.pages n ≡ Some page) is there)
          (subst (λ n. permits (mode_of n page.executable) Fetch ≡ true) is permitted) has;
    })))
code_named state process view address value name page sound there permitted has (inr (inr (inr (inr (at, is))))) =
    let trampoline = trampoline_there (view == 0) state.pages sound in
    let same : page ≡ trampoline.0 =
    same_found page trampoline.0 (find_page state.pages (trampoline_name view))
    (subst (λ n. find_page state.pages n ≡ Some page) is there) trampoline.1 in
    let offset : address - 0x70000000 ≡ address % 4096 = omega arith in
    inr (inr (inr (record {
      above = omega arith;
      below = omega arith;
      has = ap (λ n. Some (get_or (trampoline_bytes view) n 0)) offset
          ∙ (ap (λ bytes. Some (get_or bytes (address % 4096) 0)) (sym trampoline.2)
          ∙ (ap (λ (p : Page). Some (get_or p.bytes (address % 4096) 0)) (sym same) ∙ ap (λ n. Some n) has));
    })))

-- a byte that may be fetched is in a window of code
pub is_code : (state : State) (thread view process address value : ℕ) → ArePagesSound state.pages
    → process_shown state.threads thread view ≡ Some process
    → plain_byte thread view state address Fetch ≡ Ok value → IsCode state.pages process view address value
unfolding contents
is_code state thread view process address value sound shows is =
    let fetched = fetched_at state thread view address value is in
    let at = named_at state thread view (address / 4096) process fetched.one shows fetched.there in
    code_named state process view address value at.name at.page sound at.there
    (ap (λ how. permits how Fetch) (sym at.mode) ∙ fetched.permitted)
    (ap (λ found. get_or (bytes_of found) (address % 4096) 0) (sym at.there)
    ∙ (ap (λ name. get_or (bytes_of (find_page state.pages name)) (address % 4096) 0) (sym at.called) ∙ fetched.has))
    (subst (Names view (address / 4096) process) at.named (all_names state.threads thread view (address / 4096) process))

-- ---- consecutive bytes are in one window

next_area : (pages : List Page) (process view address value : ℕ) → 0x1000 ≤ address → address < 0x11000
    → IsCode pages process view (address + 1) value
    → InArea pages process (address + 1) value
next_area pages process view address value low high (inl here) = here
next_area pages process view address value low high (inr (inl text)) = absurd (omega (arith, text.above))
next_area pages process view address value low high (inr (inr (inl heap))) = absurd (omega (arith, heap.above))
next_area pages process view address value low high (inr (inr (inr page))) = absurd (omega (arith, page.above))

next_text : (pages : List Page) (process view address value : ℕ) → 0x400000 ≤ address → address < 0x600000
    → IsCode pages process view (address + 1) value
    → InText pages process (address + 1) value
next_text pages process view address value low high (inl area) = absurd (omega (arith, area.below))
next_text pages process view address value low high (inr (inl here)) = here
next_text pages process view address value low high (inr (inr (inl heap))) = absurd (omega (arith, heap.above))
next_text pages process view address value low high (inr (inr (inr page))) = absurd (omega (arith, page.above))

next_heap : (pages : List Page) (process view address value : ℕ) → 0xC00000 ≤ address → address < 0xE00000
    → IsCode pages process view (address + 1) value
    → InHeap pages process (address + 1) value
next_heap pages process view address value low high (inl area) = absurd (omega (arith, area.below))
next_heap pages process view address value low high (inr (inl text)) = absurd (omega (arith, text.below))
next_heap pages process view address value low high (inr (inr (inl here))) = here
next_heap pages process view address value low high (inr (inr (inr page))) = absurd (omega (arith, page.above))

next_trampoline : (pages : List Page) (process view address value : ℕ) → 0x70000000 ≤ address → address < 0x70001000
    → IsCode pages process view (address + 1) value
    → InTrampoline view (address + 1) value
next_trampoline pages process view address value low high (inl area) = absurd (omega (arith, area.below))
next_trampoline pages process view address value low high (inr (inl text)) = absurd (omega (arith, text.below))
next_trampoline pages process view address value low high (inr (inr (inl heap))) = absurd (omega (arith, heap.below))
next_trampoline pages process view address value low high (inr (inr (inr here))) = here

-- ---- the pattern

next_place : (low high : ℕ) (byte : ℕ → Option ℕ) (address count value : ℕ) → low ≤ address
    → IsInWindow low high byte (address + count) value
    → byte (address - low + count) ≡ Some value
next_place low high byte address count value above here =
    let place : address - low + count ≡ address + count - low = omega arith in ap byte place ∙ here.has

none_in_window : (low high : ℕ) (byte : ℕ → Option ℕ) (address : ℕ) → HasNoCodePattern byte
    → IsInWindow low high byte address 0x0F → IsInWindow low high byte (address + 1) 0x01
    → IsInWindow low high byte (address + 2) 0xD4 → ⊥
none_in_window low high byte address none first second third =
    none (address - low) (
      first.has,
      next_place low high byte address 1 0x01 first.above second,
      next_place low high byte address 2 0xD4 first.above third,
    )

some_value : (one other : ℕ) (first second : Option ℕ) → first ≡ Some one → second ≡ Some other → first ≡ second → one ≡ other
some_value one other first second is also same = cc

switches_by : (test : Bool) (place : ℕ) → get_or (if test then home_page else server_page) place 0 ≡ 0x0F
    → get_or (if test then home_page else server_page) (place + 1) 0 ≡ 0x01
    → get_or (if test then home_page else server_page) (place + 2) 0 ≡ 0xD4 → place ≡ 0x40
switches_by true place first second third = home_switches.1 place (first, second, third)
switches_by false place first second third = server_switches.1 place (first, second, third)

in_trampoline : (view address : ℕ) → InTrampoline view address 0x0F → InTrampoline view (address + 1) 0x01
    → InTrampoline view (address + 2) 0xD4 → address ≡ 0x70000040
in_trampoline view address first second third =
    let place : address - 0x70000000 ≡ 0x40 =
    switches_by (view == 0) (address - 0x70000000) (some_value _ _ _ _ refl refl first.has)
    (some_value _ _ _ _ refl refl (next_place 0x70000000 0x70001000 (trampoline_byte view) address 1 0x01 first.above second))
    (some_value _ _ _ _ refl refl (next_place 0x70000000 0x70001000 (trampoline_byte view) address 2 0xD4 first.above third)) in
    let above = first.above in
    omega (arith, place, above)

two_on : (Claim : ℕ → Type 0) (address : ℕ) → Claim (address + 1 + 1) → Claim (address + 2)
two_on Claim address given = let same : address + 1 + 1 ≡ address + 2 = omega arith in subst Claim same given

-- of the windows, each is below this address
code_below : (pages : List Page) (process view address value : ℕ) → IsCode pages process view address value → address < 0x70001000
code_below pages process view address value (inl area) = omega (arith, area.below)
code_below pages process view address value (inr (inl text)) = omega (arith, text.below)
code_below pages process view address value (inr (inr (inl heap))) = omega (arith, heap.below)
code_below pages process view address value (inr (inr (inr page))) = page.below

one_of_code : (pages : List Page) (process view address : ℕ) → ArePagesSound pages → IsCode pages process view address 0x0F
    → IsCode pages process view (address + 1) 0x01
    → IsCode pages process view (address + 1 + 1) 0xD4 → address ≡ 0x70000040
one_of_code pages process view address sound (inl area) second third =
    let next = next_area pages process view address 0x01 area.above area.below second in
    let last = next_area pages process view (address + 1) 0xD4 next.above next.below third in
    absurd (none_in_window _ _ _ address (sound.area process) area next (two_on (λ n. InArea pages process n 0xD4) address last))
one_of_code pages process view address sound (inr (inl text)) second third =
    let next = next_text pages process view address 0x01 text.above text.below second in
    let last = next_text pages process view (address + 1) 0xD4 next.above next.below third in
    absurd (none_in_window _ _ _ address (sound.text process) text next (two_on (λ n. InText pages process n 0xD4) address last))
one_of_code pages process view address sound (inr (inr (inl heap))) second third =
    let next = next_heap pages process view address 0x01 heap.above heap.below second in
    let last = next_heap pages process view (address + 1) 0xD4 next.above next.below third in
    absurd (none_in_window _ _ _ address (sound.heap process) heap next (two_on (λ n. InHeap pages process n 0xD4) address last))
one_of_code pages process view address sound (inr (inr (inr page))) second third =
    let next = next_trampoline pages process view address 0x01 page.above page.below second in
    let last = next_trampoline pages process view (address + 1) 0xD4 next.above next.below third in
    in_trampoline view address page next (two_on (λ n. InTrampoline view n 0xD4) address last)

-- ---- in a view

-- where a byte may be fetched the view shows a process
shown_by_found : (state : State) (thread view page : ℕ) (one : SeenPage) (found : Option ℕ)
    → process_shown state.threads thread view ≡ found
    → page_for state thread view page ≡ Some one → (process : ℕ) × (process_shown state.threads thread view ≡ Some process)
unfolding page_for
shown_by_found state thread view page one None shows is =
    let none : None ≡ Some one =
    ap (λ found. option_and_then (page_by_name state.pages)
    (option_and_then (name_at state.threads thread view page) found)) (sym shows) ∙ is in absurd cc
shown_by_found state thread view page one (Some process) shows is = (process, shows)

shows : (state : State) (thread view address value : ℕ) → plain_byte thread view state address Fetch ≡ Ok value
    → (process : ℕ) × (process_shown state.threads thread view ≡ Some process)
shows state thread view address value is =
    let fetched = fetched_at state thread view address value is in
    shown_by_found state thread view (address / 4096) fetched.one (process_shown state.threads thread view) refl fetched.there

pub one_pattern : (state : State) (thread view address : ℕ) → ArePagesSound state.pages
    → Stands (fetch_of (plain thread view) state) address pattern
    → address % 2 ^ 64 ≡ VMFUNC_ADDRESS
one_pattern state thread view address sound stands =
    let zero_on : bytes_from_fetch address 0 ≡ address % 2 ^ 64 = omega arith in
    let first : plain_byte thread view state (address % 2 ^ 64) Fetch ≡ Ok 0x0F =
    subst (λ n. plain_byte thread view state n Fetch ≡ Ok 0x0F) zero_on (stands 0 (omega arith)) in
    let process = shows state thread view (address % 2 ^ 64) 0x0F first in
    let code = is_code state thread view process.0 (address % 2 ^ 64) 0x0F sound process.1 first in
    let below : address % 2 ^ 64 < 0x70001000 = code_below state.pages process.0 view (address % 2 ^ 64) 0x0F code in
    let one_on : bytes_from_fetch address 1 ≡ address % 2 ^ 64 + 1 = omega arith in
    let both_on : bytes_from_fetch address 2 ≡ address % 2 ^ 64 + 1 + 1 = omega arith in
    one_of_code state.pages process.0 view (address % 2 ^ 64) sound code
    (is_code state thread view process.0 (address % 2 ^ 64 + 1) 0x01 sound process.1
    (subst (λ n. plain_byte thread view state n Fetch ≡ Ok 0x01) one_on (stands 1 (omega arith))))
    (is_code state thread view process.0 (address % 2 ^ 64 + 1 + 1) 0xD4 sound process.1
    (subst (λ n. plain_byte thread view state n Fetch ≡ Ok 0xD4) both_on (stands 2 (omega arith))))
