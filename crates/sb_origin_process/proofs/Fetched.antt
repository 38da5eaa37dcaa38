-- What a view fetches, by the names of pages.
use Rattle.std.proofs.Common.{◌≡◌, ◌∙◌, ◌⊎◌, sym, ap, subst, inl, inr, ℕ, ◌+◌, ◌-◌, ◌/◌, ◌%◌, ◌^◌, ◌<◌, ◌≤◌, ◌==◌, ◌&&◌, Bool, true, false, List, length, refl, arith, Result, Ok, Err}
use Rattle.std.specs.Prelude.{slice_index, Option, Some, None, nat_le, nat_lt, if◌then◌else◌}
use Rattle.std.specs.Option.{option_map, option_and_then}
use Rattle.std.proofs.lemmas.Bool.{and_parts, and_from, leb-true, ltb-true, le-leb, lt-ltb, cond-true, cond-false, and_right, le-ltb, both_ways, cases_lt}
use Rattle.sb_memory.specs.declared.address.Access.TheVariants.{Fetch}
use Rattle.sb_bus.specs.declared.stop.BusStop.{BusStop}
use Rattle.sb_bus.specs.declared.stop.FaultKind.TheVariants.{Memory, Canon}
use Rattle.sb_pages.specs.declared.page.PageName.{PageName}
use Rattle.sb_pages.specs.declared.page.PageName.TheVariants.{Text, Area, Pool, Save, Stack, Buffer, HomeTrampoline, ServerTrampoline}
use Rattle.sb_pages.specs.declared.page.Page.{Page}
use Rattle.sb_pages.specs.PageName.{mode_of, permits}
use Rattle.sb_exec.specs.Fetching.{Stands, fetch_of}
use Rattle.sb_rewrite.specs.RewrittenText.{RewrittenText}
use Rattle.sb_origin_text.specs.Positions.{is_in_text, is_in_area}
use Rattle.sb_origin_text.specs.Fetched.{IsBeside}
use Rattle.sb_origin_process.specs.Process.{BeginsPages, IsRewritten, ProcessHaveTexts}
use Rattle.sb_state.specs.declared.state.Thread.{Thread}
use Rattle.sb_state.specs.State.{State, find_page, contents}
use Rattle.sb_state.specs.Windows.{name_if, is_within, is_in_buffers, stack_name, buffer_name, special_name, name_at, process_shown, page_by_name, page_and_mode, page_for}
use Rattle.sb_state.specs.PlainMemory.{plain_byte, byte_seen, is_canonical, fault_at, plain}
use Rattle.sb_trace.specs.Code.{fetched_byte, code_byte}
use Rattle.sb_origin_plain.specs.Memory.{is_shared, AreBesideScratch}
use Rattle.sb_origin_plain.proofs.Seen.{name_same}

-- ---- a byte of a page by its name

-- the byte that is fetched, or why there is none
abbrev pub answer_of : ℕ → Option ℕ → Result ℕ BusStop
answer_of address None = Err (fault_at Memory address)
answer_of address (Some byte) = Ok byte

permitted_by : (test : Bool) (address byte : ℕ)
    → (if test then Ok byte else Err (fault_at Memory address)) ≡ answer_of address (if test then Some byte else None)
permitted_by true address byte = refl
permitted_by false address byte = refl

found_byte : (state : State) (name : PageName) (address : ℕ) (found : Option Page) → find_page state.pages name ≡ found
    → byte_seen state (option_map (page_and_mode name) found) address Fetch
    ≡ answer_of address (fetched_byte name found (address % 4096))
unfolding contents
found_byte state name address None is = refl
found_byte state name address (Some page) is =
    rw is (permitted_by (permits (mode_of name page.executable) Fetch) address (slice_index page.bytes (address % 4096)))

-- ---- the name at a page

abbrev NameIs : State → ℕ → ℕ → ℕ → Option PageName → Type 0
NameIs state thread view page name =
    option_and_then (name_at state.threads thread view page) (process_shown state.threads thread view) ≡ name

-- what is fetched at an address by the name of its page
pub fetch_named : (state : State) (thread view address : ℕ) (name : PageName) → is_canonical address ≡ true
    → NameIs state thread view (address / 4096) (Some name)
    → fetch_of (plain thread view) state address
    ≡ answer_of address (fetched_byte name (find_page state.pages name) (address % 4096))
unfolding plain_byte page_for
fetch_named state thread view address name canonical is =
    cond-true (is_canonical address) _ _ canonical
    ∙ (ap (λ found. byte_seen state (option_and_then (page_by_name state.pages) found) address Fetch) is
    ∙ found_byte state name address (find_page state.pages name) refl)

-- none where there is no name
pub fetch_nameless : (state : State) (thread view address : ℕ) → is_canonical address ≡ true
    → NameIs state thread view (address / 4096) None
    → fetch_of (plain thread view) state address ≡ Err (fault_at Memory address)
unfolding plain_byte page_for
fetch_nameless state thread view address canonical is =
    cond-true (is_canonical address) _ _ canonical
    ∙ ap (λ found. byte_seen state (option_and_then (page_by_name state.pages) found) address Fetch) is

pub fetch_noncanonical : (state : State) (thread view address : ℕ) → is_canonical address ≡ false
    → fetch_of (plain thread view) state address ≡ Err (fault_at Canon address)
unfolding plain_byte
fetch_noncanonical state thread view address other = cond-false (is_canonical address) _ _ other

-- ---- text and area

low_canonical : (address : ℕ) → address < 2 ^ 47 → is_canonical address ≡ true
low_canonical address low =
    let zero_high : address / 2 ^ 47 ≡ 0 = omega (arith, low) in rw zero_high refl

in_range : (low high page : ℕ) → low ≤ page → page < high → (nat_le low page && nat_lt page high) ≡ true
in_range low high page one two = and_from (nat_le low page) (nat_lt page high) (le-leb low page one) (lt-ltb page high two)

out_of_range : (low high page : ℕ) → high ≤ page → (nat_le low page && nat_lt page high) ≡ false
out_of_range low high page behind = and_right (nat_le low page) (nat_lt page high) (le-ltb page high behind)

text_at : (threads : List Thread) (thread view process page : ℕ) → 0x400 ≤ page → page < 0x600
    → name_at threads thread view page process ≡ Some (Text process (page - 0x400))
unfolding name_at
text_at threads thread view process page low high =
    cond-false (nat_le 1 page && nat_lt page 17) _ _ (out_of_range 1 17 page (omega (arith, low)))
    ∙ cond-true (is_within 0x400 page) _ _ (in_range 0x400 0x600 page low high)

area_at : (threads : List Thread) (thread view process page : ℕ) → 1 ≤ page → page < 17
    → name_at threads thread view page process ≡ Some (Area process (page - 1))
unfolding name_at
area_at threads thread view process page low high =
    cond-true (nat_le 1 page && nat_lt page 17) _ _ (in_range 1 17 page low high)

named : (state : State) (thread view process page : ℕ) (name : Option PageName)
    → process_shown state.threads thread view ≡ Some process → name_at state.threads thread view page process ≡ name
    → NameIs state thread view page name
named state thread view process page name shows is =
    ap (λ found. option_and_then (name_at state.threads thread view page) found) shows ∙ is

-- a byte of the text's pages
pub fetch_text : (state : State) (thread view process offset : ℕ) → process_shown state.threads thread view ≡ Some process
    → offset < 0x200000
    → fetch_of (plain thread view) state (0x400000 + offset)
    ≡ answer_of (0x400000 + offset) (code_byte state.pages (Text process) offset)
unfolding code_byte
fetch_text state thread view process offset shows inside =
    let address = 0x400000 + offset in
    let page : address / 4096 - 0x400 ≡ offset / 4096 = omega arith in
    let place : address % 4096 ≡ offset % 4096 = omega arith in
    let name : NameIs state thread view (address / 4096) (Some (Text process (offset / 4096))) =
    named state thread view process (address / 4096) (Some (Text process (offset / 4096))) shows
    (text_at state.threads thread view process (address / 4096) (omega arith) (omega (arith, inside))
    ∙ ap (λ (n : ℕ). Some (Text process n)) page) in
    fetch_named state thread view address (Text process (offset / 4096)) (low_canonical address (omega (arith, inside))) name
    ∙ ap (λ (n : ℕ). answer_of address
    (fetched_byte (Text process (offset / 4096)) (find_page state.pages (Text process (offset / 4096))) n)) place

-- a byte of the area's pages
pub fetch_area : (state : State) (thread view process offset : ℕ) → process_shown state.threads thread view ≡ Some process
    → offset < 0x10000
    → fetch_of (plain thread view) state (0x1000 + offset)
    ≡ answer_of (0x1000 + offset) (code_byte state.pages (Area process) offset)
unfolding code_byte
fetch_area state thread view process offset shows inside =
    let address = 0x1000 + offset in
    let page : address / 4096 - 1 ≡ offset / 4096 = omega arith in
    let place : address % 4096 ≡ offset % 4096 = omega arith in
    let name : NameIs state thread view (address / 4096) (Some (Area process (offset / 4096))) =
    named state thread view process (address / 4096) (Some (Area process (offset / 4096))) shows
    (area_at state.threads thread view process (address / 4096) (omega arith) (omega (arith, inside))
    ∙ ap (λ (n : ℕ). Some (Area process n)) page) in
    fetch_named state thread view address (Area process (offset / 4096)) (low_canonical address (omega (arith, inside))) name
    ∙ ap (λ (n : ℕ). answer_of address
    (fetched_byte (Area process (offset / 4096)) (find_page state.pages (Area process (offset / 4096))) n)) place

-- nothing right before text and area
none_before_text : (threads : List Thread) (thread view process : ℕ) → name_at threads thread view 0x3FF process ≡ None
unfolding name_at
none_before_text threads thread view process = refl

none_before_area : (threads : List Thread) (thread view process : ℕ) → name_at threads thread view 0 process ≡ None
unfolding name_at
none_before_area threads thread view process = refl

no_byte : (address byte : ℕ) (answer : Result ℕ BusStop) → answer ≡ Err (fault_at Memory address) → answer ≡ Ok byte → ⊥
no_byte address byte answer stops gives = cc

pub before_text : (state : State) (thread view process byte : ℕ) → process_shown state.threads thread view ≡ Some process
    → fetch_of (plain thread view) state 0x3FFFFF ≡ Ok byte → ⊥
before_text state thread view process byte shows gives =
    no_byte 0x3FFFFF byte _
    (fetch_nameless state thread view 0x3FFFFF refl
    (named state thread view process 0x3FF None shows (none_before_text state.threads thread view process))) gives

pub before_area : (state : State) (thread view process byte : ℕ) → process_shown state.threads thread view ≡ Some process
    → fetch_of (plain thread view) state 0xFFF ≡ Ok byte → ⊥
before_area state thread view process byte shows gives =
    no_byte 0xFFF byte _
    (fetch_nameless state thread view 0xFFF refl
    (named state thread view process 0 None shows (none_before_area state.threads thread view process))) gives

-- ---- the same elsewhere

-- a page of this name is never fetched
abbrev IsNever : PageName → Type 0
IsNever name = (executable : Bool) → permits (mode_of name executable) Fetch ≡ false

-- the name at a page: one that both have alike, one that is never fetched, or one of text or area by its window
abbrev pub Names : ℕ → ℕ → Option PageName → Type 0
Names page process None = Unit {0}
Names page process (Some name) =
    (is_shared name ≡ true) ⊎ IsNever name ⊎ (name ≡ HomeTrampoline) ⊎ (name ≡ ServerTrampoline)
    ⊎ ((0x400 ≤ page) × (page < 0x600) × (name ≡ Text process (page - 0x400))) ⊎ ((1 ≤ page) × (page < 17))

shared_if : (page process : ℕ) (test : Bool) (name : PageName) → is_shared name ≡ true → Names page process (name_if test name)
shared_if page process true name shared = inl shared
shared_if page process false name shared = tt

names_test : (page process : ℕ) (test : Bool) (one other : Option PageName) → (test ≡ true → Names page process one)
    → Names page process other → Names page process (if test then one else other)
names_test page process true one other first second = first refl
names_test page process false one other first second = second

trampoline_names : (page process : ℕ) (test : Bool)
    → Names page process (Some (if test then HomeTrampoline else ServerTrampoline))
trampoline_names page process true = inr (inr (inl refl))
trampoline_names page process false = inr (inr (inr (inl refl)))

specials : (thread view page process : ℕ) → Names page process (special_name thread view process page)
unfolding is_shared mode_of
specials thread view page process =
    names_test page process (page == 0x70000) _ _ (λ is. trampoline_names page process (view == 0))
    (names_test page process (page == 0x70002) _ _ (λ is. inl refl)
    (names_test page process (page == 0x70004) _ _ (λ is. inr (inl (λ executable. refl)))
    (shared_if page process (page == 0x70006) (Pool process) refl)))

stacks : (threads : List Thread) (page process other : ℕ) → Names page process (stack_name threads process other)
unfolding is_shared
stacks threads page process other =
    names_test page process (other % 8 == 0) _ _ (λ is. shared_if page process _ (Save (other / 8)) refl)
    (shared_if page process _ (Stack (other / 8) (other % 8 - 4)) refl)

buffers : (threads : List Thread) (page process other : ℕ) → Names page process (buffer_name threads process other)
unfolding is_shared
buffers threads page process other = shared_if page process _ (Buffer (other / 64) (other / 4 % 16) (other % 4)) refl

range_is : (low page high : ℕ) → (nat_le low page && nat_lt page high) ≡ true → (low ≤ page) × (page < high)
range_is low page high is = let parts = and_parts (nat_le low page) (nat_lt page high) is in
    (leb-true low page parts.0, ltb-true page high parts.1)

all_names : (threads : List Thread) (thread view page process : ℕ)
    → Names page process (name_at threads thread view page process)
unfolding name_at is_shared
all_names threads thread view page process =
    names_test page process (nat_le 1 page && nat_lt page 17) _ _
    (λ is. let range = range_is 1 page 17 is in inr (inr (inr (inr (inr (range.0, range.1))))))
    (names_test page process (is_within 0x400 page) _ _
    (λ is. let range = range_is 0x400 page 0x600 is in inr (inr (inr (inr (inl (range.0, range.1, refl))))))
    (names_test page process (is_within 0x800 page) _ _ (λ is. inl refl)
    (names_test page process (is_within 0xC00 page) _ _ (λ is. inl refl)
    (names_test page process (is_in_buffers page) _ _ (λ is. buffers threads page process (page - 0x2000))
    (names_test page process (is_within 0x3000 page) _ _ (λ is. stacks threads page process (page - 0x3000))
    (names_test page process (is_within 0x4000 page) _ _ (λ is. inl refl) (specials thread view page process)))))))

-- the names of the other machine are these
same_name_is : (state other : State) (thread view page : ℕ) (name : Option PageName) → AreBesideScratch state other
    → NameIs state thread view page name → NameIs other thread view page name
same_name_is state other thread view page name beside is =
    ap (λ found. option_and_then (name_at other.threads thread view page) found) (beside.shown thread view)
    ∙ (by_process (process_shown state.threads thread view) ∙ is)
  where
    by_process : (process : Option ℕ) → option_and_then (name_at other.threads thread view page) process
        ≡ option_and_then (name_at state.threads thread view page) process
    by_process None = refl
    by_process (Some process) = name_same state.threads other.threads thread view page process beside.shown

never_fetched : (name : PageName) (found : Option Page) (offset : ℕ) → IsNever name → fetched_byte name found offset ≡ None
never_fetched name None offset never = refl
never_fetched name (Some page) offset never =
    ap (λ (test : Bool). if test then Some (slice_index page.bytes offset) else None) (never page.executable)

-- behind the text its pages are filled up alike
behind_text : (process : ℕ) (text : List ℕ) (made : RewrittenText) (state other : State) (offset : ℕ)
    → IsRewritten process text made state other → length text ≤ offset
    → fetched_byte (Text process (offset / 4096)) (find_page other.pages (Text process (offset / 4096))) (offset % 4096)
    ≡ fetched_byte (Text process (offset / 4096)) (find_page state.pages (Text process (offset / 4096))) (offset % 4096)
unfolding code_byte
behind_text process text made state other offset is beyond = is.behind offset beyond

-- the byte of a page by its name, in both machines
by_name : (process : ℕ) (text : List ℕ) (made : RewrittenText) (state other : State) (address : ℕ) (name : PageName)
    → AreBesideScratch state other → IsRewritten process text made state other → IsBeside text address
    → Names (address / 4096) process (Some name)
    → fetched_byte name (find_page other.pages name) (address % 4096)
    ≡ fetched_byte name (find_page state.pages name) (address % 4096)
by_name process text made state other address name beside is apart (inl shared) =
    ap (λ found. fetched_byte name found (address % 4096)) (beside.pages name shared)
by_name process text made state other address name beside is apart (inr (inl never)) =
    never_fetched name (find_page other.pages name) (address % 4096) never
    ∙ sym (never_fetched name (find_page state.pages name) (address % 4096) never)
by_name process text made state other address name beside is apart (inr (inr (inl home))) =
    ap (λ found. fetched_byte name found (address % 4096))
    (subst (λ n. find_page other.pages n ≡ find_page state.pages n) (sym home) is.home)
by_name process text made state other address name beside is apart (inr (inr (inr (inl server)))) =
    ap (λ found. fetched_byte name found (address % 4096))
    (subst (λ n. find_page other.pages n ≡ find_page state.pages n) (sym server) is.server)
by_name process text made state other address name beside is apart (inr (inr (inr (inr (inl (low, high, equal)))))) =
    let offset = address - 0x400000 in
    let page : address / 4096 - 0x400 ≡ offset / 4096 = omega (arith, low) in
    let place : address % 4096 ≡ offset % 4096 = omega (arith, low) in
    subst (λ n. fetched_byte n (find_page other.pages n) (address % 4096) ≡ fetched_byte n (find_page state.pages n) (address %
    4096))
    (sym (equal ∙ ap (λ (n : ℕ). Text process n) page))
    (subst (λ (n : ℕ). fetched_byte (Text process (offset / 4096)) (find_page other.pages (Text process (offset / 4096))) n
    ≡ fetched_byte (Text process (offset / 4096)) (find_page state.pages (Text process (offset / 4096))) n) (sym place)
    (behind_text process text made state other offset is (beyond (cases_lt address (0x400000 + length text)))))
  where
    beyond : (address < 0x400000 + length text) ⊎ (0x400000 + length text ≤ address) → length text ≤ address - 0x400000
    beyond (inl inside) =
        absurd (both_ways (is_in_text text address) apart.0
        (in_range 0x400000 (0x400000 + length text) address (omega (arith, low)) inside))
    beyond (inr more) = omega (arith, more)
by_name process text made state other address name beside is apart (inr (inr (inr (inr (inr (low, high)))))) =
    absurd (both_ways (is_in_area address) apart.1 (in_range 0x1000 0x11000 address (omega (arith, low)) (omega (arith, high))))

by_named : (process : ℕ) (text : List ℕ) (made : RewrittenText) (state other : State) (thread view address : ℕ)
    (name : Option PageName) → is_canonical address ≡ true → AreBesideScratch state other
    → IsRewritten process text made state other → IsBeside text address
    → NameIs state thread view (address / 4096) name → Names (address / 4096) process name
    → fetch_of (plain thread view) other address ≡ fetch_of (plain thread view) state address
by_named process text made state other thread view address None canonical beside is apart name names =
    fetch_nameless other thread view address canonical (same_name_is state other thread view (address / 4096) None beside name)
    ∙ sym (fetch_nameless state thread view address canonical name)
by_named process text made state other thread view address (Some one) canonical beside is apart name names =
    fetch_named other thread view address one canonical
    (same_name_is state other thread view (address / 4096) (Some one) beside name)
    ∙ (ap (answer_of address) (by_name process text made state other address one beside is apart names)
    ∙ sym (fetch_named state thread view address one canonical name))

by_canonical : (test : Bool) (process : ℕ) (text : List ℕ) (made : RewrittenText) (state other : State) (thread view address : ℕ)
    → is_canonical address ≡ test → process_shown state.threads thread view ≡ Some process → AreBesideScratch state other
    → IsRewritten process text made state other → IsBeside text address
    → fetch_of (plain thread view) other address ≡ fetch_of (plain thread view) state address
by_canonical true process text made state other thread view address canonical shows beside is apart =
    by_named process text made state other thread view address
    (name_at state.threads thread view (address / 4096) process) canonical beside is apart
    (named state thread view process (address / 4096) _ shows refl) (all_names state.threads thread view (address / 4096) process)
by_canonical false process text made state other thread view address canonical shows beside is apart =
    fetch_noncanonical other thread view address canonical ∙ sym (fetch_noncanonical state thread view address canonical)

-- ---- texts

stands_in : (state : State) (thread view process : ℕ) (bytes : List ℕ) → process_shown state.threads thread view ≡ Some process
    → length bytes ≤ 0x200000 → BeginsPages state.pages (Text process) bytes
    → Stands (fetch_of (plain thread view) state) 0x400000 bytes
stands_in state thread view process bytes shows size begins index below =
    let same : (0x400000 + index) % 2 ^ 64 ≡ 0x400000 + index = omega (arith, below, size) in
    ap (λ (n : ℕ). fetch_of (plain thread view) state n) same
    ∙ (fetch_text state thread view process index shows (omega (arith, below, size))
    ∙ ap (answer_of (0x400000 + index)) (begins index below))

stands_in_area : (state : State) (thread view process : ℕ) (bytes : List ℕ)
    → process_shown state.threads thread view ≡ Some process → length bytes ≤ 0x10000
    → BeginsPages state.pages (Area process) bytes → Stands (fetch_of (plain thread view) state) 0x1000 bytes
stands_in_area state thread view process bytes shows size begins index below =
    let same : (0x1000 + index) % 2 ^ 64 ≡ 0x1000 + index = omega (arith, below, size) in
    ap (λ (n : ℕ). fetch_of (plain thread view) state n) same
    ∙ (fetch_area state thread view process index shows (omega (arith, below, size))
    ∙ ap (answer_of (0x1000 + index)) (begins index below))

pub process_texts : ProcessHaveTexts
process_texts thread view process text made state other shows beside is bytes other_bytes = record {
  size = is.size;
  same_size = is.same_size;
  area_size = is.area_size;
  bytes = bytes thread view;
  other_bytes = other_bytes thread view;
  rewritten = stands_in state thread view process made.text shows (omega (arith, is.size, is.same_size)) is.in_text;
  area = stands_in_area state thread view process made.area shows (omega (arith, is.area_size)) is.in_area;
  original = stands_in other thread view process text (beside.shown thread view ∙ shows) (omega (arith, is.size)) is.original;
  alike = record {
    same = λ address small apart.
        by_canonical (is_canonical address) process text made state other thread view address refl shows beside is apart;
    before_text = λ byte given. before_text state thread view process byte shows given;
    before_area = λ byte given. before_area state thread view process byte shows given;
  };
}
