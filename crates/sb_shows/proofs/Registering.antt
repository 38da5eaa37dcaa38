-- A process becomes a server: its pool word is set, and pages of stacks are added.
use Rattle.std.proofs.Common.{◌≡◌, ◌≢◌, ◌∙◌, sym, ap, subst, ℕ, zero, ◌+◌, ◌-◌, ◌*◌, ◌%◌, ◌^◌, ◌<◌, ◌≤◌, ◌==◌, ◌&&◌, ◌||◌, Bool, true, false, nat_le, nat_lt, List, [], ◌∷◌, ◌++◌, length, refl, lit<, lit≤, arith}
use Rattle.std.specs.Prelude.{Option, Some, None}
use Rattle.std.proofs.lemmas.Grind.{common_steps}
use Rattle.std.proofs.lemmas.Bool.{eqb-true, eqb-false}
use Rattle.std.proofs.lemmas.Bool.Decides.{Decides-eqb}
use Rattle.std.proofs.lemmas.List.{length-set}
use Rattle.sb_memory.specs.Physical.{Physical, frame_of}
use Rattle.sb_memory.specs.Reading.{with_bytes}
use Rattle.sb_memory.specs.Words.{put_word}
use Rattle.sb_memory.proofs.Words.{length_put_word}
use Rattle.sb_memory.proofs.Changes.{same_outside_word}
use Rattle.sb_pagewalk.specs.Windows.{IsInWindow, region_of, page_table_of}
use Rattle.sb_state.specs.declared.page.PageName.{PageName}
use Rattle.sb_state.specs.declared.page.PageName.TheVariants.{Pool, ServerStack}
use Rattle.sb_state.specs.declared.page.Page.{Page}
use Rattle.sb_state.specs.declared.state.Thread.{Thread}
use Rattle.sb_state.specs.declared.state.Registration.{Registration}
use Rattle.sb_trace.specs.PageWords.{zeros, with_word}
use Rattle.sb_trace.specs.State.{State, Process, find_page, with_page_bytes, contents, with_contents, bytes_of, thread_at, process_at}
use Rattle.sb_trace.specs.Start.{pages_from}
use Rattle.sb_trace.specs.SyscallRegister.{stack_bytes, server_stack_page, with_registration, with_server}
use Rattle.sb_trace.specs.Windows.{name_at, is_within, is_in_buffers}
use Rattle.sb_state.proofs.Names.{name_other}
use Rattle.sb_state.proofs.PageLists.{found_other}
use Rattle.sb_state.proofs.Start.{zeros_size}
use Rattle.sb_shows.specs.CallLaws.{RegistersKeep}
use Rattle.sb_shows.specs.Placement.{Placement, is_own}
use Rattle.sb_shows.specs.Keeping.{Keeps}
use Rattle.sb_shows.specs.Windows.{page_number}
use Rattle.sb_shows.specs.Calls.{placed_all, IsSeenIn, AreNewPages}
use Rattle.sb_shows.specs.Threads.{SameSight}
use Rattle.sb_shows.specs.InPlace.{StaysInPlace}
use Rattle.sb_shows.proofs.Numbers.{name_number}
use Rattle.sb_memory.proofs.Words.{word_held}
use Rattle.sb_shows.proofs.Putting.{replaced_shapes, keeps_replaced}
use Rattle.sb_shows.proofs.AddingPages.{pages_added, pages_stay}
use Rattle.sb_shows.proofs.NewPages.{new_from}
use Rattle.sb_shows.proofs.InPlace.{kept_in_place, stays_then, stays_moved, stays_shaped}
use Rattle.sb_shows.proofs.Threads.{keeps_moved}
use Rattle.sb_trace.proofs.KeptPages.{size_if}

-- ---- a word of a page

-- a word is put into a page and into its frame
pub word_kept : (placement : Placement) (state : State) (memory : Physical) (name : PageName) (page : Page) (at word : ℕ)
    → Keeps placement state memory → find_page state.pages name ≡ Some page
    → at % 8 ≡ 0 → at + 8 ≤ 4096
    → Keeps placement (with_word state name at word)
    (with_bytes memory (put_word memory.bytes (4096 * placement.frame name + at) word))
unfolding with_word with_contents contents
word_kept placement state memory name page at word keeps found aligned few =
    let held = keeps.contents.page name page found in
    let inside = held.inside in
    let whole = keeps.leads.stands.whole.size.bytes in
    let place : frame_of (4096 * placement.frame name + at) ≡ placement.frame name = omega arith in
    subst (λ (one : Option Page). Keeps placement
    (record state { pages = with_page_bytes state.pages name (put_word (bytes_of one) at word) })
    (with_bytes memory (put_word memory.bytes (4096 * placement.frame name + at) word))) (sym found)
    (keeps_replaced placement state memory keeps name page found (put_word page.bytes at word) (length_put_word page.bytes at word
    ∙ held.size)
    (with_bytes memory (put_word memory.bytes (4096 * placement.frame name + at) word))
    (same_outside_word (placement.frame name ∷ []) memory (4096 * placement.frame name + at) word (omega arith) (
      zero,
      lit< tt,
      sym place,
    ))
    (λ offset within. word_held memory.bytes page.bytes (4096 * placement.frame name) at word offset few (omega arith) held.size
    (held.byte offset within)))

-- ---- the window of server stacks

pub stack_named : (threads : List Thread) (thread view page process : ℕ) → page < 512
    → name_at threads thread view (0x4000 + page) process ≡ Some (ServerStack process page)
unfolding name_at
stack_named threads thread view page process few =
    let area : (nat_le 1 (0x4000 + page) && nat_lt (0x4000 + page) 17) ≡ false = grind (arith, common_steps) in
    let text : is_within 0x400 (0x4000 + page) ≡ false = grind (arith, common_steps) in
    let data_at : is_within 0x800 (0x4000 + page) ≡ false = grind (arith, common_steps) in
    let heap : is_within 0xC00 (0x4000 + page) ≡ false = grind (arith, common_steps) in
    let buffers : is_in_buffers (0x4000 + page) ≡ false = grind (arith, common_steps) in
    let stacks : is_within 0x3000 (0x4000 + page) ≡ false = grind (arith, common_steps) in
    let servers : is_within 0x4000 (0x4000 + page) ≡ true = grind (arith, common_steps) in
    rw (area, text, data_at, heap, buffers, stacks, servers) (ap (λ (n : ℕ). Some (ServerStack process n)) (omega arith))

pub stack_window : (page : ℕ) → page < 512 → IsInWindow (4096 * (0x4000 + page))
unfolding page_table_of
stack_window page few = let region : region_of (4096 * (0x4000 + page)) ≡ 32 = omega arith in rw region (λ e. cc)

or_false : (test : Bool) → test ≡ true → (test || false) ≡ true
or_false true is = refl
or_false false is = is

pub stack_seen : (threads : List Thread) (count process page : ℕ) → process < count → page < 512
    → IsSeenIn threads count (ServerStack process page) (process ∷ [])
unfolding page_number
stack_seen threads count process page there few = record {
  sees = λ one. one == process;
  window = stack_window page few;
  seen = λ one thread view within is. subst (λ n. name_at threads thread view (0x4000 + page) n ≡ Some (ServerStack process page))
      (sym (eqb-true one process is)) (stack_named threads thread view page process few);
  unseen =
      λ one thread view at within is named. eqb-false one process is
      (sym (name_number threads thread view at one (ServerStack process page) named).1);
  each = ((there, (Decides-eqb process process).1 refl), tt);
  all = λ one within is. or_false (one == process) is;
}

-- ---- the pages of the stacks

pub stack_size : (page : ℕ) → length (stack_bytes page) ≡ 4096
unfolding stack_bytes
stack_size page =
    size_if (page % 4 == 3) (put_word zeros 0xFF8 0x70000000) zeros (length_put_word zeros 0xFF8 0x70000000
    ∙ zeros_size) zeros_size

pub stacks_differ : (process page other : ℕ) → page ≢ other → ServerStack process page ≢ ServerStack process other
stacks_differ process page other differ same = let e : page ≡ other = cc in differ e

new_stacks : (count : ℕ) (threads : List Thread) (processes : ℕ) (pages : List Page) (process : ℕ) → process < processes
    → count ≤ 512
    → ((page : ℕ) → find_page pages (ServerStack process page) ≡ None)
    → AreNewPages threads processes pages (process ∷ []) (pages_from (server_stack_page process) 0 count)
unfolding is_own
new_stacks count threads processes pages process there few none =
    new_from count 0 (server_stack_page process) threads processes pages (process ∷ []) (stacks_differ process)
    (λ page above below. record {
      shared_page = refl;
      size = stack_size page;
      seen = stack_seen threads processes process page there (omega arith);
    })
    (λ page above. none page)

-- ---- the call

pub registered_count : (found : Option Process) (processes : List Process) (number : ℕ) (registration : Registration)
    → length (with_registration found processes number registration) ≡ length processes
registered_count None processes number registration = refl
registered_count (Some process) processes number registration = length-set processes number _

pub pools_differ : (process page : ℕ) → Pool process ≢ ServerStack process page
pools_differ process page same = cc

-- the pages with the pool word set, and then those of the stacks
abbrev pooled : State → ℕ → ℕ → State
pooled state process stacks =
    record state {
      pages = with_page_bytes state.pages (Pool process) (put_word (contents state (Pool process)) 0 (2 ^ stacks - 1));
    }

abbrev stacked : ℕ → ℕ → List Page
stacked process stacks = pages_from (server_stack_page process) 0 (4 * stacks)

stacks_new : (state : State) (process stacks : ℕ) → process < length state.processes → stacks ≤ 16
    → ((page : ℕ) → find_page state.pages (ServerStack process page) ≡ None)
    → AreNewPages state.threads (length state.processes) (pooled state process stacks).pages (process ∷ [])
    (stacked process stacks)
stacks_new state process stacks there few none =
    new_stacks (4 * stacks) state.threads (length state.processes) (pooled state process stacks).pages process there
    (omega arith)
    (λ page. found_other state.pages (Pool process) (ServerStack process page)
    (put_word (contents state (Pool process)) 0 (2 ^ stacks - 1))
    (name_other (Pool process) (ServerStack process page) (pools_differ process page)) ∙ none page)

pool_shaped : (placement : Placement) (state : State) (process stacks : ℕ)
    → StaysInPlace placement placement state (pooled state process stacks)
unfolding contents
pool_shaped placement state process stacks =
    stays_shaped placement state _
    (replaced_shapes state.pages (Pool process) (put_word (contents state (Pool process)) 0 (2 ^ stacks - 1))
    (length_put_word (contents state (Pool process)) 0 (2 ^ stacks - 1)))

server_sight : (state : State) (process handler stacks : ℕ)
    → SameSight (record (pooled state process stacks) { pages = (pooled state process stacks).pages ++ stacked process stacks })
    (with_server state process handler stacks)
unfolding with_server with_word with_contents thread_at
server_sight state process handler stacks = record {
  pages = λ name. refl;
  processes =
      registered_count (process_at state process) state.processes process (record { handler = handler; stacks = stacks });
  shows = λ thread view. refl;
  home = λ thread. refl;
}

-- the pool word is set, then the pages of the stacks are added in their order; what was there stays in its place
pub registered_keeps : RegistersKeep
unfolding with_word with_contents
registered_keeps placement state memory mid new process handler stacks pool keeps there few found none written adds =
    let pooled_keeps =
    subst (Keeps placement (with_word state (Pool process) 0 (2 ^ stacks - 1))) (sym written)
    (word_kept placement state memory (Pool process) pool 0 (2 ^ stacks - 1) keeps found refl (lit≤ tt)) in
    let are = stacks_new state process stacks there few none in
    let sight = server_sight state process handler stacks in
    kept_in_place placement (placed_all placement (process ∷ []) (stacked process stacks) mid new adds) state
    (with_server state process handler stacks) memory new keeps
    (keeps_moved _ _ (with_server state process handler stacks) new sight
    (pages_added (stacked process stacks) placement (pooled state process stacks) mid new (process ∷ []) pooled_keeps are adds))
    (stays_then placement placement (placed_all placement (process ∷ []) (stacked process stacks) mid new adds) state
    (pooled state process stacks) (with_server state process handler stacks)
    (pool_shaped placement state process stacks)
    (stays_then placement (placed_all placement (process ∷ []) (stacked process stacks) mid new adds)
    (placed_all placement (process ∷ []) (stacked process stacks) mid new adds) (pooled state process stacks) _
    (with_server state process handler stacks)
    (pages_stay (stacked process stacks) placement (pooled state process stacks) mid new (process ∷ []) are adds)
    (stays_moved _ _ (with_server state process handler stacks) sight)))
