-- The pages of server stacks, added one after another.
use Rattle.std.proofs.Common.{◌≡◌, ◌∙◌, sym, ap, subst, ℕ, zero, suc, ◌+◌, ◌*◌, ◌%◌, ◌<◌, ◌≤◌, ◌==◌, Bool, true, false, List, [], ◌∷◌, ◌++◌, length, refl, arith, append_assoc}
use Rattle.std.specs.Prelude.{None, if◌then◌else◌}
use Rattle.std.proofs.lemmas.List.{append-nil}
use Rattle.sb_memory.specs.Physical.{Physical}
use Rattle.sb_memory.specs.Words.{put_word}
use Rattle.sb_frames.specs.Book.{Book}
use Rattle.sb_pagewalk.specs.declared.table_set.TableSet.{TableSet}
use Rattle.sb_pagewalk.specs.Windows.{IsInWindow, region_of, page_table_of}
use Rattle.sb_root.specs.declared.root_kernel.RootKernel.{RootKernel}
use Rattle.sb_state.specs.declared.page.PageName.{PageName}
use Rattle.sb_state.specs.declared.page.PageName.TheVariants.{ServerStack}
use Rattle.sb_state.specs.declared.page.Page.{Page}
use Rattle.sb_state.specs.declared.page.Mode.{Mode}
use Rattle.sb_state.specs.declared.page.Mode.TheVariants.{ReadWrite}
use Rattle.sb_trace.specs.PageName.{mode_of}
use Rattle.sb_trace.specs.PageWords.{zeros}
use Rattle.sb_trace.specs.State.{State, find_page, page_with}
use Rattle.sb_trace.specs.Start.{pages_from}
use Rattle.sb_trace.specs.SyscallRegister.{stack_bytes, server_stack_page}
use Rattle.sb_state.proofs.Names.{name_other}
use Rattle.sb_shows.specs.Placement.{Placement, IsThere, is_own}
use Rattle.sb_shows.specs.Windows.{page_number}
use Rattle.sb_shows.specs.Calls.{IsNewPage, placed_with}
use Rattle.sb_shows.proofs.Adding.{added_other}
use Rattle.sb_shows.proofs.Registering.{stack_seen, stack_size, stacks_differ}
use Rattle.sb_mapping.specs.Taking.{TakesPage, top_bytes}
use Rattle.sb_mapping.specs.Carries.{Carries, StaysPlaced, TakesStacks, stack_at, stack_top}
use Rattle.sb_mapping.proofs.Carried.{page_carried, page_stays}

pub window_of_stack : (page : ℕ) → page < 512 → IsInWindow (stack_at page)
unfolding page_table_of
window_of_stack page few = let region : region_of (stack_at page) ≡ 32 = omega arith in rw region (λ e. cc)

tops : (last : Bool) → top_bytes (if last then 0x70000000 else 0) ≡ (if last then put_word zeros 0xFF8 0x70000000 else zeros)
tops true = refl
tops false = refl

stack_page : (process page : ℕ)
    → page_with (ServerStack process page) (top_bytes (stack_top page)) ≡ server_stack_page process page
unfolding stack_bytes
stack_page process page = ap (page_with (ServerStack process page)) (tops (page % 4 == 3))

writable : (process page : ℕ) → mode_of (ServerStack process page) false ≡ ReadWrite
unfolding mode_of
writable process page = refl

shared : (process page : ℕ) → is_own (ServerStack process page) ≡ false
unfolding is_own
shared process page = refl

address : (process page : ℕ) → 4096 * page_number (ServerStack process page) ≡ stack_at page
unfolding page_number
address process page = refl

pub pages_snoc : (page : ℕ → Page) (first count : ℕ)
    → pages_from page first (suc count) ≡ pages_from page first count ++ page (first + count) ∷ []
pages_snoc page first zero = ap (λ (n : ℕ). page n ∷ []) (omega arith)
pages_snoc page first (suc count) =
    ap (λ (pages : List Page). page first ∷ pages) (pages_snoc page (first + 1) count
    ∙ ap (λ (n : ℕ). pages_from page (first + 1) count ++ page n ∷ []) (omega arith))

-- what stands after so many pages
pub record StacksCarried (placement : Placement) (root : RootKernel) (book : Book) (memory : Physical) (state : State)
    (process count : ℕ) : Type 0 where
  pub after : Placement
  pub carries : Carries after root book memory
      (record state { pages = state.pages ++ pages_from (server_stack_page process) 0 count })
  pub stays : StaysPlaced placement after state
  pub absent : (page : ℕ) → count ≤ page
      → find_page (state.pages ++ pages_from (server_stack_page process) 0 count) (ServerStack process page) ≡ None
  pub before : (name : PageName) → IsThere state.pages name
      → IsThere (state.pages ++ pages_from (server_stack_page process) 0 count) name

there_added : (pages : List Page) (page : Page) (name : PageName) → find_page pages page.name ≡ None → IsThere pages name
    → IsThere (pages ++ page ∷ []) name
there_added pages page name absent (one, found) = (
  one,
  added_other pages page name
      (name_other page.name name (λ same. let e = sym absent ∙ (ap (find_page pages) same ∙ found) in cc)) ∙ found,
)

module _ (placement : Placement) (root : RootKernel) (memory : Physical) (state : State) (process owner : ℕ)
    (there : process < length state.processes) where
  abbrev with_stacks : ℕ → List Page
  with_stacks count = state.pages ++ pages_from (server_stack_page process) 0 count

  more : (count : ℕ) → with_stacks count ++ server_stack_page process count ∷ [] ≡ with_stacks (suc count)
  more count =
      append_assoc state.pages (pages_from (server_stack_page process) 0 count) (server_stack_page process count ∷ [])
      ∙ ap (λ (pages : List Page). state.pages ++ pages)
      (ap (λ (n : ℕ). pages_from (server_stack_page process) 0 count ++ server_stack_page process n ∷ []) (omega arith)
      ∙ sym (pages_snoc (server_stack_page process) 0 count))

  new_page : (count : ℕ) (pages : List Page) → count < 512 → find_page pages (ServerStack process count) ≡ None
      → IsNewPage state.threads (length state.processes) pages (process ∷ []) (server_stack_page process count)
  new_page count pages few absent =
      record {
        absent = absent;
        shared_page = shared process count;
        size = stack_size count;
        seen = stack_seen state.threads (length state.processes) process count there few;
      }

  one_more : (count : ℕ) (before book' : Book) (mid new : Physical) → count < 512
      → StacksCarried placement root before mid state process count
      → TakesPage (placement.sets process) root before book' mid new owner (stack_at count) ReadWrite
      (top_bytes (stack_top count))
      → StacksCarried placement root book' new state process (suc count)
  one_more count before book' mid new few carried takes =
      let moved : TakesPage (carried.after.sets process) root before book' mid new owner
      (4096 * page_number (ServerStack process count)) (mode_of (ServerStack process count) false)
      (top_bytes (stack_top count)) =
      subst (λ (mode : Mode). TakesPage (carried.after.sets process) root before book' mid new owner
      (4096 * page_number (ServerStack process count)) mode (top_bytes (stack_top count)))
      (sym (writable process count))
      (subst (λ (at : ℕ). TakesPage (carried.after.sets process) root before book' mid new owner at ReadWrite
      (top_bytes (stack_top count)))
      (sym (address process count))
      (subst (λ (set : TableSet). TakesPage set root before book' mid new owner (stack_at count) ReadWrite
      (top_bytes (stack_top count)))
      (sym (carried.stays.sets process)) takes)) in
      let absent = carried.absent count (omega arith) in
      let fresh =
      subst (IsNewPage state.threads (length state.processes) (with_stacks count) (process ∷ []))
      (sym (stack_page process count)) (new_page count (with_stacks count) few absent) in
      let now =
      page_carried carried.after root before mid (record state { pages = with_stacks count }) carried.carries process there
      (ServerStack process count) owner (top_bytes (stack_top count)) book' new moved fresh in
      let stay =
      page_stays carried.after root before mid (record state { pages = with_stacks count }) carried.carries process there
      (ServerStack process count) owner (top_bytes (stack_top count)) book' new moved fresh in
      let pages = ap (λ (page : Page). with_stacks count ++ page ∷ []) (stack_page process count) ∙ more count in
      record {
        after = placed_with carried.after (ServerStack process count) moved.frame.0;
        carries =
            subst (λ (all : List Page). Carries (placed_with carried.after (ServerStack process count) moved.frame.0) root book'
            new (record state { pages = all })) pages now;
        stays = record {
          frames = λ name is. stay.frames name (carried.before name is) ∙ carried.stays.frames name is;
          sets = λ one. stay.sets one ∙ carried.stays.sets one;
        };
        absent = λ page above.
            ap (λ (all : List Page). find_page all (ServerStack process page)) (sym (more count))
            ∙ (added_other (with_stacks count) (server_stack_page process count) (ServerStack process page)
            (name_other (ServerStack process count) (ServerStack process page) (stacks_differ process count page (omega arith)))
            ∙ carried.absent page (omega arith));
        before =
            λ name is. subst (λ (all : List Page). IsThere all name) (more count)
            (there_added (with_stacks count) (server_stack_page process count) name absent (carried.before name is));
      }

  pub stacks_carried : (count : ℕ) (book book' : Book) (new : Physical) → Carries placement root book memory state
      → count ≤ 512 → ((page : ℕ) → find_page state.pages (ServerStack process page) ≡ None)
      → TakesStacks (placement.sets process) root book book' memory new owner count
      → StacksCarried placement root book' new state process count
  stacks_carried zero book book' new carries few none takes = record {
    after = placement;
    carries =
        subst (λ (all : List Page). Carries placement root book' new (record state { pages = all }))
        (sym (append-nil state.pages))
        (subst (λ (one : Book). Carries placement root one new state) (sym takes.0)
        (subst (λ (one : Physical). Carries placement root book one state) (sym takes.1) carries));
    stays = record { frames = λ name is. refl; sets = λ one. refl };
    absent =
        λ page above. subst (λ (all : List Page). find_page all (ServerStack process page) ≡ None) (sym (append-nil state.pages))
        (none page);
    before = λ name is. subst (λ (all : List Page). IsThere all name) (sym (append-nil state.pages)) is;
  }
  stacks_carried (suc count) book book' new carries few none takes =
      one_more count takes.0 book' takes.1 new (omega arith)
      (stacks_carried count book takes.0 takes.1 carries (omega arith) none takes.2) takes.3
