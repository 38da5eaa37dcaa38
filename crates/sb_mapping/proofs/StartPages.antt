-- Pages that are added one after another, over any placement.
use Rattle.std.proofs.Common.{◌≡◌, ◌≢◌, ◌∙◌, sym, ap, subst, ℕ, suc, ◌+◌, ◌*◌, ◌<◌, ◌≤◌, ◌==◌, Bool, false, List, [], ◌∷◌, ◌++◌, length, refl, arith}
use Rattle.std.specs.Prelude.{if◌then◌else◌, replicate}
use Rattle.std.proofs.lemmas.Bool.{ne_eqb}
use Rattle.std.proofs.lemmas.List.{length-replicate}
use Rattle.sb_memory.specs.Physical.{Physical, HasSize, frame_count}
use Rattle.sb_memory.specs.Reading.{with_bytes}
use Rattle.sb_memory.specs.Words.{put_bytes}
use Rattle.sb_frames.specs.Book.{Book}
use Rattle.sb_pagewalk.specs.declared.table_set.TableSet.{TableSet}
use Rattle.sb_pagewalk.specs.Windows.{IsInWindow, region_of, page_table_of}
use Rattle.sb_root.specs.declared.root_kernel.RootKernel.{RootKernel}
use Rattle.sb_root.specs.Calls.{IsFree}
use Rattle.sb_state.specs.declared.page.Mode.{Mode}
use Rattle.sb_state.specs.declared.page.Mode.TheVariants.{ReadWrite}
use Rattle.sb_state.specs.declared.page.PageName.{PageName}
use Rattle.sb_state.specs.declared.page.PageName.TheVariants as name
use Rattle.sb_state.specs.declared.page.Page.{Page}
use Rattle.sb_trace.specs.PageName.{mode_of}
use Rattle.sb_trace.specs.State.{page_with}
use Rattle.sb_trace.specs.PageWords.{zeros}
use Rattle.sb_trace.specs.Start.{ProcessImage, heap_pages, padded_pages, page_padded, pages_from, process_pages}
use Rattle.sb_shows.specs.Placement.{Placement, Unused, Holds, leaf_for, rights_for}
use Rattle.sb_shows.specs.Calls.{SetsPage, ExposesFrame, AddsPage, AddsPages, placed_with, placed_all}
use Rattle.sb_shows.specs.Fills.{FillsFrame}
use Rattle.sb_shows.specs.Windows.{page_number}
use Rattle.sb_shows.proofs.Fills.{pages_fill, images_fill}
use Rattle.sb_mapping.specs.declared.pages.ImagePart.{ImagePart}
use Rattle.sb_mapping.specs.declared.pages.ImagePart.TheVariants.{Text, Area, Data}
use Rattle.sb_mapping.specs.StartPages.{IsOver, AddedPages, AddsAll, heap_at, part_name, part_mode, part_at, part_pages}
use Rattle.sb_mapping.specs.Taking.{CanTake, TakesPage, page_kind}
use Rattle.sb_mapping.proofs.Stacks.{pages_snoc}
use Rattle.sb_mapping.proofs.Taken.{free_before}

-- ---- one page

module _ (set : TableSet) (root : RootKernel) (book book' : Book) (memory new : Physical) (process owner : ℕ)
    (name : PageName) (bytes : List ℕ) (can : CanTake set root book memory)
    (takes : TakesPage set root book book' memory new owner (4096 * page_number name) (mode_of name false) bytes)
    (placement : Placement) (over : IsOver placement root book) (is : placement.sets process ≡ set) where
  abbrev frame : ℕ
  frame = takes.frame.0

  adds_one : AddsPage placement (process ∷ []) (page_with name bytes) memory new
  adds_one = record {
    frame = frame;
    unused = over.unused frame takes.free;
    above = takes.free.0.0;
    below = (let size = can.booked.size in let inside = takes.free.0.1 in omega arith);
    filled = takes.filled;
    fills = record { same = takes.same; held = takes.held };
    mapped = takes.mapped;
    sets = (
      takes.mapped,
      subst (λ (one : TableSet). SetsPage one takes.filled takes.mapped (4096 * page_number name)
          (leaf_for takes.frame.0 (mode_of name false))) (sym is) takes.set_page,
      refl,
    );
    exposed = subst (λ (one : RootKernel). ExposesFrame one takes.mapped new frame (rights_for (mode_of name false)))
        (sym over.rooted) takes.exposed;
  }

  purpose_by : (other : ℕ) → other ≢ frame
      → (if other == frame then Holds name else placement.purpose other) ≡ placement.purpose other
  purpose_by other differ = ap (λ (test : Bool). if test then Holds name else placement.purpose other) (ne_eqb other frame differ)

  unused_now : (other : ℕ) → IsFree book' other → (if other == frame then Holds name else placement.purpose other) ≡ Unused
  unused_now other free =
      let before =
      free_before book frame other (page_kind (mode_of name false), owner) takes.free.0
      (subst (λ (one : Book). IsFree one other) takes.taken free) in
      purpose_by other before.1 ∙ over.unused other before.0

  low_now : (other : ℕ) → other < 512 → (if other == frame then Holds name else placement.purpose other) ≡ placement.purpose other
  low_now other below = purpose_by other (λ same. let above = takes.free.0.0 in absurd (omega (arith, same, above, below)))

  pub one_added : AddedPages placement process (page_with name bytes ∷ []) root book' memory new
  unfolding adds_one
  one_added = record {
    adds = (new, adds_one, refl);
    over = record { rooted = over.rooted; unused = unused_now };
    sets = λ one. refl;
    low = low_now;
  }

-- a page that was taken, filled, mapped and exposed is added over each placement
pub page_adds : (set : TableSet) (root : RootKernel) (book book' : Book) (memory new : Physical) (process owner : ℕ)
    (name : PageName) (bytes : List ℕ) → CanTake set root book memory
    → TakesPage set root book book' memory new owner (4096 * page_number name) (mode_of name false) bytes
    → AddsAll set root process (page_with name bytes ∷ []) book book' memory new
page_adds set root book book' memory new process owner name bytes can takes placement over is =
    one_added set root book book' memory new process owner name bytes can takes placement over is

-- ---- some pages, and then others

-- the pages of both, and the placement is that with the second over that with the first
record BothAdded (placement : Placement) (processes : List ℕ) (pages : List Page) (after : Placement)
    (old new : Physical) : Type 0 where
  adds : AddsPages placement processes pages old new
  same : placed_all placement processes pages old new adds ≡ after

both_by : (first second : List Page) (placement : Placement) (processes : List ℕ) (old mid new : Physical)
    (adds : AddsPages placement processes first old mid)
    (next : AddsPages (placed_all placement processes first old mid adds) processes second mid new)
    → BothAdded placement processes (first ++ second)
    (placed_all (placed_all placement processes first old mid adds) processes second mid new next) old new
both_by [] second placement processes old mid new adds next =
    subst (λ (start : Physical). BothAdded placement processes second (placed_all placement processes second mid new next)
    start new) adds (record { adds = next; same = refl })
both_by (page ∷ first) second placement processes old mid new adds next =
    let rest = both_by first second (placed_with placement page.name adds.1.frame) processes adds.0 mid new adds.2 next in
    record { adds = (adds.0, adds.1, rest.adds); same = rest.same }

pub both_added : (set : TableSet) (root : RootKernel) (process : ℕ) (first second : List Page) (book between book' : Book)
    (old mid new : Physical) → AddsAll set root process first book between old mid
    → AddsAll set root process second between book' mid new → AddsAll set root process (first ++ second) book book' old new
both_added set root process first second book between book' old mid new one two placement over is =
    let begun = one placement over is in
    let done = two (placed_all placement (process ∷ []) first old mid begun.adds) begun.over (begun.sets process ∙ is) in
    let both = both_by first second placement (process ∷ []) old mid new begun.adds done.adds in
    record {
      adds = both.adds;
      over = subst (λ (after : Placement). IsOver after root book') (sym both.same) done.over;
      sets = λ other. ap (λ (after : Placement). after.sets other) both.same ∙ (done.sets other ∙ begun.sets other);
      low = λ frame below. ap (λ (after : Placement). after.purpose frame) both.same
          ∙ (done.low frame below ∙ begun.low frame below);
    }

-- ---- the parts of a process

pub part_window : (part : ImagePart) (page : ℕ) → page < part_pages part → IsInWindow (part_at part page)
unfolding page_table_of
part_window Text page few = let region : region_of (part_at Text page) ≡ 2 = omega (arith, few) in rw region (λ e. cc)
part_window Area page few = let region : region_of (part_at Area page) ≡ 0 = omega (arith, few) in rw region (λ e. cc)
part_window Data page few = let region : region_of (part_at Data page) ≡ 4 = omega (arith, few) in rw region (λ e. cc)

pub part_number : (part : ImagePart) (process page : ℕ) → 4096 * page_number (part_name part process page) ≡ part_at part page
unfolding page_number
part_number Text process page = refl
part_number Area process page = refl
part_number Data process page = refl

pub part_mode_is : (part : ImagePart) (process page : ℕ) → mode_of (part_name part process page) false ≡ part_mode part
unfolding mode_of
part_mode_is Text process page = refl
part_mode_is Area process page = refl
part_mode_is Data process page = refl

-- ---- pages at addresses

-- a page that was taken at the address of its name, in its mode, is added
pub page_adds_at : (set : TableSet) (root : RootKernel) (book book' : Book) (memory new : Physical) (process owner at : ℕ)
    (mode : Mode) (name : PageName) (bytes contents : List ℕ) → CanTake set root book memory
    → TakesPage set root book book' memory new owner at mode bytes
    → at ≡ 4096 * page_number name → mode_of name false ≡ mode → bytes ≡ contents
    → AddsAll set root process (page_with name contents ∷ []) book book' memory new
page_adds_at set root book book' memory new process owner at mode name bytes contents can takes here is same =
    page_adds set root book book' memory new process owner name contents can
    (subst (λ (one : List ℕ). TakesPage set root book book' memory new owner (4096 * page_number name) (mode_of name false) one)
    same
    (subst (λ (one : Mode). TakesPage set root book book' memory new owner (4096 * page_number name) one bytes) (sym is)
    (subst (λ (place : ℕ). TakesPage set root book book' memory new owner place mode bytes) here takes)))

-- one page more behind those from the first on
pub page_more : (set : TableSet) (root : RootKernel) (process : ℕ) (page : ℕ → Page) (count : ℕ) (book between book' : Book)
    (old mid new : Physical) → AddsAll set root process (pages_from page 0 count) book between old mid
    → AddsAll set root process (page count ∷ []) between book' mid new
    → AddsAll set root process (pages_from page 0 (count + 1)) book book' old new
page_more set root process page count book between book' old mid new before one =
    let last : page count ∷ [] ≡ page (0 + count) ∷ [] = ap (λ (n : ℕ). page n ∷ []) (omega arith) in
    let next : suc count ≡ count + 1 = omega arith in
    subst (λ (pages : List Page). AddsAll set root process pages book book' old new)
    (ap (λ (pages : List Page). pages_from page 0 count ++ pages) last
    ∙ (sym (pages_snoc page 0 count) ∙ ap (pages_from page 0) next))
    (both_added set root process (pages_from page 0 count) (page count ∷ []) book between book' old mid new before one)

pub heap_number : (process page : ℕ) → heap_at page ≡ 4096 * page_number (name.Heap process page)
unfolding page_number
heap_number process page = omega arith

pub heap_mode_is : (process page : ℕ) → mode_of (name.Heap process page) false ≡ ReadWrite
unfolding mode_of
heap_mode_is process page = refl

pub pool_number : (process : ℕ) → 0x70006000 ≡ 4096 * page_number (name.Pool process)
unfolding page_number
pool_number process = refl

pub pool_mode_is : (process : ℕ) → mode_of (name.Pool process) false ≡ ReadWrite
unfolding mode_of
pool_mode_is process = refl

pub pool_window : page_table_of 896 ≢ 0
unfolding page_table_of
pool_window = λ e. cc

-- ---- a frame that is filled

-- a page is put into a frame
pub page_put : (memory new : Physical) (frame at : ℕ) (page : List ℕ) → HasSize memory → frame < frame_count memory
    → length page ≡ 4096 → at ≡ 4096 * frame → new ≡ with_bytes memory (put_bytes memory.bytes at page)
    → FillsFrame frame page memory new
page_put memory new frame at page size inside whole here written =
    subst (FillsFrame frame page memory)
    (sym (written ∙ ap (λ (n : ℕ). with_bytes memory (put_bytes memory.bytes n page)) here))
    (pages_fill memory frame page size inside whole)

-- a filler is put into a frame, and bytes over it
pub image_filled : (memory mid new : Physical) (frame filler at again : ℕ) (bytes : List ℕ) → HasSize memory
    → frame < frame_count memory → length bytes ≤ 4096 → at ≡ 4096 * frame → again ≡ 4096 * frame
    → mid ≡ with_bytes memory (put_bytes memory.bytes at (replicate 4096 filler)) → HasSize mid
    → new ≡ with_bytes mid (put_bytes mid.bytes again bytes) → FillsFrame frame (page_padded filler bytes) memory new
image_filled memory mid new frame filler at again bytes size inside few here once_more written size_mid over =
    let first = written ∙ ap (λ (n : ℕ). with_bytes memory (put_bytes memory.bytes n (replicate 4096 filler))) here in
    let filled = subst (FillsFrame frame (replicate 4096 filler) memory) (sym first)
    (pages_fill memory frame (replicate 4096 filler) size inside (length-replicate 4096 filler)) in
    let within = subst (λ (n : ℕ). frame < n) (ap length (sym filled.same.present)) inside in
    subst (FillsFrame frame (page_padded filler bytes) memory)
    (sym (over ∙ ap (λ (n : ℕ). with_bytes mid (put_bytes mid.bytes n bytes)) once_more))
    (images_fill memory mid frame filler bytes size_mid within few filled)

-- ---- the pages of a process

moved_root : (set : TableSet) (root first : RootKernel) (process : ℕ) (pages : List Page) (book book' : Book)
    (memory new : Physical) → root ≡ first → AddsAll set root process pages book book' memory new
    → AddsAll set first process pages book book' memory new
moved_root set root first process pages book book' memory new is adds =
    subst (λ (one : RootKernel). AddsAll set one process pages book book' memory new) is adds

-- text, rewrite area, initial data, heap and pool page, one after another
pub process_pages_added : (set : TableSet) (root one two three four : RootKernel) (process : ℕ) (image : ProcessImage)
    (b0 b1 b2 b3 b4 b5 : Book) (m0 m1 m2 m3 m4 m5 : Physical) → one ≡ root → two ≡ one → three ≡ two → four ≡ three
    → AddsAll set root process (padded_pages (name.Text process) 0xCC image.text) b0 b1 m0 m1
    → AddsAll set one process (padded_pages (name.Area process) 0xCC image.area) b1 b2 m1 m2
    → AddsAll set two process (padded_pages (name.Data process) 0 image.initial) b2 b3 m2 m3
    → AddsAll set three process (heap_pages process image.heap_pages) b3 b4 m3 m4
    → AddsAll set four process (page_with (name.Pool process) zeros ∷ []) b4 b5 m4 m5
    → AddsAll set root process (process_pages process image) b0 b5 m0 m5
unfolding process_pages
process_pages_added set root one two three four process image b0 b1 b2 b3 b4 b5 m0 m1 m2 m3 m4 m5 e1 e2 e3 e4 text area initial
    heap pool =
    let e02 = e2 ∙ e1 in
    let e03 = e3 ∙ e02 in
    let e04 = e4 ∙ e03 in
    both_added set root process (padded_pages (name.Text process) 0xCC image.text) _ b0 b1 b5 m0 m1 m5 text
    (both_added set root process (padded_pages (name.Area process) 0xCC image.area) _ b1 b2 b5 m1 m2 m5
    (moved_root set one root process _ b1 b2 m1 m2 e1 area)
    (both_added set root process (padded_pages (name.Data process) 0 image.initial) _ b2 b3 b5 m2 m3 m5
    (moved_root set two root process _ b2 b3 m2 m3 e02 initial)
    (both_added set root process (heap_pages process image.heap_pages) _ b3 b4 b5 m3 m4 m5
    (moved_root set three root process _ b3 b4 m3 m4 e03 heap)
    (moved_root set four root process _ b4 b5 m4 m5 e04 pool))))
