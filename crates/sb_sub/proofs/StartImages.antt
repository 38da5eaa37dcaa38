-- The processes of a start are built one after another.
use Rattle.std.proofs.Common.{◌≡◌, ◌≢◌, ◌∙◌, sym, ap, subst, ℕ, zero, suc, ◌+◌, ◌<◌, ◌≤◌, ◌==◌, ◌⊎◌, inl, inr, Bool, true, false, List, [], ◌∷◌, ◌++◌, length, drop, refl, arith, append_assoc}
use Rattle.std.specs.Prelude.{Option, None, Some, map, slice_get, slice_set}
use Rattle.std.proofs.lemmas.Bool.{eqb-true, eqb-false}
use Rattle.std.proofs.lemmas.List.Sums.{sum_by-cons}
use Rattle.std.proofs.lemmas.List.{append-nil, length-append, length-set, drop_more}
use Rattle.std.proofs.lemmas.Option.{slice_get_within, unwrap_or-slice_get}
use Rattle.sb_memory.specs.Physical.{Physical}
use Rattle.sb_frames.specs.Book.{Book}
use Rattle.sb_pagewalk.specs.declared.table_set.TableSet.{TableSet}
use Rattle.sb_root.specs.declared.root_kernel.RootKernel.{RootKernel}
use Rattle.sb_state.specs.declared.page.Page.{Page}
use Rattle.sb_state.specs.State.{State, Process}
use Rattle.sb_state.specs.Start.{ProcessImage, images_pages, process_pages, start_process}
use Rattle.sb_state.proofs.Threads.{set_other}
use Rattle.sb_bundle.specs.declared.bundle.Image.{Image}
use Rattle.sb_rewrite.specs.RewrittenText.{RewrittenText}
use Rattle.sb_load.specs.Loading.{Load, IsLoadable, nothing}
use Rattle.sb_load.specs.FirstState.{image_of, images_of, images_loaded}
use Rattle.sb_load.proofs.Known.{text_count}
use Rattle.sb_plain.proofs.Starting.{IsReadAt, images_from}
use Rattle.sb_shows.specs.Placement.{Placement}
use Rattle.sb_shows.proofs.WholeStart.{no_process_yet}
use Rattle.sb_shows.proofs.ManyProcesses.{HasNoPagesFrom, with_images, other_process}
use Rattle.sb_mapping.specs.Carries.{Carries}
use Rattle.sb_mapping.specs.StartTables.{HasFreeRoots}
use Rattle.sb_mapping.specs.StartProcesses.{with_image, image_need, IsReadyForProcess, AddedProcess}
use Rattle.sb_sub.specs.Kernel.{Entry, process_of}
use Rattle.sb_sub.specs.Start.{HasSets, HasBegun, HasAllProcesses, bare_state, threadless_state, images_need, with_set, with_set_at}
use Rattle.sb_sub.proofs.Servable.{set_here}

-- ---- images that are left

pub images_more : (load : Load) (place : ℕ) (image : Image) (becomes : RewrittenText) → IsReadAt load place image becomes
    → images_from load place ≡ image_of image becomes ∷ images_from load (place + 1)
images_more load place image becomes read =
    let listed : place < length load.rewritten = omega (arith, read.below, text_count load read.loadable) in
    rw (
      drop_more load.bundle.images place image read.below,
      drop_more load.rewritten place nothing listed,
      ← unwrap_or-slice_get load.rewritten place nothing,
      ← read.of_text,
      ← read.of_bundle,
    ) refl

-- the processes of entries, and of one more
pub mapped_snoc : (entries : List Entry) (entry : Entry)
    → map process_of (entries ++ entry ∷ []) ≡ map process_of entries ++ process_of entry ∷ []
mapped_snoc [] entry = refl
mapped_snoc (first ∷ entries) entry = ap (λ (rest : List Process). process_of first ∷ rest) (mapped_snoc entries entry)

-- each process of a loaded bundle has an image
images_size : (images : List Image) (rewritten : List RewrittenText) → length rewritten ≡ length images
    → length (images_of images rewritten) ≡ length images
images_size [] rewritten is = refl
images_size (image ∷ images) [] is = absurd (omega (arith, is))
images_size (image ∷ images) (made ∷ others) is = ap (λ (n : ℕ). suc n) (images_size images others (omega (arith, is)))

pub images_count : (load : Load) → ∥ IsLoadable load ∥₁ → length (images_loaded load) ≡ length load.bundle.images
images_count load loadable = images_size load.bundle.images load.rewritten (text_count load loadable)

-- the first of the images that are left, and the others behind it
images_cons : (state : State) (process : ℕ) (image : ProcessImage) (images : List ProcessImage)
    → length state.processes ≡ process
    → with_images state process (image ∷ images) ≡ with_images (with_image state image) (process + 1) images
images_cons state process image images is =
    ap (λ (pages : List Page). record state {
      processes = state.processes ++ (start_process image ∷ map start_process images);
      pages = pages;
    }) (sym (append_assoc state.pages (process_pages process image) (images_pages (process + 1) images)))
    ∙ (ap (λ (processes : List Process). record state {
      processes = processes;
      pages = (state.pages ++ process_pages process image) ++ images_pages (process + 1) images;
    }) (sym (append_assoc state.processes (start_process image ∷ []) (map start_process images)))
    ∙ ap (λ (n : ℕ). record state {
      processes = (state.processes ++ start_process image ∷ []) ++ map start_process images;
      pages = (state.pages ++ process_pages n image) ++ images_pages (process + 1) images;
    }) (sym is))

-- ---- the tables that are kept

no_entry : (entries : List Entry) (process : ℕ) → slice_get entries process ≡ None → process < length entries → ⊥
no_entry [] process is below = omega (arith, below)
no_entry (entry ∷ entries) zero is below = let e = is in cc
no_entry (entry ∷ entries) (suc process) is below = no_entry entries process is (omega (arith, below))

-- the entry of a process, and the entries with its tables
record IsKept (found : Option Entry) (entries : List Entry) (process : ℕ) (set : TableSet) : Type 0 where
  entry : Entry
  is : slice_get entries process ≡ Some entry
  now : with_set_at found entries process set ≡ slice_set entries process (record entry { set = set })

kept_by : (found : Option Entry) (entries : List Entry) (process : ℕ) (set : TableSet)
    → slice_get entries process ≡ found → process < length entries → IsKept found entries process set
kept_by None entries process set is below = absurd (no_entry entries process is below)
kept_by (Some entry) entries process set is below = record { entry = entry; is = is; now = refl }

some_same : (first second : Entry) → Some first ≡ Some second → first ≡ second
some_same first second same = cc

some_set : (first second : Entry) → Some first ≡ Some second → second.set ≡ first.set
some_set first second same = cc

map_same : (entries : List Entry) (process : ℕ) (entry : Entry) (set : TableSet) → slice_get entries process ≡ Some entry
    → map process_of (slice_set entries process (record entry { set = set })) ≡ map process_of entries
map_same [] process entry set is = refl
map_same (first ∷ entries) zero entry set is =
    let same : first ≡ entry = some_same first entry is in
    ap (λ (process : Process). process ∷ map process_of entries) (sym (ap process_of same))
map_same (first ∷ entries) (suc process) entry set is =
    ap (λ (rest : List Process). process_of first ∷ rest) (map_same entries process entry set is)

module _ (entries : List Entry) (process : ℕ) (set : TableSet) (below : process < length entries) where
  abbrev found : IsKept (slice_get entries process) entries process set
  found = kept_by (slice_get entries process) entries process set refl below

  -- what is kept of processes beside their tables stays
  pub processes_same : map process_of (with_set entries process set) ≡ map process_of entries
  processes_same = ap (map process_of) found.now ∙ map_same entries process found.entry set found.is

  pub length_same : length (with_set entries process set) ≡ length entries
  length_same = ap length found.now ∙ length-set entries process (record found.entry { set = set })

  set_by : (same : Bool) (other : ℕ) (one : Entry) → (other == process) ≡ same
      → slice_get (with_set entries process set) other ≡ Some one
      → ((other ≡ process) × (one.set ≡ set)) ⊎ ((other ≢ process) × (slice_get entries other ≡ Some one))
  set_by true other one is there =
      let at = eqb-true other process is in
      let here = set_here entries process (record found.entry { set = set }) below in
      inl (
        at,
        some_set (record found.entry { set = set }) one
            (sym here ∙ (ap (slice_get (slice_set entries process (record found.entry { set = set }))) (sym at)
            ∙ (ap (λ (all : List Entry). slice_get all other) (sym found.now) ∙ there))),
      )
  set_by false other one is there =
      let differ = eqb-false other process is in
      inr (
        differ,
        sym (set_other entries process other (record found.entry { set = set }) differ)
            ∙ (ap (λ (all : List Entry). slice_get all other) (sym found.now) ∙ there),
      )

-- ---- what is built

-- A state is carried which, with the processes of the images that are left, is that of all processes.
pub record ImagesLeft (load : Load) (number : ℕ) (root : RootKernel) (book : Book) (memory : Physical)
    (entries : List Entry) : Type 0 where
  pub placement : Placement
  pub state : State
  pub carries : Carries placement root book memory state
  pub count : length state.processes ≡ number
  pub none : HasNoPagesFrom state.pages number
  pub roots : HasFreeRoots placement number
  pub sets : HasSets placement entries number
  pub whole : with_images state number (images_from load number) ≡ threadless_state load

pub ready : (load : Load) (number : ℕ) (root : RootKernel) (book : Book) (memory : Physical) (entries : List Entry)
    → (left : ImagesLeft load number root book memory entries)
    → IsReadyForProcess left.placement root book memory left.state number
ready load number root book memory entries left = record {
  carries = left.carries;
  count = left.count;
  none = left.none.none number (omega arith);
  roots = left.roots;
}

module _ (load : Load) (number : ℕ) (root root' : RootKernel) (book book' : Book) (memory new : Physical) (entries : List Entry)
    (image : Image) (becomes : RewrittenText) (set : TableSet) (read : IsReadAt load number image becomes)
    (left : ImagesLeft load number root book memory entries) (within : number < length entries)
    (added : AddedProcess left.placement root' book' new left.state number (image_of image becomes) set) where
  none_now : HasNoPagesFrom (left.state.pages ++ process_pages (length left.state.processes) (image_of image becomes))
      (number + 1)
  none_now = record {
    none = λ other above. other_process left.state.pages (length left.state.processes) other (image_of image becomes)
        (λ same. let is = left.count in absurd (omega (arith, is, same, above))) (left.none.none other (omega (arith, above)));
  }

  sets_by : (process : ℕ) (one : Entry) → process < number + 1
      → ((process ≡ number) × (one.set ≡ set)) ⊎ ((process ≢ number) × (slice_get entries process ≡ Some one))
      → added.after.sets process ≡ one.set
  sets_by process one below (inl (at, is)) = ap added.after.sets at ∙ (added.here ∙ sym is)
  sets_by process one below (inr (differ, is)) =
      added.others process differ ∙ left.sets process one (omega (arith, below, differ)) is

  -- one process more
  pub one_built : ImagesLeft load (number + 1) root' book' new (with_set entries number set)
  one_built = record {
    placement = added.after;
    state = with_image left.state (image_of image becomes);
    carries = added.carries;
    count = length-append left.state.processes (start_process (image_of image becomes) ∷ []) ∙ ap (λ (n : ℕ). n + 1) left.count;
    none = none_now;
    roots = added.roots;
    sets = λ process one below is. sets_by process one below
        (set_by entries number set within (process == number) process one refl is);
    whole = sym (images_cons left.state number (image_of image becomes) (images_from load (number + 1)) left.count)
        ∙ (ap (with_images left.state number) (sym (images_more load number image becomes read)) ∙ left.whole);
  }

-- before the first process
pub first_left : (load : Load) (root : RootKernel) (book : Book) (memory : Physical) (entries : List Entry)
    → HasBegun root book memory load → ImagesLeft load 0 root book memory entries
first_left load root book memory entries begun = record {
  placement = begun.placement;
  state = bare_state load;
  carries = begun.carries;
  count = refl;
  none = no_process_yet;
  roots = begun.roots;
  sets = λ process entry below is. absurd (omega (arith, below));
  whole = refl;
}

pub drop_past : {A : Type 0} (list : List A) (count : ℕ) → length list ≤ count → drop count list ≡ []
drop_past [] zero past = refl
drop_past [] (suc count) past = refl
drop_past (one ∷ list) zero past = absurd (omega (arith, past))
drop_past (one ∷ list) (suc count) past = drop_past list count (omega (arith, past))

pub none_from : (load : Load) (number : ℕ) → length load.bundle.images ≤ number → images_from load number ≡ []
none_from load number past =
    ap (λ (images : List Image). images_of images (drop number load.rewritten)) (drop_past load.bundle.images number past)

-- no image is left
pub all_built : (load : Load) (root : RootKernel) (book : Book) (memory : Physical) (entries : List Entry) (number : ℕ)
    → images_from load number ≡ [] → length entries ≤ number → ImagesLeft load number root book memory entries
    → HasAllProcesses root book memory load entries
all_built load root book memory entries number none all left = record {
  placement = left.placement;
  carries = subst (λ (state : State). Carries left.placement root book memory state)
      (sym (ap (λ (pages : List Page). record left.state { processes = left.state.processes ++ []; pages = pages })
      (append-nil left.state.pages)
      ∙ ap (λ (processes : List Process). record left.state { processes = processes }) (append-nil left.state.processes))
      ∙ (ap (with_images left.state number) (sym none) ∙ left.whole)) left.carries;
  sets = λ process entry is. left.sets process entry
      (let within = slice_get_within entries process entry is in omega (arith, within, all)) is;
}

-- ---- what images ask

pub need_more : (image : ProcessImage) (images : List ProcessImage)
    → images_need (image ∷ images) ≡ image_need image + images_need images
need_more image images = sum_by-cons image_need image images
