-- A root kernel that was just built stands.
use Rattle.std.proofs.Common.{◌≡◌, ℕ, ◌+◌, ◌<◌, ◌≤◌, List, [], ◌∷◌, length, get_or, refl, ap, ◌∙◌, inl, inr, arith}
use Rattle.std.specs.Prelude.{Option, None, Some, replicate}
use Rattle.std.specs.List.{Contains}
use Rattle.std.proofs.lemmas.Bool.{cases_lt}
use Rattle.std.proofs.lemmas.List.{length-replicate, get_or-replicate}
use Rattle.std.proofs.Math.ListN.{get_or-eq_default}
use Rattle.std.proofs.lemmas.List.Elements.{Contains-get_or}
use Rattle.sb_memory.specs.Physical.{Physical, HasSize, HasAllFrames, frame_count}
use Rattle.sb_memory.specs.Words.{word_at}
use Rattle.sb_memory.specs.Changes.{SameOutside}
use Rattle.sb_memory.proofs.Changes.{same_outside_then}
use Rattle.sb_memory.specs.declared.address.Frame.{Frame}
use Rattle.sb_frames.specs.Book.{Book}
use Rattle.sb_root.specs.declared.view.View.{View}
use Rattle.sb_root.specs.Tables.{IsPage, IsRootMemory, HasTables, base_tables, base_entries, base_frames, shared_frames, shared_place, from_start, upper_entries, directory_entries}
use Rattle.sb_root.specs.Root.{IsShaped, Use, ListOf, PartOf, eptp_list_frame, view_of, no_threads, part_in, list_frame_in, used_frame}
use Rattle.sb_root.specs.Standing.{Stands, IsBooked}
use Rattle.sb_root.proofs.Frames.{base_upper, base_shared, shared_small, not_one, same_within, same_within_one}
use Rattle.sb_root.proofs.Leaves.{exposed_by}
use Rattle.sb_root.proofs.LowPages.{alike_page}
use Rattle.sb_root.proofs.Stays.{page_stays, stays_outside}

-- what replicates a value holds it at each index, or nothing
pub repeated : {A : Type 0} (count index : ℕ) (value : A) → get_or (replicate count value) index value ≡ value
repeated count index value = elim (cases_lt index count) [
  | inl within ↦ get_or-replicate count index value value within
  | inr beyond ↦ let size = length-replicate count value in
      get_or-eq_default (replicate count value) value {n = index} (omega arith)
]

abbrev nothing : Option View
nothing = None

abbrev no_frame : Option Frame
no_frame = None

no_list : (thread : ℕ) → eptp_list_frame no_threads thread ≡ None
no_list thread = repeated 32 thread no_frame

no_view : (thread index : ℕ) → view_of no_threads thread index ≡ None
no_view thread index = elim (cases_lt thread 32) [
  | inl within ↦
      ap (λ (views : List (Option View)). get_or views index None) (get_or-replicate 32 thread (replicate 16 nothing) [] within)
      ∙ repeated 16 index nothing
  | inr beyond ↦
      let size = length-replicate 32 (replicate 16 nothing) in
      ap (λ (views : List (Option View)). get_or views index None)
      (get_or-eq_default (replicate 32 (replicate 16 nothing)) [] {n = thread} (omega arith))
]

none_used : (purpose : Use) (frame : ℕ) → used_frame no_threads purpose ≡ Some frame → ⊥
none_used (ListOf thread) frame used = let none = ap list_frame_in (no_list thread) in cc
none_used (PartOf thread index part) frame used =
    let none = ap (λ (kept : Option View). part_in kept part) (no_view thread index) in cc

shape : IsShaped no_threads
shape = record {
  lists = length-replicate 32 no_frame;
  threads = length-replicate 32 (replicate 16 nothing);
  views = λ thread within. ap length (get_or-replicate 32 thread (replicate 16 nothing) [] within) ∙ length-replicate 16 nothing;
}

no_list_kept : (thread : ℕ) (frame : Frame) → eptp_list_frame no_threads thread ≡ Some frame → ⊥
no_list_kept thread frame is = let none = no_list thread in cc

no_view_kept : (thread index : ℕ) (view : View) → view_of no_threads thread index ≡ Some view → ⊥
no_view_kept thread index view is = let none = no_view thread index in cc

pub booked_empty : (book : Book) (memory : Physical) → length book + 512 ≡ frame_count memory → IsBooked no_threads book memory
booked_empty book memory size = record { size = size; held = λ purpose frame used. absurd (none_used purpose frame used) }

-- what holds of the base that was just built
pub record IsBuilt (old new : Physical) : Type 0 where
  pub whole : IsRootMemory new
  pub tables : HasTables new base_tables base_entries
  pub stands : Stands no_threads new
  pub same : SameOutside base_frames old new

pub built : (old upper low new : Physical) (entries : List ℕ) → 513 ≤ frame_count old → frame_count old ≤ 8192
    → IsPage upper 5 (upper_entries 6) → IsPage upper 6 (upper_entries 7) → IsPage upper 7 (directory_entries 32)
    → SameOutside (5 ∷ 6 ∷ 7 ∷ []) old upper
    → ((page : ℕ) → get_or entries page 0 ≡ base_entries page) → IsPage low 32 (from_start entries)
    → SameOutside (32 ∷ []) upper low
    → ((page : ℕ) → 512 ≤ page → page < 8192 → word_at new.bytes (shared_place page) ≡ 0) → HasSize new
    → SameOutside shared_frames low new → HasAllFrames new
    → IsBuilt old new
built old upper low new entries least most root pointers directory same_upper made first same_first zeros size same_shared all =
    let present : new.present ≡ old.present = same_shared.present ∙ same_first.present ∙ same_upper.present in
    let not_shared : (frame : ℕ) → frame < 33 → ¬ Contains shared_frames frame =
    λ frame below among. let range = shared_small frame among in omega arith in
    let behind : (frame : ℕ) (page : ℕ → ℕ) → frame < 32 → IsPage upper frame page → IsPage new frame page =
    λ frame page below standing.
    page_stays low new frame page (stays_outside shared_frames low new frame same_shared (not_shared frame (omega arith)))
    (page_stays upper low frame page (stays_outside (32 ∷ []) upper low frame same_first (not_one 32 frame (omega arith)))
    standing) in
    let enough : 513 ≤ frame_count new = rw present least in
    let whole : IsRootMemory new = record { size = size; all = all; least = enough; most = rw present most } in
    let tables : HasTables new base_tables base_entries = record {
      root = behind 5 (upper_entries 6) (omega arith) root;
      pointers = behind 6 (upper_entries 7) (omega arith) pointers;
      directory = behind 7 (directory_entries 32) (omega arith) directory;
      first = page_stays low new 32 base_entries
          (stays_outside shared_frames low new 32 same_shared (not_shared 32 (omega arith)))
          (alike_page low 32 (from_start entries) base_entries made first);
      inside = (omega arith, omega arith, omega arith, omega arith);
    } in
    record {
      whole = whole;
      tables = tables;
      stands = record {
        shape = shape;
        whole = whole;
        base = record {
          tables = tables;
          shared = λ page from below. exposed_by new page 0 (zeros page from below) refl (λ some. absurd (some refl));
        };
        lists = λ thread frame is. absurd (no_list_kept thread frame is);
        views = λ thread index view is. absurd (no_view_kept thread index view is);
        listed = λ thread index view is. absurd (no_view_kept thread index view is);
        inside = λ purpose frame used. absurd (none_used purpose frame used);
        apart = λ first second frame one two. absurd (none_used first frame one);
      };
      same = same_outside_then base_frames old upper new
          (same_within (5 ∷ 6 ∷ 7 ∷ []) base_frames old upper base_upper same_upper)
          (same_outside_then base_frames upper low new
          (same_within_one 32 base_frames upper low
          (Contains-get_or (5 ∷ 6 ∷ 7 ∷ 32 ∷ shared_frames) 3 0 (omega arith)) same_first)
          (same_within shared_frames base_frames low new base_shared same_shared));
    }
