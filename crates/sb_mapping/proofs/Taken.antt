-- A frame is taken, filled, mapped and exposed: what stands afterwards.
use Rattle.std.proofs.Common.{◌≡◌, ◌≢◌, ◌∙◌, sym, ap, subst, ℕ, zero, ◌+◌, ◌-◌, ◌/◌, ◌%◌, ◌<◌, ◌==◌, Bool, true, false, [], ◌∷◌, get_or, refl, lit<, arith}
use Rattle.std.specs.Prelude.{Some, None, slice_set}
use Rattle.std.proofs.lemmas.List.{get_or-set_same, get_or-set_other, length-set}
use Rattle.std.proofs.lemmas.Bool.{eqb-true, eqb-false}
use Rattle.sb_memory.specs.Physical.{Physical, frame_of}
use Rattle.sb_memory.specs.Changes.{SameOutside}
use Rattle.sb_memory.specs.Reading.{with_bytes}
use Rattle.sb_memory.specs.Words.{put_word}
use Rattle.sb_memory.proofs.Changes.{same_outside_word}
use Rattle.sb_frames.specs.declared.kind.Kind.{Kind}
use Rattle.sb_frames.specs.Book.{Book, IsInBook, with_holder}
use Rattle.sb_pagewalk.specs.declared.table_set.TableSet.{TableSet}
use Rattle.sb_pagewalk.specs.Windows.{region_of, page_table_of}
use Rattle.sb_pagewalk.specs.TableSet.{table_frame, page_place}
use Rattle.sb_pagewalk.specs.Standing.{HasTables, IsApart as IsSetApart}
use Rattle.sb_pagewalk.proofs.Regions.{page_table_small}
use Rattle.sb_pagewalk.proofs.Untouched.{tables_stay}
use Rattle.sb_root.specs.declared.root_kernel.RootKernel.{RootKernel}
use Rattle.sb_root.specs.Entry.{leaf_to}
use Rattle.sb_root.specs.Root.{Use, used_frame}
use Rattle.sb_root.specs.Tables.{shared_place, shared_table}
use Rattle.sb_root.specs.Standing.{IsApart as IsRootApart, IsBooked, Stands}
use Rattle.sb_root.specs.Calls.{IsFree}
use Rattle.sb_root.proofs.Frames.{shared_in_base}
use Rattle.sb_root.proofs.Kept.{stands_kept}
use Rattle.sb_root.proofs.Between.{booked_kept, booked_beside}
use Rattle.sb_shows.proofs.Protecting.{base_word}
use Rattle.sb_mapping.specs.Taking.{CanTake}

-- ---- the book

free_by : (book : Book) (frame other : ℕ) (held : Kind × ℕ) → IsInBook book frame
    → IsFree (with_holder book frame (Some held)) other → (same : Bool) → (other == frame) ≡ same
    → IsFree book other × (other ≢ frame)
free_by book frame other held inside free true is =
    let here : other ≡ frame = eqb-true other frame is in
    let e = sym (get_or-set_same book (frame - 512) (Some held) None (omega arith))
    ∙ (ap (λ (n : ℕ). get_or (slice_set book (frame - 512) (Some held)) (n - 512) None) (sym here) ∙ free.1) in
    absurd (let f = e in cc)
free_by book frame other held inside free false is =
    let apart = eqb-false other frame is in
    let few = length-set book (frame - 512) (Some held) in
    let places : other - 512 ≢ frame - 512 = λ same. apart (omega (arith, same)) in (
      (
        (free.0.0, subst (λ (n : ℕ). other < 512 + n) few free.0.1),
        sym (get_or-set_other book (frame - 512) (other - 512) (Some held) None places) ∙ free.1,
      ),
      apart,
    )

-- what is free after a frame was taken was free before, and is another frame
pub free_before : (book : Book) (frame other : ℕ) (held : Kind × ℕ) → IsInBook book frame
    → IsFree (with_holder book frame (Some held)) other → IsFree book other × (other ≢ frame)
free_before book frame other held inside free = free_by book frame other held inside free (other == frame) refl

-- ---- the memories between

pub set_word : (set : TableSet) (memory new : Physical) (at entry : ℕ)
    → new ≡ with_bytes memory (put_word memory.bytes (page_place set at) entry)
    → SameOutside (table_frame set (page_table_of (region_of at)) ∷ []) memory new
set_word set memory new at entry written =
    let place : frame_of (page_place set at) ≡ table_frame set (page_table_of (region_of at)) = omega arith in
    subst (SameOutside (table_frame set (page_table_of (region_of at)) ∷ []) memory) (sym written)
    (same_outside_word _ memory (page_place set at) entry (omega arith) (zero, lit< tt, sym place))

module _ (set : TableSet) (root : RootKernel) (book : Book) (memory filled : Physical) (frame : ℕ)
    (can : CanTake set root book memory) (free : IsFree book frame)
    (same : SameOutside (frame ∷ []) memory filled) where
  pub tables_filled : HasTables set filled
  tables_filled = tables_stay set (frame ∷ []) memory filled can.tables can.stands.whole.size same (can.set_apart frame free)

  pub stands_filled : Stands root filled
  stands_filled = stands_kept root (frame ∷ []) memory filled can.stands same (can.root_apart frame free)

  module _ (mapped : Physical) (at entry : ℕ)
      (written : mapped ≡ with_bytes filled (put_word filled.bytes (page_place set at) entry)) where
    pub stands_mapped : Stands root mapped
    stands_mapped =
        stands_kept root _ filled mapped stands_filled (set_word set filled mapped at entry written)
        (can.table_apart (page_table_of (region_of at)) (page_table_small (region_of at)))

    module _ (new : Physical) (book' : Book) (rights : ℕ) (held : Kind
        × ℕ) (tables : HasTables set mapped)
        (exposed : new ≡ with_bytes mapped (put_word mapped.bytes (shared_place frame) (leaf_to frame rights)))
        (stands : Stands root new) (taken : book' ≡ with_holder book frame (Some held)) where
      same_exposed : SameOutside (shared_table (frame / 512) ∷ []) mapped new
      same_exposed = base_word mapped new frame _ exposed

      inside : frame < 8192
      inside = let most = can.stands.whole.most in let size = can.booked.size in let below = free.0.1 in omega arith

      unused : (purpose : Use) → used_frame root purpose ≢ Some frame
      unused purpose used = let e = sym free.1 ∙ can.booked.held purpose frame used in cc

      booked_new : IsBooked root book' new
      booked_new =
          let first =
          subst (λ (one : Book). IsBooked root one memory) (sym taken)
          (booked_beside root memory book frame (Some held) can.stands can.booked free.0.0 unused) in
          booked_kept root _ mapped new book' same_exposed
          (booked_kept root _ filled mapped book' (set_word set filled mapped at entry written)
          (booked_kept root _ memory filled book' same first))

      free_old : (other : ℕ) → IsFree book' other → IsFree book other
      free_old other is = (free_before book frame other held free.0 (subst (λ (one : Book). IsFree one other) taken is)).0

      pub can_new : CanTake set root book' new
      can_new = record {
        tables = (let above = free.0.0 in let below = inside in
            tables_stay set _ mapped new tables stands_mapped.whole.size same_exposed
            (can.base_apart _ (shared_in_base (frame / 512) (omega arith) (omega arith))));
        stands = stands;
        booked = booked_new;
        set_apart = λ other is. can.set_apart other (free_old other is);
        root_apart = λ other is. can.root_apart other (free_old other is);
        base_apart = can.base_apart;
        table_apart = can.table_apart;
      }

-- a word of a page that holds no table was put
pub can_put : (set : TableSet) (root : RootKernel) (book : Book) (memory mid : Physical) (frame at word : ℕ)
    → CanTake set root book memory → IsSetApart set (frame ∷ []) → IsRootApart root (frame ∷ [])
    → at % 8 ≡ 0 → frame_of at ≡ frame → mid ≡ with_bytes memory (put_word memory.bytes at word) → CanTake set root book mid
can_put set root book memory mid frame at word can set_apart root_apart aligned here written =
    let same =
    subst (SameOutside (frame ∷ []) memory) (sym written)
    (same_outside_word (frame ∷ []) memory at word aligned (zero, lit< tt, sym here)) in
    record {
      tables = tables_stay set (frame ∷ []) memory mid can.tables can.stands.whole.size same set_apart;
      stands = stands_kept root (frame ∷ []) memory mid can.stands same root_apart;
      booked = booked_kept root (frame ∷ []) memory mid book same can.booked;
      set_apart = can.set_apart;
      root_apart = can.root_apart;
      base_apart = can.base_apart;
      table_apart = can.table_apart;
    }
