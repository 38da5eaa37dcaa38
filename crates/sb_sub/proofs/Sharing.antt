-- A page that two processes share: what stands after its frame is taken, filled, mapped in both and exposed.
use Rattle.std.proofs.Common.{◌≡◌, ◌≢◌, ◌∙◌, sym, subst, ℕ, zero, suc, ◌+◌, ◌/◌, ◌<◌, [], ◌∷◌, refl, arith}
use Rattle.std.specs.Prelude.{Some}
use Rattle.sb_memory.specs.Physical.{Physical}
use Rattle.sb_memory.specs.Changes.{SameOutside}
use Rattle.sb_memory.specs.Reading.{with_bytes}
use Rattle.sb_memory.specs.Words.{put_word}
use Rattle.sb_frames.specs.declared.kind.Kind.{Kind}
use Rattle.sb_frames.specs.Book.{Book, with_holder}
use Rattle.sb_pagewalk.specs.declared.table_set.TableSet.{TableSet}
use Rattle.sb_pagewalk.specs.Windows.{IsInWindow, region_of, page_table_of}
use Rattle.sb_pagewalk.specs.TableSet.{table_frame, page_place}
use Rattle.sb_pagewalk.specs.Standing.{HasTables, IsApart as IsSetApart}
use Rattle.sb_pagewalk.proofs.Regions.{page_table_small}
use Rattle.sb_pagewalk.proofs.Untouched.{tables_stay}
use Rattle.sb_root.specs.declared.root_kernel.RootKernel.{RootKernel}
use Rattle.sb_root.specs.Entry.{leaf_to}
use Rattle.sb_root.specs.Root.{Use, used_frame}
use Rattle.sb_root.specs.Tables.{shared_place, shared_table}
use Rattle.sb_root.specs.Standing.{IsBooked, Stands}
use Rattle.sb_root.specs.Calls.{IsFree}
use Rattle.sb_root.proofs.Frames.{only_one, shared_in_base}
use Rattle.sb_root.proofs.Kept.{stands_kept}
use Rattle.sb_root.proofs.Between.{booked_kept, booked_beside}
use Rattle.sb_shows.proofs.Protecting.{base_word}
use Rattle.sb_mapping.specs.Taking.{CanTake}
use Rattle.sb_mapping.proofs.Taken.{free_before, set_word, tables_filled, stands_filled, stands_mapped}
use Rattle.sb_sub.specs.Sharing.{CanShare, SharesPage, SharesBuffer, buffer_page_at}

-- ---- one page

module _ (home server : TableSet) (root : RootKernel) (book : Book) (memory filled : Physical) (frame : ℕ)
    (can : CanShare home server root book memory) (free : IsFree book frame)
    (same : SameOutside (frame ∷ []) memory filled) where
  -- a table of the home is none of the server's, and the other way round
  clear_at_server : (table : ℕ) → table < 12 → IsSetApart server (table_frame home table ∷ [])
  clear_at_server table few other below changed = can.apart table other few below (sym (only_one _ _ changed))

  clear_at_home : (table : ℕ) → table < 12 → IsSetApart home (table_frame server table ∷ [])
  clear_at_home table few other below changed = can.apart other table below few (only_one _ _ changed)

  module _ (between : Physical) (at entry : ℕ)
      (written : between ≡ with_bytes filled (put_word filled.bytes (page_place home at) entry)) where
    stands_between : Stands root between
    stands_between =
        stands_mapped home root book memory filled frame can.at_home free same between at entry written

    -- the server's tables stand after the page was mapped in the home
    pub server_between : HasTables server between
    server_between =
        tables_stay server (table_frame home (page_table_of (region_of at)) ∷ []) filled between
        (tables_filled server root book memory filled frame can.at_server free same)
        (stands_filled home root book memory filled frame can.at_home free same).whole.size
        (set_word home filled between at entry written)
        (clear_at_server (page_table_of (region_of at)) (page_table_small (region_of at)))

    module _ (mapped : Physical)
        (written_too : mapped ≡ with_bytes between (put_word between.bytes (page_place server at) entry)) where
      -- the root kernel's tables stand after it was mapped in both
      pub stands_both : Stands root mapped
      stands_both =
          stands_kept root _ between mapped stands_between (set_word server between mapped at entry written_too)
          (can.at_server.table_apart (page_table_of (region_of at)) (page_table_small (region_of at)))

      home_mapped : HasTables home between → HasTables home mapped
      home_mapped tables =
          tables_stay home (table_frame server (page_table_of (region_of at)) ∷ []) between mapped tables
          stands_between.whole.size (set_word server between mapped at entry written_too)
          (clear_at_home (page_table_of (region_of at)) (page_table_small (region_of at)))

      module _ (new : Physical) (book' : Book) (rights : ℕ) (held : Kind × ℕ)
          (exposed : new ≡ with_bytes mapped (put_word mapped.bytes (shared_place frame) (leaf_to frame rights)))
          (stands : Stands root new) (taken : book' ≡ with_holder book frame (Some held)) where
        same_exposed : SameOutside (shared_table (frame / 512) ∷ []) mapped new
        same_exposed = base_word mapped new frame _ exposed

        inside : frame < 8192
        inside =
            let most = can.at_home.stands.whole.most in let size = can.at_home.booked.size in
            let below = free.0.1 in omega arith

        unused : (purpose : Use) → used_frame root purpose ≢ Some frame
        unused purpose used = let e = sym free.1 ∙ can.at_home.booked.held purpose frame used in cc

        booked_new : IsBooked root book' new
        booked_new =
            let first =
            subst (λ (one : Book). IsBooked root one memory) (sym taken)
            (booked_beside root memory book frame (Some held) can.at_home.stands can.at_home.booked free.0.0 unused) in
            booked_kept root _ mapped new book' same_exposed
            (booked_kept root _ between mapped book' (set_word server between mapped at entry written_too)
            (booked_kept root _ filled between book' (set_word home filled between at entry written)
            (booked_kept root _ memory filled book' same first)))

        free_old : (other : ℕ) → IsFree book' other → IsFree book other
        free_old other is =
            (free_before book frame other held free.0 (subst (λ (one : Book). IsFree one other) taken is)).0

        -- frames may be taken for pages of one of the two then
        can_one : (set : TableSet) → CanTake set root book memory → HasTables set mapped → CanTake set root book' new
        can_one set can_set tables = record {
          tables = (let above = free.0.0 in let below = inside in
              tables_stay set _ mapped new tables stands_both.whole.size same_exposed
              (can_set.base_apart _ (shared_in_base (frame / 512) (omega arith) (omega arith))));
          stands = stands;
          booked = booked_new;
          set_apart = λ other is. can_set.set_apart other (free_old other is);
          root_apart = λ other is. can_set.root_apart other (free_old other is);
          base_apart = can_set.base_apart;
          table_apart = can_set.table_apart;
        }

        -- and for pages that both share
        pub can_again : HasTables home between → HasTables server mapped → CanShare home server root book' new
        can_again at_home at_server = record {
          at_home = can_one home can.at_home (home_mapped at_home);
          at_server = can_one server can.at_server at_server;
          apart = can.apart;
        }

-- ---- the buffer

-- a page of a buffer is in the window that the page tables serve
pub buffer_in_window : (thread index page : ℕ) → thread < 8 → index < 16 → page < 4
    → IsInWindow (buffer_page_at thread index page)
unfolding page_table_of
buffer_in_window thread index page served few small =
    let region : region_of (buffer_page_at thread index page) ≡ 16 = omega arith in rw region (λ e. cc)

-- one page more, behind those that were added
pub shares_more : (count page : ℕ) (home server : TableSet) (root : RootKernel) (book between book' : Book)
    (old mid new : Physical) (owner thread index : ℕ)
    → SharesBuffer home server root book between old mid owner thread index page count
    → SharesPage home server root between book' mid new owner (buffer_page_at thread index (page + count))
    → SharesBuffer home server root book book' old new owner thread index page (suc count)
shares_more zero page home server root book between book' old mid new owner thread index (same_book, same) one = (
  book',
  new,
  subst (λ (first : Book). SharesPage home server root first book' old new owner (buffer_page_at thread index page)) same_book
      (subst (λ (first : Physical). SharesPage home server root between book' first new owner (buffer_page_at thread index page))
      same
      (subst (λ (n : ℕ). SharesPage home server root between book' mid new owner (buffer_page_at thread index n))
      (let here : page + 0 ≡ page = omega arith in here) one)),
  (refl, refl),
)
shares_more (suc count) page home server root book between book' old mid new owner thread index (book_1, memory_1, first, rest)
    one = (
      book_1,
      memory_1,
      first,
      shares_more count (page + 1) home server root book_1 between book' memory_1 mid new owner thread index rest
          (subst (λ (n : ℕ). SharesPage home server root between book' mid new owner (buffer_page_at thread index n))
          (let here : page + suc count ≡ page + 1 + count = omega arith in here) one),
    )

-- one page more of a buffer
pub shares_next : (count : ℕ) (home server : TableSet) (root : RootKernel) (book between book' : Book)
    (old mid new : Physical) (owner thread index : ℕ)
    → SharesBuffer home server root book between old mid owner thread index 0 count
    → SharesPage home server root between book' mid new owner (buffer_page_at thread index count)
    → SharesBuffer home server root book book' old new owner thread index 0 (count + 1)
shares_next count home server root book between book' old mid new owner thread index before one =
    let next : suc count ≡ count + 1 = omega arith in
    subst (SharesBuffer home server root book book' old new owner thread index 0) next
    (shares_more count 0 home server root book between book' old mid new owner thread index before
    (subst (λ (n : ℕ). SharesPage home server root between book' mid new owner (buffer_page_at thread index n))
    (let here : count ≡ 0 + count = omega arith in here) one))
