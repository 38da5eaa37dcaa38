-- The pages of a buffer that two processes share are added to a placement.
use Rattle.std.proofs.Common.{◌≡◌, ◌∙◌, sym, ap, subst, ℕ, zero, suc, ◌+◌, ◌*◌, ◌==◌, Bool, [], ◌∷◌, refl, arith}
use Rattle.std.specs.Prelude.{if◌then◌else◌}
use Rattle.std.proofs.lemmas.Bool.{ne_eqb}
use Rattle.sb_memory.specs.Physical.{Physical}
use Rattle.sb_frames.specs.Book.{Book}
use Rattle.sb_frames.specs.declared.kind.Kind.TheVariants.{Writable}
use Rattle.sb_pagewalk.specs.declared.table_set.TableSet.{TableSet}
use Rattle.sb_root.specs.declared.root_kernel.RootKernel.{RootKernel}
use Rattle.sb_root.specs.Calls.{IsFree}
use Rattle.sb_state.specs.declared.page.Mode.TheVariants.{ReadWrite}
use Rattle.sb_state.specs.declared.page.PageName.TheVariants.{Buffer}
use Rattle.sb_trace.specs.PageName.{mode_of}
use Rattle.sb_trace.specs.Start.{pages_from}
use Rattle.sb_trace.specs.SyscallBind.{buffer_page}
use Rattle.sb_shows.specs.Placement.{Placement, Unused, Holds, leaf_for}
use Rattle.sb_shows.specs.Calls.{SetsPage, ExposesFrame, AddsPage, AddsPages, placed_all, placed_with}
use Rattle.sb_shows.specs.Windows.{page_number}
use Rattle.sb_mapping.proofs.Taken.{free_before}
use Rattle.sb_sub.specs.Sharing.{SharesPage, SharesBuffer, buffer_page_at}

-- where a page of a buffer stands
buffer_place : (thread index page : ℕ) → 4096 * page_number (Buffer thread index page) ≡ buffer_page_at thread index page
unfolding page_number
buffer_place thread index page = omega arith

-- what stands after pages of a buffer were added, from a first one on
pub record AreShared (placement : Placement) (book' : Book) (old new : Physical) (home server thread index page count : ℕ)
    : Type 0 where
  pub adds : AddsPages placement (home ∷ server ∷ []) (pages_from (buffer_page thread index) page count) old new
  pub rooted : (placed_all placement (home ∷ server ∷ []) (pages_from (buffer_page thread index) page count) old new adds).root
      ≡ placement.root
  pub sets : (process : ℕ)
      → (placed_all placement (home ∷ server ∷ []) (pages_from (buffer_page thread index) page count) old new adds).sets process
      ≡ placement.sets process
  pub unused : (frame : ℕ) → IsFree book' frame
      → (placed_all placement (home ∷ server ∷ []) (pages_from (buffer_page thread index) page count) old new adds).purpose frame
      ≡ Unused

module _ (home server : ℕ) (client target : TableSet) (root : RootKernel) (owner thread index : ℕ) where
  module _ (placement : Placement) (rooted : placement.root ≡ root) (at_home : placement.sets home ≡ client)
      (at_server : placement.sets server ≡ target) (page : ℕ) (book between : Book) (old mid : Physical)
      (unused : (frame : ℕ) → IsFree book frame → placement.purpose frame ≡ Unused)
      (one : SharesPage client target root book between old mid owner (buffer_page_at thread index page)) where
    abbrev entry : ℕ
    entry = leaf_for one.frame.0 ReadWrite

    -- the page is added
    unfoldable adds_one : AddsPage placement (home ∷ server ∷ []) (buffer_page thread index page) old mid
    unfolding mode_of
    adds_one = record {
      frame = one.frame.0;
      unused = unused one.frame.0 one.free;
      above = one.free.0.0;
      below = one.inside;
      filled = one.filled;
      fills = record { same = one.same; held = one.held };
      mapped = one.mapped;
      sets = (
        one.between,
        subst (λ (at : ℕ). SetsPage (placement.sets home) one.filled one.between at entry) (sym (buffer_place thread index page))
            (subst (λ (set : TableSet). SetsPage set one.filled one.between (buffer_page_at thread index page) entry)
            (sym at_home) one.at_home),
        (
          one.mapped,
          subst (λ (at : ℕ). SetsPage (placement.sets server) one.between one.mapped at entry)
              (sym (buffer_place thread index page))
              (subst (λ (set : TableSet). SetsPage set one.between one.mapped (buffer_page_at thread index page) entry)
              (sym at_server) one.at_server),
          refl,
        ),
      );
      exposed = subst (λ (kernel : RootKernel). ExposesFrame kernel one.mapped mid one.frame.0 3) (sym rooted) one.exposed;
    }

    unused_then : (frame : ℕ) → IsFree between frame
        → (if frame == one.frame.0 then Holds (Buffer thread index page) else placement.purpose frame) ≡ Unused
    unused_then frame free =
        let before =
        free_before book one.frame.0 frame (Writable, owner) one.free.0
        (subst (λ (now : Book). IsFree now frame) one.taken free) in
        ap (λ (test : Bool). if test then Holds (Buffer thread index page) else placement.purpose frame)
        (ne_eqb frame one.frame.0 before.1)
        ∙ unused frame before.0

  -- and so all of them
  pub are_shared : (count page : ℕ) (placement : Placement) (book book' : Book) (old new : Physical)
      → placement.root ≡ root → placement.sets home ≡ client → placement.sets server ≡ target
      → ((frame : ℕ) → IsFree book frame → placement.purpose frame ≡ Unused)
      → SharesBuffer client target root book book' old new owner thread index page count
      → AreShared placement book' old new home server thread index page count
  unfolding adds_one
  are_shared zero page placement book book' old new rooted at_home at_server unused (same_book, same) = record {
    adds = same;
    rooted = refl;
    sets = λ process. refl;
    unused = λ frame free. unused frame (subst (λ (one : Book). IsFree one frame) same_book free);
  }
  are_shared (suc count) page placement book book' old new rooted at_home at_server unused (between, mid, one, rest) =
      let more =
      are_shared count (page + 1) (placed_with placement (Buffer thread index page) one.frame.0) between book' mid new rooted
      at_home at_server (unused_then placement rooted at_home at_server page book between old mid unused one) rest in
      record {
        adds = (mid, adds_one placement rooted at_home at_server page book between old mid unused one, more.adds);
        rooted = more.rooted;
        sets = more.sets;
        unused = more.unused;
      }
