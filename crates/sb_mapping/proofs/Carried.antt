-- A page that was taken, filled, mapped and exposed is a page of the state.
use Rattle.std.proofs.Common.{◌≡◌, ◌∙◌, sym, ap, subst, ℕ, ◌*◌, ◌<◌, ◌==◌, Bool, true, false, List, [], ◌∷◌, ◌++◌, length, refl, arith}
use Rattle.std.specs.Prelude.{if◌then◌else◌}
use Rattle.std.proofs.lemmas.Bool.{ne_eqb}
use Rattle.sb_memory.specs.Physical.{Physical}
use Rattle.sb_frames.specs.Book.{Book}
use Rattle.sb_pagewalk.specs.TableSet.{table_frame}
use Rattle.sb_pagewalk.specs.Standing.{IsApart as IsSetApart}
use Rattle.sb_root.specs.declared.root_kernel.RootKernel.{RootKernel}
use Rattle.sb_root.specs.Standing.{IsApart as IsRootApart, IsBooked, Stands}
use Rattle.sb_root.specs.Calls.{IsFree}
use Rattle.sb_root.proofs.Frames.{only_one}
use Rattle.sb_state.specs.declared.page.PageName.{PageName}
use Rattle.sb_state.specs.declared.page.Page.{Page}
use Rattle.sb_trace.specs.PageName.{same_name, mode_of}
use Rattle.sb_trace.specs.State.{State, find_page, page_with}
use Rattle.sb_state.proofs.Names.{name_same}
use Rattle.sb_shows.specs.Placement.{Placement, Unused, GuestTable, Holds, IsThere, rights_for}
use Rattle.sb_shows.specs.Calls.{ExposesFrame, AddsPage, placed_with, IsNewPage}
use Rattle.sb_shows.specs.Windows.{page_number}
use Rattle.sb_shows.proofs.Protecting.{guest_root_apart, base_sets_apart}
use Rattle.sb_shows.proofs.AddingPages.{page_added}
use Rattle.sb_mapping.specs.Taking.{CanTake, TakesPage, page_kind}
use Rattle.sb_mapping.specs.Carries.{Carries, StaysPlaced}
use Rattle.sb_mapping.proofs.Taken.{free_before, can_new}

module _ (placement : Placement) (root : RootKernel) (book : Book) (memory : Physical) (state : State)
    (carries : Carries placement root book memory state)
    (process : ℕ) (there : process < length state.processes) where
  -- ---- before

  set_clear : (frame : ℕ) → IsFree book frame → IsSetApart (placement.sets process) (frame ∷ [])
  set_clear frame free one few changed =
      let e : GuestTable process one ≡ Unused =
      sym (carries.keeps.apart.guest process one there few)
      ∙ (ap placement.purpose (only_one _ _ changed) ∙ carries.unused frame free) in cc

  root_clear : (frame : ℕ) → IsFree book frame → IsRootApart placement.root (frame ∷ [])
  root_clear frame free = record {
    base = λ one among changed.
        let e = sym (carries.keeps.apart.base one among)
        ∙ (ap placement.purpose (only_one _ one changed) ∙ carries.unused frame free) in cc;
    tables =
        λ part one table used changed.
        let e = sym (carries.keeps.apart.root part one table used)
        ∙ (ap placement.purpose (only_one _ one changed) ∙ carries.unused frame free) in cc;
  }

  -- the code may take a frame for a page of the process
  pub can_take : CanTake (placement.sets process) root book memory
  can_take = record {
    tables = (carries.keeps.leads.guests process there).tables;
    stands = subst (λ (one : RootKernel). Stands one memory) carries.rooted carries.keeps.leads.stands;
    booked = carries.booked;
    set_apart = set_clear;
    root_apart = λ frame free. subst (λ (one : RootKernel). IsRootApart one (frame ∷ [])) carries.rooted (root_clear frame free);
    base_apart = λ frame among. base_sets_apart placement state carries.keeps.apart frame among process there;
    table_apart =
        λ table few. subst (λ (one : RootKernel). IsRootApart one (table_frame (placement.sets process) table ∷ []))
        carries.rooted
        (guest_root_apart placement state carries.keeps.apart process table there few);
  }

  -- ---- afterwards

  module _ (name : PageName) (owner : ℕ) (bytes : List ℕ) (book' : Book) (new : Physical)
      (takes : TakesPage (placement.sets process) root book book' memory new owner (4096 * page_number name)
      (mode_of name false) bytes)
      (is : IsNewPage state.threads (length state.processes) state.pages (process ∷ []) (page_with name bytes)) where
    abbrev page : Page
    page = page_with name bytes

    abbrev frame : ℕ
    frame = takes.frame.0

    frame_exposed : ExposesFrame placement.root takes.mapped new frame (rights_for (mode_of name false))
    frame_exposed =
        subst (λ (one : RootKernel). ExposesFrame one takes.mapped new frame (rights_for (mode_of name false)))
        (sym carries.rooted) takes.exposed

    pub adds : AddsPage placement (process ∷ []) page memory new
    adds = record {
      frame = frame;
      unused = carries.unused frame takes.free;
      above = takes.free.0.0;
      below = (let size = carries.booked.size in let inside = takes.free.0.1 in omega arith);
      filled = takes.filled;
      fills = record { same = takes.same; held = takes.held };
      mapped = takes.mapped;
      sets = (takes.mapped, takes.set_page, refl);
      exposed = frame_exposed;
    }

    booked : IsBooked root book' new
    booked =
        (can_new (placement.sets process) root book memory takes.filled frame can_take takes.free takes.same takes.mapped
        (4096 * page_number name) _ takes.set_page.written
        new book' (rights_for (mode_of name false)) (page_kind (mode_of name false), owner) takes.set_page.tables
        takes.exposed.written takes.exposed.stands takes.taken).booked

    unused_now : (other : ℕ) → IsFree book' other → (if other == frame then Holds name else placement.purpose other) ≡ Unused
    unused_now other free =
        let before =
        free_before book frame other (
          page_kind (mode_of name false),
          owner,
        ) takes.free.0 (subst (λ (one : Book). IsFree one other) takes.taken free) in
        ap (λ (test : Bool). if test then Holds name else placement.purpose other) (ne_eqb other frame before.1)
        ∙ carries.unused other before.0

    -- the page is one of the state, in the frame that was taken
    pub page_carried : Carries (placed_with placement name frame) root book' new
        (record state { pages = state.pages ++ page ∷ [] })
    unfolding adds
    page_carried = record {
      keeps = page_added placement state memory new (process ∷ []) page carries.keeps is adds;
      rooted = carries.rooted;
      booked = booked;
      unused = unused_now;
    }

    stays_by : (test : Bool) (other : PageName) → same_name name other ≡ test → IsThere state.pages other
        → (if test then frame else placement.frame other) ≡ placement.frame other
    stays_by true other same (one, found) =
        absurd (let e = sym is.absent ∙ (ap (find_page state.pages) (name_same name other same) ∙ found) in cc)
    stays_by false other same found = refl

    pub page_stays : StaysPlaced placement (placed_with placement name frame) state
    page_stays = record { frames = λ other found. stays_by (same_name name other) other refl found; sets = λ one. refl }
