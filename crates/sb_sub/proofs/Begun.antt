-- Memory before there are processes and threads: the root kernel was built, and the trampoline put into its frames.
use Rattle.std.proofs.Common.{◌≡◌, ◌∙◌, sym, ap, subst, ℕ, zero, suc, ◌+◌, ◌<◌, ◌≤◌, ◌==◌, ◌⊎◌, inl, inr, false, [], ◌∷◌, get_or, refl, arith}
use Rattle.std.specs.Prelude.{None, Some, replicate}
use Rattle.std.specs.List.{Contains}
use Rattle.std.proofs.lemmas.Bool.{ne_eqb}
use Rattle.sb_memory.specs.Physical.{Physical, HoldsBytes}
use Rattle.sb_memory.specs.Changes.{SameOutside}
use Rattle.sb_frames.specs.Book.{Book}
use Rattle.sb_pagewalk.specs.declared.table_set.TableSet.{TableSet}
use Rattle.sb_root.specs.declared.root_kernel.RootKernel.{RootKernel}
use Rattle.sb_root.specs.Root.{Use, ListOf, PartOf, list_frame_in, part_in, no_threads, used_frame, eptp_list_frame, view_of}
use Rattle.sb_root.specs.Tables.{base_frames}
use Rattle.sb_root.specs.Standing.{IsApart as IsRootApart, IsBooked, Stands}
use Rattle.sb_root.specs.Calls.{IsFree}
use Rattle.sb_root.proofs.Between.{booked_kept}
use Rattle.sb_root.proofs.Frames.{among_cases, only_one}
use Rattle.sb_root.proofs.Kept.{stands_kept}
use Rattle.sb_root.proofs.NewBase.{repeated}
use Rattle.sb_tramp.specs.Home.{home_page}
use Rattle.sb_tramp.specs.Server.{server_page}
use Rattle.sb_load.specs.Loading.{Load}
use Rattle.sb_shows.specs.Placement.{Unused, BaseTable}
use Rattle.sb_shows.specs.Starts.{first_purpose, first_placement}
use Rattle.sb_shows.proofs.Placing.{others_kept}
use Rattle.sb_shows.proofs.Starting.{first_kept}
use Rattle.sb_mapping.specs.StartThreads.{HasNoViews}
use Rattle.sb_mapping.proofs.StartTables.{base_range}
use Rattle.sb_sub.specs.Start.{HasBegun, bare_state}

-- ---- a root kernel without threads

no_view_by : {A : Type 0} (threads count thread index : ℕ) (value : A)
    → get_or (get_or (replicate threads (replicate count value)) thread []) index value ≡ value
no_view_by zero count thread index value = refl
no_view_by (suc threads) count zero index value = repeated count index value
no_view_by (suc threads) count (suc thread) index value = no_view_by threads count thread index value

no_view : (thread index : ℕ) → view_of no_threads thread index ≡ None
no_view thread index = no_view_by 32 16 thread index None

-- no thread has a list or a view
pub no_views : (root : RootKernel) → root ≡ no_threads → (thread : ℕ) → HasNoViews root thread
no_views root is thread = record {
  list = ap (λ (one : RootKernel). eptp_list_frame one thread) is ∙ repeated 32 thread None;
  views = λ index. ap (λ (one : RootKernel). view_of one thread index) is ∙ no_view thread index;
}

no_use : (part : Use) (frame : ℕ) → used_frame no_threads part ≡ Some frame → ⊥
no_use (ListOf thread) frame is = let e = sym (ap list_frame_in (repeated 32 thread None)) ∙ is in cc
no_use (PartOf thread index part) frame is = let e = sym (ap (λ view. part_in view part) (no_view thread index)) ∙ is in cc

-- ---- the trampoline

module _ (root : RootKernel) (book : Book) (memory new : Physical) (load : Load) (is : root ≡ no_threads)
    (stands : Stands root memory) (booked : IsBooked root book memory)
    (same : SameOutside (1 ∷ 4 ∷ []) memory new) (home : HoldsBytes new 1 home_page) (server : HoldsBytes new 4 server_page) where
  base_apart : (frame : ℕ) → Contains base_frames frame → ¬ Contains (1 ∷ 4 ∷ []) frame
  base_apart frame among changed = elim (base_range frame among) [
    | inl range ↦ let low = range.0 in elim (among_cases 1 frame (4 ∷ []) changed) [
      | inl one ↦ absurd (omega (arith, low, one))
      | inr rest ↦ let four = only_one 4 frame rest in absurd (omega (arith, low, four))
    ]
    | inr range ↦ let low = range.0 in elim (among_cases 1 frame (4 ∷ []) changed) [
      | inl one ↦ absurd (omega (arith, low, one))
      | inr rest ↦ let four = only_one 4 frame rest in absurd (omega (arith, low, four))
    ]
  ]

  root_apart : IsRootApart root (1 ∷ 4 ∷ [])
  root_apart = record {
    base = base_apart;
    tables = λ part frame table used. absurd (no_use part frame (ap (λ (one : RootKernel). used_frame one part) (sym is) ∙ used));
  }

  stands_now : Stands root new
  stands_now = stands_kept root (1 ∷ 4 ∷ []) memory new stands same root_apart

  -- a frame that is neither of the trampoline nor of the base
  unused_first : (frame : ℕ) → 8 ≤ frame → ¬ Contains base_frames frame → first_purpose frame ≡ Unused
  unused_first frame above outside =
      let one : (frame == 1) ≡ false = ne_eqb frame 1 (omega (arith, above)) in
      let four : (frame == 4) ≡ false = ne_eqb frame 4 (omega (arith, above)) in
      rw (one, four) (others_kept (λ part. BaseTable) (λ one. Unused) base_frames 0 frame outside)

  outside_base : (frame : ℕ) → 8 ≤ frame → (frame < 32) ⊎ (48 ≤ frame) → ¬ Contains base_frames frame
  outside_base frame above (inl low) among = elim (base_range frame among) [
    | inl range ↦ let high = range.1 in absurd (omega (arith, high, above))
    | inr range ↦ let first = range.0 in absurd (omega (arith, first, low))
  ]
  outside_base frame above (inr high) among = elim (base_range frame among) [
    | inl range ↦ let last = range.1 in absurd (omega (arith, last, above))
    | inr range ↦ let last = range.1 in absurd (omega (arith, last, high))
  ]

  abbrev sets : ℕ → TableSet
  sets process = record { root = record { 0 = 0 }; tables = [] }

  free_unused : (frame : ℕ) → IsFree book frame → first_purpose frame ≡ Unused
  free_unused frame free =
      let above = free.0.0 in
      unused_first frame (omega (arith, above)) (outside_base frame (omega (arith, above)) (inr (omega (arith, above))))

  -- the state before there are processes is carried
  pub begun : HasBegun root book new load
  begun = record {
    placement = first_placement sets;
    carries = record {
      keeps = first_kept sets (bare_state load) new (record {
        pages = refl;
        processes = refl;
        threads = refl;
        stands = subst (λ (one : RootKernel). Stands one new) is stands_now;
        home = home;
        server = server;
      });
      rooted = sym is;
      booked = booked_kept root (1 ∷ 4 ∷ []) memory new book same booked;
      unused = free_unused;
    };
    roots = λ process first below. unused_first (16 + process) (omega arith)
        (outside_base (16 + process) (omega arith) (inl (omega (arith, below))));
  }
