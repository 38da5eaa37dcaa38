-- One entry is set in the tables of each of several processes.
use Rattle.std.proofs.Common.{◌≡◌, ◌≢◌, ◌∙◌, sym, ap, subst, ℕ, ◌/◌, ◌<◌, ◌==◌, ◌||◌, Bool, true, false, List, [], ◌∷◌, length, refl}
use Rattle.std.specs.Prelude.{if◌then◌else◌}
use Rattle.std.proofs.lemmas.Bool.{eqb-true}
use Rattle.std.proofs.lemmas.Bool.Decides.{Decides-eqb}
use Rattle.sb_memory.specs.Physical.{Physical}
use Rattle.sb_pagewalk.specs.Windows.{IsInWindow, region_of, page_table_of}
use Rattle.sb_pagewalk.specs.TableSet.{table_frame}
use Rattle.sb_pagewalk.proofs.OnePage.{set_walked_same}
use Rattle.sb_pagewalk.proofs.Regions.{page_table_small}
use Rattle.sb_trace.specs.State.{State}
use Rattle.sb_shows.specs.Placement.{Placement, IsOneToOne}
use Rattle.sb_shows.specs.Keeping.{HasContents}
use Rattle.sb_shows.specs.Calls.{SetsPage, SetsPages, among, AllSee}
use Rattle.sb_shows.proofs.Changing.{contents_still}
use Rattle.sb_shows.proofs.Between.{Between, between_set}
use Rattle.sb_shows.proofs.Protecting.{guest_word, guest_root_apart, guest_sets_apart, guest_no_page}

module _ (placement : Placement) (state : State) (apart : IsOneToOne placement state) (claims : ℕ → ℕ → Type 0)
    (before after : ℕ → ℕ → ℕ → ℕ → ℕ) (at leaf : ℕ) (window : IsInWindow at) (sees : ℕ → Bool)
    (here : (process thread view : ℕ) → process < length state.processes → sees process ≡ true
    → after process thread view (at / 4096) ≡ leaf)
    (beside : (process thread view page : ℕ) → page ≢ at / 4096
    → after process thread view page ≡ before process thread view page)
    (unseen : (process thread view page : ℕ) → process < length state.processes → sees process ≡ false
    → after process thread view page ≡ before process thread view page) where
  -- the entries where some processes are done
  abbrev mixed : (ℕ → Bool) → ℕ → ℕ → ℕ → ℕ → ℕ
  mixed done process thread view page =
      if done process then after process thread view page else before process thread view page

  abbrev also : ℕ → (ℕ → Bool) → ℕ → Bool
  also process done one = (one == process) || done one

  -- tables and contents between two calls
  pub record Half (entries : ℕ → ℕ → ℕ → ℕ → ℕ) (now : Physical) : Type 0 where
    pub between : Between placement (length state.processes) entries claims now
    pub contents : HasContents placement state now

  mixed_here : (done : ℕ → Bool) (process thread view : ℕ) → process < length state.processes → sees process ≡ true
      → mixed (also process done) process thread view (at / 4096) ≡ leaf
  mixed_here done process thread view there is =
      ap (λ (test : Bool). if (test || done process) then after process thread view (at / 4096) else before process thread view
      (at / 4096)) ((Decides-eqb process process).1 refl)
      ∙ here process thread view there is

  away_by : (test : Bool) (process thread view page : ℕ) → page ≢ at / 4096
      → after process thread view page
      ≡ (if test then after process thread view page else before process thread view page)
  away_by true process thread view page differ = refl
  away_by false process thread view page differ = beside process thread view page differ

  beside_by : (test : Bool) (done : ℕ → Bool) (process other thread view page : ℕ) → (other == process) ≡ test
      → (other ≡ process → page ≡ at / 4096 → ⊥)
      → (if (test || done other) then after other thread view page else before other thread view page)
      ≡ mixed done other thread view page
  beside_by true done process other thread view page is differ =
      away_by (done other) other thread view page (λ e. differ (eqb-true other process is) e)
  beside_by false done process other thread view page is differ = refl

  one_set : (done : ℕ → Bool) (process : ℕ) (old new : Physical) → process < length state.processes → sees process ≡ true
      → Half (mixed done) old → SetsPage (placement.sets process) old new at leaf → Half (mixed (also process done)) new
  one_set done process old new there is half set =
      let table = page_table_of (region_of at) in
      let number = page_table_small (region_of at) in
      let word = guest_word placement (length state.processes) old new process at leaf set.written in
      record {
        between =
            between_set placement (length state.processes) (mixed done) claims old new
            (table_frame (placement.sets process) (page_table_of (region_of at)) ∷ []) half.between word
            process at leaf there window (record { tables = set.tables; page = set.page; others = set.others })
            (guest_root_apart placement state apart process table there number)
            (λ other within differ. guest_sets_apart placement state apart process table there number other within differ)
            (mixed (also process done)) (λ thread view. mixed_here done process thread view there is)
            (λ other thread view page differ. beside_by (other == process) done process other thread view page refl differ);
        contents =
            contents_still placement state old new
            (table_frame (placement.sets process) (page_table_of (region_of at)) ∷ []) state.pages half.contents apart
            word
            (guest_no_page placement state apart process table there number)
            (record { before = λ one found at. (found, at, refl) });
      }

  moved_over : (a b c : Bool) → (a || (b || c)) ≡ true → ((b || a) || c) ≡ true
  moved_over true true c is = refl
  moved_over true false c is = refl
  moved_over false true c is = refl
  moved_over false false c is = is

  nothing_over : (a : Bool) → (a || false) ≡ true → a ≡ true
  nothing_over true is = refl
  nothing_over false is = is

  done_by : (test set : Bool) (process thread view page : ℕ) → process < length state.processes → sees process ≡ set
      → (set ≡ true → test ≡ true)
      → (if test then after process thread view page else before process thread view page) ≡ after process thread view page
  done_by true set process thread view page there is all = refl
  done_by false true process thread view page there is all = let e = all refl in cc
  done_by false false process thread view page there is all = sym (unseen process thread view page there is)

  -- the processes that see the page have it set, one after another
  pub all_set : (processes : List ℕ) (done : ℕ → Bool) (old new : Physical) → AllSee (length state.processes) sees processes
      → ((one : ℕ) → one < length state.processes → sees one ≡ true → (done one || among one processes) ≡ true)
      → Half (mixed done) old → SetsPages placement.sets processes old new at leaf → Half after new
  all_set [] done old new all cover half same = subst (Half after) (sym same) (record {
    between = record {
      stands = half.between.stands;
      tables = half.between.tables;
      maps = λ process there thread view linear access. half.between.maps process there thread view linear access
          ∙ set_walked_same (mixed done process thread view) (after process thread view) linear access
          (λ inside. done_by (done process) (sees process) process thread view (linear / 4096) there refl
          (λ is. nothing_over (done process) (cover process there is)));
      base = half.between.base;
    };
    contents = half.contents;
  })
  all_set (process ∷ processes) done old new all cover half sets =
      all_set processes (also process done) sets.0 new all.1
      (λ one there is. moved_over (done one) (one == process) (among one processes) (cover one there is))
      (one_set done process old sets.0 all.0.0 all.0.1 half sets.1) sets.2
