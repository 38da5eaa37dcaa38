-- A process is added to a state that is carried.
use Rattle.std.proofs.Common.{◌≡◌, ◌≢◌, ◌∙◌, sym, ap, subst, ℕ, ◌+◌, ◌<◌, Bool, [], ◌∷◌, ◌++◌, length, refl, arith}
use Rattle.std.specs.Prelude.{None, if◌then◌else◌}
use Rattle.std.proofs.lemmas.Bool.{ne_eqb}
use Rattle.std.proofs.lemmas.Bool.Decides.{Decides-eqb}
use Rattle.std.proofs.lemmas.List.{length-append}
use Rattle.sb_memory.specs.Physical.{Physical}
use Rattle.sb_slots.specs.TextMap.{no_map}
use Rattle.sb_frames.specs.Book.{Book}
use Rattle.sb_pagewalk.specs.declared.table_set.TableSet.{TableSet}
use Rattle.sb_root.specs.declared.root_kernel.RootKernel.{RootKernel}
use Rattle.sb_root.specs.Standing.{IsBooked}
use Rattle.sb_trace.specs.State.{State, Process}
use Rattle.sb_trace.specs.Start.{ProcessImage, process_pages}
use Rattle.sb_shows.specs.Placement.{Placement}
use Rattle.sb_shows.specs.Starts.{HasNoPages, placed_tables, with_new_process}
use Rattle.sb_shows.specs.StartLaws.{ImageFitsWindows}
use Rattle.sb_shows.proofs.Processes.{process_kept}
use Rattle.sb_shows.proofs.WholeProcesses.{whole_kept}
use Rattle.sb_mapping.specs.Carries.{Carries}
use Rattle.sb_mapping.specs.Taking.{CanTake}
use Rattle.sb_mapping.specs.StartPages.{IsOver, AddedPages, AddsAll}
use Rattle.sb_mapping.specs.StartTables.{AddedTables}
use Rattle.sb_mapping.specs.StartProcesses.{IsReadyForProcess, AddedProcess}
use Rattle.sb_mapping.proofs.Carried.{can_take}

-- a placement that carries a state is over its root kernel and book
pub over_of : (placement : Placement) (root : RootKernel) (book : Book) (memory : Physical) (state : State)
    → Carries placement root book memory state → IsOver placement root book
over_of placement root book memory state carries = record { rooted = carries.rooted; unused = carries.unused }

-- a process whose tables are placed has them
pub own_set : (placement : Placement) (process : ℕ) (set : TableSet) → (placed_tables placement process set).sets process ≡ set
own_set placement process set =
    ap (λ (test : Bool). if test then set else placement.sets process) ((Decides-eqb process process).1 refl)

other_set : (placement : Placement) (process other : ℕ) (set : TableSet) → other ≢ process
    → (placed_tables placement process set).sets other ≡ placement.sets other
other_set placement process other set differ =
    ap (λ (test : Bool). if test then set else placement.sets other) (ne_eqb other process differ)

module _ (placement : Placement) (root : RootKernel) (book between : Book) (memory mid : Physical) (state : State)
    (carries : Carries placement root book memory state) (none : HasNoPages state.pages (length state.processes))
    (set : TableSet) (tables : AddedTables placement (length state.processes) root between memory mid set)
    (booked : IsBooked root between mid) where
  there : (process : Process) → length state.processes < length (state.processes ++ process ∷ [])
  there process = subst (λ n. length state.processes < n) (sym (length-append state.processes (process ∷ []))) (omega arith)

  carries_tables : (process : Process)
      → Carries (placed_tables placement (length state.processes) tables.adds.set) root between mid
      (with_new_process state process)
  carries_tables process = record {
    keeps = (process_kept placement state memory mid process carries.keeps none tables.adds).in_place.keeps;
    rooted = tables.over.rooted;
    booked = booked;
    unused = tables.over.unused;
  }

  set_here : (placed_tables placement (length state.processes) tables.adds.set).sets (length state.processes) ≡ set
  set_here = own_set placement (length state.processes) tables.adds.set ∙ tables.is

  can_by : CanTake set root between mid
  can_by =
      let process : Process = record { map = no_map; heap_pages = 0; registration = None } in
      subst (λ (one : TableSet). CanTake one root between mid) set_here
      (can_take (placed_tables placement (length state.processes) tables.adds.set) root between mid
      (with_new_process state process) (carries_tables process) (length state.processes) (there process))

  module _ (image : ProcessImage) (book' : Book) (new : Physical) (fits : ImageFitsWindows image)
      (pages : AddsAll set root (length state.processes) (process_pages (length state.processes) image) between book' mid new)
      (booked' : IsBooked root book' new) where
    all : AddedPages (placed_tables placement (length state.processes) tables.adds.set) (length state.processes)
        (process_pages (length state.processes) image) root book' mid new
    all = pages (placed_tables placement (length state.processes) tables.adds.set) tables.over set_here

    added_by : AddedProcess placement root book' new state (length state.processes) image set
    added_by = record {
      after = _;
      carries = record {
        keeps = (whole_kept placement state memory mid new image carries.keeps none fits tables.adds all.adds).keeps;
        rooted = all.over.rooted;
        booked = booked';
        unused = all.over.unused;
      };
      roots = λ process first below. all.low (16 + process) (omega arith) ∙ tables.roots process first below;
      here = all.sets (length state.processes) ∙ set_here;
      others = λ other differ. all.sets other ∙ other_set placement (length state.processes) other tables.adds.set differ;
    }

-- pages may be taken for a process whose tables were added
pub can_take_new : (placement : Placement) (root : RootKernel) (book between : Book) (memory mid : Physical) (state : State)
    (process : ℕ) (set : TableSet) → IsReadyForProcess placement root book memory state process
    → AddedTables placement process root between memory mid set → IsBooked root between mid → CanTake set root between mid
can_take_new placement root book between memory mid state process set ready =
    subst (λ (n : ℕ). HasNoPages state.pages n → AddedTables placement n root between memory mid set
    → IsBooked root between mid → CanTake set root between mid) ready.count
    (λ none tables booked. can_by placement root book between memory mid state ready.carries none set tables booked) ready.none

-- a process is added to each state to which it can be
pub process_added : (placement : Placement) (root : RootKernel) (book between book' : Book) (memory mid new : Physical)
    (state : State) (process : ℕ) (set : TableSet) (image : ProcessImage)
    → IsReadyForProcess placement root book memory state process → ImageFitsWindows image
    → AddedTables placement process root between memory mid set → IsBooked root between mid
    → AddsAll set root process (process_pages process image) between book' mid new → IsBooked root book' new
    → AddedProcess placement root book' new state process image set
process_added placement root book between book' memory mid new state process set image ready fits =
    subst (λ (n : ℕ). HasNoPages state.pages n → AddedTables placement n root between memory mid set → IsBooked root between mid
    → AddsAll set root n (process_pages n image) between book' mid new → IsBooked root book' new
    → AddedProcess placement root book' new state n image set) ready.count
    (λ none tables booked pages booked'. added_by placement root book between memory mid state ready.carries none set tables
    booked image book' new fits pages booked') ready.none
