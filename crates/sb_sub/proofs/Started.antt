-- What was built at a start stands for the state at the start.
use Rattle.std.proofs.Common.{◌≡◌, ◌∙◌, sym, ap, ℕ, zero, suc, ◌+◌, ◌-◌, ◌≤◌, List, [], ◌∷◌, ◌++◌, length, take, map, refl, arith}
use Rattle.std.specs.Prelude.{sum_by}
use Rattle.std.specs.List.{AllByRecursion}
use Rattle.std.proofs.lemmas.List.{length-map}
use Rattle.std.proofs.lemmas.List.Sums.{sum_by-cons}
use Rattle.std.proofs.Math.Logic.{∥∥₁_elim}
use Rattle.std.proofs.Math.Bridge.{le_prop}
use Rattle.sb_memory.specs.Physical.{Physical}
use Rattle.sb_frames.specs.Book.{Book, free_count}
use Rattle.sb_root.specs.declared.root_kernel.RootKernel.{RootKernel}
use Rattle.sb_state.specs.Start.{ProcessImage, start_process, start_threads}
use Rattle.sb_trace.specs.Laws.{IsImageSound}
use Rattle.sb_bundle.specs.declared.bundle.CoreStart.{CoreStart}
use Rattle.sb_bundle.specs.declared.bundle.Image.{Image}
use Rattle.sb_rewrite.specs.RewrittenText.{RewrittenText}
use Rattle.sb_rewrite.proofs.Length.{keeps_length}
use Rattle.sb_load.specs.Loading.{Load, AreRewritten, IsLoadable}
use Rattle.sb_load.specs.FirstState.{image_of, images_of, images_loaded, entry_of, first_state}
use Rattle.sb_load.specs.Need.{process_need, area_need, need_of, have_of, page_count}
use Rattle.sb_load.proofs.FirstState.{first_threads}
use Rattle.sb_plain.proofs.FirstSound.{loaded_sound}
use Rattle.sb_plain.proofs.SoundStart.{loaded_start}
use Rattle.sb_shows.specs.StartLaws.{ImageFitsWindows}
use Rattle.sb_mapping.specs.StartProcesses.{image_need}
use Rattle.sb_sub.specs.Kernel.{Kernel, Seat, process_of, seat_of}
use Rattle.sb_sub.specs.StandsFor.{StandsFor}
use Rattle.sb_sub.specs.Start.{HasStarted, images_need, start_seat}
use Rattle.sb_sub.proofs.Servable.{sound_servable}

-- ---- frames

needs_of : (images : List Image) (rewritten : List RewrittenText) → AreRewritten images rewritten
    → images_need (images_of images rewritten) ≡ sum_by process_need images + sum_by area_need rewritten
needs_of [] [] are = refl
needs_of [] (made ∷ others) are = absurd are
needs_of (image ∷ images) [] are = absurd are
needs_of (image ∷ images) (made ∷ others) are =
    let rest = needs_of images others are.1 in
    let size = ap page_count (keeps_length image.text made are.0) in
    let first = sum_by-cons image_need (image_of image made) (images_of images others) in
    let second = sum_by-cons process_need image images in
    let third = sum_by-cons area_need made others in
    omega (arith, rest, size, first, second, third)

-- the images take what is needed beside the threads
pub images_take : (load : Load) → ∥ IsLoadable load ∥₁
    → images_need (images_loaded load) ≡ sum_by process_need load.bundle.images + sum_by area_need load.rewritten
images_take load loadable =
    let most : images_need (images_loaded load) ≤ sum_by process_need load.bundle.images + sum_by area_need load.rewritten =
    ∥∥₁_elim loadable le_prop (λ known. let is = needs_of load.bundle.images load.rewritten known.texts in omega (arith, is)) in
    let least : sum_by process_need load.bundle.images + sum_by area_need load.rewritten ≤ images_need (images_loaded load) =
    ∥∥₁_elim loadable le_prop (λ known. let is = needs_of load.bundle.images load.rewritten known.texts in omega (arith, is)) in
    omega (arith, most, least)

-- ---- images and entries

image_fits : (image : ProcessImage) → IsImageSound image → ImageFitsWindows image
image_fits image sound = record {
  text = (let size = sound.text_length in omega (arith, size));
  area = (let size = sound.area_length in omega (arith, size));
  initial = (let size = sound.initial_length in omega (arith, size));
  heap = sound.heap;
}

all_fit : (images : List ProcessImage) → AllByRecursion IsImageSound images → AllByRecursion ImageFitsWindows images
all_fit [] sound = tt
all_fit (image ∷ images) sound = (image_fits image sound.0, all_fit images sound.1)

pub images_fit : (load : Load) → ∥ IsLoadable load ∥₁ → AllByRecursion ImageFitsWindows (images_loaded load)
images_fit load loadable = all_fit (images_loaded load) (loaded_start load loadable).images

-- ---- the registry

pub take_whole : {A : Type 0} (list rest : List A) (count : ℕ) → count ≡ length list → take count (list ++ rest) ≡ list
take_whole [] rest zero is = refl
take_whole [] rest (suc count) is = absurd (omega (arith, is))
take_whole (one ∷ list) rest zero is = absurd (omega (arith, is))
take_whole (one ∷ list) rest (suc count) is =
    ap (λ all. one ∷ all) (take_whole list rest count (omega (arith, is)))

seats_by : (thread : ℕ) (cores : List CoreStart)
    → map seat_of (start_threads thread (map entry_of cores)) ≡ map start_seat cores
seats_by thread [] = refl
seats_by thread (core ∷ cores) = ap (λ (seats : List Seat). start_seat core ∷ seats) (seats_by (thread + 1) cores)

-- what was built stands for the state at the start
pub started_stands : (kernel : Kernel) (root : RootKernel) (book : Book) (memory : Physical) (load : Load)
    → ∥ IsLoadable load ∥₁ → HasStarted root book memory load kernel.processes
    → map process_of kernel.processes ≡ map start_process (images_loaded load)
    → kernel.seats ≡ map start_seat load.bundle.cores → kernel.keys ≡ load.bundle.keys
    → free_count book ≡ have_of load.bundle - need_of load.bundle load.rewritten
    → StandsFor kernel root book memory (first_state load)
started_stands kernel root book memory load loadable started processes seats keys free =
    let few = loaded_start load loadable in
    record {
      placement = started.placement;
      keeps = started.carries.keeps;
      rooted = started.carries.rooted;
      sets = started.sets;
      processes = processes;
      seats = seats_by 0 load.bundle.cores ∙ sym seats;
      keys = keys;
      servable = sound_servable (first_state load) (loaded_sound load loadable)
          (let size = first_threads load in
          let count = length-map load.bundle.cores entry_of in
          let most = few.entry_count in omega (arith, size, count, most));
      booked = started.carries.booked;
      unused = started.carries.unused;
      count = free;
    }
