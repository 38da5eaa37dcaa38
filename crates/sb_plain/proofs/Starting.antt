-- Pages that are made one after another.
use Rattle.std.proofs.Common.{◌≡◌, ℕ, suc, ◌+◌, ◌-◌, ◌<◌, ◌++◌, List, [], ◌∷◌, length, drop, get_or, map, replicate, ap, sym, ◌∙◌, refl, arith, append_assoc}
use Rattle.std.proofs.lemmas.List.{drop_more, length-map}
use Rattle.std.proofs.Math.Seq.{append_snoc}
use Rattle.sb_state.specs.declared.page.Page.{Page}
use Rattle.sb_state.specs.State.{State, Process}
use Rattle.sb_state.specs.declared.state.Flight.{Flight}
use Rattle.sb_state.specs.declared.state.Thread.{Thread}
use Rattle.sb_state.specs.Start.{ProcessImage, pages_from, process_pages, images_pages, threads_pages, trampoline_pages, start_process, start_threads}
use Rattle.std.specs.Prelude.{Option, None}
use Rattle.std.proofs.lemmas.Option.{unwrap_or-slice_get}
use Rattle.sb_bundle.specs.declared.bundle.Image.{Image}
use Rattle.sb_rewrite.specs.RewrittenText.{RewrittenText}
use Rattle.sb_load.specs.Loading.{Load, IsLoadable, nothing, rewritten_of}
use Rattle.sb_load.proofs.Known.{text_count}
use Rattle.sb_load.specs.Need.{need_of, have_of}
use Rattle.sb_plain.specs.Start.{image_of, images_of, images_loaded, entry_of, first_state}

-- the pages from a number below the count on
first_of : (page : ℕ → Page) (first count : ℕ) → first < count
    → pages_from page first (count - first) ≡ page first ∷ pages_from page (first + 1) (count - (first + 1))
first_of page first count below =
    let next : count - first ≡ suc (count - (first + 1)) = omega arith in
    ap (λ (many : ℕ). pages_from page first many) next

-- one more page, where those so far and those that are left make up the whole
pub pages_more : (page : ℕ → Page) (first count : ℕ) (so_far grown whole : List Page) → first < count
    → grown ≡ so_far ++ page first ∷ []
    → so_far ++ pages_from page first (count - first) ≡ whole → grown ++ pages_from page (first + 1) (count - (first + 1)) ≡ whole
pages_more page first count so_far grown whole below more all =
    ap (λ (pages : List Page). pages ++ pages_from page (first + 1) (count - (first + 1))) more
    ∙ append_snoc so_far (page first) (pages_from page (first + 1) (count - (first + 1)))
    ∙ ap (λ (rest : List Page). so_far ++ rest) (sym (first_of page first count below)) ∙ all

-- the images of what was loaded from a place on
abbrev pub images_from : Load → ℕ → List ProcessImage
images_from load place = images_of (drop place load.bundle.images) (drop place load.rewritten)

-- what is read at a place of what was loaded: the image, and what its text becomes
pub record IsReadAt (load : Load) (place : ℕ) (image : Image) (becomes : RewrittenText) : Type 0 where
  pub loadable : ∥ IsLoadable load ∥₁
  pub below : place < length load.bundle.images
  pub of_bundle : image ≡ get_or load.bundle.images place image
  pub of_text : becomes ≡ rewritten_of load.rewritten place

images_more : (load : Load) (place : ℕ) (image : Image) (becomes : RewrittenText) → IsReadAt load place image becomes
    → images_from load place ≡ image_of image becomes ∷ images_from load (place + 1)
images_more load place image becomes read =
    let listed : place < length load.rewritten = omega (arith, read.below, text_count load read.loadable) in
    rw (
      drop_more load.bundle.images place image read.below,
      drop_more load.rewritten place nothing listed,
      ← unwrap_or-slice_get load.rewritten place nothing,
      ← read.of_text,
      ← read.of_bundle,
    ) refl

-- the pages of one more image
pub image_pushed : (load : Load) (place : ℕ) (image : Image) (becomes : RewrittenText) (so_far grown whole : List Page)
    → IsReadAt load place image becomes
    → grown ≡ so_far ++ process_pages place (image_of image becomes)
    → so_far ++ images_pages place (images_from load place) ≡ whole
    → grown ++ images_pages (place + 1) (images_from load (place + 1)) ≡ whole
image_pushed load place image becomes so_far grown whole read more all =
    ap (λ (pages : List Page). pages ++ images_pages (place + 1) (images_from load (place + 1))) more
    ∙ append_assoc so_far (process_pages place (image_of image becomes)) (images_pages (place + 1) (images_from load (place + 1)))
    ∙ ap (λ (images : List ProcessImage). so_far ++ images_pages place images) (sym (images_more load place image becomes read))
    ∙ all

-- and its process
pub process_pushed : (load : Load) (place : ℕ) (image : Image) (becomes : RewrittenText) (so_far grown whole : List Process)
    (one : Process)
    → IsReadAt load place image becomes
    → one ≡ start_process (image_of image becomes) → grown ≡ so_far ++ one ∷ []
    → so_far ++ map start_process (images_from load place) ≡ whole
    → grown ++ map start_process (images_from load (place + 1)) ≡ whole
process_pushed load place image becomes so_far grown whole one read is more all =
    ap (λ (processes : List Process). processes ++ map start_process (images_from load (place + 1))) more
    ∙ append_snoc so_far one (map start_process (images_from load (place + 1)))
    ∙ ap (λ (process : Process). so_far ++ process ∷ map start_process (images_from load (place + 1))) is
    ∙ ap (λ (images : List ProcessImage). so_far ++ map start_process images) (sym (images_more load place image becomes read))
    ∙ all

abbrev made : List Page → List Process → List Thread → List (Option Flight) → ℕ → List ℕ → State
made pages processes threads flights free keys =
    record { pages = pages; processes = processes; threads = threads; flights = flights; free = free; keys = keys }

-- the parts of the machine at its start make up its state
pub machine_started : (load : Load) (pages : List Page) (processes : List Process) (threads : List Thread)
    (flights : List (Option Flight)) (free : ℕ) (keys : List ℕ)
    → pages ≡ images_pages 0 (images_loaded load) ++ (threads_pages 0 (map entry_of load.bundle.cores) ++ trampoline_pages)
    → processes ≡ map start_process (images_loaded load) → threads ≡ start_threads 0 (map entry_of load.bundle.cores)
    → flights ≡ replicate (length load.bundle.cores) None → free ≡ have_of load.bundle - need_of load.bundle load.rewritten
    → keys ≡ load.bundle.keys
    → made pages processes threads flights free keys ≡ first_state load
machine_started load pages processes threads flights free keys its_pages its_processes its_threads its_flights its_free its_keys =
    rw (its_pages, its_processes, its_threads, its_flights, its_free, its_keys, length-map) refl
