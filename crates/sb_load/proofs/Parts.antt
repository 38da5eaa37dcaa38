-- Lists of texts and of cores, one by one.
use Rattle.std.proofs.Common.{◌≡◌, ◌≢◌, ℕ, Ok, Err, suc, ◌+◌, ◌<◌, List, [], ◌∷◌, ◌++◌, length, take, drop, get_or, refl, ap, sym, ◌∙◌, subst, arith, length-take-le}
use Rattle.std.proofs.lemmas.List.{take-append-drop, take_more, drop_more}
use Rattle.std.specs.List.{AllByRecursion}
use Rattle.sb_bundle.specs.declared.bundle.Image.{Image}
use Rattle.sb_bundle.specs.declared.bundle.CoreStart.{CoreStart}
use Rattle.sb_rewrite.specs.declared.refusal.RewriteRefusal.{RewriteRefusal}
use Rattle.sb_rewrite.specs.declared.refusal.RewriteRefusal.TheVariants as cause
use Rattle.sb_rewrite.specs.RewrittenText.{RewrittenText}
use Rattle.sb_rewrite.specs.Rewriting.{Rewrites}
use Rattle.sb_load.specs.Loading.{AreRewritten, HasEntry, IsFirstRefused, IsFirstBadEntry}
use Rattle.sb_load.specs.Checks.{refusal_of, RewritesTexts}

-- a list is a prefix, one element, and what stands behind it
cut_at : {X : Type 0} (xs : List X) (k : ℕ) (d : X) → k < length xs → xs ≡ take k xs ++ get_or xs k d ∷ drop (k + 1) xs
cut_at xs k d within = sym (take-append-drop k xs) ∙ ap (λ behind. take k xs ++ behind) (drop_more xs k d within)

-- ---- texts

pub as_many : (images : List Image) (rewritten : List RewrittenText) → AreRewritten images rewritten
    → length rewritten ≡ length images
as_many [] [] are = refl
as_many [] (made ∷ others) are = absurd are
as_many (image ∷ images) [] are = absurd are
as_many (image ∷ images) (made ∷ others) are = ap (λ (n : ℕ). suc n) (as_many images others are.1)

rewritten_push : (images : List Image) (rewritten : List RewrittenText) (image : Image) (made : RewrittenText)
    → AreRewritten images rewritten → Rewrites image.text (Ok made)
    → AreRewritten (images ++ image ∷ []) (rewritten ++ made ∷ [])
rewritten_push [] [] image made are one = (one, tt)
rewritten_push [] (other ∷ rewritten) image made are one = absurd are
rewritten_push (before ∷ images) [] image made are one = absurd are
rewritten_push (before ∷ images) (other ∷ rewritten) image made are one =
    (are.0, rewritten_push images rewritten image made are.1 one)

pub one_more_text : (images : List Image) (rewritten more : List RewrittenText) (k : ℕ)
    (image : Image) (text : List ℕ) (made : RewrittenText)
    → k < length images → image ≡ get_or images k image → text ≡ image.text
    → AreRewritten (take k images) rewritten → Rewrites text (Ok made) → more ≡ rewritten ++ made ∷ []
    → AreRewritten (take (k + 1) images) more
one_more_text images rewritten more k image text made within is its_text are one pushed =
    let longer : AreRewritten (take k images ++ image ∷ []) (rewritten ++ made ∷ []) =
    rewritten_push (take k images) rewritten image made are (subst (λ (bytes : List ℕ). Rewrites bytes (Ok made)) its_text one) in
    let prefix : take (k + 1) images ≡ take k images ++ image ∷ [] =
    take_more images k image within ∙ ap (λ (one : Image). take k images ++ one ∷ []) (sym is) in
    subst (λ (list : List RewrittenText). AreRewritten (take (k + 1) images) list) (sym pushed)
    (subst (λ (list : List Image). AreRewritten list (rewritten ++ made ∷ [])) (sym prefix) longer)

refused_at : (images : List Image) (rewritten : List RewrittenText) (k : ℕ) (why : RewriteRefusal) (image : Image)
    → k < length images → image ≡ get_or images k image
    → AreRewritten (take k images) rewritten → Rewrites image.text (Err why) → why ≢ cause.Memory → IsFirstRefused images k why
refused_at images rewritten k why image within is are refused not_memory =
    let cut : images ≡ take k images ++ image ∷ drop (k + 1) images =
    cut_at images k image within ∙ ap (λ (one : Image). take k images ++ one ∷ drop (k + 1) images) (sym is) in (
      take k images,
      image,
      drop (k + 1) images,
      cut,
      sym (length-take-le k images (omega arith)),
      rewritten,
      are,
      refused,
      not_memory,
    )

refused_by : (images : List Image) (rewritten : List RewrittenText) (k : ℕ) (why : RewriteRefusal) (image : Image)
    → k < length images → image ≡ get_or images k image
    → AreRewritten (take k images) rewritten → Rewrites image.text (Err why) → RewritesTexts images (Err (refusal_of k why))
refused_by images rewritten k (cause.Undecoded at) image within is are refused =
    refused_at images rewritten k (cause.Undecoded at) image within is are refused (λ same. absurd cc)
refused_by images rewritten k (cause.BadTarget at) image within is are refused =
    refused_at images rewritten k (cause.BadTarget at) image within is are refused (λ same. absurd cc)
refused_by images rewritten k (cause.Unmovable at) image within is are refused =
    refused_at images rewritten k (cause.Unmovable at) image within is are refused (λ same. absurd cc)
refused_by images rewritten k (cause.AreaFull at) image within is are refused =
    refused_at images rewritten k (cause.AreaFull at) image within is are refused (λ same. absurd cc)
refused_by images rewritten k cause.Memory image within is are refused = tt

pub refused_text : (images : List Image) (rewritten : List RewrittenText) (k : ℕ)
    (why : RewriteRefusal) (image : Image) (text : List ℕ)
    → k < length images → image ≡ get_or images k image
    → text ≡ image.text → AreRewritten (take k images) rewritten → Rewrites text (Err why)
    → RewritesTexts images (Err (refusal_of k why))
refused_text images rewritten k why image text within is its_text are refused =
    refused_by images rewritten k why image within is are (subst (λ (bytes : List ℕ). Rewrites bytes (Err why)) its_text refused)

-- ---- cores

pub refused_core : (rewritten : List RewrittenText) (cores : List CoreStart) (k : ℕ) (d : CoreStart) → k < length cores
    → AllByRecursion (HasEntry rewritten) (take k cores) → ¬ HasEntry rewritten (get_or cores k d)
    → IsFirstBadEntry rewritten cores k (get_or cores k d).entry
refused_core rewritten cores k d within all wrong = (
  take k cores,
  get_or cores k d,
  drop (k + 1) cores,
  cut_at cores k d within,
  sym (length-take-le k cores (omega arith)),
  all,
  wrong,
  refl,
)
