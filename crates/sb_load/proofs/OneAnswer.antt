-- The cases of what loading answers exclude each other.
use Rattle.std.proofs.Common.{◌≡◌, ◌≢◌, ℕ, suc, ◌≤◌, List, [], ◌∷◌, ◌++◌, Result, Ok, Err, length, refl, ap, sym, ◌∙◌, subst, arith}
use Rattle.std.specs.List.{AllByRecursion}
use Rattle.sb_bundle.specs.declared.bundle.Bundle.{Bundle}
use Rattle.sb_bundle.specs.declared.bundle.Image.{Image}
use Rattle.sb_bundle.specs.declared.bundle.CoreStart.{CoreStart}
use Rattle.sb_rewrite.specs.declared.refusal.RewriteRefusal.{RewriteRefusal}
use Rattle.sb_rewrite.specs.declared.refusal.RewriteRefusal.TheVariants as cause
use Rattle.sb_rewrite.specs.RewrittenText.{RewrittenText}
use Rattle.sb_rewrite.specs.Rewriting.{Rewrites}
use Rattle.sb_rewrite.proofs.OneRewriting.{one_rewritten}
use Rattle.sb_load.specs.declared.refusal.LoadRefusal.{LoadRefusal}
use Rattle.sb_load.specs.declared.refusal.LoadRefusal.TheVariants.{Process, BadEntry, NoFrames, Memory}
use Rattle.sb_load.specs.Need.{need_of, have_of}
use Rattle.sb_load.specs.Loading.{AreRewritten, HasEntry, IsFirstRefused, IsFirstBadEntry, LacksFrames, Load, Loads, OneAnswer}

-- ---- the first bad one of a list

module _ {X : Type 0} (Good Bad : X → Type 0) (apart : (x : X) → Good x → Bad x → ⊥) where
  -- none of a list of good ones is bad
  none_bad : (before : List X) (x : X) (after : List X) → AllByRecursion Good (before ++ x ∷ after) → Bad x → ⊥
  none_bad [] x after good bad = apart x good.0 bad
  none_bad (first ∷ before) x after good bad = none_bad before x after good.1 bad

  -- behind good ones the first bad one stands at one place
  same_first : (before before' : List X) (x x' : X) (after after' : List X) → AllByRecursion Good before
      → AllByRecursion Good before' → Bad x → Bad x'
      → before ++ x ∷ after ≡ before' ++ x' ∷ after' → (length before ≡ length before') × (x ≡ x')
  same_first [] [] x x' after after' good good' bad bad' same = (refl, cc same)
  same_first [] (first ∷ before') x x' after after' good good' bad bad' same =
      let is : first ≡ x = cc same in
      absurd (apart x (subst Good is good'.0) bad)
  same_first (first ∷ before) [] x x' after after' good good' bad bad' same =
      let is : first ≡ x' = cc same in
      absurd (apart x' (subst Good is good.0) bad')
  same_first (first ∷ before) (first' ∷ before') x x' after after' good good' bad bad' same =
      let tails : before ++ x ∷ after ≡ before' ++ x' ∷ after' = cc same in
      let later = same_first before before' x x' after after' good.1 good'.1 bad bad' tails in
      (ap (λ (n : ℕ). suc n) later.0, later.1)

-- ---- texts

-- what one text is rewritten to
abbrev Answer : Type 0
Answer = Result RewrittenText RewriteRefusal

abbrev done : RewrittenText → Answer
done made = Ok made

abbrev failed : RewriteRefusal → Answer
failed why = Err why

made_apart : (made : RewrittenText) (why : RewriteRefusal) (answer : Answer) → answer ≡ Ok made → answer ≡ Err why → ⊥
made_apart made why (Ok other) is refused = absurd cc
made_apart made why (Err other) is refused = absurd cc

made_is : (made : RewrittenText) → done made ≢ failed cause.Memory
made_is made is = made_apart made cause.Memory (done made) refl is

refusal_is : (why : RewriteRefusal) → why ≢ cause.Memory → failed why ≢ failed cause.Memory
refusal_is why not_memory is = not_memory (cc is)

same_made : (text : List ℕ) (made made' : RewrittenText) → Rewrites text (Ok made) → Rewrites text (Ok made') → made ≡ made'
same_made text made made' one other = cc (one_rewritten text (Ok made) (Ok made') (made_is made) (made_is made') one other)

same_cause : (text : List ℕ) (why why' : RewriteRefusal) → why ≢ cause.Memory → why' ≢ cause.Memory → Rewrites text (Err why)
    → Rewrites text (Err why') → why ≡ why'
same_cause text why why' some some' one other =
    cc (one_rewritten text (Err why) (Err why') (refusal_is why some) (refusal_is why' some') one other)

abbrev IsMade : Image → Type 0
IsMade image = (made : RewrittenText) × Rewrites image.text (Ok made)

abbrev IsRefused : Image → Type 0
IsRefused image = (why : RewriteRefusal) × Rewrites image.text (Err why) × (why ≢ cause.Memory)

text_apart : (image : Image) → IsMade image → IsRefused image → ⊥
text_apart image (made, one) (why, refused, some) =
    made_apart made why (Ok made) refl
    (one_rewritten image.text (Ok made) (Err why) (made_is made) (refusal_is why some) one refused)

each_is_made : (images : List Image) (rewritten : List RewrittenText) → AreRewritten images rewritten
    → AllByRecursion IsMade images
each_is_made [] rewritten are = tt
each_is_made (image ∷ images) [] are = absurd are
each_is_made (image ∷ images) (made ∷ others) are = ((made, are.0), each_is_made images others are.1)

same_rewritten : (images : List Image) (first second : List RewrittenText) → AreRewritten images first
    → AreRewritten images second
    → first ≡ second
same_rewritten [] [] [] one other = refl
same_rewritten [] (made ∷ first) second one other = absurd one
same_rewritten [] [] (made ∷ second) one other = absurd other
same_rewritten (image ∷ images) [] second one other = absurd one
same_rewritten (image ∷ images) (made ∷ first) [] one other = absurd other
same_rewritten (image ∷ images) (made ∷ first) (made' ∷ second) one other =
    let head : made ≡ made' = same_made image.text made made' one.0 other.0 in
    let tail : first ≡ second = same_rewritten images first second one.1 other.1 in
    λ i. head i ∷ tail i

refused_apart : (images : List Image) (rewritten : List RewrittenText) (process : ℕ) (why : RewriteRefusal)
    → AreRewritten images rewritten → IsFirstRefused images process why → ⊥
refused_apart images rewritten process why are (before, image, after, cut, number, others, accepted, refused, some) =
    none_bad IsMade IsRefused text_apart before image after
    (subst (λ (list : List Image). AllByRecursion IsMade list) cut (each_is_made images rewritten are)) (why, refused, some)

same_refused : (images : List Image) (process process' : ℕ) (why why' : RewriteRefusal) → IsFirstRefused images process why
    → IsFirstRefused images process' why' → (process ≡ process') × (why ≡ why')
same_refused images process process' why why' (before, image, after, cut, number, made, accepted, refused, some) (
  before',
  image',
  after',
  cut',
  number',
  made',
  accepted',
  refused',
  some',
) =
    let same =
    same_first IsMade IsRefused text_apart before before' image image' after after' (each_is_made before made accepted)
    (each_is_made before' made' accepted') (why, refused, some) (why', refused', some') (sym cut ∙ cut') in (
      number ∙ same.0 ∙ sym number',
      same_cause image.text why why' some some' refused
          (subst (λ (one : Image). Rewrites one.text (Err why')) (sym same.1) refused'),
    )

-- ---- cores

entry_apart : (rewritten : List RewrittenText) (core : CoreStart) → HasEntry rewritten core → (HasEntry rewritten core → ⊥) → ⊥
entry_apart rewritten core held wrong = wrong held

bad_entry_apart : (rewritten : List RewrittenText) (cores : List CoreStart) (core at : ℕ)
    → AllByRecursion (HasEntry rewritten) cores
    → IsFirstBadEntry rewritten cores core at → ⊥
bad_entry_apart rewritten cores core at all (before, first, after, cut, number, good, wrong, entry) =
    none_bad (HasEntry rewritten) (λ one. HasEntry rewritten one
    → ⊥) (entry_apart rewritten) before first after
    (subst (λ (list : List CoreStart). AllByRecursion (HasEntry rewritten) list) cut all) wrong

same_bad_entry : (rewritten : List RewrittenText) (cores : List CoreStart) (core core' at at' : ℕ)
    → IsFirstBadEntry rewritten cores core at → IsFirstBadEntry rewritten cores core' at' → (core ≡ core') × (at ≡ at')
same_bad_entry rewritten cores core core' at at' (before, first, after, cut, number, good, wrong, entry) (
  before',
  first',
  after',
  cut',
  number',
  good',
  wrong',
  entry',
) =
    let same =
    same_first (HasEntry rewritten) (λ one. HasEntry rewritten one
    → ⊥) (entry_apart rewritten) before before' first first' after after' good good' wrong wrong' (sym cut ∙ cut') in
    (number ∙ same.0 ∙ sym number', entry ∙ ap (λ (one : CoreStart). one.entry) same.1 ∙ sym entry')

-- ---- the answer

pub same_load : (bundle : Bundle) (first second : Load) → Loads bundle (Ok first) → Loads bundle (Ok second) → first ≡ second
same_load bundle first second (is, loadable) (is', loadable') =
    let bundles : first.bundle ≡ second.bundle = is ∙ sym is' in
    let texts : AreRewritten second.bundle.images first.rewritten =
    subst (λ (one : Bundle). AreRewritten one.images first.rewritten) bundles loadable.texts in
    let rewritten : first.rewritten ≡ second.rewritten =
    same_rewritten second.bundle.images first.rewritten second.rewritten texts loadable'.texts in
    λ i. record { bundle = bundles i; rewritten = rewritten i }

-- a loaded bundle is not refused
ok_apart : (bundle : Bundle) (load : Load) (refusal : LoadRefusal) → refusal ≢ Memory → Loads bundle (Ok load)
    → Loads bundle (Err refusal) → ⊥
ok_apart bundle load (Process process why) not_memory (is, loadable) refused =
    refused_apart bundle.images load.rewritten process why
    (subst (λ (one : Bundle). AreRewritten one.images load.rewritten) is loadable.texts) refused
ok_apart bundle load (BadEntry core at) not_memory (is, loadable) (rewritten, texts, bad) =
    let same : rewritten ≡ load.rewritten =
    same_rewritten bundle.images rewritten load.rewritten texts
    (subst (λ (one : Bundle). AreRewritten one.images load.rewritten) is loadable.texts) in
    let entries : AllByRecursion (HasEntry load.rewritten) bundle.cores =
    subst (λ (one : Bundle). AllByRecursion (HasEntry load.rewritten) one.cores) is loadable.entries in
    bad_entry_apart load.rewritten bundle.cores core at entries
    (subst (λ (list : List RewrittenText). IsFirstBadEntry list bundle.cores core at) same bad)
ok_apart bundle load (NoFrames need have) not_memory (is, loadable) (rewritten, texts, entries, lacks) =
    let same : rewritten ≡ load.rewritten =
    same_rewritten bundle.images rewritten load.rewritten texts
    (subst (λ (one : Bundle). AreRewritten one.images load.rewritten) is loadable.texts) in
    let enough : need_of bundle load.rewritten ≤ have_of bundle =
    subst (λ (one : Bundle). need_of one load.rewritten ≤ have_of one) is loadable.enough in
    let (needs, has, less) = subst (λ (list : List RewrittenText). LacksFrames bundle list need have) same lacks in
    omega arith
ok_apart bundle load Memory not_memory loads refused = not_memory refl

-- an entry is refused or the frames are
entries_apart : (bundle : Bundle) (core at need have : ℕ) → Loads bundle (Err (BadEntry core at))
    → Loads bundle (Err (NoFrames need have)) → ⊥
entries_apart bundle core at need have (rewritten, texts, bad) (rewritten', texts', entries, lacks) =
    let same : rewritten ≡ rewritten' = same_rewritten bundle.images rewritten rewritten' texts texts' in
    bad_entry_apart rewritten' bundle.cores core at entries
    (subst (λ (list : List RewrittenText). IsFirstBadEntry list bundle.cores core at) same bad)

same_lack : (bundle : Bundle) (need need' have have' : ℕ) → Loads bundle (Err (NoFrames need have))
    → Loads bundle (Err (NoFrames need' have')) → (need ≡ need') × (have ≡ have')
same_lack bundle need need' have have' (rewritten, texts, entries, lacks) (rewritten', texts', entries', lacks') =
    let same : rewritten ≡ rewritten' = same_rewritten bundle.images rewritten rewritten' texts texts' in
    (lacks.0 ∙ ap (λ (list : List RewrittenText). need_of bundle list) same ∙ sym lacks'.0, lacks.1 ∙ sym lacks'.1)

same_refusal : (bundle : Bundle) (first second : LoadRefusal) → first ≢ Memory → second ≢ Memory → Loads bundle (Err first)
    → Loads bundle (Err second) → first ≡ second
same_refusal bundle (Process process why) (Process process' why') one other a b =
    let same = same_refused bundle.images process process' why why' a b in
    λ i. Process (same.0 i) (same.1 i)
same_refusal bundle (Process process why) (BadEntry core at) one other a b =
    absurd (refused_apart bundle.images b.0 process why b.1 a)
same_refusal bundle (Process process why) (NoFrames need have) one other a b =
    absurd (refused_apart bundle.images b.0 process why b.1 a)
same_refusal bundle (BadEntry core at) (Process process why) one other a b =
    absurd (refused_apart bundle.images a.0 process why a.1 b)
same_refusal bundle (BadEntry core at) (BadEntry core' at') one other (rewritten, texts, bad) (rewritten', texts', bad') =
    let lists : rewritten' ≡ rewritten = same_rewritten bundle.images rewritten' rewritten texts' texts in
    let same =
    same_bad_entry rewritten bundle.cores core core' at at' bad
    (subst (λ (list : List RewrittenText). IsFirstBadEntry list bundle.cores core' at') lists bad') in
    λ i. BadEntry (same.0 i) (same.1 i)
same_refusal bundle (BadEntry core at) (NoFrames need have) one other a b = absurd (entries_apart bundle core at need have a b)
same_refusal bundle (NoFrames need have) (Process process why) one other a b =
    absurd (refused_apart bundle.images a.0 process why a.1 b)
same_refusal bundle (NoFrames need have) (BadEntry core at) one other a b = absurd (entries_apart bundle core at need have b a)
same_refusal bundle (NoFrames need have) (NoFrames need' have') one other a b =
    let same = same_lack bundle need need' have have' a b in
    λ i. NoFrames (same.0 i) (same.1 i)
same_refusal bundle Memory second one other a b = absurd (one refl)
same_refusal bundle (Process process why) Memory one other a b = absurd (other refl)
same_refusal bundle (BadEntry core at) Memory one other a b = absurd (other refl)
same_refusal bundle (NoFrames need have) Memory one other a b = absurd (other refl)

pub one_answer : OneAnswer
one_answer bundle (Ok first) (Ok second) one other a b = λ i. Ok (same_load bundle first second a b i)
one_answer bundle (Ok first) (Err second) one other a b =
    absurd (ok_apart bundle first second (λ is. other (λ i. Err (is i))) a b)
one_answer bundle (Err first) (Ok second) one other a b = absurd (ok_apart bundle second first (λ is. one (λ i. Err (is i))) b a)
one_answer bundle (Err first) (Err second) one other a b =
    let same : first ≡ second =
    same_refusal bundle first second (λ is. one (λ i. Err (is i))) (λ is. other (λ i. Err (is i))) a b in
    λ i. Err (same i)
