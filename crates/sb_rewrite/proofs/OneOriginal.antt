-- One original instruction at most runs at an address.
use Rattle.std.proofs.Common.{◌≡◌, ℕ, zero, suc, ◌+◌, ◌<◌, ◌≤◌, List, [], ◌∷◌, ◌++◌, length, get_or, ap, sym, ◌∙◌, subst, arith, inl, inr, length-append}
use Rattle.std.specs.Prelude.{map, flat_map}
use Rattle.std.specs.List.{AllByRecursion, Contains}
use Rattle.std.specs.List.Sorted.{IsStrictlyIncreasing}
use Rattle.std.proofs.lemmas.List.{get_or-map, length-map}
use Rattle.sb_forms.specs.declared.answer.Form.{Form}
use Rattle.sb_forms.specs.declared.answer.Form.TheVariants as form
use Rattle.sb_rewrite.specs.declared.edit.Move.{Move}
use Rattle.sb_rewrite.specs.Listing.{text_address}
use Rattle.sb_forms.specs.Answers.{area_end}
use Rattle.sb_rewrite.specs.Placing.{Placement, slot_bytes, area_address}
use Rattle.sb_rewrite.specs.RewrittenText.{RewrittenText, rewritten_text, starts_of, moves_of, moves_by, IsOrdered, IsMain, RunsAt}
use Rattle.sb_rewrite.specs.Rewriting.{EndsBehindArea, NoneOf, ArePlaces, OneOriginal}
use Rattle.sb_list.proofs.Search.{in_order}
use Rattle.sb_rewrite.proofs.Jumps.{starts_within}
use Rattle.sb_rewrite.proofs.Placed.{starts_placed}
use Rattle.sb_rewrite.proofs.Ordered.{ordered}
use Rattle.sb_rewrite.proofs.Originals.{main_of, move_at, nowhere, place_of}

-- ---- mains are in the area

IsInArea : Move → Type 0
IsInArea one = one.main ≤ area_end

one_in_area : (made : Form) (place : Placement) → ¬ (area_end < place.slot + length (slot_bytes made))
    → AllByRecursion IsInArea (moves_by made place)
unfolding IsInArea
one_in_area form.Keep place fits = tt
one_in_area (form.InPlace bytes) place fits = tt
one_in_area (form.Moved pre main post) place fits = (omega (arith, fits, length-append pre (main ++ post)), tt)
one_in_area form.Unmovable place fits = tt

both_in_area : (some others : List Move) → AllByRecursion IsInArea some → AllByRecursion IsInArea others
    → AllByRecursion IsInArea (some ++ others)
both_in_area [] others a b = b
both_in_area (first ∷ some) others a b = (a.0, both_in_area some others a.1 b)

all_in_area : (of_text : List Placement) → NoneOf EndsBehindArea of_text → AllByRecursion IsInArea (flat_map moves_of of_text)
all_in_area [] fits = tt
all_in_area (place ∷ of_text) fits =
    both_in_area (moves_of place) (flat_map moves_of of_text) (one_in_area place.form place fits.0) (all_in_area of_text fits.1)

in_area_at : (moves : List Move) (k : ℕ) → AllByRecursion IsInArea moves → k < length moves → (move_at moves k).main ≤ area_end
unfolding IsInArea
in_area_at [] k all within = absurd (omega arith)
in_area_at (first ∷ moves) zero all within = all.0
in_area_at (first ∷ moves) (suc k) all within = in_area_at moves k all.1 (omega arith)

-- ---- one of two

-- of numbers that rise one stands at one place
not_later : (numbers : List ℕ) (i j : ℕ) → IsStrictlyIncreasing numbers → j < length numbers
    → get_or numbers i 0 ≡ get_or numbers j 0 → i < j → ⊥
not_later numbers i j rising within same less =
    let next : get_or numbers i 0 < get_or numbers (i + 1) 0 = rising i (omega arith) in
    let later : get_or numbers (i + 1) 0 ≤ get_or numbers j 0 = in_order numbers rising (i + 1) j (omega arith) within in
    omega arith

same_place : (numbers : List ℕ) (i j : ℕ) → IsStrictlyIncreasing numbers → i < length numbers → j < length numbers
    → get_or numbers i 0 ≡ get_or numbers j 0 → i ≡ j
same_place numbers i j rising within within' same =
    let no_less : i < j → ⊥ = not_later numbers i j rising within' same in
    let no_more : j < i → ⊥ = not_later numbers j i rising within (sym same) in
    omega arith

one_main : (made : RewrittenText) (at first second : ℕ) → IsOrdered made → IsMain made at first → IsMain made at second
    → first ≡ second
one_main made at first second order one other =
    let here : move_at made.moves one.0 ≡ record { start = first; main = at } =
    place_of made.moves (record { start = first; main = at }) one in
    let there : move_at made.moves other.0 ≡ record { start = second; main = at } =
    place_of made.moves (record { start = second; main = at }) other in
    let mains : get_or (map main_of made.moves) one.0 0 ≡ get_or (map main_of made.moves) other.0 0 =
    get_or-map main_of made.moves one.0 nowhere 0 one.1 ∙ ap main_of here ∙ sym (ap main_of there)
    ∙ sym (get_or-map main_of made.moves other.0 nowhere 0 other.1) in
    let same : one.0 ≡ other.0 =
    same_place (map main_of made.moves) one.0 other.0 order.mains (omega (arith, one.1, length-map made.moves main_of))
    (omega (arith, other.1, length-map made.moves main_of)) mains in
    sym (ap (λ (move : Move). move.start) here) ∙ ap (λ (k : ℕ). (move_at made.moves k).start) same
    ∙ ap (λ (move : Move). move.start) there

-- the area stands before the text
apart : (text : List ℕ) (of_text : List Placement) (at start : ℕ) → ArePlaces text of_text → NoneOf EndsBehindArea of_text
    → Contains (starts_of of_text) at → IsMain (rewritten_text of_text) at start → ⊥
apart text of_text at start are fits held main =
    let listed =
    subst (λ (list : List ℕ). Contains list at) (ap (λ (list : List Placement). starts_of list) are.places_are
    ∙ starts_placed text text_address area_address are.insns) held in
    let low : text_address ≤ at = (starts_within text_address are.insns at listed).0 in
    let here : move_at (rewritten_text of_text).moves main.0 ≡ record { start = start; main = at } =
    place_of (rewritten_text of_text).moves (record { start = start; main = at }) main in
    let high : (move_at (rewritten_text of_text).moves main.0).main ≤ area_end =
    in_area_at (rewritten_text of_text).moves main.0 (all_in_area of_text fits) main.1 in
    omega (arith, ap main_of here)

one_of_places : (text : List ℕ) (of_text : List Placement) (at first second : ℕ) → ArePlaces text of_text
    → NoneOf EndsBehindArea of_text → RunsAt (rewritten_text of_text) at first → RunsAt (rewritten_text of_text) at second
    → first ≡ second
one_of_places text of_text at first second are fits (inl (is, here)) (inl (is', here')) = is ∙ sym is'
one_of_places text of_text at first second are fits (inl (is, here)) (inr main) =
    absurd (apart text of_text at second are fits here.0 main)
one_of_places text of_text at first second are fits (inr main) (inl (is, here)) =
    absurd (apart text of_text at first are fits here.0 main)
one_of_places text of_text at first second are fits (inr main) (inr main') =
    one_main (rewritten_text of_text) at first second (ordered text of_text are) main main'

pub one_original : OneOriginal
one_original text made at first second (of_text, are, fits, is) one other =
    one_of_places text of_text at first second are fits.1 (subst (λ (made_it : RewrittenText). RunsAt made_it at first) is one)
    (subst (λ (made_it : RewrittenText). RunsAt made_it at second) is other)
