-- Two names that `same_name` finds to be one are equal.
use Rattle.std.proofs.Common.{◌≡◌, ℕ, Bool, true, false, ◌&&◌, ◌==◌, refl}
use Rattle.std.proofs.lemmas.Bool.{and_parts}
use Rattle.std.proofs.lemmas.Bool.Decides.{Decides-eqb}
use Rattle.sb_pages.specs.declared.page.PageName.{PageName}
use Rattle.sb_pages.specs.declared.page.PageName.TheVariants.{Text, Area, Data, Heap, Pool, ServerStack, Save, Stack, Buffer, Record, Scratch, HomeTrampoline, ServerTrampoline}
use Rattle.sb_pages.specs.PageName.{same_name}

-- ---- numbers

pub number : (first second : ℕ) → (first == second) ≡ true → first ≡ second
number first second same = (Decides-eqb first second).0 same

two : (a b c d : ℕ) → ((a == b) && (c == d)) ≡ true → (a ≡ b) × (c ≡ d)
two a b c d same = let parts = and_parts (a == b) (c == d) same in (number a b parts.0, number c d parts.1)

three : (a b c d e f : ℕ) → ((a == b) && ((c == d) && (e == f))) ≡ true → (a ≡ b) × (c ≡ d) × (e ≡ f)
three a b c d e f same =
    let parts = and_parts (a == b) ((c == d) && (e == f)) same in
    let rest = two c d e f parts.1 in (number a b parts.0, rest.0, rest.1)

-- ---- names

pub name_same : (first second : PageName) → same_name first second ≡ true → first ≡ second
unfolding same_name
name_same (Text process page) (Text process' page') same = let parts = two process process' page page' same in cc
name_same (Area process page) (Area process' page') same = let parts = two process process' page page' same in cc
name_same (Data process page) (Data process' page') same = let parts = two process process' page page' same in cc
name_same (Heap process page) (Heap process' page') same = let parts = two process process' page page' same in cc
name_same (Pool process) (Pool process') same = let part = number process process' same in cc
name_same (ServerStack process page) (ServerStack process' page') same = let parts = two process process' page page' same in cc
name_same (Save thread) (Save thread') same = let part = number thread thread' same in cc
name_same (Stack thread page) (Stack thread' page') same = let parts = two thread thread' page page' same in cc
name_same (Buffer thread index page) (Buffer thread' index' page') same =
    let parts = three thread thread' index index' page page' same in cc
name_same (Record thread view) (Record thread' view') same = let parts = two thread thread' view view' same in cc
name_same (Scratch thread view) (Scratch thread' view') same = let parts = two thread thread' view view' same in cc
name_same HomeTrampoline HomeTrampoline same = refl
name_same ServerTrampoline ServerTrampoline same = refl
name_same _ _ same = cc

other_by : (test : Bool) (first second : PageName) → same_name first second ≡ test → (first ≡ second → ⊥)
    → same_name first second ≡ false
other_by true first second same apart = absurd (apart (name_same first second same))
other_by false first second same apart = same

-- the test of two names that are not equal
pub name_other : (first second : PageName) → (first ≡ second → ⊥) → same_name first second ≡ false
name_other first second apart = other_by (same_name first second) first second refl apart
