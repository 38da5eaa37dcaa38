-- Instructions one after another, as the code spells them.
use Rattle.std.proofs.Common.{◌≡◌, ℕ, ◌+◌, List, [], ◌∷◌, ◌++◌, length, refl, sym, ap, ◌∙◌, append_assoc}
use Rattle.std.proofs.lemmas.Grind.{flat_map-append}
use Rattle.sb_insn.specs.declared.insn.Insn.{Insn}
use Rattle.sb_insn.specs.Spelling.{spelling}
use Rattle.sb_forms.specs.declared.slots.Site.{Site}
use Rattle.sb_forms.specs.declared.answer.Form.{Form}
use Rattle.sb_forms.specs.declared.answer.Form.TheVariants as form
use Rattle.sb_forms.specs.Pieces.{jump_insn}
use Rattle.sb_forms.specs.Table.{spelled_bytes, move_outcome, bytes_of}

append_nil : (xs : List ℕ) → xs ++ [] ≡ xs
append_nil [] = refl
append_nil (x ∷ xs) = ap (λ (ys : List ℕ). x ∷ ys) (append_nil xs)

-- the bytes so far are those of some instructions, and more of them follow
pub more : (code new : List ℕ) (insns next : List Insn) → code ≡ spelled_bytes insns → new ≡ code ++ spelled_bytes next
    → new ≡ spelled_bytes (insns ++ next)
more code new insns next so_far step =
    step ∙ ap (λ (bytes : List ℕ). bytes ++ spelled_bytes next) so_far ∙ sym (flat_map-append spelling insns next)

-- one is put behind bytes
pub one : (old new : List ℕ) (insn made : Insn) → made ≡ insn → new ≡ old ++ spelling made
    → new ≡ old ++ spelled_bytes (insn ∷ [])
one old new insn made is step =
    step ∙ ap (λ (i : Insn). old ++ spelling i) is ∙ ap (λ (bytes : List ℕ). old ++ bytes) (sym (append_nil (spelling insn)))

-- one, and more behind it
pub one_then : (old mid new : List ℕ) (insn made : Insn) (next : List Insn) → made ≡ insn → mid ≡ old ++ spelling made
    → new ≡ mid ++ spelled_bytes next → new ≡ old ++ spelled_bytes (insn ∷ next)
one_then old mid new insn made next is first step =
    step ∙ ap (λ (bytes : List ℕ). bytes ++ spelled_bytes next) (first ∙ ap (λ (i : Insn). old ++ spelling i) is)
    ∙ append_assoc old (spelling insn) (spelled_bytes next)

-- the bytes of one
pub alone : (code : List ℕ) (insn made : Insn) → made ≡ insn → code ≡ spelling made → code ≡ spelled_bytes (insn ∷ [])
alone code insn made is first = one [] code insn made is first

-- the slot whose bytes are those of these instructions
pub moved_is : (result : Form) (site : Site) (pre_bytes post_bytes : List ℕ) (made : Insn) (pre : List Insn) (main : Insn)
    (post : List Insn)
    → pre_bytes ≡ spelled_bytes pre → made ≡ main → post_bytes ≡ spelled_bytes post
    → result
    ≡ form.Moved pre_bytes (spelling made)
    (post_bytes ++ spelling
    (jump_insn (site.slot + length pre_bytes + length (spelling made) + length post_bytes) site.next))
    → result ≡ bytes_of (move_outcome site pre main post)
moved_is result site pre_bytes post_bytes made pre main post before work behind step =
    let back =
    jump_insn (site.slot + length (spelled_bytes pre) + length (spelling main) + length (spelled_bytes post)) site.next in
    step
    ∙ ap (λ (p : List ℕ). form.Moved p (spelling made)
    (post_bytes ++ spelling (jump_insn (site.slot + length p + length (spelling made) + length post_bytes) site.next))) before
    ∙ ap (λ (m : Insn). form.Moved (spelled_bytes pre) (spelling m)
    (post_bytes ++ spelling
    (jump_insn (site.slot + length (spelled_bytes pre) + length (spelling m) + length post_bytes) site.next))) work
    ∙ ap (λ (q : List ℕ). form.Moved (spelled_bytes pre) (spelling main)
    (q ++ spelling (jump_insn (site.slot + length (spelled_bytes pre) + length (spelling main) + length q) site.next))) behind
    ∙ ap (λ (q : List ℕ). form.Moved (spelled_bytes pre) (spelling main) q) (one (spelled_bytes post) _ back back refl refl
    ∙ sym (flat_map-append spelling post (back ∷ [])))
