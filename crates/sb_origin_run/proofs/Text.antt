-- What the table of forms has made stands for what it was made of.
use Rattle.std.proofs.Common.{◌≡◌, ℕ, List, [], ◌∷◌, refl, sym, ap, ◌∙◌, arith, subst}
use Rattle.sb_insn.specs.declared.insn.Insn.{Insn}
use Rattle.sb_insn.specs.declared.registers.Regs.{Regs}
use Rattle.sb_exec.specs.Interface.{Interface}
use Rattle.sb_exec.specs.Row.{Row}
use Rattle.sb_forms.specs.Pieces.{jump_insn}
use Rattle.sb_forms.specs.Table.{Replacement, InPlace, Moved}
use Rattle.sb_original.specs.Words.{Words, HasWords}
use Rattle.sb_original.specs.Slot.{Slotted, Does, worked}
use Rattle.sb_original.specs.Original.{IsRegs, InPlaceLaw}
use Rattle.sb_original.specs.Going.{Works, MainWorks, SlotGoes, original_row, Goes, IsMovable}
use Rattle.sb_original.proofs.Chains.{jump_does}
use Rattle.sb_original.proofs.Replaced.{all_go}
use Rattle.sb_origin_run.specs.Machine.{Code}
use Rattle.sb_origin_run.specs.Position.{Position, Same, Changed, Entry, AtOnce, InPre, AtMain, InPost, Nowhere, HasNext, behind, Stands}
use Rattle.sb_origin_run.specs.Text.{IsReplaced, IsPlaced, IsMadeOf}

-- the law of the form, at a state that enters its slot
goes : {M A N : Type 0} (bus : Interface M A) (Holds : Words → M → N → Type 0) (address : ℕ) (row : Regs
    → Row) (form : Replacement) (state : Slotted)
    → HasWords bus Holds → (replaced : IsReplaced address row form) → IsMovable form → state.regs.rip ≡ (replaced.site).slot
    → IsRegs state.regs
    → Goes bus Holds replaced.insn address state form
goes bus Holds address row form state has replaced movable at regs =
    subst (λ (made : Replacement). Goes bus Holds replaced.insn address state made) replaced.made
    (all_go bus Holds has replaced.insn replaced.site replaced.after_0f address state replaced.valid replaced.has_form
    (record { place = replaced.place; next = replaced.next; at = at; regs = regs })
    (subst (λ (made : Replacement). IsMovable made) (sym replaced.made) movable))

-- the same at the address itself, for what stands there in place
goes_in_place : {M A N : Type 0} (bus : Interface M A) (Holds : Words → M → N → Type 0) (address : ℕ) (row : Regs
    → Row) (form : Replacement) (regs : Regs) (words : Words)
    → HasWords bus Holds → (replaced : IsReplaced address row form) → IsMovable form → IsRegs regs
    → Goes bus Holds replaced.insn address (record { regs = record regs { rip = (replaced.site).slot }; words = words }) form
goes_in_place bus Holds address row form regs words has replaced movable fit =
    goes bus Holds address row form (record { regs = record regs { rip = (replaced.site).slot }; words = words }) has replaced
    movable refl (record { count = fit.count; fit = fit.fit })

-- registers with the RIP that they have
same_rip : (address : ℕ) (regs : Regs) → regs.rip ≡ address → (let r : Regs = record regs { rip = address } in r) ≡ regs
same_rip address regs at = ap (λ (n : ℕ). let r : Regs = record regs { rip = n } in r) (sym at)

changed_law : {M A N : Type 0} (bus : Interface M A) (Holds : Words → M → N → Type 0) (address : ℕ) (row : Regs
    → Row) (main : Insn)
    → Words → HasWords bus Holds → IsReplaced address row (InPlace (main ∷ [])) → (regs : Regs) → regs.rip ≡ address
    → IsRegs regs
    → InPlaceLaw (row regs) main regs
changed_law bus Holds address row main words has replaced regs at fit =
    let law : InPlaceLaw (original_row replaced.insn (record regs { rip = address })) main (record regs { rip = address }) =
    goes_in_place bus Holds address row (InPlace (main ∷ [])) regs words has replaced tt fit in
    subst (λ (r : Regs → Row). InPlaceLaw (r regs) main regs) (sym replaced.row_is)
    (subst (λ (r : Regs). InPlaceLaw (original_row replaced.insn r) main r) (same_rip address regs at) law)

-- several in place
at_once : {M A N : Type 0} (bus : Interface M A) (Holds : Words → M → N → Type 0) (address : ℕ) (row : Regs
    → Row) (main next : Insn) (left : List Insn)
    → HasWords bus Holds → IsReplaced address row (InPlace (main ∷ next ∷ left)) → (state : Slotted)
    → state.regs.rip ≡ address → IsRegs state.regs
    → MainWorks bus Holds (row state.regs) main (next ∷ left) state
at_once bus Holds address row main next left has replaced state at fit =
    let law : SlotGoes bus Holds (original_row replaced.insn (record (state.regs) { rip = address })) address [] main
    (next ∷ left) (record { regs = record (state.regs) { rip = address }; words = state.words }) =
    goes_in_place bus Holds address row (InPlace (main ∷ next ∷ left)) state.regs state.words has replaced tt fit in
    subst (λ (r : Regs → Row). MainWorks bus Holds (r state.regs) main (next ∷ left) state) (sym replaced.row_is)
    (subst (λ (r : Regs). MainWorks bus Holds (original_row replaced.insn r) main (next ∷ left)
    (record { regs = r; words = state.words })) (same_rip address state.regs at) law.work)

-- a jump to the slot
enters : {M A N : Type 0} (bus : Interface M A) (Holds : Words → M → N → Type 0) (address : ℕ) (row : Regs
    → Row) (form : Replacement) (to : ℕ)
    → (replaced : IsReplaced address row form) → to ≡ (replaced.site).slot → (state : Slotted) → state.regs.rip ≡ address
    → Works bus Holds (jump_insn address to) state
    × (worked (jump_insn address to) state ≡ record { regs = record (state.regs) { rip = to }; words = state.words })
enters bus Holds address row form to replaced is state at =
    let does =
    jump_does bus Holds address to state at (omega (arith, replaced.next, (replaced.place).next))
    (omega (arith, is, (replaced.place).slot)) in
    (subst (λ (s : Slotted). Does bus Holds (jump_insn address to) state s) (sym does.made) does, does.made)

slot_law : {M A N : Type 0} (bus : Interface M A) (Holds : Words → M → N → Type 0) (address : ℕ) (row : Regs
    → Row) (start to : ℕ) (pre : List Insn) (main : Insn) (post : List Insn)
    → HasWords bus Holds → (replaced : IsReplaced address row (Moved pre main post)) → start ≡ address
    → to ≡ (replaced.site).slot
    → (state : Slotted) → state.regs.rip ≡ to → IsRegs state.regs
    → SlotGoes bus Holds (row (record (state.regs) { rip = start })) start pre main post state
slot_law bus Holds address row start to pre main post has replaced is there state at fit =
    let law : SlotGoes bus Holds (original_row replaced.insn (record (state.regs) { rip = address })) address pre main post
    state = goes bus Holds address row (Moved pre main post) state has replaced tt (at ∙ there) fit in
    subst (λ (n : ℕ). SlotGoes bus Holds (row (record (state.regs) { rip = n })) n pre main post state) (sym is)
    (subst (λ (r : Regs → Row). SlotGoes bus Holds (r (record (state.regs) { rip = address })) address pre main post state)
    (sym replaced.row_is) law)

by_place : {M A N : Type 0} (bus : Interface M A) (Holds : Words → M → N → Type 0) (target source : Code) (place : ℕ
    → Position) (address : ℕ) (at : Position)
    → HasWords bus Holds → IsPlaced target source place address at → Stands bus Holds target source place address at
by_place bus Holds target source place address Same has placed = placed
by_place bus Holds target source place address Changed has (row, main, from, there, replaced) =
    (row, main, from, there, changed_law bus Holds address row main (record { first = 0; second = 0; third = 0 }) has replaced)
by_place bus Holds target source place address (Entry slot) has (replaced, start, at, there, first) = (
  jump_insn address slot.at,
  there,
  start,
  first,
  enters bus Holds address slot.row (Moved slot.pre slot.main slot.post) slot.at replaced at,
  slot_law bus Holds address slot.row slot.start slot.at slot.pre slot.main slot.post has replaced start at,
)
by_place bus Holds target source place address (AtOnce slot) has (from, there, next, replaced) =
    (from, there, next, once slot.post next replaced)
  where
    once : (post : List Insn) → HasNext place slot post (behind address slot.main)
        → IsReplaced address slot.row (InPlace (slot.main ∷ post)) → (state : Slotted) → state.regs.rip ≡ address
        → IsRegs state.regs → MainWorks bus Holds (slot.row state.regs) slot.main post state
    once [] next replaced state at fit = absurd next
    once (following ∷ left) next replaced state at fit =
        at_once bus Holds address slot.row slot.main following left has replaced state at fit
by_place bus Holds target source place address (InPre slot done insn left) has placed = placed
by_place bus Holds target source place address (AtMain slot) has placed = placed
by_place bus Holds target source place address (InPost slot insn left) has placed = placed
by_place bus Holds target source place address Nowhere has placed = tt

pub made_stands : {M A N : Type 0} (bus : Interface M A) (Holds : Words → M → N → Type 0) (target source : Code) (place : ℕ
    → Position)
    → HasWords bus Holds → IsMadeOf target source place → (address : ℕ)
    → Stands bus Holds target source place address (place address)
made_stands bus Holds target source place has made address =
    by_place bus Holds target source place address (place address) has (made address)
