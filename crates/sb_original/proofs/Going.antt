-- The laws of the forms by the functions of the original state.
use Rattle.std.proofs.Common.{◌≡◌, ◌⊎◌, ℕ, List, [], ◌∷◌, ◌++◌, refl, sym, ap, ◌∙◌, subst, inl, inr}
use Rattle.std.proofs.lemmas.List.{append-nil}
use Rattle.std.proofs.lemmas.Grind.{flat_map-append}
use Rattle.sb_insn.specs.declared.insn.Insn.{Insn}
use Rattle.sb_insn.specs.declared.registers.Regs.{Regs}
use Rattle.sb_exec.specs.Interface.{Interface}
use Rattle.sb_exec.specs.Operand.{next_rip}
use Rattle.sb_exec.specs.Row.{Row}
use Rattle.sb_exec.specs.Rows.{row_of}
use Rattle.sb_original.specs.Words.{Words}
use Rattle.sb_original.specs.Slot.{Slotted, Does, worked, worked_through}
use Rattle.sb_original.specs.Original.{Save, original, Stage, insns_of, saved_by, saves_done, AreDone, Before, Behind, GoesOn, ByAccesses, FromScratch, SlotLaw}
use Rattle.sb_original.specs.Going.{original_before, Ahead, Left, MainWorks, SlotGoes}

saves_one : (done : List Insn) (insn : Insn) → saves_done (done ++ insn ∷ []) ≡ saves_done done ++ saved_by insn
saves_one done insn =
    flat_map-append saved_by done (insn ∷ []) ∙ ap (λ (more : List Save). saves_done done ++ more) (append-nil (saved_by insn))

pub stages_ahead : {M A N : Type 0} (bus : Interface M A) (Holds : Words → M → N
    → Type 0) (start : ℕ) (regs : Regs) (done : List Insn) (stages : List Stage) (old new : Slotted)
    → Before bus Holds start regs stages old new → AreDone (saves_done done) stages → original_before start done old ≡ regs
    → Ahead bus Holds start regs done (insns_of stages) old × (new ≡ worked_through (insns_of stages) old)
stages_ahead bus Holds start regs done [] old new is none same = (same, is)
stages_ahead bus Holds start regs done (stage ∷ stages) old new (mid, does, rip, kept, rest) (now, later) same =
    let next = worked stage.insn old in
    let saves : stage.saves ≡ saves_done (done ++ stage.insn ∷ []) = now ∙ sym (saves_one done stage.insn) in
    let there =
    subst (λ (s : Slotted). Does bus Holds stage.insn old s × (s.regs.rip ≡ next_rip stage.insn old.regs)
    × (original stage.saves start s ≡ regs) × Before bus Holds start regs stages s new) (sym does.made) (
      does,
      rip,
      kept,
      rest,
    ) in
    let further =
    stages_ahead bus Holds start regs (done ++ stage.insn ∷ []) stages next new there.3
    (subst (λ (s : List Save). AreDone s stages) saves later) (ap (λ (s : List Save). original s start next) (sym saves)
    ∙ there.2) in
    ((same, there.0, there.1, further.0), further.1)

pub behind_left : {M A N : Type 0} (bus : Interface M A) (Holds : Words → M → N
    → Type 0) (regs : Regs) (insns : List Insn) (state : Slotted)
    → Behind bus Holds regs insns state → Left bus Holds regs insns state
behind_left bus Holds regs [] state is = is
behind_left bus Holds regs (insn ∷ insns) state (mid, does, goes, rest) =
    let there =
    subst (λ (s : Slotted). Does bus Holds insn state s × GoesOn insn insns state s
    × Behind bus Holds regs insns s) (sym does.made) (does, goes, rest) in
    (there.0, there.1, behind_left bus Holds regs insns (worked insn state) there.2)

pub work_is : {M A N : Type 0} (bus : Interface M A) (Holds : Words → M → N
    → Type 0) (row : Row) (main : Insn) (post : List Insn) (ready : Slotted)
    → ByAccesses bus Holds row (row_of main ready.regs) (next_rip main ready.regs) post ready.words
    ⊎ FromScratch bus Holds row main post ready → MainWorks bus Holds row main post ready
work_is bus Holds row main post ready (inl by) = inl (record {
  accesses = by.accesses;
  goes = by.goes;
  left = λ loaded. behind_left bus Holds (row.after loaded).regs post
      (record { regs = ((row_of main ready.regs).after loaded).regs; words = ready.words }) (by.behind loaded);
})
work_is bus Holds row main post ready (inr from) =
    let there =
    subst (λ (s : Slotted). Does bus Holds main ready s × (s.regs.rip ≡ next_rip main ready.regs)
    × Behind bus Holds (row.after 0).regs post s) (sym from.does.made) (from.does, from.goes, from.behind) in
    inr (record {
      load = from.load;
      store = from.store;
      effect = from.effect;
      works = there.0;
      goes = there.1;
      left = behind_left bus Holds (row.after 0).regs post (worked main ready) there.2;
    })

pub slot_goes : {M A N : Type 0} (bus : Interface M A) (Holds : Words → M → N
    → Type 0) (insn : Insn) (start : ℕ) (pre : List Insn) (main : Insn) (post : List Insn) (state : Slotted)
    → SlotLaw bus Holds insn start pre main post state
    → SlotGoes bus Holds (row_of insn (record (state.regs) { rip = start })) start pre main post state
slot_goes bus Holds insn start pre main post state law =
    let old : Regs = record (state.regs) { rip = start } in
    let both = stages_ahead bus Holds start old [] law.stages state law.ready law.before law.done refl in
    let all =
    subst (λ (insns : List Insn). Ahead bus Holds start old [] insns state
    × (law.ready ≡ worked_through insns state)) law.staged both in
    record {
      ahead = all.0;
      work = work_is bus Holds (row_of insn old) main post (worked_through pre state)
          (subst (λ (s : Slotted). ByAccesses bus Holds (row_of insn old) (row_of main s.regs) (next_rip main s.regs) post s.words
          ⊎ FromScratch bus Holds (row_of insn old) main post s) all.1 law.work);
    }

-- behind main the original state is what the rest gives
pub left_gives : {M A N : Type 0} (bus : Interface M A) (Holds : Words → M → N
    → Type 0) (regs : Regs) (insns : List Insn) (state : Slotted)
    → Left bus Holds regs insns state → (worked_through insns state).regs ≡ regs
left_gives bus Holds regs [] state is = is
left_gives bus Holds regs (insn ∷ insns) state (works, goes, left) = left_gives bus Holds regs insns (worked insn state) left
