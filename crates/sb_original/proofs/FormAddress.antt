-- The law of the form that has its memory operand's address in a helper.
use Rattle.std.proofs.Common.{◌≡◌, ℕ, ◌+◌, ◌%◌, ◌^◌, ◌<◌, Bool, true, false, List, [], ◌∷◌, length, inl, refl, sym, ap, ◌∙◌, arith, length-append}
use Rattle.std.specs.Prelude.{◌==◌}
use Rattle.std.proofs.lemmas.Bool.{eq-eqb, or_left}
use Rattle.sb_insn.specs.declared.insn.Insn.{Insn}
use Rattle.sb_insn.specs.declared.registers.Regs.{Regs}
use Rattle.sb_insn.specs.declared.opcode_map.Instruction.{Instruction}
use Rattle.sb_insn.specs.Spelling.{spelling}
use Rattle.sb_exec.specs.declared.action.Action.{Action}
use Rattle.sb_exec.specs.Interface.{Interface}
use Rattle.sb_exec.specs.Operand.{general, next_rip}
use Rattle.sb_exec.specs.Row.{Row}
use Rattle.sb_exec.specs.Actions.{action_of}
use Rattle.sb_exec.specs.Rows.{row_of}
use Rattle.sb_forms.specs.declared.helper.Helper.{Helper}
use Rattle.sb_forms.specs.declared.slots.Site.{Site}
use Rattle.sb_forms.specs.Registers.{number_of, first_helper}
use Rattle.sb_forms.specs.Pieces.{first_saved, save, restore, load_address_of_operand, jump_insn}
use Rattle.sb_forms.specs.Mains.{with_helper}
use Rattle.sb_forms.specs.Table.{spelled_bytes, bytes_of, address_form}
use Rattle.sb_forms.specs.Answers.{IsSmall}
use Rattle.sb_original.specs.Words.{FirstSaved, Words, word_of, HasWords}
use Rattle.sb_original.specs.Kept.{AgreeBut, FollowBut}
use Rattle.sb_original.specs.Work.{IsMemoryWork, IsEntered}
use Rattle.sb_original.specs.Alike.{AlikeBut, hides, is_rm_action}
use Rattle.sb_original.specs.Slot.{Slotted, saved, restored, jumped}
use Rattle.sb_original.proofs.Saves.{save_done_first, staged_done, address_saves}
use Rattle.sb_original.specs.Original.{Save, original, Stage, insns_of, Before, Behind, SameAccesses, IsRegs, staged, IsKept, FormLaw}
use Rattle.sb_original.proofs.Mains.{work_is_rm, helper_action, helper_main}
use Rattle.sb_original.proofs.Helpers.{first_unnamed}
use Rattle.sb_original.proofs.Goes.{goes_on}
use Rattle.sb_original.proofs.Pieces.{save_does, restore_does}
use Rattle.sb_original.proofs.Chains.{regs_same, restored_1, before_rip, jump_does}
use Rattle.sb_original.proofs.Addresses.{address_loads}
use Rattle.sb_original.proofs.Addresses.{helper_16}

-- ---- what every form with a slot needs

pub insns_staged : (saves : List Save) (insns : List Insn) → insns_of (staged saves insns) ≡ insns
insns_staged saves [] = refl
insns_staged saves (insn ∷ insns) = ap (λ (rest : List Insn). insn ∷ rest) (insns_staged saves insns)

pub alike_accesses : (hidden : ℕ → Bool) (start : Regs) (row other : Row) → AlikeBut hidden start row other
    → SameAccesses row other
alike_accesses hidden start row other alike =
    record { load = alike.load; store = alike.store; effect = alike.effect; stored = λ loaded. (alike.after loaded).stored }

-- an instruction of a kind that goes on has RIP at the next one
pub row_goes : (insn : Insn) (regs : Regs) (loaded : ℕ) → is_rm_action (action_of insn) ≡ true
    → ((row_of insn regs).after loaded).regs.rip ≡ next_rip insn regs
unfolding row_of
row_goes insn regs loaded is = goes_on (action_of insn) insn regs loaded is

pub one_length : (insn : Insn) → length (spelled_bytes (insn ∷ [])) ≡ length (spelling insn)
one_length insn = omega (arith, length-append (spelling insn) [])

hides_one : (helper : Helper) → hides (number_of helper ∷ []) (number_of helper) ≡ true
hides_one helper = or_left (number_of helper == number_of helper) false (eq-eqb (number_of helper) (number_of helper) refl)

-- ---- one helper

-- where it is saved first
abbrev pub one_save : Helper → List Save
one_save helper = record { number = number_of helper; which = FirstSaved } ∷ []

-- With one helper saved, the original state is what the registers agree with.
pub one_kept : (helper : Helper) (start : ℕ) (state : Slotted) → IsRegs state.regs
    → IsKept (one_save helper) start (record (state.regs) { rip = start }) (number_of helper ∷ [])
    (record (state.regs) { rip = start }) (saved helper FirstSaved state).words
one_kept helper start state fit now agree words =
    let old : Regs = record (state.regs) { rip = start } in
    let word : now.words.first ≡ general old (number_of helper) =
    ap (λ (w : Words). w.first) words ∙ reduced (fit.fit (number_of helper)) in
    regs_same (original (one_save helper) start now) old
    (restored_1 helper old now.regs now.words.first (helper_16 helper) agree word) refl agree.flags
  where
    reduced : {n : ℕ} → n < 2 ^ 64 → n % 2 ^ 64 ≡ n
    reduced below = omega arith

-- Behind a main whose registers agree but for the helper, the helper is restored, and the jump leads to the next instruction.
pub one_behind : {M A N : Type 0} (bus : Interface M A) (Holds : Words → M → N
    → Type 0) (helper : Helper) (start from next : ℕ) (state now : Slotted) (regs : Regs)
    → HasWords bus Holds → IsRegs state.regs
    → FollowBut (hides (number_of helper ∷ [])) (record (state.regs) { rip = start }) regs now.regs
    → now.words.first ≡ general state.regs (number_of helper) % 2 ^ 64 → regs.rip ≡ next
    → next_rip (restore helper first_saved) now.regs ≡ from → from + 5 < 2 ^ 63 → next < 2 ^ 63
    → Behind bus Holds regs (restore helper first_saved ∷ jump_insn from next ∷ []) now
one_behind bus Holds helper start from next state now regs has fit follow word goes at a b =
    let first = restored helper FirstSaved now in
    let kept : word_of FirstSaved now.words % 2 ^ 64 ≡ general regs (number_of helper) =
    omega (arith, word, fit.fit (number_of helper), follow.left (number_of helper) (hides_one helper)) in (
      first,
      restore_does bus Holds helper FirstSaved now has,
      refl,
      (
        jumped next first,
        jump_does bus Holds from next first at a b,
        tt,
        regs_same (jumped next first).regs regs (restored_1 helper regs now.regs _ (helper_16 helper) follow.agree kept)
            (sym goes) follow.agree.flags,
      ),
    )

-- ---- the form

pub address_law : {M A N : Type 0} (bus : Interface M A) (Holds : Words → M → N
    → Type 0) (insn : Insn) (instruction : Instruction) (site : Site) (start : ℕ) (state : Slotted)
    → HasWords bus Holds → IsMemoryWork insn instruction
    → IsEntered insn site start state → IsSmall (bytes_of (address_form instruction insn site))
    → FormLaw bus Holds insn start state (address_form instruction insn site)
unfolding address_form
address_law bus Holds insn instruction site start state has work entered small =
    let helper = first_helper instruction.form insn in
    let old : Regs = record (state.regs) { rip = start } in
    let numbers = number_of helper ∷ [] in
    let saves = one_save helper in
    let first = saved helper FirstSaved state in
    let pre = save helper first_saved ∷ load_address_of_operand helper insn site.next in
    let main = with_helper helper insn in
    let kept = one_kept helper start state entered.regs in
    let agree : AgreeBut (hides numbers) old first.regs =
    record { flags = refl; count = entered.regs.count; other_count = entered.regs.count; seen = λ number _. refl } in
    let goes : next_rip insn old ≡ site.next = omega (arith, entered.next, entered.place.next) in
    let loads =
    address_loads bus Holds saves start old numbers old helper insn site.next first
    (record { valid = work.valid; hidden = hides_one helper; agree = agree; same = refl; goes = goes }) kept in
    let ready = loads.new in
    let stages : List Stage =
    record {
      insn = save helper first_saved;
      saves = saves;
    } ∷ staged saves (load_address_of_operand helper insn site.next) in
    let staging : insns_of stages ≡ pre =
    ap (λ (rest : List Insn). save helper first_saved ∷ rest)
    (insns_staged saves (load_address_of_operand helper insn site.next)) in
    let before : Before bus Holds start old stages state ready =
    (first, save_does bus Holds helper FirstSaved state has, refl, kept first agree refl, loads.before) in
    let alike =
    helper_main helper insn instruction old ready.regs work
    (first_unnamed instruction.form insn work.valid) loads.agree loads.loaded in
    let is_rm = work_is_rm insn instruction work in
    let main_rm = ap (λ (a : Action). is_rm_action a) (helper_action helper insn work.memory) ∙ is_rm in
    let from =
    site.slot + length (spelled_bytes pre) + length (spelling main) + length
    (spelled_bytes (restore helper first_saved ∷ [])) in
    let back = restore helper first_saved in
    let whole : length (spelled_bytes (back ∷ jump_insn from site.next ∷ []))
    ≡ length (spelling back) + length (spelled_bytes (jump_insn from site.next ∷ [])) =
    length-append (spelling back) (spelled_bytes (jump_insn from site.next ∷ [])) in
    let rip = before_rip bus Holds start old stages state ready (omega (arith, entered.at, entered.place.slot)) before in
    let all : length (spelled_bytes (insns_of stages)) ≡ length (spelled_bytes pre) =
    ap (λ (insns : List Insn). length (spelled_bytes insns)) staging in
    record {
      stages = stages;
      staged = staging;
      done = (
        save_done_first helper [],
        staged_done saves (load_address_of_operand helper insn site.next) (address_saves helper insn site.next),
      );
      ready = ready;
      before = before;
      work = inl (record {
        accesses = alike_accesses (hides numbers) old (row_of insn old) (row_of main ready.regs) alike;
        goes = λ loaded. row_goes main ready.regs loaded main_rm;
        behind = λ loaded.
            let now : Slotted = record { regs = ((row_of main ready.regs).after loaded).regs; words = ready.words } in
            let after = ((row_of insn old).after loaded).regs in
            let there : now.regs.rip ≡ next_rip main ready.regs = row_goes main ready.regs loaded main_rm in
            one_behind bus Holds helper start from site.next state now after has entered.regs (alike.after loaded).regs
            (ap (λ (w : Words). w.first) loads.words) (row_goes insn old loaded is_rm ∙ goes)
            (omega (
              arith,
              there,
              rip,
              all,
              entered.at,
              entered.place.slot,
              small.before,
              small.work,
              small.behind,
              one_length back,
              whole,
            ))
            (omega (arith, entered.place.slot, small.before, small.work, small.behind, one_length back, whole))
            (omega (arith, entered.place.next));
      });
    }
