-- One step of the rewritten code beside the original code.
use Rattle.std.proofs.Common.{◌≡◌, ◌⊎◌, ℕ, Bool, true, false, List, [], ◌∷◌, ◌++◌, Option, Some, None, refl, sym, ap, ◌∙◌, subst, inl, inr, append_assoc}
use Rattle.std.specs.Prelude.{not, ◌&&◌, Result, Ok, Err}
use Rattle.std.proofs.lemmas.List.{append-nil}
use Rattle.sb_insn.specs.declared.insn.Insn.{Insn}
use Rattle.sb_insn.specs.declared.registers.Regs.{Regs}
use Rattle.sb_bus.specs.declared.stop.BusStop.{BusStop}
use Rattle.sb_exec.specs.declared.action.Effect.{Effect}
use Rattle.sb_exec.specs.declared.action.Effect.TheVariants.{Next, Syscall, Switch, Undefined}
use Rattle.sb_exec.specs.declared.action.Load.TheVariants as load
use Rattle.sb_exec.specs.declared.action.Store.TheVariants as store
use Rattle.sb_exec.specs.Interface.{Interface}
use Rattle.sb_exec.specs.Row.{Row, MemoryAccess, load_accesses, store_accesses, accesses}
use Rattle.sb_exec.specs.Rows.{row_of}
use Rattle.sb_exec.specs.Execution as exec
use Rattle.sb_exec.specs.Execution.{Execution, execution_by, execution_of}
use Rattle.sb_exec.specs.Simulation.{named_answer}
use Rattle.sb_original.specs.Words.{Words}
use Rattle.sb_original.specs.Slot.{Slotted, worked, worked_through}
use Rattle.sb_exec.specs.Simulation.{IsRowAt}
use Rattle.sb_original.specs.Beside.{AreBeside, IsStopped, EndAlike}
use Rattle.sb_original.specs.Original.{IsRegs, SameAccesses}
use Rattle.sb_original.specs.Going.{original_before, Works, Ahead, Left, MainWorks}
use Rattle.sb_original.proofs.Beside.{accesses_same, main_step}
use Rattle.sb_original.proofs.Going.{left_gives}
use Rattle.sb_origin_run.specs.Machine.{Code, Thread, Event, Ran, Stopped, NotFetched, event_of, Made, made_by, executed, step}
use Rattle.sb_origin_run.specs.Position.{Slot, Position, Same, Changed, Entry, AtOnce, InPre, AtMain, InPost, Nowhere, is_open, in_pre, is_extra, leads_astray, original_at, told_event, HasNext, behind, Stands}
use Rattle.sb_origin_run.specs.Related.{IsAt, AccessesAt, Related, AtRow, UnlessStopped, WhereNext, IsStraight, StepAlike}

-- ---- the original state

ahead_now : {M A N : Type 0} (bus : Interface M A) (Holds : Words → M → N
    → Type 0) (start : ℕ) (regs : Regs) (done left : List Insn) (state : Slotted)
    → Ahead bus Holds start regs done left state → original_before start done state ≡ regs
ahead_now bus Holds start regs done [] state is = is
ahead_now bus Holds start regs done (insn ∷ left) state (same, works, rip, rest) = same

pub state_is : {M A N : Type 0} (bus : Interface M A) (Holds : Words → M → N
    → Type 0) (at : Position) (state : Slotted) (regs : Regs)
    → IsAt bus Holds at state regs → original_at at state ≡ regs
state_is bus Holds (InPre slot done insn left) state regs (ahead, work) =
    ahead_now bus Holds slot.start regs done (insn ∷ left) state ahead
state_is bus Holds (AtMain slot) state regs (same, work) = same
state_is bus Holds (InPost slot insn left) state regs is = left_gives bus Holds regs (insn ∷ left) state is
state_is bus Holds Nowhere state regs is = absurd is
state_is bus Holds Same state regs is = sym is
state_is bus Holds Changed state regs is = sym is
state_is bus Holds (Entry slot) state regs is = sym is
state_is bus Holds (AtOnce slot) state regs is = sym is

-- ---- accesses

nothing_accessed : (row : Row) → row.load ≡ load.Nothing → row.store ≡ store.Nothing → accesses row ≡ []
nothing_accessed row load store =
    ap (λ l. load_accesses l ++ store_accesses row.store row.after) load ∙ ap (λ s. store_accesses s row.after) store

main_accesses : {M A N : Type 0} (bus : Interface M A) (Holds : Words → M → N
    → Type 0) (slot : Slot) (state : Slotted) (regs : Regs)
    → MainWorks bus Holds (slot.row regs) slot.main slot.post state → AccessesAt (AtMain slot) state regs
main_accesses bus Holds slot state regs (inl makes) =
    inl (accesses_same (slot.row regs) (row_of slot.main state.regs) makes.accesses)
main_accesses bus Holds slot state regs (inr nothing) =
    inr (nothing_accessed (slot.row regs) nothing.load nothing.store, nothing.works.inside)

pub accesses_at : {M A N : Type 0} (bus : Interface M A) (Holds : Words → M → N
    → Type 0) (at : Position) (state : Slotted) (regs : Regs)
    → IsAt bus Holds at state regs → AccessesAt at state regs
accesses_at bus Holds (InPre slot done insn left) state regs ((same, works, rip, rest), work) = works.inside
accesses_at bus Holds (AtMain slot) state regs (same, work) = main_accesses bus Holds slot state regs work
accesses_at bus Holds (InPost slot insn left) state regs (works, goes, rest) = works.inside
accesses_at bus Holds Nowhere state regs is = tt
accesses_at bus Holds Same state regs is = tt
accesses_at bus Holds Changed state regs is = tt
accesses_at bus Holds (Entry slot) state regs is = tt
accesses_at bus Holds (AtOnce slot) state regs is = tt

-- ---- positions

-- at an open position the registers are the original ones
pub open_at : {M A N : Type 0} (bus : Interface M A) (Holds : Words → M → N → Type 0) (at : Position) (state : Slotted)
    (regs : Regs)
    → is_open at ≡ true → regs ≡ state.regs → IsAt bus Holds at state regs
open_at bus Holds Same state regs e is = is
open_at bus Holds Changed state regs e is = is
open_at bus Holds (Entry slot) state regs e is = is
open_at bus Holds (AtOnce slot) state regs e is = is
open_at bus Holds (InPre slot done insn left) state regs e is = absurd cc
open_at bus Holds (AtMain slot) state regs e is = absurd cc
open_at bus Holds (InPost slot insn left) state regs e is = absurd cc
open_at bus Holds Nowhere state regs e is = absurd cc

open_from : (b : Bool) → (not b && true) ≡ false → b ≡ true
open_from true e = refl
open_from false e = absurd cc

-- after some instructions of pre
arrive : {M A N : Type 0} (bus : Interface M A) (Holds : Words → M → N
    → Type 0) (slot : Slot) (done left : List Insn) (state : Slotted) (regs : Regs)
    → done ++ left ≡ slot.pre → Ahead bus Holds slot.start regs done left state
    → MainWorks bus Holds (slot.row regs) slot.main slot.post (worked_through left state)
    → IsAt bus Holds (in_pre slot done left) state regs
arrive bus Holds slot done [] state regs is ahead work =
    (ap (λ (d : List Insn). original_before slot.start d state) (sym is ∙ append-nil done) ∙ ahead, work)
arrive bus Holds slot done (insn ∷ left) state regs is ahead work = (ahead, work)

one_more : (done : List Insn) (insn : Insn) (left : List Insn) → (done ++ insn ∷ []) ++ left ≡ done ++ insn ∷ left
one_more done insn left = simp append_assoc

-- ---- events

where_next : (event : Event) (Claim : Type 0) → event ≡ Ran Next → WhereNext event Claim → Claim
where_next event Claim is claim = subst (λ (e : Event). WhereNext e Claim) is claim

next_where : (event : Event) (Claim : Type 0) → Claim → WhereNext event Claim
next_where (Ran Next) Claim claim = claim
next_where (Ran Syscall) Claim claim = tt
next_where (Ran Switch) Claim claim = tt
next_where (Ran Undefined) Claim claim = tt
next_where (Stopped stop) Claim claim = tt
next_where NotFetched Claim claim = tt

where_both : (event : Event) (One Two Three : Type 0) → WhereNext event One → WhereNext event Two → (One → Two → Three)
    → WhereNext event Three
where_both (Ran Next) One Two Three one two given = given one two
where_both (Ran Syscall) One Two Three one two given = tt
where_both (Ran Switch) One Two Three one two given = tt
where_both (Ran Undefined) One Two Three one two given = tt
where_both (Stopped stop) One Two Three one two given = tt
where_both NotFetched One Two Three one two given = tt

-- ---- an instruction of a slot that works on the scratch page

record PieceMade {M A N : Type 0} (bus : Interface M A) (Holds : Words → M → N
    → Type 0) (after : Slotted) (made : Made M A) (other : N) : Type 0 where
  event : made.event ≡ Ran Next
  regs : made.thread.regs ≡ after.regs
  holds : Holds after.words made.thread.meaning other

piece_made : {M A N : Type 0} (bus : Interface M A) (Holds : Words → M → N
    → Type 0) (target : Code) (insn : Insn) (words : Words) (left : Thread M A) (other : N)
    → target left.regs.rip ≡ Some (λ regs. row_of insn regs)
    → Works bus Holds insn (record { regs = left.regs; words = words }) → Holds words left.meaning other
    → PieceMade bus Holds (worked insn (record { regs = left.regs; words = words })) (step bus target left) other
piece_made bus Holds target insn words left other is works holds =
    subst (λ (code : Option (Regs → Row)). PieceMade bus Holds (worked insn (record { regs = left.regs; words = words }))
    (executed bus code left) other) (sym is) (record {
      event = ap (λ answer. event_of answer) (works.answer left.meaning other left.account holds);
      regs = works.registers left.meaning other left.account holds;
      holds = works.words left.meaning other left.account holds;
    })

-- the thread then stands there
after_piece : {M A N B : Type 0} (bus : Interface M A) (Holds : Words → M → N → Type 0) (place : ℕ
    → Position) (after : Slotted) (made : Made M A) (right : Thread N B) (at : Position)
    → PieceMade bus Holds after made right.meaning → place after.regs.rip ≡ at
    → IsAt bus Holds at after right.regs → Related bus Holds place made.thread right
after_piece bus Holds place after made right at piece there is = record {
  words = after.words;
  holds = piece.holds;
  at =
      subst (λ (regs : Regs). IsAt bus Holds (place regs.rip) (record { regs = regs; words = after.words }) right.regs)
      (sym piece.regs)
      (subst (λ (p : Position). IsAt bus Holds p after right.regs) (sym there) is);
}

-- ---- an instruction beside that of the original code

record PairMade {M A N B : Type 0} (Holds : Words → M → N → Type 0) (naming : BusStop
    → BusStop) (words : Words) (row other : Row) (made : Made M A) (original : Made N B) : Type 0 where
  event : original.event ≡ told_event naming made.event
  holds : Holds words made.thread.meaning original.thread.meaning
  ends : WhereNext made.event ((loaded : ℕ) × (original.thread.regs ≡ (row.after loaded).regs)
      × (made.thread.regs ≡ (other.after loaded).regs))

told_of : (naming : BusStop → BusStop) (answer : Result Effect BusStop)
    → event_of (named_answer naming answer) ≡ told_event naming (event_of answer)
told_of naming (Ok effect) = refl
told_of naming (Err stop) = refl

outside_or : (Claim : Type 0) (answer : Result Effect BusStop) → UnlessStopped (event_of answer) Claim → Claim ⊎ IsStopped answer
outside_or Claim (Ok effect) claim = inl claim
outside_or Claim (Err stop) claim = inr (stop, refl)

next_ends : (row other : Row) (regs other_regs new other_new : Regs) (answer : Result Effect BusStop)
    → EndAlike row other regs other_regs answer new other_new
    → WhereNext (event_of answer) ((loaded : ℕ) × (new ≡ (row.after loaded).regs) × (other_new ≡ (other.after loaded).regs))
next_ends row other regs other_regs new other_new answer (inl one) = next_where (event_of answer) _ one
next_ends row other regs other_regs new other_new answer (inr ends) =
    subst (λ (a : Result Effect BusStop). WhereNext (event_of a) ((loaded : ℕ) × (new ≡ (row.after loaded).regs)
    × (other_new ≡ (other.after loaded).regs))) (sym (ends.0).1) tt

pair_made : {M A N B : Type 0} (bus : Interface M A) (original : Interface N B) (Holds : Words → M → N → Type 0) (IsOutside : ℕ
    → ℕ → Type 0) (naming : BusStop → BusStop) (target source : Code) (row other : Regs
    → Row) (words : Words) (left : Thread M A) (right : Thread N B)
    → AreBeside bus original Holds IsOutside naming → target left.regs.rip ≡ Some other → source right.regs.rip ≡ Some row
    → SameAccesses (row right.regs) (other left.regs) → Holds words left.meaning right.meaning
    → UnlessStopped (step bus target left).event (IsRowAt IsOutside (row right.regs))
    → PairMade Holds naming words (row right.regs) (other left.regs) (step bus target left) (step original source right)
pair_made bus original Holds IsOutside naming target source row other words left right beside there is same holds outside =
    let answer = (execution_of bus (other left.regs) left.regs left.meaning left.account).answer in
    let out : UnlessStopped (event_of answer) (IsRowAt IsOutside (row right.regs)) =
    subst (λ (code : Option (Regs → Row)). UnlessStopped (executed bus code left).event
    (IsRowAt IsOutside (row right.regs))) there outside in
    let main =
    main_step bus original Holds IsOutside naming beside (row right.regs)
    (other left.regs) right.regs left.regs words left.meaning right.meaning left.account right.account same holds
    (outside_or (IsRowAt IsOutside (row right.regs)) answer out) in
    let pair : PairMade Holds naming words (row right.regs) (other left.regs) (executed bus (Some other) left)
    (executed original (Some row) right) = record {
      event = ap (λ a. event_of a) main.answer ∙ told_of naming answer;
      holds = main.holds;
      ends = next_ends (row right.regs) (other left.regs) right.regs left.regs _ _ answer main.ends;
    } in
    subst (λ (code : Option (Regs → Row)). PairMade Holds naming words (row right.regs) (other left.regs) (executed bus code left)
    (step original source right)) (sym there)
    (subst (λ (code : Option (Regs → Row)). PairMade Holds naming words (row right.regs) (other left.regs)
    (executed bus (Some other) left) (executed original code right)) (sym is) pair)

-- the original instruction accesses nothing
nothing_run : {N B : Type 0} (original : Interface N B) (row : Row) (regs : Regs) (meaning : N) (account : B)
    → row.load ≡ load.Nothing → row.store ≡ store.Nothing
    → execution_of original row regs meaning account ≡ record {
      answer = Ok row.effect;
      registers = (row.after 0).regs;
      meaning = meaning;
      account = account;
    }
unfolding execution_of
nothing_run original row regs meaning account load store =
    let none : accesses row ≡ [] =
    ap (λ l. load_accesses l ++ store_accesses row.store row.after) load ∙ ap (λ s. store_accesses s row.after) store in
    ap (λ (list : List MemoryAccess). execution_by row regs (exec.run original list meaning account 0)) none

-- ---- main

-- behind main the thread stands at the first instruction of post
main_stands : {M A N B : Type 0} (bus : Interface M A) (Holds : Words → M → N → Type 0) (place : ℕ
    → Position) (slot : Slot) (post : List Insn) (words : Words) (regs : Regs) (after : Slotted) (left : Thread M A)
    (right : Thread N B) (address : ℕ)
    → Holds after.words left.meaning right.meaning → left.regs ≡ after.regs → right.regs ≡ regs → after.regs.rip ≡ address
    → HasNext place slot post address → Left bus Holds regs post after → Related bus Holds place left right
main_stands bus Holds place slot [] words regs after left right address holds is same rip next rest = absurd next
main_stands bus Holds place slot (insn ∷ post) words regs after left right address holds is same rip next rest = record {
  words = after.words;
  holds = holds;
  at =
      subst (λ (r : Regs). IsAt bus Holds (place r.rip) (record { regs = r; words = after.words }) right.regs) (sym is)
      (subst (λ (p : Position). IsAt bus Holds p after right.regs) (sym (ap place rip ∙ next))
      (subst (λ (r : Regs). Left bus Holds r (insn ∷ post) after) (sym same) rest));
}

-- main's step is the original's
main_goes : {M A N B : Type 0} (bus : Interface M A) (original : Interface N B) (Holds : Words → M → N → Type 0) (IsOutside : ℕ
    → ℕ → Type 0) (naming : BusStop → BusStop) (target source : Code) (place : ℕ
    → Position) (slot : Slot) (words : Words) (left : Thread M A) (right : Thread N B)
    → AreBeside bus original Holds IsOutside naming → target left.regs.rip ≡ Some (λ regs. row_of slot.main regs)
    → source right.regs.rip ≡ Some slot.row → HasNext place slot slot.post (behind left.regs.rip slot.main)
    → Holds words left.meaning right.meaning
    → UnlessStopped (step bus target left).event (IsRowAt IsOutside (slot.row right.regs))
    → MainWorks bus Holds (slot.row right.regs) slot.main slot.post (record { regs = left.regs; words = words })
    → ((step original source right).event ≡ told_event naming (step bus target left).event)
    × WhereNext (step bus target left).event
    (Related bus Holds place (step bus target left).thread (step original source right).thread)
main_goes bus original Holds IsOutside naming target source place slot words left right beside there is next holds outside
    (inl makes) =
    let made = step bus target left in
    let pair =
    pair_made bus original Holds IsOutside naming target source slot.row
    (λ regs. row_of slot.main regs) words left right beside there is makes.accesses holds outside in (
      pair.event,
      where_both made.event _ _ _ pair.ends pair.ends (λ ends _.
          main_stands bus Holds place slot slot.post words ((slot.row right.regs).after ends.0).regs
          (record { regs = ((row_of slot.main left.regs).after ends.0).regs; words = words }) made.thread
          (step original source right).thread (behind left.regs.rip slot.main)
          pair.holds ends.2 ends.1 (makes.goes ends.0) next (makes.left ends.0)),
    )
main_goes {N = N} {B = B} bus original Holds IsOutside naming target source place slot words left right beside there is next holds
    outside (inr nothing) =
    let made = step bus target left in
    let piece = piece_made bus Holds target slot.main words left right.meaning there nothing.works holds in
    let ran : execution_of original (slot.row right.regs) right.regs right.meaning right.account
    ≡ record {
      answer = Ok (slot.row right.regs).effect;
      registers = ((slot.row right.regs).after 0).regs;
      meaning = right.meaning;
      account = right.account;
    } =
    nothing_run original (slot.row right.regs) right.regs right.meaning right.account nothing.load nothing.store in
    let by : step original source right
    ≡ made_by (execution_of original (slot.row right.regs) right.regs right.meaning right.account) =
    ap (λ (code : Option (Regs → Row)). executed original code right) is in
    let all = by ∙ ap (λ e. made_by e) ran in (
      ap (λ (m : Made N B). m.event) all ∙ ap (λ (e : Effect). Ran e) nothing.effect
          ∙ sym (ap (λ (e : Event). told_event naming e) piece.event),
      next_where made.event _
          (main_stands bus Holds place slot slot.post words ((slot.row right.regs).after 0).regs
          (worked slot.main (record { regs = left.regs; words = words })) made.thread (step original source right).thread
          (behind left.regs.rip slot.main)
          (subst (λ (m : N). Holds (worked slot.main (record { regs = left.regs; words = words })).words made.thread.meaning m)
          (sym (ap (λ (m : Made N B). m.thread.meaning) all)) piece.holds)
          piece.regs (ap (λ (m : Made N B). m.thread.regs) all) nothing.goes next nothing.left),
    )

-- ---- the positions, one by one

-- both have one instruction there, or none
pair_open : {M A N B : Type 0} (bus : Interface M A) (original : Interface N B) (Holds : Words → M → N → Type 0) (naming : BusStop
    → BusStop) (target source : Code) (place : ℕ
    → Position) (row other : Row) (words : Words) (left : Thread M A) (right : Thread N B) (from : Position)
    → (leads_astray from (place (step bus target left).thread.regs.rip) ≡ false
    → is_open (place (step bus target left).thread.regs.rip) ≡ true)
    → PairMade Holds naming words row other (step bus target left) (step original source right)
    → ((loaded : ℕ) → (other.after loaded).regs ≡ (row.after loaded).regs)
    → WhereNext (step bus target left).event (leads_astray from (place (step bus target left).thread.regs.rip) ≡ false)
    → WhereNext (step bus target left).event
    (Related bus Holds place (step bus target left).thread (step original source right).thread)
pair_open bus original Holds naming target source place row other words left right from opens pair same leads =
    where_both (step bus target left).event _ _ _ pair.ends leads (λ ends straight. record {
      words = words;
      holds = pair.holds;
      at = open_at bus Holds (place (step bus target left).thread.regs.rip)
          (record { regs = (step bus target left).thread.regs; words = words }) (step original source right).thread.regs
          (opens straight) (ends.1 ∙ sym (same ends.0) ∙ sym ends.2);
    })

same_code : {M A N B : Type 0} (bus : Interface M A) (original : Interface N B) (Holds : Words → M → N → Type 0) (IsOutside : ℕ
    → ℕ → Type 0) (naming : BusStop → BusStop) (target source : Code) (place : ℕ
    → Position) (words : Words) (left : Thread M A) (right : Thread N B) (found : Option (Regs → Row))
    → AreBeside bus original Holds IsOutside naming → target left.regs.rip ≡ found → source left.regs.rip ≡ found
    → right.regs ≡ left.regs → Holds words left.meaning right.meaning
    → WhereNext (step bus target left).event (leads_astray Same (place (step bus target left).thread.regs.rip) ≡ false)
    → UnlessStopped (step bus target left).event (AtRow Same found left.regs (λ row. IsRowAt IsOutside row))
    → ((step original source right).event ≡ told_event naming (step bus target left).event)
    × WhereNext (step bus target left).event
    (Related bus Holds place (step bus target left).thread (step original source right).thread)
same_code bus original Holds IsOutside naming target source place words left right None beside there is equal holds leads
    outside =
    let from : source right.regs.rip ≡ None = ap (λ (r : Regs). source r.rip) equal ∙ is in (
      ap (λ (code : Option (Regs → Row)). (executed original code right).event) from
          ∙ sym (ap (λ (code : Option (Regs → Row)). told_event naming (executed bus code left).event) there),
      subst (λ (code : Option (Regs → Row)). WhereNext (executed bus code left).event
          (Related bus Holds place (step bus target left).thread (step original source right).thread)) (sym there) tt,
    )
same_code bus original Holds IsOutside naming target source place words left right
    (Some row) beside there is equal holds leads outside =
    let from : source right.regs.rip ≡ Some row = ap (λ (r : Regs). source r.rip) equal ∙ is in
    let rows : row right.regs ≡ row left.regs = ap row equal in
    let same : SameAccesses (row right.regs) (row left.regs) =
    subst (λ (r : Row). SameAccesses (row right.regs) r) rows
    (record { load = refl; store = refl; effect = refl; stored = λ loaded. refl }) in
    let pair =
    pair_made bus original Holds IsOutside naming target source row row words left right beside there from same holds
    (subst (λ (r : Regs). UnlessStopped (step bus target left).event (IsRowAt IsOutside (row r))) (sym equal) outside)
    in (
      pair.event,
      pair_open bus original Holds naming target source place (row right.regs) (row left.regs) words left right Same
          (open_from _) pair (λ loaded. ap (λ (r : Row). (r.after loaded).regs) (sym rows)) leads,
    )

by_position : {M A N B : Type 0} (bus : Interface M A) (original : Interface N B) (Holds : Words → M → N → Type 0) (IsOutside : ℕ
    → ℕ → Type 0) (naming : BusStop → BusStop) (target source : Code) (place : ℕ
    → Position) (words : Words) (left : Thread M A) (right : Thread N B) (at : Position)
    → AreBeside bus original Holds IsOutside naming → Stands bus Holds target source place left.regs.rip at
    → IsAt bus Holds at (record { regs = left.regs; words = words }) right.regs → Holds words left.meaning right.meaning
    → IsRegs left.regs
    → WhereNext (step bus target left).event (leads_astray at (place (step bus target left).thread.regs.rip) ≡ false)
    → UnlessStopped (step bus target left).event
    (AtRow at (source left.regs.rip) (original_at at (record { regs = left.regs; words = words }))
    (λ row. IsRowAt IsOutside row))
    → StepAlike bus Holds naming place at left right (step bus target left) (step original source right) (is_extra at)
by_position bus original Holds IsOutside naming target source place words left right Nowhere beside stands is holds regs leads
    outside = absurd is
by_position bus original Holds IsOutside naming target source place words left right Same beside stands is holds regs leads
    outside =
    let both =
    same_code bus original Holds IsOutside naming target source place words left right
    (target left.regs.rip) beside refl stands is holds leads
    (subst (λ (code : Option (Regs → Row)). UnlessStopped (step bus target left).event
    (AtRow Same code left.regs (λ row. IsRowAt IsOutside row))) stands outside) in
    (both.0, ap (λ (r : Regs). r.rip) is, both.1)
by_position bus original Holds IsOutside naming target source place words left right Changed beside (
  row,
  main,
  from,
  there,
  law,
) is holds regs leads outside =
    let found : source right.regs.rip ≡ Some row = ap (λ (r : Regs). source r.rip) is ∙ from in
    let rows : row right.regs ≡ row left.regs = ap row is in
    let in_place = law left.regs refl regs in
    let same : SameAccesses (row right.regs) (row_of main left.regs) =
    subst (λ (r : Row). SameAccesses r (row_of main left.regs)) (sym rows) in_place.accesses in
    let out : UnlessStopped (step bus target left).event (IsRowAt IsOutside (row right.regs)) =
    subst (λ (r : Row). UnlessStopped (step bus target left).event (IsRowAt IsOutside r)) (sym rows)
    (subst (λ (code : Option (Regs → Row)). UnlessStopped (step bus target left).event
    (AtRow Changed code left.regs (λ row. IsRowAt IsOutside row))) from outside) in
    let pair =
    pair_made bus original Holds IsOutside naming target source row
    (λ regs. row_of main regs) words left right beside there found same holds out in (
      pair.event,
      ap (λ (r : Regs). r.rip) is,
      pair_open bus original Holds naming target source place (row right.regs) (row_of main left.regs) words left right Changed
          (open_from _) pair (λ loaded. in_place.registers loaded ∙ ap (λ (r : Row). (r.after loaded).regs) (sym rows)) leads,
    )
by_position bus original Holds IsOutside naming target source place words left right (Entry slot) beside (
  insn,
  there,
  start,
  first,
  jumps,
  law,
) is holds regs leads outside =
    let state : Slotted = record { regs = left.regs; words = words } in
    let to : Slotted = record { regs = record (left.regs) { rip = slot.at }; words = words } in
    let jump = jumps state refl in
    let piece = piece_made bus Holds target insn words left right.meaning there jump.0 holds in
    let goes = law to refl (record { count = regs.count; fit = regs.fit }) in
    let old : Regs = record (left.regs) { rip = slot.start } in
    let same : old ≡ right.regs = ap (λ (n : ℕ). let r : Regs = record (left.regs) { rip = n } in r) start ∙ sym is in
    let there_at = arrive bus Holds slot [] slot.pre to old refl goes.ahead goes.work in (
      piece.event,
      after_piece bus Holds place (worked insn state) (step bus target left) right (in_pre slot [] slot.pre) piece
          (ap (λ (s : Slotted). place s.regs.rip) jump.1 ∙ first)
          (subst (λ (s : Slotted). IsAt bus Holds (in_pre slot [] slot.pre) s right.regs) (sym jump.1)
          (subst (λ (r : Regs). IsAt bus Holds (in_pre slot [] slot.pre) to r) same there_at)),
    )
by_position bus original Holds IsOutside naming target source place words left right (AtOnce slot) beside (
  from,
  there,
  next,
  law,
) is holds regs leads outside =
    let found : source right.regs.rip ≡ Some slot.row = ap (λ (r : Regs). source r.rip) is ∙ from in
    let work : MainWorks bus Holds (slot.row right.regs) slot.main slot.post (record { regs = left.regs; words = words }) =
    subst (λ (r : Regs). MainWorks bus Holds (slot.row r) slot.main slot.post (record { regs = left.regs; words = words }))
    (sym is) (law (record { regs = left.regs; words = words }) refl regs) in
    let both =
    main_goes bus original Holds IsOutside naming target source place slot words left right beside there found next holds
    (subst (λ (r : Regs). UnlessStopped (step bus target left).event (IsRowAt IsOutside (slot.row r))) (sym is) outside)
    work in
    (both.0, ap (λ (r : Regs). r.rip) is, both.1)
by_position bus original Holds IsOutside naming target source place words left right (InPre slot done insn rest) beside (
  there,
  whole,
  next,
) ((same, works, rip, ahead), work) holds regs leads outside =
    let state : Slotted = record { regs = left.regs; words = words } in
    let piece = piece_made bus Holds target insn words left right.meaning there works holds in (
      piece.event,
      after_piece bus Holds place (worked insn state) (step bus target left) right (in_pre slot (done ++ insn ∷ []) rest) piece
          (ap place rip ∙ next)
          (arrive bus Holds slot (done ++ insn ∷ []) rest (worked insn state) right.regs (one_more done insn rest
          ∙ whole) ahead work),
    )
by_position bus original Holds IsOutside naming target source place words left right (AtMain slot) beside (
  from,
  there,
  next,
) (same, work) holds regs leads outside =
    let rip : right.regs.rip ≡ slot.start = sym (ap (λ (r : Regs). r.rip) same) in
    let found : source right.regs.rip ≡ Some slot.row = ap source rip ∙ from in
    let both =
    main_goes bus original Holds IsOutside naming target source place slot words left right beside there found next holds
    (subst (λ (r : Regs). UnlessStopped (step bus target left).event (IsRowAt IsOutside (slot.row r))) same outside)
    work in
    (both.0, rip, both.1)
by_position bus original Holds IsOutside naming target source place words left right (InPost slot insn []) beside (
  there,
  next,
) (works, goes, last) holds regs leads outside =
    let state : Slotted = record { regs = left.regs; words = words } in
    let piece = piece_made bus Holds target insn words left right.meaning there works holds in
    let straight = where_next (step bus target left).event _ piece.event leads in
    let at = place (step bus target left).thread.regs.rip in (
      piece.event,
      record {
        words = (worked insn state).words;
        holds = piece.holds;
        at = open_at bus Holds at (record { regs = (step bus target left).thread.regs; words = (worked insn state).words })
            right.regs (open_from (is_open at) straight) (sym last ∙ sym piece.regs);
      },
    )
by_position bus original Holds IsOutside naming target source place words left right (InPost slot insn (following ∷ rest)) beside
    (there, next) (works, goes, last) holds regs leads outside =
    let state : Slotted = record { regs = left.regs; words = words } in
    let piece = piece_made bus Holds target insn words left right.meaning there works holds in (
      piece.event,
      after_piece bus Holds place (worked insn state) (step bus target left) right (InPost slot following rest) piece
          (ap place goes ∙ next) last,
    )

pub step_alike : {M A N B : Type 0} (bus : Interface M A) (original : Interface N B) (Holds : Words → M → N
    → Type 0) (IsOutside : ℕ → ℕ → Type 0) (naming : BusStop → BusStop) (target source : Code) (place : ℕ → Position)
    → AreBeside bus original Holds IsOutside naming
    → ((address : ℕ) → Stands bus Holds target source place address (place address))
    → (left : Thread M A) (right : Thread N B) → Related bus Holds place left right
    → IsStraight bus Holds IsOutside target source place left
    → StepAlike bus Holds naming place (place left.regs.rip) left right (step bus target left) (step original source right)
    (is_extra (place left.regs.rip))
step_alike bus original Holds IsOutside naming target source place beside stands left right related straight =
    by_position bus original Holds IsOutside naming target source place related.words left right (place left.regs.rip) beside
    (stands left.regs.rip) related.at related.holds straight.regs straight.stays.leads
    (straight.stays.outside related.words right.meaning related.holds)
