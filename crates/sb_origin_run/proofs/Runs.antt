-- A run of the rewritten code beside the original code.
use Rattle.std.proofs.Common.{◌≡◌, ℕ, zero, suc, Bool, true, false, List, [], ◌∷◌, length, refl, sym, ap, ◌∙◌, subst}
use Rattle.std.proofs.lemmas.Bool.{cond-true, cond-false}
use Rattle.sb_bus.specs.declared.stop.BusStop.{BusStop}
use Rattle.sb_exec.specs.declared.action.Effect.TheVariants.{Next, Syscall, Switch, Undefined}
use Rattle.sb_exec.specs.Interface.{Interface}
use Rattle.sb_original.specs.Words.{Words}
use Rattle.sb_original.specs.Beside.{AreBeside}
use Rattle.sb_origin_run.specs.Machine.{Code, Thread, Event, Ran, Stopped, NotFetched, Made, step, Line, Run, run_on, run}
use Rattle.sb_origin_run.specs.Position.{Position, is_extra, original_rip, told_event, original_lines, Stands}
use Rattle.sb_origin_run.specs.Related.{Related, WhereNext, AreStraight, StepAlike, RunAlike}
use Rattle.sb_origin_run.proofs.Steps.{step_alike}

abbrev line : ℕ → Event → Line
line rip event = record { rip = rip; event = event }

-- behind an extra line the original lines are those of the rest
extra_lines : (place : ℕ → Position) (naming : BusStop → BusStop) (one : Line) (lines : List Line)
    → is_extra (place one.rip) ≡ true → original_lines place naming (one ∷ lines) ≡ original_lines place naming lines
extra_lines place naming one lines e = cond-true (is_extra (place one.rip)) (original_lines place naming lines) _ e

own_lines : (place : ℕ → Position) (naming : BusStop → BusStop) (one : Line) (lines : List Line)
    → is_extra (place one.rip) ≡ false
    → original_lines place naming (one ∷ lines)
    ≡ line (original_rip (place one.rip) one.rip) (told_event naming one.event) ∷ original_lines place naming lines
own_lines place naming one lines e = cond-false (is_extra (place one.rip)) (original_lines place naming lines) _ e

line_same : (rip other : ℕ) (event told : Event) → rip ≡ other → event ≡ told → line rip event ≡ line other told
line_same rip other event told r e = ap (λ (n : ℕ). line n event) r ∙ ap (λ (v : Event). line other v) e

-- what this event ends
abbrev Ends : (M A : Type 0) → Event → Type 0
Ends M A event = (rest : Thread M A → Run M A) (before after : Thread M A)
    → run_on rest before event after ≡ record { lines = line before.regs.rip event ∷ []; end = before }

-- an event that ends both runs
ended : {M A N B : Type 0} (bus : Interface M A) (original : Interface N B) (Holds : Words → M → N → Type 0) (naming : BusStop
    → BusStop) (source : Code) (place : ℕ → Position) (rest : Thread M A
    → Run M A) (left after : Thread M A) (right : Thread N B) (event : Event)
    → Related bus Holds place left right → is_extra (place left.regs.rip) ≡ false
    → (step original source right).event ≡ told_event naming event
    → right.regs.rip ≡ original_rip (place left.regs.rip) left.regs.rip
    → Ends M A event → Ends N B (told_event naming event)
    → RunAlike bus Holds naming place (run_on rest left event after)
    (run original source (length (original_lines place naming (run_on rest left event after).lines)) right)
ended {M} {A} {N} {B} bus original Holds naming source place rest left after right event related own told rip ends other_ends =
    let one = line left.regs.rip event in
    let lines = own_lines place naming one [] own in
    let original_line = line (original_rip (place left.regs.rip) left.regs.rip) (told_event naming event) in
    let there : run original source 1 right ≡ record { lines = line right.regs.rip (told_event naming event) ∷ []; end = right } =
    ap (λ (e : Event). run_on (run original source 0) right e (step original source right).thread) told
    ∙ other_ends (run original source 0) right (step original source right).thread in
    let whole : RunAlike bus Holds naming place (record { lines = one ∷ []; end = left })
    (run original source (length (original_line ∷ [])) right) = record {
      lines = ap (λ (r : Run N B). r.lines) there
          ∙ ap (λ (l : Line). l ∷ []) (line_same right.regs.rip _ (told_event naming event) _ rip refl) ∙ sym lines;
      end = subst (λ (t : Thread N B). Related bus Holds place left t) (sym (ap (λ (r : Run N B). r.end) there)) related;
    } in
    let counted : RunAlike bus Holds naming place (record { lines = one ∷ []; end = left })
    (run original source (length (original_lines place naming (one ∷ []))) right) =
    subst (λ (l : List Line). RunAlike bus Holds naming place (record { lines = one ∷ []; end = left })
    (run original source (length l) right)) (sym lines) whole in
    subst (λ (r : Run M A). RunAlike bus Holds naming place r
    (run original source (length (original_lines place naming r.lines)) right)) (sym (ends rest left after)) counted

-- the law of the runs that are left
abbrev Rest : {M A N B : Type 0} → Interface M A → Interface N B → (Words → M → N → Type 0) → (BusStop → BusStop) → Code
    → Code → (ℕ → Position) → ℕ → Thread M A → Type 0
Rest {M} {A} {N} {B} bus original Holds naming target source place count left =
    (right : Thread N B) → Related bus Holds place left right
    → RunAlike bus Holds naming place (run bus target count left)
    (run original source (length (original_lines place naming (run bus target count left).lines)) right)

extra_on : {M A N B : Type 0} (bus : Interface M A) (original : Interface N B) (Holds : Words → M → N → Type 0) (naming : BusStop
    → BusStop) (target source : Code) (place : ℕ → Position) (count : ℕ) (left after : Thread M A) (right : Thread N B)
    → is_extra (place left.regs.rip) ≡ true
    → RunAlike bus Holds naming place (run bus target count after)
    (run original source (length (original_lines place naming (run bus target count after).lines)) right)
    → RunAlike bus Holds naming place (run_on (run bus target count) left (Ran Next) after)
    (run original source (length (original_lines place naming (run_on (run bus target count) left (Ran Next) after).lines))
    right)
extra_on bus original Holds naming target source place count left after right extra rest =
    let lines = extra_lines place naming (line left.regs.rip (Ran Next)) (run bus target count after).lines extra in record {
      lines = subst (λ (l : List Line). (run original source (length l) right).lines ≡ l) (sym lines) rest.lines;
      end = subst
          (λ (l : List Line). Related bus Holds place (run bus target count after).end (run original source (length l) right).end)
          (sym lines) rest.end;
    }

own_on : {M A N B : Type 0} (bus : Interface M A) (original : Interface N B) (Holds : Words → M → N → Type 0) (naming : BusStop
    → BusStop) (target source : Code) (place : ℕ → Position) (count : ℕ) (left after : Thread M A) (right : Thread N B)
    → is_extra (place left.regs.rip) ≡ false
    → (step original source right).event ≡ Ran Next → right.regs.rip ≡ original_rip (place left.regs.rip) left.regs.rip
    → RunAlike bus Holds naming place (run bus target count after)
    (run original source (length (original_lines place naming (run bus target count after).lines))
    (step original source right).thread)
    → RunAlike bus Holds naming place (run_on (run bus target count) left (Ran Next) after)
    (run original source (length (original_lines place naming (run_on (run bus target count) left (Ran Next) after).lines))
    right)
own_on {M} {A} {N} {B} bus original Holds naming target source place count left after right own event rip rest =
    let others = original_lines place naming (run bus target count after).lines in
    let one = line (original_rip (place left.regs.rip) left.regs.rip) (Ran Next) in
    let lines = own_lines place naming (line left.regs.rip (Ran Next)) (run bus target count after).lines own in
    let next = (step original source right).thread in
    let there : run original source (suc (length others)) right
    ≡ record {
      lines = line right.regs.rip (Ran Next) ∷ (run original source (length others) next).lines;
      end = (run original source (length others) next).end;
    } =
    ap (λ (e : Event). run_on (run original source (length others)) right e next) event in
    let made : (run original source (length (one ∷ others)) right).lines ≡ one ∷ others =
    ap (λ (r : Run N B). r.lines) there ∙ ap (λ (l : List Line). line right.regs.rip (Ran Next) ∷ l) rest.lines
    ∙ ap (λ (n : ℕ). line n (Ran Next) ∷ others) rip in
    let end : Related bus Holds place (run bus target count after).end (run original source (length (one ∷ others)) right).end =
    subst (λ (t : Thread N B). Related bus Holds place (run bus target count after).end t)
    (sym (ap (λ (r : Run N B). r.end) there)) rest.end in record {
      lines = subst (λ (l : List Line). (run original source (length l) right).lines ≡ l) (sym lines) made;
      end = subst
          (λ (l : List Line). Related bus Holds place (run bus target count after).end (run original source (length l) right).end)
          (sym lines) end;
    }

by_event : {M A N B : Type 0} (bus : Interface M A) (original : Interface N B) (Holds : Words → M → N → Type 0) (naming : BusStop
    → BusStop) (target source : Code) (place : ℕ
    → Position) (count : ℕ) (left : Thread M A) (right : Thread N B) (made : Made M A) (event : Event) (extra : Bool)
    → made.event ≡ event → is_extra (place left.regs.rip) ≡ extra → Related bus Holds place left right
    → StepAlike bus Holds naming place (place left.regs.rip) left right made (step original source right) extra
    → WhereNext event (Rest {M = M} {A = A} {N = N} {B = B} bus original Holds naming target source place count made.thread)
    → RunAlike bus Holds naming place (run_on (run bus target count) left event made.thread)
    (run original source (length (original_lines place naming (run_on (run bus target count) left event made.thread).lines))
    right)
by_event bus original Holds naming target source place count left right made (Ran Next) true is extra related alike rest =
    extra_on bus original Holds naming target source place count left made.thread right extra (rest right alike.1)
by_event bus original Holds naming target source place count left right made (Ran Syscall) true is extra related alike rest =
    absurd (let e = alike.0 in cc)
by_event bus original Holds naming target source place count left right made (Ran Switch) true is extra related alike rest =
    absurd (let e = alike.0 in cc)
by_event bus original Holds naming target source place count left right made (Ran Undefined) true is extra related alike rest =
    absurd (let e = alike.0 in cc)
by_event bus original Holds naming target source place count left right made (Stopped stop) true is extra related alike rest =
    absurd (let e = alike.0 in cc)
by_event bus original Holds naming target source place count left right made NotFetched true is extra related alike rest =
    absurd (let e = alike.0 in cc)
by_event bus original Holds naming target source place count left right made (Ran Next) false is own related alike rest =
    let next =
    subst (λ (e : Event). WhereNext e (Related bus Holds place made.thread (step original source right).thread)) is alike.2
    in
    own_on bus original Holds naming target source place count left made.thread right own (alike.0
    ∙ ap (λ (e : Event). told_event naming e) is) alike.1 (rest (step original source right).thread next)
by_event bus original Holds naming target source place count left right made (Ran Syscall) false is own related alike rest =
    ended bus original Holds naming source place (run bus target count) left made.thread right (Ran Syscall) related own (alike.0
    ∙ ap (λ (e : Event). told_event naming e) is) alike.1 (λ r b a. refl) (λ r b a. refl)
by_event bus original Holds naming target source place count left right made (Ran Switch) false is own related alike rest =
    ended bus original Holds naming source place (run bus target count) left made.thread right (Ran Switch) related own (alike.0
    ∙ ap (λ (e : Event). told_event naming e) is) alike.1 (λ r b a. refl) (λ r b a. refl)
by_event bus original Holds naming target source place count left right made (Ran Undefined) false is own related alike rest =
    ended bus original Holds naming source place (run bus target count) left made.thread right (Ran Undefined) related own
    (alike.0 ∙ ap (λ (e : Event). told_event naming e) is) alike.1 (λ r b a. refl) (λ r b a. refl)
by_event bus original Holds naming target source place count left right made (Stopped stop) false is own related alike rest =
    ended bus original Holds naming source place (run bus target count) left made.thread right (Stopped stop) related own (alike.0
    ∙ ap (λ (e : Event). told_event naming e) is) alike.1 (λ r b a. refl) (λ r b a. refl)
by_event bus original Holds naming target source place count left right made NotFetched false is own related alike rest =
    ended bus original Holds naming source place (run bus target count) left made.thread right NotFetched related own (alike.0
    ∙ ap (λ (e : Event). told_event naming e) is) alike.1 (λ r b a. refl) (λ r b a. refl)

pub where_map : (event : Event) (One Two : Type 0) → (One → Two) → WhereNext event One → WhereNext event Two
where_map (Ran Next) One Two given one = given one
where_map (Ran Syscall) One Two given one = tt
where_map (Ran Switch) One Two given one = tt
where_map (Ran Undefined) One Two given one = tt
where_map (Stopped stop) One Two given one = tt
where_map NotFetched One Two given one = tt

pub run_alike : {M A N B : Type 0} (bus : Interface M A) (original : Interface N B) (Holds : Words → M → N
    → Type 0) (IsOutside : ℕ → ℕ → Type 0) (naming : BusStop → BusStop) (target source : Code) (place : ℕ → Position)
    → AreBeside bus original Holds IsOutside naming
    → ((address : ℕ) → Stands bus Holds target source place address (place address))
    → (count : ℕ) (left : Thread M A) (right : Thread N B) → Related bus Holds place left right
    → AreStraight bus Holds IsOutside target source place count left
    → RunAlike bus Holds naming place (run bus target count left)
    (run original source (length (original_lines place naming (run bus target count left).lines)) right)
run_alike bus original Holds IsOutside naming target source place beside stands zero left right related straight =
    record { lines = refl; end = related }
run_alike {M} {A} {N} {B} bus original Holds IsOutside naming target source place beside stands (suc count) left right related
    (now, later) =
    let made = step bus target left in
    by_event bus original Holds naming target source place count left right made made.event
    (is_extra (place left.regs.rip)) refl refl related
    (step_alike bus original Holds IsOutside naming target source place beside stands left right related now)
    (where_map made.event (AreStraight bus Holds IsOutside target source place count made.thread)
    (Rest {M = M} {A = A} {N = N} {B = B} bus original Holds naming target source place count made.thread)
    (λ straight other next. run_alike bus original Holds IsOutside naming target source place beside stands count made.thread
    other next straight) later)
