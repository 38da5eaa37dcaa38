-- A decided call in flight: its registers as the plain machine has them are a function of the phase and the real registers.
use Rattle.std.proofs.Common.{◌≡◌, ◌∙◌, sym, ap, subst, ℕ, ◌+◌, ◌-◌, ◌*◌, ◌/◌, ◌%◌, ◌^◌, ◌≤◌, Bool, true, false, refl, arith}
use Rattle.std.specs.Prelude.{Some, slice_get, slice_index}
use Rattle.std.specs.List.{AllByRecursion, Contains}
use Rattle.std.proofs.lemmas.Nat.{trailing_le}
use Rattle.sb_abi.specs.Numbers.{status_number}
use Rattle.sb_insn.specs.declared.registers.Regs.{Regs}
use Rattle.sb_exec.specs.Words.{AreWords}
use Rattle.sb_state.specs.declared.state.Binding.{Binding}
use Rattle.sb_state.specs.declared.state.Decision.{Decision}
use Rattle.sb_state.specs.declared.state.Decision.TheVariants as decision
use Rattle.sb_state.specs.declared.state.Flight.{Flight}
use Rattle.sb_state.specs.declared.state.Thread.{Thread}
use Rattle.sb_trace.specs.Registers.{zero_flags}
use Rattle.sb_trace.specs.State.{State, thread_at}
use Rattle.sb_trace.specs.Home.{home_address}
use Rattle.sb_trace.specs.KernelCall.{refusal_regs, entry_regs, lowest_bit}
use Rattle.sb_trace.specs.Sound.{phases_of, IsInFlight, IsThreadOfFlight}
use Rattle.sb_trace.proofs.InFlight.{at_phase_of}
use Rattle.sb_trace.proofs.ProcessFacts.{all_at}
use Rattle.sb_landing.specs.Moved.{Moved, landing_regs}
use Rattle.sb_landing.specs.Stages.{Landing, Stage, stages, wrong_key_stages, pool_empty_stages, entered_stages}
use Rattle.sb_landing.specs.AtPhase.{AtPhase, kept_regs, landing_in, record_word}
use Rattle.sb_landing.proofs.Ends.{refused_put, entered_put}
use Rattle.sb_machine.specs.End.{is_entering, stack_number, refusal_status, decided_regs, decided_view}

-- ---- registers that a landing has changed

abbrev home_moved : ℕ → ℕ → Moved
home_moved rsp status =
    record { rax = 0; rcx = 0; rsp = rsp; r9 = status; r10 = 0; rip = home_address; flags = zero_flags }

refused_moved : (start : Regs) (moved : Moved) (status : ℕ)
    → refusal_regs (landing_regs start moved) status ≡ landing_regs start (home_moved moved.rsp status)
unfolding refusal_regs
refused_moved start moved status = refl

-- a refusal forgets what the landing changed but for RSP
refused_again : (start : Regs) (moved : Moved) (status : ℕ) → AreWords start → moved.rsp ≡ slice_index start.general 4
    → refusal_regs (landing_regs start moved) status ≡ refusal_regs start status
refused_again start moved status words stack =
    refused_moved start moved status
    ∙ (ap (λ (rsp : ℕ). landing_regs start (home_moved rsp status)) stack ∙ sym (refused_put start status words))

abbrev handler_moved : ℕ → ℕ → ℕ → Moved
handler_moved stack r9 handler =
    record { rax = 0; rcx = 0; rsp = 0x4003FF8 + stack * 0x4000; r9 = r9; r10 = 0; rip = handler; flags = zero_flags }

entered_moved : (start : Regs) (moved : Moved) (stack handler : ℕ)
    → entry_regs (landing_regs start moved) stack handler ≡ landing_regs start (handler_moved stack moved.r9 handler)
unfolding entry_regs
entered_moved start moved stack handler = refl

-- an entry forgets what the landing changed but for R9
entered_again : (start : Regs) (moved : Moved) (stack handler : ℕ) → AreWords start → moved.r9 ≡ slice_index start.general 9
    → entry_regs (landing_regs start moved) stack handler ≡ entry_regs start stack handler
entered_again start moved stack handler words same =
    entered_moved start moved stack handler
    ∙ (ap (λ (r9 : ℕ). landing_regs start (handler_moved stack r9 handler)) same ∙ sym (entered_put start stack handler words))

-- ---- a refused call

-- at this stage a call is refused with this status
record IsRefusedAt (start : Regs) (status : ℕ) (stage : Stage) : Type 0 where
  away : is_entering stage.phase ≡ false
  says : status_number (refusal_status stage.phase (landing_regs start stage.moved)) ≡ status
  stack : stage.moved.rsp ≡ slice_index start.general 4

refused_kept : (start : Regs) (status handler : ℕ) (stage : Stage) → AreWords start → IsRefusedAt start status stage
    → decided_regs stage.phase (landing_regs start stage.moved) handler ≡ refusal_regs start status
refused_kept start status handler stage words is =
    let again = refused_again start stage.moved status words is.stack in
    rw (is.away, is.says) again

wrong_key_refused : (landing : Landing) → AllByRecursion (IsRefusedAt landing.start 1) (wrong_key_stages landing)
wrong_key_refused landing = (
  record { away = refl; says = refl; stack = refl },
  (
    record { away = refl; says = refl; stack = refl },
    (
      record { away = refl; says = refl; stack = refl },
      (
        record { away = refl; says = refl; stack = refl },
        (
          record { away = refl; says = refl; stack = refl },
          (
            record { away = refl; says = refl; stack = refl },
            (
              record { away = refl; says = refl; stack = refl },
              (record { away = refl; says = refl; stack = refl }, tt),
            ),
          ),
        ),
      ),
    ),
  ),
)

pool_empty_refused : (landing : Landing) → AllByRecursion (IsRefusedAt landing.start 2) (pool_empty_stages landing)
pool_empty_refused landing = (
  record { away = refl; says = refl; stack = refl },
  (
    record { away = refl; says = refl; stack = refl },
    (
      record { away = refl; says = refl; stack = refl },
      (
        record { away = refl; says = refl; stack = refl },
        (
          record { away = refl; says = refl; stack = refl },
          (
            record { away = refl; says = refl; stack = refl },
            (
              record { away = refl; says = refl; stack = refl },
              (record { away = refl; says = refl; stack = refl }, tt),
            ),
          ),
        ),
      ),
    ),
  ),
)

-- ---- an entered call

-- at this stage a call is entered on the stack of this number
record IsEnteredAt (start : Regs) (stack : ℕ) (stage : Stage) : Type 0 where
  enters : is_entering stage.phase ≡ true
  number : stack_number stage.phase (landing_regs start stage.moved) ≡ stack
  status : stage.moved.r9 ≡ slice_index start.general 9

entered_kept : (start : Regs) (stack handler : ℕ) (stage : Stage) → AreWords start → IsEnteredAt start stack stage
    → decided_regs stage.phase (landing_regs start stage.moved) handler ≡ entry_regs start stack handler
entered_kept start stack handler stage words is =
    let again = entered_again start stage.moved stack handler words is.status in
    rw (is.enters, is.number) again

-- the number of a stack, by itself, by how far it lies above the first, and by its top
number_is : (bit : ℕ) → bit ≤ 64 → bit % 256 ≡ bit
number_is bit small = omega (arith, small)

number_by_distance : (bit : ℕ) → bit ≤ 64 → bit * 2 ^ 14 / 0x4000 % 256 ≡ bit
number_by_distance bit small = omega (arith, small)

number_by_top : (base bit : ℕ) → base ≡ 0x4003FF8 → bit ≤ 64 → (base + bit * 2 ^ 14 - 0x4003FF8) / 0x4000 % 256 ≡ bit
number_by_top base bit is small = omega (arith, is, small)

entered_entered : (landing : Landing) → landing.base ≡ 0x4003FF8
    → AllByRecursion (IsEnteredAt landing.start (lowest_bit landing.mask)) (entered_stages landing)
entered_entered landing base =
    let bit : ℕ = lowest_bit landing.mask in
    let small : bit ≤ 64 = trailing_le 64 landing.mask in
    let top = number_by_top landing.base bit base small in (
      record { enters = refl; number = number_is bit small; status = refl },
      (
        record { enters = refl; number = number_is bit small; status = refl },
        (
          record { enters = refl; number = number_by_distance bit small; status = refl },
          (
            record { enters = refl; number = number_by_distance bit small; status = refl },
            (
              record { enters = refl; number = top; status = refl },
              (
                record { enters = refl; number = top; status = refl },
                (
                  record { enters = refl; number = top; status = refl },
                  (record { enters = refl; number = top; status = refl }, tt),
                ),
              ),
            ),
          ),
        ),
      ),
    )

-- ---- by the decision

kept_at : (decided : Decision) (landing : Landing) (place : ℕ) (stage : Stage) → AreWords landing.start
    → landing.base ≡ 0x4003FF8 → slice_get (stages landing (Some decided)) place ≡ Some stage
    → decided_regs stage.phase (landing_regs landing.start stage.moved) landing.handler ≡ kept_regs landing (Some decided)
kept_at decision.WrongKey landing place stage words base among =
    refused_kept landing.start 1 landing.handler stage words
    (all_at (IsRefusedAt landing.start 1) (wrong_key_stages landing) place stage (wrong_key_refused landing) among)
kept_at decision.PoolEmpty landing place stage words base among =
    refused_kept landing.start 2 landing.handler stage words
    (all_at (IsRefusedAt landing.start 2) (pool_empty_stages landing) place stage (pool_empty_refused landing) among)
kept_at decision.Entered landing place stage words base among =
    entered_kept landing.start (lowest_bit landing.mask) landing.handler stage words
    (all_at (IsEnteredAt landing.start (lowest_bit landing.mask)) (entered_stages landing) place stage
    (entered_entered landing base) among)

-- The registers that the plain machine has of a decided call in flight are those of the definition, by the real ones.
pub decided_are : (state : State) (number : ℕ) (flight : Flight) (decided : Decision) (start : Regs) (failed : Bool)
    (real : Regs)
    → flight.decided ≡ Some decided → AtPhase state number flight start failed real
    → record_word state number flight.index 8 ≡ 0x4003FF8
    → decided_regs flight.phase real (record_word state number flight.index 0x10) ≡ (thread_at state number).regs
decided_are state number flight decided start failed real is at base =
    let handler : ℕ = record_word state number flight.index 0x10 in
    let landing : Landing = landing_in state number flight.index flight.mask start at.left in
    let among : slice_get (stages landing (Some decided)) at.place ≡ Some at.stage =
    subst (λ found. slice_get (stages landing found) at.place ≡ Some at.stage) is at.among in
    let kept = kept_at decided landing at.place at.stage at.words base among in
    let here : decided_regs flight.phase real handler ≡ decided_regs at.stage.phase (landing_regs start at.stage.moved) handler =
    ap (λ (phase : ℕ). decided_regs phase real handler) (sym at.phase)
    ∙ ap (λ (regs : Regs). decided_regs at.stage.phase regs handler) at.registers in
    here ∙ (kept ∙ (sym (ap (λ found. kept_regs landing found) is) ∙ sym at.plain))

-- ---- the view

wrong_key_away : AllByRecursion (λ phase. is_entering phase ≡ false) (phases_of (Some decision.WrongKey))
wrong_key_away = (refl, (refl, (refl, (refl, (refl, (refl, (refl, (refl, tt))))))))

pool_empty_away : AllByRecursion (λ phase. is_entering phase ≡ false) (phases_of (Some decision.PoolEmpty))
pool_empty_away = (refl, (refl, (refl, (refl, (refl, (refl, (refl, (refl, tt))))))))

entered_enters : AllByRecursion (λ phase. is_entering phase ≡ true) (phases_of (Some decision.Entered))
entered_enters = (refl, (refl, (refl, (refl, (refl, (refl, (refl, (refl, tt))))))))

view_away : (thread : Thread) (phase index : ℕ) → is_entering phase ≡ false → thread.view ≡ 0
    → decided_view phase index ≡ thread.view
view_away thread phase index away home = rw away (sym home)

view_in : (thread : Thread) (phase index : ℕ) → is_entering phase ≡ true → thread.view ≡ index
    → decided_view phase index ≡ thread.view
view_in thread phase index enters there = rw enters (sym there)

view_by : (decided : Decision) (thread : Thread) (flight : Flight) (binding : Binding)
    → Contains (phases_of (Some decided)) flight.phase → IsThreadOfFlight (Some decided) thread flight binding
    → decided_view flight.phase flight.index ≡ thread.view
view_by decision.WrongKey thread flight binding among stage =
    view_away thread flight.phase flight.index
    (at_phase_of (λ phase. is_entering phase ≡ false) (Some decision.WrongKey) flight.phase wrong_key_away among) stage
view_by decision.PoolEmpty thread flight binding among stage =
    view_away thread flight.phase flight.index
    (at_phase_of (λ phase. is_entering phase ≡ false) (Some decision.PoolEmpty) flight.phase pool_empty_away among) stage
view_by decision.Entered thread flight binding among stage =
    view_in thread flight.phase flight.index
    (at_phase_of (λ phase. is_entering phase ≡ true) (Some decision.Entered) flight.phase entered_enters among) stage

-- The view that the plain machine has of a decided call in flight: a refused call is at home.
pub decided_view_is : (thread : Thread) (flight : Flight) (decided : Decision) → flight.decided ≡ Some decided
    → IsInFlight thread flight → decided_view flight.phase flight.index ≡ thread.view
decided_view_is thread flight decided is flies =
    view_by decided thread flight flies.binding (subst (λ found. Contains (phases_of found) flight.phase) is flies.phase)
    (subst (λ found. IsThreadOfFlight found thread flight flies.binding) is flies.stage)
