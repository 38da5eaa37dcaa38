-- The mark of a machine's step is that of the plain machine's.
use Rattle.std.proofs.Common.{◌≡◌, ◌∙◌, sym, ap, subst, ℕ, ◌<◌, Bool, true, List, length, refl, Result, Ok, Err}
use Rattle.std.specs.Prelude.{IsTrue, Option, None, slice_get, unwrap_or}
use Rattle.sb_insn.specs.declared.insn.Insn.{Insn}
use Rattle.sb_insn.specs.declared.registers.Regs.{Regs}
use Rattle.sb_bus.specs.declared.stop.BusStop.{BusStop}
use Rattle.sb_exec.specs.Fetching.{FetchesOn}
use Rattle.sb_exec.proofs.OneFetch.{one_fetch_on}
use Rattle.sb_nested.specs.Store.{view_interface}
use Rattle.sb_slots.specs.declared.mark.Mark.{Mark}
use Rattle.sb_slots.specs.declared.mark.Mark.TheVariants as mark_of
use Rattle.sb_slots.specs.Marks.{mark}
use Rattle.sb_slots.specs.TextMap.{TextMap}
use Rattle.sb_state.specs.declared.end_kind.EndKind.{EndKind}
use Rattle.sb_state.specs.declared.end_kind.EndKind.TheVariants.{Running}
use Rattle.sb_state.specs.declared.state.Binding.{Binding}
use Rattle.sb_state.specs.declared.state.Flight.{Flight}
use Rattle.sb_state.specs.PlainMemory.{plain}
use Rattle.sb_trace.specs.declared.event.Event.{Event}
use Rattle.sb_trace.specs.declared.event.Event.TheVariants as event
use Rattle.sb_trace.specs.Marks.{HasMark as PlainHasMark, event_with_mark, line_of_mark, line_with_mark, map_in, map_now, touches_scratch}
use Rattle.sb_trace.specs.State.{State, Process, thread_at, flight_at, process_at}
use Rattle.sb_trace.specs.Windows.{process_now}
use Rattle.sb_trace.proofs.Instructions.{IsOfInstruction, flights_stay, line_of_instruction}
use Rattle.sb_trace.proofs.Marks.{alike_with_mark, changes_with_mark}
use Rattle.sb_shows.specs.Shows.{present_index}
use Rattle.sb_sub.specs.Kernel.{Seat, process_from, seat_of}
use Rattle.sb_sub.specs.Refusals.{process_in}
use Rattle.sb_sub.proofs.Accepting.{found_same}
use Rattle.sb_machine.specs.Landing.{LeavesCores, PoolAfter}
use Rattle.sb_machine.specs.Laws.{Follows, FollowsWithMark, StepsArePlain, StepsWithMarkArePlain}
use Rattle.sb_machine.specs.Machine.{Machine, core_at, no_account, state_at, view_at}
use Rattle.sb_machine.specs.Marks.{HasMark, StepsWithMark, TellsScratch, map_shown}
use Rattle.sb_machine.specs.OwnSteps.{is_own}
use Rattle.sb_machine.specs.StandsFor.{IsMachineOf}
use Rattle.sb_machine.specs.Translations.{KeepsTranslations}
use Rattle.sb_machine.specs.Written.{FetchesNext, StepsBy, Steps}
use Rattle.sb_machine.proofs.Counting.{step_cores}
use Rattle.sb_machine.proofs.Ending.{shows}
use Rattle.sb_machine.proofs.Grounded.{core_is, index_is, regs_are}
use Rattle.sb_machine.proofs.Seeing.{fetched as plain_fetched}

-- ---- what a step tells beside its line

same_insn : (one other : Insn) (answer : Result Insn BusStop) → answer ≡ Ok one → answer ≡ Ok other → one ≡ other
same_insn one other answer first second = cc

apart : (stop : BusStop) (insn : Insn) (answer : Result Insn BusStop) → answer ≡ Err stop → answer ≡ Ok insn → ⊥
apart stop insn answer first second = cc

-- a core fetches one thing
fetches_once : (machine : Machine) (number : ℕ) (one other : Result Insn BusStop) → FetchesNext machine number one
    → FetchesNext machine number other → one ≡ other
fetches_once machine number one other first second =
    (one_fetch_on (view_interface no_account) (view_at machine number) (state_at machine number).regs.rip tt tt tt one other first
    second).0

-- one instruction is fetched
pub fetched : (machine : Machine) (number : ℕ) (insn : Insn) (scratch : Bool) → FetchesNext machine number (Ok insn)
    → scratch ≡ touches_scratch insn (state_at machine number).regs → TellsScratch machine number scratch
fetched machine number insn scratch fetches is other fetches' =
    let answer = fetches_once machine number (Ok insn) (Ok other) fetches fetches' in
    is ∙ ap (λ (one : Insn). touches_scratch one (state_at machine number).regs)
    (same_insn insn other (Ok insn) refl answer)

-- none is
pub not_fetched : (machine : Machine) (number : ℕ) (stop : BusStop) (scratch : Bool) → FetchesNext machine number (Err stop)
    → TellsScratch machine number scratch
not_fetched machine number stop scratch fetches other fetches' =
    absurd (apart stop other (Err stop) refl (fetches_once machine number (Err stop) (Ok other) fetches fetches'))

-- ---- the record of the process

module _ (machine : Machine) (state : State) (is : IsMachineOf machine state) (number : ℕ) (there : number < length machine.cores)
  where
    -- of a view of the thread
    map_by : (view : ℕ) → map_shown machine number view
        ≡ map_in (process_at state (process_from view (seat_of (thread_at state number))))
    map_by view =
        ap (λ (process : ℕ). map_in (process_in machine.kernel process)) (shows machine state is number there view)
        ∙ ap map_in
        (found_same machine.kernel machine.root machine.book machine.memory state is.stands
        (process_from view (seat_of (thread_at state number))))

    -- of the present view of a thread out of flight
    map_present : flight_at state number ≡ None → map_shown machine number (state_at machine number).view ≡ map_now state number
    map_present grounded =
        ap (λ (view : ℕ). map_shown machine number view) (core_is machine state is number there grounded).view
        ∙ map_by (thread_at state number).view

-- ---- a step with the line of an instruction

module _ (old : Machine) (state : State) (is : IsMachineOf old state) (number : ℕ) (there : number < length old.cores) (rip : ℕ)
    (new : Machine) (steps : Steps old number (event.Step rip) new)
    (follows : Follows new state number (event.Step rip)) where
  abbrev Rip : Regs → ℕ
  Rip regs = regs.rip

  of_instruction : IsOfInstruction state number rip
  of_instruction = line_of_instruction state number rip follows.next follows.steps

  grounded : flight_at state number ≡ None
  grounded = of_instruction.grounded

  grounded' : flight_at follows.next number ≡ None
  unfolding flight_at
  grounded' =
      ap (λ (flights : List (Option Flight)). unwrap_or (slice_get flights number) None)
      (flights_stay state number rip follows.next follows.steps) ∙ grounded

  there' : number < length new.cores
  there' = subst (λ (count : ℕ). number < count) (sym (step_cores old number (event.Step rip) new steps)) there

  running : (core_at old number).end ≡ Running
  running = (is.cores number).end ∙ of_instruction.running

  regs_old : (state_at old number).regs ≡ (thread_at state number).regs
  regs_old = regs_are old state is number there grounded

  regs_new : (state_at new number).regs ≡ (thread_at follows.next number).regs
  regs_new = regs_are new follows.next follows.stands number there' grounded'

  -- what the core fetches the thread fetches
  as_thread : (result : Result Insn BusStop) → FetchesNext old number result
      → FetchesOn (plain number (thread_at state number).view) state (thread_at state number).regs.rip tt tt result
  as_thread result fetches =
      subst (λ (view : ℕ). FetchesOn (plain number view) state (thread_at state number).regs.rip tt tt result)
      (index_is old state is number there grounded)
      (subst (λ (regs : Regs). FetchesOn (plain number (present_index state number)) state regs.rip tt tt result) regs_old
      (plain_fetched old state is number there result fetches))

  -- the core fetches the instruction of the thread
  instruction : FetchesNext old number (Ok of_instruction.insn)
  instruction =
      let runs = subst (λ (end : EndKind). StepsBy old number end (event.Step rip, steps.0)) running steps.1 in
      let same =
      (one_fetch_on (plain number (thread_at state number).view) state (thread_at state number).regs.rip tt tt tt runs.0
      (Ok of_instruction.insn) (as_thread runs.0 runs.1) of_instruction.fetches).0 in
      subst (λ (result : Result Insn BusStop). FetchesNext old number result) same runs.1

  -- the record of the process stays
  map_stays : (view : ℕ) → map_shown new number view ≡ map_shown old number view
  unfolding process_at
  map_stays view =
      let changes = follows.changes in
      let one : List Process → ℕ → TextMap = λ processes process. map_in (slice_get processes process) in
      map_by new follows.next follows.stands number there' view
      ∙ (ap (λ (processes : List Process). one processes (process_from view (seat_of (thread_at follows.next number))))
      changes.rest.processes
      ∙ (ap (λ (home : ℕ). one state.processes (process_from view (record {
        home = home;
        bindings = (thread_at follows.next number).bindings;
      }))) changes.thread.home
      ∙ (ap (λ (bindings : List Binding). one state.processes (process_from view (record {
        home = (thread_at state number).home;
        bindings = bindings;
      }))) (changes.rest.bindings number)
      ∙ sym (map_by old state is number there view))))

  -- the line that is marked by what was told
  told_mark : (scratch : Bool) → TellsScratch old number scratch
      → HasMark old number (event.Step rip)
      (event_with_mark (map_shown new number (state_at old number).view) (state_at new number).regs.rip scratch (event.Step rip))
      new
  told_mark scratch tells =
      let insn = of_instruction.insn in
      let next : ℕ = (state_at new number).regs.rip in
      let view : ℕ = (state_at old number).view in
      let at : rip ≡ (state_at old number).regs.rip = of_instruction.at ∙ ap Rip (sym regs_old) in (
        insn,
        instruction,
        ap (λ (map : TextMap). line_of_mark (mark map rip next scratch) rip) (map_stays view)
            ∙ (ap (λ (told : Bool). line_of_mark (mark (map_shown old number view) rip next told) rip) (tells insn instruction)
            ∙ ap (λ (one : ℕ). line_of_mark (mark (map_shown old number view) one next
            (touches_scratch insn (state_at old number).regs)) one) at),
      )

  -- the mark is the plain machine's
  as_plain : (marked : Event) → HasMark old number (event.Step rip) marked new
      → PlainHasMark state number (event.Step rip) marked follows.next
  as_plain marked (insn, fetches, is_it) = (
    insn,
    as_thread (Ok insn) fetches,
    is_it
        ∙ (ap (λ (map : TextMap). line_with_mark map insn (state_at old number).regs (state_at new number).regs.rip)
        (map_present old state is number there grounded)
        ∙ (ap (λ (regs : Regs). line_with_mark (map_now state number) insn regs (state_at new number).regs.rip) regs_old
        ∙ ap (λ (regs : Regs). line_with_mark (map_now state number) insn (thread_at state number).regs regs.rip) regs_new)),
  )

-- ---- each step

-- a step with the line that is marked by what it told
pub has_mark : (old : Machine) (state : State) → IsMachineOf old state → (number : ℕ) → number < length old.cores
    → (unmarked : Event) (scratch : Bool) (new : Machine) → Steps old number unmarked new → Follows new state number unmarked
    → ((core_at old number).end ≡ Running → TellsScratch old number scratch)
    → HasMark old number unmarked
    (event_with_mark (map_shown new number (state_at old number).view) (state_at new number).regs.rip scratch unmarked) new
has_mark old state is number there (event.Step rip) scratch new steps follows tells =
    told_mark old state is number there rip new steps follows scratch
    (tells (running old state is number there rip new steps follows))
has_mark old state is number there unmarked scratch new steps follows tells = refl

-- the mark of a step is the plain machine's
pub plain_mark : (old : Machine) (state : State) → IsMachineOf old state → (number : ℕ) → number < length old.cores
    → (unmarked marked : Event) (new : Machine) → Steps old number unmarked new
    → (follows : Follows new state number unmarked) → HasMark old number unmarked marked new
    → PlainHasMark state number unmarked marked follows.next
plain_mark old state is number there (event.Step rip) marked new steps follows mark =
    as_plain old state is number there rip new steps follows marked mark
plain_mark old state is number there unmarked marked new steps follows is_it = is_it

-- ---- what holds with each mark

-- what is said of a line is said of it with its mark, if it is said of an instruction with each mark
pub claim_with_mark : (Claim : Event → Type 0)
    → ((rip : ℕ) (one : Mark) (at : ℕ) → Claim (event.Step rip) → Claim (line_of_mark one at))
    → (old : Machine) (number : ℕ) (unmarked marked : Event) (new : Machine) → HasMark old number unmarked marked new
    → Claim unmarked → Claim marked
claim_with_mark Claim each old number (event.Step rip) marked new (insn, fetches, is_it) claim =
    subst Claim (sym is_it) (each rip _ _ claim)
claim_with_mark Claim each old number unmarked marked new is_it claim = subst Claim (sym is_it) claim

-- a line that a core has by itself is one without its mark
pub own_unmarked : (old : Machine) (number : ℕ) (unmarked marked : Event) (new : Machine)
    → HasMark old number unmarked marked new → IsTrue (is_own marked) → IsTrue (is_own unmarked)
own_unmarked old number (event.Step rip) marked new mark own = refl
own_unmarked old number unmarked marked new is_it own = subst (λ (one : Event). IsTrue (is_own one)) is_it own

-- ---- the law

pub steps_with_mark_are_plain : StepsArePlain → StepsWithMarkArePlain
steps_with_mark_are_plain law old number marked new state there is (unmarked, steps, mark) =
    let follows = law old number unmarked new state there is steps in
    let as_plain_mark = plain_mark old state is number there unmarked marked new steps follows mark in
    record {
      next = follows.next;
      steps = (unmarked, follows.steps, as_plain_mark);
      stands = follows.stands;
      at_once = alike_with_mark state number unmarked marked follows.next follows.at_once as_plain_mark;
      changes = changes_with_mark state number unmarked marked follows.next follows.changes as_plain_mark;
      one_switch = follows.one_switch;
    }

-- ---- clauses of a step

-- translations
translations_each : (old new : Machine) (rip : ℕ) (one : Mark) (at : ℕ) → KeepsTranslations (event.Step rip) old new
    → KeepsTranslations (line_of_mark one at) old new
translations_each old new rip mark_of.Step at keeps = keeps
translations_each old new rip mark_of.Extra at keeps = keeps
translations_each old new rip mark_of.Stray at keeps = keeps

pub translations_with_mark : (old : Machine) (number : ℕ) (unmarked marked : Event) (new : Machine)
    → HasMark old number unmarked marked new → KeepsTranslations unmarked old new → KeepsTranslations marked old new
translations_with_mark old number unmarked marked new =
    claim_with_mark (λ line. KeepsTranslations line old new) (translations_each old new) old number unmarked marked new

-- the pool pages of other cores
pool_each : (old new : Machine) (core other index rip : ℕ) (one : Mark) (at : ℕ) → PoolAfter (event.Step rip) old new core other index
    → PoolAfter (line_of_mark one at) old new core other index
pool_each old new core other index rip mark_of.Step at after = after
pool_each old new core other index rip mark_of.Extra at after = after
pool_each old new core other index rip mark_of.Stray at after = after

apart_each : (old new : Machine) (core rip : ℕ) (one : Mark) (at : ℕ) → LeavesCores (event.Step rip) core old new
    → LeavesCores (line_of_mark one at) core old new
apart_each old new core rip one at leaves other apart there =
    let leave = leaves other apart there in
    record {
      same = leave.same;
      list = leave.list;
      trampoline = leave.trampoline;
      words = leave.words;
      pool = λ index pointer away. pool_each old new core other index rip one at (leave.pool index pointer away);
    }

pub apart_with_mark : (old : Machine) (number : ℕ) (unmarked marked : Event) (new : Machine)
    → HasMark old number unmarked marked new → LeavesCores unmarked number old new → LeavesCores marked number old new
apart_with_mark old number unmarked marked new =
    claim_with_mark (λ line. LeavesCores line number old new) (apart_each old new number) old number unmarked marked new
