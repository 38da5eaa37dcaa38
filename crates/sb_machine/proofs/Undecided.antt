-- Whether the call of a flight is decided is told by the phase and the real registers, and with it what a core keeps of where its
-- thread stood at the VMFUNC.
use Rattle.std.proofs.Common.{◌≡◌, ◌≢◌, ◌∙◌, sym, ap, subst, ℕ, ◌<◌, ◌≤◌, ◌^◌, ◌==◌, ◌&&◌, ◌||◌, ◌⊎◌, inl, inr, Bool, true, false, not, refl, arith, lit≤}
use Rattle.std.specs.Prelude.{Option, Some, None, slice_get, if◌then◌else◌}
use Rattle.std.specs.List.{AllByRecursion}
use Rattle.std.proofs.lemmas.Bool.{ne_eqb}
use Rattle.std.proofs.lemmas.Bool.Decides.{Decides-eqb}
use Rattle.sb_abi.specs.declared.trampoline.TheConstants.{BRANCH_ON_KEY, TEST_MASK, BRANCH_ON_EXCHANGE}
use Rattle.sb_insn.specs.declared.registers.Regs.{Regs}
use Rattle.sb_state.specs.declared.state.Decision.{Decision}
use Rattle.sb_state.specs.declared.state.Decision.TheVariants as decision
use Rattle.sb_state.specs.declared.state.Flight.{Flight}
use Rattle.sb_state.specs.declared.state.Thread.{Thread}
use Rattle.sb_state.specs.declared.state.Binding.{Binding}
use Rattle.sb_state.specs.declared.page.PageName.TheVariants.{Record}
use Rattle.sb_tramp.specs.declared.record_words.RecordWords.{RecordWords}
use Rattle.sb_trace.specs.KernelCall.{handler_in}
use Rattle.sb_trace.specs.Registers.{rsi}
use Rattle.sb_trace.specs.Start.{record_bytes}
use Rattle.sb_trace.specs.State.{State, find_page, thread_at, flight_at, registration_at}
use Rattle.sb_trace.specs.SyscallBind.{server_words}
use Rattle.sb_trace.specs.Sound.{IsInFlight, IsMask, IsSound}
use Rattle.sb_trace.proofs.ProcessFacts.{all_at}
use Rattle.sb_trace.proofs.Threads.{bound_there}
use Rattle.sb_landing.specs.AtPhase.{AtPhase, HasOtherKey, IsLeft, IsLeftByKey, failed_at, landing_in, record_word}
use Rattle.sb_landing.specs.Moved.{landing_regs}
use Rattle.sb_landing.specs.Related.{IsBeside}
use Rattle.sb_landing.specs.Stages.{Landing, Left, compared, Stage, stages, undecided_stages, wrong_key_stages, pool_empty_stages, entered_stages}
use Rattle.sb_landing.proofs.Bound.{HasPages, binding_pages, flight_sound}
use Rattle.sb_landing.proofs.Numbers.{other_compared}
use Rattle.sb_landing.proofs.Steps.{record_has}
use Rattle.sb_landing.proofs.Words as page_words
use Rattle.sb_machine.specs.declared.processor.Core.{Core}
use Rattle.sb_machine.specs.declared.processor.Origin.{Origin}
use Rattle.sb_machine.specs.Applied.{is_decided, origin_kept}
use Rattle.sb_machine.specs.Machine.{Machine, core_at, regs_of}
use Rattle.sb_machine.specs.StandsFor.{IsCoreOf, IsMachineOf, origin_by}

-- ---- stages

-- what the registers at a stage tell
abbrev told_at : Landing → Stage → Bool
told_at landing stage = is_decided (Some stage.phase) (landing_regs landing.start stage.moved)

-- at this stage no call is decided, by what is known there of ZF and the mask
abbrev IsOpenAt : Landing → Stage → Type 0
IsOpenAt landing stage =
    (stage.phase ≡ BRANCH_ON_KEY → landing.left.flags.zf ≡ true)
    → (stage.phase ≡ BRANCH_ON_EXCHANGE → landing.left.flags.zf ≡ false)
    → (TEST_MASK ≤ stage.phase → landing.mask ≢ 0)
    → told_at landing stage ≡ false

mask_tested : (mask phase : ℕ) → TEST_MASK ≤ phase → (TEST_MASK ≤ phase → mask ≢ 0) → (mask == 0) ≡ false
mask_tested mask phase late some = ne_eqb mask 0 (some late)

undecided_open : (landing : Landing) → AllByRecursion (IsOpenAt landing) (undecided_stages landing)
undecided_open landing = (
  λ key exchange mask. refl,
  (
    λ key exchange mask. ap not (key refl),
    (
      λ key exchange mask. refl,
      (
        λ key exchange mask. mask_tested landing.mask 3 (lit≤ tt) mask,
        (
          λ key exchange mask. mask_tested landing.mask 4 (lit≤ tt) mask,
          (
            λ key exchange mask. refl,
            (
              λ key exchange mask. refl,
              (λ key exchange mask. refl, (λ key exchange mask. refl, (λ key exchange mask. exchange refl, tt))),
            ),
          ),
        ),
      ),
    ),
  ),
)

abbrev IsDecidedAt : Landing → Stage → Type 0
IsDecidedAt landing stage = told_at landing stage ≡ true

wrong_key_decided : (landing : Landing) → (compared landing).flags.zf ≡ false
    → AllByRecursion (IsDecidedAt landing) (wrong_key_stages landing)
wrong_key_decided landing clear = (ap not clear, (refl, (refl, (refl, (refl, (refl, (refl, (refl, tt))))))))

pool_empty_decided : (landing : Landing) → landing.mask ≡ 0
    → AllByRecursion (IsDecidedAt landing) (pool_empty_stages landing)
pool_empty_decided landing none =
    let tested : (landing.mask == 0) ≡ true = (Decides-eqb landing.mask 0).1 none in
    (tested, (tested, (refl, (refl, (refl, (refl, (refl, (refl, tt))))))))

entered_decided : (landing : Landing) → AllByRecursion (IsDecidedAt landing) (entered_stages landing)
entered_decided landing = (refl, (refl, (refl, (refl, (refl, (refl, (refl, (refl, tt))))))))

-- ---- a flight

-- before the decision ZF is set at the branch behind the comparison
set_by : (failed : Bool) (start : Regs) (left : Left) (phase : ℕ) → IsLeftByKey failed start left
    → (failed ≡ true → 2 ≤ phase) → phase ≡ 1 → left.flags.zf ≡ true
set_by false start left phase is early here = ap (λ (one : Left). one.flags.zf) is
set_by true start left phase is early here = let late = early refl in absurd (omega arith)

-- and clear at the branch behind an exchange
clear_by : (failed : Bool) (start : Regs) (left : Left) (phase : ℕ) → IsLeftByKey failed start left
    → (((phase == 9) && true) || failed) ≡ failed → phase ≡ 9 → left.flags.zf ≡ false
clear_by false start left phase is still here =
    let test : (phase == 9) ≡ true = (Decides-eqb phase 9).1 here in
    absurd (let clash : true ≡ false = sym (ap (λ (one : Bool). (one && true) || false) test) ∙ still in cc)
clear_by true start left phase is still here = is

-- the key in the record page of a flight is a word
key_small : (state : State) (number : ℕ) (flight : Flight) → IsSound state → IsInFlight (thread_at state number) flight
    → record_word state number flight.index 0 < 2 ^ 64
key_small state number flight sound flies =
    let thread : Thread = thread_at state number in
    let binding : Binding = flies.binding in
    let pages : HasPages state number binding = binding_pages state number flight.index binding sound flies.bound in
    let words : RecordWords = server_words number thread binding (handler_in (registration_at state binding.server)) in
    let named : binding.index ≡ flight.index = (bound_there thread.bindings flight.index binding flies.bound).0 in
    let there : find_page state.pages (Record number flight.index) ≡ Some pages.words.0 =
    ap (λ n. find_page state.pages (Record number n)) (sym named) ∙ pages.words.1 in
    let key : record_word state number flight.index 0 ≡ binding.key =
    record_has state number flight.index 0 pages.words.0 (record_bytes words) there pages.words.2
    ∙ page_words.key_in words pages.key in
    subst (λ (n : ℕ). n < 2 ^ 64) (sym key) pages.key

module _ (state : State) (number : ℕ) (flight : Flight) (start : Regs) (failed : Bool) (real : Regs) (sound : IsSound state)
    (flies : IsInFlight (thread_at state number) flight) (at : AtPhase state number flight start failed real) where
  abbrev landing : Landing
  landing = landing_in state number flight.index flight.mask start at.left

  told_is : is_decided (Some flight.phase) real ≡ told_at landing at.stage
  told_is =
      ap (λ (phase : ℕ). is_decided (Some phase) real) (sym at.phase)
      ∙ ap (λ (regs : Regs). is_decided (Some at.stage.phase) regs) at.registers

  among : (decided : Option Decision) → flight.decided ≡ decided
      → slice_get (stages landing decided) at.place ≡ Some at.stage
  among decided is = subst (λ found. slice_get (stages landing found) at.place ≡ Some at.stage) is at.among

  left_is : (decided : Option Decision) → flight.decided ≡ decided → IsLeft decided failed start at.left
  left_is decided is = subst (λ found. IsLeft found failed start at.left) is at.leaves

  mask_is : (decided : Option Decision) → flight.decided ≡ decided → IsMask decided flight.phase flight.mask
  mask_is decided is = subst (λ found. IsMask found flight.phase flight.mask) is flies.mask

  -- a call that is not decided
  open_told : flight.decided ≡ None → is_decided (Some flight.phase) real ≡ false
  open_told is =
      let same = at.phase in
      let still : failed_at failed (record flight { decided = None }) ≡ failed =
      subst (λ found. failed_at failed (record flight { decided = found }) ≡ failed) is at.still in
      told_is
      ∙ all_at (IsOpenAt landing) (undecided_stages landing) at.place at.stage (undecided_open landing) (among None is)
      (λ key. set_by failed start at.left flight.phase (left_is None is) at.early (sym same ∙ key))
      (λ exchange. clear_by failed start at.left flight.phase (left_is None is) still (sym same ∙ exchange))
      (λ late. mask_is None is (subst (λ (phase : ℕ). TEST_MASK ≤ phase) same late))

  -- one that is
  decided_told : (decided : Decision) → flight.decided ≡ Some decided → is_decided (Some flight.phase) real ≡ true
  decided_told decision.WrongKey is =
      let wrong : HasOtherKey (Some decision.WrongKey) landing.key start =
      subst (λ found. HasOtherKey found landing.key start) is at.wrong in
      let clear : (compared landing).flags.zf ≡ false =
      other_compared (rsi start) landing.key (at.words.words 6) (key_small state number flight sound flies) wrong in
      told_is
      ∙ all_at (IsDecidedAt landing) (wrong_key_stages landing) at.place at.stage (wrong_key_decided landing clear)
      (among (Some decision.WrongKey) is)
  decided_told decision.PoolEmpty is =
      told_is
      ∙ all_at (IsDecidedAt landing) (pool_empty_stages landing) at.place at.stage
      (pool_empty_decided landing (mask_is (Some decision.PoolEmpty) is)) (among (Some decision.PoolEmpty) is)
  decided_told decision.Entered is =
      told_is
      ∙ all_at (IsDecidedAt landing) (entered_stages landing) at.place at.stage (entered_decided landing)
      (among (Some decision.Entered) is)

-- ---- a core

-- what is said of where a thread stood, by whether the call of its flight is decided
abbrev IsKept : Bool → Option Origin → Type 0
IsKept true origin = origin ≡ None
IsKept false origin = origin ≢ None

flight_kept : (thread : Thread) (flight : Flight) (found : Option Decision) (origin : Option Origin) (test : Bool)
    → origin ≡ origin_by thread found → (found ≡ None → test ≡ false)
    → ((decided : Decision) → found ≡ Some decided → test ≡ true) → IsKept test origin
flight_kept thread flight None origin test is before behind =
    subst (λ (one : Bool). IsKept one origin) (sym (before refl)) (λ none. cc)
flight_kept thread flight (Some decided) origin test is before behind =
    subst (λ (one : Bool). IsKept one origin) (sym (behind decided refl)) is

module _ (machine : Machine) (state : State) (is : IsMachineOf machine state) (number : ℕ) where
  abbrev core : Core
  core = core_at machine number

  kept_by : (found : Option Flight) → flight_at state number ≡ found → IsCoreOf (thread_at state number) found core
      → IsBeside state number found (is.begun number) (regs_of machine number)
      → IsKept (is_decided core.state.phase core.state.regs) core.origin
  kept_by None grounded own beside =
      subst (λ (phase : Option ℕ). IsKept (is_decided phase core.state.regs) core.origin) (sym own.phase) own.origin
  kept_by (Some flight) flying own beside =
      let flies = flight_sound state number flight is.sound flying in
      let begun = is.begun number in
      subst (λ (phase : Option ℕ). IsKept (is_decided phase core.state.regs) core.origin) (sym own.phase)
      (flight_kept (thread_at state number) flight flight.decided core.origin
      (is_decided (Some flight.phase) core.state.regs) own.origin
      (open_told state number flight begun.start begun.failed core.state.regs is.sound flies beside)
      (decided_told state number flight begun.start begun.failed core.state.regs is.sound flies beside))

  kept : IsKept (is_decided core.state.phase core.state.regs) core.origin
  kept = kept_by (flight_at state number) refl (is.cores number) (is.beside number)

-- what is kept or gone is kept where the call is not decided
kept_or_gone : (test : Bool) (before after : Option Origin) → IsKept test after → (after ≡ None) ⊎ (after ≡ before)
    → after ≡ (if test then None else before)
kept_or_gone true before after is was = is
kept_or_gone false before after is (inl gone) = absurd (is gone)
kept_or_gone false before after is (inr same) = same

-- Where no flight began in between that is not decided, a core of a machine that stands for a state keeps what its phase and
-- registers tell.
pub origin_is : (machine : Machine) (state : State) → IsMachineOf machine state → (number : ℕ) (before : Option Origin)
    → ((core_at machine number).origin ≡ None) ⊎ ((core_at machine number).origin ≡ before)
    → (core_at machine number).origin ≡ origin_kept (core_at machine number).state before
origin_is machine state is number before was =
    kept_or_gone (is_decided (core_at machine number).state.phase (core_at machine number).state.regs) before
    (core_at machine number).origin (kept machine state is number) was
