-- Steps that a core makes by itself are a run of the plain machine.
use Rattle.std.proofs.Common.{◌≡◌, ◌≢◌, ◌∙◌, sym, ap, subst, ℕ, zero, suc, ◌+◌, ◌^◌, ◌%◌, ◌<◌, List, [], ◌∷◌, length, refl, arith}
use Rattle.std.specs.List.{All}
use Rattle.std.proofs.Math.Nat.{mod-eq_of_lt}
use Rattle.sb_trace.specs.declared.event.Event.{Event}
use Rattle.sb_trace.specs.declared.event.Event.TheVariants.{Idle}
use Rattle.sb_trace.specs.declared.event.Line.{Line}
use Rattle.sb_trace.specs.Changes.{AreBytes}
use Rattle.std.specs.Prelude.{IsTrue}
use Rattle.sb_memory.specs.Physical.{frame_count}
use Rattle.sb_trace.specs.Marks.{StepsWithMark as PlainStepsWithMark}
use Rattle.sb_trace.specs.State.{State}
use Rattle.sb_trace.specs.Step.{Steps as PlainSteps}
use Rattle.sb_machine.specs.Counts.{CountsLine, made_by}
use Rattle.sb_machine.specs.Laws.{StepsArePlain, FollowsRunBy, OwnStepsArePlain, OwnStepsWithMarksArePlain}
use Rattle.sb_machine.specs.Machine.{Machine}
use Rattle.sb_machine.specs.Marks.{OwnStepsWithMarks, StepsWithMark}
use Rattle.sb_machine.specs.OwnSteps.{OwnSteps, is_own, lines_of_core}
use Rattle.sb_machine.specs.StandsFor.{IsMachineOf}
use Rattle.sb_machine.specs.Translations.{IsPointer, SameTranslations}
use Rattle.sb_machine.specs.Written.{Steps}
use Rattle.sb_machine.proofs.Marks.{own_unmarked, plain_mark}
use Rattle.sb_machine.proofs.Counting.{step_counts, step_cores, step_frames}
use Rattle.sb_machine.proofs.Own.{own_keeps, own_translations, pointer_stays, not_idle}
use Rattle.sb_machine.proofs.Translated.{steps_keep_translations}

-- the bytes of memory stay bytes
pub own_bytes : (old : Machine) (number : ℕ) (events : List Event) (new : Machine) → OwnSteps old number events new
    → AreBytes old.memory.bytes → AreBytes new.memory.bytes
unfolding OwnSteps
own_bytes old number [] new same are = subst (λ (machine : Machine). AreBytes machine.memory.bytes) (sym same) are
own_bytes old number (line ∷ lines) new (next, own, steps, rest) are =
    own_bytes next number lines new rest ((own_keeps old number line next own steps).bytes are)

-- a line in front of lines of which none is idle
busy_more : (number : ℕ) (line : Event) (lines : List Event) → line ≢ Idle
    → All (λ (one : Line). one.event ≢ Idle) (lines_of_core number lines)
    → All (λ (one : Line). one.event ≢ Idle) (lines_of_core number (line ∷ lines))
busy_more number line lines first rest zero none inside = first
busy_more number line lines first rest (suc k) none inside = rest k none (omega (arith, inside))

-- the count of one line and then of others, modulo 2^64
counted : (first mid last count : ℕ) → mid ≡ (first + 1) % 2 ^ 64 → last ≡ (mid + count) % 2 ^ 64
    → last ≡ (first + suc count) % 2 ^ 64
counted first mid last count one rest = omega (arith, one, rest)

-- ---- one step

-- What a step that a core makes by itself is, by a kind of step of the plain machine.
record IsOwnStep (step : State → ℕ → Event → State → Type 0) (old : Machine) (state : State) (number : ℕ) (event : Event)
    (new : Machine) : Type 0 where
  pub next : State
  pub steps : step state number event next
  pub stands : IsMachineOf new next
  pub busy : event ≢ Idle
  pub counts : CountsLine old number new
  pub cores : length new.cores ≡ length old.cores
  pub frames : frame_count new.memory ≡ frame_count old.memory
  pub translations : SameTranslations old new
  pub pointers : (core index : ℕ) → IsPointer old core index → IsPointer new core index

-- no step is an empty run
runs_none : (step : State → ℕ → Event → State → Type 0) (old : Machine) (number : ℕ) (new : Machine) (state : State)
    → IsMachineOf old state → new ≡ old → FollowsRunBy step old state number [] new
runs_none step old number new state is same =
    subst (λ (machine : Machine). FollowsRunBy step old state number [] machine) (sym same) (record {
      end = state;
      runs = refl;
      stands = is;
      busy = λ k none inside. absurd (omega (arith, inside));
      made = λ small. let same : made_by old number + 0 ≡ made_by old number = omega arith in
          sym (ap (λ (n : ℕ). n % 2 ^ 64) same ∙ mod-eq_of_lt small);
      others = λ other apart. refl;
      translations = λ core index linear access pointer. refl;
      cores = refl;
      frames = refl;
    })

-- a step before a run
runs_more : (step : State → ℕ → Event → State → Type 0) (old : Machine) (number : ℕ) (event : Event) (events : List Event)
    (mid new : Machine) (state : State) → (first : IsOwnStep step old state number event mid)
    → FollowsRunBy step mid first.next number events new → FollowsRunBy step old state number (event ∷ events) new
runs_more step old number event events mid new state first later = record {
  end = later.end;
  runs = (refl, (first.next, first.steps, later.runs));
  stands = later.stands;
  busy = busy_more number event events first.busy later.busy;
  made = λ small.
      counted (made_by old number) (made_by mid number) (made_by new number) (length events) first.counts.own
      (later.made (subst (λ (made : ℕ). made < 2 ^ 64) (sym first.counts.own) (omega arith)));
  others = λ other apart. later.others other apart ∙ first.counts.others other apart;
  translations = λ core index linear access pointer.
      later.translations core index linear access (first.pointers core index pointer)
      ∙ first.translations core index linear access pointer;
  cores = later.cores ∙ first.cores;
  frames = later.frames ∙ first.frames;
}

module _ (law : StepsArePlain) where
  own_step : (old : Machine) (number : ℕ) (event : Event) (new : Machine) (state : State) → number < length old.cores
      → IsMachineOf old state → IsTrue (is_own event) → Steps old number event new
      → IsOwnStep PlainSteps old state number event new
  own_step old number event new state there is own steps =
      let follows = law old number event new state there is steps in
      record {
        next = follows.next;
        steps = follows.steps;
        stands = follows.stands;
        busy = not_idle event own;
        counts = step_counts old number event new steps there;
        cores = step_cores old number event new steps;
        frames = step_frames old number event new steps;
        translations = own_translations event old new own (steps_keep_translations old number event new state there is steps);
        pointers = λ core index pointer.
            pointer_stays old number event new own steps state follows.next is follows.stands core index pointer;
      }

  -- the same with its mark
  marked_step : (old : Machine) (number : ℕ) (event : Event) (new : Machine) (state : State) → number < length old.cores
      → IsMachineOf old state → IsTrue (is_own event) → StepsWithMark old number event new
      → IsOwnStep PlainStepsWithMark old state number event new
  marked_step old number event new state there is own (unmarked, steps, mark) =
      let raw = own_step old number unmarked new state there is (own_unmarked old number unmarked event new mark own) steps in
      let follows = law old number unmarked new state there is steps in
      record {
        next = follows.next;
        steps = (unmarked, follows.steps, plain_mark old state is number there unmarked event new steps follows mark);
        stands = follows.stands;
        busy = not_idle event own;
        counts = raw.counts;
        cores = raw.cores;
        frames = raw.frames;
        translations = raw.translations;
        pointers = raw.pointers;
      }

  -- ---- runs

  pub own_run : OwnStepsArePlain
  unfolding OwnSteps
  own_run old number [] new state there is same = runs_none PlainSteps old number new state is same
  own_run old number (event ∷ events) new state there is (mid, own, steps, rest) =
      let first = own_step old number event mid state there is own steps in
      let there' : number < length mid.cores = subst (λ (count : ℕ). number < count) (sym first.cores) there in
      runs_more PlainSteps old number event events mid new state first
      (own_run mid number events new first.next there' first.stands rest)

  pub own_run_with_marks : OwnStepsWithMarksArePlain
  unfolding OwnStepsWithMarks
  own_run_with_marks old number [] new state there is same = runs_none PlainStepsWithMark old number new state is same
  own_run_with_marks old number (event ∷ events) new state there is (mid, own, steps, rest) =
      let first = marked_step old number event mid state there is own steps in
      let there' : number < length mid.cores = subst (λ (count : ℕ). number < count) (sym first.cores) there in
      runs_more PlainStepsWithMark old number event events mid new state first
      (own_run_with_marks mid number events new first.next there' first.stands rest)
