-- What steps over copies say of a block.
use Rattle.std.proofs.Common.{◌≡◌, refl, ◌+◌, ◌*◌, ◌≤◌, ap, sym, subst, ◌∙◌, inl, inr, ℕ, ◌<◌, List, [], ◌∷◌, length, arith}
use Rattle.std.proofs.lemmas.List.Elements.{All-cons, All-map}
use Rattle.std.specs.Prelude.{Result, Ok, Err, IfErr}
use Rattle.sb_memory.specs.Physical.{Physical, frame_count}
use Rattle.sb_memory.specs.declared.page.TheConstants.{PAGE_SIZE}
use Rattle.sb_agree.specs.Noted.{Noted, nothing, noted_rule}
use Rattle.sb_partial.specs.Copies.{AllInside, Copied}
use Rattle.sb_machine.specs.declared.processor.CoreState.{CoreState}
use Rattle.sb_machine.specs.declared.place.Place.{Place}
use Rattle.sb_machine.specs.declared.place.Place.TheVariants.{Word, Core}
use Rattle.sb_machine.specs.declared.place.Seen.{Seen}
use Rattle.sb_machine.specs.Seens.{seen_core, seen_word, seen_words}
use Rattle.sb_block.specs.declared.one.StepStop.{StepStop}
use Rattle.sb_block.specs.declared.one.StepStop.TheVariants as why
use Rattle.sb_block.specs.declared.block.Stop.{Stop}
use Rattle.sb_block.specs.Answers.{outcome_of, EndsRun, EndsAt, IsRunOf, told, IsGathered, Refuses}
use Rattle.sb_block.specs.Places.{IsWordIn, IsPlaceIn, AreReadsIn, AreWritesIn}
use Rattle.sb_block.specs.declared.fact.MadeStep.{MadeStep}
use Rattle.sb_block.specs.Run.{at, CoreRuns}
use Rattle.sb_block.specs.Step.{Rule, At, CoreSteps}

-- ---- no step is made

-- none: the end is the start
steps_none : {Account : Type 0} (rule : Rule Account) (before after : At Account) (steps : List MadeStep) → length steps ≡ 0
    → CoreRuns rule before steps after → after ≡ before
unfolding CoreRuns
steps_none rule before after [] none runs = runs
steps_none rule before after (step ∷ steps) none runs = absurd (omega arith)

-- why the first step is not made, as an answer
refuses_by : (start : CoreState) (copies : Physical) (stopped : StepStop)
    → CoreSteps noted_rule (at start copies nothing) (outcome_of stopped) → Refuses start copies (told stopped)
refuses_by start copies (why.NeedFrame frame) step = step
refuses_by start copies why.Kernel step = step

-- no step: it is the first one that is not made
pub refused_by : {limit : ℕ} (start : CoreState) (copies : Physical) (steps : List MadeStep) (last : At Noted)
    (made : Result (Unit {0}) StepStop) (answer : Stop) → CoreRuns noted_rule (at start copies nothing) steps last
    → EndsRun limit (length steps) last made → IfErr made (λ stopped. answer ≡ told stopped) → 1 ≤ limit
    → length steps ≡ 0 → Refuses start copies answer
refused_by start copies steps last (Ok done) answer runs ends told_by some none = absurd (omega (arith, ends, none, some))
refused_by start copies steps last (Err stopped) answer runs ends told_by some none =
    let first = steps_none noted_rule (at start copies nothing) last steps none runs in
    rw told_by (refuses_by start copies stopped
    (subst (λ (one : At Noted). CoreSteps noted_rule one (outcome_of stopped)) first ends.1))

-- ---- steps are made

-- why no further step is made
ends_by : (limit count : ℕ) (last : At Noted) (made : Result (Unit {0}) StepStop) → EndsRun limit count last made
    → EndsAt limit count last
ends_by limit count last (Ok done) ends = inl ends
ends_by limit count last (Err stopped) ends = inr (ends.0, (stopped, ends.1))

-- what was gathered after the steps
pub run_by : {number limit core : ℕ} {start after before last : CoreState} {copies : Physical} {steps all : List MadeStep}
    {part : Copied} {reads writes : List Seen} (made : Result (Unit {0}) StepStop)
    → CoreRuns noted_rule (at start copies nothing) steps (at after part.memory part.began)
    → EndsRun limit (length steps) (at after part.memory part.began) made → 0 < length steps
    → IsGathered number start after steps part core before last all reads writes → part.given ≡ copies
    → IsRunOf number start limit copies core before last all reads writes
run_by {number} {limit} {after} {steps} {part} made runs ends some got given =
    rw (got.all, got.to, ← given) (record {
      ended = part.memory;
      noted = part.began;
      runs = rw given runs;
      ends = ends_by limit (length steps) (at after part.memory part.began) made ends;
      some = some;
      of = got.of;
      from = got.from;
      saw = got.saw;
      wrote = got.wrote;
    })

-- ---- where its places lie

-- a word that lies inside, by its number
word_in : (frames word : ℕ) → 8 * word + 8 ≤ PAGE_SIZE * frames → IsWordIn frames (Word (8 * word))
word_in frames word inside = (omega arith, inside)

-- words that lie inside, with the values that a memory has there
words_in : (copies memory : Physical) (words : List ℕ) → AllInside copies words
    → AreWritesIn (frame_count copies) (seen_words memory words)
words_in copies memory words inside =
    All-map (λ (seen : Seen). IsWordIn (frame_count copies) seen.place) (seen_word memory) words
    (λ index other below. word_in (frame_count copies) _ (inside index other below))

-- a word is a place
place_in : (frames number : ℕ) (place : Place) → IsWordIn frames place → IsPlaceIn frames number place
place_in frames number (Word place) inside = inside
place_in frames number (Core other) inside = absurd inside

-- and so are all of them
places_in : (frames number : ℕ) (seens : List Seen) → AreWritesIn frames seens → AreReadsIn frames number seens
places_in frames number seens inside = λ index other below. place_in frames number _ (inside index other below)

-- what was read of the copies, behind how many lines the core had made
pub reads_by : {number core : ℕ} {start after before last : CoreState} {copies : Physical} {steps all : List MadeStep}
    {part : Copied} {reads writes : List Seen} → IsGathered number start after steps part core before last all reads writes
    → part.given ≡ copies → AreReadsIn (frame_count copies) number reads
reads_by {number} {start} {part} got given =
    rw (got.saw, ← given)
    (All-cons (λ (seen : Seen). IsPlaceIn (frame_count part.given) number seen.place) (seen_core number start)
    (seen_words part.given part.began.reads) refl
    (places_in (frame_count part.given) number (seen_words part.given part.began.reads)
    (words_in part.given part.given part.began.reads got.reads_inside)))

-- what was written
pub writes_by : {number core : ℕ} {start after before last : CoreState} {copies : Physical} {steps all : List MadeStep}
    {part : Copied} {reads writes : List Seen} → IsGathered number start after steps part core before last all reads writes
    → part.given ≡ copies → AreWritesIn (frame_count copies) writes
writes_by {part} got given =
    rw (got.wrote, ← given) (words_in part.given part.memory part.began.writes got.writes_inside)
