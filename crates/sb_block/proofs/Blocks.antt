-- So many steps over copies are a block, and a block is a run of each memory that holds what it read.
use Rattle.std.proofs.Common.{◌≡◌, ap, sym, subst, ◌∙◌, ℕ, ◌*◌, ◌==◌, List, [], ◌∷◌, length, refl, arith}
use Rattle.std.proofs.lemmas.Bool.Decides.{nat_tests}
use Rattle.sb_memory.specs.Physical.{Physical, IsPhysical, HasAllFrames, frame_count}
use Rattle.sb_memory.specs.declared.page.TheConstants.{PAGE_SIZE}
use Rattle.sb_machine.specs.declared.processor.CoreState.{CoreState}
use Rattle.sb_machine.specs.declared.place.Place.TheVariants.{Word}
use Rattle.sb_machine.specs.declared.place.Seen.{Seen}
use Rattle.sb_machine.specs.Machine.{no_account}
use Rattle.sb_machine.specs.Seens.{Holds, HoldsWords as HoldsSeens, ChangesWords, has_word_of, seen_core, seen_word, seen_words}
use Rattle.sb_agree.specs.Noted.{Noted, nothing, noted_rule, has_word, word_of}
use Rattle.sb_agree.specs.Held.{Agrees, HoldsWords}
use Rattle.sb_agree.proofs.Held.{starts, writes_held, with_all_frames, count_of_all, physical_with_all, has_all_frames}
use Rattle.sb_block.specs.declared.fact.MadeStep.{MadeStep}
use Rattle.sb_block.specs.Run.{at, CoreRuns}
use Rattle.sb_block.specs.Block.{IsBlock, IsWhole}
use Rattle.sb_block.proofs.Steps.{RunAlike, runs_alike}
use Rattle.sb_block.proofs.Unnoted.{alone, runs_unnoted}

-- ---- words that are seen

module _ (memory other : Physical) where
  -- another memory in which what was seen stands holds these words
  pub words_held : (number : ℕ) (state : CoreState) (words : List ℕ) → Holds number state other (seen_words memory words)
      → HoldsWords memory words other
  words_held number state [] held = tt
  words_held number state (word ∷ words) held = (held.0, words_held number state words held.1)

  -- words that are held stand there
  seens_held : (words : List ℕ) → HoldsWords memory words other → HoldsSeens other (seen_words memory words)
  seens_held [] held = tt
  seens_held (word ∷ words) held = (held.0, seens_held words held.1)

  abbrev seen_with : ℕ → ℕ → Seen
  seen_with word value = record { place = Word (8 * word); value = value }

  -- words that are held are seen with the same values
  pub seens_same : (words : List ℕ) → HoldsWords memory words other → seen_words memory words ≡ seen_words other words
  seens_same [] held = refl
  seens_same (word ∷ words) held =
      let first : seen_word memory word ≡ seen_word other word = ap (seen_with word) (sym held.0) in
      ap (λ (seen : Seen). seen ∷ seen_words memory words) first
      ∙ ap (λ (seens : List Seen). seen_word other word ∷ seens) (seens_same words held.1)

-- what a memory shows stands in it
pub holds_own : (number : ℕ) (state : CoreState) (memory : Physical) (words : List ℕ)
    → Holds number state memory (seen_words memory words)
holds_own number state memory [] = tt
holds_own number state memory (word ∷ words) = (refl, holds_own number state memory words)

-- the places of two words are one as their numbers are
place_test : (first word : ℕ) → (8 * first == 8 * word) ≡ (first == word)
place_test first word = grind (arith, nat_tests)

-- a word is among those that are seen as its number is among the words
word_among : (memory : Physical) (words : List ℕ) (word : ℕ) → has_word_of word (seen_words memory words) ≡ has_word word words
word_among memory [] word = refl
word_among memory (first ∷ words) word = rw (place_test first word, word_among memory words word) refl

-- memories that agree differ from the first one in the words that were written alone
changes : (all : List ℕ) (start : Physical) (writes : List ℕ) (memory changed : Physical) → Agrees all start writes memory changed
    → length start.bytes ≡ PAGE_SIZE * frame_count start → ChangesWords (seen_words memory writes) start changed
changes all start writes memory changed agree size =
    let other_size = agree.other_size in
    let frames : frame_count changed ≡ frame_count start = ap length agree.present in
    record {
      present = agree.present;
      size = omega arith;
      written = seens_held memory changed writes (writes_held all start writes memory changed agree);
      beside = λ place none. agree.stays place (sym (word_among memory writes (word_of place)) ∙ none);
    }

-- ---- a block

-- a run over a memory is one over each memory that has all frames and holds what was read
pub runs_over : (number : ℕ) (before : CoreState) (steps : List MadeStep) (after : CoreState) (memory ended : Physical)
    (noted : Noted) (other : Physical) → frame_count other ≡ frame_count memory → IsPhysical memory → IsPhysical other
    → HasAllFrames other → Holds number before other (seen_words memory noted.reads)
    → CoreRuns noted_rule (at before memory nothing) steps (at after ended noted)
    → RunAlike noted.reads other (at before memory nothing) steps (at after ended noted) other
runs_over number before steps after memory ended noted other frames sound also all held runs =
    runs_alike noted.reads other steps (at before memory nothing) (at after ended noted) other
    (starts noted.reads memory other frames sound also all (words_held memory other number before noted.reads held)) runs
    (λ word e. e)

-- so many steps over copies are a block
pub copies_give : (number : ℕ) (before : CoreState) (steps : List MadeStep) (after : CoreState) (memory ended : Physical)
    (noted : Noted) → IsPhysical memory → CoreRuns noted_rule (at before memory nothing) steps (at after ended noted)
    → IsBlock (frame_count memory) number before steps after (seen_core number before ∷ seen_words memory noted.reads)
    (seen_words ended noted.writes)
copies_give number before steps after memory ended noted sound runs =
    let whole : Physical = with_all_frames memory in
    let run =
    runs_over number before steps after memory ended noted whole (count_of_all memory) sound (physical_with_all memory sound)
    (has_all_frames memory) (holds_own number before memory noted.reads) runs in
    record {
      memory = whole;
      whole = record { count = count_of_all memory; sound = physical_with_all memory sound; all = has_all_frames memory };
      ended = run.ended;
      noted = noted;
      runs = run.runs;
      saw = refl;
      wrote = seens_same ended run.ended noted.writes
          (writes_held noted.reads whole noted.writes ended run.ended run.agrees);
    }

-- a block over another memory, with no account
pub record RunsOver (before : CoreState) (steps : List MadeStep) (after : CoreState) (writes : List Seen) (other : Physical)
    : Type 0 where
  pub last : Physical
  pub runs : CoreRuns no_account (alone before other) steps (alone after last)
  pub changes : ChangesWords writes other last

-- a block is a run of each memory that holds what it read
pub block_runs : (frames number : ℕ) (before : CoreState) (steps : List MadeStep) (after : CoreState) (reads writes : List Seen)
    → IsBlock frames number before steps after reads writes → (other : Physical) → IsWhole frames other
    → Holds number before other reads → RunsOver before steps after writes other
block_runs frames number before steps after reads writes block other whole held =
    let noted = block.noted in
    let standing = (subst (λ (seens : List Seen). Holds number before other seens) block.saw held).1 in
    let run =
    runs_over number before steps after block.memory block.ended noted other (whole.count ∙ sym block.whole.count)
    block.whole.sound whole.sound whole.all standing block.runs in
    record {
      last = run.ended;
      runs = runs_unnoted steps (at before other nothing) (at after run.ended noted) run.runs;
      changes = subst (λ (seens : List Seen). ChangesWords seens other run.ended) (sym block.wrote)
          (changes noted.reads other noted.writes block.ended run.ended run.agrees whole.sound.size.bytes);
    }
