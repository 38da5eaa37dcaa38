-- A machine stands for the state after a step, where its kernels and memory do and the core that steps is that of the thread.
use Rattle.std.proofs.Common.{◌≡◌, ◌≢◌, ◌∙◌, sym, ap, subst, ℕ, ◌+◌, ◌*◌, ◌<◌, ◌==◌, Bool, true, false, length, refl, slice_set, inl, inr}
use Rattle.std.specs.Prelude.{Some, if◌then◌else◌}
use Rattle.std.proofs.lemmas.Bool.{cases_eq}
use Rattle.std.proofs.lemmas.Bool.Decides.{Decides-eqb}
use Rattle.std.proofs.lemmas.List.{length-set}
use Rattle.sb_memory.specs.declared.address.Frame.{Frame}
use Rattle.sb_insn.specs.declared.registers.Regs.{Regs}
use Rattle.sb_root.specs.declared.root_kernel.RootKernel.{RootKernel}
use Rattle.sb_root.specs.Root.{IsSet, is_listed, entry_of_index, eptp_list_frame, list_entry}
use Rattle.sb_trace.specs.declared.event.Event.{Event}
use Rattle.sb_trace.specs.State.{State, thread_at, flight_at}
use Rattle.sb_trace.specs.Changes.{OnlyThread}
use Rattle.sb_trace.specs.Sound.{IsSound}
use Rattle.sb_trace.specs.Step.{Steps}
use Rattle.sb_trace.proofs.SoundRuns.{steps_keep_sound}
use Rattle.sb_trace.proofs.Steps.{steps_change}
use Rattle.sb_trace.proofs.Threads.{thread_other, flight_other}
use Rattle.sb_landing.specs.Related.{Begun, IsBeside}
use Rattle.sb_landing.specs.Laws.{set_at}
use Rattle.sb_landing.proofs.Beside.{others_stay}
use Rattle.sb_shows.specs.Placement.{Placement}
use Rattle.sb_shows.specs.Related.{HasCores, cr3_of}
use Rattle.sb_shows.specs.Shows.{CoreWords, IsView, index_of, present_index}
use Rattle.sb_sub.specs.StandsFor.{StandsFor}
use Rattle.sb_sub.specs.Serving.{KeepsLists}
use Rattle.sb_machine.specs.declared.processor.Core.{Core}
use Rattle.sb_machine.specs.Machine.{Machine, core_at, state_at, regs_of, core_words, words_of}
use Rattle.sb_machine.specs.StandsFor.{IsCoreOf, IsMachineOf}
use Rattle.sb_machine.proofs.Cores.{own_core, other_core}
use Rattle.sb_machine.proofs.Present.{present_there}

-- the core that steps, as the thread's after the step
pub record IsNextCore (old : Machine) (root : RootKernel) (next : State) (number : ℕ) (begun : Begun) (core : Core) : Type 0 where
  pub cr3 : core.state.cr3 ≡ (state_at old number).cr3
  pub list : core.state.list ≡ (state_at old number).list
  pub eptp : core.state.eptp ≡ list_entry root number (present_index next number)
  pub beside : IsBeside next number (flight_at next number) begun core.state.regs
  pub own : IsCoreOf (thread_at next number) (flight_at next number) core

-- the words of one core are those of its thread
record HasWords (placement : Placement) (state : State) (number : ℕ) (words : CoreWords) : Type 0 where
  list : (frame : Frame) × (eptp_list_frame placement.root number ≡ Some frame) × (words.list ≡ frame.0)
  cr3 : words.cr3 ≡ cr3_of state number
  eptp : words.eptp ≡ list_entry placement.root number (present_index state number)

module _ (old new : Machine) (state next : State) (number : ℕ) (event : Event) (core : Core) (begun : Begun)
    (is : IsMachineOf old state) (there : number < length old.cores) (steps : Steps state number event next)
    (stands : StandsFor new.kernel new.root new.book new.memory next) (lists : KeepsLists old.root new.root)
    (own : IsNextCore old new.root next number begun core) (put : new.cores ≡ slice_set old.cores number core) where
  only : OnlyThread state number next
  only = (steps_change state number event next steps).thread

  sound_next : IsSound next
  sound_next = steps_keep_sound state number event next is.sound steps

  -- ---- the root kernel

  list_stays : (n : ℕ) → eptp_list_frame stands.placement.root n ≡ eptp_list_frame is.stands.placement.root n
  list_stays n =
      ap (λ root. eptp_list_frame root n) stands.rooted
      ∙ (lists.lists n ∙ sym (ap (λ root. eptp_list_frame root n) is.stands.rooted))

  set_is : (n index : ℕ) → IsView state n index → IsSet old.root n index
  set_is n index shows =
      let view = is.stands.keeps.leads.views n index shows.0 shows.1 in
      subst (λ (root : RootKernel). IsSet root n index) is.stands.rooted (ap is_listed view.is ∙ view.listed)

  entry_stays : (n index : ℕ) → IsView state n index
      → list_entry stands.placement.root n index ≡ list_entry is.stands.placement.root n index
  entry_stays n index shows =
      ap (λ root. list_entry root n index) stands.rooted
      ∙ (ap entry_of_index (lists.views n index (set_is n index shows))
      ∙ sym (ap (λ root. list_entry root n index) is.stands.rooted))

  -- ---- the words

  home_stays : (n : ℕ) → (thread_at next n).home ≡ (thread_at state n).home
  home_stays n = elim (cases_eq n number) [
    | inl same ↦ subst (λ (n : ℕ). (thread_at next n).home ≡ (thread_at state n).home) (sym same) only.home
    | inr apart ↦ ap (λ thread. thread.home) (thread_other state number next n only apart)
  ]

  cr3_stays : (n : ℕ) → cr3_of state n ≡ cr3_of next n
  cr3_stays n = ap (λ (home : ℕ). 4096 * (16 + home)) (sym (home_stays n))

  was : (n : ℕ) → n < length next.threads → n < length state.threads
  was n small = subst (λ count. n < count) only.count small

  own_words : number < length next.threads → HasWords stands.placement next number (core_words core.state)
  own_words small =
      let list = is.words.list number (was number small) in
      record {
        list = (list.0, list_stays number ∙ list.1, ap (λ (frame : Frame). frame.0) own.list ∙ list.2);
        cr3 = own.cr3 ∙ (is.words.cr3 number (was number small) ∙ cr3_stays number);
        eptp = own.eptp ∙ sym (ap (λ root. list_entry root number (present_index next number)) stands.rooted);
      }

  index_stays : (n : ℕ) → n ≢ number → present_index next n ≡ present_index state n
  index_stays n apart =
      ap (λ found. index_of found (thread_at next n).view) (flight_other state number next n only apart)
      ∙ ap (λ thread. index_of (flight_at state n) thread.view) (thread_other state number next n only apart)

  other_words : (n : ℕ) → n ≢ number → n < length next.threads → HasWords stands.placement next n (words_of old n)
  other_words n apart small =
      let list = is.words.list n (was n small) in
      record {
        list = (list.0, list_stays n ∙ list.1, list.2);
        cr3 = is.words.cr3 n (was n small) ∙ cr3_stays n;
        eptp = is.words.eptp n (was n small)
            ∙ (sym (entry_stays n (present_index state n) (is.words.present n (was n small)))
            ∙ ap (list_entry stands.placement.root n) (sym (index_stays n apart)));
      }

  each_words : (n : ℕ) → n < length next.threads → HasWords stands.placement next n (words_of new n)
  each_words n small = elim (cases_eq n number) [
    | inl same ↦ subst (λ (n : ℕ). n < length next.threads → HasWords stands.placement next n (words_of new n)) (sym same)
        (λ small. subst (λ (one : Core). HasWords stands.placement next number (core_words one.state))
        (sym (own_core old new number core there put)) (own_words small)) small
    | inr apart ↦ subst (λ (one : Core). HasWords stands.placement next n (core_words one.state))
        (sym (other_core old new number core n apart put)) (other_words n apart small)
  ]

  words_next : HasCores stands.placement next (words_of new)
  words_next = record {
    list = λ n small. (each_words n small).list;
    cr3 = λ n small. (each_words n small).cr3;
    eptp = λ n small. (each_words n small).eptp;
    present = λ n small. present_there next n sound_next small;
  }

  -- ---- registers

  regs_other : (n : ℕ) → n ≢ number → regs_of old n ≡ regs_of new n
  regs_other n apart = sym (ap (λ (one : Core). one.state.regs) (other_core old new number core n apart put))

  regs_own : core.state.regs ≡ regs_of new number
  regs_own = sym (ap (λ (one : Core). one.state.regs) (own_core old new number core there put))

  beside_other : (n : ℕ) → n ≢ number → IsBeside next n (flight_at next n) (is.begun n) (regs_of new n)
  beside_other n apart =
      subst (λ (regs : Regs). IsBeside next n (flight_at next n) (is.begun n) regs) (regs_other n apart)
      (others_stay state number event next n (is.begun n) (regs_of old n) is.sound steps apart (is.beside n))

  beside_own : IsBeside next number (flight_at next number) begun (regs_of new number)
  beside_own = subst (λ (regs : Regs). IsBeside next number (flight_at next number) begun regs) regs_own own.beside

  begun_next : ℕ → Begun
  begun_next = set_at number begun is.begun

  beside_by : (test : Bool) (n : ℕ) → (n == number) ≡ test
      → IsBeside next n (flight_at next n) (if test then begun else is.begun n) (regs_of new n)
  beside_by true n is_it =
      let same : n ≡ number = (Decides-eqb n number).0 is_it in
      subst (λ (n : ℕ). IsBeside next n (flight_at next n) begun (regs_of new n)) (sym same) beside_own
  beside_by false n is_it =
      beside_other n (λ same. let also : (n == number) ≡ true = (Decides-eqb n number).1 same in cc)

  beside_at : (n : ℕ) → IsBeside next n (flight_at next n) (begun_next n) (regs_of new n)
  unfolding begun_next
  beside_at n = beside_by (n == number) n refl

  -- ---- the cores

  core_next : (n : ℕ) → IsCoreOf (thread_at next n) (flight_at next n) (core_at new n)
  core_next n = elim (cases_eq n number) [
    | inl same ↦ subst (λ (n : ℕ). IsCoreOf (thread_at next n) (flight_at next n) (core_at new n)) (sym same)
        (subst (IsCoreOf (thread_at next number) (flight_at next number)) (sym (own_core old new number core there put)) own.own)
    | inr apart ↦ subst (IsCoreOf (thread_at next n) (flight_at next n)) (sym (other_core old new number core n apart put))
        (subst (λ found. IsCoreOf (thread_at next n) found (core_at old n)) (sym (flight_other state number next n only apart))
        (subst (λ thread. IsCoreOf thread (flight_at state n) (core_at old n)) (sym (thread_other state number next n only apart))
        (is.cores n)))
  ]

  pub afterwards : IsMachineOf new next
  afterwards = record {
    stands = stands;
    sound = sound_next;
    count = ap length put ∙ (length-set old.cores number core ∙ (is.count ∙ sym only.count));
    words = words_next;
    begun = begun_next;
    beside = beside_at;
    cores = core_next;
  }
