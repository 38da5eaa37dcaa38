-- That a core has made one line more changes nothing else.
use Rattle.std.proofs.Common.{◌≡◌, ◌∙◌, sym, subst, ℕ, refl, inl, inr}
use Rattle.std.proofs.Math.Path.{fun_ext}
use Rattle.std.proofs.lemmas.Bool.{cases_eq}
use Rattle.std.specs.Prelude.{Option}
use Rattle.std.proofs.lemmas.List.{length-set}
use Rattle.sb_insn.specs.declared.registers.Regs.{Regs}
use Rattle.sb_state.specs.declared.state.Flight.{Flight}
use Rattle.sb_state.specs.declared.state.Thread.{Thread}
use Rattle.sb_state.proofs.Threads.{set_same}
use Rattle.sb_trace.specs.State.{State, thread_at, flight_at}
use Rattle.sb_landing.specs.Related.{AreBeside}
use Rattle.sb_shows.specs.Related.{HasCores}
use Rattle.sb_shows.specs.Shows.{CoreWords}
use Rattle.sb_machine.specs.declared.processor.Core.{Core}
use Rattle.sb_machine.specs.Machine.{Machine, no_core, core_at, core_words, words_of, regs_of}
use Rattle.sb_machine.specs.Outcomes.{count_made, with_line}
use Rattle.sb_machine.specs.StandsFor.{IsCoreOf, IsMachineOf}
use Rattle.sb_machine.proofs.Cores.{other_core}

-- all that a core has but its count of lines
record IsSame (old new : Core) : Type 0 where
  words : core_words new.state ≡ core_words old.state
  regs : new.state.regs ≡ old.state.regs
  own : (thread : Thread) (flight : Option Flight) → IsCoreOf thread flight old → IsCoreOf thread flight new

none_changed : (core : Core) → IsSame core core
none_changed core = record { words = refl; regs = refl; own = λ thread flight is. is }

made_changed : (core : Core) → IsSame core (count_made core)
made_changed core = record {
  words = refl;
  regs = refl;
  own = λ thread flight is. record { view = is.view; phase = is.phase; end = is.end; origin = is.origin };
}

module _ (machine : Machine) (state : State) (number : ℕ) (is : IsMachineOf machine state) where
  abbrev new : Machine
  new = with_line machine number

  own_same : IsSame (core_at machine number) (core_at new number)
  unfolding core_at
  own_same =
      set_same (IsSame (core_at machine number)) machine.cores number (count_made (core_at machine number)) no_core
      (made_changed (core_at machine number)) (none_changed (core_at machine number))

  same : (n : ℕ) → IsSame (core_at machine n) (core_at new n)
  same n = elim (cases_eq n number) [
    | inl here ↦ subst (λ (n : ℕ). IsSame (core_at machine n) (core_at new n)) (sym here) own_same
    | inr apart ↦ subst (λ (core : Core). IsSame (core_at machine n) core)
        (sym (other_core machine new number (count_made (core_at machine number)) n apart refl))
        (none_changed (core_at machine n))
  ]

  words : words_of new ≡ words_of machine
  words = fun_ext (λ n. (same n).words)

  regs : regs_of new ≡ regs_of machine
  regs = fun_ext (λ n. (same n).regs)

  -- the machine stands for the state as before
  pub counted : IsMachineOf new state
  counted = record {
    stands = is.stands;
    sound = is.sound;
    count = length-set machine.cores number (count_made (core_at machine number)) ∙ is.count;
    words = subst (λ (words : ℕ → CoreWords). HasCores is.stands.placement state words) (sym words) is.words;
    begun = is.begun;
    beside = subst (λ (regs : ℕ → Regs). AreBeside state is.begun regs) (sym regs) is.beside;
    cores = λ n. (same n).own (thread_at state n) (flight_at state n) (is.cores n);
  }
