-- Where no thread's home and bindings change, the seats of the threads stay.
use Rattle.std.proofs.Common.{◌≡◌, ◌∙◌, sym, ap, ℕ, List, length, get_or}
use Rattle.std.specs.Prelude.{map}
use Rattle.std.proofs.lemmas.List.{ext_get_or, length-map}
use Rattle.std.proofs.lemmas.Option.{unwrap_or-slice_get}
use Rattle.sb_state.specs.declared.state.Binding.{Binding}
use Rattle.sb_trace.specs.State.{State, thread_at, no_thread}
use Rattle.sb_sub.specs.Kernel.{seat_of}
use Rattle.sb_sub.proofs.Moves.{seat_at}

seat_read : (state : State) (number : ℕ)
    → get_or (map seat_of state.threads) number (seat_of no_thread) ≡ seat_of (thread_at state number)
seat_read state number =
    sym (unwrap_or-slice_get (map seat_of state.threads) number (seat_of no_thread)) ∙ sym (seat_at state number)

pub seats_stay : (old new : State) → length new.threads ≡ length old.threads
    → ((number : ℕ) → (thread_at new number).home ≡ (thread_at old number).home)
    → ((number : ℕ) → (thread_at new number).bindings ≡ (thread_at old number).bindings)
    → map seat_of new.threads ≡ map seat_of old.threads
seats_stay old new count homes bindings =
    ext_get_or (seat_of no_thread) (map seat_of new.threads) (map seat_of old.threads)
    (length-map new.threads seat_of ∙ (count ∙ sym (length-map old.threads seat_of)))
    (λ number small.
    seat_read new number
    ∙ (ap (λ (home : ℕ). record { home = home; bindings = (thread_at new number).bindings }) (homes number)
    ∙ (ap (λ (list : List Binding). record { home = (thread_at old number).home; bindings = list }) (bindings number)
    ∙ sym (seat_read old number))))
