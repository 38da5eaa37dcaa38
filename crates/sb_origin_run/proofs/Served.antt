-- A run of several threads with a kernel beside the original code.
use Rattle.std.proofs.Common.{◌≡◌, ℕ, Bool, true, false, List, [], ◌∷◌, refl, sym, ap, ◌∙◌, subst}
use Rattle.std.specs.List.{AllByRecursion}
use Rattle.std.proofs.lemmas.Bool.{cond-true, cond-false}
use Rattle.sb_bus.specs.declared.stop.BusStop.{BusStop}
use Rattle.sb_exec.specs.declared.action.Effect.TheVariants.{Next, Syscall, Switch, Undefined}
use Rattle.sb_original.specs.Words.{Words}
use Rattle.sb_original.specs.Beside.{AreBeside}
use Rattle.sb_origin_run.specs.Machine.{Event, Ran, Stopped, NotFetched, Made}
use Rattle.sb_origin_run.specs.Position.{Position, is_extra, original_rip, told_event, Stands}
use Rattle.sb_origin_run.specs.Related.{WhereNext, IsStraight}
use Rattle.sb_origin_run.specs.Many.{Threads, thread_of, with_thread, HoldsOf, beside_words, ThreadsRelated}
use Rattle.sb_origin_run.specs.Served.{State, System, made_of, after_event, next_state, ServedLine, line_of, served_lines, served_end, original_served, served_entries, StatesRelated, ServesAlike, ServedStraight, ServedAlike}
use Rattle.sb_origin_run.proofs.Many.{ThreadStep, thread_alike}

-- ---- one step

abbrev StateStep : {V M A N B : Type 0} → (ℕ → Type 0) → System V M A → System V N B → (V → (ℕ → Words) → M → N → Type 0)
    → (BusStop → BusStop)
    → (V → ℕ → ℕ → Position) → ℕ → State V M A → State V N B → Bool → Type 0
StateStep IsThread system original HoldsAll naming places number left right true =
    StatesRelated IsThread system.buses HoldsAll places (next_state system number left) right
StateStep IsThread system original HoldsAll naming places number left right false =
    ((made_of original number right).event ≡ told_event naming (made_of system number left).event)
    × ((right.threads.regs number).rip
    ≡ original_rip (places left.mode number (left.threads.regs number).rip) (left.threads.regs number).rip)
    × StatesRelated IsThread system.buses HoldsAll places (next_state system number left) (next_state original number right)

-- the states after a step that is not extra, by its event
own_after : {V M A N B : Type 0} (IsThread : ℕ → Type 0) (system : System V M A) (original : System V N B)
    (HoldsAll : V → (ℕ → Words) → M → N
    → Type 0) (naming : BusStop → BusStop) (places : V → ℕ → ℕ
    → Position) (number : ℕ) (left : State V M A) (threads : Threads N B) (made : Made M A) (other : Made N B) (event : Event)
    → ServesAlike IsThread system original HoldsAll naming places → IsThread number
    → ThreadsRelated IsThread (system.buses left.mode) (HoldsAll left.mode) (places left.mode) left.threads threads
    → (made_of system number left).event ≡ event
    → is_extra (places left.mode number (left.threads.regs number).rip) ≡ false
    → WhereNext event
    (ThreadsRelated IsThread (system.buses left.mode) (HoldsAll left.mode) (places left.mode) (with_thread number made.thread
    left.threads)
    (with_thread number other.thread threads))
    → StatesRelated IsThread system.buses HoldsAll places (after_event system number event left made)
    (after_event original number (told_event naming event) (record { mode = left.mode; threads = threads }) other)
own_after IsThread system original HoldsAll naming places number left threads made other
    (Ran Next) serves is_thread related is own next =
    record { mode = refl; threads = next }
own_after IsThread system original HoldsAll naming places number left threads made other
    (Ran Syscall) serves is_thread related is own next =
    serves number (Ran Syscall) left (record { mode = left.mode; threads = threads }) is_thread
    (record { mode = refl; threads = related })
    (λ e. cc) is own
own_after IsThread system original HoldsAll naming places number left threads made other
    (Ran Switch) serves is_thread related is own next =
    serves number (Ran Switch) left (record { mode = left.mode; threads = threads }) is_thread
    (record { mode = refl; threads = related })
    (λ e. cc) is own
own_after IsThread system original HoldsAll naming places number left threads made other
    (Ran Undefined) serves is_thread related is own next =
    serves number (Ran Undefined) left (record { mode = left.mode; threads = threads }) is_thread
    (record { mode = refl; threads = related }) (λ e. cc) is own
own_after IsThread system original HoldsAll naming places number left threads made other
    (Stopped stop) serves is_thread related is own next =
    serves number (Stopped stop) left (record { mode = left.mode; threads = threads }) is_thread
    (record { mode = refl; threads = related })
    (λ e. cc) is own
own_after IsThread system original HoldsAll naming places number left threads made other NotFetched serves is_thread related is
    own next =
    serves number NotFetched left (record { mode = left.mode; threads = threads }) is_thread
    (record { mode = refl; threads = related })
    (λ e. cc) is own

same_mode : {V M A N B : Type 0} (IsThread : ℕ → Type 0) (system : System V M A) (original : System V N B)
    (HoldsAll : V → (ℕ → Words) → M → N
    → Type 0) (naming : BusStop → BusStop) (places : V → ℕ → ℕ
    → Position) (number : ℕ) (left : State V M A) (threads : Threads N B) (extra : Bool)
    → ServesAlike IsThread system original HoldsAll naming places → IsThread number
    → ThreadsRelated IsThread (system.buses left.mode) (HoldsAll left.mode) (places left.mode) left.threads threads
    → is_extra (places left.mode number (left.threads.regs number).rip) ≡ extra
    → ThreadStep IsThread (system.buses left.mode) (HoldsAll left.mode) naming (places left.mode) number left.threads threads
    (made_of system number left) (made_of original number (record { mode = left.mode; threads = threads })) extra
    → StateStep IsThread system original HoldsAll naming places number left (record { mode = left.mode; threads = threads }) extra
same_mode {V} {M} {A} {N} {B} IsThread system original HoldsAll naming places number left threads true serves is_thread related
    is (event, next) =
    let right : State V N B = record { mode = left.mode; threads = threads } in
    let now : StatesRelated IsThread system.buses HoldsAll places
    (after_event system number (Ran Next) left (made_of system number left)) right =
    record { mode = refl; threads = next } in
    subst (λ (e : Event). StatesRelated IsThread system.buses HoldsAll places
    (after_event system number e left (made_of system number left)) right) (sym event) now
same_mode {V} {M} {A} {N} {B} IsThread system original HoldsAll naming places number left threads false serves is_thread
    related own (
      event,
      rip,
      next,
    ) =
    let right : State V N B = record { mode = left.mode; threads = threads } in
    let made = made_of system number left in
    let now =
    own_after IsThread system original HoldsAll naming places number left threads made
    (made_of original number right) made.event serves is_thread related refl own next in (
      event,
      rip,
      subst (λ (e : Event). StatesRelated IsThread system.buses HoldsAll places (next_state system number left)
          (after_event original number e right (made_of original number right))) (sym event) now,
    )

-- what is asked of the two systems in each mode
abbrev pub ModesStand : {V M A N B : Type 0} → (ℕ → Type 0) → System V M A → System V N B → (V → (ℕ → Words) → M → N → Type 0)
    → (ℕ → ℕ → ℕ → Type 0) → (BusStop → BusStop) → (V → ℕ → ℕ → Position) → Type 0
ModesStand {V} IsThread system original HoldsAll IsOutside naming places =
    ((mode : V) (number : ℕ) → IsThread number
    → AreBeside (system.buses mode number) (beside_words (original.buses mode number)) (HoldsOf (HoldsAll mode) number)
    (IsOutside number) naming)
    × ((mode : V) (number : ℕ) → IsThread number → (address : ℕ)
    → Stands (system.buses mode number) (HoldsOf (HoldsAll mode) number) (system.codes mode number) (original.codes mode number)
    (places mode number) address (places mode number address))

state_alike : {V M A N B : Type 0} (IsThread : ℕ → Type 0) (system : System V M A) (original : System V N B)
    (HoldsAll : V → (ℕ → Words) → M → N
    → Type 0) (IsOutside : ℕ → ℕ → ℕ → Type 0) (naming : BusStop → BusStop) (places : V → ℕ → ℕ → Position)
    → ModesStand IsThread system original HoldsAll IsOutside naming places
    → ServesAlike IsThread system original HoldsAll naming places → (number : ℕ) → IsThread number
    → (left : State V M A) (right : State V N B)
    → StatesRelated IsThread system.buses HoldsAll places left right
    → IsStraight (system.buses left.mode number) (HoldsOf (HoldsAll left.mode) number) (IsOutside number)
    (system.codes left.mode number)
    (original.codes left.mode number) (places left.mode number) (thread_of number left.threads)
    → StateStep IsThread system original HoldsAll naming places number left right
    (is_extra (places left.mode number (left.threads.regs number).rip))
state_alike {V} {M} {A} {N} {B} IsThread system original HoldsAll IsOutside naming places (
  beside,
  stands,
) serves number is_thread left right related straight =
    let mode = left.mode in
    let extra = is_extra (places mode number (left.threads.regs number).rip) in
    subst (λ (m : V). StateStep IsThread system original HoldsAll naming places number left
    (record { mode = m; threads = right.threads }) extra) (sym related.mode)
    (same_mode IsThread system original HoldsAll naming places number left right.threads extra serves is_thread related.threads
    refl
    (thread_alike IsThread (system.buses mode) (original.buses mode) (HoldsAll mode) IsOutside naming (system.codes mode)
    (original.codes mode)
    (places mode) (beside mode) (stands mode) number is_thread left.threads right.threads related.threads straight))

-- ---- the run

extra_lines : {V : Type 0} (places : V → ℕ → ℕ → Position) (naming : BusStop
    → BusStop) (one : ServedLine V) (lines : List (ServedLine V))
    → is_extra (places one.mode one.thread one.line.rip) ≡ true
    → original_served places naming (one ∷ lines) ≡ original_served places naming lines
extra_lines places naming one lines e =
    cond-true (is_extra (places one.mode one.thread one.line.rip)) (original_served places naming lines) _ e

abbrev line : {V : Type 0} → V → ℕ → ℕ → Event → ServedLine V
line mode number rip event = record { mode = mode; thread = number; line = record { rip = rip; event = event } }

own_lines : {V : Type 0} (places : V → ℕ → ℕ → Position) (naming : BusStop
    → BusStop) (one : ServedLine V) (lines : List (ServedLine V))
    → is_extra (places one.mode one.thread one.line.rip) ≡ false
    → original_served places naming (one ∷ lines)
    ≡ line one.mode one.thread (original_rip (places one.mode one.thread one.line.rip) one.line.rip)
    (told_event naming one.line.event) ∷ original_served places naming lines
own_lines places naming one lines e =
    cond-false (is_extra (places one.mode one.thread one.line.rip)) (original_served places naming lines) _ e

-- the law of the rest of the schedule
abbrev Rest : {V M A N B : Type 0} → (ℕ → Type 0) → System V M A → System V N B → (V → (ℕ → Words) → M → N → Type 0)
    → (BusStop → BusStop)
    → (V → ℕ → ℕ → Position) → List ℕ → State V M A → Type 0
Rest {V} {M} {A} {N} {B} IsThread system original HoldsAll naming places schedule left =
    (right : State V N B) → StatesRelated IsThread system.buses HoldsAll places left right
    → ServedAlike IsThread system original HoldsAll naming places schedule left
    (served_entries (original_served places naming (served_lines system schedule left))) right

by_extra : {V M A N B : Type 0} (IsThread : ℕ → Type 0) (system : System V M A) (original : System V N B)
    (HoldsAll : V → (ℕ → Words) → M → N
    → Type 0) (naming : BusStop → BusStop) (places : V → ℕ → ℕ
    → Position) (number : ℕ) (schedule : List ℕ) (left : State V M A) (right : State V N B) (extra : Bool)
    → is_extra (places left.mode number (left.threads.regs number).rip) ≡ extra → right.mode ≡ left.mode
    → StateStep IsThread system original HoldsAll naming places number left right extra
    → Rest {V = V} {M = M} {A = A} {N = N} {B = B} IsThread system original HoldsAll naming places schedule
    (next_state system number left)
    → ServedAlike IsThread system original HoldsAll naming places (number ∷ schedule) left
    (served_entries (original_served places naming (served_lines system (number ∷ schedule) left))) right
by_extra {V} {M} {A} {N} {B} IsThread system original HoldsAll naming places number schedule left right true extra mode alike
    rest =
    let lines =
    extra_lines places naming (line_of system number left)
    (served_lines system schedule (next_state system number left)) extra in
    let later = rest right alike in record {
      lines = subst (λ (l : List (ServedLine V)). served_lines original (served_entries l) right ≡ l) (sym lines) later.lines;
      end = subst
          (λ (l : List (ServedLine V)). StatesRelated IsThread system.buses HoldsAll places
          (served_end system schedule (next_state system number left)) (served_end original (served_entries l) right))
          (sym lines) later.end;
    }
by_extra {V} {M} {A} {N} {B} IsThread system original HoldsAll naming places number schedule left right false own mode (
  event,
  rip,
  next,
) rest =
    let made = made_of system number left in
    let others = original_served places naming (served_lines system schedule (next_state system number left)) in
    let one =
    line left.mode number
    (original_rip (places left.mode number (left.threads.regs number).rip) (left.threads.regs number).rip)
    (told_event naming made.event) in
    let lines =
    own_lines places naming (line_of system number left)
    (served_lines system schedule (next_state system number left)) own in
    let later = rest (next_state original number right) next in
    let first : line_of original number right ≡ one =
    ap (λ (m : V). line m number (right.threads.regs number).rip (made_of original number right).event) mode
    ∙ ap (λ (n : ℕ). line left.mode number n (made_of original number right).event) rip
    ∙ ap (λ (e : Event). line left.mode number
    (original_rip (places left.mode number (left.threads.regs number).rip) (left.threads.regs number).rip) e) event in
    let whole : served_lines original (served_entries (one ∷ others)) right ≡ one ∷ others =
    ap (λ (l : ServedLine V). l ∷ served_lines original (served_entries others) (next_state original number right)) first
    ∙ ap (λ (l : List (ServedLine V)). one ∷ l) later.lines in record {
      lines = subst (λ (l : List (ServedLine V)). served_lines original (served_entries l) right ≡ l) (sym lines) whole;
      end = subst
          (λ (l : List (ServedLine V)). StatesRelated IsThread system.buses HoldsAll places
          (served_end system schedule (next_state system number left)) (served_end original (served_entries l) right))
          (sym lines) later.end;
    }

pub served_alike : {V M A N B : Type 0} (IsThread : ℕ → Type 0) (system : System V M A) (original : System V N B)
    (HoldsAll : V → (ℕ → Words) → M → N
    → Type 0) (IsOutside : ℕ → ℕ → ℕ → Type 0) (naming : BusStop → BusStop) (places : V → ℕ → ℕ → Position)
    → ModesStand IsThread system original HoldsAll IsOutside naming places
    → ServesAlike IsThread system original HoldsAll naming places → (schedule : List ℕ) (left : State V M A) (right : State V N B)
    → AllByRecursion IsThread schedule → StatesRelated IsThread system.buses HoldsAll places left right
    → ServedStraight system original HoldsAll IsOutside places schedule left
    → ServedAlike IsThread system original HoldsAll naming places schedule left
    (served_entries (original_served places naming (served_lines system schedule left))) right
served_alike IsThread system original HoldsAll IsOutside naming places stands serves [] left right are related straight =
    record { lines = refl; end = related }
served_alike IsThread system original HoldsAll IsOutside naming places stands serves (number ∷ schedule) left right
    are related (now, later) =
    by_extra IsThread system original HoldsAll naming places number schedule left right
    (is_extra (places left.mode number (left.threads.regs number).rip)) refl related.mode
    (state_alike IsThread system original HoldsAll IsOutside naming places stands serves number are.0 left right related
    now)
    (λ other next. served_alike IsThread system original HoldsAll IsOutside naming places stands serves schedule
    (next_state system number left) other are.1 next later)
