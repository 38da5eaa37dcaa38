-- A run of several threads beside the original code.
use Rattle.std.proofs.Common.{◌≡◌, ◌⊎◌, ℕ, Bool, true, false, List, [], ◌∷◌, Option, Some, None, refl, sym, ap, ◌∙◌, subst, inl, inr}
use Rattle.std.specs.List.{AllByRecursion}
use Rattle.std.proofs.Math.Path.{fun_ext}
use Rattle.std.specs.Prelude.{◌==◌, Result, Ok, Err}
use Rattle.std.proofs.lemmas.Bool.{cond-true, cond-false, cases_eq, eq-eqb, ne_eqb}
use Rattle.sb_insn.specs.declared.registers.Regs.{Regs}
use Rattle.sb_memory.specs.declared.address.Access.TheVariants.{Write}
use Rattle.sb_bus.specs.declared.stop.BusStop.{BusStop}
use Rattle.sb_exec.specs.declared.action.Effect.TheVariants.{Next, Syscall, Switch, Undefined}
use Rattle.sb_exec.specs.Interface.{Interface}
use Rattle.sb_exec.specs.Access.{store_answer, byte_for, where_stored}
use Rattle.sb_exec.specs.Row.{Row, MemoryAccess, Loads, LoadsForWrite, Stores, accesses}
use Rattle.sb_exec.specs.Execution as exec
use Rattle.sb_exec.specs.Execution.{access_answer, meaning_after, call_of, execution_by, execution_of}
use Rattle.sb_original.specs.Words.{Words}
use Rattle.sb_original.specs.Beside.{AreBeside}
use Rattle.sb_origin_run.specs.Machine.{Code, Thread, Event, Ran, Stopped, NotFetched, Made, made_by, executed}
use Rattle.sb_origin_run.specs.Position.{Position, is_extra, original_rip, told_event, Stands}
use Rattle.sb_origin_run.specs.Related.{IsAt, Related, WhereNext, IsStraight, StepAlike}
use Rattle.sb_origin_run.specs.Many.{with_at, Threads, thread_of, with_thread, ThreadLine, ThreadsRun, threads_on, threads_step, threads_run, threads_lines, entries, WithWords, HoldsOf, beside_words, ThreadsRelated, ThreadsStraight, ThreadsAlike}
use Rattle.sb_origin_run.proofs.Steps.{step_alike}
use Rattle.sb_origin_run.proofs.Runs.{where_map}

-- ---- one of them changed

pub at_same : {Value : Type 0} (number : ℕ) (value : Value) (all : ℕ → Value) → with_at number value all number ≡ value
at_same number value all = cond-true (number == number) value (all number) (eq-eqb number number refl)

pub at_other : {Value : Type 0} (number : ℕ) (value : Value) (all : ℕ → Value) (other : ℕ) → (other ≡ number → ⊥)
    → with_at number value all other ≡ all other
at_other number value all other differ = cond-false (other == number) value (all other) (ne_eqb other number differ)

pub at_itself : {Value : Type 0} (number : ℕ) (all : ℕ → Value) → with_at number (all number) all ≡ all
at_itself {Value} number all = fun_ext (λ other. one other (cases_eq other number))
  where
    one : (other : ℕ) → (other ≡ number) ⊎ (other ≡ number → ⊥) → with_at number (all number) all other ≡ all other
    one other (inl same) = ap (λ (n : ℕ). with_at number (all number) all n) same ∙ at_same number (all number) all
        ∙ ap all (sym same)
    one other (inr differ) = at_other number (all number) all other differ

-- ---- the words beside a memory stay

abbrev paired : {N : Type 0} → N → (ℕ → Words) → WithWords N
paired meaning words = (meaning, words)

abbrev run_beside : {N B : Type 0} → (ℕ → Words) → exec.Run N B → exec.Run (WithWords N) B
run_beside words one = record { answer = one.answer; meaning = (one.meaning, words); account = one.account }

abbrev thread_beside : {N B : Type 0} → (ℕ → Words) → Thread N B → Thread (WithWords N) B
thread_beside words one = record { regs = one.regs; meaning = (one.meaning, words); account = one.account }

abbrev made_beside : {N B : Type 0} → (ℕ → Words) → Made N B → Made (WithWords N) B
made_beside words one = record { event = one.event; thread = thread_beside words one.thread }

on_beside : {N B : Type 0} (words : ℕ → Words) (next : N → B → ℕ → exec.Run N B) (next' : WithWords N → B → ℕ
    → exec.Run (WithWords N) B) (answer : Result ℕ BusStop) (meaning : N) (account : B)
    → ((loaded : ℕ) → next' (paired meaning words) account loaded ≡ run_beside words (next meaning account loaded))
    → exec.run_on next' answer (paired meaning words) account ≡ run_beside words (exec.run_on next answer meaning account)
on_beside words next next' (Ok loaded) meaning account given = given loaded
on_beside words next next' (Err stop) meaning account given = refl

stored_beside : {N : Type 0} (words : ℕ → Words) (answer : Result (Unit {0}) BusStop) (after before : N)
    → where_stored answer (paired after words) (paired before words) ≡ paired (where_stored answer after before) words
stored_beside words (Ok stored) after before = refl
stored_beside words (Err stop) after before = refl

meaning_beside : {N B : Type 0} (bus : Interface N B) (words : ℕ → Words) (access : MemoryAccess) (meaning : N) (loaded : ℕ)
    → meaning_after (beside_words bus) access (paired meaning words) loaded
    ≡ paired (meaning_after bus access meaning loaded) words
meaning_beside bus words (Loads address size) meaning loaded = refl
meaning_beside bus words (LoadsForWrite address size) meaning loaded = refl
meaning_beside bus words (Stores address size value) meaning loaded =
    stored_beside words (store_answer (byte_for (bus.byte meaning) Write) address size)
    (bus.stored meaning address size (value loaded)) meaning

answer_beside : {N B : Type 0} (bus : Interface N B) (words : ℕ → Words) (access : MemoryAccess) (meaning : N) (loaded : ℕ)
    → access_answer (beside_words bus) access (paired meaning words) loaded ≡ access_answer bus access meaning loaded
answer_beside bus words (Loads address size) meaning loaded = refl
answer_beside bus words (LoadsForWrite address size) meaning loaded = refl
answer_beside bus words (Stores address size value) meaning loaded = refl

all_beside : {N B : Type 0} (bus : Interface N B) (words : ℕ
    → Words) (list : List MemoryAccess) (meaning : N) (account : B) (loaded : ℕ)
    → exec.run (beside_words bus) list (paired meaning words) account loaded
    ≡ run_beside words (exec.run bus list meaning account loaded)
all_beside bus words [] meaning account loaded = refl
all_beside bus words (access ∷ list) meaning account loaded =
    ap (λ answer. exec.run_on (exec.run (beside_words bus) list) answer
    (meaning_after (beside_words bus) access (paired meaning words) loaded)
    (bus.rule (call_of access loaded) meaning account)) (answer_beside bus words access meaning loaded)
    ∙ ap (λ after. exec.run_on (exec.run (beside_words bus) list) (access_answer bus access meaning loaded) after
    (bus.rule (call_of access loaded) meaning account)) (meaning_beside bus words access meaning loaded)
    ∙ on_beside words (exec.run bus list) (exec.run (beside_words bus) list) (access_answer bus access meaning loaded)
    (meaning_after bus access meaning loaded) (bus.rule (call_of access loaded) meaning account)
    (λ again. all_beside bus words list (meaning_after bus access meaning loaded)
    (bus.rule (call_of access loaded) meaning account) again)

executed_beside : {N B : Type 0} (bus : Interface N B) (words : ℕ → Words) (found : Option (Regs → Row)) (thread : Thread N B)
    → executed (beside_words bus) found (thread_beside words thread) ≡ made_beside words (executed bus found thread)
unfolding execution_of
executed_beside bus words None thread = refl
executed_beside {N} {B} bus words (Some row) thread =
    ap (λ (one : exec.Run (WithWords N) B). made_by (execution_by (row thread.regs) thread.regs one))
    (all_beside bus words (accesses (row thread.regs)) thread.meaning thread.account 0)

-- ---- one step of one of them

-- what a thread's place, registers, words and original registers say of it, says it of equal ones
moved_at : {M A N : Type 0} (bus : Interface M A) (Holds : Words → M → N → Type 0) (place : ℕ
    → Position) (regs regs' : Regs) (words words' : Words) (original original' : Regs)
    → regs ≡ regs' → words ≡ words' → original ≡ original'
    → IsAt bus Holds (place regs'.rip) (record { regs = regs'; words = words' }) original'
    → IsAt bus Holds (place regs.rip) (record { regs = regs; words = words }) original
moved_at bus Holds place regs regs' words words' original original' r w o is =
    subst (λ (x : Regs). IsAt bus Holds (place x.rip) (record { regs = x; words = words }) original) (sym r)
    (subst (λ (x : Words). IsAt bus Holds (place regs'.rip) (record { regs = regs'; words = x }) original) (sym w)
    (subst (λ (x : Regs). IsAt bus Holds (place regs'.rip) (record { regs = regs'; words = words' }) x) (sym o) is))

-- the others stay where they are
renewed : {M A N B : Type 0} (IsThread : ℕ → Type 0) (buses : ℕ → Interface M A) (HoldsAll : (ℕ → Words) → M → N → Type 0)
    (places : ℕ → ℕ
    → Position) (number : ℕ) (left : Threads M A) (right new_right : Threads N B) (thread : Thread M A) (words : Words)
    (old : ThreadsRelated IsThread buses HoldsAll places left right)
    → HoldsAll (with_at number words old.words) thread.meaning new_right.meaning
    → IsAt (buses number) (HoldsOf HoldsAll number) (places number thread.regs.rip)
    (record { regs = thread.regs; words = words }) (new_right.regs number)
    → ((other : ℕ) → (other ≡ number → ⊥) → new_right.regs other ≡ right.regs other)
    → ThreadsRelated IsThread buses HoldsAll places (with_thread number thread left) new_right
renewed {M} {A} {N} {B} IsThread buses HoldsAll places number left right new_right thread words old holds at others = record {
  words = with_at number words old.words;
  holds = holds;
  at = λ other is_thread. one other is_thread (cases_eq other number);
}
  where
    one : (other : ℕ) → IsThread other → (other ≡ number) ⊎ (other ≡ number → ⊥)
        → IsAt (buses other) (HoldsOf HoldsAll other) (places other (with_at number thread.regs left.regs other).rip)
        (record { regs = with_at number thread.regs left.regs other; words = with_at number words old.words other })
        (new_right.regs other)
    one other is_thread (inl same) =
        subst (λ (n : ℕ). IsAt (buses n) (HoldsOf HoldsAll n) (places n (with_at number thread.regs left.regs n).rip)
        (record { regs = with_at number thread.regs left.regs n; words = with_at number words old.words n })
        (new_right.regs n)) (sym same)
        (moved_at (buses number) (HoldsOf HoldsAll number) (places number)
        (with_at number thread.regs left.regs number) thread.regs (with_at number words old.words number) words
        (new_right.regs number) (new_right.regs number)
        (at_same number thread.regs left.regs) (at_same number words old.words) refl at)
    one other is_thread (inr differ) =
        moved_at (buses other) (HoldsOf HoldsAll other) (places other) (with_at number thread.regs left.regs other)
        (left.regs other) (with_at number words old.words other) (old.words other) (new_right.regs other) (right.regs other)
        (at_other number thread.regs left.regs other differ) (at_other number words old.words other differ) (others other differ)
        (old.at other is_thread)

-- what a step of one thread is to the others
abbrev pub ThreadStep : {M A N B : Type 0} → (ℕ → Type 0) → (ℕ → Interface M A) → ((ℕ → Words) → M → N → Type 0) →
    (BusStop → BusStop)
    → (ℕ → ℕ → Position) → ℕ → Threads M A → Threads N B → Made M A → Made N B → Bool → Type 0
ThreadStep IsThread buses HoldsAll naming places number left right made original true =
    (made.event ≡ Ran Next) × ThreadsRelated IsThread buses HoldsAll places (with_thread number made.thread left) right
ThreadStep IsThread buses HoldsAll naming places number left right made original false =
    (original.event ≡ told_event naming made.event)
    × ((right.regs number).rip ≡ original_rip (places number (left.regs number).rip) (left.regs number).rip)
    × WhereNext made.event
    (ThreadsRelated IsThread buses HoldsAll places (with_thread number made.thread left) (with_thread number original.thread
    right))

from_one : {M A N B : Type 0} (IsThread : ℕ → Type 0) (buses : ℕ → Interface M A) (HoldsAll : (ℕ → Words) → M → N → Type 0)
    (naming : BusStop
    → BusStop) (places : ℕ → ℕ
    → Position) (number : ℕ) (left : Threads M A) (right : Threads N B) (made : Made M A) (original : Made N B) (extra : Bool)
    (old : ThreadsRelated IsThread buses HoldsAll places left right)
    → StepAlike (buses number) (HoldsOf HoldsAll number) naming (places number) (places number (left.regs number).rip)
    (thread_of number left) (thread_beside old.words (thread_of number right)) made (made_beside old.words original) extra
    → ThreadStep IsThread buses HoldsAll naming places number left right made original extra
from_one IsThread buses HoldsAll naming places number left right made original true old (event, related) = (
  event,
  renewed IsThread buses HoldsAll places number left right right made.thread related.words old related.holds related.at
      (λ other differ. refl),
)
from_one {M} {A} {N} {B} IsThread buses HoldsAll naming places number left right made original false old (event, rip, related) = (
  event,
  rip,
  where_map made.event
      (Related (buses number) (HoldsOf HoldsAll number) (places number) made.thread (thread_beside old.words original.thread))
      (ThreadsRelated IsThread buses HoldsAll places (with_thread number made.thread left) (with_thread number original.thread
      right))
      (λ now.
      renewed IsThread buses HoldsAll places number left right
      (with_thread number original.thread right) made.thread now.words old now.holds
      (subst (λ (x : Regs). IsAt (buses number) (HoldsOf HoldsAll number) (places number made.thread.regs.rip)
      (record { regs = made.thread.regs; words = now.words }) x)
      (sym (at_same number original.thread.regs right.regs)) now.at)
      (λ other differ. at_other number original.thread.regs right.regs other differ)) related,
)

pub thread_alike : {M A N B : Type 0} (IsThread : ℕ → Type 0) (buses : ℕ → Interface M A) (originals : ℕ → Interface N B)
    (HoldsAll : (ℕ → Words) → M → N
    → Type 0) (IsOutside : ℕ → ℕ → ℕ → Type 0) (naming : BusStop → BusStop) (targets sources : ℕ → Code) (places : ℕ → ℕ
    → Position)
    → ((number : ℕ) → IsThread number
    → AreBeside (buses number) (beside_words (originals number)) (HoldsOf HoldsAll number) (IsOutside number) naming)
    → ((number : ℕ) → IsThread number → (address : ℕ)
    → Stands (buses number) (HoldsOf HoldsAll number) (targets number) (sources number) (places number) address
    (places number address))
    → (number : ℕ) → IsThread number → (left : Threads M A) (right : Threads N B)
    → ThreadsRelated IsThread buses HoldsAll places left right
    → IsStraight (buses number) (HoldsOf HoldsAll number) (IsOutside number) (targets number) (sources number) (places number)
    (thread_of number left)
    → ThreadStep IsThread buses HoldsAll naming places number left right (threads_step buses targets number left)
    (threads_step originals sources number right) (is_extra (places number (left.regs number).rip))
thread_alike {M} {A} {N} {B} IsThread buses originals HoldsAll IsOutside naming targets sources places beside stands number
    is_thread left right
    old straight =
    let one : Thread (WithWords N) B = thread_beside old.words (thread_of number right) in
    let related : Related (buses number) (HoldsOf HoldsAll number) (places number) (thread_of number left) one = record {
      words = old.words number;
      holds = subst (λ (w : ℕ → Words). HoldsAll w left.meaning right.meaning) (sym (at_itself number old.words)) old.holds;
      at = old.at number is_thread;
    } in
    let alike =
    step_alike (buses number) (beside_words (originals number)) (HoldsOf HoldsAll number) (IsOutside number) naming
    (targets number) (sources number) (places number) (beside number is_thread) (stands number is_thread)
    (thread_of number left) one related straight in
    from_one IsThread buses HoldsAll naming places number left right (threads_step buses targets number left)
    (threads_step originals sources number right) (is_extra (places number (left.regs number).rip)) old
    (subst (λ (m : Made (WithWords N) B). StepAlike (buses number) (HoldsOf HoldsAll number) naming (places number)
    (places number (left.regs number).rip) (thread_of number left) one (threads_step buses targets number left) m
    (is_extra (places number (left.regs number).rip)))
    (executed_beside (originals number) old.words (sources number (right.regs number).rip) (thread_of number right)) alike)

-- ---- the run

abbrev line : ℕ → ℕ → Event → ThreadLine
line number rip event = record { thread = number; line = record { rip = rip; event = event } }

extra_lines : (places : ℕ → ℕ → Position) (naming : BusStop → BusStop) (one : ThreadLine) (lines : List ThreadLine)
    → is_extra (places one.thread one.line.rip) ≡ true
    → threads_lines places naming (one ∷ lines) ≡ threads_lines places naming lines
extra_lines places naming one lines e =
    cond-true (is_extra (places one.thread one.line.rip)) (threads_lines places naming lines) _ e

own_lines : (places : ℕ → ℕ → Position) (naming : BusStop → BusStop) (one : ThreadLine) (lines : List ThreadLine)
    → is_extra (places one.thread one.line.rip) ≡ false
    → threads_lines places naming (one ∷ lines)
    ≡ line one.thread (original_rip (places one.thread one.line.rip) one.line.rip)
    (told_event naming one.line.event) ∷ threads_lines places naming lines
own_lines places naming one lines e =
    cond-false (is_extra (places one.thread one.line.rip)) (threads_lines places naming lines) _ e

abbrev Ends : (M A : Type 0) → Event → Type 0
Ends M A event = (rest : Threads M A → ThreadsRun M A) (number : ℕ) (before after : Threads M A)
    → threads_on rest number before event after ≡ record { lines = line number (before.regs number).rip event ∷ []; end = before }

ended : {M A N B : Type 0} (IsThread : ℕ → Type 0) (buses : ℕ → Interface M A) (originals : ℕ → Interface N B)
    (HoldsAll : (ℕ → Words) → M → N
    → Type 0) (naming : BusStop → BusStop) (sources : ℕ → Code) (places : ℕ → ℕ → Position) (rest : Threads M A
    → ThreadsRun M A) (number : ℕ) (left after : Threads M A) (right : Threads N B) (event : Event)
    → ThreadsRelated IsThread buses HoldsAll places left right → is_extra (places number (left.regs number).rip) ≡ false
    → (threads_step originals sources number right).event ≡ told_event naming event
    → (right.regs number).rip ≡ original_rip (places number (left.regs number).rip) (left.regs number).rip → Ends M A event
    → Ends N B (told_event naming event)
    → ThreadsAlike IsThread buses HoldsAll naming places (threads_on rest number left event after)
    (threads_run originals sources (entries (threads_lines places naming (threads_on rest number left event after).lines))
    right)
ended {M} {A} {N} {B} IsThread buses originals HoldsAll naming sources places rest number left after right event related own
    told rip ends
    other_ends =
    let one = line number (left.regs number).rip event in
    let lines = own_lines places naming one [] own in
    let original_line =
    line number (original_rip (places number (left.regs number).rip) (left.regs number).rip) (told_event naming event) in
    let next = with_thread number (threads_step originals sources number right).thread right in
    let there : threads_run originals sources (number ∷ []) right
    ≡ record { lines = line number (right.regs number).rip (told_event naming event) ∷ []; end = right } =
    ap (λ (e : Event). threads_on (threads_run originals sources []) number right e next) told
    ∙ other_ends (threads_run originals sources []) number right next in
    let whole : ThreadsAlike IsThread buses HoldsAll naming places (record { lines = one ∷ []; end = left })
    (threads_run originals sources (entries (original_line ∷ [])) right) = record {
      lines = ap (λ (r : ThreadsRun N B). r.lines) there ∙ ap (λ (n : ℕ). line number n (told_event naming event) ∷ []) rip
          ∙ sym lines;
      end = subst (λ (t : Threads N B). ThreadsRelated IsThread buses HoldsAll places left t)
          (sym (ap (λ (r : ThreadsRun N B). r.end) there)) related;
    } in
    let counted : ThreadsAlike IsThread buses HoldsAll naming places (record { lines = one ∷ []; end = left })
    (threads_run originals sources (entries (threads_lines places naming (one ∷ []))) right) =
    subst (λ (l : List ThreadLine). ThreadsAlike IsThread buses HoldsAll naming places (record { lines = one ∷ []; end = left })
    (threads_run originals sources (entries l) right)) (sym lines) whole in
    subst (λ (r : ThreadsRun M A). ThreadsAlike IsThread buses HoldsAll naming places r
    (threads_run originals sources (entries (threads_lines places naming r.lines)) right))
    (sym (ends rest number left after)) counted

extra_on : {M A N B : Type 0} (IsThread : ℕ → Type 0) (buses : ℕ → Interface M A) (originals : ℕ → Interface N B)
    (HoldsAll : (ℕ → Words) → M → N
    → Type 0) (naming : BusStop → BusStop) (targets sources : ℕ → Code) (places : ℕ → ℕ
    → Position) (schedule : List ℕ) (number : ℕ) (left after : Threads M A) (right : Threads N B)
    → is_extra (places number (left.regs number).rip) ≡ true
    → ThreadsAlike IsThread buses HoldsAll naming places (threads_run buses targets schedule after)
    (threads_run originals sources (entries (threads_lines places naming (threads_run buses targets schedule after).lines))
    right)
    → ThreadsAlike IsThread buses HoldsAll naming places
    (threads_on (threads_run buses targets schedule) number left (Ran Next) after)
    (threads_run originals sources
    (entries
    (threads_lines places naming (threads_on (threads_run buses targets schedule) number left (Ran Next) after).lines))
    right)
extra_on IsThread buses originals HoldsAll naming targets sources places schedule number left after right extra rest =
    let lines =
    extra_lines places naming (line number (left.regs number).rip (Ran Next))
    (threads_run buses targets schedule after).lines extra in record {
      lines = subst (λ (l : List ThreadLine). (threads_run originals sources (entries l) right).lines ≡ l) (sym lines) rest.lines;
      end = subst
          (λ (l : List ThreadLine). ThreadsRelated IsThread buses HoldsAll places (threads_run buses targets schedule after).end
          (threads_run originals sources (entries l) right).end) (sym lines) rest.end;
    }

own_on : {M A N B : Type 0} (IsThread : ℕ → Type 0) (buses : ℕ → Interface M A) (originals : ℕ → Interface N B)
    (HoldsAll : (ℕ → Words) → M → N
    → Type 0) (naming : BusStop → BusStop) (targets sources : ℕ → Code) (places : ℕ → ℕ
    → Position) (schedule : List ℕ) (number : ℕ) (left after : Threads M A) (right : Threads N B)
    → is_extra (places number (left.regs number).rip) ≡ false → (threads_step originals sources number right).event ≡ Ran Next
    → (right.regs number).rip ≡ original_rip (places number (left.regs number).rip) (left.regs number).rip
    → ThreadsAlike IsThread buses HoldsAll naming places (threads_run buses targets schedule after)
    (threads_run originals sources (entries (threads_lines places naming (threads_run buses targets schedule after).lines))
    (with_thread number (threads_step originals sources number right).thread right))
    → ThreadsAlike IsThread buses HoldsAll naming places
    (threads_on (threads_run buses targets schedule) number left (Ran Next) after)
    (threads_run originals sources
    (entries
    (threads_lines places naming (threads_on (threads_run buses targets schedule) number left (Ran Next) after).lines))
    right)
own_on {M} {A} {N} {B} IsThread buses originals HoldsAll naming targets sources places schedule number left after right own
    event rip
    rest =
    let others = threads_lines places naming (threads_run buses targets schedule after).lines in
    let one = line number (original_rip (places number (left.regs number).rip) (left.regs number).rip) (Ran Next) in
    let lines =
    own_lines places naming (line number (left.regs number).rip (Ran Next))
    (threads_run buses targets schedule after).lines own in
    let next = with_thread number (threads_step originals sources number right).thread right in
    let later = threads_run originals sources (entries others) next in
    let there : threads_run originals sources (number ∷ entries others) right
    ≡ record { lines = line number (right.regs number).rip (Ran Next) ∷ later.lines; end = later.end } =
    ap (λ (e : Event). threads_on (threads_run originals sources (entries others)) number right e next) event in
    let made : (threads_run originals sources (entries (one ∷ others)) right).lines ≡ one ∷ others =
    ap (λ (r : ThreadsRun N B). r.lines) there
    ∙ ap (λ (l : List ThreadLine). line number (right.regs number).rip (Ran Next) ∷ l) rest.lines
    ∙ ap (λ (n : ℕ). line number n (Ran Next) ∷ others) rip in
    let end : ThreadsRelated IsThread buses HoldsAll places (threads_run buses targets schedule after).end
    (threads_run originals sources (entries (one ∷ others)) right).end =
    subst (λ (t : Threads N B). ThreadsRelated IsThread buses HoldsAll places (threads_run buses targets schedule after).end t)
    (sym (ap (λ (r : ThreadsRun N B). r.end) there)) rest.end in record {
      lines = subst (λ (l : List ThreadLine). (threads_run originals sources (entries l) right).lines ≡ l) (sym lines) made;
      end = subst
          (λ (l : List ThreadLine). ThreadsRelated IsThread buses HoldsAll places (threads_run buses targets schedule after).end
          (threads_run originals sources (entries l) right).end) (sym lines) end;
    }

-- the law of the rest of the schedule
abbrev Rest : {M A N B : Type 0} → (ℕ → Type 0) → (ℕ → Interface M A) → (ℕ → Interface N B) → ((ℕ → Words) → M → N → Type 0)
    → (BusStop → BusStop) → (ℕ → Code) → (ℕ → Code) → (ℕ → ℕ → Position) → List ℕ → Threads M A → Type 0
Rest {M} {A} {N} {B} IsThread buses originals HoldsAll naming targets sources places schedule left =
    (right : Threads N B) → ThreadsRelated IsThread buses HoldsAll places left right
    → ThreadsAlike IsThread buses HoldsAll naming places (threads_run buses targets schedule left)
    (threads_run originals sources (entries (threads_lines places naming (threads_run buses targets schedule left).lines))
    right)

by_event : {M A N B : Type 0} (IsThread : ℕ → Type 0) (buses : ℕ → Interface M A) (originals : ℕ → Interface N B)
    (HoldsAll : (ℕ → Words) → M → N
    → Type 0) (naming : BusStop → BusStop) (targets sources : ℕ → Code) (places : ℕ → ℕ
    → Position) (schedule : List ℕ) (number : ℕ) (left : Threads M A) (right : Threads N B) (made : Made M A) (event : Event)
    (extra : Bool)
    → made.event ≡ event → is_extra (places number (left.regs number).rip) ≡ extra
    → ThreadsRelated IsThread buses HoldsAll places left right
    → ThreadStep IsThread buses HoldsAll naming places number left right made (threads_step originals sources number right) extra
    → WhereNext event
    (Rest {M = M} {A = A} {N = N} {B = B} IsThread buses originals HoldsAll naming targets sources places schedule
    (with_thread number made.thread left))
    → ThreadsAlike IsThread buses HoldsAll naming places
    (threads_on (threads_run buses targets schedule) number left event (with_thread number made.thread left))
    (threads_run originals sources
    (entries
    (threads_lines places naming
    (threads_on (threads_run buses targets schedule) number left event (with_thread number made.thread left)).lines))
    right)
by_event IsThread buses originals HoldsAll naming targets sources places schedule number left right made
    (Ran Next) true is extra related alike rest =
    extra_on IsThread buses originals HoldsAll naming targets sources places schedule number left
    (with_thread number made.thread left) right extra (rest right alike.1)
by_event IsThread buses originals HoldsAll naming targets sources places schedule number left right made
    (Ran Syscall) true is extra related alike rest = absurd (let e = alike.0 in cc)
by_event IsThread buses originals HoldsAll naming targets sources places schedule number left right made
    (Ran Switch) true is extra related alike rest = absurd (let e = alike.0 in cc)
by_event IsThread buses originals HoldsAll naming targets sources places schedule number left right made
    (Ran Undefined) true is extra related alike rest = absurd (let e = alike.0 in cc)
by_event IsThread buses originals HoldsAll naming targets sources places schedule number left right made
    (Stopped stop) true is extra related alike rest = absurd (let e = alike.0 in cc)
by_event IsThread buses originals HoldsAll naming targets sources places schedule number left right made NotFetched true is
    extra related
    alike rest = absurd (let e = alike.0 in cc)
by_event IsThread buses originals HoldsAll naming targets sources places schedule number left right made
    (Ran Next) false is own related alike rest =
    let next =
    subst (λ (e : Event). WhereNext e
    (ThreadsRelated IsThread buses HoldsAll places (with_thread number made.thread left)
    (with_thread number (threads_step originals sources number right).thread right))) is alike.2 in
    own_on IsThread buses originals HoldsAll naming targets sources places schedule number left
    (with_thread number made.thread left) right own (alike.0 ∙ ap (λ (e : Event). told_event naming e) is) alike.1
    (rest (with_thread number (threads_step originals sources number right).thread right) next)
by_event IsThread buses originals HoldsAll naming targets sources places schedule number left right made
    (Ran Syscall) false is own related alike rest =
    ended IsThread buses originals HoldsAll naming sources places (threads_run buses targets schedule) number left
    (with_thread number made.thread left) right (Ran Syscall) related own (alike.0
    ∙ ap (λ (e : Event). told_event naming e) is) alike.1 (λ r n b a. refl) (λ r n b a. refl)
by_event IsThread buses originals HoldsAll naming targets sources places schedule number left right made
    (Ran Switch) false is own related alike rest =
    ended IsThread buses originals HoldsAll naming sources places (threads_run buses targets schedule) number left
    (with_thread number made.thread left) right (Ran Switch) related own (alike.0
    ∙ ap (λ (e : Event). told_event naming e) is) alike.1 (λ r n b a. refl) (λ r n b a. refl)
by_event IsThread buses originals HoldsAll naming targets sources places schedule number left right made
    (Ran Undefined) false is own related alike rest =
    ended IsThread buses originals HoldsAll naming sources places (threads_run buses targets schedule) number left
    (with_thread number made.thread left) right (Ran Undefined) related own (alike.0
    ∙ ap (λ (e : Event). told_event naming e) is) alike.1 (λ r n b a. refl) (λ r n b a. refl)
by_event IsThread buses originals HoldsAll naming targets sources places schedule number left right made
    (Stopped stop) false is own related alike rest =
    ended IsThread buses originals HoldsAll naming sources places (threads_run buses targets schedule) number left
    (with_thread number made.thread left) right (Stopped stop) related own (alike.0
    ∙ ap (λ (e : Event). told_event naming e) is) alike.1 (λ r n b a. refl) (λ r n b a. refl)
by_event IsThread buses originals HoldsAll naming targets sources places schedule number left right made NotFetched false is
    own related
    alike rest =
    ended IsThread buses originals HoldsAll naming sources places (threads_run buses targets schedule) number left
    (with_thread number made.thread left) right NotFetched related own (alike.0
    ∙ ap (λ (e : Event). told_event naming e) is) alike.1 (λ r n b a. refl) (λ r n b a. refl)

pub threads_alike : {M A N B : Type 0} (IsThread : ℕ → Type 0) (buses : ℕ → Interface M A) (originals : ℕ → Interface N B)
    (HoldsAll : (ℕ → Words) → M → N
    → Type 0) (IsOutside : ℕ → ℕ → ℕ → Type 0) (naming : BusStop → BusStop) (targets sources : ℕ → Code) (places : ℕ → ℕ
    → Position)
    → ((number : ℕ) → IsThread number
    → AreBeside (buses number) (beside_words (originals number)) (HoldsOf HoldsAll number) (IsOutside number) naming)
    → ((number : ℕ) → IsThread number → (address : ℕ)
    → Stands (buses number) (HoldsOf HoldsAll number) (targets number) (sources number) (places number) address
    (places number address))
    → (schedule : List ℕ) (left : Threads M A) (right : Threads N B) → AllByRecursion IsThread schedule
    → ThreadsRelated IsThread buses HoldsAll places left right
    → ThreadsStraight buses HoldsAll IsOutside targets sources places schedule left
    → ThreadsAlike IsThread buses HoldsAll naming places (threads_run buses targets schedule left)
    (threads_run originals sources (entries (threads_lines places naming (threads_run buses targets schedule left).lines))
    right)
threads_alike IsThread buses originals HoldsAll IsOutside naming targets sources places beside stands [] left right are related
    straight = record { lines = refl; end = related }
threads_alike {M} {A} {N} {B} IsThread buses originals HoldsAll IsOutside naming targets sources places beside stands
    (number ∷ schedule) left right are related (now, later) =
    let made = threads_step buses targets number left in
    by_event IsThread buses originals HoldsAll naming targets sources places schedule number left right made made.event
    (is_extra (places number (left.regs number).rip)) refl refl related
    (thread_alike IsThread buses originals HoldsAll IsOutside naming targets sources places beside stands number are.0
    left right related now)
    (where_map made.event
    (ThreadsStraight buses HoldsAll IsOutside targets sources places schedule (with_thread number made.thread left))
    (Rest {M = M} {A = A} {N = N} {B = B} IsThread buses originals HoldsAll naming targets sources places schedule
    (with_thread number made.thread left))
    (λ straight other next. threads_alike IsThread buses originals HoldsAll IsOutside naming targets sources places beside stands
    schedule (with_thread number made.thread left) other are.1 next straight) later)
