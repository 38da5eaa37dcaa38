-- A row and a fetch over two memories that agree.
use Rattle.std.proofs.Common.{◌≡◌, ap, sym, subst, ◌∙◌, inl, inr, ℕ, zero, suc, ◌<◌, List, [], ◌∷◌, length, refl, arith}
use Rattle.std.specs.Prelude.{Result, Ok, Err, slice_index}
use Rattle.std.proofs.lemmas.Bool.{cases_lt}
use Rattle.sb_memory.specs.Physical.{Physical}
use Rattle.sb_memory.specs.declared.address.Access.TheVariants.{Write, Fetch}
use Rattle.sb_memory.specs.Outcome.{and_then, done}
use Rattle.sb_insn.specs.declared.insn.Insn.{Insn}
use Rattle.sb_insn.specs.declared.registers.Regs.{Regs}
use Rattle.sb_bus.specs.declared.stop.BusStop.{BusStop}
use Rattle.sb_exec.specs.declared.action.Effect.{Effect}
use Rattle.sb_bus.specs.Access.{bytes_from, byte_for, store_answer, where_stored}
use Rattle.sb_bus.specs.Interface.{Interface, FetchByte}
use Rattle.sb_exec.specs.Row.{Row, MemoryAccess, Loads, LoadsForWrite, Stores, accesses}
use Rattle.sb_exec.specs.Execution.{Run, run, run_on, execution_of, effect_after, registers_after, access_answer, meaning_after, call_of}
use Rattle.sb_exec.specs.Fetching.{bytes_from_fetch, FetchesOn, fetch_of, after_fetches}
use Rattle.sb_nested.specs.View.{View, view, view_byte, byte_calls}
use Rattle.sb_nested.specs.Store.{view_interface, view_rule, store_place, store_rule, memory_stored, view_stored}
use Rattle.sb_nested.proofs.Writing.{store_answered}
use Rattle.sb_agree.specs.Noted.{Noted, noted_rule}
use Rattle.sb_walks.specs.Gaps.{NoGap}
use Rattle.sb_agree.specs.Held.{Agrees, Covers}
use Rattle.sb_agree.specs.Laws.{EndAlike}
use Rattle.sb_agree.proofs.Bytes.{bus_gap}
use Rattle.sb_agree.proofs.Noting.{after_writes_same}
use Rattle.sb_agree.proofs.Calls.{fetch_alike, load_alike, load_for_write_alike, store_alike, call_more, ok_no_gap, done_ok, byte_read_only}

-- ---- an access

-- what a core sees, with the account of the words
abbrev noting : Interface View Noted
noting = view_interface noted_rule

-- what an access leaves on both
pub record SameAccess (all : List ℕ) (start : Physical) (eptp cr3 : ℕ) (value : ℕ) (two : Result ℕ BusStop) (first second : Noted)
    (one other : View) : Type 0 where
  pub answer : two ≡ Ok value
  pub account : second ≡ first
  pub memory : Physical
  pub changed : Physical
  pub left : one ≡ view memory eptp cr3
  pub right : other ≡ view changed eptp cr3
  pub agrees : Agrees all start first.writes memory changed

-- a store that goes on was done
stored_answer : (answer : Result (Unit {0}) BusStop) (loaded value : ℕ) → and_then answer (λ _. Ok loaded) ≡ Ok value
    → (answer ≡ Ok tt) × (loaded ≡ value)
stored_answer (Ok tt) loaded value e = (refl, cc)
stored_answer (Err s) loaded value e = cc

-- a store among the accesses of an instruction
store_alike_on : (all : List ℕ) (start : Physical) (eptp cr3 : ℕ) (memory changed : Physical) (account : Noted)
    → Agrees all start account.writes memory changed
    → (at size number loaded value : ℕ)
    → and_then (store_answer (byte_for (view_byte (view memory eptp cr3)) Write) at size) (λ _. Ok loaded) ≡ Ok value
    → Covers all (store_rule noted_rule (view memory eptp cr3) at size number account).reads
    → SameAccess all start eptp cr3 value
    (and_then (store_answer (byte_for (view_byte (view changed eptp cr3)) Write) at size) (λ _. Ok loaded))
    (store_rule noted_rule (view memory eptp cr3) at size number account)
    (store_rule noted_rule (view changed eptp cr3) at size number account)
    (where_stored (store_answer (byte_for (view_byte (view memory eptp cr3)) Write) at size)
    (view_stored (view memory eptp cr3) at size number) (view memory eptp cr3))
    (where_stored (store_answer (byte_for (view_byte (view changed eptp cr3)) Write) at size)
    (view_stored (view changed eptp cr3) at size number) (view changed eptp cr3))
store_alike_on all start eptp cr3 memory changed account agree at size number loaded value e covers =
    let both = stored_answer (store_answer (byte_for (view_byte (view memory eptp cr3)) Write) at size) loaded value e in
    let places = done_ok (bytes_from (store_place (view memory eptp cr3)) at size)
    (sym (store_answered (view memory eptp cr3) at size) ∙ both.0) in
    let same = store_alike all start eptp cr3 memory changed account agree at size number places.0 places.1 covers in
    let other : store_answer (byte_for (view_byte (view changed eptp cr3)) Write) at size ≡ Ok tt =
    store_answered (view changed eptp cr3) at size ∙ ap done same.0 in
    rw (both.0, other) (record {
      answer = ap (λ n. Ok n) both.1;
      account = same.1.account;
      memory = memory_stored (view memory eptp cr3) at size number;
      changed = memory_stored (view changed eptp cr3) at size number;
      left = refl;
      right = refl;
      agrees = same.1.agrees;
    })

-- an access that goes on
access_alike : (all : List ℕ) (start : Physical) (eptp cr3 : ℕ) (memory changed : Physical) (account : Noted)
    → Agrees all start account.writes memory changed
    → (one_access : MemoryAccess) (loaded value : ℕ) → access_answer noting one_access (view memory eptp cr3) loaded ≡ Ok value
    → Covers all (view_rule noted_rule (call_of one_access loaded) (view memory eptp cr3) account).reads
    → SameAccess all start eptp cr3 value (access_answer noting one_access (view changed eptp cr3) loaded)
    (view_rule noted_rule (call_of one_access loaded) (view memory eptp cr3) account)
    (view_rule noted_rule (call_of one_access loaded) (view changed eptp cr3) account)
    (meaning_after noting one_access (view memory eptp cr3) loaded)
    (meaning_after noting one_access (view changed eptp cr3) loaded)
unfolding view_rule
access_alike all start eptp cr3 memory changed account agree (Loads at size) loaded value e covers =
    let same = load_alike all start eptp cr3 memory changed account agree at size value covers e in
    record {
      answer = same.0;
      account = same.1;
      memory = memory;
      changed = changed;
      left = refl;
      right = refl;
      agrees = subst (λ (w : List ℕ). Agrees all start w memory changed) (sym same.2) agree;
    }
access_alike all start eptp cr3 memory changed account agree (LoadsForWrite at size) loaded value e covers =
    let same = load_for_write_alike all start eptp cr3 memory changed account agree at size value covers e in
    record {
      answer = same.0;
      account = same.1;
      memory = memory;
      changed = changed;
      left = refl;
      right = refl;
      agrees = subst (λ (w : List ℕ). Agrees all start w memory changed) (sym same.2) agree;
    }
access_alike all start eptp cr3 memory changed account agree (Stores at size number) loaded value e covers =
    store_alike_on all start eptp cr3 memory changed account agree at size (number loaded) loaded value e covers

-- ---- accesses in their order

-- accesses behind an answer keep what was noted as read
run_more_on : (all : List ℕ) (next : View → Noted → ℕ → Run View Noted) (answer : Result ℕ BusStop) (core : View)
    (account : Noted)
    → ((loaded : ℕ) → Covers all (next core account loaded).account.reads → Covers all account.reads)
    → Covers all (run_on next answer core account).account.reads → Covers all account.reads
run_more_on all next (Ok loaded) core account later covers = later loaded covers
run_more_on all next (Err s) core account later covers = covers

-- accesses keep what was noted as read
pub run_more : (all : List ℕ) (accesses : List MemoryAccess) (core : View) (account : Noted) (loaded : ℕ)
    → Covers all (run noting accesses core account loaded).account.reads → Covers all account.reads
run_more all [] core account loaded covers = covers
run_more all (one_access ∷ accesses) core account loaded covers =
    call_more all (call_of one_access loaded) core account
    (run_more_on all (run noting accesses) (access_answer noting one_access core loaded)
    (meaning_after noting one_access core loaded) (view_rule noted_rule (call_of one_access loaded) core account)
    (λ next. run_more all accesses (meaning_after noting one_access core loaded)
    (view_rule noted_rule (call_of one_access loaded) core account) next) covers)

-- where a run of accesses ends with a number, its first one goes on
first_ok : (next : View → Noted → ℕ → Run View Noted) (answer : Result ℕ BusStop) (core : View) (account : Noted) (value : ℕ)
    → (run_on next answer core account).answer ≡ Ok value
    → (loaded : ℕ) × (answer ≡ Ok loaded)
first_ok next (Ok loaded) core account value e = (loaded, refl)
first_ok next (Err s) core account value e = cc

-- a first access that is the same in both, and the others behind it
joined : (all : List ℕ) (start : Physical) (eptp cr3 value : ℕ) (next : View → Noted → ℕ → Run View Noted)
    (one two : Result ℕ BusStop) (mean other first second : View) (account also : Noted) (loaded : ℕ)
    → one ≡ Ok loaded → two ≡ Ok loaded → mean ≡ first → other ≡ second → also ≡ account
    → SameAccess all start eptp cr3 value (next second account loaded).answer (next first account loaded).account
    (next second account loaded).account (next first account loaded).meaning (next second account loaded).meaning
    → SameAccess all start eptp cr3 value (run_on next two other also).answer (run_on next one mean account).account
    (run_on next two other also).account (run_on next one mean account).meaning (run_on next two other also).meaning
joined all start eptp cr3 value next one two mean other first second account also loaded e f g h k same = rw (e, f, g, h, k) same

-- accesses that no stop ends have the same answer and account in both, and the memories after them agree
pub run_alike : (all : List ℕ) (start : Physical) (eptp cr3 : ℕ) (accesses : List MemoryAccess) (memory changed : Physical)
    (account : Noted) (loaded value : ℕ) → Agrees all start account.writes memory changed
    → (run noting accesses (view memory eptp cr3) account loaded).answer ≡ Ok value
    → Covers all (run noting accesses (view memory eptp cr3) account loaded).account.reads
    → SameAccess all start eptp cr3 value (run noting accesses (view changed eptp cr3) account loaded).answer
    (run noting accesses (view memory eptp cr3) account loaded).account
    (run noting accesses (view changed eptp cr3) account loaded).account
    (run noting accesses (view memory eptp cr3) account loaded).meaning
    (run noting accesses (view changed eptp cr3) account loaded).meaning
run_alike all start eptp cr3 [] memory changed account loaded value agree e covers =
    record { answer = e; account = refl; memory = memory; changed = changed; left = refl; right = refl; agrees = agree }
run_alike all start eptp cr3 (one_access ∷ accesses) memory changed account loaded value agree e covers =
    let core = view memory eptp cr3 in
    let after = view_rule noted_rule (call_of one_access loaded) core account in
    let first = first_ok (run noting accesses) (access_answer noting one_access core loaded)
    (meaning_after noting one_access core loaded) after value e in
    let covered = run_more_on all (run noting accesses) (access_answer noting one_access core loaded)
    (meaning_after noting one_access core loaded) after
    (λ next. run_more all accesses (meaning_after noting one_access core loaded) after next) covers in
    let same = access_alike all start eptp cr3 memory changed account agree one_access loaded first.0 first.1 covered in
    let e' : (run noting accesses (view same.memory eptp cr3) after first.0).answer ≡ Ok value =
    sym (ap (λ (c : View). (run noting accesses c after first.0).answer) same.left)
    ∙ sym (ap (λ (r : Result ℕ BusStop).
    (run_on (run noting accesses) r (meaning_after noting one_access core loaded) after).answer) first.1) ∙ e in
    let covers' : Covers all (run noting accesses (view same.memory eptp cr3) after first.0).account.reads =
    subst (λ (c : View). Covers all (run noting accesses c after first.0).account.reads) same.left
    (subst (λ (r : Result ℕ BusStop). Covers all
    (run_on (run noting accesses) r (meaning_after noting one_access core loaded) after).account.reads) first.1 covers) in
    joined all start eptp cr3 value (run noting accesses) _ _ _ _ _ _ after _ first.0 first.1 same.answer same.left same.right
    same.account
    (run_alike all start eptp cr3 accesses same.memory same.changed after first.0 value same.agrees e' covers')

-- ---- a row

-- an instruction with an effect was run to its end
ran_ok : (effect done : Effect) (answer : Result ℕ BusStop) → effect_after effect answer ≡ Ok done
    → ((loaded : ℕ) × (answer ≡ Ok loaded)) × (effect ≡ done)
ran_ok effect done (Ok loaded) e = ((loaded, refl), cc)
ran_ok effect done (Err s) e = cc

-- an instruction with an effect ends alike over both
pub row_alike : (all : List ℕ) (start : Physical) (eptp cr3 : ℕ) (memory changed : Physical) (account : Noted) (row : Row)
    (regs : Regs) (effect : Effect) → Agrees all start account.writes memory changed
    → (execution_of noting row regs (view memory eptp cr3) account).answer ≡ Ok effect
    → Covers all (execution_of noting row regs (view memory eptp cr3) account).account.reads
    → EndAlike all start effect (execution_of noting row regs (view memory eptp cr3) account)
    (execution_of noting row regs (view changed eptp cr3) account)
unfolding execution_of
row_alike all start eptp cr3 memory changed account row regs effect agree e covers =
    let ran = ran_ok row.effect effect (run noting (accesses row) (view memory eptp cr3) account 0).answer e in
    let same = run_alike all start eptp cr3 (accesses row) memory changed account 0 ran.0.0 agree ran.0.1 covers in
    record {
      answer = ap (effect_after row.effect) same.answer ∙ ap (λ (x : Effect). Ok x) ran.1;
      registers = ap (registers_after row regs) (same.answer ∙ sym ran.0.1);
      account = same.account;
      agrees = rw (same.left, same.right) same.agrees;
    }

-- an instruction keeps what was noted as read
pub row_more : (all : List ℕ) (core : View) (account : Noted) (row : Row) (regs : Regs)
    → Covers all (execution_of noting row regs core account).account.reads → Covers all account.reads
unfolding execution_of
row_more all core account row regs covers = run_more all (accesses row) core account 0 covers

-- ---- a fetch

module _ (all : List ℕ) (start : Physical) (eptp cr3 : ℕ) (memory changed : Physical) (account : Noted)
    (agree : Agrees all start account.writes memory changed) (rip : ℕ) where
  -- what a core sees over the one memory
  abbrev old : View
  old = view memory eptp cr3

  -- and over the other
  abbrev new : View
  new = view changed eptp cr3

  -- the account after so many bytes are fetched
  abbrev after : ℕ → Noted
  after count = after_fetches noting old rip count account

  -- fetching a byte notes nothing as written
  one_writes : (at : ℕ) (now : Noted) → (view_rule noted_rule (FetchByte at) old now).writes ≡ now.writes
  unfolding view_rule
  one_writes at now = after_writes_same all memory (byte_calls old Fetch at) now (byte_read_only old Fetch at)

  -- fetching bytes notes nothing as written
  pub fetches_write : (count : ℕ) → (after count).writes ≡ account.writes
  fetches_write zero = refl
  fetches_write (suc count) = one_writes (bytes_from_fetch rip count) (after count) ∙ fetches_write count

  -- bytes that are fetched are the same, with the same account
  fetches_alike : (count : ℕ) → Covers all (after count).reads
      → ((index : ℕ) → index < count → NoGap bus_gap (fetch_of noting old (bytes_from_fetch rip index)))
      → ((index : ℕ) → index < count
      → fetch_of noting new (bytes_from_fetch rip index) ≡ fetch_of noting old (bytes_from_fetch rip index))
      × (after_fetches noting new rip count account ≡ after count)
  fetches_alike zero covers gapless = ((λ index below. absurd (omega arith)), refl)
  fetches_alike (suc count) covers gapless =
      let covered = call_more all (FetchByte (bytes_from_fetch rip count)) old (after count) covers in
      let rest = fetches_alike count covered (λ index below. gapless index (omega arith)) in
      let agree' : Agrees all start (after count).writes memory changed =
      subst (λ (w : List ℕ). Agrees all start w memory changed) (sym (fetches_write count)) agree in
      let here = fetch_alike all start eptp cr3 memory changed (after count) agree' (bytes_from_fetch rip count) covers
      (gapless count (omega arith)) in (
        (λ index below. elim (cases_lt index count) [
          | inl inside ↦ rest.0 index inside
          | inr above ↦ let same : count ≡ index =
              omega arith in subst (λ (i : ℕ). fetch_of noting new (bytes_from_fetch rip i)
              ≡ fetch_of noting old (bytes_from_fetch rip i)) same here.0
        ]),
        ap (λ (a : Noted). view_rule noted_rule (FetchByte (bytes_from_fetch rip count)) new a) rest.1 ∙ here.1,
      )

  -- an instruction that is fetched
  pub fetched_alike : (insn : Insn) (fetched : Noted) → FetchesOn noting old rip account fetched (Ok insn)
      → Covers all fetched.reads
      → FetchesOn noting new rip account fetched (Ok insn) × (fetched.writes ≡ account.writes)
  fetched_alike insn fetched got covers =
      let covers' : Covers all (after got.asked).reads = subst (λ (a : Noted). Covers all a.reads) got.account covers in
      let count : got.asked ≡ length got.fetched.bytes = got.fetched.ends.1 in
      let same = fetches_alike got.asked covers'
      (λ index below. ok_no_gap _ (slice_index got.fetched.bytes index) (got.fetched.stands index (omega arith))) in (
        record {
          asked = got.asked;
          fetched = record {
            bytes = got.fetched.bytes;
            stands = λ index below. same.0 index (omega arith) ∙ got.fetched.stands index below;
            prefixes = got.fetched.prefixes;
            ends = got.fetched.ends;
          };
          account = got.account ∙ sym same.1;
        },
        ap (λ (a : Noted). a.writes) got.account ∙ fetches_write got.asked,
      )
