-- The calls of physical memory by which bytes are read from an address upwards, one more.
use Rattle.std.proofs.Common.{◌≡◌, ℕ, zero, suc, ◌+◌, ◌%◌, ◌^◌, ◌<◌, List, [], Result, Ok, Err, refl, sym, ap, ◌∙◌, arith}
use Rattle.std.proofs.lemmas.List.{append-nil}
use Rattle.sb_memory.specs.declared.address.Access.{Access}
use Rattle.sb_memory.specs.Physical.{Physical}
use Rattle.sb_memory.specs.Accounts.{PhysCall, account_after_reads}
use Rattle.sb_memory.proofs.Accounts.{after_reads_append}
use Rattle.sb_bus.specs.declared.stop.BusStop.{BusStop}
use Rattle.sb_bus.specs.Access.{byte_for}
use Rattle.sb_bus.specs.Bytes.{account_after_bytes}
use Rattle.sb_bus.proofs.Loads as bus
use Rattle.sb_nested.specs.View.{View, view_byte, byte_calls, calls_from}
use Rattle.sb_nested.specs.Store.{load_calls, account_after_byte}

-- the calls for no byte
pub calls_none : {A : Type 0} (calls : ℕ → List PhysCall) (answer : ℕ → Result A BusStop) (at size : ℕ) → size ≡ 0
    → calls_from calls answer at size ≡ []
unfolding calls_from
calls_none calls answer at size e = rw e refl

-- the lowest byte stops
pub account_stop : {A Account : Type 0} (rule : PhysCall → Physical → Account → Account) (memory : Physical) (calls : ℕ
    → List PhysCall) (answer : ℕ → Result A BusStop) (at size : ℕ) (stop : BusStop) (account : Account)
    → 0 < size → answer at ≡ Err stop
    → account_after_reads rule memory (calls_from calls answer at size) account
    ≡ account_after_reads rule memory (calls at) account
unfolding calls_from
account_stop rule memory calls answer at zero stop account h e = absurd (omega arith)
account_stop rule memory calls answer at (suc n) stop account h e = rw (e, append-nil) refl

-- there are further bytes
pub account_more : {A Account : Type 0} (rule : PhysCall → Physical → Account → Account) (memory : Physical) (calls : ℕ
    → List PhysCall) (answer : ℕ → Result A BusStop) (at size n : ℕ) (b : A) (account : Account)
    → size ≡ n + 1 → answer at ≡ Ok b
    → account_after_reads rule memory (calls_from calls answer at size) account
    ≡ account_after_reads rule memory (calls_from calls answer ((at + 1) % 2 ^ 64) n)
    (account_after_reads rule memory (calls at) account)
unfolding calls_from
account_more rule memory calls answer at zero n b account s e = absurd (omega arith)
account_more rule memory calls answer at (suc k) n b account s e = let same : k ≡ n = omega arith in
    rw (e, same, after_reads_append) refl

-- the same of loads
pub load_calls_none : (core : View) (access : Access) (at size : ℕ) → size ≡ 0 → load_calls core access at size ≡ []
unfolding load_calls
load_calls_none core access at size e = calls_none _ _ at size e

pub load_account_stop : {Account : Type 0} (rule : PhysCall → Physical → Account
    → Account) (core : View) (access : Access) (at size : ℕ) (stop : BusStop) (account : Account)
    → 0 < size → view_byte core at access ≡ Err stop
    → account_after_reads rule core.physical (load_calls core access at size) account
    ≡ account_after_reads rule core.physical (byte_calls core access at) account
unfolding load_calls
load_account_stop rule core access at size stop account h e = account_stop rule core.physical _ _ at size stop account h e

pub load_account_more : {Account : Type 0} (rule : PhysCall → Physical → Account
    → Account) (core : View) (access : Access) (at size n b : ℕ) (account : Account)
    → size ≡ n + 1 → view_byte core at access ≡ Ok b
    → account_after_reads rule core.physical (load_calls core access at size) account
    ≡ account_after_reads rule core.physical (load_calls core access ((at + 1) % 2 ^ 64) n)
    (account_after_reads rule core.physical (byte_calls core access at) account)
unfolding load_calls
load_account_more rule core access at size n b account s e = account_more rule core.physical _ _ at size n b account s e

-- ---- the account of a load, byte by byte

load_account_by : {Account : Type 0} (rule : PhysCall → Physical → Account → Account) (core : View) (access : Access)
    (at count : ℕ) (account : Account) (answer : Result ℕ BusStop) → view_byte core at access ≡ answer
    → ((next : ℕ) (behind : Account) → account_after_bytes (byte_for (view_byte core) access) (account_after_byte rule core access) next
    count behind ≡ account_after_reads rule core.physical (load_calls core access next count) behind)
    → account_after_bytes (byte_for (view_byte core) access) (account_after_byte rule core access) at (suc count) account
    ≡ account_after_reads rule core.physical (load_calls core access at (suc count)) account
load_account_by rule core access at count account (Ok byte) is rest =
    bus.account_more (byte_for (view_byte core) access) (account_after_byte rule core access) at (suc count) count byte account (omega arith) is
    ∙ rest ((at + 1) % 2 ^ 64) (account_after_byte rule core access at account)
    ∙ sym (load_account_more rule core access at (suc count) count byte account (omega arith) is)
load_account_by rule core access at count account (Err stop) is rest =
    bus.account_stop (byte_for (view_byte core) access) (account_after_byte rule core access) at (suc count) stop account (omega arith) is
    ∙ sym (load_account_stop rule core access at (suc count) stop account (omega arith) is)

pub load_account : {Account : Type 0} (rule : PhysCall → Physical → Account → Account) (core : View) (access : Access)
    (at size : ℕ) (account : Account)
    → account_after_bytes (byte_for (view_byte core) access) (account_after_byte rule core access) at size account
    ≡ account_after_reads rule core.physical (load_calls core access at size) account
load_account rule core access at zero account =
    bus.account_none (byte_for (view_byte core) access) (account_after_byte rule core access) at 0 account refl
    ∙ ap (λ (calls : List PhysCall). account_after_reads rule core.physical calls account)
    (sym (load_calls_none core access at 0 refl))
load_account rule core access at (suc count) account =
    load_account_by rule core access at count account (view_byte core at access) refl
    (λ next behind. load_account rule core access next count behind)
