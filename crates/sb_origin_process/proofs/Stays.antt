-- An instruction changes nothing that is fetched.
use Rattle.std.proofs.Common.{◌≡◌, ◌∙◌, sym, ap, subst, ℕ, ◌/◌, ◌%◌, Bool, true, false, refl, Result, Ok, Err}
use Rattle.std.specs.Prelude.{slice_index, Option, Some, None, if◌then◌else◌}
use Rattle.std.proofs.Math.Path.{fun_ext}
use Rattle.sb_memory.specs.declared.address.Access.TheVariants.{Fetch, Write}
use Rattle.sb_bus.specs.declared.stop.BusStop.{BusStop}
use Rattle.sb_bus.specs.declared.stop.FaultKind.TheVariants.{Memory}
use Rattle.sb_pages.specs.declared.page.PageName.{PageName}
use Rattle.sb_pages.specs.declared.page.Page.{Page}
use Rattle.sb_pages.specs.declared.page.SeenPage.{SeenPage}
use Rattle.sb_pages.specs.declared.page.Mode.{Mode}
use Rattle.sb_pages.specs.declared.page.Mode.TheVariants as mode
use Rattle.sb_pages.specs.PageName.{mode_of, permits}
use Rattle.sb_exec.specs.Execution.{execution_of}
use Rattle.sb_state.specs.State.{State, find_page, contents, bytes_of}
use Rattle.sb_state.specs.Windows.{page_for}
use Rattle.sb_state.specs.PlainMemory.{plain_byte, byte_seen, byte_in, is_canonical, fault_at, plain}
use Rattle.sb_trace.specs.Changes.{IsClosed}
use Rattle.sb_trace.proofs.CodePages.{seen_found}
use Rattle.sb_trace.proofs.Stores.{Written, seen_kept, execution_written}
use Rattle.sb_origin_process.specs.Process.{FetchesStay}

-- what may be fetched may not be written
fetch_or_write : (how : Mode) → permits how Fetch ≡ true → permits how Write ≡ true → ⊥
fetch_or_write mode.Fetch fetched written = cc
fetch_or_write mode.Read fetched written = cc
fetch_or_write mode.ReadWrite fetched written = cc

same_page : (one other : Page) (found : Option Page) → found ≡ Some one → found ≡ Some other → one ≡ other
same_page one other found first second = cc

-- so a page that a view fetches is closed to every thread in every view
fetched_closed : (state : State) (thread view number index page : ℕ) (one : SeenPage)
    → page_for state number index page ≡ Some one → permits one.mode Fetch ≡ true → IsClosed state thread view one.name
fetched_closed state thread view number index page one is fetched place seen there written same =
    let first = seen_found state number index page one is in
    let second = seen_found state thread view place seen there in
    let equal : second.0 ≡ first.0 =
    same_page second.0 first.0 (find_page state.pages one.name)
    (subst (λ n. find_page state.pages n ≡ Some second.0) same second.1) first.1 in
    let modes : seen.mode ≡ one.mode =
    second.2 ∙ (ap (λ n. mode_of n second.0.executable) same
    ∙ (ap (λ (p : Page). mode_of one.name p.executable) equal ∙ sym first.2)) in
    fetch_or_write one.mode fetched (subst (λ m. permits m Write ≡ true) modes written)

-- a page that did not change has the byte it had
same_byte : (state after : State) (name : PageName) (place : ℕ)
    → find_page after.pages name ≡ find_page state.pages name → byte_in after name place ≡ byte_in state name place
unfolding contents
same_byte state after name place same = ap (λ found. slice_index (bytes_of found) place) same

page_stays : (state after : State) (thread view number index page address : ℕ) (found : Option SeenPage)
    → Written state thread view after → page_for state number index page ≡ found
    → byte_seen after found address Fetch ≡ byte_seen state found address Fetch
page_stays state after thread view number index page address None written is = refl
page_stays state after thread view number index page address (Some one) written is =
    by_right (permits one.mode Fetch) refl
  where
    by_right : (right : Bool) → permits one.mode Fetch ≡ right
        → (if right then Ok (byte_in after one.name (address % 4096)) else Err (fault_at Memory address))
        ≡ (if right then Ok (byte_in state one.name (address % 4096)) else Err (fault_at Memory address))
    by_right true fetched =
        ap (λ (byte : ℕ). Ok byte)
        (same_byte state after one.name (address % 4096)
        (written.closed one.name (fetched_closed state thread view number index page one is fetched)))
    by_right false fetched = refl

by_canonical : (test : Bool) (one other stop : Result ℕ BusStop) → one ≡ other
    → (if test then one else stop) ≡ (if test then other else stop)
by_canonical true one other stop same = same
by_canonical false one other stop same = refl

byte_stays : (state after : State) (thread view number index address : ℕ) → Written state thread view after
    → plain_byte number index after address Fetch ≡ plain_byte number index state address Fetch
unfolding plain_byte
byte_stays state after thread view number index address written =
    by_canonical (is_canonical address) _ _ _
    (ap (λ found. byte_seen after found address Fetch)
    (seen_kept state after number index (address / 4096) written.keeps)
    ∙ page_stays state after thread view number index (address / 4096) address (page_for state number index (address / 4096))
    written refl)

pub fetches_stay : FetchesStay
fetches_stay thread view number index row regs state =
    fun_ext (λ address.
    byte_stays state (execution_of (plain thread view) row regs state tt).meaning thread view number index address
    (execution_written thread view row regs state))
