-- Each row of the server page is fetched where a view shows that page.
use Rattle.std.proofs.Common.{◌≡◌, ◌∙◌, sym, ap, ℕ, zero, suc, ◌+◌, ◌/◌, ◌%◌, ◌^◌, ◌<◌, true, false, List, ◌++◌, ◌==◌, length, get_or, drop, refl, arith, Ok}
use Rattle.std.specs.Prelude.{Some}
use Rattle.std.proofs.lemmas.List.{get_or-drop, get_or_append_left}
use Rattle.sb_memory.specs.declared.address.Access.TheVariants.{Fetch}
use Rattle.sb_insn.specs.Spelling.{spelling}
use Rattle.sb_exec.proofs.OneFetch.{spelled_fetches}
use Rattle.sb_exec.specs.Fetching.{bytes_from_fetch, FetchesOn, fetch_of, after_fetches}
use Rattle.sb_tramp.specs.Page.{PageRow, StandsIn}
use Rattle.sb_tramp.specs.Server.{server_page}
use Rattle.sb_state.specs.declared.page.PageName.TheVariants.{ServerTrampoline}
use Rattle.sb_state.specs.declared.page.Mode.TheVariants as mode
use Rattle.sb_trace.specs.PageName.{mode_of}
use Rattle.sb_trace.specs.State.{State, contents, bytes_of}
use Rattle.sb_trace.specs.Windows.{name_at, process_shown, page_for}
use Rattle.sb_trace.specs.PlainMemory.{plain, plain_byte, is_canonical}
use Rattle.sb_trace.specs.Sound.{ArePagesSound}

-- ---- the server page in a server's view

server_there : (state : State) (thread view process : ℕ) → ArePagesSound state.pages → (view == 0) ≡ false
    → process_shown state.threads thread view ≡ Some process
    → page_for state thread view 0x70000 ≡ Some (record { name = ServerTrampoline; mode = mode.Fetch })
unfolding page_for name_at mode_of
server_there state thread view process sound away shows = rw (shows, away, sound.server.1) refl

below_top : (address : ℕ) → address < 2 ^ 47 → is_canonical address ≡ true
below_top address below =
    let top : address / 2 ^ 47 ≡ 0 = omega (arith, below) in
    rw top refl

no_account : (thread view : ℕ) (state : State) (address count : ℕ) → after_fetches (plain thread view) state address count tt ≡ tt
no_account thread view state address zero = refl
no_account thread view state address (suc count) = no_account thread view state address count

-- a byte of the page
pub server_byte : (state : State) (thread view process offset : ℕ) → ArePagesSound state.pages → (view == 0) ≡ false
    → process_shown state.threads thread view ≡ Some process
    → offset < 4096 → plain_byte thread view state (0x70000000 + offset) Fetch ≡ Ok (get_or server_page offset 0)
unfolding plain_byte contents
server_byte state thread view process offset sound away shows below =
    let page : (0x70000000 + offset) / 4096 ≡ 0x70000 = omega arith in
    let place : (0x70000000 + offset) % 4096 ≡ offset = omega arith in
    let canonical : is_canonical (0x70000000 + offset) ≡ true = below_top (0x70000000 + offset) (omega arith) in
    let there = server_there state thread view process sound away shows in
    rw (canonical, page, there, place) (ap (λ found. Ok (get_or (bytes_of found) offset 0)) sound.server.1
    ∙ ap (λ bytes. Ok (get_or bytes offset 0)) sound.server.2)

-- ---- a row

row_byte : (page : List ℕ) (offset index : ℕ) (bytes rest : List ℕ) → drop offset page ≡ bytes ++ rest → index < length bytes
    → get_or page (offset + index) 0 ≡ get_or bytes index 0
row_byte page offset index bytes rest is below =
    sym (get_or-drop offset page index 0) ∙ ap (λ (t : List ℕ). get_or t index 0) is ∙ get_or_append_left bytes rest 0 index below

-- the instruction of a row is fetched at its address
pub row_fetches : (state : State) (thread view process : ℕ) (row : PageRow) → ArePagesSound state.pages → (view == 0) ≡ false
    → process_shown state.threads thread view ≡ Some process
    → StandsIn server_page row → FetchesOn (plain thread view) state (0x70000000 + row.offset) tt tt (Ok row.insn)
row_fetches state thread view process row sound away shows stands = record {
  asked = length (spelling row.insn);
  fetched =
      spelled_fetches (fetch_of (plain thread view) state) (0x70000000 + row.offset) row.insn stands.begins.0 (λ index below.
      let inside = stands.inside in
      let place : bytes_from_fetch (0x70000000 + row.offset) index ≡ 0x70000000 + (row.offset + index) = omega arith in
      rw place (server_byte state thread view process (row.offset + index) sound away shows (omega arith)
      ∙ ap (λ byte. Ok byte)
      (row_byte server_page row.offset index (spelling row.insn) stands.begins.1.0 stands.begins.1.1 below)));
  account = sym (no_account thread view state (0x70000000 + row.offset) (length (spelling row.insn)));
}
