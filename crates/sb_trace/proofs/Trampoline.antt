-- VMFUNC's bytes stand in the trampoline page of every view that shows a process.
use Rattle.std.proofs.Common.{◌≡◌, ◌∙◌, sym, ap, subst, ℕ, zero, suc, ◌/◌, ◌%◌, ◌^◌, Bool, true, false, List, ◌==◌, get_or, refl, arith, Ok}
use Rattle.std.specs.Prelude.{Some, if◌then◌else◌}
use Rattle.std.specs.Option.{option_map, option_and_then}
use Rattle.sb_abi.specs.declared.trampoline.TheConstants.{VMFUNC_ADDRESS}
use Rattle.sb_memory.specs.declared.address.Access.TheVariants.{Fetch}
use Rattle.sb_exec.specs.Fetching.{bytes_from_fetch, Stands, fetch_of}
use Rattle.sb_scan.specs.Pattern.{pattern}
use Rattle.sb_tramp.specs.Home.{home_page}
use Rattle.sb_tramp.specs.Server.{server_page}
use Rattle.sb_tramp.proofs.Switches.{home_switches, server_switches}
use Rattle.sb_state.specs.declared.page.PageName.{PageName}
use Rattle.sb_state.specs.declared.page.PageName.TheVariants.{HomeTrampoline, ServerTrampoline}
use Rattle.sb_state.specs.declared.page.Mode.TheVariants as mode
use Rattle.sb_state.specs.declared.page.Page.{Page}
use Rattle.sb_state.specs.declared.page.SeenPage.{SeenPage}
use Rattle.sb_state.specs.PageName.{mode_of}
use Rattle.sb_state.specs.State.{State, contents, bytes_of}
use Rattle.sb_state.specs.Windows.{name_at, process_shown, page_by_name, page_and_mode, page_for}
use Rattle.sb_state.specs.PlainMemory.{plain, plain_byte, is_canonical}
use Rattle.sb_trace.specs.Sound.{ArePagesSound}
use Rattle.sb_trace.proofs.Fetchable.{trampoline_name, trampoline_bytes, trampoline_there}

trampoline_mode : (test executable : Bool) → mode_of (if test then HomeTrampoline else ServerTrampoline) executable ≡ mode.Fetch
unfolding mode_of
trampoline_mode true executable = refl
trampoline_mode false executable = refl

abbrev code_seen : PageName → SeenPage
code_seen name = record { name = name; mode = mode.Fetch }

trampoline_named : (state : State) (thread view process : ℕ)
    → name_at state.threads thread view 0x70000 process ≡ Some (trampoline_name view)
unfolding name_at
trampoline_named state thread view process = refl

trampoline_found : (pages : List Page) (view : ℕ) → ArePagesSound pages
    → page_by_name pages (trampoline_name view) ≡ Some (code_seen (trampoline_name view))
trampoline_found pages view sound =
    let there = trampoline_there (view == 0) pages sound in
    ap (λ found. option_map (page_and_mode (trampoline_name view)) found) there.1
    ∙ ap (λ how. Some (record { name = trampoline_name view; mode = how })) (trampoline_mode (view == 0) there.0.executable)

-- every view that shows a process sees its trampoline page
pub trampoline_seen : (state : State) (thread view process : ℕ) → ArePagesSound state.pages
    → process_shown state.threads thread view ≡ Some process
    → page_for state thread view 0x70000 ≡ Some (code_seen (trampoline_name view))
unfolding page_for
trampoline_seen state thread view process sound shows =
    ap (λ found. option_and_then (page_by_name state.pages) (option_and_then (name_at state.threads thread view 0x70000) found))
    shows
    ∙ (ap (λ name. option_and_then (page_by_name state.pages) name) (trampoline_named state thread view process)
    ∙ trampoline_found state.pages view sound)

-- a byte of the trampoline, where it may be fetched
pub trampoline_fetched : (state : State) (thread view process address offset : ℕ) → ArePagesSound state.pages
    → process_shown state.threads thread view ≡ Some process
    → is_canonical address ≡ true → address / 4096 ≡ 0x70000 → address % 4096 ≡ offset
    → plain_byte thread view state address Fetch ≡ Ok (get_or (trampoline_bytes view) offset 0)
unfolding plain_byte contents
trampoline_fetched state thread view process address offset sound shows canonical page place =
    let there = trampoline_there (view == 0) state.pages sound in
    let one : page_for state thread view (address / 4096) ≡ Some (code_seen (trampoline_name view)) =
    subst (λ n. page_for state thread view n ≡ Some (code_seen (trampoline_name view))) (sym page)
    (trampoline_seen state thread view process sound shows) in
    rw (canonical, one, place)
    (ap (λ found. Ok (get_or (bytes_of found) offset 0)) there.1 ∙ ap (λ bytes. Ok (get_or bytes offset 0)) there.2)

switch_bytes : (test : Bool)
    → (get_or (if test then home_page else server_page) 0x40 0 ≡ 0x0F)
    × (get_or (if test then home_page else server_page) 0x41 0 ≡ 0x01)
    × (get_or (if test then home_page else server_page) 0x42 0 ≡ 0xD4)
switch_bytes true = home_switches.0
switch_bytes false = server_switches.0

pub switch_stands : (state : State) (thread view process address : ℕ) → ArePagesSound state.pages
    → process_shown state.threads thread view ≡ Some process
    → address % 2 ^ 64 ≡ VMFUNC_ADDRESS → Stands (fetch_of (plain thread view) state) address pattern
switch_stands state thread view process address sound shows at zero below =
    let place : bytes_from_fetch address 0 ≡ 0x70000040 = omega arith in
    subst (λ n. plain_byte thread view state n Fetch ≡ Ok 0x0F) (sym place)
    (trampoline_fetched state thread view process 0x70000040 0x40 sound shows refl refl refl
    ∙ ap (λ byte. Ok byte) (switch_bytes (view == 0)).0)
switch_stands state thread view process address sound shows at (suc zero) below =
    let place : bytes_from_fetch address 1 ≡ 0x70000041 = omega arith in
    subst (λ n. plain_byte thread view state n Fetch ≡ Ok 0x01) (sym place)
    (trampoline_fetched state thread view process 0x70000041 0x41 sound shows refl refl refl
    ∙ ap (λ byte. Ok byte) (switch_bytes (view == 0)).1)
switch_stands state thread view process address sound shows at (suc (suc zero)) below =
    let place : bytes_from_fetch address 2 ≡ 0x70000042 = omega arith in
    subst (λ n. plain_byte thread view state n Fetch ≡ Ok 0xD4) (sym place)
    (trampoline_fetched state thread view process 0x70000042 0x42 sound shows refl refl refl
    ∙ ap (λ byte. Ok byte) (switch_bytes (view == 0)).2)
switch_stands state thread view process address sound shows at (suc (suc (suc index))) below = absurd (omega arith)
