-- An instruction that stands in the page that an access reaches.
use Rattle.std.proofs.Common.{◌≡◌, ℕ, ◌+◌, ◌%◌, ◌^◌, ◌<◌, Ok, length, drop, ap, ◌∙◌, sym, arith, refl}
use Rattle.std.specs.Prelude.{Option, Some, None, IfSome}
use Rattle.std.proofs.lemmas.List.{get_or-drop, length-drop}
use Rattle.sb_memory.specs.declared.address.Access.TheVariants.{Fetch}
use Rattle.sb_insn.specs.declared.insn.Insn.{Insn}
use Rattle.sb_insn.specs.Spelling.{spelling}
use Rattle.sb_insn.specs.Grammar.{BeginsWith}
use Rattle.sb_exec.specs.Fetching.{Stands, FetchesOn, fetch_of}
use Rattle.sb_exec.proofs.AtOnce.{fetched_at_once}
use Rattle.sb_state.specs.declared.page.PageName.{PageName}
use Rattle.sb_state.specs.declared.page.Page.{Page}
use Rattle.sb_state.specs.State.{State, find_page}
use Rattle.sb_state.specs.PlainMemory.{plain}
use Rattle.sb_state.specs.NameForAccess.{name_for_access}
use Rattle.sb_state.proofs.InPage.{byte_in_page}

-- the rest of the page stands there
page_stands : (thread view : ℕ) (state : State) (address : ℕ) (name : PageName) (page : Page) → address < 2 ^ 64
    → length page.bytes ≡ 4096
    → name_for_access thread view state address Fetch ≡ Ok name → find_page state.pages name ≡ Some page
    → Stands (fetch_of (plain thread view) state) address (drop (address % 4096) page.bytes)
page_stands thread view state address name page fits whole is found index below =
    let inside : address % 4096 + index < 4096 = omega (arith, below, whole, length-drop (address % 4096) page.bytes) in
    byte_in_page thread view state address index Fetch name page fits inside is found
    ∙ ap (λ (b : ℕ). Ok b) (sym (get_or-drop (address % 4096) page.bytes index 0))

-- no account is kept
no_account : (account : Unit {0}) → tt ≡ account
no_account account = refl

-- the instruction that begins the rest of the page
pub fetched_in_page : (thread view : ℕ) (state : State) (address : ℕ) (name : PageName) (page : Page) (insn : Insn)
    → address < 2 ^ 64
    → length page.bytes ≡ 4096 → name_for_access thread view state address Fetch ≡ Ok name
    → find_page state.pages name ≡ Some page
    → BeginsWith (drop (address % 4096) page.bytes) insn → FetchesOn (plain thread view) state address tt tt (Ok insn)
fetched_in_page thread view state address name page insn fits whole is found begins = record {
  asked = length (spelling insn);
  fetched = fetched_at_once (fetch_of (plain thread view) state) address (drop (address % 4096) page.bytes) insn begins
      (page_stands thread view state address name page fits whole is found);
  account = no_account _;
}

pub found_in_page : (thread view : ℕ) (state : State) (address : ℕ) (name : PageName) (page : Page) (found : Option Insn)
    → address < 2 ^ 64
    → length page.bytes ≡ 4096 → name_for_access thread view state address Fetch ≡ Ok name
    → find_page state.pages name ≡ Some page
    → IfSome found (λ insn. BeginsWith (drop (address % 4096) page.bytes) insn)
    → IfSome found (λ insn. FetchesOn (plain thread view) state address tt tt (Ok insn))
found_in_page thread view state address name page None fits whole is there begins = tt
found_in_page thread view state address name page (Some insn) fits whole is there begins =
    fetched_in_page thread view state address name page insn fits whole is there begins
