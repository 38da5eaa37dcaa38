-- An instruction whose bytes lie one after another in memory.
use Rattle.std.proofs.Common.{◌≡◌, ℕ, ◌<◌, Ok, length, take, drop, ap, ◌∙◌, sym, arith, refl}
use Rattle.std.specs.Prelude.{Option, Some, None, IfSome}
use Rattle.std.proofs.lemmas.List.{get_or-drop, get_or-take, length-drop, length-take-le}
use Rattle.sb_memory.specs.declared.address.Access.TheVariants.{Fetch}
use Rattle.sb_insn.specs.declared.insn.Insn.{Insn}
use Rattle.sb_insn.specs.Spelling.{spelling}
use Rattle.sb_insn.specs.Grammar.{BeginsWith}
use Rattle.sb_exec.specs.Fetching.{Stands, FetchesOn, fetch_of}
use Rattle.sb_exec.proofs.AtOnce.{fetched_at_once}
use Rattle.sb_nested.specs.View.{View}
use Rattle.sb_nested.specs.Store.{view_interface}
use Rattle.sb_core_bus.specs.LiesAt.{LiesAt}
use Rattle.sb_core_bus.specs.Account.{no_account}
use Rattle.sb_core_bus.proofs.InPage.{byte_at_place}

-- the bytes stand at the address
bytes_stand : (core : View) (at size place : ℕ) → LiesAt core Fetch at size place
    → Stands (fetch_of (view_interface no_account) core) at (take size (drop place core.physical.bytes))
bytes_stand core at size place lies index below =
    let whole = lies.whole in
    let fits = lies.fits in
    let behind = length-drop place core.physical.bytes in
    let taken = length-take-le size (drop place core.physical.bytes) (omega (arith, whole, fits, behind)) in
    let few : index < size = omega (arith, below, taken) in
    byte_at_place core Fetch at size place index lies few
    ∙ ap (λ (b : ℕ). Ok b)
    (sym (get_or-take size (drop place core.physical.bytes) index 0 few ∙ get_or-drop place core.physical.bytes index 0))

-- no account is kept
no_note : (account : Unit {0}) → tt ≡ account
no_note account = refl

fetched_in_page : (core : View) (at size place : ℕ) (insn : Insn) → LiesAt core Fetch at size place
    → BeginsWith (take size (drop place core.physical.bytes)) insn
    → FetchesOn (view_interface no_account) core at tt tt (Ok insn)
fetched_in_page core at size place insn lies begins = record {
  asked = length (spelling insn);
  fetched = fetched_at_once (fetch_of (view_interface no_account) core) at (take size (drop place core.physical.bytes)) insn
      begins (bytes_stand core at size place lies);
  account = no_note _;
}

pub found_in_page : (core : View) (at size place : ℕ) (found : Option Insn) → LiesAt core Fetch at size place
    → IfSome found (λ insn. BeginsWith (take size (drop place core.physical.bytes)) insn)
    → IfSome found (λ insn. FetchesOn (view_interface no_account) core at tt tt (Ok insn))
found_in_page core at size place None lies begins = tt
found_in_page core at size place (Some insn) lies begins = fetched_in_page core at size place insn lies begins
