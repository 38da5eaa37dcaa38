-- The bytes of VMFUNC stand in each page at the switch alone: no other byte is D4.
use Rattle.std.proofs.Common.{◌≡◌, ℕ, zero, suc, ◌+◌, ◌-◌, Bool, true, ◌&&◌, List, [], ◌∷◌, ◌++◌, get_or, refl, subst, arith, inl, inr}
use Rattle.std.specs.Prelude.{not, ◌==◌}
use Rattle.std.proofs.Math.ListN.{get_or-eq_default}
use Rattle.std.proofs.lemmas.Bool.Decides.{leb_tells}
use Rattle.sb_scan.specs.Pattern.{HasPatternAt}
use Rattle.sb_tramp.specs.Page.{page_size, filler, page_of_rows, SwitchesAlone}
use Rattle.sb_tramp.specs.Home.{home_rows}
use Rattle.sb_tramp.specs.Server.{server_rows}
use Rattle.sb_tramp.proofs.Order.{code_from, length_filler, and_parts}
use Rattle.sb_tramp.proofs.Filling.{in_filler}
use Rattle.sb_tramp.proofs.Bytes.{home_laid, server_laid}

abbrev other : ℕ → Bool
other byte = not (byte == 0xD4)

abbrev absent : List ℕ → Bool
absent [] = true
absent (byte ∷ bytes) = other byte && absent bytes

-- D4 stands at this index at most
abbrev lone : List ℕ → ℕ → Bool
lone [] index = true
lone (byte ∷ bytes) zero = absent bytes
lone (byte ∷ bytes) (suc index) = other byte && lone bytes index

not_other : (byte : ℕ) → other byte ≡ true → byte ≡ 0xD4 → ⊥
not_other byte e is = let at = subst (λ (b : ℕ). other b ≡ true) is e in absurd cc

not_in_filler : (count index : ℕ) → get_or (filler count) index 0 ≡ 0xD4 → ⊥
not_in_filler count index is =
    elim (leb_tells count index) [
      | inl past ↦ let zeros = get_or-eq_default (filler count) 0 {n = index} (omega (arith, past.1, length_filler count)) in
          omega (arith, is, zeros)
      | inr within ↦ let filled = in_filler count index within.1 in omega (arith, is, filled)
    ]

not_behind : (code : List ℕ) (count index : ℕ) → absent code ≡ true → get_or (code ++ filler count) index 0 ≡ 0xD4 → ⊥
not_behind [] count index e is = not_in_filler count index is
not_behind (byte ∷ code) count zero e is = not_other byte (and_parts (other byte) (absent code) e).0 is
not_behind (byte ∷ code) count (suc index) e is = not_behind code count index (and_parts (other byte) (absent code) e).1 is

at_lone : (code : List ℕ) (count at index : ℕ) → lone code at ≡ true → get_or (code ++ filler count) index 0 ≡ 0xD4 → index ≡ at
at_lone [] count at index e is = absurd (not_in_filler count index is)
at_lone (byte ∷ code) count zero zero e is = refl
at_lone (byte ∷ code) count zero (suc index) e is = absurd (not_behind code count index e is)
at_lone (byte ∷ code) count (suc at) zero e is = absurd (not_other byte (and_parts (other byte) (lone code at) e).0 is)
at_lone (byte ∷ code) count (suc at) (suc index) e is =
    let same = at_lone code count at index (and_parts (other byte) (lone code at) e).1 is in omega (arith, same)

-- the switch stands, and no other place has its last byte
switches : (code : List ℕ) (count : ℕ) → lone code 0x42 ≡ true → HasPatternAt (code ++ filler count) 0x40
    → SwitchesAlone (code ++ filler count)
switches code count e here =
    (here, λ place found. let last = at_lone code count 0x42 (place + 2) e found.2 in omega (arith, last))

home_lone : lone (code_from 0 home_rows) 0x42 ≡ true
unfolding filler
home_lone = refl

server_lone : lone (code_from 0 server_rows) 0x42 ≡ true
unfolding filler
server_lone = refl

home_here : (count : ℕ) → HasPatternAt (code_from 0 home_rows ++ filler count) 0x40
unfolding filler
home_here count = (refl, refl, refl)

server_here : (count : ℕ) → HasPatternAt (code_from 0 server_rows ++ filler count) 0x40
unfolding filler
server_here count = (refl, refl, refl)

pub home_switches : SwitchesAlone (page_of_rows home_rows)
home_switches =
    subst SwitchesAlone (home_laid page_size refl)
    (switches (code_from 0 home_rows) (page_size - 0x6A) home_lone (home_here (page_size - 0x6A)))

pub server_switches : SwitchesAlone (page_of_rows server_rows)
server_switches =
    subst SwitchesAlone (server_laid page_size refl)
    (switches (code_from 0 server_rows) (page_size - 0xA5) server_lone (server_here (page_size - 0xA5)))
