-- The instructions around a main one are quiet.
use Rattle.std.proofs.Common.{◌≡◌, ℕ, suc, ◌+◌, ◌-◌, ◌*◌, ◌/◌, ◌%◌, ◌≤◌, ◌<◌, true, false, List, [], ◌∷◌, ◌++◌, Option, Some, None, refl, sym, ap, ◌∙◌, arith, subst, ⊎_elim, FitsSigned, ℤ, pos, negsuc, ◌-ℤ◌, ltb}
use Rattle.std.specs.Prelude.{unwrap_or}
use Rattle.std.specs.Int.{w8, w32, cast_unsigned}
use Rattle.std.specs.Option.{option_to_list}
use Rattle.std.proofs.lemmas.Bool.{cond_both, cond-false, cases_eq, eqb-false, le-ltb, false_from_ne_true, false≢true}
use Rattle.sb_insn.specs.declared.insn.Insn.{Insn}
use Rattle.sb_insn.specs.declared.insn.Op.TheVariants.{One}
use Rattle.sb_insn.specs.declared.insn.Disp.{Disp}
use Rattle.sb_insn.specs.declared.insn.Disp.TheVariants as disp
use Rattle.sb_insn.specs.Spelling.{number, disp_bytes, spelling}
use Rattle.sb_insn.specs.Fields.{mod_field, rm_field, is_sib_field, modrm_disp, disp_kind_of, kind_of_disp, rex_x, rex_b, is_from_next}
use Rattle.sb_insn.specs.Grammar.{FitsDisp, IsValid}
use Rattle.sb_forms.specs.declared.helper.Helper.{Helper}
use Rattle.sb_forms.specs.declared.helper.Helper.TheVariants.{Rcx, Rdx, Rbx, Rsi, Rdi}
use Rattle.sb_scan.proofs.Held.{nothing_holds, byte_holds}
use Rattle.sb_forms.specs.Holding.{holds_pattern}
use Rattle.sb_insn.specs.RegisterNumbers.{modrm_of}
use Rattle.sb_forms.specs.Registers.{number_of}
use Rattle.sb_forms.specs.Pieces.{first_saved, second_saved, scratch_word, upper_half, save, restore, save_half, load_number, add_number, lowered_displacement, lacking, add_step_back, load_constant, sib_exchanged, is_sib_0f, without_sib_0f, load_address, address_from, address_at, address_by, load_address_of_operand, jump_insn, jump_through}
use Rattle.sb_forms.proofs.Lowered.{in_four, lowered_holds}
use Rattle.sb_forms.proofs.Operands.{no_sib_7, no_disp_7, kind_none}
use Rattle.sb_forms.proofs.Quiet.{IsQuiet, AreQuiet, skip}
use Rattle.sb_forms.proofs.Leads.{x_1, b_1, lead_quiet}

-- ---- numbers

-- a small number has D4 in neither of its upper bytes
pub small_holds : (n : ℕ) → n < 0xD40000 → holds_pattern (number w32 (pos n)) ≡ false
small_holds n small = false_from_ne_true (holds_pattern (number w32 (pos n))) (λ e.
    ⊎_elim
    (λ first. omega (arith, small, first.2))
    (λ last. omega (arith, small, last.2))
    (in_four (n % 256) (n / 256 % 256) (n / 65536 % 256) (n / 16777216 % 256) e))

-- ---- at an address

save_holds : (helper : Helper) (address : ℤ) → holds_pattern (number w32 address) ≡ false
    → IsQuiet (spelling (save helper address))
unfolding save holds_pattern
save_holds Rcx address e = record { none = e; two = refl; one = refl }
save_holds Rdx address e = record { none = e; two = refl; one = refl }
save_holds Rbx address e = record { none = e; two = refl; one = refl }
save_holds Rsi address e = record { none = e; two = refl; one = refl }
save_holds Rdi address e = record { none = e; two = refl; one = refl }

restore_holds : (helper : Helper) (address : ℤ) → holds_pattern (number w32 address) ≡ false
    → IsQuiet (spelling (restore helper address))
unfolding restore holds_pattern
restore_holds Rcx address e = record { none = e; two = refl; one = refl }
restore_holds Rdx address e = record { none = e; two = refl; one = refl }
restore_holds Rbx address e = record { none = e; two = refl; one = refl }
restore_holds Rsi address e = record { none = e; two = refl; one = refl }
restore_holds Rdi address e = record { none = e; two = refl; one = refl }

save_half_holds : (helper : Helper) (address : ℤ) → holds_pattern (number w32 address) ≡ false
    → IsQuiet (spelling (save_half helper address))
unfolding save_half holds_pattern
save_half_holds Rcx address e = record { none = e; two = refl; one = refl }
save_half_holds Rdx address e = record { none = e; two = refl; one = refl }
save_half_holds Rbx address e = record { none = e; two = refl; one = refl }
save_half_holds Rsi address e = record { none = e; two = refl; one = refl }
save_half_holds Rdi address e = record { none = e; two = refl; one = refl }

-- the words of the scratch page
first_holds : holds_pattern (number w32 first_saved) ≡ false
unfolding holds_pattern
first_holds = refl

second_holds : holds_pattern (number w32 second_saved) ≡ false
unfolding holds_pattern
second_holds = refl

word_holds : holds_pattern (number w32 scratch_word) ≡ false
unfolding holds_pattern
word_holds = refl

half_holds : holds_pattern (number w32 upper_half) ≡ false
unfolding holds_pattern
half_holds = refl

pub save_first : (helper : Helper) → IsQuiet (spelling (save helper first_saved))
save_first helper = save_holds helper first_saved first_holds

pub save_second : (helper : Helper) → IsQuiet (spelling (save helper second_saved))
save_second helper = save_holds helper second_saved second_holds

pub save_word : (helper : Helper) → IsQuiet (spelling (save helper scratch_word))
save_word helper = save_holds helper scratch_word word_holds

pub save_low : (helper : Helper) → IsQuiet (spelling (save_half helper scratch_word))
save_low helper = save_half_holds helper scratch_word word_holds

pub save_high : (helper : Helper) → IsQuiet (spelling (save_half helper upper_half))
save_high helper = save_half_holds helper upper_half half_holds

pub restore_first : (helper : Helper) → IsQuiet (spelling (restore helper first_saved))
restore_first helper = restore_holds helper first_saved first_holds

pub restore_second : (helper : Helper) → IsQuiet (spelling (restore helper second_saved))
restore_second helper = restore_holds helper second_saved second_holds

pub jump_through_word : IsQuiet (spelling (jump_through scratch_word))
unfolding jump_through holds_pattern
jump_through_word = record { none = refl; two = refl; one = refl }

-- ---- constants

load_holds : (helper : Helper) (value : ℤ) → holds_pattern (number w32 value) ≡ false
    → IsQuiet (spelling (load_number helper value))
unfolding load_number holds_pattern
load_holds Rcx value e = record { none = e; two = refl; one = refl }
load_holds Rdx value e = record { none = e; two = refl; one = refl }
load_holds Rbx value e = record { none = e; two = refl; one = refl }
load_holds Rsi value e = record { none = e; two = refl; one = refl }
load_holds Rdi value e = record { none = e; two = refl; one = refl }

add_holds : (helper : Helper) (amount : ℤ) → holds_pattern (number w32 amount) ≡ false
    → IsQuiet (spelling (add_number helper amount))
unfolding add_number holds_pattern
add_holds Rcx amount e = record { none = e; two = refl; one = refl }
add_holds Rdx amount e = record { none = e; two = refl; one = refl }
add_holds Rbx amount e = record { none = e; two = refl; one = refl }
add_holds Rsi amount e = record { none = e; two = refl; one = refl }
add_holds Rdi amount e = record { none = e; two = refl; one = refl }

pub raise_quiet : (helper : Helper) (value : ℤ) → AreQuiet (add_step_back helper value)
unfolding add_step_back
raise_quiet helper value =
    cond_both (holds_pattern (number w32 value)) (add_number helper (pos 0x100) ∷ []) [] (λ insns. AreQuiet insns)
    (λ _. (add_holds helper (pos 0x100) (small_holds 0x100 (omega arith)), tt)) (λ _. tt)

pub constant_quiet : (helper : Helper) (value : ℤ) → FitsSigned w32 value → AreQuiet (load_constant helper value)
unfolding load_constant
constant_quiet helper value fits =
    (load_holds helper (lowered_displacement value) (lowered_holds value fits), raise_quiet helper value)

-- ---- the address of a memory operand

lacking_100 : (value : ℤ) → lacking value ≤ 0x100
unfolding lacking
lacking_100 value = cond_both (holds_pattern (number w32 value)) 0x100 0 (λ n. n ≤ 0x100) (λ _. omega arith) (λ _. omega arith)

from_quiet : (helper : Helper) (next : ℕ) (distance : ℤ) → next ≤ 0x600010 → FitsSigned w32 distance
    → AreQuiet (address_from helper next distance)
unfolding address_from
from_quiet helper next distance near fits = (
  load_holds helper (lowered_displacement distance) (lowered_holds distance fits),
  (
    add_holds helper (pos (next + lacking distance))
        (small_holds (next + lacking distance) (omega (arith, lacking_100 distance))),
    tt,
  ),
)

-- the displacement of a lea
disp_holds : (displacement : Disp) → holds_pattern (disp_bytes displacement) ≡ false
    → holds_pattern (disp_bytes displacement ++ []) ≡ false
disp_holds disp.None e = e
disp_holds (disp.D8 value) e = e
disp_holds (disp.D32 value) e = e

sib_holds : (sib : Option ℕ) (rest : List ℕ) → is_sib_0f sib ≡ false → holds_pattern rest ≡ false
    → holds_pattern (option_to_list sib ++ rest) ≡ false
sib_holds None rest other e = e
sib_holds (Some sib) rest other e = skip sib rest (eqb-false sib 0x0F other) ∙ e

-- ModRM of a lea is 0F where the operand is [RDI] and the helper RCX: no SIB byte and no displacement stand behind it
abbrev IsBare : ℕ → Option ℕ → Disp → Type 0
IsBare modrm sib displacement = modrm ≡ 0x0F → (sib ≡ None) × (displacement ≡ disp.None)

operand_holds : (modrm : ℕ) (sib : Option ℕ) (displacement : Disp) → IsBare modrm sib displacement → is_sib_0f sib ≡ false
    → holds_pattern (disp_bytes displacement) ≡ false
    → holds_pattern (modrm ∷ (option_to_list sib ++ (disp_bytes displacement ++ []))) ≡ false
operand_holds modrm sib displacement bare other e =
    ⊎_elim
    (λ is.
    let alone : holds_pattern (modrm ∷ (option_to_list None ++ (disp_bytes disp.None ++ []))) ≡ false = byte_holds modrm in
    subst
    (λ d. holds_pattern (modrm ∷ (option_to_list sib ++ (disp_bytes d ++ []))) ≡ false)
    (sym (bare is).1)
    (subst (λ s. holds_pattern (modrm ∷ (option_to_list s ++ (disp_bytes disp.None ++ []))) ≡ false) (sym (bare is).0) alone))
    (λ is_not. skip modrm (option_to_list sib ++ (disp_bytes displacement ++ [])) is_not
    ∙ sib_holds sib (disp_bytes displacement ++ []) other (disp_holds displacement e))
    (cases_eq modrm 0x0F)

-- ModRM of the lea
abbrev lea_modrm : Helper → Insn → ℕ
lea_modrm helper insn = 64 * mod_field (modrm_of insn) + 8 * number_of helper + rm_field (modrm_of insn)

lea_quiet : (helper : Helper) (insn : Insn) (displacement : Disp) → IsBare (lea_modrm helper insn) insn.sib displacement
    → is_sib_0f insn.sib ≡ false → holds_pattern (disp_bytes displacement) ≡ false
    → IsQuiet (spelling (load_address helper insn displacement))
unfolding load_address
lea_quiet helper insn displacement bare other e =
    lead_quiet
    false
    (Some (0x48 + 2 * rex_x insn.rex + rex_b insn.rex))
    (One 0x8D)
    (lea_modrm helper insn ∷ (option_to_list insn.sib ++ (disp_bytes displacement ++ [])))
    (omega (arith, x_1 insn.rex), omega (arith, x_1 insn.rex, b_1 insn.rex))
    (λ is. omega (arith, is), λ is. omega (arith, is))
    (λ is. absurd (omega (arith, is)))
    (operand_holds (lea_modrm helper insn) insn.sib displacement bare other e)

-- ---- the instruction is a valid one

pub number_1 : (helper : Helper) → 1 ≤ number_of helper
number_1 Rcx = omega arith
number_1 Rdx = omega arith
number_1 Rbx = omega arith
number_1 Rsi = omega arith
number_1 Rdi = omega arith

pub number_7 : (helper : Helper) → number_of helper ≤ 7
number_7 Rcx = omega arith
number_7 Rdx = omega arith
number_7 Rbx = omega arith
number_7 Rsi = omega arith
number_7 Rdi = omega arith

bare_by : (modrm sib : Option ℕ) (displacement : Disp) (helper : Helper) → is_sib_field modrm sib ≡ true
    → kind_of_disp displacement ≡ disp_kind_of modrm sib
    → 64 * mod_field (unwrap_or modrm 0) + 8 * number_of helper + rm_field (unwrap_or modrm 0) ≡ 0x0F
    → (sib ≡ None) × (displacement ≡ disp.None)
bare_by None sib displacement helper stands kind is = absurd (omega (arith, is, number_1 helper))
bare_by (Some modrm) sib displacement helper stands kind is =
    let zero_mod : mod_field modrm ≡ 0 = omega (arith, is, number_1 helper) in
    let seven : rm_field modrm ≡ 7 = omega (arith, is, number_1 helper) in
    let no_sib = no_sib_7 modrm sib seven stands in
    (no_sib, kind_none displacement (kind ∙ ap (λ s. modrm_disp modrm s) no_sib ∙ no_disp_7 modrm zero_mod seven))

bare_of : (helper : Helper) (insn : Insn) → IsValid insn → IsBare (lea_modrm helper insn) insn.sib insn.disp
bare_of helper insn valid is = bare_by insn.modrm insn.sib insn.disp helper valid.sib valid.disp is

-- with base and index exchanged where SIB is 0F
abbrev IsOperand : Helper → Disp → Insn → Type 0
IsOperand helper displacement insn = (is_sib_0f insn.sib ≡ false) × IsBare (lea_modrm helper insn) insn.sib displacement

operand_of_valid : (helper : Helper) (insn : Insn) → IsValid insn → IsOperand helper insn.disp (without_sib_0f insn)
unfolding without_sib_0f sib_exchanged
operand_of_valid helper insn valid =
    cond_both
    (is_sib_0f insn.sib)
    (sib_exchanged insn)
    insn
    (λ i. IsOperand helper insn.disp i)
    (λ e. (refl, λ is. absurd (false≢true (sym (ap (λ s. is_sib_0f s) (bare_of helper insn valid is).0) ∙ e))))
    (λ e. (e, bare_of helper insn valid))

lowered_quiet : (helper : Helper) (insn : Insn) (distance : ℤ) → IsOperand helper (disp.D32 distance) insn
    → FitsSigned w32 distance
    → AreQuiet (load_address helper insn (disp.D32 (lowered_displacement distance)) ∷ add_step_back helper distance)
lowered_quiet helper insn distance operand fits = (
  lea_quiet helper insn (disp.D32 (lowered_displacement distance)) (λ is. let wrong = (operand.1 is).1 in
      absurd cc) operand.0 (lowered_holds distance fits),
  raise_quiet helper distance,
)

by_quiet : (helper : Helper) (insn : Insn) (next : ℕ) (displacement : Disp) → next ≤ 0x600010
    → IsOperand helper displacement insn → FitsDisp displacement → AreQuiet (address_by helper insn next displacement)
unfolding address_at
by_quiet helper insn next disp.None near operand fits = (lea_quiet helper insn disp.None operand.1 operand.0 nothing_holds, tt)
by_quiet helper insn next (disp.D8 value) near operand fits =
    (lea_quiet helper insn (disp.D8 value) operand.1 operand.0 (byte_holds (cast_unsigned w8 value % 256)), tt)
by_quiet helper insn next (disp.D32 distance) near operand fits =
    cond_both
    (is_from_next (modrm_of insn))
    (address_from helper next distance)
    (load_address helper insn (disp.D32 (lowered_displacement distance)) ∷ add_step_back helper distance)
    (λ insns. AreQuiet insns)
    (λ _. from_quiet helper next distance near fits)
    (λ _. lowered_quiet helper insn distance operand fits)

pub address_quiet : (helper : Helper) (insn : Insn) (next : ℕ) → IsValid insn → next ≤ 0x600010
    → AreQuiet (load_address_of_operand helper insn next)
unfolding load_address_of_operand
address_quiet helper insn next valid near =
    by_quiet helper (without_sib_0f insn) next insn.disp near (operand_of_valid helper insn valid) valid.disp_fits

-- ---- the jump back

less : (to from : ℕ) → suc from ≤ to → pos to -ℤ pos (suc from) ≡ pos (to - suc from)
less to from below =
    cond-false (ltb to (suc from)) (negsuc (suc from - suc to)) (pos (to - suc from)) (le-ltb to (suc from) below)

distance_is : (from to : ℕ) → from + 5 ≤ to → pos to -ℤ pos (from + 5) ≡ pos (to - (from + 5))
distance_is from to below =
    let next : from + 5 ≡ suc (from + 4) = omega arith in
    ap (λ (n : ℕ). pos to -ℤ pos n) next ∙ less to (from + 4) (omega (arith, below)) ∙ ap (λ (n : ℕ). pos (to - n)) (sym next)

pub jump_quiet : (from to : ℕ) → from + 5 ≤ to → to < 0xD40000 → IsQuiet (spelling (jump_insn from to))
unfolding jump_insn
jump_quiet from to below near = record {
  none =
      skip 0xE9 (number w32 (pos to -ℤ pos (from + 5))) (λ is. omega (arith, is))
      ∙ ap (λ z. holds_pattern (number w32 z)) (distance_is from to below)
      ∙ small_holds (to - (from + 5)) (omega (arith, near));
  two = refl;
  one = refl;
}
