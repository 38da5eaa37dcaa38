-- What the instructions before main save.
use Rattle.std.proofs.Common.{◌≡◌, ℕ, ◌+◌, List, [], ◌∷◌, ◌++◌, refl, sym, ap, ◌∙◌, ℤ, pos}
use Rattle.std.proofs.lemmas.List.{append-nil}
use Rattle.std.proofs.lemmas.Bool.{cond_both}
use Rattle.std.specs.List.{AllByRecursion}
use Rattle.sb_insn.specs.declared.insn.Insn.{Insn}
use Rattle.sb_insn.specs.declared.insn.Disp.{Disp}
use Rattle.sb_insn.specs.declared.insn.Disp.TheVariants as disp
use Rattle.sb_forms.specs.declared.helper.Helper.{Helper}
use Rattle.sb_forms.specs.declared.helper.Helper.TheVariants.{Rcx, Rdx, Rbx, Rsi, Rdi}
use Rattle.sb_insn.specs.RegisterNumbers.{modrm_of}
use Rattle.sb_forms.specs.Registers.{number_of}
use Rattle.sb_insn.specs.Fields.{is_from_next}
use Rattle.sb_forms.specs.Pieces.{scratch_word, upper_half, save, save_half, load_number, add_number, is_lowered, lowered_displacement, lacking, add_step_back, load_constant, without_sib_0f, load_address, address_from, address_at, address_by, load_address_of_operand}
use Rattle.sb_original.specs.Words.{FirstSaved, SecondSaved}
use Rattle.sb_original.specs.Slot.{address_of}
use Rattle.sb_original.specs.Original.{Save, Stage, saved_by, AreDone, staged}

-- it saves nothing
abbrev pub SavesNothing : Insn → Type 0
SavesNothing insn = saved_by insn ≡ []

save_first : (helper : Helper)
    → saved_by (save helper (address_of FirstSaved)) ≡ record { number = number_of helper; which = FirstSaved } ∷ []
unfolding save
save_first Rcx = refl
save_first Rdx = refl
save_first Rbx = refl
save_first Rsi = refl
save_first Rdi = refl

save_second : (helper : Helper)
    → saved_by (save helper (address_of SecondSaved)) ≡ record { number = number_of helper; which = SecondSaved } ∷ []
unfolding save
save_second Rcx = refl
save_second Rdx = refl
save_second Rbx = refl
save_second Rsi = refl
save_second Rdi = refl

-- a helper that is saved is saved behind the others
pub save_done_first : (helper : Helper) (saves : List Save)
    → saves ++ record { number = number_of helper; which = FirstSaved } ∷ []
    ≡ saves ++ saved_by (save helper (address_of FirstSaved))
save_done_first helper saves = ap (λ (more : List Save). saves ++ more) (sym (save_first helper))

pub save_done_second : (helper : Helper) (saves : List Save)
    → saves ++ record { number = number_of helper; which = SecondSaved } ∷ []
    ≡ saves ++ saved_by (save helper (address_of SecondSaved))
save_done_second helper saves = ap (λ (more : List Save). saves ++ more) (sym (save_second helper))

number_nothing : (helper : Helper) (value : ℤ) → SavesNothing (load_number helper value)
unfolding load_number
number_nothing helper value = refl

sum_nothing : (helper : Helper) (amount : ℤ) → SavesNothing (add_number helper amount)
unfolding add_number
sum_nothing helper amount = refl

lea_nothing : (helper : Helper) (insn : Insn) (d : Disp) → SavesNothing (load_address helper insn d)
unfolding load_address
lea_nothing helper insn d = refl

half_nothing : (helper : Helper) (at : ℤ) → SavesNothing (save_half helper at)
unfolding save_half
half_nothing helper at = refl

raise_nothing : (helper : Helper) (value : ℤ) → AllByRecursion SavesNothing (add_step_back helper value)
unfolding add_step_back
raise_nothing helper value =
    cond_both (is_lowered value) (add_number helper (pos 0x100) ∷ []) [] (λ insns. AllByRecursion SavesNothing insns)
    (λ _. (sum_nothing helper (pos 0x100), tt)) (λ _. tt)

pub constant_saves : (helper : Helper) (value : ℤ) → AllByRecursion SavesNothing (load_constant helper value)
unfolding load_constant
constant_saves helper value = (number_nothing helper (lowered_displacement value), raise_nothing helper value)

at_nothing : (helper : Helper) (insn : Insn) (next : ℕ) (distance : ℤ)
    → AllByRecursion SavesNothing (address_at helper insn next distance)
unfolding address_at address_from
at_nothing helper insn next distance =
    cond_both (is_from_next (modrm_of insn))
    (load_number helper (lowered_displacement distance) ∷ add_number helper (pos (next + lacking distance)) ∷ [])
    (load_address helper insn (disp.D32 (lowered_displacement distance)) ∷ add_step_back helper distance)
    (λ insns. AllByRecursion SavesNothing insns)
    (λ _. (number_nothing helper (lowered_displacement distance), (sum_nothing helper (pos (next + lacking distance)), tt)))
    (λ _. (lea_nothing helper insn (disp.D32 (lowered_displacement distance)), raise_nothing helper distance))

by_nothing : (helper : Helper) (insn : Insn) (next : ℕ) (d : Disp) → AllByRecursion SavesNothing (address_by helper insn next d)
by_nothing helper insn next disp.None = (lea_nothing helper insn disp.None, tt)
by_nothing helper insn next (disp.D8 value) = (lea_nothing helper insn (disp.D8 value), tt)
by_nothing helper insn next (disp.D32 distance) = at_nothing helper insn next distance

pub address_saves : (helper : Helper) (insn : Insn) (next : ℕ)
    → AllByRecursion SavesNothing (load_address_of_operand helper insn next)
unfolding load_address_of_operand
address_saves helper insn next = by_nothing helper (without_sib_0f insn) next insn.disp

-- ---- along the instructions before main

one_done : (saves : List Save) (insn : Insn) → SavesNothing insn → saves ≡ saves ++ saved_by insn
one_done saves insn none = sym (ap (λ (more : List Save). saves ++ more) none ∙ append-nil saves)

pub half_done : (saves : List Save) (helper : Helper) → saves ≡ saves ++ saved_by (save_half helper scratch_word)
half_done saves helper = one_done saves (save_half helper scratch_word) (half_nothing helper scratch_word)

pub upper_done : (saves : List Save) (helper : Helper) → saves ≡ saves ++ saved_by (save_half helper upper_half)
upper_done saves helper = one_done saves (save_half helper upper_half) (half_nothing helper upper_half)

pub staged_then : (saves : List Save) (insns : List Insn) (stages : List Stage) → AllByRecursion SavesNothing insns
    → AreDone saves stages → AreDone saves (staged saves insns ++ stages)
staged_then saves [] stages none rest = rest
staged_then saves (insn ∷ insns) stages none rest = (one_done saves insn none.0, staged_then saves insns stages none.1 rest)

pub staged_done : (saves : List Save) (insns : List Insn) → AllByRecursion SavesNothing insns → AreDone saves (staged saves insns)
staged_done saves [] none = tt
staged_done saves (insn ∷ insns) none = (one_done saves insn none.0, staged_done saves insns none.1)
