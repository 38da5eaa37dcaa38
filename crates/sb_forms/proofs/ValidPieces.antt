-- The instructions around a main one are valid.
use Rattle.std.proofs.Common.{◌≡◌, ◌∙◌, sym, ap, subst, ℕ, suc, ◌+◌, ◌-◌, ◌*◌, ◌^◌, ◌<◌, ◌≤◌, true, false, Some, None, ◌⊎◌, refl, arith, FitsSigned, ℤ, pos, negsuc, ◌-ℤ◌, ltb, inl, inr}
use Rattle.std.proofs.lemmas.Bool.{cond-true, cond-false, lt-ltb, le-ltb, cases_lt}
use Rattle.std.specs.Int.{w32}
use Rattle.sb_insn.specs.OpcodeMap.{one_byte}
use Rattle.sb_insn.specs.Groups.{group_operand}
use Rattle.sb_insn.specs.declared.insn.DispKind.TheVariants as disp_kind
use Rattle.sb_insn.specs.declared.insn.ImmKind.TheVariants as imm_kind
use Rattle.sb_insn.specs.Fields.{is_register, is_modrm_field, rule_of, imm_kind_of, has_sib, modrm_disp, modrm_opcode_permits}
use Rattle.sb_insn.specs.Grammar.{IsValid}
use Rattle.sb_forms.specs.declared.helper.Helper.{Helper}
use Rattle.sb_forms.specs.declared.helper.Helper.TheVariants.{Rcx, Rdx, Rbx, Rsi, Rdi}
use Rattle.sb_forms.specs.Registers.{number_of}
use Rattle.sb_forms.proofs.QuietPieces.{number_7}
use Rattle.sb_forms.specs.Pieces.{save, restore, save_half, load_number, add_number, jump_insn, jump_through}
use Rattle.sb_forms.specs.Mains.{load_target}
use Rattle.sb_forms.specs.Table.{nop, add_from_rm}

-- ---- at an address: SIB 25 is no base and no index

at_sib : (helper : Helper) → has_sib (8 * number_of helper + 4) ≡ true
unfolding has_sib
at_sib Rcx = refl
at_sib Rdx = refl
at_sib Rbx = refl
at_sib Rsi = refl
at_sib Rdi = refl

at_disp : (helper : Helper) → disp_kind.D32 ≡ modrm_disp (8 * number_of helper + 4) (Some 0x25)
unfolding modrm_disp
at_disp Rcx = refl
at_disp Rdx = refl
at_disp Rbx = refl
at_disp Rsi = refl
at_disp Rdi = refl

pub save_valid : (helper : Helper) (address : ℤ) → FitsSigned w32 address → IsValid (save helper address)
unfolding save one_byte modrm_opcode_permits
save_valid helper address fits = record {
  rex = refl;
  modrm = refl;
  modrm_byte = omega (arith, number_7 helper);
  sib = at_sib helper;
  sib_byte = omega arith;
  disp = at_disp helper;
  disp_fits = fits;
  imm = refl;
  imm_fits = tt;
}

pub restore_valid : (helper : Helper) (address : ℤ) → FitsSigned w32 address → IsValid (restore helper address)
unfolding restore one_byte modrm_opcode_permits
restore_valid helper address fits = record {
  rex = refl;
  modrm = refl;
  modrm_byte = omega (arith, number_7 helper);
  sib = at_sib helper;
  sib_byte = omega arith;
  disp = at_disp helper;
  disp_fits = fits;
  imm = refl;
  imm_fits = tt;
}

pub half_valid : (helper : Helper) (address : ℤ) → FitsSigned w32 address → IsValid (save_half helper address)
unfolding save_half one_byte modrm_opcode_permits
half_valid helper address fits = record {
  rex = refl;
  modrm = refl;
  modrm_byte = omega (arith, number_7 helper);
  sib = at_sib helper;
  sib_byte = omega arith;
  disp = at_disp helper;
  disp_fits = fits;
  imm = refl;
  imm_fits = tt;
}

pub through_valid : (address : ℤ) → FitsSigned w32 address → IsValid (jump_through address)
unfolding jump_through one_byte group_operand modrm_opcode_permits has_sib modrm_disp
through_valid address fits = record {
  rex = refl;
  modrm = refl;
  modrm_byte = omega arith;
  sib = refl;
  sib_byte = omega arith;
  disp = refl;
  disp_fits = fits;
  imm = refl;
  imm_fits = tt;
}

-- ---- numbers

-- MOV of a number to a helper, C7 /0
constant_fields : (helper : Helper)
    → (is_modrm_field (one_byte 0xC7) false (Some 0x48) (Some (0xC0 + number_of helper)) ≡ true)
    × (has_sib (0xC0 + number_of helper) ≡ false) × (disp_kind.None ≡ modrm_disp (0xC0 + number_of helper) None)
    × (imm_kind.I32 ≡ imm_kind_of (rule_of (one_byte 0xC7) (Some (0xC0 + number_of helper))) (Some 0x48))
unfolding one_byte group_operand modrm_opcode_permits has_sib modrm_disp
constant_fields Rcx = (refl, refl, refl, refl)
constant_fields Rdx = (refl, refl, refl, refl)
constant_fields Rbx = (refl, refl, refl, refl)
constant_fields Rsi = (refl, refl, refl, refl)
constant_fields Rdi = (refl, refl, refl, refl)

pub number_valid : (helper : Helper) (value : ℤ) → FitsSigned w32 value → IsValid (load_number helper value)
unfolding load_number
number_valid helper value fits =
    let fields = constant_fields helper in
    record {
      rex = refl;
      modrm = fields.0;
      modrm_byte = omega (arith, number_7 helper);
      sib = rw fields.1 refl;
      sib_byte = tt;
      disp = fields.2;
      disp_fits = tt;
      imm = fields.3;
      imm_fits = fits;
    }

-- memory at the helper itself, mod 2
own_memory : (helper : Helper) → is_register (0x80 + 9 * number_of helper) ≡ false
own_memory Rcx = refl
own_memory Rdx = refl
own_memory Rbx = refl
own_memory Rsi = refl
own_memory Rdi = refl

own_sib : (helper : Helper) → has_sib (0x80 + 9 * number_of helper) ≡ false
unfolding has_sib
own_sib Rcx = refl
own_sib Rdx = refl
own_sib Rbx = refl
own_sib Rsi = refl
own_sib Rdi = refl

own_disp : (helper : Helper) → disp_kind.D32 ≡ modrm_disp (0x80 + 9 * number_of helper) None
unfolding modrm_disp
own_disp Rcx = refl
own_disp Rdx = refl
own_disp Rbx = refl
own_disp Rsi = refl
own_disp Rdi = refl

pub sum_valid : (helper : Helper) (amount : ℤ) → FitsSigned w32 amount → IsValid (add_number helper amount)
unfolding add_number one_byte modrm_opcode_permits
sum_valid helper amount fits = record {
  rex = refl;
  modrm = rw (own_memory helper) refl;
  modrm_byte = omega (arith, number_7 helper);
  sib = rw (own_sib helper) refl;
  sib_byte = tt;
  disp = own_disp helper;
  disp_fits = fits;
  imm = refl;
  imm_fits = tt;
}

-- ---- a jump's target

target_sib : (helper : Helper) → has_sib (0x40 + 9 * number_of helper) ≡ false
unfolding has_sib
target_sib Rcx = refl
target_sib Rdx = refl
target_sib Rbx = refl
target_sib Rsi = refl
target_sib Rdi = refl

target_disp : (helper : Helper) → disp_kind.D8 ≡ modrm_disp (0x40 + 9 * number_of helper) None
unfolding modrm_disp
target_disp Rcx = refl
target_disp Rdx = refl
target_disp Rbx = refl
target_disp Rsi = refl
target_disp Rdi = refl

pub target_valid : (helper : Helper) → IsValid (load_target helper)
unfolding load_target one_byte modrm_opcode_permits
target_valid helper = record {
  rex = refl;
  modrm = refl;
  modrm_byte = omega (arith, number_7 helper);
  sib = rw (target_sib helper) refl;
  sib_byte = tt;
  disp = target_disp helper;
  disp_fits = record { sfits = omega arith };
  imm = refl;
  imm_fits = tt;
}

-- ---- jumps

less : (to from : ℕ) → to < suc from → pos to -ℤ pos (suc from) ≡ negsuc (from - to)
less to from below =
    let same : suc from - suc to ≡ from - to = omega (arith, below) in
    cond-true (ltb to (suc from)) (negsuc (suc from - suc to)) (pos (to - suc from)) (lt-ltb to (suc from) below)
    ∙ ap (λ (n : ℕ). negsuc n) same

more : (to from : ℕ) → suc from ≤ to → pos to -ℤ pos (suc from) ≡ pos (to - suc from)
more to from below =
    cond-false (ltb to (suc from)) (negsuc (suc from - suc to)) (pos (to - suc from)) (le-ltb to (suc from) below)

distance_by : (to from : ℕ) → (to < suc from) ⊎ (suc from ≤ to) → to < 2 ^ 31 → suc from < 2 ^ 31
    → FitsSigned w32 (pos to -ℤ pos (suc from))
distance_by to from (inl below) one two =
    subst (λ z. FitsSigned w32 z) (sym (less to from below)) (record { sfits = omega (arith, one, two) })
distance_by to from (inr above) one two =
    subst (λ z. FitsSigned w32 z) (sym (more to from above)) (record { sfits = omega (arith, one, two) })

-- a distance between addresses of 31 bits
pub distance_fits : (to from : ℕ) → to < 2 ^ 31 → from + 5 < 2 ^ 31 → FitsSigned w32 (pos to -ℤ pos (from + 5))
distance_fits to from one two =
    let next : from + 5 ≡ suc (from + 4) = omega arith in
    subst (λ (n : ℕ). FitsSigned w32 (pos to -ℤ pos n)) (sym next)
    (distance_by to (from + 4) (cases_lt to (suc (from + 4))) one (omega (arith, two)))

pub jump_valid : (from to : ℕ) → to < 2 ^ 31 → from + 5 < 2 ^ 31 → IsValid (jump_insn from to)
unfolding jump_insn one_byte
jump_valid from to one two = record {
  rex = refl;
  modrm = refl;
  modrm_byte = tt;
  sib = refl;
  sib_byte = tt;
  disp = refl;
  disp_fits = tt;
  imm = refl;
  imm_fits = distance_fits to from one two;
}

-- ---- in place

pub nop_valid : IsValid nop
unfolding one_byte
nop_valid = record {
  rex = refl;
  modrm = refl;
  modrm_byte = tt;
  sib = refl;
  sib_byte = tt;
  disp = refl;
  disp_fits = tt;
  imm = refl;
  imm_fits = tt;
}

pub add_valid : IsValid add_from_rm
unfolding one_byte modrm_opcode_permits has_sib modrm_disp
add_valid = record {
  rex = refl;
  modrm = refl;
  modrm_byte = omega arith;
  sib = refl;
  sib_byte = tt;
  disp = refl;
  disp_fits = tt;
  imm = refl;
  imm_fits = tt;
}
