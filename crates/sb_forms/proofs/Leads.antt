-- The bytes before ModRM: the pattern does not begin in them.
use Rattle.std.proofs.Common.{◌≡◌, ℕ, ◌%◌, ◌/◌, ◌≤◌, Bool, true, false, List, ◌∷◌, ◌++◌, Option, Some, None, refl, ap, ◌∙◌, arith, subst, append_assoc, ⊎_elim}
use Rattle.std.specs.Prelude.{◌&&◌, ◌==◌, nat_le}
use Rattle.std.specs.Option.{option_to_list}
use Rattle.std.proofs.lemmas.Bool.{and_parts, and_left, and_right, leb-true, ne_eqb, cases_eq}
use Rattle.sb_insn.specs.declared.insn.Op.{Op}
use Rattle.sb_insn.specs.declared.insn.Op.TheVariants.{One, Two, Endbr, Vmfunc}
use Rattle.sb_insn.specs.declared.opcode_map.Cell.{Cell}
use Rattle.sb_insn.specs.declared.opcode_map.Cell.TheVariants.{Absent}
use Rattle.sb_insn.specs.OpcodeMap.{one_byte, two_byte, cell_of}
use Rattle.sb_insn.specs.Spelling.{lock_bytes, op_bytes, lead_bytes}
use Rattle.sb_insn.specs.Fields.{is_rex_field, is_modrm_field, rex_r, rex_x, rex_b}
use Rattle.sb_forms.specs.Holding.{begins_with, holds_pattern}
use Rattle.sb_insn.specs.Rex.{rex_byte, with_r_b, with_x_b_exchanged}
use Rattle.sb_forms.specs.Table.{is_vmfunc}
use Rattle.sb_forms.proofs.Quiet.{skip, skip_0f, last_one, last_two, IsQuiet}

-- ---- REX

abbrev pub IsRex : Option ℕ → Type 0
IsRex None = Unit {0}
IsRex (Some rex) = (0x40 ≤ rex) × (rex ≤ 0x4F)

pub valid_rex : (rex : Option ℕ) → is_rex_field rex ≡ true → IsRex rex
valid_rex None e = tt
valid_rex (Some rex) e = let parts = and_parts (nat_le 0x40 rex) (nat_le rex 0x4F) e in
    (leb-true 0x40 rex parts.0, leb-true rex 0x4F parts.1)

rex_range : (rex r x b : ℕ) → r ≤ 1 → x ≤ 1 → b ≤ 1 → (0x40 ≤ rex_byte rex r x b) × (rex_byte rex r x b ≤ 0x4F)
rex_range rex r x b rr xx bb = (omega arith, omega arith)

pub with_r_b_rex : (rex : Option ℕ) (r b : ℕ) → r ≤ 1 → b ≤ 1 → IsRex (with_r_b rex r b)
with_r_b_rex None r b rr bb = tt
with_r_b_rex (Some rex) r b rr bb = rex_range rex r 0 b rr (omega arith) bb

pub exchanged_rex : (rex : Option ℕ) → IsRex (with_x_b_exchanged rex)
exchanged_rex None = tt
exchanged_rex (Some rex) = rex_range rex (rex / 4 % 2) (rex % 2) (rex / 2 % 2) (omega arith) (omega arith) (omega arith)

pub r_1 : (rex : Option ℕ) → rex_r rex ≤ 1
r_1 None = omega arith
r_1 (Some rex) = omega arith

pub x_1 : (rex : Option ℕ) → rex_x rex ≤ 1
x_1 None = omega arith
x_1 (Some rex) = omega arith

pub b_1 : (rex : Option ℕ) → rex_b rex ≤ 1
b_1 None = omega arith
b_1 (Some rex) = omega arith

-- ---- opcodes

-- the pattern does not begin in the opcode, and does not end in one of one byte alone
abbrev pub IsOpcode : Op → Type 0
IsOpcode (One opcode) = (opcode ≡ 0x0F → ⊥) × (opcode ≡ 0xD4 → ⊥)
IsOpcode (Two opcode) = (opcode ≡ 0x01 → ⊥) × (opcode ≡ 0x0F → ⊥)
IsOpcode Endbr = Unit {0}
IsOpcode Vmfunc = ⊥

-- no instruction has an absent opcode
absent : (lock : Bool) (rex modrm : Option ℕ) → is_modrm_field Absent lock rex modrm ≡ true → ⊥
absent lock rex None e = cc
absent lock rex (Some modrm) e = cc

absent_cell : (cell : Cell) (lock : Bool) (rex modrm : Option ℕ) → cell ≡ Absent → is_modrm_field cell lock rex modrm ≡ true → ⊥
absent_cell cell lock rex modrm is e = absent lock rex modrm (subst (λ c. is_modrm_field c lock rex modrm ≡ true) is e)

one_absent : (opcode : ℕ) → opcode ≡ 0x0F → one_byte opcode ≡ Absent
unfolding one_byte
one_absent opcode is = ap (λ (byte : ℕ). one_byte byte) is

aam_absent : (opcode : ℕ) → opcode ≡ 0xD4 → one_byte opcode ≡ Absent
unfolding one_byte
aam_absent opcode is = ap (λ (byte : ℕ). one_byte byte) is

two_absent : (opcode : ℕ) → opcode ≡ 0x01 → two_byte opcode ≡ Absent
unfolding two_byte
two_absent opcode is = ap (λ (byte : ℕ). two_byte byte) is

other_absent : (opcode : ℕ) → opcode ≡ 0x0F → two_byte opcode ≡ Absent
unfolding two_byte
other_absent opcode is = ap (λ (byte : ℕ). two_byte byte) is

pub valid_op : (op : Op) (lock : Bool) (rex modrm : Option ℕ) → is_vmfunc op ≡ false
    → is_modrm_field (cell_of op) lock rex modrm ≡ true → IsOpcode op
valid_op (One opcode) lock rex modrm other e = (
  λ is. absent_cell (one_byte opcode) lock rex modrm (one_absent opcode is) e,
  λ is. absent_cell (one_byte opcode) lock rex modrm (aam_absent opcode is) e,
)
valid_op (Two opcode) lock rex modrm other e = (
  λ is. absent_cell (two_byte opcode) lock rex modrm (two_absent opcode is) e,
  λ is. absent_cell (two_byte opcode) lock rex modrm (other_absent opcode is) e,
)
valid_op Endbr lock rex modrm other e = tt
valid_op Vmfunc lock rex modrm other e = absurd cc

-- ---- the pattern does not begin in the lead

op_holds : (op : Op) (rest : List ℕ) → IsOpcode op → holds_pattern (op_bytes op ++ rest) ≡ holds_pattern rest
unfolding holds_pattern
op_holds (One opcode) rest known = skip opcode rest known.0
op_holds (Two opcode) rest known =
    skip_0f (opcode ∷ rest) (and_left (opcode == 0x01) (begins_with last_one rest) (ne_eqb opcode 0x01 known.0))
    ∙ skip opcode rest known.1
op_holds Endbr rest known = refl
op_holds Vmfunc rest known = absurd known

rex_holds : (rex : Option ℕ) (rest : List ℕ) → IsRex rex → holds_pattern (option_to_list rex ++ rest) ≡ holds_pattern rest
rex_holds None rest range = refl
rex_holds (Some rex) rest range = skip rex rest (λ is. omega (arith, range.0, is))

lock_holds : (lock : Bool) (rest : List ℕ) → holds_pattern (lock_bytes lock ++ rest) ≡ holds_pattern rest
lock_holds false rest = refl
lock_holds true rest = skip 0xF0 rest (λ is. omega (arith, is))

pub lead_holds : (lock : Bool) (rex : Option ℕ) (op : Op) (rest : List ℕ) → IsRex rex → IsOpcode op
    → holds_pattern (lead_bytes lock rex op ++ rest) ≡ holds_pattern rest
lead_holds lock rex op rest range known =
    ap (λ (bytes : List ℕ). holds_pattern bytes) (append_assoc (lock_bytes lock) (option_to_list rex ++ op_bytes op) rest
    ∙ ap (λ (bytes : List ℕ). lock_bytes lock ++ bytes) (append_assoc (option_to_list rex) (op_bytes op) rest))
    ∙ lock_holds lock (option_to_list rex ++ (op_bytes op ++ rest))
    ∙ rex_holds rex (op_bytes op ++ rest) range
    ∙ op_holds op rest known

-- ---- and does not end at its beginning

-- opcode 01 is not followed by D4
abbrev pub IsStart : Op → List ℕ → Type 0
IsStart (One opcode) rest = opcode ≡ 0x01 → begins_with last_one rest ≡ false
IsStart _ rest = Unit {0}

one_start : (opcode : ℕ) (rest : List ℕ) → (opcode ≡ 0x01 → begins_with last_one rest ≡ false)
    → ((opcode == 0x01) && begins_with last_one rest) ≡ false
one_start opcode rest start =
    ⊎_elim
    (λ is. and_right (opcode == 0x01) (begins_with last_one rest) (start is))
    (λ other. and_left (opcode == 0x01) (begins_with last_one rest) (ne_eqb opcode 0x01 other))
    (cases_eq opcode 0x01)

op_start : (op : Op) (rest : List ℕ) → IsOpcode op → IsStart op rest
    → (begins_with last_two (op_bytes op ++ rest) ≡ false) × (begins_with last_one (op_bytes op ++ rest) ≡ false)
op_start (One opcode) rest known start =
    (one_start opcode rest start, and_left (opcode == 0xD4) true (ne_eqb opcode 0xD4 known.1))
op_start (Two opcode) rest known start = (refl, refl)
op_start Endbr rest known start = (refl, refl)
op_start Vmfunc rest known start = absurd known

rex_start : (rex : Option ℕ) (op : Op) (rest : List ℕ) → IsRex rex → IsOpcode op → IsStart op rest
    → (begins_with last_two (option_to_list rex ++ (op_bytes op ++ rest)) ≡ false)
    × (begins_with last_one (option_to_list rex ++ (op_bytes op ++ rest)) ≡ false)
rex_start None op rest range known start = op_start op rest known start
rex_start (Some rex) op rest range known start = (
  and_left (rex == 0x01) (begins_with last_one (op_bytes op ++ rest)) (ne_eqb rex 0x01 (λ is. omega (arith, range.0, is))),
  and_left (rex == 0xD4) true (ne_eqb rex 0xD4 (λ is. omega (arith, range.1, is))),
)

lead_start : (lock : Bool) (rex : Option ℕ) (op : Op) (rest : List ℕ) → IsRex rex → IsOpcode op → IsStart op rest
    → (begins_with last_two (lock_bytes lock ++ (option_to_list rex ++ (op_bytes op ++ rest))) ≡ false)
    × (begins_with last_one (lock_bytes lock ++ (option_to_list rex ++ (op_bytes op ++ rest))) ≡ false)
lead_start true rex op rest range known start = (refl, refl)
lead_start false rex op rest range known start = rex_start rex op rest range known start

-- in the bytes as they are spelled
pub lead_apart : (lock : Bool) (rex : Option ℕ) (op : Op) (rest : List ℕ) → IsRex rex → IsOpcode op → IsStart op rest
    → (begins_with last_two (lead_bytes lock rex op ++ rest) ≡ false)
    × (begins_with last_one (lead_bytes lock rex op ++ rest) ≡ false)
lead_apart lock rex op rest range known start =
    let same : (lead_bytes lock rex op ++ rest) ≡ lock_bytes lock ++ (option_to_list rex ++ (op_bytes op ++ rest)) =
    append_assoc (lock_bytes lock) (option_to_list rex ++ op_bytes op) rest
    ∙ ap (λ (bytes : List ℕ). lock_bytes lock ++ bytes) (append_assoc (option_to_list rex) (op_bytes op) rest) in
    let starts = lead_start lock rex op rest range known start in (
      ap (λ (bytes : List ℕ). begins_with last_two bytes) same ∙ starts.0,
      ap (λ (bytes : List ℕ). begins_with last_one bytes) same ∙ starts.1,
    )

-- An instruction is quiet where the bytes behind its opcode are, and it does not begin with 01 D4.
pub lead_quiet : (lock : Bool) (rex : Option ℕ) (op : Op) (rest : List ℕ) → IsRex rex → IsOpcode op → IsStart op rest
    → holds_pattern rest ≡ false → IsQuiet (lead_bytes lock rex op ++ rest)
lead_quiet lock rex op rest range known start none =
    let apart = lead_apart lock rex op rest range known start in record {
      none = lead_holds lock rex op rest range known ∙ none;
      two = apart.0;
      one = apart.1;
    }
