-- What stands in place of an instruction can stand behind other bytes, and before others.
use Rattle.std.proofs.Common.{◌≡◌, ℕ, zero, suc, ◌+◌, ◌-◌, ◌/◌, ◌%◌, ◌≤◌, ◌<◌, Bool, true, false, List, [], ◌∷◌, ◌++◌}
use Rattle.std.proofs.Common.{Option, Some, None, refl, sym, ap, ◌∙◌, arith, subst, append_assoc, replicate, ⊎_elim, ℤ, pos}
use Rattle.std.proofs.Common.{negsuc, ◌-ℤ◌, ltb}
use Rattle.std.specs.Prelude.{◌==◌, not, if◌then◌else◌}
use Rattle.std.specs.Int.{w32, cast_unsigned}
use Rattle.std.specs.Option.{option_to_list}
use Rattle.std.proofs.lemmas.Bool.{and_parts, cond_both, cond-true, cases_Bool, not-true, false_from_ne_true, false≢true}
use Rattle.std.proofs.lemmas.Bool.{lt-ltb, ne_eqb}
use Rattle.std.proofs.lemmas.List.{append-nil}
use Rattle.sb_insn.specs.declared.insn.Insn.{Insn}
use Rattle.sb_insn.specs.declared.opcode_map.Instruction.{Instruction}
use Rattle.sb_insn.specs.Spelling.{number, lead_bytes, disp_bytes, imm_bytes, spelling}
use Rattle.sb_insn.specs.Fields.{rex_r, rex_b}
use Rattle.sb_insn.specs.Rex.{with_x_b_exchanged}
use Rattle.sb_forms.specs.declared.slots.Site.{Site}
use Rattle.sb_scan.specs.Holding.{begins_with, holds_pattern}
use Rattle.sb_forms.specs.Pieces.{save, is_sib_0f, sib_exchanged, jump_insn}
use Rattle.sb_forms.specs.Mains.{with_displacement}
use Rattle.sb_forms.specs.Table.{Replacement, Keep, InPlace, move_outcome, is_vmfunc, completes_pattern, nop}
use Rattle.sb_forms.specs.Table.{add_from_rm, jump_form, wide_constant_form, address_and_constant_form, address_form}
use Rattle.sb_forms.specs.Table.{constant_form, is_exchangeable, held_form, replacement, bytes_of, site_of, form_of}
use Rattle.sb_forms.specs.Borders.{ends_with_0f, EndsNoPattern, HasBorders, FormsBorder}
use Rattle.sb_forms.proofs.ByTable.{IsHeld, TableCases, by_table}
use Rattle.sb_forms.proofs.Quiet.{last_one, last_two, IsQuiet, joined, skip}
use Rattle.sb_forms.proofs.Leads.{IsRex, IsOpcode, valid_op, with_r_b_rex, r_1, b_1, lead_apart}
use Rattle.sb_forms.proofs.Lowered.{in_four}
use Rattle.sb_forms.proofs.CleanForms.{exchanged_quiet}
use Rattle.sb_forms.proofs.QuietMains.{any_start}

-- ---- the last byte

-- where bytes end that have one more behind them
pub ends_after : (front : List ℕ) (byte : ℕ) (rest : List ℕ) → ends_with_0f (front ++ byte ∷ rest) ≡ ends_with_0f (byte ∷ rest)
ends_after [] byte rest = refl
ends_after (a ∷ []) byte rest = refl
ends_after (a ∷ b ∷ front) byte rest = ends_after (b ∷ front) byte rest

-- ---- in place

-- with another byte before them, bytes end alike, unless that byte was the last
another_before : (byte other : ℕ) (rest : List ℕ) → ends_with_0f (other ∷ []) ≡ false → ends_with_0f (other ∷ rest) ≡ true
    → ends_with_0f (byte ∷ rest) ≡ true
another_before byte other [] not_last e = absurd (false≢true (sym not_last ∙ e))
another_before byte other (next ∷ rest) not_last e = e

-- with base and index exchanged an instruction ends with 0F only where it did
exchanged_ends : (lead lead' modrm : List ℕ) (sib : Option ℕ) (rest : List ℕ) → is_sib_0f sib ≡ true
    → ends_with_0f (lead' ++ (modrm ++ 0x39 ∷ rest)) ≡ true
    → ends_with_0f (lead ++ (modrm ++ (option_to_list sib ++ rest))) ≡ true
exchanged_ends lead lead' modrm None rest is e = absurd cc
exchanged_ends lead lead' modrm (Some sib) rest is e =
    let new : ends_with_0f ((lead' ++ modrm) ++ 0x39 ∷ rest) ≡ true =
    ap (λ (bytes : List ℕ). ends_with_0f bytes) (append_assoc lead' modrm (0x39 ∷ rest)) ∙ e in
    ap (λ (bytes : List ℕ). ends_with_0f bytes) (sym (append_assoc lead modrm (sib ∷ rest)))
    ∙ ends_after (lead ++ modrm) sib rest
    ∙ another_before sib 0x39 rest refl (sym (ends_after (lead' ++ modrm) 0x39 rest) ∙ new)

-- what is said of a replacement
abbrev IsJoined : Insn → Bool → Replacement → Type 0
IsJoined insn after_0f form = HasBorders insn after_0f (bytes_of form)

nops_joined : (insn : Insn) (after_0f : Bool) → IsJoined insn after_0f (InPlace (nop ∷ nop ∷ nop ∷ []))
nops_joined insn after_0f = (record { two = refl; one = refl }, λ e. absurd (false≢true e))

add_joined : (insn : Insn) (after_0f : Bool) → IsJoined insn after_0f (InPlace (add_from_rm ∷ []))
add_joined insn after_0f = (record { two = refl; one = refl }, λ e. absurd (false≢true e))

exchanged_joined : (insn : Insn) (after_0f : Bool) → IsHeld insn → is_exchangeable insn ≡ true
    → IsJoined insn after_0f (InPlace (sib_exchanged insn ∷ []))
unfolding sib_exchanged
exchanged_joined insn after_0f held e =
    let parts = and_parts (is_sib_0f insn.sib) (not (holds_pattern (spelling (sib_exchanged insn)))) e in
    let quiet =
    exchanged_quiet insn held.valid held.other parts.0 (not-true (holds_pattern (spelling (sib_exchanged insn))) parts.1) in
    let same = append-nil (spelling (sib_exchanged insn)) in (
      record {
        two = ap (λ (bytes : List ℕ). begins_with last_two bytes) same ∙ quiet.two;
        one = ap (λ (bytes : List ℕ). begins_with last_one bytes) same ∙ quiet.one;
      },
      λ ends.
          exchanged_ends (lead_bytes insn.lock insn.rex insn.op) (lead_bytes insn.lock (with_x_b_exchanged insn.rex) insn.op)
          (option_to_list insn.modrm) insn.sib (disp_bytes insn.disp ++ imm_bytes insn.imm) parts.0
          (sym (ap (λ (bytes : List ℕ). ends_with_0f bytes) same) ∙ ends),
    )

-- ---- slots

-- an instruction whose ModRM byte is not D4
lead_ends : (insn : Insn) (rest behind : List ℕ) → IsRex insn.rex → IsOpcode insn.op
    → begins_with last_one (rest ++ behind) ≡ false
    → EndsNoPattern ((lead_bytes insn.lock insn.rex insn.op ++ rest) ++ behind)
lead_ends insn rest behind range known other =
    let apart = lead_apart insn.lock insn.rex insn.op (rest ++ behind) range known (any_start insn.op (rest ++ behind) other) in
    let same = append_assoc (lead_bytes insn.lock insn.rex insn.op) rest behind in record {
      two = ap (λ (bytes : List ℕ). begins_with last_two bytes) same ∙ apart.0;
      one = ap (λ (bytes : List ℕ). begins_with last_one bytes) same ∙ apart.1;
    }

displaced_joined : (insn : Insn) (site : Site) (after_0f : Bool) → IsHeld insn
    → IsJoined insn after_0f (move_outcome site [] (with_displacement insn) [])
unfolding with_displacement
displaced_joined insn site after_0f held =
    lead_ends
    (with_displacement insn)
    (0x4F ∷ (option_to_list insn.sib ++ 0 ∷ imm_bytes insn.imm))
    _
    (with_r_b_rex insn.rex (rex_r insn.rex) (rex_b insn.rex) (r_1 insn.rex) (b_1 insn.rex))
    (valid_op insn.op insn.lock insn.rex insn.modrm held.other held.valid.modrm)
    refl

through_joined : (instruction : Instruction) (insn : Insn) (site : Site) (after_0f : Bool)
    → IsJoined insn after_0f (jump_form instruction insn site)
unfolding jump_form save
through_joined instruction insn site after_0f = record { two = refl; one = refl }

wide_joined : (instruction : Instruction) (insn : Insn) (site : Site) (value : ℤ) (after_0f : Bool)
    → IsJoined insn after_0f (wide_constant_form instruction insn site value)
unfolding wide_constant_form save
wide_joined instruction insn site value after_0f = record { two = refl; one = refl }

both_joined : (instruction : Instruction) (insn : Insn) (site : Site) (value : ℤ) (after_0f : Bool)
    → IsJoined insn after_0f (address_and_constant_form instruction insn site value)
unfolding address_and_constant_form save
both_joined instruction insn site value after_0f = record { two = refl; one = refl }

address_joined : (instruction : Instruction) (insn : Insn) (site : Site) (after_0f : Bool)
    → IsJoined insn after_0f (address_form instruction insn site)
unfolding address_form save
address_joined instruction insn site after_0f = record { two = refl; one = refl }

constant_joined : (instruction : Instruction) (insn : Insn) (site : Site) (value : ℤ) (after_0f : Bool)
    → IsJoined insn after_0f (constant_form instruction insn site value)
unfolding constant_form save
constant_joined instruction insn site value after_0f = record { two = refl; one = refl }

-- ---- which form applies

joined_cases : (insn : Insn) (site : Site) (after_0f : Bool) → completes_pattern insn after_0f ≡ false
    → TableCases (IsJoined insn after_0f) insn site
joined_cases insn site after_0f other = record {
  vmfunc = λ _. nops_joined insn after_0f;
  completes = λ _. add_joined insn after_0f;
  keep = λ _. other;
  exchange = λ held e. exchanged_joined insn after_0f held e;
  displace = λ held e. displaced_joined insn site after_0f held;
  unmovable = tt;
  through = λ instruction known memory jumps. through_joined instruction insn site after_0f;
  wide = λ instruction value known is. wide_joined instruction insn site value after_0f;
  both = λ instruction value known is memory. both_joined instruction insn site value after_0f;
  alone = λ instruction value known is alone. constant_joined instruction insn site value after_0f;
  memory = λ instruction known none. address_joined instruction insn site after_0f;
}

-- 01 D4 behind 0F is not kept
completing_joined : (insn : Insn) (site : Site) (after_0f : Bool) → completes_pattern insn after_0f ≡ true
    → IsJoined insn after_0f (replacement insn site after_0f)
unfolding replacement
completing_joined insn site after_0f e =
    let kept = if not (holds_pattern (spelling insn)) then Keep else held_form insn site in
    cond_both
    (is_vmfunc insn.op)
    (InPlace (nop ∷ nop ∷ nop ∷ []))
    (if completes_pattern insn after_0f then InPlace (add_from_rm ∷ []) else kept)
    (IsJoined insn after_0f)
    (λ _. nops_joined insn after_0f)
    (λ _. subst (IsJoined insn after_0f) (sym (cond-true (completes_pattern insn after_0f) (InPlace (add_from_rm ∷ [])) kept e))
    (add_joined insn after_0f))

pub forms_border : FormsBorder
unfolding form_of
forms_border insn at slot after_0f valid =
    ⊎_elim
    (λ is. completing_joined insn (site_of insn at slot) after_0f is)
    (λ other.
    by_table (IsJoined insn after_0f) insn (site_of insn at slot) after_0f valid
    (joined_cases insn (site_of insn at slot) after_0f other))
    (cases_Bool (completes_pattern insn after_0f))

-- ---- the jump from a text back to a slot

less : (from to : ℕ) → to ≤ from → pos to -ℤ pos (suc from) ≡ negsuc (from - to)
less from to below =
    let size : suc from - suc to ≡ from - to = omega arith in
    let back = lt-ltb to (suc from) (omega (arith, below)) in
    cond-true (ltb to (suc from)) (negsuc (suc from - suc to)) (pos (to - suc from)) back
    ∙ ap (λ (n : ℕ). negsuc n) size

distance_is : (from to : ℕ) → to ≤ from → pos to -ℤ pos (from + 5) ≡ negsuc (from + 4 - to)
distance_is from to below =
    let next : from + 5 ≡ suc (from + 4) = omega arith in
    ap (λ (n : ℕ). pos to -ℤ pos n) next ∙ less (from + 4) to (omega (arith, below))

-- a distance back from a text to the area has D4 in neither of its upper bytes
back_holds : (n : ℕ) → 0x2C0000 ≤ n → n < 0x1000000 → holds_pattern (number w32 (negsuc n)) ≡ false
back_holds n far near = false_from_ne_true (holds_pattern (number w32 (negsuc n))) (λ e.
    let c = cast_unsigned w32 (negsuc n) in
    ⊎_elim
    (λ first. omega (arith, far, near, first.2))
    (λ last. omega (arith, far, near, last.2))
    (in_four (c % 256) (c / 256 % 256) (c / 65536 % 256) (c / 16777216 % 256) e))

-- and ends with FF
back_ends : (n : ℕ) → n < 0x1000000 → (cast_unsigned w32 (negsuc n) / 16777216 % 256 == 0x0F) ≡ false
back_ends n near = ne_eqb (cast_unsigned w32 (negsuc n) / 16777216 % 256) 0x0F (λ is. omega (arith, near, is))

nops_quiet : (count : ℕ) → IsQuiet (replicate count 0x90)
unfolding holds_pattern
nops_quiet zero = record { none = refl; two = refl; one = refl }
nops_quiet (suc count) = record { none = (nops_quiet count).none; two = refl; one = refl }

nops_end : (count : ℕ) → ends_with_0f (replicate count 0x90) ≡ false
nops_end zero = refl
nops_end (suc zero) = refl
nops_end (suc (suc count)) = nops_end (suc count)

-- an address of a text, and one of the area
pub record IsWayToArea (from to : ℕ) : Type 0 where
  pub low : 0x400000 ≤ from
  pub high : from ≤ 0x600000
  pub area : to ≤ 0x11000

pub jump_quiet : (from to count : ℕ) → IsWayToArea from to → IsQuiet (spelling (jump_insn from to) ++ replicate count 0x90)
unfolding jump_insn
jump_quiet from to count way =
    let n = from + 4 - to in
    let alone : holds_pattern (spelling (jump_insn from to)) ≡ false =
    skip 0xE9 (number w32 (pos to -ℤ pos (from + 5))) (λ is. omega (arith, is))
    ∙ ap (λ z. holds_pattern (number w32 z)) (distance_is from to (omega (arith, way.low, way.area)))
    ∙ back_holds n (omega (arith, way.low, way.area)) (omega (arith, way.high)) in record {
      none = joined (spelling (jump_insn from to)) (replicate count 0x90) alone (nops_quiet count);
      two = refl;
      one = refl;
    }

pub jump_ends : (from to count : ℕ) → IsWayToArea from to
    → ends_with_0f (spelling (jump_insn from to) ++ replicate count 0x90) ≡ false
unfolding jump_insn
jump_ends from to zero way =
    ap (λ z. cast_unsigned w32 z / 16777216 % 256 == 0x0F) (distance_is from to (omega (arith, way.low, way.area)))
    ∙ back_ends (from + 4 - to) (omega (arith, way.high))
jump_ends from to (suc count) way =
    ends_after (spelling (jump_insn from to)) 0x90 (replicate count 0x90) ∙ nops_end (suc count)
