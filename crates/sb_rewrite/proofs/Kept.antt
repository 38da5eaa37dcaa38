-- An instruction with no byte D4 stands in its own place.
use Rattle.std.proofs.Common.{◌≡◌, ℕ, ◌+◌, ◌<◌, ◌≤◌, Bool, false, List, Option, Some, None, length, get_or, refl, sym, ◌∙◌, arith}
use Rattle.std.specs.Prelude.{◌==◌, ◌&&◌}
use Rattle.std.specs.List.{Contains, list_any}
use Rattle.std.specs.Option.{option_to_list}
use Rattle.std.proofs.lemmas.Bool.{and_parts, eqb-true, eq-eqb, false_from_ne_true, both_ways}
use Rattle.std.proofs.lemmas.List.{get_or_default, get_or_past}
use Rattle.std.proofs.lemmas.List.Elements.{Contains-append_left, Contains-append_right}
use Rattle.std.proofs.lemmas.List.Folds.{list_any_at}
use Rattle.sb_insn.specs.declared.insn.Insn.{Insn}
use Rattle.sb_insn.specs.declared.insn.Op.{Op}
use Rattle.sb_insn.specs.declared.insn.Op.TheVariants.{One, Two, Endbr, Vmfunc}
use Rattle.sb_insn.specs.Fields.{is_none}
use Rattle.sb_insn.specs.Spelling.{lock_bytes, op_bytes, lead_bytes, spelling}
use Rattle.sb_scan.specs.Pattern.{HasNoPattern}
use Rattle.sb_forms.specs.declared.answer.Form.TheVariants as form
use Rattle.sb_forms.specs.Table.{is_vmfunc, is_one_byte, is_modrm, completes_pattern, replacement, form_of}
use Rattle.sb_forms.proofs.Held.{none_held}

-- what no byte is equal to is not among them
absent : (bytes : List ℕ) (byte : ℕ) → list_any (λ one. one == byte) bytes ≡ false → ¬ Contains bytes byte
absent bytes byte none held =
    let here : get_or bytes held.0 0 ≡ byte = get_or_default bytes held.0 0 byte held.1 ∙ held.2 in
    both_ways (list_any (λ one. one == byte) bytes) none
    (list_any_at (λ one. one == byte) bytes held.0 0 held.1 (eq-eqb (get_or bytes held.0 0) byte here))

module _ (insn : Insn) (none : ¬ Contains (spelling insn) 0xD4) where
  -- the opcode is not VMFUNC's
  by_op : (op : Op) → ¬ Contains (op_bytes op) 0xD4 → is_vmfunc op ≡ false
  by_op (One opcode) none = refl
  by_op (Two opcode) none = refl
  by_op Endbr none = refl
  by_op Vmfunc none = absurd (none (2, omega arith, refl))

  no_vmfunc : is_vmfunc insn.op ≡ false
  no_vmfunc = by_op insn.op (λ held.
      none (Contains-append_left (lead_bytes insn.lock insn.rex insn.op) _ 0xD4
      (Contains-append_right (lock_bytes insn.lock) _ 0xD4
      (Contains-append_right (option_to_list insn.rex) (op_bytes insn.op) 0xD4 held))))

  -- nor is it ADD ESP, EDX
  by_modrm : (modrm : Option ℕ) → ¬ Contains (option_to_list modrm) 0xD4 → is_modrm 0xD4 modrm ≡ false
  by_modrm None none = refl
  by_modrm (Some modrm) none = false_from_ne_true (0xD4 == modrm) (λ is. none (0, omega arith, sym (eqb-true 0xD4 modrm is)))

  no_modrm : is_modrm 0xD4 insn.modrm ≡ false
  no_modrm = by_modrm insn.modrm (λ held.
      none (Contains-append_right (lead_bytes insn.lock insn.rex insn.op) _ 0xD4
      (Contains-append_left (option_to_list insn.modrm) _ 0xD4 held)))

  completes_nothing : (after_0f : Bool) → completes_pattern insn after_0f ≡ false
  completes_nothing after_0f = false_from_ne_true (completes_pattern insn after_0f) (λ is.
      let both = and_parts (is_none insn.rex && (is_one_byte 0x01 insn.op && is_modrm 0xD4 insn.modrm)) after_0f is in
      let add = and_parts (is_none insn.rex) (is_one_byte 0x01 insn.op && is_modrm 0xD4 insn.modrm) both.0 in
      both_ways (is_modrm 0xD4 insn.modrm) no_modrm (and_parts (is_one_byte 0x01 insn.op) (is_modrm 0xD4 insn.modrm) add.1).1)

  -- nor does it hold the bytes of VMFUNC
  holds_nothing : HasNoPattern (spelling insn)
  holds_nothing place stands =
      let past : length (spelling insn) ≤ place + 2 → get_or (spelling insn) (place + 2) 0 ≡ 0 =
      get_or_past (spelling insn) (place + 2) 0 in
      let within : place + 2 < length (spelling insn) = grind (arith, stands.2) in
      none (place + 2, within, get_or_default (spelling insn) (place + 2) 0xD4 0 within ∙ stands.2)

pub kept : (insn : Insn) (at slot : ℕ) (after_0f : Bool) → list_any (λ one. one == 0xD4) (spelling insn) ≡ false
    → form_of insn at slot after_0f ≡ form.Keep
unfolding form_of replacement
kept insn at slot after_0f none =
    let no_byte = absent (spelling insn) 0xD4 none in
    rw (
      no_vmfunc insn no_byte,
      completes_nothing insn no_byte after_0f,
      none_held (spelling insn) (holds_nothing insn no_byte),
    ) refl
