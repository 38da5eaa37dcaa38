-- Every form is small, over the definitions alone.
use Rattle.std.proofs.Common.{◌≡◌, ℕ, ◌+◌, ◌%◌, ◌≤◌, Bool, true, false, List, [], ◌∷◌, ◌++◌, length, Some, refl, sym, ap, ◌∙◌, arith, length-append, ℤ, pos}
use Rattle.std.specs.Int.{w8, cast_unsigned}
use Rattle.std.proofs.lemmas.Bool.{cond_both, both_ways, true_from_ne_false}
use Rattle.std.proofs.lemmas.Grind.{flat_map-append}
use Rattle.sb_insn.specs.declared.insn.Insn.{Insn}
use Rattle.sb_insn.specs.declared.insn.Disp.{Disp}
use Rattle.sb_insn.specs.declared.insn.Disp.TheVariants as disp
use Rattle.sb_insn.specs.declared.insn.Imm.{Imm}
use Rattle.sb_insn.specs.declared.insn.Imm.TheVariants as imm
use Rattle.sb_insn.specs.declared.opcode_map.Mnemonic.{Mnemonic}
use Rattle.sb_insn.specs.declared.opcode_map.Mnemonic.TheVariants as mnemonic
use Rattle.sb_insn.specs.declared.opcode_map.OperandForm.{OperandForm}
use Rattle.sb_insn.specs.declared.opcode_map.Instruction.{Instruction}
use Rattle.sb_insn.specs.Spelling.{imm_bytes, spelling}
use Rattle.sb_insn.specs.Lookup.{instruction_of}
use Rattle.sb_insn.specs.Grammar.{IsValid}
use Rattle.sb_forms.specs.declared.helper.Helper.{Helper}
use Rattle.sb_forms.specs.declared.slots.Site.{Site}
use Rattle.sb_forms.specs.Holding.{holds_pattern}
use Rattle.sb_forms.specs.Registers.{first_helper, second_helper}
use Rattle.sb_forms.specs.Pieces.{first_saved, second_saved, scratch_word, upper_half, save, restore, save_half, load_number, add_number, is_lowered, lowered_displacement, lacking, add_step_back, load_constant, low_half, high_half, without_sib_0f, load_address, address_from, address_at, address_by, load_address_of_operand, jump_insn, jump_through}
use Rattle.sb_insn.specs.RegisterNumbers.{modrm_of}
use Rattle.sb_forms.specs.Mains.{at_helper, with_displacement, with_helper, with_constant, on_register, behind_main, move_product, load_target, load_word}
use Rattle.sb_insn.specs.Fields.{has_memory, is_from_next}
use Rattle.sb_forms.specs.Table.{spelled_bytes, move_outcome, bytes_of, begins_at_modrm, site_of, form_of, jump_form, wide_constant_form, address_and_constant_form, address_form, constant_form}
use Rattle.sb_forms.specs.Answers.{IsSmall}
use Rattle.sb_insn.proofs.Longest.{one_field, any_disp}
use Rattle.sb_forms.proofs.Lengths.{spelling_length, with_helper_9, constant_main_8, alone_5, displaced_9}
use Rattle.sb_scan.proofs.Held.{nothing_holds, byte_holds}
use Rattle.sb_forms.proofs.Behind.{imm_holds}
use Rattle.sb_forms.proofs.ByTable.{IsHeld, TableCases, by_table}
use Rattle.sb_forms.proofs.Maps.{short_5, imul_unlocked}
use Rattle.sb_forms.proofs.Lengths.{product_3}

-- ---- one piece

save_8 : (helper : Helper) (at : ℤ) → length (spelling (save helper at)) ≡ 8
unfolding save
save_8 helper at = refl

restore_8 : (helper : Helper) (at : ℤ) → length (spelling (restore helper at)) ≡ 8
unfolding restore
restore_8 helper at = refl

half_7 : (helper : Helper) (at : ℤ) → length (spelling (save_half helper at)) ≡ 7
unfolding save_half
half_7 helper at = refl

number_7 : (helper : Helper) (value : ℤ) → length (spelling (load_number helper value)) ≡ 7
unfolding load_number
number_7 helper value = refl

sum_7 : (helper : Helper) (amount : ℤ) → length (spelling (add_number helper amount)) ≡ 7
unfolding add_number
sum_7 helper amount = refl

-- a jump by a distance has five bytes
pub jump_5 : (from to : ℕ) → length (spelling (jump_insn from to)) ≡ 5
unfolding jump_insn
jump_5 from to = refl

through_7 : (at : ℤ) → length (spelling (jump_through at)) ≡ 7
unfolding jump_through
through_7 at = refl

target_4 : (helper : Helper) → length (spelling (load_target helper)) ≡ 4
unfolding load_target
target_4 helper = refl

pub word_8 : (insn : Insn) → length (spelling (load_word insn)) ≡ 8
unfolding load_word
word_8 insn = refl

lea_8 : (helper : Helper) (insn : Insn) (d : Disp) → length (spelling (load_address helper insn d)) ≤ 8
unfolding load_address
lea_8 helper insn d = omega (arith, spelling_length (load_address helper insn d), one_field insn.sib, any_disp d)

-- ---- pieces one after another

two_lists : (one two : List Insn) → length (spelled_bytes (one ++ two)) ≡ length (spelled_bytes one) + length (spelled_bytes two)
two_lists one two =
    ap (λ (bytes : List ℕ). length bytes) (flat_map-append spelling one two)
    ∙ length-append (spelled_bytes one) (spelled_bytes two)

one_more : (insn : Insn) (insns : List Insn)
    → length (spelled_bytes (insn ∷ insns)) ≡ length (spelling insn) + length (spelled_bytes insns)
one_more insn insns = length-append (spelling insn) (spelled_bytes insns)

raise_7 : (helper : Helper) (value : ℤ) → length (spelled_bytes (add_step_back helper value)) ≤ 7
unfolding add_step_back
raise_7 helper value =
    cond_both (is_lowered value) (add_number helper (pos 0x100) ∷ []) [] (λ insns. length (spelled_bytes insns) ≤ 7)
    (λ _. omega (arith, one_more (add_number helper (pos 0x100)) [], sum_7 helper (pos 0x100))) (λ _. omega arith)

constant_14 : (helper : Helper) (value : ℤ) → length (spelled_bytes (load_constant helper value)) ≤ 14
unfolding load_constant
constant_14 helper value =
    omega (
      arith,
      one_more (load_number helper (lowered_displacement value)) (add_step_back helper value),
      number_7 helper (lowered_displacement value),
      raise_7 helper value,
    )

at_15 : (helper : Helper) (insn : Insn) (next : ℕ) (distance : ℤ)
    → length (spelled_bytes (address_at helper insn next distance)) ≤ 15
unfolding address_at address_from
at_15 helper insn next distance =
    cond_both (is_from_next (modrm_of insn))
    (load_number helper (lowered_displacement distance) ∷ add_number helper (pos (next + lacking distance)) ∷ [])
    (load_address helper insn (disp.D32 (lowered_displacement distance)) ∷ add_step_back helper distance)
    (λ insns. length (spelled_bytes insns) ≤ 15)
    (λ _. omega (
      arith,
      one_more (load_number helper (lowered_displacement distance)) (add_number helper (pos (next + lacking distance)) ∷ []),
      one_more (add_number helper (pos (next + lacking distance))) [],
      number_7 helper (lowered_displacement distance),
      sum_7 helper (pos (next + lacking distance)),
    ))
    (λ _. omega (
      arith,
      one_more (load_address helper insn (disp.D32 (lowered_displacement distance))) (add_step_back helper distance),
      lea_8 helper insn (disp.D32 (lowered_displacement distance)),
      raise_7 helper distance,
    ))

by_15 : (helper : Helper) (insn : Insn) (next : ℕ) (d : Disp) → length (spelled_bytes (address_by helper insn next d)) ≤ 15
by_15 helper insn next (disp.D32 distance) = at_15 helper insn next distance
by_15 helper insn next disp.None = omega (arith, one_more (load_address helper insn disp.None) [], lea_8 helper insn disp.None)
by_15 helper insn next (disp.D8 value) =
    omega (arith, one_more (load_address helper insn (disp.D8 value)) [], lea_8 helper insn (disp.D8 value))

address_15 : (helper : Helper) (insn : Insn) (next : ℕ) → length (spelled_bytes (load_address_of_operand helper insn next)) ≤ 15
unfolding load_address_of_operand
address_15 helper insn next = by_15 helper (without_sib_0f insn) next insn.disp

-- ---- the forms

-- no immediate of four or eight bytes
abbrev pub not_i32 : Imm → Bool
not_i32 imm.None = true
not_i32 (imm.I8 value) = true
not_i32 _ = false

-- a slot that goes back
moved_small : (site : Site) (pre : List Insn) (main : Insn) (post : List Insn) → length (spelled_bytes pre) ≤ 50
    → length (spelling main) ≤ 9 → length (spelled_bytes post) ≤ 19
    → length (spelled_bytes pre) + length (spelling main) + length (spelled_bytes post) ≤ 69
    → IsSmall (bytes_of (move_outcome site pre main post))
moved_small site pre main post a b c d =
    let from = site.slot + length (spelled_bytes pre) + length (spelling main) + length (spelled_bytes post) in
    let last = two_lists post (jump_insn from site.next ∷ []) in
    let one = one_more (jump_insn from site.next) [] in
    let five = jump_5 from site.next in
    record { before = a; work = b; behind = omega (arith, c, last, one, five); whole = omega (arith, d, last, one, five) }

behind_3 : (name : Mnemonic) (insn : Insn) (helper : Helper) → length (spelled_bytes (behind_main name insn helper)) ≤ 3
unfolding behind_main
behind_3 mnemonic.Imul insn helper = omega (arith, one_more (move_product insn helper) [], product_3 insn helper)
behind_3 _ insn helper = omega arith

on_5 : (name : Mnemonic) (kinds : OperandForm) (insn : Insn) (helper : Helper)
    → length (spelling (on_register name kinds insn helper)) ≤ 5
unfolding on_register
on_5 mnemonic.Push kinds insn helper = omega arith
on_5 name kinds insn helper = alone_5 name kinds insn helper

pub address_small : (instruction : Instruction) (insn : Insn) (site : Site) → IsValid insn → has_memory insn.modrm ≡ true
    → IsSmall (bytes_of (address_form instruction insn site))
unfolding address_form
address_small instruction insn site valid memory =
    let helper = first_helper instruction.form insn in
    let pre = one_more (save helper first_saved) (load_address_of_operand helper insn site.next) in
    let nine = with_helper_9 helper insn (short_5 insn valid memory) in
    moved_small site (save helper first_saved ∷ load_address_of_operand helper insn site.next) (with_helper helper insn)
    (restore helper first_saved ∷ [])
    (omega (arith, pre, save_8 helper first_saved, address_15 helper insn site.next)) nine
    (omega (arith, one_more (restore helper first_saved) [], restore_8 helper first_saved))
    (omega (
      arith,
      pre,
      save_8 helper first_saved,
      address_15 helper insn site.next,
      nine,
      one_more (restore helper first_saved) [],
      restore_8 helper first_saved,
    ))

pub constant_small : (instruction : Instruction) (insn : Insn) (site : Site) (value : ℤ)
    → IsSmall (bytes_of (constant_form instruction insn site value))
unfolding constant_form
constant_small instruction insn site value =
    let helper = first_helper instruction.form insn in
    let pre = one_more (save helper first_saved) (load_constant helper value) in
    let main = on_5 instruction.mnemonic instruction.form insn helper in
    let post = two_lists (behind_main instruction.mnemonic insn helper) (restore helper first_saved ∷ []) in
    let last = one_more (restore helper first_saved) [] in
    moved_small site (save helper first_saved ∷ load_constant helper value)
    (on_register instruction.mnemonic instruction.form insn helper)
    (behind_main instruction.mnemonic insn helper ++ restore helper first_saved ∷ [])
    (omega (arith, pre, save_8 helper first_saved, constant_14 helper value)) (omega (arith, main))
    (omega (arith, post, last, behind_3 instruction.mnemonic insn helper, restore_8 helper first_saved))
    (omega (
      arith,
      pre,
      save_8 helper first_saved,
      constant_14 helper value,
      main,
      post,
      last,
      behind_3 instruction.mnemonic insn helper,
      restore_8 helper first_saved,
    ))

pub both_small : (instruction : Instruction) (insn : Insn) (site : Site) (value : ℤ) → IsValid insn
    → instruction_of insn ≡ Some instruction → IsSmall (bytes_of (address_and_constant_form instruction insn site value))
unfolding address_and_constant_form
both_small instruction insn site value valid is =
    let helper = first_helper instruction.form insn in
    let second = second_helper instruction.form insn in
    let rest = load_address_of_operand helper insn site.next ++ load_constant second value in
    let pre = one_more (save helper first_saved) (save second second_saved ∷ rest) in
    let again = one_more (save second second_saved) rest in
    let whole = two_lists (load_address_of_operand helper insn site.next) (load_constant second value) in
    let main = constant_main_8 instruction.mnemonic insn helper second (λ imul. imul_unlocked insn instruction valid is imul) in
    let behind = behind_main instruction.mnemonic insn second in
    let three = behind_3 instruction.mnemonic insn second in
    let post = two_lists behind (restore helper first_saved ∷ restore second second_saved ∷ []) in
    let one = one_more (restore helper first_saved) (restore second second_saved ∷ []) in
    let two = one_more (restore second second_saved) [] in
    moved_small site (save helper first_saved ∷ save second second_saved ∷ rest)
    (with_constant instruction.mnemonic insn (at_helper helper) second)
    (behind ++ restore helper first_saved ∷ restore second second_saved ∷ [])
    (omega (
      arith,
      pre,
      again,
      whole,
      save_8 helper first_saved,
      save_8 second second_saved,
      address_15 helper insn site.next,
      constant_14 second value,
    )) (omega (arith, main))
    (omega (arith, post, one, two, three, restore_8 helper first_saved, restore_8 second second_saved))
    (omega (
      arith,
      pre,
      again,
      whole,
      save_8 helper first_saved,
      save_8 second second_saved,
      address_15 helper insn site.next,
      constant_14 second value,
      main,
      post,
      one,
      two,
      restore_8 helper first_saved,
      restore_8 second second_saved,
    ))

pub jump_small : (instruction : Instruction) (insn : Insn) (site : Site) → IsSmall (bytes_of (jump_form instruction insn site))
unfolding jump_form
jump_small instruction insn site =
    let helper = first_helper instruction.form insn in
    let pre = one_more (save helper first_saved) (load_address_of_operand helper insn site.next) in
    let one = one_more (save helper scratch_word) (restore helper first_saved ∷ jump_through scratch_word ∷ []) in
    let two = one_more (restore helper first_saved) (jump_through scratch_word ∷ []) in
    let three = one_more (jump_through scratch_word) [] in
    record {
      before = omega (arith, pre, save_8 helper first_saved, address_15 helper insn site.next);
      work = omega (arith, target_4 helper);
      behind = omega (arith, one, two, three, save_8 helper scratch_word, restore_8 helper first_saved, through_7 scratch_word);
      whole = omega (
        arith,
        pre,
        save_8 helper first_saved,
        address_15 helper insn site.next,
        target_4 helper,
        one,
        two,
        three,
        save_8 helper scratch_word,
        restore_8 helper first_saved,
        through_7 scratch_word,
      );
    }

pub wide_small : (instruction : Instruction) (insn : Insn) (site : Site) (value : ℤ)
    → IsSmall (bytes_of (wide_constant_form instruction insn site value))
unfolding wide_constant_form
wide_small instruction insn site value =
    let helper = first_helper instruction.form insn in
    let low = load_constant helper (low_half value) in
    let high = load_constant helper (high_half value) in
    let one = save helper first_saved ∷ low in
    let two = one ++ save_half helper scratch_word ∷ [] in
    let three = two ++ high in
    let a = one_more (save helper first_saved) low in
    let b = two_lists one (save_half helper scratch_word ∷ []) in
    let c = two_lists two high in
    let d = two_lists three (save_half helper upper_half ∷ []) in
    let e = one_more (save_half helper upper_half) [] in
    let f = one_more (save_half helper scratch_word) [] in
    let before : length (spelled_bytes (three ++ save_half helper upper_half ∷ [])) ≤ 50 =
    omega (
      arith,
      a,
      b,
      c,
      d,
      e,
      f,
      save_8 helper first_saved,
      constant_14 helper (low_half value),
      constant_14 helper (high_half value),
      half_7 helper scratch_word,
      half_7 helper upper_half,
    ) in
    moved_small site (three ++ save_half helper upper_half ∷ []) (load_word insn) (restore helper first_saved ∷ []) before
    (omega (arith, word_8 insn)) (omega (arith, one_more (restore helper first_saved) [], restore_8 helper first_saved))
    (omega (arith, before, word_8 insn, one_more (restore helper first_saved) [], restore_8 helper first_saved))

-- ---- every replacement

-- one that holds the pattern has a memory operand, or an immediate of four bytes at least
pub held_memory : (insn : Insn) → IsHeld insn → not_i32 insn.imm ≡ true → has_memory insn.modrm ≡ true
held_memory insn held none =
    true_from_ne_false (has_memory insn.modrm) (λ alone.
    both_ways (holds_pattern (imm_bytes insn.imm)) (short_holds insn.imm none) (sym (imm_holds insn held.valid held.other alone)
    ∙ held.held))
  where
    short_holds : (immediate : Imm) → not_i32 immediate ≡ true → holds_pattern (imm_bytes immediate) ≡ false
    short_holds imm.None e = nothing_holds
    short_holds (imm.I8 value) e = byte_holds (cast_unsigned w8 value % 256)
    short_holds (imm.I32 value) e = absurd cc
    short_holds (imm.I64 value) e = absurd cc

pub displaced_small : (insn : Insn) (site : Site) → IsValid insn → begins_at_modrm insn ≡ true
    → IsSmall (bytes_of (move_outcome site [] (with_displacement insn) []))
displaced_small insn site valid e = let nine = displaced_9 insn valid e in
    moved_small site [] (with_displacement insn) [] (omega arith) nine (omega arith) (omega (arith, nine))

-- one whose immediate does not hold the pattern has a memory operand
pub quiet_memory : (insn : Insn) → IsHeld insn → holds_pattern (imm_bytes insn.imm) ≡ false → has_memory insn.modrm ≡ true
quiet_memory insn held none =
    true_from_ne_false (has_memory insn.modrm) (λ alone.
    both_ways (holds_pattern (imm_bytes insn.imm)) none (sym (imm_holds insn held.valid held.other alone) ∙ held.held))

small_cases : (insn : Insn) (site : Site) → IsValid insn → TableCases (λ form. IsSmall (bytes_of form)) insn site
small_cases insn site valid = record {
  vmfunc = λ _. tt;
  completes = λ _. tt;
  keep = λ _. tt;
  exchange = λ held e. tt;
  displace = λ held e. displaced_small insn site valid e;
  unmovable = tt;
  through = λ instruction known memory jumps. jump_small instruction insn site;
  wide = λ instruction value known is. wide_small instruction insn site value;
  both = λ instruction value known is memory. both_small instruction insn site value valid known.listed;
  alone = λ instruction value known is alone. constant_small instruction insn site value;
  memory = λ instruction known none. address_small instruction insn site valid (quiet_memory insn known.held none);
}

-- each form of a valid instruction has a slot of 74 bytes at most
pub forms_small : (insn : Insn) (at slot : ℕ) (after_0f : Bool) → IsValid insn → IsSmall (form_of insn at slot after_0f)
unfolding form_of
forms_small insn at slot after_0f valid =
    by_table (λ form. IsSmall (bytes_of form)) insn (site_of insn at slot) after_0f valid
    (small_cases insn (site_of insn at slot) valid)
