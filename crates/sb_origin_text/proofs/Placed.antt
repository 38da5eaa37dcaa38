-- Each address of a rewritten text and of its area lies where its position says.
use Rattle.std.proofs.Common.{◌≡◌, ◌∙◌, sym, ap, subst, ℕ, ◌+◌, ◌-◌, ◌<◌, ◌≤◌, Bool, false, List, [], ◌∷◌, ◌++◌, length, replicate, Some, refl, arith, append_assoc, length-append}
use Rattle.std.specs.Prelude.{not, if◌then◌else◌}
use Rattle.std.proofs.Math.Path.{fun_ext}
use Rattle.std.proofs.lemmas.List.{append-nil}
use Rattle.std.proofs.lemmas.Bool.{cond-false, cond_both}
use Rattle.sb_insn.specs.declared.insn.Insn.{Insn}
use Rattle.sb_insn.specs.declared.registers.Regs.{Regs}
use Rattle.sb_insn.specs.Spelling.{spelling}
use Rattle.sb_insn.specs.Grammar.{IsValid}
use Rattle.sb_exec.specs.Row.{Row}
use Rattle.sb_exec.specs.Rows.{row_of}
use Rattle.sb_forms.specs.declared.slots.Site.{Site}
use Rattle.sb_forms.specs.Answers.{IsSite, HasRoom, area_end}
use Rattle.sb_forms.specs.Registers.{first_helper, second_helper}
use Rattle.sb_forms.specs.Mains.{behind_main}
use Rattle.sb_forms.specs.Pieces.{first_saved, second_saved, restore, jump_insn}
use Rattle.sb_forms.specs.Places.{HasForm}
use Rattle.sb_forms.specs.Table.{Replacement, Keep, InPlace, Moved, Unmovable, spelled_bytes, is_vmfunc, replacement, bytes_of, site_of, jump_form, wide_constant_form, address_and_constant_form, address_form, constant_form, held_form, completes_pattern, nop, add_from_rm}
use Rattle.sb_forms.specs.Holding.{holds_pattern}
use Rattle.sb_forms.proofs.ByTable.{TableCases, by_table}
use Rattle.sb_decode.proofs.Exact.{some_spelling}
use Rattle.sb_rewrite.specs.Placing.{slot_bytes}
use Rattle.sb_rewrite.specs.RewrittenText.{text_bytes_by}
use Rattle.sb_original.specs.Going.{passing_row, original_row}
use Rattle.sb_origin_run.specs.Machine.{Code}
use Rattle.sb_origin_run.specs.Position.{Position, Same, Changed, Entry, AtOnce, Nowhere, HasNext, behind}
use Rattle.sb_origin_run.specs.Text.{IsReplaced, IsPlaced}
use Rattle.sb_forms.specs.Valid.{AreValid}
use Rattle.sb_origin_text.specs.Positions.{slot_of, post_position, in_place, in_slot, slot_size}
use Rattle.sb_origin_text.specs.Codes.{HasBytes}
use Rattle.sb_forms.proofs.ValidPieces.{jump_valid}
use Rattle.sb_origin_text.proofs.Spelled.{first_code, code_behind}
use Rattle.sb_origin_text.proofs.Slots.{elsewhere, by_address, behind_is, AgreesPost, post_first, post_placed, pre_first, HasLast, pre_placed}

-- ---- what the table gives

-- VMFUNC is never kept
kept_other : (insn : Insn) (site : Site) (after_0f : Bool) → replacement insn site after_0f ≡ Keep → is_vmfunc insn.op ≡ false
unfolding replacement
kept_other insn site after_0f =
    cond_both (is_vmfunc insn.op) (InPlace (nop ∷ nop ∷ nop ∷ []))
    (if completes_pattern insn after_0f then InPlace (add_from_rm ∷ [])
    else if not (holds_pattern (spelling insn)) then Keep else held_form insn site)
    (λ (form : Replacement). form ≡ Keep → is_vmfunc insn.op ≡ false) (λ e is. absurd cc) (λ other _. other)

-- a slot has an instruction behind main
abbrev pub HasPost : Replacement → Type 0
HasPost Keep = Unit {0}
HasPost (InPlace mains) = Unit {0}
HasPost (Moved pre main post) = HasLast post
HasPost Unmovable = Unit {0}

last_append : (insns : List Insn) (insn : Insn) → HasLast (insns ++ insn ∷ [])
last_append [] insn = tt
last_append (first ∷ insns) insn = tt

post_cases : (insn : Insn) (site : Site) → TableCases HasPost insn site
unfolding jump_form wide_constant_form address_and_constant_form address_form constant_form
post_cases insn site = record {
  vmfunc = λ is. tt;
  completes = λ is. tt;
  keep = λ none. tt;
  exchange = λ held e. tt;
  displace = λ held e. tt;
  unmovable = tt;
  through = λ instruction known memory jumps. tt;
  wide = λ instruction value known is. tt;
  both = λ instruction value known is memory.
      let helper = first_helper instruction.form insn in
      let second = second_helper instruction.form insn in
      last_append
      (behind_main instruction.mnemonic insn second ++ restore helper first_saved ∷ restore second second_saved ∷ []) _;
  alone = λ instruction value known is none.
      let helper = first_helper instruction.form insn in
      last_append (behind_main instruction.mnemonic insn helper ++ restore helper first_saved ∷ []) _;
  memory = λ instruction known none. tt;
}

pub has_post : (insn : Insn) (site : Site) (after_0f : Bool) → IsValid insn → HasPost (replacement insn site after_0f)
has_post insn site after_0f valid = by_table HasPost insn site after_0f valid (post_cases insn site)

-- an instruction other than VMFUNC does in the original code what its row says
own_row : (insn : Insn) → is_vmfunc insn.op ≡ false → original_row insn ≡ row_of insn
own_row insn other = fun_ext (λ regs. cond-false (is_vmfunc insn.op) (passing_row insn regs) (row_of insn regs) other)

-- ---- one instruction

-- what is known of an instruction of the text at an address, with the next slot
pub record IsOne (target source : Code) (place : ℕ → Position) (insn : Insn) (at slot : ℕ) (after_0f : Bool) (form : Replacement)
    (text_rest area_rest : List ℕ) : Type 0 where
  pub made : replacement insn (site_of insn at slot) after_0f ≡ form
  pub valid : IsValid insn
  pub has_form : HasForm insn
  pub site : IsSite (site_of insn at slot)
  pub room : HasRoom insn (bytes_of form)
  pub parts : AreValid form
  pub post : HasPost form
  pub original : source at ≡ Some (λ regs. original_row insn regs)
  pub text : HasBytes row_of at
      (text_bytes_by (bytes_of form) (record { insn = insn; at = at; slot = slot; form = bytes_of form })
      ++ text_rest) target
  pub area : HasBytes row_of slot (slot_bytes (bytes_of form) ++ area_rest) target
  pub end : slot + slot_size form ≤ area_end
  pub in_text : (address : ℕ) → at ≤ address → address < at + length (spelling insn)
      → place address ≡ in_place form insn at slot address
  pub in_area : (address : ℕ) → slot ≤ address → address < slot + slot_size form → place address
      ≡ in_slot form insn at slot address

abbrev replaced : (target source : Code) (place : ℕ → Position) (insn : Insn) (at slot : ℕ) (after_0f : Bool) (form : Replacement)
    (text_rest area_rest : List ℕ) → IsOne target source place insn at slot after_0f form text_rest area_rest
    → IsReplaced at (λ regs. original_row insn regs) form
replaced target source place insn at slot after_0f form text_rest area_rest one = record {
  insn = insn;
  site = site_of insn at slot;
  after_0f = after_0f;
  row_is = refl;
  valid = one.valid;
  has_form = one.has_form;
  place = one.site;
  next = refl;
  made = one.made;
}

-- where it stood
pub text_one : (target source : Code) (place : ℕ → Position) (insn : Insn) (at slot : ℕ) (after_0f : Bool) (form : Replacement)
    (text_rest area_rest : List ℕ) → IsOne target source place insn at slot after_0f form text_rest area_rest
    → (address : ℕ) → IsPlaced target source place address (in_place form insn at slot address)
text_one target source place insn at slot after_0f Keep text_rest area_rest one address =
    by_address (IsPlaced target source place address) address at Same Nowhere
    (λ same.
    ap source same
    ∙ (one.original
    ∙ (ap (λ (row : Regs → Row). Some row) (own_row insn (kept_other insn (site_of insn at slot) after_0f one.made))
    ∙ (sym (first_code row_of at insn text_rest target one.valid one.text) ∙ ap target (sym same))))) tt
text_one target source place insn at slot after_0f (InPlace []) text_rest area_rest one address = tt
text_one target source place insn at slot after_0f (InPlace (main ∷ [])) text_rest area_rest one address =
    let bytes : HasBytes row_of at (spelling main ++ text_rest) target =
    subst (λ list. HasBytes row_of at (list ++ text_rest) target) (append-nil (spelling main)) one.text in
    by_address (IsPlaced target source place address) address at Changed Nowhere
    (λ same. (
      (λ regs. original_row insn regs),
      main,
      ap source same ∙ one.original,
      ap target same ∙ first_code row_of at main text_rest target one.parts.0 bytes,
      subst (λ n. IsReplaced n (λ regs. original_row insn regs) (InPlace (main ∷ []))) (sym same)
          (replaced target source place insn at slot after_0f (InPlace (main ∷ [])) text_rest area_rest one),
    )) tt
text_one target source place insn at slot after_0f (InPlace (main ∷ next ∷ left)) text_rest area_rest one address =
    let own = slot_of insn at at [] main (next ∷ left) in
    let later = at + length (spelling main) in
    let size : length (spelling main) + length (spelled_bytes (next ∷ left)) ≡ length (spelling insn) =
    omega (arith, length-append (spelling main) (spelled_bytes (next ∷ left)), one.room) in
    let agrees : AgreesPost place own later (next ∷ left) =
    λ n low high.
    one.in_text n (omega arith) (omega (arith, high, size))
    ∙ elsewhere n at (AtOnce own) (post_position own later (next ∷ left) n) (λ e. omega (arith, low, e, some_spelling main)) in
    let bytes : HasBytes row_of at (spelling main ++ (spelled_bytes (next ∷ left) ++ text_rest)) target =
    subst (λ list. HasBytes row_of at list target)
    (append_assoc (spelling main) (spelled_bytes (next ∷ left)) text_rest) one.text in
    let low : at + length (spelling insn) ≤ 0x600010 = one.site.next in
    by_address (IsPlaced target source place address) address at (AtOnce own) (post_position own later (next ∷ left) address)
    (λ same. (
      ap source same ∙ one.original,
      ap target same ∙ first_code row_of at main (spelled_bytes (next ∷ left) ++ text_rest) target one.parts.0 bytes,
      subst (λ (n : ℕ). HasNext place own (next ∷ left) n)
          (sym (ap (λ (n : ℕ). behind n main) same ∙ behind_is at main (omega (arith, low, size))))
          (post_first place own later next left agrees),
      subst (λ n. IsReplaced n (λ regs. original_row insn regs) (InPlace (main ∷ next ∷ left))) (sym same)
          (replaced target source place insn at slot after_0f (InPlace (main ∷ next ∷ left)) text_rest area_rest one),
    ))
    (post_placed target source place own later (next ∷ left) text_rest one.parts.1 agrees
    (code_behind row_of at (spelling main) (spelled_bytes (next ∷ left) ++ text_rest) target bytes)
    (omega (arith, low, size)) address)
text_one target source place insn at slot after_0f (Moved pre main post) text_rest area_rest one address =
    let own = slot_of insn at slot pre main post in
    let jump = spelling (jump_insn at slot) in
    let nops : List ℕ = replicate (length (spelling insn) - 5) 0x90 in
    let bytes : HasBytes row_of at (jump ++ (nops ++ text_rest)) target =
    subst (λ list. HasBytes row_of at list target) (append_assoc jump nops text_rest) one.text in
    let low : at + length (spelling insn) ≤ 0x600010 = one.site.next in
    let valid : IsValid (jump_insn at slot) =
    jump_valid at slot (omega (arith, one.site.slot)) (omega (arith, low, one.room.0)) in
    let there : IsPlaced target source place at (Entry own) = (
      replaced target source place insn at slot after_0f (Moved pre main post) text_rest area_rest one,
      refl,
      refl,
      first_code row_of at (jump_insn at slot) (nops ++ text_rest) target valid bytes,
      pre_first place own [] slot pre one.in_area,
    ) in
    by_address (IsPlaced target source place address) address at (Entry own) Nowhere
    (λ same. subst (λ (n : ℕ). IsPlaced target source place n (Entry own)) (sym same) there) tt
text_one target source place insn at slot after_0f Unmovable text_rest area_rest one address = tt

-- and in its slot
pub slot_one : (target source : Code) (place : ℕ → Position) (insn : Insn) (at slot : ℕ) (after_0f : Bool) (form : Replacement)
    (text_rest area_rest : List ℕ) → IsOne target source place insn at slot after_0f form text_rest area_rest
    → (address : ℕ) → IsPlaced target source place address (in_slot form insn at slot address)
slot_one target source place insn at slot after_0f Keep text_rest area_rest one address = tt
slot_one target source place insn at slot after_0f (InPlace mains) text_rest area_rest one address = tt
slot_one target source place insn at slot after_0f (Moved pre main post) text_rest area_rest one address =
    pre_placed target source place (slot_of insn at slot pre main post) [] slot pre area_rest
    (record { original = one.original; main = one.parts.1; post = one.parts.2; last = one.post }) one.parts.0 refl one.in_area
    one.area (omega (arith, one.end)) address
slot_one target source place insn at slot after_0f Unmovable text_rest area_rest one address = tt
