-- An instruction with no byte D4 stands in its own place.
use Rattle.std.proofs.Common.{◌≡◌, ◌+◌, List, ℕ, false, length, sym, ◌∙◌, subst}
use Rattle.std.specs.Prelude.{◌==◌}
use Rattle.std.specs.List.{list_any}
use Rattle.sb_forms.specs.declared.answer.Form.{Form}
use Rattle.sb_rewrite.specs.Placing.{area_address, is_after_0f}
use Rattle.sb_rewrite.specs.RewrittenText.{RewrittenText}
use Rattle.sb_rewrite.specs.Turns.{keep, with_start, next_place, Puts}
use Rattle.sb_rewrite.proofs.Kept.{kept}
use Rattle.sb_rewrite.proofs.rewriting.put_text_insn.Goals as goal

pub returns-else-contains : goal.returns-else-contains
returns-else-contains c =
    let draft = c.args.draft.now in
    let text_insn = c.args.text_insn.now in
    let none : list_any (λ one. one == 0xD4) text_insn.bytes.now ≡ false = sym c.contains.ensures.value ∙ c.if-contains.false in
    let is_kept = kept text_insn.insn text_insn.at (area_address + length draft.area) (is_after_0f c.args.text.now text_insn.at)
    (subst (λ (bytes : List ℕ). list_any (λ one. one == 0xD4) bytes ≡ false) c.requires.text_insn.bytes none) in
    let puts =
    subst (λ (old : RewrittenText). Puts old c.keep.new.self (next_place old text_insn.insn text_insn.at keep) c.keep.result)
    c.in_ok-start.ensures c.keep.ensures in
    subst (λ (form : Form). Puts (with_start draft text_insn.at) c.keep.new.self
    (next_place draft text_insn.insn text_insn.at form) c.keep.result) (sym is_kept) puts
