use Rattle.std.proofs.Common.{◌≡◌, false, sym, ap, ◌∙◌, ◌++◌, ◌∷◌, List, FitsSigned}
use Rattle.std.specs.Int.{w32}
use Rattle.std.proofs.Math.Facts.{to_z-of_z}
use Rattle.std.proofs.lemmas.Bool.{cond-false}
use Rattle.sb_insn.specs.declared.insn.Insn.{Insn}
use Rattle.sb_insn.specs.declared.insn.Disp.TheVariants as disp
use Rattle.sb_insn.specs.RegisterNumbers.{modrm_of}
use Rattle.sb_insn.specs.Fields.{is_from_next}
use Rattle.sb_forms.specs.Pieces.{load_address, lowered_displacement, add_step_back, address_from, address_at}
use Rattle.sb_forms.specs.Table.{spelled_bytes}
use Rattle.sb_forms.proofs.Spelled.{one_then}
use Rattle.sb_forms.proofs.pieces.put_address_at.Goals as goal

pub returns-else-is_from_next-clause-code : goal.returns-else-is_from_next-clause-code
unfolding address_at
returns-else-is_from_next-clause-code c =
    let fits : FitsSigned w32 c.args.distance = c.ranges.distance in
    let from_base : is_from_next (modrm_of c.args.insn.now) ≡ false =
    ap (λ m. is_from_next m) (sym c.modrm_of.ensures) ∙ sym c.is_from_next.ensures ∙ c.if-is_from_next.false in
    let first = load_address c.args.helper c.args.insn.now (disp.D32 (lowered_displacement c.args.distance)) in
    let rest = add_step_back c.args.helper c.args.distance in
    one_then
    c.args.code.now
    c.put.new.self
    c.put_raise.new.code
    first
    c.load_lowered_address.result
    rest
    (simp to_z-of_z at c.load_lowered_address.ensures.value)
    c.put.ensures.code
    (simp to_z-of_z at c.put_raise.ensures.code)
    ∙ ap
    (λ (insns : List Insn). c.args.code.now ++ spelled_bytes insns)
    (sym (cond-false (is_from_next (modrm_of c.args.insn.now)) (address_from c.args.helper c.args.next c.args.distance)
    (first ∷ rest) from_base))
