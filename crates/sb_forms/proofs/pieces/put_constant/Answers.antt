use Rattle.std.proofs.Common.{FitsSigned}
use Rattle.std.specs.Int.{w32}
use Rattle.std.proofs.Math.Facts.{to_z-of_z}
use Rattle.sb_forms.specs.Pieces.{load_number, lowered_displacement, add_step_back, load_constant}
use Rattle.sb_forms.proofs.Spelled.{one_then}
use Rattle.sb_forms.proofs.pieces.put_constant.Goals as goal

pub returns-clause-code : goal.returns-clause-code
unfolding load_constant
returns-clause-code c =
    let fits : FitsSigned w32 c.args.value = c.ranges.value in
    one_then
    c.args.code.now
    c.put.new.self
    c.put_raise.new.code
    (load_number c.args.helper (lowered_displacement c.args.value))
    c.load_lowered.result
    (add_step_back c.args.helper c.args.value)
    (simp to_z-of_z at c.load_lowered.ensures.value)
    c.put.ensures.code
    (simp to_z-of_z at c.put_raise.ensures.code)
