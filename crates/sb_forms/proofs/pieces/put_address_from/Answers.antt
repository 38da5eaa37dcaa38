use Rattle.std.proofs.Common.{◌+◌, [], ◌∷◌, pos, FitsSigned}
use Rattle.std.specs.Int.{w32}
use Rattle.std.proofs.Math.Facts.{to_z-of_z}
use Rattle.sb_forms.specs.Pieces.{load_number, add_number, lowered_displacement, lacking, address_from}
use Rattle.sb_forms.proofs.Spelled.{one, one_then}
use Rattle.sb_forms.proofs.pieces.put_address_from.Goals as goal

pub returns-clause-code : goal.returns-clause-code
unfolding address_from
returns-clause-code c =
    let fits : FitsSigned w32 c.args.distance = c.ranges.distance in
    let last = add_number c.args.helper (pos (c.args.next + lacking c.args.distance)) in
    one_then
    c.args.code.now
    c.put.new.self
    c.put-2.new.self
    (load_number c.args.helper (lowered_displacement c.args.distance))
    c.load_lowered.result
    (last ∷ [])
    (simp to_z-of_z at c.load_lowered.ensures.value)
    c.put.ensures.code
    (one c.put.new.self c.put-2.new.self last c.add_next.result (simp to_z-of_z at c.add_next.ensures.value) c.put-2.ensures.code)
