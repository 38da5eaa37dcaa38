use Rattle.std.proofs.Common.{List, ℕ, Bool, ap, sym, subst, ◌∙◌, ◌<◌, ◌++◌, ◌∷◌, [], ◌||◌}
use Rattle.std.specs.Prelude.{◌==◌}
use Rattle.std.specs.List.{AllByRecursion}
use Rattle.sb_slots.proofs.Addresses.{one_more}
use Rattle.sb_slots.proofs.starts.Starts.push.Goals as goal

pub returns : goal.returns
returns c =
    let above = subst (λ (starts : List ℕ). AllByRecursion (λ start. start < c.args.at) starts) (sym c.self.view_is)
    c.requires.above in
    one_more c.self.inside.bits.items c.set_bit.new.words.items c.args.at above (λ n.
    c.set_bit.ensures n ∙ ap (λ (test : Bool). (c.args.at == n) || test) (c.in_ok-make_room.ensures.kept n))
    ∙ ap (λ (starts : List ℕ). starts ++ c.args.at ∷ []) c.self.view_is
