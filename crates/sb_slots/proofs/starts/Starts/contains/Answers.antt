use Rattle.std.proofs.Common.{List, ℕ, ap, ◌∙◌}
use Rattle.sb_list.specs.Lists.{is_listed}
use Rattle.sb_slots.specs.StartBits.{has_bit}
use Rattle.sb_slots.proofs.Addresses.{bit_tells}
use Rattle.sb_slots.proofs.Same.{listed_tells}
use Rattle.sb_slots.proofs.starts.Starts.contains.Goals as goal

pub returns-clause-listed : goal.returns-clause-listed
returns-clause-listed c =
    c.has_bit.ensures
    ∙ ap (λ (words : List ℕ). has_bit words c.args.at) c.deref.ensures.value
    ∙ bit_tells c.self.inside.bits.items c.args.at
    ∙ ap (λ (starts : List ℕ). is_listed starts c.args.at) c.self.view_is

pub returns-clause-held : goal.returns-clause-held
returns-clause-held c = listed_tells c.has_bit.result c.args.self.now c.args.at (returns-clause-listed c)
