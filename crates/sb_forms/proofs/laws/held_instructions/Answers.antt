use Rattle.sb_forms.proofs.Foreseen.{held_foreseen}
use Rattle.sb_forms.proofs.laws.held_instructions.Goals as goal

pub returns : goal.returns
returns c = held_foreseen
