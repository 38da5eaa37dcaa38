use Rattle.sb_forms.proofs.Where.{at_modrm_only, in_immediate, not_in_jumps}
use Rattle.sb_forms.proofs.Foreseen.{at_least_five}
use Rattle.sb_forms.proofs.laws.pattern_places.Goals as goal

pub returns-clause-at_modrm : goal.returns-clause-at_modrm
returns-clause-at_modrm c = at_modrm_only

pub returns-clause-at_least_five : goal.returns-clause-at_least_five
returns-clause-at_least_five c = at_least_five

pub returns-clause-in_immediate : goal.returns-clause-in_immediate
returns-clause-in_immediate c = in_immediate

pub returns-clause-not_in_jumps : goal.returns-clause-not_in_jumps
returns-clause-not_in_jumps c = not_in_jumps
