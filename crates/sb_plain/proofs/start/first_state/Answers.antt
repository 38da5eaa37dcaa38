use Rattle.std.proofs.Common.{rules, sym, subst}
use Rattle.sb_trace.specs.Sound.{IsSound}
use Rattle.sb_plain.proofs.FirstSound.{loaded_sound}
use Rattle.sb_plain.proofs.Starting.{machine_started}
use Rattle.sb_plain.proofs.start.first_state.Goals as goal

pub returns-clause-first : goal.returns-clause-first
returns-clause-first c =
    machine_started c.args.loaded.now _ _ _ _ _ _ (search rules) (search rules) (search rules) (search rules) (search rules)
    (search rules)

pub returns-clause-sound : goal.returns-clause-sound
returns-clause-sound c =
    subst IsSound
    (sym (machine_started c.args.loaded.now _ _ _ _ _ _ (search rules) (search rules) (search rules) (search rules)
    (search rules) (search rules)))
    (loaded_sound c.args.loaded.now c.bundle-bundle.ensures.loadable)
