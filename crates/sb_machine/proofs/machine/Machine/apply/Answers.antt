use Rattle.std.proofs.Common.{◌≡◌, ◌∙◌, sym, subst, ◌<◌, length}
use Rattle.sb_memory.specs.Physical.{frame_count}
use Rattle.sb_machine.specs.Machine.{Machine}
use Rattle.sb_machine.specs.OwnSteps.{AreSteps}
use Rattle.sb_machine.specs.Translations.{SameTranslations}
use Rattle.sb_machine.proofs.Applying.{IsBehind, behind_is, is_behind}
use Rattle.sb_machine.proofs.machine.Machine.apply.Goals as goal

-- what holds of the parts behind the steps
behind : (c : goal.After-apply) → IsBehind c.self.inside.parts c.args.core c.args.after.now c.apply.new.parts
behind c =
    let parts : Machine = c.self.inside.parts in
    let there = subst (λ (machine : Machine). c.args.core < length machine.cores) (sym c.self.view_is) c.requires.there in
    let made = c.requires.made in
    let steps = subst (λ (machine : Machine). AreSteps machine c.args.core made.0 c.args.after.now c.args.writes.now made.1)
    (sym c.self.view_is) made.2 in
    subst (IsBehind parts c.args.core c.args.after.now) (sym c.apply.ensures.applied)
    (is_behind c.own_steps_are_plain.ensures.steps parts (c.self.invariant.0, c.self.invariant.1) c.apply.ensures.physical c.args.core
    there c.args.after.now c.args.writes.now made.0 made.1 steps)

pub invariant_of-self : goal.invariant_of-self
invariant_of-self c = (behind c).stands

pub returns-clause-applied : goal.returns-clause-applied
returns-clause-applied c =
    let parts : Machine = c.self.inside.parts in
    let there = subst (λ (machine : Machine). c.args.core < length machine.cores) (sym c.self.view_is) c.requires.there in
    λ events new made.
    c.apply.ensures.applied
    ∙ behind_is c.own_steps_are_plain.ensures.steps parts (c.self.invariant.0, c.self.invariant.1) c.apply.ensures.physical c.args.core
    there c.args.after.now c.args.writes.now events new
    (subst (λ (machine : Machine). AreSteps machine c.args.core events c.args.after.now c.args.writes.now new)
    (sym c.self.view_is) made)

pub returns-clause-stands : goal.returns-clause-stands
returns-clause-stands c = (behind c).stands

pub returns-clause-translations : goal.returns-clause-translations
returns-clause-translations c =
    subst (λ (machine : Machine). SameTranslations machine c.apply.new.parts) c.self.view_is (behind c).translations

pub returns-clause-counts : goal.returns-clause-counts
returns-clause-counts c = (behind c).counts

pub returns-clause-frames : goal.returns-clause-frames
returns-clause-frames c =
    subst (λ (machine : Machine). frame_count c.apply.new.parts.memory ≡ frame_count machine.memory) c.self.view_is
    (behind c).frames

pub returns-clause-cores : goal.returns-clause-cores
returns-clause-cores c =
    subst (λ (machine : Machine). length c.apply.new.parts.cores ≡ length machine.cores) c.self.view_is (behind c).cores
