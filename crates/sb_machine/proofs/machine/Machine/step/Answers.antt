use Rattle.std.proofs.Common.{◌≡◌, sym, subst, ◌<◌, length}
use Rattle.sb_memory.specs.Physical.{frame_count}
use Rattle.sb_machine.specs.Counts.{CountsLine}
use Rattle.sb_machine.specs.Landing.{LeavesCores}
use Rattle.sb_machine.specs.Laws.{Follows}
use Rattle.sb_machine.specs.Machine.{Machine}
use Rattle.sb_machine.specs.StandsFor.{IsMachineOf}
use Rattle.sb_machine.specs.Translations.{KeepsTranslations}
use Rattle.sb_machine.proofs.Apart.{leaves_cores}
use Rattle.sb_machine.proofs.Counting.{step_counts, step_cores, step_frames}
use Rattle.sb_machine.proofs.LandingRegisters.{have_registers}
use Rattle.sb_machine.proofs.Marks.{translations_with_mark, apart_with_mark}
use Rattle.sb_machine.proofs.Translated.{steps_keep_translations}
use Rattle.sb_machine.proofs.machine.Machine.step.Goals as goal

-- the core is there
core_there : (c : goal.After-step-event) → c.args.core < length c.self.inside.parts.cores
core_there c = subst (λ (machine : Machine). c.args.core < length machine.cores) (sym c.self.view_is) c.requires

-- what follows without the mark, and with it
raw : (c : goal.After-step-event) → Follows c.step-event.new.parts c.self.invariant.0 c.args.core c.step-event.ensures.0
raw c =
    c.steps_are_plain.ensures.steps c.self.inside.parts c.args.core c.step-event.ensures.0 c.step-event.new.parts
    c.self.invariant.0 (core_there c) c.self.invariant.1 c.step-event.ensures.1

pub invariant_of-self : goal.invariant_of-self
invariant_of-self c = ((raw c).next, (raw c).stands)

pub returns-clause-plain : goal.returns-clause-plain
returns-clause-plain c =
    λ state is.
    c.steps_are_plain.ensures.marked c.self.inside.parts c.args.core c.step-event.result c.step-event.new.parts state (core_there c)
    (subst (λ (machine : Machine). IsMachineOf machine state) (sym c.self.view_is) is) c.step-event.ensures

pub returns-clause-stands : goal.returns-clause-stands
returns-clause-stands c = ((raw c).next, (raw c).stands)

pub returns-clause-counts : goal.returns-clause-counts
returns-clause-counts c =
    subst (λ (machine : Machine). CountsLine machine c.args.core c.step-event.new.parts) c.self.view_is
    (step_counts c.self.inside.parts c.args.core c.step-event.ensures.0 c.step-event.new.parts c.step-event.ensures.1 (core_there c))

pub returns-clause-cores : goal.returns-clause-cores
returns-clause-cores c =
    subst (λ (machine : Machine). length c.step-event.new.parts.cores ≡ length machine.cores) c.self.view_is
    (step_cores c.self.inside.parts c.args.core c.step-event.ensures.0 c.step-event.new.parts c.step-event.ensures.1)

pub returns-clause-frames : goal.returns-clause-frames
returns-clause-frames c =
    subst (λ (machine : Machine). frame_count c.step-event.new.parts.memory ≡ frame_count machine.memory) c.self.view_is
    (step_frames c.self.inside.parts c.args.core c.step-event.ensures.0 c.step-event.new.parts c.step-event.ensures.1)

pub returns-clause-translations : goal.returns-clause-translations
returns-clause-translations c =
    let parts = c.self.inside.parts in
    let made = c.step-event.ensures in
    subst (λ (machine : Machine). KeepsTranslations c.step-event.result machine c.step-event.new.parts) c.self.view_is
    (translations_with_mark parts c.args.core made.0 c.step-event.result c.step-event.new.parts made.2
    (steps_keep_translations parts c.args.core made.0 c.step-event.new.parts c.self.invariant.0 (core_there c) c.self.invariant.1
    made.1))

pub returns-clause-landing : goal.returns-clause-landing
returns-clause-landing c = have_registers c.step-event.new.parts (raw c).next (raw c).stands

pub returns-clause-apart : goal.returns-clause-apart
returns-clause-apart c =
    let parts = c.self.inside.parts in
    let made = c.step-event.ensures in
    subst (λ (machine : Machine). LeavesCores c.step-event.result c.args.core machine c.step-event.new.parts) c.self.view_is
    (apart_with_mark parts c.args.core made.0 c.step-event.result c.step-event.new.parts made.2
    (leaves_cores parts c.args.core made.0 c.step-event.new.parts c.self.invariant.0 (core_there c) c.self.invariant.1 made.1
    (raw c)))
