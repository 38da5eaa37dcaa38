use Rattle.std.proofs.Common.{◌≡◌, ◌∙◌, Some, arith, rules, sym}
use Rattle.sb_nested.specs.View.{view}
use Rattle.sb_copy_bus.specs.MadeWalk.{IsMade}
use Rattle.sb_copy_bus.proofs.Again.{behind_again, behind_inside, behind_leads, behind_offset, last_made}
use Rattle.sb_copy_bus.proofs.walk.place.Goals as goal

pub returns-clause-found : goal.returns-clause-found
returns-clause-found c =
    let made : IsMade (view c.args.part.now.memory c.args.eptp c.args.cr3) c.args.part.now.noted c.in-Some.walk =
    c.requires.made c.in-Some.walk (search rules) in
    behind_leads (view c.args.part.now.memory c.args.eptp c.args.cr3) c.args.part.now.noted
    c.in-Some.walk c.args.access c.args.at.0 c.in-Some-place_behind.place made c.in-Some-place_behind.ensures

pub returns-clause-inside : goal.returns-clause-inside
returns-clause-inside c =
    let made : IsMade (view c.args.part.now.memory c.args.eptp c.args.cr3) c.args.part.now.noted c.in-Some.walk =
    c.requires.made c.in-Some.walk (search rules) in
    behind_inside (view c.args.part.now.memory c.args.eptp c.args.cr3) c.args.part.now.noted
    c.in-Some.walk c.args.access c.args.at.0 c.in-Some-place_behind.place.0 made c.in-Some-place_behind.ensures

pub returns-clause-offset : goal.returns-clause-offset
returns-clause-offset c =
    let made : IsMade (view c.args.part.now.memory c.args.eptp c.args.cr3) c.args.part.now.noted c.in-Some.walk =
    c.requires.made c.in-Some.walk (search rules) in
    behind_offset (view c.args.part.now.memory c.args.eptp c.args.cr3) c.args.part.now.noted
    c.in-Some.walk c.args.access c.args.at.0 c.in-Some-place_behind.place.0 made c.in-Some-place_behind.ensures

pub returns-clause-account : goal.returns-clause-account
returns-clause-account c =
    let made : IsMade (view c.args.part.now.memory c.args.eptp c.args.cr3) c.args.part.now.noted c.in-Some.walk =
    c.requires.made c.in-Some.walk (search rules) in
    behind_again (view c.args.part.now.memory c.args.eptp c.args.cr3) c.args.part.now.noted
    c.in-Some.walk c.args.access c.args.at.0 c.in-Some-place_behind.place.0 made c.in-Some-place_behind.ensures

pub place_behind-requires : goal.place_behind-requires
place_behind-requires c =
    let made : IsMade (view c.args.part.now.memory c.args.eptp c.args.cr3) c.args.part.now.noted c.in-Some.walk =
    c.requires.made c.in-Some.walk (search rules) in
    let inside = made.inside in
    let few = c.frames.ensures.sound.size.count in
    omega (arith, inside, few)

pub returns-clause-made : goal.returns-clause-made
returns-clause-made c =
    let was : c.args.made.now ≡ Some c.in-Some.walk = search rules in
    λ walk last. c.requires.made walk (was ∙ last)

pub returns-in-Ok-clause-made : goal.returns-in-Ok-clause-made
returns-in-Ok-clause-made c =
    last_made (view c.args.part.now.memory c.args.eptp c.args.cr3) c.args.part.now.noted c.translate.new.phys.noted
    (record { at = c.args.at; access = c.args.access; place = c.in-Ok.place }) (sym c.in-Ok.ensures.answer) c.in-Ok.ensures.inside
    c.in-Ok.ensures.account
