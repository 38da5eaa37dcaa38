use Rattle.std.proofs.Common.{◌∙◌, sym, subst, arith}
use Rattle.std.specs.List.{All, Contains}
use Rattle.std.proofs.lemmas.Bool.{false≢true}
use Rattle.std.proofs.lemmas.List.{take_all}
use Rattle.std.proofs.lemmas.List.Elements.{All-more}
use Rattle.sb_rewrite.proofs.Remembered.{no_jump, jump_at, jump_among}
use Rattle.sb_rewrite.proofs.target.check_jumps.Goals as goal

pub returns-then-not-contains : goal.returns-then-not-contains
returns-then-not-contains c =
    let jump = jump_at c.args.jumps.now c.loop-jump.jump-index in
    (jump, jump_among _ _ c.loop-jump-test.true, λ start. false≢true (sym c.if-not-contains.true ∙ c.contains.ensures.held.1 start))

pub loop-jump-preserved : goal.loop-jump-preserved
loop-jump-preserved c =
    All-more (λ one. Contains c.args.starts.now one.target) c.args.jumps.now c.loop-jump.jump-index no_jump c.loop-jump-test.true
    c.loop-jump.invariant (c.contains.ensures.held.0 c.if-not-contains.false)

pub returns : goal.returns
returns c =
    subst (λ jumps. All (λ jump. Contains c.args.starts.now jump.target) jumps)
    (take_all c.loop-jump.jump-index c.args.jumps.now (omega arith)) c.loop-jump.invariant
