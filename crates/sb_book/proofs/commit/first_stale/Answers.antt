use Rattle.std.proofs.Common.{◌∙◌, ◌+◌, List, drop, subst, sym, take}
use Rattle.std.proofs.lemmas.List.{take_all}
use Rattle.std.proofs.lemmas.List.Elements.{All-more}
use Rattle.sb_machine.specs.declared.place.Seen.{Seen}
use Rattle.sb_book.specs.Commit.{AllHoldNow, HoldsNow}
use Rattle.sb_book.proofs.Holding.{around}
use Rattle.sb_book.proofs.commit.first_stale.Goals as goal

pub returns-then-now-seen-clause-some : goal.returns-then-now-seen-clause-some
returns-then-now-seen-clause-some c = record {
  before = take c.loop-seen.seen-index c.args.seens.now;
  behind = drop (c.loop-seen.seen-index + 1) c.args.seens.now;
  parts = around c.args.seens.now c.loop-seen.seen-index _ c.loop-seen-test.true;
  held = c.loop-seen.invariant;
  stands = c.value_now-now.ensures;
  differs = c.if-now-seen.true;
}

pub loop-seen-preserved : goal.loop-seen-preserved
loop-seen-preserved c =
    All-more (HoldsNow c.args.machine.now) c.args.seens.now c.loop-seen.seen-index _ c.loop-seen-test.true c.loop-seen.invariant
    (sym c.value_now-now.ensures ∙ c.if-now-seen.false)

pub returns-clause-none : goal.returns-clause-none
returns-clause-none c =
    subst (λ (seens : List Seen). AllHoldNow c.args.machine.now seens)
    (take_all c.loop-seen.seen-index c.args.seens.now c.loop-seen-test.false) c.loop-seen.invariant
